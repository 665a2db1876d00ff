use Rattle.std.proofs.Common.{ℕ, ◌<◌, sym, ap, arith, length, get_or, ◌∙◌}
use Rattle.std.proofs.lemmas.Option.{none-some, same_Some}
use Rattle.std.proofs.lemmas.Result.{on_ok_weaker}
use Rattle.ato_files.specs.declared.block_places.BlockPlace.{BlockPlace}
use Rattle.ato_files.specs.declared.tables.Tables.{Tables}
use Rattle.ato_files.specs.Blocks.{BlockAt, blocks_of}
use Rattle.ato_files.specs.MemberLists.{members_in}
use Rattle.ato_files.specs.NameFaults.{block_faults}
use Rattle.ato_files.specs.Noted.{noted}
use Rattle.ato_files.specs.Tables.{AreTables, faults_in}
use Rattle.ato_files.proofs.BlockFaultLaws.{members_at}
use Rattle.ato_files.proofs.PlaceLemmas.{Here, here_read, length_places}
use Rattle.ato_files.proofs.name_faults.note_number.Goals as goal

abbrev first_place : BlockPlace
first_place = record { file = 0; item = 0 }

found : (t : Tables) (number : ℕ) → AreTables t → number < length (blocks_of t.files.now) → Here t.files.now number (get_or t.places.now number first_place)
found t number are h =
    let long = ap length are.places ∙ length_places t.files.now in
    here_read t.files.now t.places.now number first_place are.places (omega arith)

pub note_block-requires-clause-members : goal.note_block-requires-clause-members
note_block-requires-clause-members c =
    let files = c.args.tables.now.files.now in
    let there = found c.args.tables.now c.args.number c.requires.tables c.requires.within in
    ap (λ m. get_or m c.args.number c.index-tables-number.result) c.requires.tables.members
    ∙ members_at files c.args.number there.b c.index-tables-number.result there.at
    ∙ ap members_in (sym (same_Some c.in-Some.block.now there.b.block (c.in-Some.ensures ∙ there.there)))

pub returns-in-None : goal.returns-in-None
returns-in-None c = λ b at.
    let there = found c.args.tables.now c.args.number c.requires.tables c.requires.within in
    absurd (none-some there.b.block (c.in-None.ensures ∙ there.there))

pub returns-in-Some : goal.returns-in-Some
returns-in-Some c =
    let files = c.args.tables.now.files.now in
    let number = c.args.number in
    let there = found c.args.tables.now number c.requires.tables c.requires.within in
    on_ok_weaker c.note_block.result
    (λ h b at. h
    ∙ ap (λ (p : BlockPlace). noted c.args.least.now (faults_in files number p.file c.in-Some.block.now)) there.same
    ∙ ap (λ x. noted c.args.least.now (faults_in files number there.b.file x)) (same_Some c.in-Some.block.now there.b.block (c.in-Some.ensures ∙ there.there))
    ∙ ap (λ (x : BlockAt). noted c.args.least.now (block_faults files number x)) (same_Some there.b b (sym there.at ∙ at)))
    c.note_block.ensures
