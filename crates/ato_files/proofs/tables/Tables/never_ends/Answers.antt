use Rattle.std.proofs.Common.{◌≡◌, ◌<◌, Bool, true, false, not, refl, ap, arith, length, ◌∙◌}
use Rattle.ato_files.proofs.AncestorLemmas.{endless_is}
use Rattle.ato_files.proofs.EndingLemmas.{ends_read}
use Rattle.ato_files.proofs.tables.Tables.never_ends.Goals as goal

twice_not : (v : Bool) → not (not v) ≡ v
twice_not true = refl
twice_not false = refl

pub returns-in-Some : goal.returns-in-Some
returns-in-Some c =
    let t = c.args.self.now in
    let parents = c.requires.tables.parents in
    let count = parents.count in
    let h = c.requires.within in
    let within : c.args.block < length t.parents.now = omega arith in
    let read = c.in-Some.ensures.lookup in
    ap not (ends_read t.parents.now (length t.parents.now) c.args.block t.ends.now c.in-Some.ends.now c.in-Some.ends.now c.requires.tables.ends within read.1)
    ∙ twice_not _ ∙ endless_is t.files.now t.parents.now parents c.args.block
