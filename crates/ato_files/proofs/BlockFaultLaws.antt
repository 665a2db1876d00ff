-- The faults of blocks, one after another.
use Rattle.std.proofs.Common.{ap, sym, ◌∙◌, ◌+◌, get_or, inl, inr, arith}
use Rattle.std.specs.Prelude.{◌≡◌, ℕ, ◌<◌, List, [], ◌∷◌, ◌++◌, cond, map, Option, Some, None, length, take, slice_get}
use Rattle.std.specs.List.{flat_map}
use Rattle.std.specs.Option.{option_map}
use Rattle.std.proofs.lemmas.List.{take_more, map-append}
use Rattle.std.proofs.lemmas.Option.{slice_get_cases, slice_get-map, get_or_from_slice_get}
use Rattle.ato_base.specs.declared.faults.Fault.{Fault}
use Rattle.ato_base.specs.declared.faults.FaultKind.TheVariants as kinds
use Rattle.ato_ast.specs.declared.blocks.Block.{Block}
use Rattle.ato_files.specs.declared.program.SourceFile.{SourceFile}
use Rattle.ato_files.specs.declared.members.Members.{Members}
use Rattle.ato_files.specs.Blocks.{BlockAt, blocks_of, block_of}
use Rattle.ato_files.specs.Clashes.{clashing_of, declared_twice}
use Rattle.ato_files.specs.Faults.{fault}
use Rattle.ato_files.specs.Inherited.{all_members, block_members}
use Rattle.ato_files.specs.Lineages.{parent}
use Rattle.ato_files.specs.Lists.{numbered}
use Rattle.ato_files.specs.Members.{Decl, decls, pins, stmts_of}
use Rattle.ato_files.specs.MemberLists.{declared_of, members_in}
use Rattle.ato_files.specs.NameFaults.{clashing, is_component, is_interface, new_names, parent_faults, unknown, type_names, inherited, file_faults, block_faults, name_fault}
use Rattle.ato_files.specs.Noted.{noted}
use Rattle.ato_files.specs.Tables.{faults_in, kind_faults, made_faults, pin_fault}
use Rattle.ato_files.proofs.ClashLaws.{clashes_same}
use Rattle.ato_files.proofs.NotedLaws.{noted_append, noted_least}
use Rattle.ato_files.proofs.NumberedLemmas.{flat_numbered_more}

-- ---- a block

-- five lists of faults, the last two noted together
all_five : (kept a b c d : Option Fault) (p t s i m : List Fault) → a ≡ noted kept p → b ≡ noted a t → c ≡ noted b s → d ≡ noted c (i ++ m) → d ≡ noted kept (p ++ t ++ s ++ i ++ m)
all_five kept a b c d p t s i m e f g h =
    h ∙ noted_append c i m
    ∙ ap (λ z. noted (noted z i) m) (g ∙ ap (λ z. noted z s) (f ∙ ap (λ z. noted z t) e))
    ∙ sym (noted_append kept (p ++ t ++ s ++ i) m ∙ ap (λ z. noted z m) (noted_append kept (p ++ t ++ s) i ∙ ap (λ z. noted z i)
    (noted_append kept (p ++ t) s ∙ ap (λ z. noted z s) (noted_append kept p t))))

pub block_noted : (files : List SourceFile) (number file : ℕ) (block : Block) (members : Members) (kept a b c d : Option Fault) → members ≡ members_in block
    → a ≡ noted kept (parent_faults files number file block block.parent (parent files number)) → b ≡ noted a (flat_map (unknown files file) members.types)
    → c ≡ noted b (map declared_twice (clashing_of (map declared_of (inherited files number)) members.decls)) → d ≡ noted c (kind_faults files file block.kind members)
    → d ≡ noted kept (faults_in files number file block)
block_noted files number file block members kept a b c d is e f g h =
    let stmts = stmts_of block in
    let twice = map (λ (d : Decl). fault kinds.NameTwice d.name.at) (clashing (inherited files number) (flat_map decls stmts)) in
    all_five kept a b c d (parent_faults files number file block block.parent (parent files number)) (flat_map (unknown files file) (flat_map type_names stmts)) twice
    (cond (is_component block.kind) [] (map pin_fault (flat_map pins stmts))) (cond (is_interface block.kind) (flat_map (made_faults files file) (flat_map new_names stmts)) []) e (f ∙ ap (λ (m : Members). noted a (flat_map (unknown files file) m.types)) is)
    (g ∙ ap (λ (m : Members). noted b (map declared_twice (clashing_of (map declared_of (inherited files number)) m.decls))) is
    ∙ ap (noted b) (clashes_same (inherited files number) (flat_map decls (stmts_of block))))
    (h ∙ ap (λ m. noted c (kind_faults files file block.kind m)) is)

-- ---- one block after another

pub block_step : (f : ℕ × BlockAt → List Fault) (kept before now : Option Fault) (bs : List BlockAt) (i : ℕ) → i < length bs → before ≡ noted kept (flat_map f (numbered 0 (take i bs)))
    → ((b : BlockAt) → slice_get bs i ≡ Some b → now ≡ noted before (f (i, b))) → now ≡ noted kept (flat_map f (numbered 0 (take (i + 1) bs)))
block_step f kept before now bs i h was next = elim (slice_get_cases bs i).1 [
  | inl x ↦ (next x.0 x.2 ∙ ap (λ z. noted z (f (i, x.0))) was
      ∙ sym (ap (noted kept) (flat_numbered_more f bs i x.0 h) ∙ noted_append kept (flat_map f (numbered 0 (take i bs))) (f (i, get_or bs i x.0))
      ∙ ap (λ (b : BlockAt). noted (noted kept (flat_map f (numbered 0 (take i bs)))) (f (i, b))) x.3))
  | inr x ↦ (let past = x.0 in absurd (omega arith))
]

pub members_at : (files : List SourceFile) (number : ℕ) (b : BlockAt) (d : Members) → block_of files number ≡ Some b → get_or (all_members files) number d ≡ members_in b.block
members_at files number b d at =
    get_or_from_slice_get (all_members files) number (members_in b.block) d (slice_get-map block_members (blocks_of files) number ∙ ap (option_map block_members) at)

-- what one block more names
pub members_more : (files : List SourceFile) (number : ℕ) (b : BlockAt) (before now : List Members) → number < length (blocks_of files) → get_or (blocks_of files) number b ≡ b
    → before ≡ map block_members (take number (blocks_of files)) → now ≡ before ++ members_in b.block ∷ [] → now ≡ map block_members (take (number + 1) (blocks_of files))
members_more files number b before now h read was e =
    e ∙ ap (λ l. l ++ members_in b.block ∷ []) was
    ∙ sym (ap (map block_members) (take_more (blocks_of files) number b h ∙ ap (λ (x : BlockAt). take number (blocks_of files) ++ x ∷ []) read)
    ∙ map-append block_members (take number (blocks_of files)) (b ∷ []))

-- ---- all of them

pub least_noted : (files : List SourceFile) (a b : Option Fault) → a ≡ noted None (flat_map (file_faults files) files)
    → b ≡ noted a (flat_map (λ (b : ℕ × BlockAt). block_faults files b.0 b.1) (numbered 0 (blocks_of files))) → b ≡ name_fault files
least_noted files a b e f =
    let blocks = flat_map (λ (b : ℕ × BlockAt). block_faults files b.0 b.1) (numbered 0 (blocks_of files)) in
    f ∙ ap (λ z. noted z blocks) e ∙ sym (noted_append None (flat_map (file_faults files) files) blocks) ∙ noted_least (flat_map (file_faults files) files ++ blocks)
