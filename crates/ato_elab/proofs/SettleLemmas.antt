-- Replacements one behind another.
use Rattle.std.proofs.Common.{◌≡◌, ◌<◌, ◌≤◌, ℕ, zero, suc, ◌+◌, Bool, true, false, List, [], ◌∷◌, ◌++◌, map, Option, Some, None, refl, sym, ap, ◌∙◌, subst, length, get_or, drop, drop-cons, arith, inl, inr}
use Rattle.std.specs.Prelude.{slice_get, if◌then◌else◌, ◌==◌, ◌||◌, ◌⊎◌}
use Rattle.std.specs.List.{list_any}
use Rattle.std.specs.Option.{option_map, option_and_then}
use Rattle.std.proofs.lemmas.Option.{slice_get_cases, slice_get_past, none-some}
use Rattle.ato_base.specs.declared.places.Span.{Span}
use Rattle.ato_base.specs.declared.places.Place.TheVariants as place
use Rattle.ato_base.specs.declared.faults.Fault.{Fault}
use Rattle.ato_base.specs.declared.faults.FaultKind.TheVariants as kinds
use Rattle.ato_ast.specs.declared.names.Named.{Named}
use Rattle.ato_files.specs.declared.program.SourceFile.{SourceFile}
use Rattle.ato_files.specs.declared.program.BlockInfo.{BlockInfo}
use Rattle.ato_files.specs.Lists.{last_of, first_of_all}
use Rattle.ato_files.specs.Lineages.{below, descends, lineage, lineage_within, parent}
use Rattle.ato_files.specs.Blocks.{BlockAt, blocks_of, block_of, meaning}
use Rattle.ato_files.specs.Programs.{AreBlocks}
use Rattle.ato_files.proofs.LineageLaws.{ends_exactly}
use Rattle.ato_instance_tree.specs.TreeFaults.{fault_in, not_special}
use Rattle.ato_elab.specs.declared.changes.Change.{Change}
use Rattle.ato_elab.specs.Waiting.{Waits, ended, end, ends}
use Rattle.ato_elab.specs.Changes.{seen}
use Rattle.ato_elab.specs.Settling.{LeadsTo, Passes, StopsAt, Strays}

-- ---- lineages that are kept

pub kept_lineage : (files : List SourceFile) (blocks : List BlockInfo) (block : ℕ) (info : BlockInfo) → AreBlocks files blocks → slice_get blocks block ≡ Some info → lineage files block ≡ info.lineage
kept_lineage files blocks block info are e = ((ends_exactly files block).has_one ((are.each block info e).lineage)).1

-- a block that is not there has itself alone
lone_within : (files : List SourceFile) (n block : ℕ) → block_of files block ≡ None → lineage_within files n block ≡ block ∷ []
lone_within files zero block none = refl
lone_within files (suc n) block none = ap (λ (o : Option BlockAt). below block (option_map (lineage_within files n) (option_and_then (λ b. option_and_then (λ name. meaning files b.file name.name.0) b.block.parent) o))) none

or_false : (b : Bool) → b ≡ (b || false)
or_false true = refl
or_false false = refl

-- a block that is not kept is not there
pub no_block : (files : List SourceFile) (blocks : List BlockInfo) (block : ℕ) → AreBlocks files blocks → slice_get blocks block ≡ None → block_of files block ≡ None
no_block files blocks block are none = slice_get_past (blocks_of files) block (by (slice_get_cases blocks block))
  where
    by : (slice_get blocks block ≡ slice_get blocks block) × (((x : BlockInfo) × (block < length blocks) × (slice_get blocks block ≡ Some x) × (get_or blocks block x ≡ x)) ⊎ ((length blocks ≤ block) × (slice_get blocks block ≡ None))) → length (blocks_of files) ≤ block
    by (e, inl h) = absurd (none-some h.0 (sym none ∙ h.2))
    by (e, inr h) = let l = h.0 in let c = are.count in omega arith

pub lone_descends : (files : List SourceFile) (blocks : List BlockInfo) (block other : ℕ) → AreBlocks files blocks → slice_get blocks block ≡ None → (block == other) ≡ descends files block other
lone_descends files blocks block other are none =
    or_false (block == other) ∙ ap (list_any (λ b. b == other)) (sym (lone_within files (length (blocks_of files)) block (no_block files blocks block are none)))

-- ---- one more replacement

end_none : (c : Change) → 0 < length c.rest.now → end (seen c) ≡ []
end_none c h = by c.rest.now h
  where
    by : (rest : List Named) → 0 < length rest → ended rest (c.to, c.named) ≡ []
    by [] h = absurd (omega arith)
    by (n ∷ more) h = refl

end_one : (c : Change) → length c.rest.now ≡ 0 → end (seen c) ≡ (c.to, c.named) ∷ []
end_one c h = by c.rest.now h
  where
    by : (rest : List Named) → length rest ≡ 0 → ended rest (c.to, c.named) ≡ (c.to, c.named) ∷ []
    by [] h = refl
    by (n ∷ more) h = absurd (omega arith)

-- one that does not end here
pub passes_none : (files : List SourceFile) (from : ℕ) (c : Change) → 0 < length c.rest.now → Passes files from (end (seen c)) from
passes_none files from c h = subst (λ rs. Passes files from rs from) (sym (end_none c h)) (λ more. (λ to l. l, λ at s. s))

fault_if : Bool → Fault → List Fault
fault_if b f = if b then [] else f ∷ []

-- one that names a descendant
pub passes_one : (files : List SourceFile) (from : ℕ) (c : Change) → length c.rest.now ≡ 0 → descends files c.to from ≡ true → Passes files from (end (seen c)) c.to
passes_one files from c h d = subst (λ rs. Passes files from rs c.to) (sym (end_one c h)) (λ more. (
  (λ to l. λ new path. ((l c.named path).0, same path more ∙ (l c.named path).1)),
  (λ at s. λ path. ap first_of_all (same path more) ∙ s path),
))
  where
    same : (path : List ℕ) (more : List (ℕ × Named)) → not_special files path from ((c.to, c.named) ∷ more) ≡ not_special files path c.to more
    same path more = ap (λ (b : Bool). (if b then [] else fault_in path kinds.NotSpecial (place.Source c.named.at) ∷ []) ++ not_special files path c.to more) d

-- one that names none
pub strays_one : (files : List SourceFile) (from : ℕ) (c : Change) → length c.rest.now ≡ 0 → descends files c.to from ≡ false → Strays files from (end (seen c)) c.named.at
strays_one files from c h d = subst (λ rs. Strays files from rs c.named.at) (sym (end_one c h)) (λ more path.
    ap (λ (b : Bool). first_of_all ((if b then [] else fault_in path kinds.NotSpecial (place.Source c.named.at) ∷ []) ++ not_special files path c.to more)) d)

-- no replacement is left
pub leads_end : (files : List SourceFile) (from : ℕ) → LeadsTo files from [] from
leads_end files from = λ new path. (refl, refl)

-- those from the next one on
pub ends_from : (cs : List Change) (i : ℕ) (d : Change) → i < length cs → ends (map seen (drop i cs)) ≡ end (seen (get_or cs i d)) ++ ends (map seen (drop (i + 1) cs))
ends_from cs i d h = let s : suc i ≡ i + 1 = omega arith in
    ap (λ xs. ends (map seen xs)) (drop-cons cs i d h) ∙ ap (λ (k : ℕ). end (seen (get_or cs i d)) ++ ends (map seen (drop k cs))) s
