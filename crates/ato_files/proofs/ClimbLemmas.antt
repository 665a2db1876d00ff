-- Lineages that are written from the youngest block up.
use Rattle.std.proofs.Common.{◌≡◌, ◌<◌, ℕ, suc, ◌+◌, Bool, true, false, nat_eq, List, [], ◌∷◌, ◌++◌, Option, Some, None, refl, sym, ap, ◌∙◌, subst, arith, length, reverse}
use Rattle.std.specs.Prelude.{slice_get, is_some, if◌then◌else◌}
use Rattle.std.proofs.lemmas.List.{append_assoc, append-nil, reverse-append, length_push}
use Rattle.std.proofs.lemmas.Bool.{eqb-true, eqb-false}
use Rattle.ato_files.specs.declared.program.SourceFile.{SourceFile}
use Rattle.ato_files.specs.Lineages.{IsLineage, oldest, child, lineage}
use Rattle.ato_files.specs.ParentLists.{AreParents, AreMade, AreLineages, parent_in, ancestor_in, endless, lineage_of}
use Rattle.ato_files.proofs.LineageLaws.{ends_exactly}
use Rattle.ato_files.proofs.PushLemmas.{slice_get_push_first, slice_get_push_last}
use Rattle.ato_files.proofs.AncestorLemmas.{parent_is, endless_is, above_within, ancestor_more}

-- So many steps up stands a block, and the blocks below it are written, the youngest first.
pub record IsClimb (parents : List (Option ℕ)) (start steps block : ℕ) (below : List ℕ) : Type 0 where
  pub up : ancestor_in parents steps start ≡ Some block
  pub within : block < length parents
  pub built : (files : List SourceFile) → AreParents files parents → (above : List ℕ) → IsLineage files block above → IsLineage files start (above ++ reverse below)

pub climb_begins : (parents : List (Option ℕ)) (start : ℕ) → start < length parents → IsClimb parents start 0 start []
climb_begins parents start h = record { up = refl; within = h; built = λ files are above d. subst (IsLineage files start) (sym (append-nil above)) d }

turned_more : (above below : List ℕ) (block : ℕ) → above ++ reverse (below ++ block ∷ []) ≡ (above ++ block ∷ []) ++ reverse below
turned_more above below block = ap (λ xs. above ++ xs) (reverse-append below (block ∷ [])) ∙ sym (append_assoc above (block ∷ []) (reverse below))

module _ (parents : List (Option ℕ)) (made : AreMade parents) (start steps block : ℕ) (below : List ℕ) (c : IsClimb parents start steps block below) where
  pub climb_on : (next : ℕ) → parent_in parents block ≡ Some next → IsClimb parents start (steps + 1) next (below ++ block ∷ [])
  climb_on next p = record {
    up = ancestor_more parents steps start block next c.up p;
    within = above_within parents made block next p;
    built = λ files are above d. subst (IsLineage files start) (sym (turned_more above below block))
        (c.built files are (above ++ block ∷ []) (child (sym (parent_is files parents are block) ∙ p) d));
  }

  pub climb_ends : parent_in parents block ≡ None → (files : List SourceFile) → AreParents files parents → IsLineage files start (reverse (below ++ block ∷ []))
  climb_ends p files are = subst (IsLineage files start) (sym (turned_more [] below block)) (c.built files are (block ∷ []) (oldest (sym (parent_is files parents are block) ∙ p)))

  pub climb_long : steps ≡ length parents + 1 → endless parents start ≡ true
  climb_long e = let more : suc (length parents) ≡ steps = omega arith in ap is_some (ap (λ (n : ℕ). ancestor_in parents n start) more ∙ c.up)

-- ---- block after block

pub some_lineage : (parents : List (Option ℕ)) (number : ℕ) (found : List ℕ) (files : List SourceFile) → AreParents files parents → IsLineage files number found → Some found ≡ lineage_of files number
some_lineage parents number found files are d = let one = (ends_exactly files number).has_one d in
    ap Some (sym one.1) ∙ sym (ap (λ (b : Bool). if b then None else Some (lineage files number)) one.0)

pub no_lineage : (parents : List (Option ℕ)) (number : ℕ) (files : List SourceFile) → AreParents files parents → endless parents number ≡ true → None ≡ lineage_of files number
no_lineage parents number files are e = sym (ap (λ (b : Bool). if b then None else Some (lineage files number)) (sym (endless_is files parents are number) ∙ e))

pub no_lineages : (files : List SourceFile) → AreLineages files 0 []
no_lineages files = record { count = refl; each = λ number h. absurd (omega arith) }

pub lineages_more : (files : List SourceFile) (known : ℕ) (lineages : List (Option (List ℕ))) (found : Option (List ℕ)) → AreLineages files known lineages → found ≡ lineage_of files known
    → AreLineages files (known + 1) (lineages ++ found ∷ [])
lineages_more files known lineages found are e = record {
  count = length_push lineages found ∙ ap (λ (n : ℕ). n + 1) are.count;
  each = λ number h. by number (nat_eq number known) refl h;
}
  where
    by : (number : ℕ) (b : Bool) → nat_eq number known ≡ b → number < known + 1 → slice_get (lineages ++ found ∷ []) number ≡ Some (lineage_of files number)
    by number true same h = let here = eqb-true number known same in
        slice_get_push_last lineages found number (are.count ∙ sym here) ∙ ap Some (e ∙ ap (lineage_of files) (sym here))
    by number false apart h = let other = eqb-false number known apart in let n = are.count in
        slice_get_push_first lineages found number (omega arith) ∙ are.each number (omega arith)
