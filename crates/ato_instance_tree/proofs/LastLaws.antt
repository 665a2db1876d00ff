-- The assignment that counts is the last one.
use Rattle.std.proofs.Common.{◌≡◌, ℕ, Bool, true, false, ◌||◌, if◌then◌else◌, List, [], ◌∷◌, refl, ap, ◌∙◌}
use Rattle.std.specs.Prelude.{MatchOption, filter}
use Rattle.std.specs.List.{list_any}
use Rattle.ato_files.specs.declared.program.SourceFile.{SourceFile}
use Rattle.ato_instance_tree.specs.Walk.{Occ, assigns, walk, last, effective}
use Rattle.ato_instance_tree.specs.Laws.{IsLastAssigning}

or_false : (a b : Bool) → a ≡ false → b ≡ false → (a || b) ≡ false
or_false a b h k = ap (λ x. x || b) h ∙ k

later : (path : List ℕ) (x : Occ) (xs : List Occ) (o : Occ) → IsLastAssigning xs path o → IsLastAssigning (x ∷ xs) path o
later path x xs o h = record { before = x ∷ h.before; after = h.after; is = ap (λ l. x ∷ l) h.is; does = h.does; none_later = h.none_later }

-- one statement more in front
step : (path : List ℕ) (x : Occ) (xs : List Occ) (b : Bool) → assigns path x ≡ b → (found : List Occ)
    → MatchOption (last found) (list_any (assigns path) xs ≡ false) (IsLastAssigning xs path)
    → MatchOption (last (if b then x ∷ found else found)) (list_any (assigns path) (x ∷ xs) ≡ false) (IsLastAssigning (x ∷ xs) path)
step path x xs true e [] h = record { before = []; after = xs; is = refl; does = e; none_later = h }
step path x xs true e (y ∷ ys) h = later path x xs _ h
step path x xs false e [] h = or_false (assigns path x) (list_any (assigns path) xs) e h
step path x xs false e (y ∷ ys) h = later path x xs _ h

last_found : (path : List ℕ) (xs : List Occ) → MatchOption (last (filter (assigns path) xs)) (list_any (assigns path) xs ≡ false) (IsLastAssigning xs path)
last_found path [] = refl
last_found path (x ∷ xs) = step path x xs (assigns path x) refl (filter (assigns path) xs) (last_found path xs)

pub is_last : (files : List SourceFile) (entry name : ℕ) (path : List ℕ) → MatchOption (effective files entry name path)
    (list_any (assigns (name ∷ path)) (walk files entry path).stmts ≡ false) (IsLastAssigning (walk files entry path).stmts (name ∷ path))
is_last files entry name path = last_found (name ∷ path) (walk files entry path).stmts
