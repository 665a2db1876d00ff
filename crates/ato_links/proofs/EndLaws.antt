-- Where no fault of the tree stands, whatever a project joins is a node.
use Rattle.std.proofs.Common.{◌≡◌, ℕ, Bool, true, false, true≢false, List, [], ◌∷◌, ◌++◌, length, Option, Some, None, refl, sym, ◌∙◌, subst, arith, inl, inr}
use Rattle.std.specs.Prelude.{⊤, nat_lt, option_to_list, is_some, if◌then◌else◌}
use Rattle.std.specs.List.{flat_map, list_any, position_or_len}
use Rattle.std.specs.Str.{bytes_eq}
use Rattle.std.proofs.lemmas.Bool.{or_cases, ltb-false}
use Rattle.std.proofs.lemmas.Option.{slice_get_within, get_or_from_slice_get}
use Rattle.std.proofs.lemmas.List.Sums.{fails_before_first}
use Rattle.std.proofs.lemmas.Slice.Eq.{bytes_eq-Decides}
use Rattle.ato_base.specs.declared.places.Span.{Span}
use Rattle.ato_ast.specs.declared.names.Named.{Named}
use Rattle.ato_ast.specs.declared.paths.Path.{Path}
use Rattle.ato_base.specs.declared.tokens.TokenKind.{TokenKind}
use Rattle.ato_files.specs.declared.program.SourceFile.{SourceFile}
use Rattle.ato_files.specs.Lists.{Among, here, there}
use Rattle.ato_files.specs.Members.{Kind, signal, instance, param}
use Rattle.ato_instance_tree.specs.Members.{Member, pin, named, members, source_text}
use Rattle.ato_instance_tree.specs.Walk.{type_at}
use Rattle.ato_instance_tree.specs.Order.{Spot, leaf, made_at, nodes}
use Rattle.ato_instance_tree.specs.Paths.{Found, lost, free, member_of, pin_of, member_at, number_place, end_found, onward, find_steps, is_pin_of, has_pin, pin_found, steps_found, ended, pin_ended}
use Rattle.ato_instance_tree.specs.Laws.{SpotPlace, at_label, place_of, AreNodes}
use Rattle.ato_instance_tree.proofs.NodesLaws.{into}
use Rattle.ato_instance_tree.proofs.PlaceLaws.{place_in}
use Rattle.ato_links.specs.Links.{Side, point, quantity, inside, nothing, side_of, found_side, path_side, Electrical, is_electrical, line_side, beside}
use Rattle.ato_links.specs.NodeJoins.{same_place, number_at, both}
use Rattle.ato_links.specs.Whole.{HasNode, IsPlaced}
use Rattle.ato_links.proofs.NumberLaws.{place_same}
use Rattle.ato_links.proofs.WholeLaws.{side_placed}

-- ---- the number of a node that is there

pub number_there : (spots : List Spot) (at : SpotPlace) (s : Spot) → Among s spots → place_of s ≡ at → is_some (number_at spots at) ≡ true
number_there spots at s m e = by_test (nat_lt (position_or_len (λ t. same_place (place_of t) at) spots) (length spots)) refl where
  by_test : (b : Bool) → nat_lt (position_or_len (λ t. same_place (place_of t) at) spots) (length spots) ≡ b
      → is_some (if b then Some (position_or_len (λ t. same_place (place_of t) at) spots) else None) ≡ true
  by_test true f = refl
  by_test false f =
      let i = place_in s spots (into s spots m) in
      let l = slice_get_within spots i.0 s i.1 in
      let passes = subst (λ t. same_place (place_of t) at ≡ true) (sym (get_or_from_slice_get spots i.0 s (made_at []) i.1)) (subst (λ p. same_place p at ≡ true) (sym e) (place_same at)) in
      absurd (true≢false (sym passes ∙ fails_before_first (λ t. same_place (place_of t) at) spots i.0 (made_at [])
      (omega (arith, l, ltb-false (position_or_len (λ t. same_place (place_of t) at) spots) (length spots) f))))

pub both_there : (o p : Option ℕ) → is_some o ≡ true → is_some p ≡ true → is_some (both o p) ≡ true
both_there None p e f = absurd (true≢false (sym e))
both_there (Some x) None e f = absurd (true≢false (sym f))
both_there (Some x) (Some y) e f = refl

-- ---- ends

pin_in : (text : List ℕ) (ms : List Member) → list_any (is_pin_of text) ms ≡ true → Among (pin text) ms
pin_in text [] e = absurd (true≢false (sym e))
pin_in text (pin other ∷ ms) e = elim (or_cases (bytes_eq text other) (list_any (is_pin_of text) ms) e) [
  | inl h ↦ subst (λ t. Among (pin text) (pin t ∷ ms)) ((bytes_eq-Decides text other).0 h) here
  | inr h ↦ there (pin_in text ms h)
]
pin_in text (named n k ∷ ms) e = there (pin_in text ms e)

module _ (files : List SourceFile) (entry : ℕ) (are : AreNodes files entry) where
  pub label_place : (path text : List ℕ) → Among (made_at path) (nodes files entry) → has_pin (members files (type_at files entry path)) text ≡ true → HasNode files entry (at_label path text)
  label_place path text up e = (leaf path (pin text), (are.leaves path (pin text)).1 (up, pin_in text (members files (type_at files entry path)) e, refl), refl)

  kind_placed : (path : List ℕ) (name : ℕ) (k : Kind) → Among (made_at path) (nodes files entry) → member_at files entry path name ≡ Some k → IsPlaced files entry (side_of path name (Some k))
  kind_placed path name k up e = subst (λ o. IsPlaced files entry (side_of path name o)) e (side_placed files entry are path name up)

  -- What the names of a path lead to is a member of an instance that is a node.
  abbrev IsAt : Found → Type 0
  IsAt (lost at) = ⊤
  IsAt (free path n) = ⊤
  IsAt (member_of path n k) = Among (made_at path) (nodes files entry) × (member_at files entry path n.name.0 ≡ Some k)
  IsAt (pin_of path n) = ⊥

  steps_at : (path : List ℕ) (n : Named) (more : List Named) → Among (made_at path) (nodes files entry) → IsAt (find_steps files entry path n more)
  steps_at path n [] up = by_kind (member_at files entry path n.name.0) refl where
    by_kind : (o : Option Kind) → member_at files entry path n.name.0 ≡ o → IsAt (end_found path n o)
    by_kind None e = tt
    by_kind (Some k) e = (up, e)
  steps_at path n (m ∷ more) up = by_kind (member_at files entry path n.name.0) refl (steps_at (n.name.0 ∷ path) m more) where
    by_kind : (o : Option Kind) → member_at files entry path n.name.0 ≡ o → (Among (made_at (n.name.0 ∷ path)) (nodes files entry) → IsAt (find_steps files entry (n.name.0 ∷ path) m more))
        → IsAt (onward n m o (find_steps files entry (n.name.0 ∷ path) m more))
    by_kind None e rest = tt
    by_kind (Some signal) e rest = tt
    by_kind (Some param) e rest = tt
    by_kind (Some (instance type)) e rest = rest (kind_placed path n.name.0 (instance type) up e)

  plain_side : (numbers : List Span) (f : Found) → IsAt f → IsPlaced files entry (found_side files numbers f)
  plain_side numbers (lost at) h = tt
  plain_side numbers (free path n) h = tt
  plain_side numbers (member_of path n signal) h = kind_placed path n.name.0 signal h.0 h.1
  plain_side numbers (member_of path n param) h = tt
  plain_side numbers (member_of path n (instance type)) h = kind_placed path n.name.0 (instance type) h.0 h.1
  plain_side numbers (pin_of path n) h = absurd h

  pinned_side : (number : Span) (rest : List Span) (f : Found) → IsAt f → IsPlaced files entry (found_side files (number ∷ rest) (pin_found files entry number f))
  pinned_side number rest (lost at) h = tt
  pinned_side number rest (free path n) h = tt
  pinned_side number rest (pin_of path n) h = absurd h
  pinned_side number rest (member_of path n signal) h = tt
  pinned_side number rest (member_of path n param) h = tt
  pinned_side number rest (member_of path n (instance type)) h = by_test (has_pin (members files (type_at files entry (n.name.0 ∷ path))) (source_text files number)) refl where
    by_test : (b : Bool) → has_pin (members files (type_at files entry (n.name.0 ∷ path))) (source_text files number) ≡ b
        → IsPlaced files entry (found_side files (number ∷ rest) (if b then pin_of (n.name.0 ∷ path) n else lost number))
    by_test true e = label_place (n.name.0 ∷ path) (source_text files number) (kind_placed path n.name.0 (instance type) h.0 h.1) e
    by_test false e = tt

  pub path_placed : (path : List ℕ) (p : Path) → Among (made_at path) (nodes files entry) → IsPlaced files entry (path_side files entry path p)
  path_placed path p up = by_pin p.pin (by_steps p.steps) where
    by_steps : (steps : List Named) → IsAt (steps_found files entry path p.at steps)
    by_steps [] = tt
    by_steps (n ∷ more) = steps_at path n more up

    by_number : (numbers : List Span) (f : Found) → IsAt f → IsPlaced files entry (found_side files (numbers ++ []) (ended files entry p.at numbers f))
    by_number [] f h = tt
    by_number (number ∷ more) f h = pinned_side number (more ++ []) f h

    by_pin : (kind : Option TokenKind) → IsAt (steps_found files entry path p.at p.steps)
        → IsPlaced files entry (found_side files (flat_map number_place (option_to_list kind)) (pin_ended files entry p.at kind (steps_found files entry path p.at p.steps)))
    by_pin None h = plain_side [] (steps_found files entry path p.at p.steps) h
    by_pin (Some kind) h = by_number (number_place kind) (steps_found files entry path p.at p.steps) h

  -- an instance that stands for a point
  pub beside_placed : (library : Electrical) (a b : Side) → IsPlaced files entry b → IsPlaced files entry (beside files entry library a b)
  beside_placed library (point x) (inside path) h = by_test (is_electrical files entry library path) library.line where
    by_test : (t : Bool) (line : Option ℕ) → IsPlaced files entry (if t then line_side files entry path line else inside path)
    by_test true None = tt
    by_test true (Some line) = side_placed files entry are path line h
    by_test false line = h
  beside_placed library (point x) (point y) h = h
  beside_placed library (point x) (quantity y) h = h
  beside_placed library (point x) nothing h = h
  beside_placed library (quantity x) b h = h
  beside_placed library (inside path) b h = h
  beside_placed library nothing b h = h
