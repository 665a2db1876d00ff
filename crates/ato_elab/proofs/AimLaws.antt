-- A statement's target by numbers is the name of the instance to which it assigns.
use Rattle.std.proofs.Common.{◌≡◌, ℕ, suc, Bool, true, false, cond, ◌&&◌, nat_eq, true≢false, List, [], ◌∷◌, ◌++◌, length, Option, Some, None, refl, ap, sym, subst, ◌∙◌, append_assoc, arith, inl, inr}
use Rattle.std.specs.Prelude.{⊤, slice_get, is_some, is_none, if◌then◌else◌}
use Rattle.std.specs.Str.{bytes_eq}
use Rattle.std.proofs.lemmas.Bool.{eqb-true, eq-eqb}
use Rattle.std.proofs.lemmas.Option.{none-some, same_Some}
use Rattle.std.proofs.lemmas.Slice.Eq.{bytes_eq-Decides}
use Rattle.ato_base.specs.declared.tokens.TokenKind.{TokenKind}
use Rattle.ato_base.specs.declared.places.Span.{Span}
use Rattle.ato_ast.specs.declared.names.Named.{Named}
use Rattle.ato_ast.specs.declared.paths.Path.{Path}
use Rattle.ato_ast.specs.declared.stmts.Stmt.{Stmt}
use Rattle.ato_ast.specs.declared.stmts.Stmt.TheVariants as stmt
use Rattle.ato_files.specs.declared.program.SourceFile.{SourceFile}
use Rattle.ato_files.specs.Members.{Kind, signal, instance, param}
use Rattle.ato_instance_tree.specs.Walk.{Occ, down, counts, counts_maybe, assigns_of, assigns}
use Rattle.ato_instance_tree.specs.Order.{Spot, leaf, made_at, nodes}
use Rattle.ato_instance_tree.specs.Paths as paths
use Rattle.ato_instance_tree.specs.Paths.{lost, free, member_of, pin_of, member_at, end_found, onward, find_steps}
use Rattle.ato_instance_tree.proofs.SpotLaws.{Under, under_more, not_under, spot_path}
use Rattle.ato_elab.specs.declared.built.Built.{Built}
use Rattle.ato_elab.specs.declared.finding_paths.Found.{Found}
use Rattle.ato_elab.specs.declared.finding_paths.Found.TheVariants as found
use Rattle.ato_elab.specs.Assigned.{found_target, path_target, target_in}
use Rattle.ato_elab.specs.Built.{same_key}
use Rattle.ato_elab.specs.Finding.{steps_from, steps_in}
use Rattle.ato_elab.specs.Standing.{IsAt, IsReady, IsWhole, kind_is_instance}
use Rattle.ato_elab.specs.Landing.{IsFound}
use Rattle.ato_elab.proofs.FoundLaws.{walk_law}
use Rattle.ato_elab.proofs.AroundLaws.{front_at}

-- ---- truth values

pub and_true : (a b : Bool) → (a && b) ≡ true → (a ≡ true) × (b ≡ true)
and_true true b h = (refl, h)
and_true false b h = absurd (true≢false (sym h))

pub both_true : (a b : Bool) → a ≡ true → b ≡ true → (a && b) ≡ true
both_true true b h k = k
both_true false b h k = absurd (true≢false (sym h))

pub same_truth : (a b : Bool) → (a ≡ true → b ≡ true) → (b ≡ true → a ≡ true) → a ≡ b
same_truth true b f g = sym (f refl)
same_truth false true f g = g refl
same_truth false false f g = refl

-- ---- where nodes are

pub same_path_at : {files : List SourceFile} {entry : ℕ} (number : ℕ) (p q : List ℕ) → IsAt files entry number p → IsAt files entry number q → p ≡ q
same_path_at number p q a b = ap spot_path (same_Some (made_at p) (made_at q) (sym a.is ∙ b.is))

pub at_same : {files : List SourceFile} {entry : ℕ} (i j : ℕ) (p : List ℕ) → i ≡ j → IsAt files entry i p → IsAt files entry j p
at_same {files = files} {entry = entry} i j p e at = subst (λ (k : ℕ). IsAt files entry k p) e at

-- ---- where names lead

front_down : (more : List Named) (path : List ℕ) → Under path (down more path)
front_down [] path = ([], refl)
front_down (n ∷ more) path = under_more n.name.0 path (down more (n.name.0 ∷ path)) (front_down more (n.name.0 ∷ path))

abbrev first : List ℕ → ℕ
first [] = 0
first (x ∷ xs) = x

abbrev rest : List ℕ → List ℕ
rest [] = []
rest (x ∷ xs) = xs

under_rest : (name n : ℕ) (path from : List ℕ) → Under (n ∷ from) (name ∷ path) → Under from path
under_rest name n path from ([], e) = ([], ap rest e)
under_rest name n path from (x ∷ front, e) = under_more n from path (front, ap rest e)

-- what names lead to stands in an instance at which they begin, or below it
pub from_under : (n : Named) (more : List Named) (from : List ℕ) (name : ℕ) (path : List ℕ) → down (n ∷ more) from ≡ name ∷ path → Under from path
from_under n more from name path e = under_rest name n.name.0 path from (subst (Under (n.name.0 ∷ from)) e (front_down more (n.name.0 ∷ from)))

-- ---- what is found

-- the path of the name that is found
abbrev held_path : paths.Found → Option (List ℕ)
held_path (lost at) = None
held_path (free path n) = Some (n.name.0 ∷ path)
held_path (member_of path n k) = Some (n.name.0 ∷ path)
held_path (pin_of path n) = None

end_held : (path : List ℕ) (n : Named) (k : Option Kind) → held_path (end_found path n k) ≡ Some (n.name.0 ∷ path)
end_held path n None = refl
end_held path n (Some k) = refl

on_held : (n m : Named) (k : Option Kind) (f : paths.Found) (q r : List ℕ) → (held_path f ≡ Some q → r ≡ q) → held_path (onward n m k f) ≡ Some q → r ≡ q
on_held n m None f q r more e = absurd (none-some q e)
on_held n m (Some signal) f q r more e = absurd (none-some q e)
on_held n m (Some (instance type)) f q r more e = more e
on_held n m (Some param) f q r more e = absurd (none-some q e)

-- a name that is found is where the names lead
found_down : (files : List SourceFile) (entry : ℕ) (path : List ℕ) (n : Named) (more : List Named) (q : List ℕ) → held_path (find_steps files entry path n more) ≡ Some q → down (n ∷ more) path ≡ q
found_down files entry path n [] q e = same_Some (n.name.0 ∷ path) q (sym (end_held path n (member_at files entry path n.name.0)) ∙ e)
found_down files entry path n (m ∷ more) q e =
    on_held n m (member_at files entry path n.name.0) (find_steps files entry (n.name.0 ∷ path) m more) q (down (n ∷ m ∷ more) path) (found_down files entry (n.name.0 ∷ path) m more q) e

goes_on : (n m : Named) (k : Option Kind) (f : paths.Found) → kind_is_instance k ≡ true → onward n m k f ≡ f
goes_on n m None f e = absurd (true≢false (sym e))
goes_on n m (Some signal) f e = absurd (true≢false (sym e))
goes_on n m (Some (instance type)) f e = refl
goes_on n m (Some param) f e = absurd (true≢false (sym e))

-- names that lead to a name of an instance are found
down_found : (files : List SourceFile) (entry : ℕ) → IsWhole files entry → (number name : ℕ) (path : List ℕ) → IsAt files entry number path → (from : List ℕ) (n : Named) (more : List Named)
    → down (n ∷ more) from ≡ name ∷ path → held_path (find_steps files entry from n more) ≡ Some (name ∷ path)
down_found files entry whole number name path at from n [] e = end_held from n (member_at files entry from n.name.0) ∙ ap Some e
down_found files entry whole number name path at from n (m ∷ more) e =
    let u = from_under m more (n.name.0 ∷ from) name path e in
    let k = front_at files entry whole u.0 (n.name.0 ∷ from) number (subst (IsAt files entry number) u.1 at) in
    let s = whole.around k.0 n.name.0 from k.1 in
    ap held_path (goes_on n m (member_at files entry from n.name.0) (find_steps files entry (n.name.0 ∷ from) m more) s.member)
    ∙ down_found files entry whole number name path at (n.name.0 ∷ from) m more e

-- The instance and the name are those at the end of a path.
IsAim : List SourceFile → ℕ → Option (List ℕ) → Option (ℕ × ℕ) → Type 0
IsAim files entry None None = ⊤
IsAim files entry None (Some key) = ⊥
IsAim files entry (Some q) None = ⊥
IsAim files entry (Some q) (Some key) = (path : List ℕ) × IsAt files entry key.0 path × (q ≡ key.1 ∷ path)

aimed : (files : List SourceFile) (entry : ℕ) (f : paths.Found) (r : Found) → IsFound files entry f r → IsAim files entry (held_path f) (found_target r)
unfolding IsAim
aimed files entry (lost a) (found.Lost b) h = tt
aimed files entry (free path n) (found.Free number m) h = (path, h.1, ap (λ (x : Named). x.name.0 ∷ path) (sym h.0))
aimed files entry (member_of path n k) (found.Member number m node s) h = (path, h.1, ap (λ (x : Named). x.name.0 ∷ path) (sym h.0))
aimed files entry (pin_of path n) (found.Pin m) h = tt
aimed files entry (lost a) (found.Free number m) h = absurd h
aimed files entry (lost a) (found.Member number m node s) h = absurd h
aimed files entry (lost a) (found.Pin m) h = absurd h
aimed files entry (free path n) (found.Lost b) h = absurd h
aimed files entry (free path n) (found.Member number m node s) h = absurd h
aimed files entry (free path n) (found.Pin m) h = absurd h
aimed files entry (member_of path n k) (found.Lost b) h = absurd h
aimed files entry (member_of path n k) (found.Free number m) h = absurd h
aimed files entry (member_of path n k) (found.Pin m) h = absurd h
aimed files entry (pin_of path n) (found.Lost b) h = absurd h
aimed files entry (pin_of path n) (found.Free number m) h = absurd h
aimed files entry (pin_of path n) (found.Member number m node s) h = absurd h

-- ---- targets

-- The target is this name of this instance.
abbrev pub hits : ℕ → ℕ → Option (ℕ × ℕ) → Bool
hits number name None = false
hits number name (Some key) = same_key key (number, name)

abbrev not_empty : List Named → Bool
not_empty [] = false
not_empty (n ∷ more) = true

abbrev pub has_steps : Stmt → Bool
has_steps (stmt.Assign p v at) = not_empty p.steps
has_steps _ = true

-- The statement assigns something to the path, and names where it does.
abbrev pub takes : List ℕ → Occ → Bool
takes path o = has_steps o.at.stmt && assigns path o

nothing_false : (b c : Bool) → false ≡ (b && (false && c))
nothing_false true c = refl
nothing_false false c = refl

module _ (files : List SourceFile) (names : List (List ℕ)) (entry : ℕ) (built : Built) (ready : IsReady files names entry built) (number name : ℕ) (path : List ℕ) (at : IsAt files entry number path) where
  aim_hits : (o : Option (List ℕ)) (t : Option (ℕ × ℕ)) → IsAim files entry o t → hits number name t ≡ true → o ≡ Some (name ∷ path)
  unfolding IsAim
  aim_hits None None h e = absurd (true≢false (sym e))
  aim_hits None (Some key) h e = absurd h
  aim_hits (Some q) None h e = absurd h
  aim_hits (Some q) (Some key) h e =
      let both = and_true (nat_eq key.0 number) (nat_eq key.1 name) e in
      let one = eqb-true key.0 number both.0 in let two = eqb-true key.1 name both.1 in
      ap Some (h.2 ∙ ap (λ (x : ℕ). x ∷ h.0) two ∙ ap (λ (p : List ℕ). name ∷ p) (same_path_at number h.0 path (at_same key.0 number h.0 one h.1) at))

  hits_aim : (o : Option (List ℕ)) (t : Option (ℕ × ℕ)) → IsAim files entry o t → o ≡ Some (name ∷ path) → hits number name t ≡ true
  unfolding IsAim
  hits_aim None None h e = absurd (none-some (name ∷ path) e)
  hits_aim None (Some key) h e = absurd h
  hits_aim (Some q) None h e = absurd h
  hits_aim (Some q) (Some key) h e =
      let same = sym h.2 ∙ same_Some q (name ∷ path) e in
      both_true (nat_eq key.0 number) (nat_eq key.1 name)
      (eq-eqb key.0 number (ready.whole.once key.0 number path (subst (IsAt files entry key.0) (ap rest same) h.1) at))
      (eq-eqb key.1 name (ap first same))

  path_hits : (from : List ℕ) (node : ℕ) → IsAt files entry node from → (whole : Span) (pin : Option TokenKind) (steps : List Named)
      → hits number name (if is_some pin then None else found_target (steps_in built node whole steps)) ≡ (not_empty steps && (is_none pin && bytes_eq (down steps from) (name ∷ path)))
  path_hits from node there whole (Some k) [] = refl
  path_hits from node there whole (Some k) (n ∷ more) = refl
  path_hits from node there whole None [] = refl
  path_hits from node there whole None (n ∷ more) =
      let aim = aimed files entry (find_steps files entry from n more) (steps_from built node n more) (walk_law files names entry built ready node from n more there) in
      same_truth (hits number name (found_target (steps_from built node n more))) (bytes_eq (down (n ∷ more) from) (name ∷ path))
      (λ e. (bytes_eq-Decides (down (n ∷ more) from) (name ∷ path)).1
      (found_down files entry from n more (name ∷ path) (aim_hits (held_path (find_steps files entry from n more)) (found_target (steps_from built node n more)) aim e)))
      (λ e. hits_aim (held_path (find_steps files entry from n more)) (found_target (steps_from built node n more)) aim
      (down_found files entry ready.whole number name path at from n more ((bytes_eq-Decides (down (n ∷ more) from) (name ∷ path)).0 e)))

  assign_hits : (from : List ℕ) (node : ℕ) → IsAt files entry node from → (p : Path) (b : Bool)
      → hits number name (if b then path_target built node p else None) ≡ (not_empty p.steps && (b && (is_none p.pin && bytes_eq (down p.steps from) (name ∷ path))))
  unfolding path_target
  assign_hits from node there p true = path_hits from node there p.at p.pin p.steps
  assign_hits from node there p false = nothing_false (not_empty p.steps) (is_none p.pin && bytes_eq (down p.steps from) (name ∷ path))

  declare_hits : (from : List ℕ) (node : ℕ) → IsAt files entry node from → (n : Named) (b : Bool)
      → hits number name (if b then Some (node, n.name.0) else None) ≡ (b && bytes_eq (n.name.0 ∷ from) (name ∷ path))
  declare_hits from node there n true = same_truth (same_key (node, n.name.0) (number, name)) (bytes_eq (n.name.0 ∷ from) (name ∷ path))
      (λ e. let both = and_true (nat_eq node number) (nat_eq n.name.0 name) e in
      (bytes_eq-Decides (n.name.0 ∷ from) (name ∷ path)).1 (ap (λ (x : ℕ). x ∷ from) (eqb-true n.name.0 name both.1)
      ∙ ap (λ (p : List ℕ). name ∷ p) (same_path_at number from path (at_same node number from (eqb-true node number both.0) there) at)))
      (λ e. let same = (bytes_eq-Decides (n.name.0 ∷ from) (name ∷ path)).0 e in
      both_true (nat_eq node number) (nat_eq n.name.0 name)
      (eq-eqb node number (ready.whole.once node number path (subst (IsAt files entry node) (ap rest same) there) at))
      (eq-eqb n.name.0 name (ap first same)))
  declare_hits from node there n false = refl

  stmt_hits : (from : List ℕ) (node : ℕ) → IsAt files entry node from → (s : Stmt) → hits number name (target_in built node s) ≡ (has_steps s && assigns_of (name ∷ path) from s)
  stmt_hits from node there (stmt.Pass place) = refl
  stmt_hits from node there (stmt.Docs text) = refl
  stmt_hits from node there (stmt.Point p e place) = refl
  stmt_hits from node there (stmt.Connect p e place) = refl
  stmt_hits from node there (stmt.Replace p type place) = refl
  stmt_hits from node there (stmt.Assign p v place) = assign_hits from node there p (counts v)
  stmt_hits from node there (stmt.Make n type place) = refl
  stmt_hits from node there (stmt.Declare n unit v place) = declare_hits from node there n (counts_maybe v)
  stmt_hits from node there (stmt.Assert x c place) = refl

  -- a statement's target by numbers is the name of the instance to which it assigns
  pub target_law : (o : Occ) (node : ℕ) → IsAt files entry node o.path → hits number name (target_in built node o.at.stmt) ≡ takes (name ∷ path) o
  target_law o node there = stmt_hits o.path node there o.at.stmt

-- ---- statements that take

steps_under : (name : ℕ) (path from : List ℕ) (p : Path) → (steps : List Named) → not_empty steps ≡ true → bytes_eq (down steps from) (name ∷ path) ≡ true → Under from path
steps_under name path from p [] e f = absurd (true≢false (sym e))
steps_under name path from p (n ∷ more) e f = from_under n more from name path ((bytes_eq-Decides (down (n ∷ more) from) (name ∷ path)).0 f)

takes_of : (name : ℕ) (path from : List ℕ) (s : Stmt) → has_steps s ≡ true → assigns_of (name ∷ path) from s ≡ true → Under from path
takes_of name path from (stmt.Pass place) e f = absurd (true≢false (sym f))
takes_of name path from (stmt.Docs text) e f = absurd (true≢false (sym f))
takes_of name path from (stmt.Point p x place) e f = absurd (true≢false (sym f))
takes_of name path from (stmt.Connect p x place) e f = absurd (true≢false (sym f))
takes_of name path from (stmt.Replace p type place) e f = absurd (true≢false (sym f))
takes_of name path from (stmt.Assign p v place) e f =
    steps_under name path from p p.steps e (and_true (is_none p.pin) (bytes_eq (down p.steps from) (name ∷ path)) (and_true (counts v) (is_none p.pin && bytes_eq (down p.steps from) (name ∷ path)) f).1).1
takes_of name path from (stmt.Make n type place) e f = absurd (true≢false (sym f))
takes_of name path from (stmt.Declare n unit v place) e f =
    ([], sym (ap rest ((bytes_eq-Decides (n.name.0 ∷ from) (name ∷ path)).0 (and_true (counts_maybe v) (bytes_eq (n.name.0 ∷ from) (name ∷ path)) f).1)))
takes_of name path from (stmt.Assert x c place) e f = absurd (true≢false (sym f))

-- what takes a name of an instance is a statement of it, or of one around it
pub takes_under : (name : ℕ) (path : List ℕ) (o : Occ) → takes (name ∷ path) o ≡ true → Under o.path path
takes_under name path o e = let both = and_true (has_steps o.at.stmt) (assigns (name ∷ path) o) e in takes_of name path o.path o.at.stmt both.0 both.1

stepped : (name : ℕ) (path from : List ℕ) (steps : List Named) → Under from path → bytes_eq (down steps from) (name ∷ path) ≡ true → not_empty steps ≡ true
stepped name path from [] u e = absurd (not_under name path (subst (λ (p : List ℕ). Under p path) ((bytes_eq-Decides from (name ∷ path)).0 e) u))
stepped name path from (n ∷ more) u e = refl

assigns_steps : (name : ℕ) (path from : List ℕ) (s : Stmt) → Under from path → assigns_of (name ∷ path) from s ≡ true → has_steps s ≡ true
assigns_steps name path from (stmt.Pass place) u f = refl
assigns_steps name path from (stmt.Docs text) u f = refl
assigns_steps name path from (stmt.Point p x place) u f = refl
assigns_steps name path from (stmt.Connect p x place) u f = refl
assigns_steps name path from (stmt.Replace p type place) u f = refl
assigns_steps name path from (stmt.Assign p v place) u f =
    stepped name path from p.steps u (and_true (is_none p.pin) (bytes_eq (down p.steps from) (name ∷ path)) (and_true (counts v) (is_none p.pin && bytes_eq (down p.steps from) (name ∷ path)) f).1).1
assigns_steps name path from (stmt.Make n type place) u f = refl
assigns_steps name path from (stmt.Declare n unit v place) u f = refl
assigns_steps name path from (stmt.Assert x c place) u f = refl

-- at and around an instance what assigns takes
pub assigns_takes : (name : ℕ) (path : List ℕ) (o : Occ) → Under o.path path → assigns (name ∷ path) o ≡ takes (name ∷ path) o
assigns_takes name path o u = same_truth (assigns (name ∷ path) o) (takes (name ∷ path) o)
    (λ e. both_true (has_steps o.at.stmt) (assigns (name ∷ path) o) (assigns_steps name path o.path o.at.stmt u e) e)
    (λ e. (and_true (has_steps o.at.stmt) (assigns (name ∷ path) o) e).1)

-- ---- targets are of instances

abbrev pub IsThere : List SourceFile → ℕ → ℕ → Type 0
IsThere files entry number = (path : List ℕ) × IsAt files entry number path

aim_there : (files : List SourceFile) (entry : ℕ) (o : Option (List ℕ)) (t : Option (ℕ × ℕ)) (key : ℕ × ℕ) → IsAim files entry o t → t ≡ Some key → IsThere files entry key.0
unfolding IsAim
aim_there files entry None None key h e = absurd (none-some key e)
aim_there files entry None (Some other) key h e = absurd h
aim_there files entry (Some q) None key h e = absurd h
aim_there files entry (Some q) (Some other) key h e = (h.0, subst (λ (k : ℕ × ℕ). IsAt files entry k.0 h.0) (same_Some other key e) h.1)

module _ (files : List SourceFile) (names : List (List ℕ)) (entry : ℕ) (built : Built) (ready : IsReady files names entry built) (from : List ℕ) (node : ℕ) (here : IsAt files entry node from) (key : ℕ × ℕ) where
  path_there : (whole : Span) (pin : Option TokenKind) (steps : List Named) → (if is_some pin then None else found_target (steps_in built node whole steps)) ≡ Some key → IsThere files entry key.0
  path_there whole (Some k) steps e = absurd (none-some key e)
  path_there whole None [] e = absurd (none-some key e)
  path_there whole None (n ∷ more) e =
      aim_there files entry (held_path (find_steps files entry from n more)) (found_target (steps_from built node n more)) key
      (aimed files entry (find_steps files entry from n more) (steps_from built node n more) (walk_law files names entry built ready node from n more here)) e

  assign_there : (p : Path) (b : Bool) → (if b then path_target built node p else None) ≡ Some key → IsThere files entry key.0
  unfolding path_target
  assign_there p true e = path_there p.at p.pin p.steps e
  assign_there p false e = absurd (none-some key e)

  declare_there : (n : Named) (b : Bool) → (if b then Some (node, n.name.0) else None) ≡ Some key → IsThere files entry key.0
  declare_there n true e = (from, subst (λ (k : ℕ × ℕ). IsAt files entry k.0 from) (same_Some (node, n.name.0) key e) here)
  declare_there n false e = absurd (none-some key e)

  -- a target is of an instance
  pub target_there : (s : Stmt) → target_in built node s ≡ Some key → IsThere files entry key.0
  target_there (stmt.Pass place) e = absurd (none-some key e)
  target_there (stmt.Docs text) e = absurd (none-some key e)
  target_there (stmt.Point p x place) e = absurd (none-some key e)
  target_there (stmt.Connect p x place) e = absurd (none-some key e)
  target_there (stmt.Replace p type place) e = absurd (none-some key e)
  target_there (stmt.Assign p v place) e = assign_there p (counts v) e
  target_there (stmt.Make n type place) e = absurd (none-some key e)
  target_there (stmt.Declare n unit v place) e = declare_there n (counts_maybe v) e
  target_there (stmt.Assert x c place) e = absurd (none-some key e)
