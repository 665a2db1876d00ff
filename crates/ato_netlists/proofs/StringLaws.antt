-- The strings that are held are those that count.
use Rattle.std.proofs.Common.{◌≡◌, ◌<◌, ℕ, suc, Bool, true, false, true≢false, ◌&&◌, nat_eq, List, [], ◌∷◌, ◌++◌, length, get_or, Option, Some, None, inl, inr, refl, sym, ap, ◌∙◌, subst, arith}
use Rattle.std.specs.Prelude.{MatchOption, slice_get, fold, map, position, is_some, is_none, option_to_list, if◌then◌else◌}
use Rattle.std.specs.List.{flat_map, list_any}
use Rattle.std.specs.Option.{option_map, option_and_then}
use Rattle.std.specs.Str.{bytes_eq}
use Rattle.std.proofs.lemmas.Bool.{eqb-true, eq-eqb}
use Rattle.std.proofs.lemmas.Option.{none-some, same_Some, slice_get-get_or}
use Rattle.std.proofs.lemmas.List.Quantifiers.{position-Some}
use Rattle.std.proofs.lemmas.Slice.Eq.{bytes_eq-Decides}
use Rattle.ato_base.specs.declared.faults.Fault.{Fault}
use Rattle.ato_base.specs.declared.places.Span.{Span}
use Rattle.ato_base.specs.declared.tokens.TokenKind.{TokenKind}
use Rattle.ato_ast.specs.declared.names.Named.{Named}
use Rattle.ato_ast.specs.declared.names.Quoted.{Quoted}
use Rattle.ato_ast.specs.declared.paths.Path.{Path}
use Rattle.ato_ast.specs.declared.stmts.Stmt.{Stmt}
use Rattle.ato_ast.specs.declared.stmts.Stmt.TheVariants as stmt
use Rattle.ato_ast.specs.declared.stmts.Value.{Value}
use Rattle.ato_ast.specs.declared.stmts.Value.TheVariants as value
use Rattle.ato_files.specs.declared.program.Program.{Program}
use Rattle.ato_files.specs.declared.program.SourceFile.{SourceFile}
use Rattle.ato_files.specs.Lists.{numbered}
use Rattle.ato_files.specs.Members.{Kind, signal, instance, param}
use Rattle.ato_files.specs.Programs.{NamesDiffer}
use Rattle.ato_files.proofs.PositionLemmas.{position_first}
use Rattle.ato_instance_tree.specs.declared.tree.Effective.{Effective}
use Rattle.ato_instance_tree.specs.declared.tree.Late.{Late}
use Rattle.ato_instance_tree.specs.declared.tree.Tree.{Tree}
use Rattle.ato_instance_tree.specs.Members.{source_text}
use Rattle.ato_instance_tree.specs.Walk.{Occ, down, leads, assigns, assigns_of, counts, walk, type_at, occs, effective}
use Rattle.ato_instance_tree.specs.Order as order
use Rattle.ato_instance_tree.specs.Order.{made_at, nodes, instances, occs_at}
use Rattle.ato_instance_tree.specs.Paths.{Found, lost, free, member_of, pin_of, member_at, end_found, onward, find_steps, steps_found, pin_ended, find_path, text_found}
use Rattle.ato_instance_tree.specs.PathFaults.{Keys, keys_of, text_of, string_of, string_at, declared_faults, value_faults, target_faults, occ_faults, stmt_faults, numbered_faults, path_faults, assigned_prefix}
use Rattle.ato_instance_tree.specs.Trees.{Counts, where_at, first_said, steps}
use Rattle.ato_instance_tree.specs.Laws.{IsLastAssigning}
use Rattle.ato_instance_tree.specs.Targets.{statement_of}
use Rattle.ato_instance_tree.proofs.DepthLaws.{among_then, mapped, nil_left, nil_right, no_first}
use Rattle.ato_instance_tree.proofs.LastLaws.{is_last}
use Rattle.ato_instance_tree.proofs.NodeLaws.{into_flat_map}
use Rattle.ato_instance_tree.proofs.PlaceLaws.{place_in}
use Rattle.ato_instance_tree.proofs.SpotLaws.{IsIn, in_append, in_right}
use Rattle.ato_instance_tree.proofs.StatementLaws.{walked}
use Rattle.ato_links.specs.Parts.{text_at}
use Rattle.ato_elab.specs.Standing.{IsWhole}
use Rattle.ato_elab.specs.Standing as standing
use Rattle.ato_elab.proofs.AimLaws.{and_true}
use Rattle.ato_elab.proofs.AroundLaws.{around_in}
use Rattle.ato_elab.proofs.EntryList.{contains_in, in_contains}
use Rattle.ato_elab.proofs.WholeLaws.{whole}
use Rattle.ato_netlists.specs.Entries.{is_for, string_for, held_behind}
use Rattle.ato_netlists.specs.Known.{IsAt, IsSound}
use Rattle.ato_netlists.proofs.EntryLemmas.{AllHave, all_stay, all_reach}
use Rattle.ato_netlists.proofs.KnownLaws.{sound_tree, sound_names, sound_entry, sound_fault, sound_effective}
use Rattle.ato_netlists.proofs.PlaceLemmas.{ws, spot_where, one_path}

-- ---- lists

nil_of : {X Y : Type 0} (f : X → Y) (xs : List X) → map f xs ≡ [] → xs ≡ []
nil_of f [] e = refl
nil_of f (x ∷ xs) e = let long = ap length e in absurd (omega arith)

nil_at : {X Y : Type 0} (f : X → List Y) (x : X) (xs : List X) → IsIn x xs → flat_map f xs ≡ [] → f x ≡ []
nil_at f x [] h e = absurd h
nil_at f x (y ∷ ys) (inl same) e = ap f same ∙ nil_left (f y) (flat_map f ys) e
nil_at f x (y ∷ ys) (inr h) e = nil_at f x ys h (nil_right (f y) (flat_map f ys) e)

numbered_in : {X : Type 0} (n : ℕ) (x : X) (xs : List X) → IsIn x xs → (i : ℕ) × IsIn (i, x) (numbered n xs)
numbered_in n x [] h = absurd h
numbered_in n x (y ∷ ys) (inl same) = (n, inl (ap (λ z. (n, z)) same))
numbered_in n x (y ∷ ys) (inr h) = let more = numbered_in (suc n) x ys h in (more.0, inr more.1)

-- ---- no faults

no_late : (o : Option Late) → o ≡ None → first_said o ≡ None
no_late o e = ap first_said e

-- where no fault of paths stands, no occurrence has one
none_of : (files : List SourceFile) (entry : ℕ) (keys : Keys) (o : Occ) → path_faults files entry keys ≡ [] → IsIn o (order.occurrences files entry) → occ_faults files entry keys o ≡ []
none_of files entry keys o e h = let n = numbered_in 0 o (order.occurrences files entry) h in
    nil_of (λ (f : Fault). (n.0, f)) (occ_faults files entry keys o) (nil_at (numbered_faults files entry keys) (n.0, o) (numbered 0 (order.occurrences files entry)) n.1 e)

-- ---- a name to which a string is assigned is no member

abbrev second : List ℕ → List ℕ
second [] = []
second (x ∷ xs) = xs

-- The name is at the end of the path, and is no member.
IsFree : List SourceFile → ℕ → List ℕ → List ℕ → Named → Type 0
IsFree files entry end holder m = (end ≡ m.name.0 ∷ holder) × (member_at files entry holder m.name.0 ≡ None)

abbrev is_free : Found → Bool
is_free (free holder n) = true
is_free (lost at) = false
is_free (member_of holder n k) = false
is_free (pin_of holder n) = false

free_found : (path : List ℕ) (f : Found) → text_found path f ≡ [] → (holder : List ℕ) × (n : Named) × (f ≡ free holder n)
free_found path (free holder n) e = (holder, n, refl)
free_found path (lost at) e = let long = ap length e in absurd (omega arith)
free_found path (member_of holder n k) e = let long = ap length e in absurd (omega arith)
free_found path (pin_of holder n) e = let long = ap length e in absurd (omega arith)

abbrev holder_in : List ℕ → Found → List ℕ
holder_in other (free holder n) = holder
holder_in other _ = other

abbrev name_in : Named → Found → Named
name_in other (free holder n) = n
name_in other _ = other

end_free : (files : List SourceFile) (entry : ℕ) (path holder : List ℕ) (n m : Named) (k : Option Kind) → member_at files entry path n.name.0 ≡ k → end_found path n k ≡ free holder m
    → (n.name.0 ∷ path ≡ m.name.0 ∷ holder) × (member_at files entry holder m.name.0 ≡ None)
end_free files entry path holder n m None e f =
    let one : path ≡ holder = ap (holder_in path) f in
    let two : n ≡ m = ap (name_in n) f in (
      ap (λ (x : Named). x.name.0 ∷ path) two ∙ ap (λ (p : List ℕ). m.name.0 ∷ p) one,
      ap (λ (p : List ℕ). member_at files entry p m.name.0) (sym one) ∙ ap (λ (x : Named). member_at files entry path x.name.0) (sym two) ∙ e,
    )
end_free files entry path holder n m (Some k) e f = absurd (true≢false (sym (ap is_free f)))

on_free : (n next : Named) (k : Option Kind) (f : Found) (holder : List ℕ) (m : Named) → onward n next k f ≡ free holder m → f ≡ free holder m
on_free n next None f holder m e = absurd (true≢false (sym (ap is_free e)))
on_free n next (Some signal) f holder m e = absurd (true≢false (sym (ap is_free e)))
on_free n next (Some (instance type)) f holder m e = e
on_free n next (Some param) f holder m e = absurd (true≢false (sym (ap is_free e)))

steps_free : (files : List SourceFile) (entry : ℕ) (path holder : List ℕ) (n m : Named) (more : List Named) → find_steps files entry path n more ≡ free holder m
    → (down (n ∷ more) path ≡ m.name.0 ∷ holder) × (member_at files entry holder m.name.0 ≡ None)
steps_free files entry path holder n m [] e = end_free files entry path holder n m (member_at files entry path n.name.0) refl e
steps_free files entry path holder n m (next ∷ more) e =
    steps_free files entry (n.name.0 ∷ path) holder next m more (on_free n next (member_at files entry path n.name.0) (find_steps files entry (n.name.0 ∷ path) next more) holder m e)

from_free : (files : List SourceFile) (entry : ℕ) (path holder : List ℕ) (m : Named) (at : Span) (ns : List Named) → steps_found files entry path at ns ≡ free holder m
    → (down ns path ≡ m.name.0 ∷ holder) × (member_at files entry holder m.name.0 ≡ None)
from_free files entry path holder m at [] e = absurd (true≢false (sym (ap is_free e)))
from_free files entry path holder m at (n ∷ more) e = steps_free files entry path holder n m more e

abbrev first : ℕ → List ℕ → ℕ
first other [] = other
first other (x ∷ xs) = x

not_member : (files : List SourceFile) (entry name : ℕ) (path end holder : List ℕ) (m : Named) → end ≡ name ∷ path → (end ≡ m.name.0 ∷ holder) × (member_at files entry holder m.name.0 ≡ None)
    → member_at files entry path name ≡ None
not_member files entry name path end holder m e h =
    let same : name ∷ path ≡ m.name.0 ∷ holder = sym e ∙ h.0 in
    ap (λ (p : List ℕ). member_at files entry p name) (ap second same) ∙ ap (λ (x : ℕ). member_at files entry holder x) (ap (first name) same) ∙ h.1

text_free : (files : List SourceFile) (entry name : ℕ) (path from : List ℕ) (p : Path) (pin : Option TokenKind) → p.pin ≡ pin → (is_none pin && bytes_eq (down p.steps from) (name ∷ path)) ≡ true
    → text_found from (find_path files entry from p) ≡ [] → member_at files entry path name ≡ None
text_free files entry name path from p (Some kind) e t none = absurd (true≢false (sym t))
text_free files entry name path from p None e t none =
    let f = free_found from (find_path files entry from p) none in
    let at : steps_found files entry from p.at p.steps ≡ free f.0 f.1 = ap (λ (o : Option TokenKind). pin_ended files entry p.at o (steps_found files entry from p.at p.steps)) (sym e) ∙ f.2 in
    not_member files entry name path (down p.steps from) f.0 f.1 ((bytes_eq-Decides (down p.steps from) (name ∷ path)).0 t) (from_free files entry from f.0 f.1 p.at p.steps at)

module _ (files : List SourceFile) (entry : ℕ) (keys : Keys) (name : ℕ) (path : List ℕ) (q : Quoted) where
  of_value : (o : Occ) (p : Path) (v : Value) → text_of v ≡ Some q → leads p o.path (name ∷ path) ≡ true → target_faults files entry o.path p v ≡ [] → member_at files entry path name ≡ None
  of_value o p (value.Text text) e t none = text_free files entry name path o.path p p.pin refl t none
  of_value o p (value.Truth is at) e t none = absurd (none-some q e)
  of_value o p (value.Expr x) e t none = absurd (none-some q e)

  declared : (o : Occ) (n : Named) (v : Value) → text_of v ≡ Some q → declared_faults o.path n v ≡ [] → ⊥
  declared o n (value.Text text) e none = let long = ap length none in omega arith
  declared o n (value.Truth is at) e none = let long = ap length none in omega arith
  declared o n (value.Expr x) e none = none-some q e

  of_declared : (o : Occ) (n : Named) (v : Option Value) → option_and_then text_of v ≡ Some q
      → flat_map (λ w. declared_faults o.path n w ++ value_faults files entry keys o.path (member_of o.path n param) w) (option_to_list v) ≡ [] → ⊥
  of_declared o n None e none = none-some q e
  of_declared o n (Some w) e none = declared o n w e (nil_left (declared_faults o.path n w) (value_faults files entry keys o.path (member_of o.path n param) w)
      (nil_left (declared_faults o.path n w ++ value_faults files entry keys o.path (member_of o.path n param) w) [] none))

  of_stmt : (o : Occ) (s : Stmt) → assigns_of (name ∷ path) o.path s ≡ true → string_of s ≡ Some q → stmt_faults files entry keys o s ≡ [] → member_at files entry path name ≡ None
  of_stmt o (stmt.Assign p v at) t e none =
      let target = target_faults files entry o.path p v in
      let values = value_faults files entry keys o.path (find_path files entry o.path p) v in
      of_value o p v e (and_true (counts v) (leads p o.path (name ∷ path)) t).1
      (nil_left target values (nil_left (target ++ values) (flat_map (λ (text : Quoted). assigned_prefix files entry keys o text (find_path files entry o.path p)) (option_to_list (text_of v))) none))
  of_stmt o (stmt.Declare n unit v at) t e none = absurd (of_declared o n v e none)
  of_stmt o (stmt.Pass at) t e none = absurd (none-some q e)
  of_stmt o (stmt.Docs text) t e none = absurd (none-some q e)
  of_stmt o (stmt.Point p x at) t e none = absurd (none-some q e)
  of_stmt o (stmt.Connect p x at) t e none = absurd (none-some q e)
  of_stmt o (stmt.Replace p type at) t e none = absurd (none-some q e)
  of_stmt o (stmt.Make n type at) t e none = absurd (none-some q e)
  of_stmt o (stmt.Assert x c at) t e none = absurd (none-some q e)

-- ---- statements at and around an instance are occurrences

occ_in : (files : List SourceFile) (entry : ℕ) → IsWhole files entry → (number : ℕ) (path : List ℕ) → standing.IsAt files entry number path → (o : Occ) → IsIn o (occs_at files entry path) → IsIn o (order.occurrences files entry)
occ_in files entry whole number path at o h = into_flat_map (occs_at files entry) o path (instances files entry) (around_in files entry whole number path path at ([], refl)) h

walk_in : (files : List SourceFile) (entry : ℕ) → IsWhole files entry → (number : ℕ) (path : List ℕ) → standing.IsAt files entry number path → (o : Occ) → IsIn o (walk files entry path).stmts
    → IsIn o (order.occurrences files entry)
walk_in files entry whole number [] at o h = elim (in_append o (occs files [] (Some entry)) [] h) [ inl k ↦ occ_in files entry whole number [] at o k | inr k ↦ absurd k ]
walk_in files entry whole number (n ∷ path) at o h = elim (in_append o (occs files (n ∷ path) (type_at files entry (n ∷ path))) (walk files entry path).stmts h) [
  | inl k ↦ occ_in files entry whole number (n ∷ path) at o k
  | inr k ↦ let up = whole.around number n path at in walk_in files entry whole up.number path up.at o k
]

-- ---- the assignment that counts

-- The statement assigns the name, and is an occurrence.
record IsGiven (files : List SourceFile) (entry name : ℕ) (path : List ℕ) (o : Occ) : Type 0 where
  does : assigns (name ∷ path) o ≡ true
  there : IsIn o (order.occurrences files entry)

given_by : (files : List SourceFile) (entry name : ℕ) (path : List ℕ) (e : Option Occ) (o : Occ) → e ≡ Some o
    → MatchOption e (list_any (assigns (name ∷ path)) (walk files entry path).stmts ≡ false) (IsLastAssigning (walk files entry path).stmts (name ∷ path))
    → IsLastAssigning (walk files entry path).stmts (name ∷ path) o
given_by files entry name path None o e h = absurd (none-some o e)
given_by files entry name path (Some w) o e h = subst (IsLastAssigning (walk files entry path).stmts (name ∷ path)) (same_Some w o e) h

given : (files : List SourceFile) (entry name number : ℕ) (path : List ℕ) (o : Occ) → IsWhole files entry → standing.IsAt files entry number path → effective files entry name path ≡ Some o
    → IsGiven files entry name path o
given files entry name number path o is_whole at e =
    let last = given_by files entry name path (effective files entry name path) o e (is_last files entry name path) in
    record {
      does = last.does;
      there = walk_in files entry is_whole number path at o (subst (IsIn o) (sym last.is) (in_right o last.before (o ∷ last.after) (inl refl)));
    }

-- ---- numbers of names

number_of : (names : List (List ℕ)) (n : ℕ) (word : List ℕ) → NamesDiffer names → slice_get names n ≡ Some word → position (bytes_eq word) names ≡ Some n
number_of names n word differ e = position_first (bytes_eq word) names n word e ((bytes_eq-Decides word word).1 refl) (λ k y less at. by k y less at (bytes_eq word y) refl)
  where
    by : (k : ℕ) (y : List ℕ) → k < n → slice_get names k ≡ Some y → (b : Bool) → bytes_eq word y ≡ b → b ≡ false
    by k y less at false f = refl
    by k y less at true f = let same : word ≡ y = (bytes_eq-Decides word y).0 f in
        let one : k ≡ n = differ k n word (at ∙ ap Some (sym same)) e in absurd (omega arith)

named_at : (names : List (List ℕ)) (n : ℕ) (word : List ℕ) → position (bytes_eq word) names ≡ Some n → slice_get names n ≡ Some word
named_at names n word e =
    let found = position-Some (bytes_eq word) names n word e in
    slice_get-get_or names n word found.0 ∙ ap Some (sym ((bytes_eq-Decides word (get_or names n word)).0 found.1))

-- ---- the strings of a tree

module _ {program : Program} {tree : Tree} {entry : ℕ} (s : IsSound program tree entry) where
  is_whole : IsWhole program.files entry
  is_whole = whole program.files entry s.most (sound_entry s) (sound_fault s)

  no_faults : path_faults program.files entry (keys_of program.names) ≡ []
  no_faults = no_first (path_faults program.files entry (keys_of program.names)) (sym (sound_tree s).first ∙ no_late tree.first s.sound)

  statement : (i : ℕ) → statement_of program tree i ≡ option_map (λ (o : Occ). o.at.stmt) (slice_get (order.occurrences program.files entry) i)
  statement i = subst (λ (e : ℕ). statement_of program tree i ≡ option_map (λ (o : Occ). o.at.stmt) (slice_get (order.occurrences program.files e) i)) s.entry_is
      (walked s.most program s.name tree s.is i)

  module _ (number : ℕ) (path word : List ℕ) (at : IsAt program entry number path) where
    abbrev text : Option (List ℕ)
    text = text_at program.files entry program.names word path

    abbrev source : Quoted → List ℕ
    source q = source_text program.files q.contents

    here : where_at (ws s) number ≡ Some (steps program.names path)
    here = spot_where s number (made_at path) at.is

    stands : standing.IsAt program.files entry number path
    stands = record { is = at.is }

    -- where a string is assigned, the name is no member
    cut : (name : ℕ) (o : Occ) → effective program.files entry name path ≡ Some o → (r : Option Quoted) → string_of o.at.stmt ≡ r → (m : Option Kind) → member_at program.files entry path name ≡ m
        → r ≡ (if is_some m then None else r)
    cut name o e None f None g = refl
    cut name o e None f (Some k) g = refl
    cut name o e (Some q) f None g = refl
    cut name o e (Some q) f (Some k) g =
        let is = given program.files entry name number path o is_whole stands e in
        absurd (none-some k (sym (of_stmt program.files entry (keys_of program.names) name path q o o.at.stmt is.does f
        (none_of program.files entry (keys_of program.names) o no_faults is.there)) ∙ g))

    -- the string of an assignment that counts
    of_counts : (name : ℕ) (o : Occ) → effective program.files entry name path ≡ Some o → string_of o.at.stmt ≡ string_at program.files entry name path
    of_counts name o e =
        cut name o e (string_of o.at.stmt) refl (member_at program.files entry path name) refl
        ∙ ap (λ (w : Option Occ). if is_some (member_at program.files entry path name) then None else option_and_then (λ (w : Occ). string_of w.at.stmt) w) (sym e)

    of_entry : (e : Effective) → Counts program.files entry program.names tree e → is_for number word e ≡ true → string_for program tree e ≡ text
    of_entry e c t =
        let both = and_true (nat_eq number e.node) (bytes_eq word e.name) t in
        let same_node : number ≡ e.node = eqb-true number e.node both.0 in
        let same_name : word ≡ e.name = (bytes_eq-Decides word e.name).0 both.1 in
        let there : where_at (ws s) number ≡ Some (steps program.names c.path) = ap (where_at (ws s)) same_node ∙ c.at in
        let same : c.path ≡ path = one_path s number c.path path there (same_Some (steps program.names c.path) (steps program.names path) (sym there ∙ here)) in
        let last : effective program.files entry c.name path ≡ Some c.occ = ap (effective program.files entry c.name) (sym same) ∙ c.last in
        let number_is : position (bytes_eq word) program.names ≡ Some c.name = number_of program.names c.name word (sound_names s) (c.called ∙ ap Some (sym same_name)) in
        ap (λ (o : Option Stmt). option_map source (option_and_then string_of o)) (statement e.by ∙ ap (option_map (λ (o : Occ). o.at.stmt)) c.by)
        ∙ ap (option_map source) (of_counts c.name c.occ last)
        ∙ ap (λ (o : Option ℕ). option_map source (option_and_then (λ (name : ℕ). string_at program.files entry name path) o)) (sym number_is)

    all_have : AllHave program tree number word text tree.effective
    all_have e h t = of_entry e (((sound_effective s).each e).0 (in_contains e tree.effective h)) t

    -- a string that counts has an entry
    counted : (m : Option Kind) (e : Option Occ) (q : Quoted) → (if is_some m then None else option_and_then (λ (o : Occ). string_of o.at.stmt) e) ≡ Some q → (o : Occ) × (e ≡ Some o)
    counted (Some k) e q f = absurd (none-some q f)
    counted None None q f = absurd (none-some q f)
    counted None (Some o) q f = (o, refl)

    record HasEntry : Type 0 where
      of : Effective
      is_in : IsIn of tree.effective
      is_its : is_for number word of ≡ true

    has_entry : (name : ℕ) (q : Quoted) → position (bytes_eq word) program.names ≡ Some name → string_at program.files entry name path ≡ Some q → HasEntry
    has_entry name q e f =
        let o = counted (member_at program.files entry path name) (effective program.files entry name path) q f in
        let is = given program.files entry name number path o.0 is_whole stands o.1 in
        let by = place_in o.0 (order.occurrences program.files entry) is.there in
        let made : Effective = record { node = number; name = word; by = by.0 } in
        record {
          of = made;
          is_in = contains_in made tree.effective (((sound_effective s).each made).1 (record { path = path; name = name; occ = o.0; at = here; called = named_at program.names name word e; last = o.1; by = by.1 }));
          is_its = ap (λ (b : Bool). b && bytes_eq word word) (eq-eqb number number refl) ∙ (bytes_eq-Decides word word).1 refl;
        }

    by_text : (r : Option (List ℕ)) → text ≡ r → fold (held_behind program tree number word) None tree.effective ≡ text
    by_text None e = all_stay program tree number word text tree.effective None (sym e) all_have
    by_text (Some x) e =
        let q = mapped source (option_and_then (λ (name : ℕ). string_at program.files entry name path) (position (bytes_eq word) program.names)) x e in
        let n = among_then (λ (name : ℕ). string_at program.files entry name path) (position (bytes_eq word) program.names) q.0 q.1 in
        let has = has_entry n.0 q.0 n.1 n.2 in
        all_reach program tree number word text tree.effective has.of has.is_in has.is_its all_have

    pub strings_law : fold (held_behind program tree number word) None tree.effective ≡ text
    strings_law = by_text text refl
