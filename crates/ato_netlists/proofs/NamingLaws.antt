-- The text of a path is put together name by name.
use Rattle.std.proofs.Common.{◌≡◌, ◌<◌, ◌≤◌, ℕ, zero, suc, ◌+◌, Bool, true, false, nat_eq, List, [], ◌∷◌, ◌++◌, length, get_or, take, Some, refl, sym, ap, subst, ◌∙◌, append_assoc, arith}
use Rattle.std.specs.Prelude.{map, slice_get, unwrap_or, if◌then◌else◌}
use Rattle.std.specs.List.{join_with_byte}
use Rattle.std.proofs.lemmas.Bool.{eqb-true}
use Rattle.std.proofs.lemmas.List.{map-append, map_more, take_all}
use Rattle.ato_base.specs.declared.name_table.Name.{Name}
use Rattle.ato_files.specs.declared.program.Program.{Program}
use Rattle.ato_files.specs.declared.program.SourceFile.{SourceFile}
use Rattle.ato_files.specs.Programs.{NamesDiffer}
use Rattle.ato_instance_tree.specs.declared.tree.Node.{Node}
use Rattle.ato_instance_tree.specs.declared.tree.Tree.{Tree}
use Rattle.ato_instance_tree.specs.Order.{made_at, nodes}
use Rattle.ato_instance_tree.specs.TreeFaults.{shown}
use Rattle.ato_instance_tree.specs.Trees.{tree_said, spot_said}
use Rattle.ato_links.specs.Parts.{names_from_root, path_text}
use Rattle.ato_netlists.specs.Known.{IsAt, IsSound}
use Rattle.ato_netlists.specs.Naming.{name_text}
use Rattle.ato_netlists.proofs.KnownLaws.{sound_names, sound_tree}

-- what stands before a piece of a path
abbrev pub point : Bool → List ℕ
point first = if first then [] else 46 ∷ []

join_push : (y : List ℕ) (xs : List (List ℕ)) (x : List ℕ) → join_with_byte 46 (y ∷ xs ++ x ∷ []) ≡ (join_with_byte 46 (y ∷ xs) ++ 46 ∷ []) ++ x
join_push y [] x = sym (append_assoc y (46 ∷ []) x)
join_push y (z ∷ xs) x =
    let more = join_with_byte 46 (z ∷ xs) in
    ap (λ (l : List ℕ). y ++ 46 ∷ l) (join_push z xs x ∙ append_assoc more (46 ∷ []) x)
    ∙ sym (append_assoc y (46 ∷ more) (46 ∷ x)) ∙ sym (append_assoc (y ++ 46 ∷ more) (46 ∷ []) x)

never_first : (n : ℕ) → nat_eq (suc n) 0 ≡ false
never_first n = by (nat_eq (suc n) 0) refl
  where
    by : (b : Bool) → nat_eq (suc n) 0 ≡ b → b ≡ false
    by true e = let none = eqb-true (suc n) 0 e in absurd (omega arith)
    by false e = refl

joined : (f : Name → List ℕ) (xs : List Name) (i : ℕ) (x : List ℕ) → i < length xs
    → join_with_byte 46 (map f (take i xs) ++ x ∷ []) ≡ (join_with_byte 46 (map f (take i xs)) ++ point (nat_eq i 0)) ++ x
joined f [] i x h = absurd (omega arith)
joined f (n ∷ xs) zero x h = refl
joined f (n ∷ xs) (suc i) x h =
    join_push (f n) (map f (take i xs)) x
    ∙ ap (λ (b : Bool). (join_with_byte 46 (f n ∷ map f (take i xs)) ++ point b) ++ x) (sym (never_first i))

-- one name more
pub text_more : (names : List (List ℕ)) (xs : List Name) (i : ℕ) (d name : Name) (before after : List ℕ) → i < length xs → name ≡ get_or xs i d
    → before ≡ join_with_byte 46 (map (name_text names) (take i xs)) → after ≡ (before ++ point (nat_eq i 0)) ++ name_text names name
    → after ≡ join_with_byte 46 (map (name_text names) (take (i + 1) xs))
text_more names xs i d name before after h at was is =
    is ∙ ap (λ (l : List ℕ). (l ++ point (nat_eq i 0)) ++ name_text names name) was
    ∙ sym (joined (name_text names) xs i (name_text names name) h)
    ∙ ap (λ (n : Name). join_with_byte 46 (map (name_text names) (take i xs) ++ name_text names n ∷ [])) at
    ∙ ap (join_with_byte 46) (sym (map_more (name_text names) xs i d h))

-- the texts of the names of a path
shown_texts : (names : List (List ℕ)) (path : List ℕ) → map (name_text names) (shown path) ≡ names_from_root names path
shown_texts names [] = refl
shown_texts names (n ∷ path) =
    map-append (name_text names) (shown path) (record { 0 = n } ∷ [])
    ∙ ap (λ (l : List (List ℕ)). l ++ unwrap_or (slice_get names n) [] ∷ []) (shown_texts names path)

-- the whole path
pub text_whole : (names : List (List ℕ)) (ns : List Node) (number : ℕ) (found xs : List Name) (i : ℕ) (text : List ℕ) → xs ≡ found
    → ((files : List SourceFile) (entry : ℕ) (path : List ℕ) → NamesDiffer names → tree_said ns ≡ map (spot_said files entry names) (nodes files entry)
    → slice_get (nodes files entry) number ≡ Some (made_at path) → found ≡ shown path)
    → length xs ≤ i → text ≡ join_with_byte 46 (map (name_text names) (take i xs))
    → (program : Program) (tree : Tree) (entry : ℕ) (path : List ℕ) → IsSound program tree entry → names ≡ program.names → ns ≡ tree.nodes → IsAt program entry number path
    → text ≡ path_text program.names path
text_whole names ns number found xs i text same are long is program tree entry path s same_names same_nodes at =
    let differ : NamesDiffer names = subst NamesDiffer (sym same_names) (sound_names s) in
    let told : tree_said ns ≡ map (spot_said program.files entry names) (nodes program.files entry)
    = ap tree_said same_nodes ∙ (sound_tree s).told ∙ ap (λ (ts : List (List ℕ)). map (spot_said program.files entry ts) (nodes program.files entry)) (sym same_names) in
    is ∙ ap (λ (l : List Name). join_with_byte 46 (map (name_text names) l)) (take_all i xs long ∙ same ∙ are program.files entry path differ told at.is)
    ∙ ap (join_with_byte 46) (shown_texts names path) ∙ ap (λ (ts : List (List ℕ)). path_text ts path) same_names
