-- An instance stands in the tree behind those around it, and stands once.
use Rattle.std.proofs.Common.{◌≡◌, ℕ, zero, suc, Bool, true, false, true≢false, List, [], ◌∷◌, ◌++◌, length, length-append, drop, get_or, Option, Some, None, ◌⊎◌, inl, inr, refl, ap, sym, subst, ◌∙◌, append_assoc, arith}
use Rattle.std.specs.Prelude.{⊤, slice_get, filter_map}
use Rattle.std.specs.List.{flat_map}
use Rattle.std.proofs.lemmas.Bool.{eq-eqb}
use Rattle.ato_ast.specs.declared.names.Named.{Named}
use Rattle.ato_files.specs.declared.program.SourceFile.{SourceFile}
use Rattle.ato_files.specs.Blocks.{blocks_of}
use Rattle.ato_files.specs.Members.{signal, instance, param}
use Rattle.ato_instance_tree.specs.Members.{Member, pin, named, same_member, members}
use Rattle.ato_instance_tree.specs.Walk.{type_at}
use Rattle.ato_instance_tree.specs.Order.{Spot, leaf, made_at, member_spots, spots, nodes, instance_of, instances}
use Rattle.ato_instance_tree.proofs.SpotLaws.{IsIn, Differ, Under, in_append, in_flat_map, at_in, members_differ, under_more, not_under, spot_path, from_member, spots_under}
use Rattle.ato_elab.specs.Standing.{IsAt, IsWhole, StandsIn}

-- ---- paths

pub under_trans : (a b c : List ℕ) → Under a b → Under b c → Under a c
under_trans a b c h k = (k.0 ++ h.0, k.1 ∙ ap (λ (x : List ℕ). k.0 ++ x) h.1 ∙ sym (append_assoc k.0 h.0 a))

same_step : (path : List ℕ) (n m : ℕ) (xs ys : List ℕ) → xs ++ n ∷ path ≡ ys ++ m ∷ path → n ≡ m
same_step path n m [] [] e = ap (λ (zs : List ℕ). get_or zs 0 n) e
same_step path n m [] (y ∷ ys) e = let long = ap length e in let sum = length-append ys (m ∷ path) in absurd (omega arith)
same_step path n m (x ∷ xs) [] e = let long = ap length e in let sum = length-append xs (n ∷ path) in absurd (omega arith)
same_step path n m (x ∷ xs) (y ∷ ys) e = same_step path n m xs ys (ap (drop 1) e)

-- of two paths in front of one path each is in front of the other, or the same
pub compared : (path a b f g : List ℕ) → path ≡ f ++ a → path ≡ g ++ b → Under a b ⊎ Under b a
compared path a b [] g e k = inr (g, sym e ∙ k)
compared path a b (x ∷ f) [] e k = inl (x ∷ f, sym k ∙ e)
compared path a b (x ∷ f) (y ∷ g) e k = compared (drop 1 path) a b f g (ap (drop 1) e) (ap (drop 1) k)

-- ---- order

-- None of these nodes is the node of an instance around that of the first one, or of the same.
abbrev pub IsBefore : Spot → List Spot → Type 0
IsBefore x ys = (path other : List ℕ) → x ≡ made_at path → IsIn (made_at other) ys → Under other path → ⊥

abbrev pub AreOrdered : List Spot → Type 0
AreOrdered [] = ⊤
AreOrdered (x ∷ xs) = IsBefore x xs × AreOrdered xs

ordered_append : (xs ys : List Spot) → AreOrdered xs → AreOrdered ys → ((path other : List ℕ) → IsIn (made_at path) xs → IsIn (made_at other) ys → Under other path → ⊥) → AreOrdered (xs ++ ys)
ordered_append [] ys a b apart = b
ordered_append (x ∷ xs) ys a b apart = (
  (λ p q e h u. elim (in_append (made_at q) xs ys h) [ inl k ↦ a.0 p q e k u | inr k ↦ apart p q (inl (sym e)) k u ]),
  ordered_append xs ys a.1 b (λ p q h k u. apart p q (inr h) k u),
)

abbrev is_made : Spot → Bool
is_made (made_at path) = true
is_made (leaf path m) = false

-- an instance among the nodes of a member
made_in : (F : List ℕ → List Spot) (path : List ℕ) (m : Member) (p : List ℕ) → IsIn (made_at p) (member_spots F path m)
    → (n : Named) × (type : Named) × (m ≡ named n (instance type)) × IsIn (made_at p) (F (n.name.0 ∷ path))
made_in F path m p h = elim (from_member F path m (made_at p) h) [
  | inl e ↦ absurd (true≢false (ap is_made e))
  | inr k ↦ k
]

-- all instances at and below a path are under it
abbrev AreBelow : (List ℕ → List Spot) → List ℕ → Type 0
AreBelow F path = (n : ℕ) (p : List ℕ) → IsIn (made_at p) (F (n ∷ path)) → Under (n ∷ path) p

meet : (F : List ℕ → List Spot) (path : List ℕ) (m o : Member) (p q : List ℕ) → AreBelow F path → IsIn (made_at p) (member_spots F path m) → IsIn (made_at q) (member_spots F path o)
    → Under q p → same_member o m ≡ true
meet F path m o p q below h k u =
    let a = made_in F path m p h in let b = made_in F path o q k in
    let one = below a.0.name.0 p a.3 in
    let two = under_trans (b.0.name.0 ∷ path) q p (below b.0.name.0 q b.3) u in
    ap (λ (x : Member). same_member x m) b.2 ∙ ap (same_member (named b.0 (instance b.1))) a.2
    ∙ eq-eqb b.0.name.0 a.0.name.0 (same_step path b.0.name.0 a.0.name.0 two.0 one.0 (sym two.1 ∙ one.1))

ordered_member : (F : List ℕ → List Spot) (path : List ℕ) (m : Member) → ((n : ℕ) → AreOrdered (F (n ∷ path))) → AreOrdered (member_spots F path m)
ordered_member F path (pin text) all = ((λ p q e h u. h), tt)
ordered_member F path (named n signal) all = ((λ p q e h u. h), tt)
ordered_member F path (named n param) all = ((λ p q e h u. h), tt)
ordered_member F path (named n (instance type)) all = all n.name.0

ordered_members : (F : List ℕ → List Spot) (path : List ℕ) (ms : List Member) → AreBelow F path → ((n : ℕ) → AreOrdered (F (n ∷ path))) → Differ ms → AreOrdered (flat_map (member_spots F path) ms)
ordered_members F path [] below all differ = tt
ordered_members F path (m ∷ ms) below all differ =
    ordered_append (member_spots F path m) (flat_map (member_spots F path) ms) (ordered_member F path m all) (ordered_members F path ms below all differ.1)
    (λ p q h k u. let o = in_flat_map (member_spots F path) (made_at q) ms k in true≢false (sym (meet F path m o.0 p q below h o.2 u) ∙ differ.0 o.0 o.1))

-- no instance below a path is at it, or around it
inside : (F : List ℕ → List Spot) (path : List ℕ) (m : Member) (q : List ℕ) → AreBelow F path → IsIn (made_at q) (member_spots F path m) → Under q path → ⊥
inside F path m q below h u = let k = made_in F path m q h in not_under k.0.name.0 path (under_trans (k.0.name.0 ∷ path) q path (below k.0.name.0 q k.3) u)

pub spots_ordered : (files : List SourceFile) (entry d : ℕ) (path : List ℕ) → AreOrdered (spots files entry d path)
spots_ordered files entry zero path = tt
spots_ordered files entry (suc d) path = (
  (λ p q e h u. let m = in_flat_map (member_spots (spots files entry d) path) (made_at q) (members files (type_at files entry path)) h in
      inside (spots files entry d) path m.0 q (λ n r k. spots_under files entry d (n ∷ path) (made_at r) k) m.2 (subst (Under q) (sym (ap spot_path e)) u)),
  ordered_members (spots files entry d) path (members files (type_at files entry path)) (λ n r k. spots_under files entry d (n ∷ path) (made_at r) k)
      (λ n. spots_ordered files entry d (n ∷ path)) (members_differ files (type_at files entry path)),
)

-- ---- paths of instances

-- None of the paths behind another one is in front of it, or the same.
abbrev pub InOrder : List (List ℕ) → Type 0
InOrder [] = ⊤
InOrder (p ∷ ps) = ((q : List ℕ) → IsIn q ps → Under q p → ⊥) × InOrder ps

made_there : (q : List ℕ) (ss : List Spot) → IsIn q (filter_map instance_of ss) → IsIn (made_at q) ss
made_there q [] h = absurd h
made_there q (leaf path m ∷ ss) h = inr (made_there q ss h)
made_there q (made_at path ∷ ss) (inl e) = inl (ap made_at e)
made_there q (made_at path ∷ ss) (inr h) = inr (made_there q ss h)

there_made : (q : List ℕ) (ss : List Spot) → IsIn (made_at q) ss → IsIn q (filter_map instance_of ss)
there_made q [] h = absurd h
there_made q (leaf path m ∷ ss) (inl e) = absurd (true≢false (ap is_made e))
there_made q (leaf path m ∷ ss) (inr h) = there_made q ss h
there_made q (made_at path ∷ ss) (inl e) = inl (ap spot_path e)
there_made q (made_at path ∷ ss) (inr h) = inr (there_made q ss h)

in_order : (ss : List Spot) → AreOrdered ss → InOrder (filter_map instance_of ss)
in_order [] h = tt
in_order (leaf path m ∷ ss) h = in_order ss h.1
in_order (made_at path ∷ ss) h = ((λ q k u. h.0 path q refl (made_there q ss k) u), in_order ss h.1)

pub instances_ordered : (files : List SourceFile) (entry : ℕ) → InOrder (instances files entry)
instances_ordered files entry = in_order (nodes files entry) (spots_ordered files entry (suc (length (blocks_of files))) [])

-- what is around an instance is an instance
pub front_at : (files : List SourceFile) (entry : ℕ) → IsWhole files entry → (front path : List ℕ) (number : ℕ) → IsAt files entry number (front ++ path) → (k : ℕ) × IsAt files entry k path
front_at files entry whole [] path number at = (number, at)
front_at files entry whole (n ∷ front) path number at = let s = whole.around number n (front ++ path) at in front_at files entry whole front path s.number s.at

pub around_in : (files : List SourceFile) (entry : ℕ) → IsWhole files entry → (number : ℕ) (path q : List ℕ) → IsAt files entry number path → Under q path → IsIn q (instances files entry)
around_in files entry whole number path q at u =
    let k = front_at files entry whole u.0 q number (subst (IsAt files entry number) u.1 at) in
    there_made q (nodes files entry) (at_in (made_at q) (nodes files entry) k.0 k.1.is)
