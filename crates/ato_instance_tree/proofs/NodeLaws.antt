-- Which nodes there are: an instance's members, and what is below those that are instances.
use Rattle.std.proofs.Common.{◌≡◌, ℕ, zero, suc, Bool, true, false, true≢false, List, [], ◌∷◌, ◌⊎◌, inl, inr, refl, ap, sym, subst, ◌∙◌}
use Rattle.std.specs.List.{flat_map}
use Rattle.ato_ast.specs.declared.names.Named.{Named}
use Rattle.ato_files.specs.declared.program.SourceFile.{SourceFile}
use Rattle.ato_files.specs.Members.{signal, instance, param}
use Rattle.ato_instance_tree.specs.Members.{Member, pin, named, members}
use Rattle.ato_instance_tree.specs.Walk.{type_at}
use Rattle.ato_instance_tree.specs.Order.{Spot, leaf, made_at, member_spots, spots}
use Rattle.ato_instance_tree.specs.TreeFaults.{is_leaf}
use Rattle.ato_instance_tree.proofs.SpotLaws.{IsIn, in_left, in_right, in_flat_map}

pub into_flat_map : {X Y : Type 0} (f : X → List Y) (y : Y) (x : X) (xs : List X) → IsIn x xs → IsIn y (f x) → IsIn y (flat_map f xs)
into_flat_map f y x [] h k = absurd h
into_flat_map f y x (z ∷ xs) (inl e) k = in_left y (f z) (flat_map f xs) (subst (λ w. IsIn y (f w)) e k)
into_flat_map f y x (z ∷ xs) (inr h) k = in_right y (f z) (flat_map f xs) (into_flat_map f y x xs h k)

-- ---- what a node stands on

abbrev own_path : Spot → List ℕ
own_path (leaf path m) = path
own_path (made_at path) = path

abbrev own_member : Member → Spot → Member
own_member other (leaf path m) = m
own_member other (made_at path) = other

abbrev is_made : Spot → Bool
is_made (leaf path m) = false
is_made (made_at path) = true

-- The name is that of an instance among members.
pub record IsMadeIn (ms : List Member) (n : ℕ) : Type 0 where
  pub name : Named
  pub type : Named
  pub called : name.name.0 ≡ n
  pub is : IsIn (named name (instance type)) ms

-- a leaf is a member of an instance that is a node
pub record IsLeafIn (files : List SourceFile) (entry d : ℕ) (top path : List ℕ) (m : Member) : Type 0 where
  pub at : IsIn (made_at path) (spots files entry d top)
  pub is : IsIn m (members files (type_at files entry path))
  pub no_instance : is_leaf m ≡ true

leaf_of : (F : List ℕ → List Spot) (top path : List ℕ) (m o : Member) → IsIn (leaf path m) (member_spots F top o)
    → ((path ≡ top) × (m ≡ o) × (is_leaf o ≡ true)) ⊎ ((n : Named) × (type : Named) × (o ≡ named n (instance type)) × IsIn (leaf path m) (F (n.name.0 ∷ top)))
leaf_of F top path m (pin text) (inl e) = inl (ap own_path e, ap (own_member m) e, refl)
leaf_of F top path m (pin text) (inr h) = absurd h
leaf_of F top path m (named n signal) (inl e) = inl (ap own_path e, ap (own_member m) e, refl)
leaf_of F top path m (named n signal) (inr h) = absurd h
leaf_of F top path m (named n param) (inl e) = inl (ap own_path e, ap (own_member m) e, refl)
leaf_of F top path m (named n param) (inr h) = absurd h
leaf_of F top path m (named n (instance type)) h = inr (n, type, refl, h)

-- what is a node of an instance's member is one below the instance
deeper_in : (files : List SourceFile) (entry d : ℕ) (top : List ℕ) (n type : Named) (s : Spot) → IsIn (named n (instance type)) (members files (type_at files entry top))
    → IsIn s (spots files entry d (n.name.0 ∷ top)) → IsIn s (spots files entry (suc d) top)
deeper_in files entry d top n type s h k = inr (into_flat_map (member_spots (spots files entry d) top) s (named n (instance type)) (members files (type_at files entry top)) h k)

pub leaf_stands : (files : List SourceFile) (entry d : ℕ) (top path : List ℕ) (m : Member) → IsIn (leaf path m) (spots files entry d top) → IsLeafIn files entry d top path m
leaf_stands files entry zero top path m h = absurd h
leaf_stands files entry (suc d) top path m (inl e) = absurd (true≢false (sym (ap is_made e)))
leaf_stands files entry (suc d) top path m (inr h) =
    let from = in_flat_map (member_spots (spots files entry d) top) (leaf path m) (members files (type_at files entry top)) h in
    elim (leaf_of (spots files entry d) top path m from.0 from.2) [
      | inl e ↦ record {
        at = inl (ap made_at e.0);
        is = subst (λ p. IsIn m (members files (type_at files entry p))) (sym e.0) (subst (λ o. IsIn o (members files (type_at files entry top))) (sym e.1) from.1);
        no_instance = ap is_leaf e.1 ∙ e.2;
      }
      | inr k ↦ let more = leaf_stands files entry d (k.0.name.0 ∷ top) path m k.3 in record {
        at = deeper_in files entry d top k.0 k.1 (made_at path) (subst (λ o. IsIn o (members files (type_at files entry top))) k.2 from.1) more.at;
        is = more.is;
        no_instance = more.no_instance;
      }
    ]

-- an instance below another is a member of one that is a node
pub record IsInstanceIn (files : List SourceFile) (entry d : ℕ) (top path : List ℕ) (n : ℕ) : Type 0 where
  pub at : IsIn (made_at path) (spots files entry d top)
  pub is : IsMadeIn (members files (type_at files entry path)) n

made_of : (F : List ℕ → List Spot) (top path : List ℕ) (o : Member) → IsIn (made_at path) (member_spots F top o)
    → (n : Named) × (type : Named) × (o ≡ named n (instance type)) × IsIn (made_at path) (F (n.name.0 ∷ top))
made_of F top path (pin text) (inl e) = absurd (true≢false (ap is_made e))
made_of F top path (pin text) (inr h) = absurd h
made_of F top path (named n signal) (inl e) = absurd (true≢false (ap is_made e))
made_of F top path (named n signal) (inr h) = absurd h
made_of F top path (named n param) (inl e) = absurd (true≢false (ap is_made e))
made_of F top path (named n param) (inr h) = absurd h
made_of F top path (named n (instance type)) h = (n, type, refl, h)

abbrev head_or : ℕ → List ℕ → ℕ
head_or other [] = other
head_or other (n ∷ path) = n

abbrev rest_or : List ℕ → List ℕ
rest_or [] = []
rest_or (n ∷ path) = path

pub instance_stands : (files : List SourceFile) (entry d : ℕ) (top path : List ℕ) (n : ℕ) → IsIn (made_at (n ∷ path)) (spots files entry d top)
    → (n ∷ path ≡ top) ⊎ IsInstanceIn files entry d top path n
instance_stands files entry zero top path n h = absurd h
instance_stands files entry (suc d) top path n (inl e) = inl (ap own_path e)
instance_stands files entry (suc d) top path n (inr h) =
    let from = in_flat_map (member_spots (spots files entry d) top) (made_at (n ∷ path)) (members files (type_at files entry top)) h in
    let k = made_of (spots files entry d) top (n ∷ path) from.0 from.2 in
    let is = subst (λ o. IsIn o (members files (type_at files entry top))) k.2 from.1 in
    inr (elim (instance_stands files entry d (k.0.name.0 ∷ top) path n k.3) [
      | inl e ↦ record {
        at = inl (ap made_at (ap rest_or e));
        is = record { name = k.0; type = k.1; called = sym (ap (head_or 0) e); is = subst (λ p. IsIn (named k.0 (instance k.1)) (members files (type_at files entry p))) (sym (ap rest_or e)) is };
      }
      | inr more ↦ record { at = deeper_in files entry d top k.0 k.1 (made_at path) is more.at; is = more.is }
    ])

-- ---- and what stands on it

-- the members of an instance that is a node are nodes, at the same depth or one deeper
leaf_itself : (F : List ℕ → List Spot) (path : List ℕ) (m : Member) → is_leaf m ≡ true → IsIn (leaf path m) (member_spots F path m)
leaf_itself F path (pin text) e = inl refl
leaf_itself F path (named n signal) e = inl refl
leaf_itself F path (named n param) e = inl refl
leaf_itself F path (named n (instance type)) e = absurd (true≢false (sym e))

pub has_leaf : (files : List SourceFile) (entry d : ℕ) (top path : List ℕ) (m : Member) → IsLeafIn files entry d top path m → IsIn (leaf path m) (spots files entry d top)
has_leaf files entry d top path m h = go d top h.at where
  go : (d : ℕ) (top : List ℕ) → IsIn (made_at path) (spots files entry d top) → IsIn (leaf path m) (spots files entry d top)
  go zero top k = absurd k
  go (suc d) top (inl e) = inr (into_flat_map (member_spots (spots files entry d) top) (leaf path m) m (members files (type_at files entry top))
      (subst (λ p. IsIn m (members files (type_at files entry p))) (ap own_path e) h.is)
      (subst (λ p. IsIn (leaf p m) (member_spots (spots files entry d) top m)) (sym (ap own_path e)) (leaf_itself (spots files entry d) top m h.no_instance)))
  go (suc d) top (inr k) =
      let from = in_flat_map (member_spots (spots files entry d) top) (made_at path) (members files (type_at files entry top)) k in
      let made = made_of (spots files entry d) top path from.0 from.2 in
      deeper_in files entry d top made.0 made.1 (leaf path m) (subst (λ o. IsIn o (members files (type_at files entry top))) made.2 from.1) (go d (made.0.name.0 ∷ top) made.3)

pub has_instance : (files : List SourceFile) (entry d : ℕ) (top path : List ℕ) (n : ℕ) → IsInstanceIn files entry d top path n
    → IsIn (made_at (n ∷ path)) (spots files entry (suc d) top)
has_instance files entry d top path n h = go d top h.at where
  go : (d : ℕ) (top : List ℕ) → IsIn (made_at path) (spots files entry d top) → IsIn (made_at (n ∷ path)) (spots files entry (suc d) top)
  go zero top k = absurd k
  go (suc d) top (inl e) = deeper_in files entry (suc d) top h.is.name h.is.type (made_at (n ∷ path))
      (subst (λ p. IsIn (named h.is.name (instance h.is.type)) (members files (type_at files entry p))) (ap own_path e) h.is.is)
      (subst (λ q. IsIn (made_at (n ∷ path)) (spots files entry (suc d) q)) (ap (λ k. k ∷ path) (sym h.is.called) ∙ ap (λ p. h.is.name.name.0 ∷ p) (ap own_path e)) (inl refl))
  go (suc d) top (inr k) =
      let from = in_flat_map (member_spots (spots files entry d) top) (made_at path) (members files (type_at files entry top)) k in
      let made = made_of (spots files entry d) top path from.0 from.2 in
      deeper_in files entry (suc d) top made.0 made.1 (made_at (n ∷ path)) (subst (λ o. IsIn o (members files (type_at files entry top))) made.2 from.1) (go d (made.0.name.0 ∷ top) made.3)
