-- The least numbers by the joins of a project are those of its classes.
use Rattle.std.proofs.Common.{◌≡◌, ℕ, ◌<◌, ◌≤◌, true, true≢false, List, [], ◌∷◌, length, get_or, Option, Some, None, refl, ap, sym, ◌∙◌, subst, arith, inl, inr}
use Rattle.std.specs.Prelude.{Contains, slice_get, option_to_list, is_some, nat_lt}
use Rattle.std.specs.List.{flat_map, list_all, position_or_len, slice_index}
use Rattle.std.proofs.lemmas.Bool.{and_parts, and_from, false_from_ne_true}
use Rattle.std.proofs.lemmas.Option.{cond_some, slice_get_within, slice_get-get_or, get_or_from_slice_get}
use Rattle.std.proofs.lemmas.List.Elements.{Contains-append_left, Contains-append_right, Contains-append_cases}
use Rattle.std.proofs.lemmas.List.Quantifiers.{position-Some}
use Rattle.std.proofs.lemmas.List.Sums.{position_or_len_is}
use Rattle.std.proofs.lemmas.Slice.Eq.{bytes_eq-Decides}
use Rattle.std.specs.Str.{bytes_eq}
use Rattle.ato_base.specs.Joined.{Joined, same}
use Rattle.ato_base.proofs.JoinedLaws.{joined_map}
use Rattle.ato_base.proofs.ClassLaws.{only, first, nowhere}
use Rattle.ato_files.specs.declared.program.SourceFile.{SourceFile}
use Rattle.ato_files.specs.Lists.{Among, here, there}
use Rattle.ato_instance_tree.specs.Order.{Spot, made_at, nodes}
use Rattle.ato_instance_tree.specs.Laws.{SpotPlace, at_names, at_label, place_of}
use Rattle.ato_instance_tree.proofs.SpotLaws.{no_node_twice}
use Rattle.ato_nets.specs.ClassNumbers.{IsJoin, AreClassNumbers}
use Rattle.ato_links.specs.Links.{Link, join, clash, Electrical, links}
use Rattle.ato_links.specs.Joins.{IsDirect, AreJoinedNodes}
use Rattle.ato_links.specs.NodeJoins.{same_place, number_at, both, link_numbers, node_joins, is_placed, are_placed, LeastAreClasses}

-- ---- places

place_tells : (a b : SpotPlace) → same_place a b ≡ true → a ≡ b
place_tells (at_names p) (at_names q) e = ap at_names ((bytes_eq-Decides p q).0 e)
place_tells (at_names p) (at_label q b) e = absurd (true≢false (sym e))
place_tells (at_label p a) (at_names q) e = absurd (true≢false (sym e))
place_tells (at_label p a) (at_label q b) e =
    let it = and_parts (bytes_eq p q) (bytes_eq a b) e in
    ap (λ x. at_label x a) ((bytes_eq-Decides p q).0 it.0) ∙ ap (at_label q) ((bytes_eq-Decides a b).0 it.1)

pub place_same : (a : SpotPlace) → same_place a a ≡ true
place_same (at_names p) = (bytes_eq-Decides p p).1 refl
place_same (at_label p a) = and_from (bytes_eq p p) (bytes_eq a a) ((bytes_eq-Decides p p).1 refl) ((bytes_eq-Decides a a).1 refl)

-- ---- two numbers

data AreBoth (o p : Option ℕ) : Type 0 where
  are_both : (x y : ℕ) → o ≡ Some x → p ≡ Some y → option_to_list (both o p) ≡ (x, y) ∷ [] → AreBoth o p

both_there : (o p : Option ℕ) → is_some (both o p) ≡ true → AreBoth o p
both_there None p e = absurd (true≢false (sym e))
both_there (Some x) None e = absurd (true≢false (sym e))
both_there (Some x) (Some y) e = are_both x y refl refl refl

both_had : (o p : Option ℕ) (j : ℕ × ℕ) → Contains (option_to_list (both o p)) j → (o ≡ Some j.0) × (p ≡ Some j.1)
both_had None p j m = absurd (nowhere j m)
both_had (Some x) None j m = absurd (nowhere j m)
both_had (Some x) (Some y) j m = let e = only (x, y) j m in (ap (λ k. Some k.0) (sym e), ap (λ k. Some k.1) (sym e))

-- ---- joins

module _ (spots : List Spot) where
  -- the number of the node at a place, or how many there are
  abbrev number_of : SpotPlace → ℕ
  number_of place = position_or_len (λ s. same_place (place_of s) place) spots

  abbrev spot_of : ℕ → Spot
  spot_of i = get_or spots i (made_at [])

  found : (place : SpotPlace) (i : ℕ) → number_at spots place ≡ Some i → (number_of place ≡ i) × (i < length spots) × (place_of (spot_of i) ≡ place)
  found place i e =
      let it = position-Some (λ s. same_place (place_of s) place) spots i (made_at []) e in
      ((cond_some (nat_lt (number_of place) (length spots)) (number_of place) i e).1, it.0, place_tells (place_of (spot_of i)) place it.1)

  pair_there : (ls : List Link) (a b : SpotPlace) → list_all (is_placed spots) ls ≡ true → Among (join a b) ls
      → Contains (flat_map (link_numbers spots) ls) (number_of a, number_of b)
  pair_there [] a b e m = elim m [ ]
  pair_there (l ∷ ls) a b e here = at_once (both_there (number_at spots a) (number_at spots b) (and_parts (is_placed spots (join a b)) (list_all (is_placed spots) ls) e).0)
    where
      at_once : AreBoth (number_at spots a) (number_at spots b) → Contains (flat_map (link_numbers spots) (join a b ∷ ls)) (number_of a, number_of b)
      at_once (are_both x y f g h) = Contains-append_left (option_to_list (both (number_at spots a) (number_at spots b))) (flat_map (link_numbers spots) ls) (number_of a, number_of b)
          (subst (λ l. Contains {X = ℕ × ℕ} l (number_of a, number_of b)) (sym h)
          (subst (λ z. Contains {X = ℕ × ℕ} ((x, y) ∷ []) (z, number_of b)) (sym (found a x f).0)
          (subst (λ z. Contains {X = ℕ × ℕ} ((x, y) ∷ []) (x, z)) (sym (found b y g).0) (first (x, y) []))))
  pair_there (l ∷ ls) a b e (there m) = Contains-append_right (link_numbers spots l) (flat_map (link_numbers spots) ls) (number_of a, number_of b)
      (pair_there ls a b (and_parts (is_placed spots l) (list_all (is_placed spots) ls) e).1 m)

  pair_had : (ls : List Link) (p q : ℕ) → Contains (flat_map (link_numbers spots) ls) (p, q)
      → Among (join (place_of (spot_of p)) (place_of (spot_of q))) ls × (q < length spots)
  pair_had [] p q m = absurd (nowhere (p, q) m)
  pair_had (clash ∷ ls) p q m = let it = pair_had ls p q m in (there it.0, it.1)
  pair_had (join a b ∷ ls) p q m = elim (Contains-append_cases (option_to_list (both (number_at spots a) (number_at spots b))) (flat_map (link_numbers spots) ls) (p, q) m) [
    | inl h ↦
        let e = both_had (number_at spots a) (number_at spots b) (p, q) h in
        let f = found a p e.0 in
        let g = found b q e.1 in
        (subst (λ x. Among (join x (place_of (spot_of q))) (join a b ∷ ls)) (sym f.2) (subst (λ y. Among (join a y) (join a b ∷ ls)) (sym g.2) here), g.1)
    | inr h ↦ let it = pair_had ls p q h in (there it.0, it.1)
  ]

module _ (files : List SourceFile) (entry : ℕ) (library : Electrical) (of : List ℕ) (placed : are_placed files entry library ≡ true)
    (are : AreClassNumbers (length (nodes files entry)) (node_joins files entry library) of) where
  -- the node at its own place is found
  own_number : (i : ℕ) (s : Spot) → slice_get (nodes files entry) i ≡ Some s → number_of (nodes files entry) (place_of s) ≡ i
  own_number i s e =
      let within = slice_get_within (nodes files entry) i s e in
      position_or_len_is (λ t. same_place (place_of t) (place_of s)) (nodes files entry) i (made_at []) (omega (arith, within))
      (λ k l. false_from_ne_true (same_place (place_of (spot_of (nodes files entry) k)) (place_of s)) (λ t.
      let same = no_node_twice files entry k i (spot_of (nodes files entry) k) s (slice_get-get_or (nodes files entry) k (made_at []) (omega (arith, l, within))) e
      (place_tells (place_of (spot_of (nodes files entry) k)) (place_of s) t) in
      omega (arith, same, l)))
      (λ l. subst (λ t. same_place (place_of t) (place_of s) ≡ true) (sym (get_or_from_slice_get (nodes files entry) i s (made_at []) e)) (place_same (place_of s)))

  inside : (p : ℕ) → p < length (nodes files entry) → slice_index of p < length (nodes files entry)
  inside p l = omega (arith, l, are.least p p l l same)

  joined : (p : ℕ) → p < length (nodes files entry) → AreJoinedNodes files entry library p (slice_index of p)
  joined p l = record {
    one = spot_of (nodes files entry) p;
    other = spot_of (nodes files entry) (slice_index of p);
    is_one = slice_get-get_or (nodes files entry) p (made_at []) l;
    is_other = slice_get-get_or (nodes files entry) (slice_index of p) (made_at []) (inside p l);
    joined = joined_map (IsJoin (node_joins files entry library)) (IsDirect files entry library) (λ i. place_of (spot_of (nodes files entry) i))
        (λ x y m. (pair_had (nodes files entry) (links files entry library) x y m).0) (are.joined p l);
  }

  least : (p q : ℕ) → AreJoinedNodes files entry library p q → slice_index of p ≤ q
  least p q j =
      let chain = joined_map (IsDirect files entry library) (IsJoin (node_joins files entry library)) (number_of (nodes files entry))
      (λ a b m. pair_there (nodes files entry) (links files entry library) a b placed m) j.joined in
      are.least p q (slice_get_within (nodes files entry) p j.one j.is_one) (slice_get_within (nodes files entry) q j.other j.is_other)
      (subst (λ x. Joined (IsJoin (node_joins files entry library)) x q) (own_number p j.one j.is_one)
      (subst (λ y. Joined (IsJoin (node_joins files entry library)) (number_of (nodes files entry) (place_of j.one)) y) (own_number q j.other j.is_other) chain))

pub least_are_classes : LeastAreClasses
least_are_classes files entry library of placed are = record {
  size = are.size;
  joined = joined files entry library of placed are;
  least = least files entry library of placed are;
}
