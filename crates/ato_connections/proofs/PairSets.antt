-- Pairs of joined numbers as sets: what a flood gives depends on them alone.
use Rattle.std.proofs.Common.{◌≡◌, ℕ, true, true≢false, List, [], ◌∷◌, get_or, Option, Some, None, ap, sym, subst, ◌∙◌, inl, inr}
use Rattle.std.specs.Prelude.{Contains, option_to_list}
use Rattle.std.specs.List.{flat_map}
use Rattle.std.specs.Str.{bytes_eq}
use Rattle.std.proofs.lemmas.Bool.{and_parts}
use Rattle.std.proofs.lemmas.List.Elements.{Contains-append_left, Contains-append_right, Contains-append_cases}
use Rattle.std.proofs.lemmas.List.Quantifiers.{position-Some}
use Rattle.std.proofs.lemmas.Option.{slice_get-get_or}
use Rattle.std.proofs.lemmas.Slice.Eq.{bytes_eq-Decides}
use Rattle.ato_base.proofs.ClassLaws.{only, first, nowhere}
use Rattle.ato_base.proofs.JoinedLaws.{joined_map}
use Rattle.ato_files.specs.Lists.{Among, here, there}
use Rattle.ato_instance_tree.specs.Laws.{SpotPlace, at_names, at_label, place_of, IsNodeAt}
use Rattle.ato_instance_tree.specs.Order.{Spot, made_at}
use Rattle.ato_links.specs.Links as by_path
use Rattle.ato_links.specs.Links.{Link}
use Rattle.ato_links.specs.NodeJoins.{same_place, number_at, both, link_numbers}
use Rattle.ato_nets.specs.ClassNumbers.{IsJoin, AreClassNumbers}

pub place_tells : (a b : SpotPlace) → same_place a b ≡ true → a ≡ b
place_tells (at_names p) (at_names q) e = ap at_names ((bytes_eq-Decides p q).0 e)
place_tells (at_names p) (at_label q b) e = absurd (true≢false (sym e))
place_tells (at_label p a) (at_names q) e = absurd (true≢false (sym e))
place_tells (at_label p a) (at_label q b) e =
    let it = and_parts (bytes_eq p q) (bytes_eq a b) e in
    ap (λ x. at_label x a) ((bytes_eq-Decides p q).0 it.0) ∙ ap (at_label q) ((bytes_eq-Decides a b).0 it.1)

pub both_had : (o p : Option ℕ) (j : ℕ × ℕ) → Contains (option_to_list (both o p)) j → (o ≡ Some j.0) × (p ≡ Some j.1)
both_had None p j m = absurd (nowhere j m)
both_had (Some x) None j m = absurd (nowhere j m)
both_had (Some x) (Some y) j m = let e = only (x, y) j m in (ap (λ k. Some k.0) (sym e), ap (λ k. Some k.1) (sym e))

-- a pair of numbers among joins
pub record IsOfPair (spots : List Spot) (ls : List Link) (p q : ℕ) : Type 0 where
  pub one : SpotPlace
  pub other : SpotPlace
  pub link : Among (by_path.join one other) ls
  pub is_one : number_at spots one ≡ Some p
  pub is_other : number_at spots other ≡ Some q

pub more_pair : (spots : List Spot) (l : Link) (ls : List Link) (p q : ℕ) → IsOfPair spots ls p q → IsOfPair spots (l ∷ ls) p q
more_pair spots l ls p q h = record { one = h.one; other = h.other; link = there h.link; is_one = h.is_one; is_other = h.is_other }

pub pair_had : (spots : List Spot) (ls : List Link) (p q : ℕ) → Contains (flat_map (link_numbers spots) ls) (p, q) → IsOfPair spots ls p q
pair_had spots [] p q m = absurd (nowhere (p, q) m)
pair_had spots (by_path.clash ∷ ls) p q m = more_pair spots by_path.clash ls p q (pair_had spots ls p q m)
pair_had spots (by_path.join a b ∷ ls) p q m =
    elim (Contains-append_cases (option_to_list (both (number_at spots a) (number_at spots b))) (flat_map (link_numbers spots) ls) (p, q) m) [
      | inl h ↦ let e = both_had (number_at spots a) (number_at spots b) (p, q) h in record { one = a; other = b; link = here; is_one = e.0; is_other = e.1 }
      | inr h ↦ more_pair spots (by_path.join a b) ls p q (pair_had spots ls p q h)
    ]

pub pair_there : (spots : List Spot) (ls : List Link) (a b : SpotPlace) (p q : ℕ) → Among (by_path.join a b) ls → number_at spots a ≡ Some p
    → number_at spots b ≡ Some q
    → Contains (flat_map (link_numbers spots) ls) (p, q)
pair_there spots [] a b p q m e f = elim m [ ]
pair_there spots (l ∷ ls) a b p q here e f = Contains-append_left (option_to_list (both (number_at spots a) (number_at spots b)))
    (flat_map (link_numbers spots) ls) (p, q)
    (subst (λ (o : Option ℕ). Contains {X = ℕ × ℕ} (option_to_list (both o (number_at spots b))) (p, q)) (sym e)
    (subst (λ (o : Option ℕ). Contains {X = ℕ × ℕ} (option_to_list (both (Some p) o)) (p, q)) (sym f) (first (p, q) [])))
pair_there spots (l ∷ ls) a b p q (there m) e f = Contains-append_right (link_numbers spots l) (flat_map (link_numbers spots) ls) (p, q)
    (pair_there spots ls a b p q m e f)

pub node_at : (spots : List Spot) (at : SpotPlace) (i : ℕ) → number_at spots at ≡ Some i → IsNodeAt spots at i
node_at spots at i e =
    let it = position-Some (λ s. same_place (place_of s) at) spots i (made_at []) e in
    record {
      node = get_or spots i (made_at []);
      is = slice_get-get_or spots i (made_at []) it.0;
      at = place_tells
          (place_of (get_or spots i (made_at []))) at it.1;
    }

-- the class numbers are those by other joins of the same pairs
pub same_numbers : (count : ℕ) (joins others : List (ℕ × ℕ)) (of : List ℕ) → ((p q : ℕ) → IsJoin joins p q → IsJoin others p q)
    → ((p q : ℕ) → IsJoin others p q → IsJoin joins p q)
    → AreClassNumbers count joins of → AreClassNumbers count others of
same_numbers count joins others of forth back are = record {
  size = are.size;
  joined = λ p l. joined_map (IsJoin joins) (IsJoin others) (λ x. x) forth (are.joined p l);
  least = λ p q l k h. are.least p q l k (joined_map (IsJoin others) (IsJoin joins) (λ x. x) back h);
}
