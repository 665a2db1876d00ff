-- Members, listed where they are met first.
use Rattle.std.proofs.Common.{◌≡◌, ℕ, Bool, true, false, ◌||◌, not, nat_eq, List, [], ◌∷◌, ◌++◌, refl, sym, ap, ◌∙◌, subst, cond, append_assoc, append-nil, map, true≢false}
use Rattle.std.specs.Prelude.{if◌then◌else◌}
use Rattle.std.specs.List.{list_any}
use Rattle.std.specs.Str.{bytes_eq}
use Rattle.std.proofs.lemmas.List.{map-append}
use Rattle.std.proofs.lemmas.List.Folds.{list_any-append}
use Rattle.ato_ast.specs.declared.names.Named.{Named}
use Rattle.ato_files.specs.Members.{Kind}
use Rattle.ato_instance_tree.specs.declared.listing.Listing.{Listing}
use Rattle.ato_instance_tree.specs.Members.{Member, pin, named, same_member, firsts}
use Rattle.ato_instance_tree.specs.Kept.{member_of}
use Rattle.ato_instance_tree.specs.Seen.{has, holds, is_name, is_label, IsListed}

if_new : Bool → Member → List Member
if_new seen m = if seen then [] else m ∷ []

moved : (a b c : Bool) → (a || (b || c)) ≡ ((b || a) || c)
moved true true c = refl
moved true false c = refl
moved false true c = refl
moved false false c = refl

firsts-push : (seen ms : List Member) (m : Member) → firsts seen (ms ++ m ∷ []) ≡ firsts seen ms ++ if_new (list_any (same_member m) ms || list_any (same_member m) seen) m
unfolding if_new
firsts-push seen [] m = append-nil (if_new (list_any (same_member m) seen) m)
firsts-push seen (x ∷ ms) m =
    ap (λ l. if_new (list_any (same_member x) seen) x ++ l) (firsts-push (x ∷ seen) ms m
    ∙ ap (λ b. firsts (x ∷ seen) ms ++ if_new b m) (moved (list_any (same_member m) ms) (same_member m x) (list_any (same_member m) seen)))
    ∙ sym (append_assoc (if_new (list_any (same_member x) seen) x) (firsts (x ∷ seen) ms) _)

or_false : (a : Bool) → (a || false) ≡ a
or_false true = refl
or_false false = refl

firsts_first : (ms : List Member) (m : Member) → firsts [] (ms ++ m ∷ []) ≡ firsts [] ms ++ if_new (list_any (same_member m) ms) m
firsts_first ms m = firsts-push [] ms m ∙ ap (λ b. firsts [] ms ++ if_new b m) (or_false (list_any (same_member m) ms))

-- a name is listed where it is among the names, a pin where it is among the labels
seen_name : (a : Named) (k : Kind) (ms : List Member) → list_any (same_member (named a k)) ms ≡ list_any (is_name a.name.0) ms
seen_name a k [] = refl
seen_name a k (pin t ∷ ms) = seen_name a k ms
seen_name a k (named b l ∷ ms) = ap (λ x. nat_eq a.name.0 b.name.0 || x) (seen_name a k ms)

seen_label : (t : List ℕ) (ms : List Member) → list_any (same_member (pin t)) ms ≡ list_any (is_label t) ms
seen_label t [] = refl
seen_label t (pin u ∷ ms) = ap (λ x. bytes_eq t u || x) (seen_label t ms)
seen_label t (named b l ∷ ms) = seen_label t ms

-- one more at the end of what was met
any_push : (p : Member → Bool) (ms : List Member) (m : Member) → list_any p (ms ++ m ∷ []) ≡ (p m || list_any p ms)
any_push p ms m = list_any-append p ms (m ∷ []) ∙ swapped (list_any p ms) (p m)
  where
    swapped : (a b : Bool) → (a || (b || false)) ≡ (b || a)
    swapped true true = refl
    swapped true false = refl
    swapped false true = refl
    swapped false false = refl

module _ (ms : List Member) (old new : Listing) (is : IsListed ms old) (a : Named) (k : Kind)
    (names : (n : ℕ) → has new.names n ≡ (nat_eq n a.name.0 || has old.names n)) (labels : new.labels ≡ old.labels) where
  all_names : (n : ℕ) → has new.names n ≡ list_any (is_name n) (ms ++ named a k ∷ [])
  all_names n = names n ∙ ap (λ b. nat_eq n a.name.0 || b) (is.names n) ∙ sym (any_push (is_name n) ms (named a k))

  all_labels : (t : List ℕ) → holds new.labels t ≡ list_any (is_label t) (ms ++ named a k ∷ [])
  all_labels t = ap (λ l. holds l t) labels ∙ is.labels t ∙ sym (any_push (is_label t) ms (named a k))

  -- a name that is new
  pub name_new : has old.names a.name.0 ≡ false → map member_of new.found ≡ map member_of old.found ++ named a k ∷ [] → IsListed (ms ++ named a k ∷ []) new
  unfolding if_new
  name_new none more = record {
    found = more ∙ ap (λ l. l ++ named a k ∷ []) is.found
        ∙ sym (firsts_first ms (named a k) ∙ ap (λ b. firsts [] ms ++ if_new b (named a k)) (seen_name a k ms ∙ sym (is.names a.name.0) ∙ none));
    names = all_names;
    labels = all_labels;
  }

  -- a name that was met before
  pub name_old : has old.names a.name.0 ≡ true → new.found ≡ old.found → IsListed (ms ++ named a k ∷ []) new
  unfolding if_new
  name_old held same = record {
    found = ap (map member_of) same ∙ is.found
        ∙ sym (firsts_first ms (named a k) ∙ ap (λ b. firsts [] ms ++ if_new b (named a k)) (seen_name a k ms ∙ sym (is.names a.name.0) ∙ held) ∙ append-nil (firsts [] ms));
    names = all_names;
    labels = all_labels;
  }

module _ (ms : List Member) (old new : Listing) (is : IsListed ms old) (t : List ℕ)
    (labels : (other : List ℕ) → holds new.labels other ≡ (bytes_eq other t || holds old.labels other)) (names : new.names ≡ old.names) where
  same_names : (n : ℕ) → has new.names n ≡ list_any (is_name n) (ms ++ pin t ∷ [])
  same_names n = ap (λ l. has l n) names ∙ is.names n ∙ sym (any_push (is_name n) ms (pin t))

  more_labels : (other : List ℕ) → holds new.labels other ≡ list_any (is_label other) (ms ++ pin t ∷ [])
  more_labels other = labels other ∙ ap (λ b. bytes_eq other t || b) (is.labels other) ∙ sym (any_push (is_label other) ms (pin t))

  -- a pin that is new
  pub pin_new : holds old.labels t ≡ false → map member_of new.found ≡ map member_of old.found ++ pin t ∷ [] → IsListed (ms ++ pin t ∷ []) new
  unfolding if_new
  pin_new none more = record {
    found = more ∙ ap (λ l. l ++ pin t ∷ []) is.found
        ∙ sym (firsts_first ms (pin t) ∙ ap (λ b. firsts [] ms ++ if_new b (pin t)) (seen_label t ms ∙ sym (is.labels t) ∙ none));
    names = same_names;
    labels = more_labels;
  }

  -- a pin that was met before
  pub pin_old : holds old.labels t ≡ true → new.found ≡ old.found → IsListed (ms ++ pin t ∷ []) new
  unfolding if_new
  pin_old held same = record {
    found = ap (map member_of) same ∙ is.found
        ∙ sym (firsts_first ms (pin t) ∙ ap (λ b. firsts [] ms ++ if_new b (pin t)) (seen_label t ms ∙ sym (is.labels t) ∙ held) ∙ append-nil (firsts [] ms));
    names = same_names;
    labels = more_labels;
  }

-- a test that is new, or not
pub not_held : (new held : Bool) → new ≡ not held → new ≡ true → held ≡ false
not_held new true e t = absurd (true≢false (sym t ∙ e))
not_held new false e t = refl

pub is_held : (new held : Bool) → new ≡ not held → new ≡ false → held ≡ true
is_held new true e t = refl
is_held new false e t = absurd (true≢false (sym e ∙ t))
