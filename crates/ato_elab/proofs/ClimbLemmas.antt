-- One node more on the way to the root.
use Rattle.std.proofs.Common.{◌≡◌, ℕ, zero, suc, ◌-◌, ◌<◌, List, [], ◌∷◌, ◌++◌, Option, Some, None, refl, sym, ap, ◌∙◌, arith}
use Rattle.std.specs.Prelude.{map, reverse, Result, Ok, Err, IfOk}
use Rattle.std.specs.Option.{option_map}
use Rattle.std.proofs.lemmas.List.{append-nil, append_assoc, map-append, reverse-append, reverse-reverse}
use Rattle.ato_base.specs.declared.name_table.Name.{Name}
use Rattle.ato_base.specs.declared.memory.NoMemory.{NoMemory}
use Rattle.ato_instance_tree.specs.declared.tree.Node.{Node}
use Rattle.ato_elab.specs.declared.late_names.Above.{Above}
use Rattle.ato_elab.specs.declared.late_names.Above.TheVariants as above
use Rattle.ato_elab.specs.Climbing.{above_at, climb_on, climbed}

climb_suc : (names : List (List ℕ)) (ns : List Node) (most at : ℕ) → climbed names ns (suc most) at ≡ climb_on (above_at names ns at) (λ parent. climbed names ns most parent)
unfolding climbed
climb_suc names ns most at = refl

climb_more : (names : List (List ℕ)) (ns : List Node) (most at : ℕ) (r : Above) → 0 < most → above_at names ns at ≡ r
    → climbed names ns most at ≡ climb_on r (λ parent. climbed names ns (most - 1) parent)
climb_more names ns zero at r h e = absurd (omega arith)
climb_more names ns (suc most) at r h e = let less : most ≡ suc most - 1 = omega arith in
    climb_suc names ns most at ∙ ap (λ (x : Above). climb_on x (λ parent. climbed names ns most parent)) e
    ∙ ap (λ (k : ℕ). climb_on r (λ parent. climbed names ns k parent)) less

map_same : (o : Option (List ℕ)) → o ≡ option_map (λ (rest : List ℕ). rest) o
map_same None = refl
map_same (Some x) = refl

pub climb_init : (names : List (List ℕ)) (ns : List Node) (most at : ℕ) (found : List Name) → found ≡ []
    → climbed names ns most at ≡ option_map (λ rest. map (λ n. n.0) found ++ rest) (climbed names ns most at)
climb_init names ns most at found e = map_same (climbed names ns most at)
    ∙ ap (λ (xs : List Name). option_map (λ (rest : List ℕ). map (λ (n : Name). n.0) xs ++ rest) (climbed names ns most at)) (sym e)

join : (found : List Name) (name : Name) (o : Option (List ℕ))
    → option_map (λ (rest : List ℕ). map (λ (n : Name). n.0) found ++ rest) (option_map (λ (path : List ℕ). name.0 ∷ path) o)
    ≡ option_map (λ (rest : List ℕ). map (λ (n : Name). n.0) (found ++ name ∷ []) ++ rest) o
join found name None = refl
join found name (Some rest) = ap Some (sym (append_assoc (map (λ (n : Name). n.0) found) (name.0 ∷ []) rest)
    ∙ ap (λ (xs : List ℕ). xs ++ rest) (sym (map-append (λ (n : Name). n.0) found (name ∷ []))))

pub climb_next : (names : List (List ℕ)) (ns : List Node) (whole : Option (List ℕ)) (found more : List Name) (most at : ℕ) (name : Name) (parent : ℕ)
    → whole ≡ option_map (λ rest. map (λ n. n.0) found ++ rest) (climbed names ns most at) → 0 < most → above.Under name parent ≡ above_at names ns at → more ≡ found ++ name ∷ []
    → whole ≡ option_map (λ rest. map (λ n. n.0) more ++ rest) (climbed names ns (most - 1) parent)
climb_next names ns whole found more most at name parent so_far h e pushed =
    so_far ∙ ap (option_map (λ (rest : List ℕ). map (λ (n : Name). n.0) found ++ rest)) (climb_more names ns most at (above.Under name parent) h (sym e))
    ∙ join found name (climbed names ns (most - 1) parent)
    ∙ ap (λ (xs : List Name). option_map (λ (rest : List ℕ). map (λ (n : Name). n.0) xs ++ rest) (climbed names ns (most - 1) parent)) (sym pushed)

pub climb_end : (names : List (List ℕ)) (ns : List Node) (whole : Option (List ℕ)) (found : List Name) (most at : ℕ)
    → whole ≡ option_map (λ rest. map (λ n. n.0) found ++ rest) (climbed names ns most at) → 0 < most → above.Root ≡ above_at names ns at
    → whole ≡ Some (map (λ n. n.0) found)
climb_end names ns whole found most at so_far h e =
    so_far ∙ ap (option_map (λ (rest : List ℕ). map (λ (n : Name). n.0) found ++ rest)) (climb_more names ns most at above.Root h (sym e))
    ∙ ap Some (append-nil (map (λ (n : Name). n.0) found))

-- ---- turned round

map_reverse : {A B : Type 0} (f : A → B) (xs : List A) → map f (reverse xs) ≡ reverse (map f xs)
map_reverse f [] = refl
map_reverse {A = A} {B = B} f (x ∷ xs) = ap (map f) (reverse-append (x ∷ []) xs) ∙ map-append f (reverse xs) (x ∷ []) ∙ ap (λ (ys : List B). ys ++ f x ∷ []) (map_reverse f xs)
    ∙ sym (reverse-append (f x ∷ []) (map f xs))

back : (xs : List Name) → reverse (map (λ (n : Name). n.0) (reverse xs)) ≡ map (λ (n : Name). n.0) xs
back xs = ap reverse (map_reverse (λ (n : Name). n.0) xs) ∙ reverse-reverse (map (λ (n : Name). n.0) xs)

pub turned_ok : (whole : Option (List ℕ)) (inner : List Name) (r : Result (List Name) NoMemory) → whole ≡ Some (map (λ n. n.0) inner) → IfOk r (λ names. names ≡ reverse inner)
    → IfOk r (λ found. whole ≡ Some (reverse (map (λ n. n.0) found)))
turned_ok whole inner (Ok found) e h = e ∙ ap Some (sym (ap (λ (xs : List Name). reverse (map (λ (n : Name). n.0) xs)) h ∙ back inner))
turned_ok whole inner (Err error) e h = tt
