-- Certificates are read back, part by part.
use Rattle.std.proofs.Common.{◌≡◌, ℕ, ◌<◌, ◌≤◌, ◌^◌, Bool, true, false, List, [], ◌∷◌, ◌++◌, length, drop, Option, Some, None, refl, sym, ap, ◌∙◌, subst, arith, append_assoc, append-nil}
use Rattle.std.specs.Prelude.{codes}
use Rattle.std.specs.List.{All}
use Rattle.std.specs.Fmt.{decimal}
use Rattle.std.proofs.Math.Seq.{drop-append_seam}
use Rattle.std.proofs.lemmas.List.Elements.{All-head}
use Rattle.std.proofs.lemmas.Fmt.{decimal_digit}
use Rattle.ato_cert.specs.declared.cert.BoxTree.{BoxTree}
use Rattle.ato_cert.specs.declared.cert.BoxTree.TheVariants.{Holds}
use Rattle.ato_cert.specs.declared.cert.PickTree.{PickTree}
use Rattle.ato_cert.specs.declared.cert.Verdict.TheVariants.{Refuted}
use Rattle.ato_cert.specs.declared.cert.Proof.{Proof}
use Rattle.ato_cert.specs.declared.cert.Proof.TheVariants.{Built, Tree}
use Rattle.ato_cert.specs.Readable.{IsStepCount, IsTreeOver}
use Rattle.ato_cert.specs.Reading.{Reads, ReadsNothing, head_text, IsPickOver, AtMost, IsProofOver}
use Rattle.ato_cert.specs.Texts.{steps_line, pick_line, boxes_text, check_text, number_word, tree_text, proof_text}
use Rattle.ato_cert.proofs.LineLemmas.{apart}

-- what follows equal beginnings is equal
cancel : (p x y : List ℕ) → p ++ x ≡ p ++ y → x ≡ y
cancel p x y e = sym (drop-append_seam p x) ∙ ap (λ l. drop (length p) l) e ∙ drop-append_seam p y

-- a guess that is compared with what its value is written as

abbrev pub Guesses : {X : Type 0} → (X → Type 0) → (X → List ℕ) → List ℕ → Option X → Type 0
Guesses {X} Fits print text guess = (x : X) (rest : List ℕ) → Fits x → text ≡ print x ++ rest → guess ≡ Some x

module _ {X : Type 0} (Fits : X → Type 0) (print : X → List ℕ) (text : List ℕ) where
  pub guess_none : Guesses Fits print text None → ReadsNothing Fits print text
  guess_none g = record { none = λ y other o e. let p = g y other o e in cc }

  pub guess_unfit : (x : X) → Guesses Fits print text (Some x) → ¬ Fits x → ReadsNothing Fits print text
  guess_unfit x g out = record { none = λ y other o e. let p = g y other o e in let q : y ≡ x = cc in out (subst Fits q o) }

  pub guess_read : (x : X) (rest written : List ℕ) → Guesses Fits print text (Some x) → Fits x → written ≡ print x → text ≡ written ++ rest → Reads Fits print text x rest
  guess_read x rest written g fits w e = record {
    fits = fits;
    text_is = e ∙ ap (λ l. l ++ rest) w;
    only = λ y other o f.
        let p = g y other o f in
        let q : y ≡ x = cc in
        (q, cancel (print x) other rest (ap (λ z. print z ++ other) (sym q) ∙ sym f ∙ e ∙ ap (λ l. l ++ rest) w));
  }

  pub guess_differs : (x : X) (written : List ℕ) → Guesses Fits print text (Some x) → written ≡ print x → ((other : List ℕ) → text ≡ written ++ other → ⊥) → ReadsNothing Fits print text
  guess_differs x written g w out = record {
    none = λ y other o f.
        let p = g y other o f in
        let q : y ≡ x = cc in
        out other (f ∙ ap (λ z. print z ++ other) q ∙ ap (λ l. l ++ other) (sym w));
  }

-- the first two lines

abbrev pub Anything : Bool → Type 0
Anything b = Unit {0}

abbrev first_line : List ℕ
first_line = codes "ato-certificate 1\n"

pub head_built : (text rest behind : List ℕ) → text ≡ first_line ++ rest → rest ≡ codes "verdict built\n" ++ behind → Reads Anything head_text text true behind
head_built text rest behind e f = record { fits = tt; text_is = is; only = at }
  where
    is : text ≡ head_text true ++ behind
    is = e ∙ ap (λ l. first_line ++ l) f

    at : (y : Bool) (other : List ℕ) → Unit {0} → text ≡ head_text y ++ other → (y ≡ true) × (other ≡ behind)
    at true other u g = (refl, cancel (head_text true) other behind (sym g ∙ is))
    at false other u g =
        absurd (apart 114 98 _ _ refl (cancel (codes "ato-certificate 1\nverdict ") (codes "refuted\n" ++ other) (codes "built\n" ++ behind) (sym g ∙ is)))

pub head_refuted : (text rest behind : List ℕ) → text ≡ first_line ++ rest → rest ≡ codes "verdict refuted\n" ++ behind → Reads Anything head_text text false behind
head_refuted text rest behind e f = record { fits = tt; text_is = is; only = at }
  where
    is : text ≡ head_text false ++ behind
    is = e ∙ ap (λ l. first_line ++ l) f

    at : (y : Bool) (other : List ℕ) → Unit {0} → text ≡ head_text y ++ other → (y ≡ false) × (other ≡ behind)
    at false other u g = (refl, cancel (head_text false) other behind (sym g ∙ is))
    at true other u g =
        absurd (apart 98 114 _ _ refl (cancel (codes "ato-certificate 1\nverdict ") (codes "built\n" ++ other) (codes "refuted\n" ++ behind) (sym g ∙ is)))

pub head_none : (text : List ℕ) → ((rest : List ℕ) → text ≡ first_line ++ rest → ⊥) → ReadsNothing Anything head_text text
head_none text out = record { none = at }
  where
    at : (y : Bool) (other : List ℕ) → Unit {0} → text ≡ head_text y ++ other → ⊥
    at true other u g = out (codes "verdict built\n" ++ other) g
    at false other u g = out (codes "verdict refuted\n" ++ other) g

pub head_neither : (text rest : List ℕ) → text ≡ first_line ++ rest → ((b : List ℕ) → rest ≡ codes "verdict built\n" ++ b → ⊥)
    → ((b : List ℕ) → rest ≡ codes "verdict refuted\n" ++ b → ⊥) → ReadsNothing Anything head_text text
head_neither text rest e no_built no_refuted = record { none = at }
  where
    at : (y : Bool) (other : List ℕ) → Unit {0} → text ≡ head_text y ++ other → ⊥
    at true other u g = no_built other (cancel first_line rest (codes "verdict built\n" ++ other) (sym e ∙ g))
    at false other u g = no_refuted other (cancel first_line rest (codes "verdict refuted\n" ++ other) (sym e ∙ g))

-- the line of steps

pub steps_parts : (n : ℕ) (rest : List ℕ) → steps_line n ++ rest ≡ codes "steps " ++ (decimal n ++ (10 ∷ rest))
unfolding steps_line
steps_parts n rest = simp append_assoc

pub small_steps : (n : ℕ) → IsStepCount n → n < 2 ^ 32
small_steps n s = omega (arith, s.most)

-- the line of a pick of at most one number

pub pick_none : (rest : List ℕ) → pick_line [] ++ rest ≡ codes "pick" ++ (10 ∷ rest)
unfolding pick_line
pick_none rest = refl

pub pick_one : (n : ℕ) (rest : List ℕ) → pick_line (n ∷ []) ++ rest ≡ codes "pick " ++ (decimal n ++ (10 ∷ rest))
unfolding pick_line number_word
pick_one n rest = simp (append_assoc, append-nil)

module _ (text : List ℕ) where
  -- a text that begins with a number of the pick
  pub at_pick : (behind : List ℕ) (g : Option (List ℕ)) → text ≡ codes "pick " ++ behind
      → ((n : ℕ) (rest : List ℕ) → n < 2 ^ 32 → behind ≡ decimal n ++ (10 ∷ rest) → g ≡ Some (n ∷ []))
      → (pick : List ℕ) (rest : List ℕ) → length pick ≤ 1 → All (λ n. n < 2 ^ 32) pick → text ≡ pick_line pick ++ rest → g ≡ Some pick
  at_pick behind g w h [] rest short small e =
      absurd (apart 32 10 _ _ refl (cancel (codes "pick") (32 ∷ behind) (10 ∷ rest) (sym w ∙ e ∙ pick_none rest)))
  at_pick behind g w h (n ∷ []) rest short small e =
      h n rest (All-head (λ n. n < 2 ^ 32) n [] small) (cancel (codes "pick ") behind (decimal n ++ (10 ∷ rest)) (sym w ∙ e ∙ pick_one n rest))
  at_pick behind g w h (n ∷ m ∷ more) rest short small e = absurd (omega arith)

  -- a text that does not
  pub at_no_pick : ((behind : List ℕ) → text ≡ codes "pick " ++ behind → ⊥)
      → (pick : List ℕ) (rest : List ℕ) → length pick ≤ 1 → All (λ n. n < 2 ^ 32) pick → text ≡ pick_line pick ++ rest → Some [] ≡ Some pick
  at_no_pick out [] rest short small e = refl
  at_no_pick out (n ∷ []) rest short small e = absurd (out (decimal n ++ (10 ∷ rest)) (e ∙ pick_one n rest))
  at_no_pick out (n ∷ m ∷ more) rest short small e = absurd (omega arith)

-- the checks and the last line, of at most one check

pub boxes_none : (rest : List ℕ) → boxes_text [] ++ rest ≡ codes "end\n" ++ rest
unfolding boxes_text
boxes_none rest = refl

pub boxes_one : (rest : List ℕ) → boxes_text (Holds ∷ []) ++ rest ≡ codes "check 1\n" ++ (codes "holds\n" ++ (codes "end\n" ++ rest))
unfolding boxes_text check_text
boxes_one rest = rw (decimal_digit 1 (omega arith)) refl

module _ (count : ℕ) (few : count ≤ 1) (text : List ℕ) where
  by_boxes : (P : Type 0) (boxes : List BoxTree) (other : List ℕ) → AtMost count boxes → text ≡ boxes_text boxes ++ other
      → (boxes ≡ [] → text ≡ codes "end\n" ++ other → P)
      → (boxes ≡ Holds ∷ [] → 1 ≤ count → text ≡ codes "check 1\n" ++ (codes "holds\n" ++ (codes "end\n" ++ other)) → P) → P
  by_boxes P [] other most e a b = a refl (e ∙ boxes_none other)
  by_boxes P (Holds ∷ []) other most e a b = b refl (omega arith) (e ∙ boxes_one other)
  by_boxes P (x ∷ y ∷ more) other most e a b = absurd (omega arith)

  pub boxes_end : (rest : List ℕ) → text ≡ codes "end\n" ++ rest → Reads (AtMost count) boxes_text text [] rest
  boxes_end rest e = record {
    fits = omega arith;
    text_is = e ∙ sym (boxes_none rest);
    only = λ y other most f.
        by_boxes ((y ≡ []) × (other ≡ rest)) y other most f
        (λ q g. (q, cancel (codes "end\n") other rest (sym g ∙ e)))
        (λ q one g. absurd (apart 99 101 _ _ refl (sym g ∙ e)));
  }

  pub boxes_no_end : ((rest : List ℕ) → text ≡ codes "end\n" ++ rest → ⊥) → (1 ≤ count → (rest : List ℕ) → text ≡ codes "check 1\n" ++ rest → ⊥) → ReadsNothing (AtMost count) boxes_text text
  boxes_no_end no_end no_check = record {
    none = λ y other most f. by_boxes ⊥ y other most f (λ q g. no_end other g) (λ q one g. no_check one (codes "holds\n" ++ (codes "end\n" ++ other)) g);
  }

  module _ (check : List ℕ) (is_check : text ≡ codes "check 1\n" ++ check) where
    no_end : (other : List ℕ) → text ≡ codes "end\n" ++ other → ⊥
    no_end other g = apart 101 99 _ _ refl (sym g ∙ is_check)

    pub boxes_no_holds : ((rest : List ℕ) → check ≡ codes "holds\n" ++ rest → ⊥) → ReadsNothing (AtMost count) boxes_text text
    boxes_no_holds out = record {
      none = λ y other most f.
          by_boxes ⊥ y other most f (λ q g. no_end other g)
          (λ q one g. out (codes "end\n" ++ other) (cancel (codes "check 1\n") check (codes "holds\n" ++ (codes "end\n" ++ other)) (sym is_check ∙ g)));
    }

    module _ (holds : List ℕ) (is_holds : check ≡ codes "holds\n" ++ holds) where
      whole : text ≡ codes "check 1\n" ++ (codes "holds\n" ++ holds)
      whole = is_check ∙ ap (λ l. codes "check 1\n" ++ l) is_holds

      pub boxes_no_last : ((rest : List ℕ) → holds ≡ codes "end\n" ++ rest → ⊥) → ReadsNothing (AtMost count) boxes_text text
      boxes_no_last out = record {
        none = λ y other most f.
            by_boxes ⊥ y other most f (λ q g. no_end other g)
            (λ q one g. out other (cancel (codes "check 1\nholds\n") holds (codes "end\n" ++ other) (sym whole ∙ g)));
      }

      pub boxes_holds : (rest : List ℕ) → 1 ≤ count → holds ≡ codes "end\n" ++ rest → Reads (AtMost count) boxes_text text (Holds ∷ []) rest
      boxes_holds rest one e = record {
        fits = omega arith;
        text_is = whole ∙ ap (λ l. codes "check 1\nholds\n" ++ l) e ∙ sym (boxes_one rest);
        only = λ y other most f.
            by_boxes ((y ≡ Holds ∷ []) × (other ≡ rest)) y other most f (λ q g. absurd (no_end other g))
            (λ q some g. (q, cancel (codes "check 1\nholds\nend\n") other rest (sym g ∙ whole ∙ ap (λ l. codes "check 1\nholds\n" ++ l) e)));
      }

-- a built proof is its pick and its checks

module _ (count : ℕ) (text : List ℕ) where
  built_text : (pick : List ℕ) (boxes : List BoxTree) (rest : List ℕ) → proof_text (Built pick boxes) ++ rest ≡ pick_line pick ++ (boxes_text boxes ++ rest)
  built_text pick boxes rest = append_assoc (pick_line pick) (boxes_text boxes) rest

  pub no_pick : ReadsNothing (IsPickOver count) pick_line text → ReadsNothing (IsProofOver count true) proof_text text
  no_pick n = record { none = at }
    where
      at : (y : Proof) (other : List ℕ) → IsProofOver count true y → text ≡ proof_text y ++ other → ⊥
      at (Built pick boxes) other fits e = n.none pick (boxes_text boxes ++ other) fits.0 (e ∙ built_text pick boxes other)
      at (Tree verdict tree) other fits e = fits

  module _ (pick : List ℕ) (rest : List ℕ) (r : Reads (IsPickOver count) pick_line text pick rest) where
    pub no_boxes : ReadsNothing (AtMost count) boxes_text rest → ReadsNothing (IsProofOver count true) proof_text text
    no_boxes n = record { none = at }
      where
        at : (y : Proof) (other : List ℕ) → IsProofOver count true y → text ≡ proof_text y ++ other → ⊥
        at (Built p boxes) other fits e =
            let q = r.only p (boxes_text boxes ++ other) fits.0 (e ∙ built_text p boxes other) in
            n.none boxes other fits.1 (sym q.1)
        at (Tree verdict tree) other fits e = fits

    pub built_read : (boxes : List BoxTree) (end : List ℕ) → Reads (AtMost count) boxes_text rest boxes end → Reads (IsProofOver count true) proof_text text (Built pick boxes) end
    built_read boxes end b = record {
      fits = (r.fits, b.fits);
      text_is = r.text_is ∙ ap (λ l. pick_line pick ++ l) b.text_is ∙ sym (built_text pick boxes end);
      only = at;
    }
      where
        at : (y : Proof) (other : List ℕ) → IsProofOver count true y → text ≡ proof_text y ++ other → (y ≡ Built pick boxes) × (other ≡ end)
        at (Built p bs) other fits e =
            let q = r.only p (boxes_text bs ++ other) fits.0 (e ∙ built_text p bs other) in
            let t = b.only bs other fits.1 (sym q.1) in
            let same_pick = q.0 in
            let same_boxes = t.0 in
            (cc, t.1)
        at (Tree verdict tree) other fits e = absurd fits

  -- a refuted proof is its tree

  pub no_tree : ReadsNothing (IsTreeOver count 10000) tree_text text → ReadsNothing (IsProofOver count false) proof_text text
  no_tree n = record { none = at }
    where
      at : (y : Proof) (other : List ℕ) → IsProofOver count false y → text ≡ proof_text y ++ other → ⊥
      at (Built pick boxes) other fits e = fits
      at (Tree Refuted tree) other fits e = n.none tree other fits e

  pub tree_read : (tree : PickTree) (end : List ℕ) → Reads (IsTreeOver count 10000) tree_text text tree end → Reads (IsProofOver count false) proof_text text (Tree Refuted tree) end
  tree_read tree end r = record { fits = r.fits; text_is = r.text_is; only = at }
    where
      at : (y : Proof) (other : List ℕ) → IsProofOver count false y → text ≡ proof_text y ++ other → (y ≡ Tree Refuted tree) × (other ≡ end)
      at (Built p bs) other fits e = absurd fits
      at (Tree Refuted t) other fits e = let q = r.only t other fits e in let same = q.0 in (cc, q.1)
