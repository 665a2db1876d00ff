-- A whole text is read back as its certificate.
use Rattle.std.proofs.Common.{◌≡◌, ℕ, ◌<◌, Bool, true, false, List, [], ◌∷◌, ◌++◌, length, refl, sym, ap, ◌∙◌, subst, arith, append-nil}
use Rattle.std.specs.Prelude.{codes}
use Rattle.ato_cert.specs.declared.cert.Verdict.TheVariants.{Refuted}
use Rattle.ato_cert.specs.declared.cert.Proof.{Proof}
use Rattle.ato_cert.specs.declared.cert.Proof.TheVariants.{Built, Tree}
use Rattle.ato_cert.specs.declared.cert.Cert.{Cert}
use Rattle.ato_cert.specs.Readable.{IsStepCount, IsReadableProof, IsReadableOver}
use Rattle.ato_cert.specs.Reading.{Reads, ReadsNothing, head_text, IsProofOver, IsNoText, IsTextOf}
use Rattle.ato_cert.specs.Texts.{steps_line, proof_text, proof_word, heading_text, cert_text}
use Rattle.ato_cert.proofs.CertReading.{Anything}

heading_built : (steps : ℕ) (rest : List ℕ) → heading_text (codes "built") steps ++ rest ≡ head_text true ++ (steps_line steps ++ (rest ++ []))
unfolding heading_text steps_line
heading_built steps rest = rw (append-nil rest) refl

heading_refuted : (steps : ℕ) (rest : List ℕ) → heading_text (codes "refuted") steps ++ rest ≡ head_text false ++ (steps_line steps ++ (rest ++ []))
unfolding heading_text steps_line
heading_refuted steps rest = rw (append-nil rest) refl

readable_of : (count : ℕ) (b : Bool) (proof : Proof) → IsProofOver count b proof → IsReadableProof count proof
readable_of count true (Built pick boxes) p = (p.0.0, p.0.1, p.1)
readable_of count true (Tree verdict tree) p = absurd p
readable_of count false (Built pick boxes) p = absurd p
readable_of count false (Tree Refuted tree) p = p

text_of : (count : ℕ) (b : Bool) (steps : ℕ) (proof : Proof) → IsProofOver count b proof
    → head_text b ++ (steps_line steps ++ (proof_text proof ++ [])) ≡ heading_text (proof_word proof) steps ++ proof_text proof
text_of count true steps (Built pick boxes) p = sym (heading_built steps (proof_text (Built pick boxes)))
text_of count true steps (Tree verdict tree) p = absurd p
text_of count false steps (Built pick boxes) p = absurd p
text_of count false steps (Tree Refuted tree) p = sym (heading_refuted steps (proof_text (Tree Refuted tree)))

module _ (count : ℕ) (text : List ℕ) where
  parts_of : (P : Type 0) (steps : ℕ) (proof : Proof) → IsReadableProof count proof → text ≡ heading_text (proof_word proof) steps ++ proof_text proof
      → ((b : Bool) → IsProofOver count b proof → text ≡ head_text b ++ (steps_line steps ++ (proof_text proof ++ [])) → P) → P
  parts_of P steps (Built pick boxes) r e give = give true ((r.0, r.1), r.2) (e ∙ heading_built steps (proof_text (Built pick boxes)))
  parts_of P steps (Tree Refuted tree) r e give = give false r (e ∙ heading_refuted steps (proof_text (Tree Refuted tree)))

  pub no_head : ReadsNothing Anything head_text text → IsNoText count text
  no_head n cert r e = parts_of ⊥ cert.steps cert.proof r.proof e (λ b p f. n.none b (steps_line cert.steps ++ (proof_text cert.proof ++ [])) tt f)

  module _ (built : Bool) (rest : List ℕ) (h : Reads Anything head_text text built rest) where
    pub no_steps : ReadsNothing IsStepCount steps_line rest → IsNoText count text
    no_steps n cert r e =
        parts_of ⊥ cert.steps cert.proof r.proof e
        (λ b p f. let q = h.only b (steps_line cert.steps ++ (proof_text cert.proof ++ [])) tt f in n.none cert.steps (proof_text cert.proof ++ []) r.steps (sym q.1))

    module _ (steps : ℕ) (after : List ℕ) (s : Reads IsStepCount steps_line rest steps after) where
      pub no_proof : ReadsNothing (IsProofOver count built) proof_text after → IsNoText count text
      no_proof n cert r e =
          parts_of ⊥ cert.steps cert.proof r.proof e
          (λ b p f.
          let q = h.only b (steps_line cert.steps ++ (proof_text cert.proof ++ [])) tt f in
          let t = s.only cert.steps (proof_text cert.proof ++ []) r.steps (sym q.1) in
          n.none cert.proof [] (subst (λ (x : Bool). IsProofOver count x cert.proof) q.0 p) (sym t.1))

      module _ (proof : Proof) (end : List ℕ) (g : Reads (IsProofOver count built) proof_text after proof end) where
        same : (cert : Cert) → IsReadableOver count cert → text ≡ cert_text cert → (cert.steps ≡ steps) × (cert.proof ≡ proof) × ([] ≡ end)
        same cert r e =
            parts_of ((cert.steps ≡ steps) × (cert.proof ≡ proof) × ([] ≡ end)) cert.steps cert.proof r.proof e
            (λ b p f.
            let q = h.only b (steps_line cert.steps ++ (proof_text cert.proof ++ [])) tt f in
            let t = s.only cert.steps (proof_text cert.proof ++ []) r.steps (sym q.1) in
            let u = g.only cert.proof [] (subst (λ (x : Bool). IsProofOver count x cert.proof) q.0 p) (sym t.1) in
            (t.0, u.0, u.1))

        pub more_text : 0 < length end → IsNoText count text
        more_text l cert r e = let q = same cert r e in let none = ap (λ (x : List ℕ). length x) q.2 in omega (arith, none)

        pub whole_text : length end ≡ 0 → IsTextOf count text (record { steps = steps; proof = proof })
        whole_text l = record {
          readable = record { steps = s.fits; proof = readable_of count built proof g.fits };
          text_is =
              h.text_is ∙ ap (λ x. head_text built ++ x) (s.text_is ∙ ap (λ x. steps_line steps ++ x) (g.text_is ∙ ap (λ x. proof_text proof ++ x) (none end l)))
              ∙ text_of count built steps proof g.fits;
          only = λ other r e. let q = same other r e in λ i. record { steps = q.0 i; proof = q.1 i };
        }
          where
            none : (x : List ℕ) → length x ≡ 0 → x ≡ []
            none [] e = refl
            none (y ∷ ys) e = absurd (omega (arith, e))
