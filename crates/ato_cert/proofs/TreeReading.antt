-- Trees are read back, from their first lines and the trees below.
use Rattle.std.proofs.Common.{◌≡◌, ℕ, suc, ◌-◌, List, ◌++◌, refl, sym, ap, ◌∙◌, subst, arith, append_assoc}
use Rattle.ato_frac.specs.declared.fraction.Frac.{Frac}
use Rattle.ato_cert.specs.declared.line.Line.{Line}
use Rattle.ato_cert.specs.declared.line.Line.TheVariants as line
use Rattle.ato_cert.specs.declared.line.ReadFault.{ReadFault}
use Rattle.ato_cert.specs.declared.line.ReadFault.TheVariants.{At, NoMemory}
use Rattle.ato_cert.specs.declared.cert.PickTree.{PickTree}
use Rattle.ato_cert.specs.declared.cert.PickTree.TheVariants as tree
use Rattle.ato_cert.specs.Readable.{IsTreeOver, empty, by_row, fails}
use Rattle.ato_cert.specs.Reading.{line_text, IsLineOver, Reads, ReadsNothing, Because}
use Rattle.ato_cert.specs.Texts.{tree_text}
use Rattle.ato_cert.proofs.TreeLemmas.{text_empty, text_by_row, text_fails}

-- a cause that follows from another
pub because : {P Q : Type 0} → (P → Q) → (fault : ReadFault) → Because P fault → Because Q fault
because f (At left) p = f p
because f NoMemory p = tt

row_text : (slot row : ℕ) (low high : PickTree) (rest : List ℕ)
    → tree_text (tree.ByRow slot row low high) ++ rest ≡ line_text (line.Row slot row) ++ (tree_text low ++ (tree_text high ++ rest))
row_text slot row low high rest =
    ap (λ l. l ++ rest) (text_by_row slot row low high) ∙ append_assoc (line_text (line.Row slot row)) (tree_text low ++ tree_text high) rest
    ∙ ap (λ l. line_text (line.Row slot row) ++ l) (append_assoc (tree_text low) (tree_text high) rest)

module _ (P : Type 0) (count above : ℕ) (text other : List ℕ) (y : PickTree) where
  -- a tree by its first line
  by_first : IsTreeOver count above y → text ≡ tree_text y ++ other
      → ((slot : ℕ) → IsLineOver count above (line.Empty slot) → y ≡ tree.Empty slot → text ≡ line_text (line.Empty slot) ++ other → P)
      → ((slot row : ℕ) (low high : PickTree) → IsLineOver count above (line.Row slot row) → y ≡ tree.ByRow slot row low high
      → IsTreeOver count (above - 1) low → IsTreeOver count (above - 1) high
      → text ≡ line_text (line.Row slot row) ++ (tree_text low ++ (tree_text high ++ other)) → P)
      → ((check : ℕ) (point : List Frac) → IsLineOver count above (line.Fails check point) → y ≡ tree.Fails check point
      → text ≡ line_text (line.Fails check point) ++ other → P)
      → P
  by_first fits e a b d = at fits refl refl
    where
      at : {k : ℕ} {x : PickTree} → IsTreeOver count k x → k ≡ above → x ≡ y → P
      at (empty slot n) k x = a slot n (sym x) (e ∙ ap (λ (z : PickTree). tree_text z ++ other) (sym x) ∙ ap (λ l. l ++ other) (text_empty slot))
      at (by_row {above = up} {low = low} {high = high} slot row n small l h) k x =
          let less : up ≡ above - 1 = omega (arith, k) in
          b slot row low high (n, small, omega (arith, k)) (sym x) (subst (λ (m : ℕ). IsTreeOver count m low) less l) (subst (λ (m : ℕ). IsTreeOver count m high) less h)
          (e ∙ ap (λ (z : PickTree). tree_text z ++ other) (sym x) ∙ row_text slot row low high other)
      at (fails check point n) k x = d check point n (sym x) (e ∙ ap (λ (z : PickTree). tree_text z ++ other) (sym x) ∙ ap (λ l. l ++ other) (text_fails check point))

pub tree_empty : (count above : ℕ) (text : List ℕ) (slot : ℕ) (rest : List ℕ)
    → Reads (IsLineOver count above) line_text text (line.Empty slot) rest → Reads (IsTreeOver count above) tree_text text (tree.Empty slot) rest
tree_empty count above text slot rest r = record {
  fits = empty slot r.fits;
  text_is = rw (text_empty slot) r.text_is;
  only = λ y other fits e.
      by_first ((y ≡ tree.Empty slot) × (other ≡ rest)) count above text other y fits e
      (λ s o z f. let q = r.only (line.Empty s) other o f in let same = q.0 in (cc, q.1))
      (λ s w l h o z fl fh f. let q = r.only (line.Row s w) (tree_text l ++ (tree_text h ++ other)) o f in let same = q.0 in cc)
      (λ k p o z f. let q = r.only (line.Fails k p) other o f in let same = q.0 in cc);
}

pub tree_fails : (count above : ℕ) (text : List ℕ) (check : ℕ) (point : List Frac) (rest : List ℕ)
    → Reads (IsLineOver count above) line_text text (line.Fails check point) rest → Reads (IsTreeOver count above) tree_text text (tree.Fails check point) rest
tree_fails count above text check point rest r = record {
  fits = fails check point r.fits;
  text_is = rw (text_fails check point) r.text_is;
  only = λ y other fits e.
      by_first ((y ≡ tree.Fails check point) × (other ≡ rest)) count above text other y fits e
      (λ s o z f. let q = r.only (line.Empty s) other o f in let same = q.0 in cc)
      (λ s w l h o z fl fh f. let q = r.only (line.Row s w) (tree_text l ++ (tree_text h ++ other)) o f in let same = q.0 in cc)
      (λ k p o z f. let q = r.only (line.Fails k p) other o f in let same = q.0 in (cc, q.1));
}

pub no_line : (count above : ℕ) (text : List ℕ) → ReadsNothing (IsLineOver count above) line_text text → ReadsNothing (IsTreeOver count above) tree_text text
no_line count above text r = record {
  none = λ y other fits e.
      by_first ⊥ count above text other y fits e
      (λ s o z f. r.none (line.Empty s) other o f)
      (λ s w l h o z fl fh f. r.none (line.Row s w) (tree_text l ++ (tree_text h ++ other)) o f)
      (λ k p o z f. r.none (line.Fails k p) other o f);
}

module _ (count above : ℕ) (text : List ℕ) (slot row : ℕ) (rest : List ℕ) (r : Reads (IsLineOver count above) line_text text (line.Row slot row) rest) where
  pub no_low : ReadsNothing (IsTreeOver count (above - 1)) tree_text rest → ReadsNothing (IsTreeOver count above) tree_text text
  no_low n = record {
    none = λ y other fits e.
        by_first ⊥ count above text other y fits e
        (λ s o z f. let q = r.only (line.Empty s) other o f in let same = q.0 in absurd cc)
        (λ s w l h o z fl fh f. let q = r.only (line.Row s w) (tree_text l ++ (tree_text h ++ other)) o f in n.none l (tree_text h ++ other) fl (sym q.1))
        (λ k p o z f. let q = r.only (line.Fails k p) other o f in let same = q.0 in absurd cc);
  }

  module _ (low : PickTree) (after : List ℕ) (below : Reads (IsTreeOver count (above - 1)) tree_text rest low after) where
    pub no_high : ReadsNothing (IsTreeOver count (above - 1)) tree_text after → ReadsNothing (IsTreeOver count above) tree_text text
    no_high n = record {
      none = λ y other fits e.
          by_first ⊥ count above text other y fits e
          (λ s o z f. let q = r.only (line.Empty s) other o f in let same = q.0 in absurd cc)
          (λ s w l h o z fl fh f.
          let q = r.only (line.Row s w) (tree_text l ++ (tree_text h ++ other)) o f in
          let p = below.only l (tree_text h ++ other) fl (sym q.1) in
          n.none h other fh (sym p.1))
          (λ k p o z f. let q = r.only (line.Fails k p) other o f in let same = q.0 in absurd cc);
    }

    pub tree_row : (high : PickTree) (end : List ℕ) → Reads (IsTreeOver count (above - 1)) tree_text after high end
        → Reads (IsTreeOver count above) tree_text text (tree.ByRow slot row low high) end
    tree_row high end top = record {
      fits = subst (λ (m : ℕ). IsTreeOver count m (tree.ByRow slot row low high)) up (by_row slot row r.fits.0 r.fits.1 below.fits top.fits);
      text_is = r.text_is ∙ ap (λ l. line_text (line.Row slot row) ++ l) (below.text_is ∙ ap (λ l. tree_text low ++ l) top.text_is) ∙ sym (row_text slot row low high end);
      only = λ y other fits e.
          by_first ((y ≡ tree.ByRow slot row low high) × (other ≡ end)) count above text other y fits e
          (λ s o z f. let q = r.only (line.Empty s) other o f in let same = q.0 in cc)
          (λ s w l h o z fl fh f.
          let q = r.only (line.Row s w) (tree_text l ++ (tree_text h ++ other)) o f in
          let p = below.only l (tree_text h ++ other) fl (sym q.1) in
          let t = top.only h other fh (sym p.1) in
          let same = q.0 in
          let same_low = p.0 in
          let same_high = t.0 in
          (cc, t.1))
          (λ k p o z f. let q = r.only (line.Fails k p) other o f in let same = q.0 in cc);
    }
      where
        up : suc (above - 1) ≡ above
        up = let some = r.fits.2 in omega (arith, some)

-- the same line under another name
pub line_is : {count above : ℕ} {text rest : List ℕ} {x y : Line} → x ≡ y → Reads (IsLineOver count above) line_text text x rest → Reads (IsLineOver count above) line_text text y rest
line_is {count} {above} {text} {rest} e r = subst (λ (l : Line). Reads (IsLineOver count above) line_text text l rest) e r
