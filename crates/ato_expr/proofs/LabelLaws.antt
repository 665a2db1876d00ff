-- What follows from labels, for every way of giving them.
use Rattle.std.proofs.Common.{◌≡◌, ℕ, List, [], ◌∷◌, refl, sym, ◌∙◌, subst, inl, inr, ⊎_elim, ap₂}
use Rattle.std.specs.Prelude.{Contains, slice_get, Some}
use Rattle.std.proofs.lemmas.Option.{same_Some}
use Rattle.ato_base.proofs.ClassLaws.{cases, nowhere}
use Rattle.ato_expr.specs.declared.ops.Op.{Op}
use Rattle.ato_expr.specs.Tables.{Entry, IsBelow, root, child}
use Rattle.ato_expr.specs.Labels.{HasLabel, HaveLabels, labelled, no_label, a_label, IsRefused, StopsFor}
use Rattle.std.proofs.lemmas.Bool.{cases_order}

-- R holds of the elements of two lists, one by one
abbrev pub AreRelated : {L X : Type 0} → (L → X → Type 0) → List L → List X → Type 0
AreRelated R [] [] = Unit {0}
AreRelated R [] (x ∷ xs) = ⊥
AreRelated R (l ∷ ls) [] = ⊥
AreRelated R (l ∷ ls) (x ∷ xs) = R l x × AreRelated R ls xs

pub same_entry : (table : List Entry) (n : ℕ) (a b : Entry) → slice_get table n ≡ Some a → slice_get table n ≡ Some b → a ≡ b
same_entry table n a b e f = same_Some a b (sym e ∙ f)

module _ {L : Type 0} (Gives : Op → List L → L → Type 0) (table : List Entry) where
  -- what a label rests on
  pub record Rests (n : ℕ) (l : L) : Type 0 where
    pub entry : Entry
    pub labels : List L
    pub at : slice_get table n ≡ Some entry
    pub have : HaveLabels Gives table entry.children labels
    pub gives : Gives entry.op labels l

  pub rests : {n : ℕ} {l : L} → HasLabel Gives table n l → Rests n l
  rests (labelled e ls is have gives) = record { entry = e; labels = ls; at = is; have = have; gives = gives }

  -- a child of a node with a label has one
  pub label_of : {ns : List ℕ} {ls : List L} → HaveLabels Gives table ns ls → (c : ℕ) → Contains ns c → (l : L) × HasLabel Gives table c l
  label_of no_label c h = absurd (nowhere c h)
  label_of (a_label {n} {ns} {l} {ls} first rest) c h =
      elim (cases n c ns h) [ inl e ↦ (l, subst (λ m. HasLabel Gives table m l) (sym e) first) | inr k ↦ label_of rest c k ]

  -- so has every node below roots that have labels
  pub label_below : {roots : List ℕ} → ((n : ℕ) → Contains roots n → (l : L) × HasLabel Gives table n l) → {k : ℕ} → IsBelow table roots k → (l : L) × HasLabel Gives table k l
  label_below have (root h) = have _ h
  label_below have (child {n} {c} e below is h) =
      let r = rests (label_below have below).1 in
      label_of r.have c (subst (λ d. Contains d.children c) (same_entry table n e r.entry is r.at) h)

  pub none_only : {ls : List L} → HaveLabels Gives table [] ls → ls ≡ []
  none_only no_label = refl

  pub taken : {n : ℕ} {ns : List ℕ} {ls : List L} → HaveLabels Gives table (n ∷ ns) ls
      → (l : L) × (rest : List L) × (ls ≡ l ∷ rest) × HasLabel Gives table n l × HaveLabels Gives table ns rest
  taken (a_label {l} {ls} first more) = (l, ls, refl, first, more)

  -- where an operation gives at most one label, a node has at most one
  module _ (once : (op : Op) (ls : List L) (k l : L) → Gives op ls k → Gives op ls l → k ≡ l) where
    mutual
      pub label_once : {n : ℕ} {k l : L} → HasLabel Gives table n k → HasLabel Gives table n l → k ≡ l
      label_once {n} {k} {l} (labelled e ks is have gives) other =
          let r = rests other in
          let same = same_entry table n r.entry e r.at is in
          let lists : ks ≡ r.labels = labels_once have (subst (λ d. HaveLabels Gives table d.children r.labels) same r.have) in
          once e.op ks k l gives (subst (λ d. Gives d.op ks l) same (subst (λ ms. Gives r.entry.op ms l) (sym lists) r.gives))

      pub labels_once : {ns : List ℕ} {ks ls : List L} → HaveLabels Gives table ns ks → HaveLabels Gives table ns ls → ks ≡ ls
      labels_once no_label other = sym (none_only other)
      labels_once (a_label first rest) other =
          let t = taken other in
          ap₂ ◌∷◌ (label_once first t.3) (labels_once rest t.4) ∙ sym t.2

-- A label and a refusal never come together, and at most one reason stops.
module _ {L F : Type 0} (Gives : Op → List L → L → Type 0) (Refuses : Op → List L → F → Type 0) (table : List Entry)
    (once : (op : Op) (ls : List L) (k l : L) → Gives op ls k → Gives op ls l → k ≡ l)
    (never_both : (op : Op) (ls : List L) (l : L) (f : F) → Gives op ls l → Refuses op ls f → ⊥)
    (refuses_once : (op : Op) (ls : List L) (f g : F) → Refuses op ls f → Refuses op ls g → f ≡ g) where
  not_labelled : {n : ℕ} {l : L} {f : F} → IsRefused Gives Refuses table n f → HasLabel Gives table n l → ⊥
  not_labelled {n} {l} {f} r h =
      let own = rests Gives table h in
      let same = same_entry table n own.entry r.entry own.at r.at in
      let lists : r.labels ≡ own.labels = labels_once Gives table once r.have (subst (λ d. HaveLabels Gives table d.children own.labels) same own.have) in
      never_both own.entry.op own.labels l f own.gives (subst (λ ls. Refuses own.entry.op ls f) lists (subst (λ d. Refuses d.op r.labels f) (sym same) r.refused))

  pub stopped_unlabelled : {roots : List ℕ} {f : F} → StopsFor Gives Refuses table roots f → ((n : ℕ) → Contains roots n → (l : L) × HasLabel Gives table n l) → ⊥
  stopped_unlabelled s have = not_labelled s.1.refused (label_below Gives table have s.1.below).1

  pub stop_once : {roots : List ℕ} {f g : F} → StopsFor Gives Refuses table roots f → StopsFor Gives Refuses table roots g → f ≡ g
  stop_once {roots} {f} {g} s t =
      ⊎_elim
      (λ e. same_reason t.0 s.1.refused t.1.refused e)
      (λ d. ⊎_elim
      (λ h. absurd (not_labelled s.1.refused (t.1.earlier s.0 h s.1.below).1))
      (λ h. absurd (not_labelled t.1.refused (s.1.earlier t.0 h t.1.below).1))
      d)
      (cases_order s.0 t.0)
    where
      same_reason : {m : ℕ} (n : ℕ) → IsRefused Gives Refuses table m f → IsRefused Gives Refuses table n g → m ≡ n → f ≡ g
      same_reason {m} n r q e =
          let same = same_entry table m q.entry r.entry (subst (λ k. slice_get table k ≡ Some q.entry) (sym e) q.at) r.at in
          let lists : r.labels ≡ q.labels = labels_once Gives table once r.have (subst (λ d. HaveLabels Gives table d.children q.labels) same q.have) in
          refuses_once q.entry.op q.labels f g (subst (λ ls. Refuses q.entry.op ls f) lists (subst (λ d. Refuses d.op r.labels f) (sym same) r.refused)) q.refused

-- one way of giving labels carries another along
module _ {L X : Type 0} (R : L → X → Type 0) (Gives : Op → List L → L → Type 0) (Gives' : Op → List X → X → Type 0) (table : List Entry)
    (step : (op : Op) (ls : List L) (l : L) (xs : List X) → Gives op ls l → AreRelated R ls xs → (x : X) × Gives' op xs x × R l x) where
  mutual
    pub carried : {n : ℕ} {l : L} → HasLabel Gives table n l → (x : X) × HasLabel Gives' table n x × R l x
    carried {n} {l} (labelled e ls is have gives) =
        let below = all_carried have in
        let own = step e.op ls l below.0 gives below.2 in
        (own.0, labelled e below.0 is below.1 own.1, own.2)

    pub all_carried : {ns : List ℕ} {ls : List L} → HaveLabels Gives table ns ls → (xs : List X) × HaveLabels Gives' table ns xs × AreRelated R ls xs
    all_carried no_label = ([], no_label, tt)
    all_carried (a_label first rest) =
        let one = carried first in
        let more = all_carried rest in
        (one.0 ∷ more.0, a_label one.1 more.1, (one.2, more.2))

  -- where a refusal on the one side leaves no label on the other, what is refused below a node with a label does not exist
  pub refusal_carried : {F : Type 0} (Refuses : Op → List L → F → Type 0) {f : F}
      → ((op : Op) (ls : List L) (xs : List X) (x : X) → Refuses op ls f → AreRelated R ls xs → Gives' op xs x → ⊥)
      → ((op : Op) (ls : List X) (k l : X) → Gives' op ls k → Gives' op ls l → k ≡ l)
      → {n : ℕ} {x : X} → IsRefused Gives Refuses table n f → HasLabel Gives' table n x → ⊥
  refusal_carried Refuses never once {n} {x} r h =
      let own = rests Gives' table h in
      let below = all_carried r.have in
      let same = same_entry table n own.entry r.entry own.at r.at in
      let lists : below.0 ≡ own.labels = labels_once Gives' table once below.1 (subst (λ d. HaveLabels Gives' table d.children own.labels) same own.have) in
      never r.entry.op r.labels below.0 x r.refused below.2
      (subst (λ d. Gives' d.op below.0 x) same (subst (λ xs. Gives' own.entry.op xs x) (sym lists) own.gives))
