-- What one entry puts in, and what all entries leave.
use Rattle.std.proofs.Common.{◌≡◌, ℕ, Bool, true, false, true≢false, ◌&&◌, cond, nat_eq, List, [], ◌∷◌, Option, Some, None, Bor, inl, inr, refl, sym, ap, ◌∙◌}
use Rattle.std.specs.Prelude.{fold}
use Rattle.std.specs.Option.{option_map, option_or}
use Rattle.std.specs.Str.{bytes_eq}
use Rattle.ato_files.specs.declared.program.Program.{Program}
use Rattle.ato_instance_tree.specs.declared.tree.Effective.{Effective}
use Rattle.ato_instance_tree.specs.declared.tree.Tree.{Tree}
use Rattle.ato_instance_tree.proofs.SpotLaws.{IsIn}
use Rattle.ato_netlists.specs.Entries.{is_for, string_for, held_behind}
use Rattle.ato_netlists.proofs.CountedLaws.{bytes_turned, number_turned}

-- ---- one entry

module _ (program : Program) (tree : Tree) (e : Effective) where
  for_turned : (number : ℕ) (word name : List ℕ) → name ≡ e.name → (nat_eq e.node number && bytes_eq name word) ≡ is_for number word e
  for_turned number word name is =
      ap (λ (b : Bool). b && bytes_eq name word) (number_turned e.node number) ∙ ap (λ (b : Bool). nat_eq number e.node && b) (bytes_turned name word)
      ∙ ap (λ (n : List ℕ). nat_eq number e.node && bytes_eq word n) is

  pub entry_put : (F G : ℕ → List ℕ → Option (Bor (List ℕ))) (name : List ℕ) (text : Bor (List ℕ)) → name ≡ e.name
      → ((n : ℕ) (w : List ℕ) → G n w ≡ cond (nat_eq e.node n && bytes_eq name w) (Some text) (F n w)) → Some text.now ≡ string_for program tree e
      → (number : ℕ) (word : List ℕ) → option_map (λ t. t.now) (G number word) ≡ held_behind program tree number word (option_map (λ t. t.now) (F number word)) e
  unfolding held_behind
  entry_put F G name text is updates string number word =
      ap (option_map (λ (t : Bor (List ℕ)). t.now)) (updates number word ∙ ap (λ (b : Bool). cond b (Some text) (F number word)) (for_turned number word name is))
      ∙ by (is_for number word e) ∙ ap (λ (o : Option (List ℕ)). cond (is_for number word e) (option_or o (option_map (λ (t : Bor (List ℕ)). t.now) (F number word))) (option_map (λ (t : Bor (List ℕ)). t.now) (F number word))) string
    where
      by : (b : Bool) → option_map (λ t. t.now) (cond b (Some text) (F number word)) ≡ cond b (Some text.now) (option_map (λ t. t.now) (F number word))
      by true = refl
      by false = refl

  pub entry_kept : None ≡ string_for program tree e → (number : ℕ) (word : List ℕ) (old : Option (List ℕ)) → old ≡ held_behind program tree number word old e
  unfolding held_behind
  entry_kept none number word old = by (is_for number word e) ∙ ap (λ (o : Option (List ℕ)). cond (is_for number word e) (option_or o old) old) none
    where
      by : (b : Bool) → old ≡ cond b (option_or None old) old
      by true = refl
      by false = refl

-- ---- all entries

module _ (program : Program) (tree : Tree) (number : ℕ) (word : List ℕ) (text : Option (List ℕ)) where
  -- the entries of the name all have this string
  abbrev pub AllHave : List Effective → Type 0
  AllHave es = (e : Effective) → IsIn e es → is_for number word e ≡ true → string_for program tree e ≡ text

  or_same : (o : Option (List ℕ)) → option_or o o ≡ o
  or_same None = refl
  or_same (Some x) = refl

  or_none : (o : Option (List ℕ)) → option_or o None ≡ o
  or_none None = refl
  or_none (Some x) = refl

  step_stays : (e : Effective) → (is_for number word e ≡ true → string_for program tree e ≡ text) → held_behind program tree number word text e ≡ text
  unfolding held_behind
  step_stays e same = by (is_for number word e) refl
    where
      by : (b : Bool) → is_for number word e ≡ b → cond b (option_or (string_for program tree e) text) text ≡ text
      by true t = ap (λ (o : Option (List ℕ)). option_or o text) (same t) ∙ or_same text
      by false t = refl

  step_first : (e : Effective) → (is_for number word e ≡ true → string_for program tree e ≡ text) → is_for number word e ≡ true → held_behind program tree number word None e ≡ text
  unfolding held_behind
  step_first e same t = ap (λ (b : Bool). cond b (option_or (string_for program tree e) None) None) t ∙ or_none (string_for program tree e) ∙ same t

  step_not : (e : Effective) → is_for number word e ≡ false → held_behind program tree number word None e ≡ None
  unfolding held_behind
  step_not e t = ap (λ (b : Bool). cond b (option_or (string_for program tree e) None) None) t

  pub all_stay : (es : List Effective) (old : Option (List ℕ)) → old ≡ text → AllHave es → fold (held_behind program tree number word) old es ≡ text
  all_stay [] old is all = is
  all_stay (e ∷ es) old is all =
      all_stay es (held_behind program tree number word old e) (ap (λ (o : Option (List ℕ)). held_behind program tree number word o e) is ∙ step_stays e (all e (inl refl))) (λ f h. all f (inr h))

  pub all_reach : (es : List Effective) (e : Effective) → IsIn e es → is_for number word e ≡ true → AllHave es → fold (held_behind program tree number word) None es ≡ text
  all_reach [] e h t all = absurd h
  all_reach (f ∷ es) e h t all = by (is_for number word f) refl h (λ k. all_reach es e k t (λ g m. all g (inr m)))
    where
      by : (b : Bool) → is_for number word f ≡ b → IsIn e (f ∷ es) → (IsIn e es → fold (held_behind program tree number word) None es ≡ text)
          → fold (held_behind program tree number word) (held_behind program tree number word None f) es ≡ text
      by true u k more = all_stay es (held_behind program tree number word None f) (step_first f (all f (inl refl)) u) (λ g m. all g (inr m))
      by false u (inl same) more = absurd (true≢false (sym t ∙ ap (is_for number word) same ∙ u))
      by false u (inr k) more = ap (λ (o : Option (List ℕ)). fold (held_behind program tree number word) o es) (step_not f u) ∙ more k
