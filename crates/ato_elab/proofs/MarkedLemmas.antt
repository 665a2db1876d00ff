-- One statement more that is looked at.
use Rattle.std.proofs.Common.{◌≡◌, ℕ, suc, ◌+◌, ◌<◌, ◌≤◌, List, [], ◌∷◌, Option, Some, None, length, get_or, drop, refl, sym, ap, ◌∙◌, Bor, add-one}
use Rattle.std.specs.Prelude.{map}
use Rattle.std.specs.Option.{option_or}
use Rattle.std.proofs.lemmas.List.{drop_all}
use Rattle.ato_ast.specs.declared.stmts.Stmt.{Stmt}
use Rattle.ato_elab.specs.declared.faults.Mark.{Mark}
use Rattle.ato_elab.specs.declared.late_ground.Ground.{Ground}
use Rattle.ato_elab.specs.Late.{numbered_mark, marks_from}
use Rattle.ato_elab.proofs.ParamLemmas.{drop_read}

marks_cons : (g : Ground) (i : ℕ) (s : Stmt) (ss : List Stmt) → marks_from g i (s ∷ ss) ≡ option_or (numbered_mark g i s) (marks_from g (i + 1) ss)
unfolding marks_from
marks_cons g i s ss = ap (λ (k : ℕ). option_or (numbered_mark g i s) (marks_from g k ss)) (sym (add-one i))

marks_nil : (g : Ground) (i : ℕ) → marks_from g i [] ≡ None
unfolding marks_from
marks_nil g i = refl

marks_step : (g : Ground) (ss : List (Bor Stmt)) (i : ℕ) (s : Bor Stmt) → i < length ss → s ≡ get_or ss i s
    → marks_from g i (map (λ s. s.now) (drop i ss)) ≡ option_or (numbered_mark g i s.now) (marks_from g (i + 1) (map (λ s. s.now) (drop (i + 1) ss)))
marks_step g ss i s h e = ap (λ (xs : List (Bor Stmt)). marks_from g i (map (λ s. s.now) xs)) (drop_read ss i s h e) ∙ marks_cons g i s.now (map (λ s. s.now) (drop (i + 1) ss))

pub marks_here : (g : Ground) (ss : List (Bor Stmt)) (i : ℕ) (s : Bor Stmt) (m : ℕ × Mark) → i < length ss → s ≡ get_or ss i s → numbered_mark g i s.now ≡ Some m
    → marks_from g i (map (λ s. s.now) (drop i ss)) ≡ Some m
marks_here g ss i s m h e is = marks_step g ss i s h e ∙ ap (λ (o : Option (ℕ × Mark)). option_or o (marks_from g (i + 1) (map (λ s. s.now) (drop (i + 1) ss)))) is

pub marks_later : (g : Ground) (ss : List (Bor Stmt)) (i : ℕ) (s : Bor Stmt) → i < length ss → s ≡ get_or ss i s → numbered_mark g i s.now ≡ None
    → marks_from g i (map (λ s. s.now) (drop i ss)) ≡ marks_from g (i + 1) (map (λ s. s.now) (drop (i + 1) ss))
marks_later g ss i s h e is = marks_step g ss i s h e ∙ ap (λ (o : Option (ℕ × Mark)). option_or o (marks_from g (i + 1) (map (λ s. s.now) (drop (i + 1) ss)))) is

pub marks_end : (g : Ground) (ss : List (Bor Stmt)) (i : ℕ) → length ss ≤ i → marks_from g i (map (λ s. s.now) (drop i ss)) ≡ None
marks_end g ss i h = ap (λ (xs : List (Bor Stmt)). marks_from g i (map (λ s. s.now) xs)) (drop_all i ss h) ∙ marks_nil g i
