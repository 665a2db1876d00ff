-- One path more of an expression.
use Rattle.std.proofs.Common.{◌≡◌, ℕ, suc, ◌+◌, ◌<◌, ◌≤◌, List, [], ◌∷◌, Option, Some, None, length, get_or, drop, refl, sym, ap, ◌∙◌, drop-cons, add-one, Bor}
use Rattle.std.specs.Prelude.{map}
use Rattle.std.specs.Option.{option_or}
use Rattle.std.proofs.lemmas.List.{drop_all}
use Rattle.ato_ast.specs.declared.paths.Path.{Path}
use Rattle.ato_elab.specs.declared.faults.Mark.{Mark}
use Rattle.ato_elab.specs.declared.faults.Wanted.TheVariants as wanted
use Rattle.ato_elab.specs.declared.late_ground.Ground.{Ground}
use Rattle.ato_elab.specs.Ground.{found_in}
use Rattle.ato_elab.specs.Faults.{judged}
use Rattle.ato_elab.specs.Late.{params_in}

pub drop_read : {X : Type 0} (xs : List X) (i : ℕ) (x : X) → i < length xs → x ≡ get_or xs i x → drop i xs ≡ x ∷ drop (i + 1) xs
drop_read {X = X} xs i x h e = rw (add-one, drop-cons xs i x h) (ap (λ (y : X). y ∷ drop (suc i) xs) (sym e))

params_cons : (g : Ground) (instance : ℕ) (p : Path) (ps : List Path) → params_in g instance (p ∷ ps) ≡ option_or (judged wanted.Param (found_in g instance p)) (params_in g instance ps)
unfolding params_in
params_cons g instance p ps = refl

params_nil : (g : Ground) (instance : ℕ) → params_in g instance [] ≡ None
unfolding params_in
params_nil g instance = refl

params_step : (g : Ground) (instance : ℕ) (ps : List (Bor Path)) (i : ℕ) (p : Bor Path) → i < length ps → p ≡ get_or ps i p
    → params_in g instance (map (λ p. p.now) (drop i ps)) ≡ option_or (judged wanted.Param (found_in g instance p.now)) (params_in g instance (map (λ p. p.now) (drop (i + 1) ps)))
params_step g instance ps i p h e = ap (λ (qs : List (Bor Path)). params_in g instance (map (λ p. p.now) qs)) (drop_read ps i p h e)
    ∙ params_cons g instance p.now (map (λ p. p.now) (drop (i + 1) ps))

pub params_here : (g : Ground) (instance : ℕ) (ps : List (Bor Path)) (i : ℕ) (p : Bor Path) (m : Mark) → i < length ps → p ≡ get_or ps i p
    → judged wanted.Param (found_in g instance p.now) ≡ Some m → params_in g instance (map (λ p. p.now) (drop i ps)) ≡ Some m
params_here g instance ps i p m h e is = params_step g instance ps i p h e
    ∙ ap (λ (o : Option Mark). option_or o (params_in g instance (map (λ p. p.now) (drop (i + 1) ps)))) is

pub params_later : (g : Ground) (instance : ℕ) (ps : List (Bor Path)) (i : ℕ) (p : Bor Path) → i < length ps → p ≡ get_or ps i p
    → judged wanted.Param (found_in g instance p.now) ≡ None → params_in g instance (map (λ p. p.now) (drop i ps)) ≡ params_in g instance (map (λ p. p.now) (drop (i + 1) ps))
params_later g instance ps i p h e is = params_step g instance ps i p h e
    ∙ ap (λ (o : Option Mark). option_or o (params_in g instance (map (λ p. p.now) (drop (i + 1) ps)))) is

pub params_end : (g : Ground) (instance : ℕ) (ps : List (Bor Path)) (i : ℕ) → length ps ≤ i → params_in g instance (map (λ p. p.now) (drop i ps)) ≡ None
params_end g instance ps i h = ap (λ (qs : List (Bor Path)). params_in g instance (map (λ p. p.now) qs)) (drop_all i ps h) ∙ params_nil g instance
