-- One name more of a path.
use Rattle.std.proofs.Common.{◌≡◌, ℕ, suc, ◌+◌, ◌<◌, ◌≤◌, List, [], ◌∷◌, length, get_or, drop, refl, sym, ap, ◌∙◌, drop-cons, add-one, arith}
use Rattle.std.specs.Prelude.{Result, Ok, Err}
use Rattle.std.proofs.lemmas.List.{drop_all}
use Rattle.ato_base.specs.declared.places.Span.{Span}
use Rattle.ato_ast.specs.declared.names.Named.{Named}
use Rattle.ato_elab.specs.declared.built.Built.{Built}
use Rattle.ato_elab.specs.declared.finding_paths.Found.{Found}
use Rattle.ato_elab.specs.declared.finding_paths.Found.TheVariants as found
use Rattle.ato_elab.specs.Finding.{named_in, led_on, goes_on, steps_from, ended_at}

steps_cons : (built : Built) (at : ℕ) (n m : Named) (more : List Named) → steps_from built at n (m ∷ more) ≡ led_on n m (named_in built at n.name.0) (λ number. steps_from built number m more)
unfolding steps_from
steps_cons built at n m more = refl

steps_nil : (built : Built) (at : ℕ) (n : Named) → steps_from built at n [] ≡ ended_at at n (named_in built at n.name.0)
unfolding steps_from
steps_nil built at n = refl

steps_step : (built : Built) (at : ℕ) (n d : Named) (ms : List Named) (i : ℕ) (r : Result ℕ Span) → i < length ms
    → ((further : ℕ → Found) → led_on n (get_or ms i d) (named_in built at n.name.0) further ≡ goes_on further r)
    → steps_from built at n (drop i ms) ≡ goes_on (λ k. steps_from built k (get_or ms i d) (drop (i + 1) ms)) r
steps_step built at n d ms i r h on =
    let cut : drop i ms ≡ get_or ms i d ∷ drop (i + 1) ms = rw (add-one, drop-cons ms i d h) refl in
    ap (steps_from built at n) cut ∙ steps_cons built at n (get_or ms i d) (drop (i + 1) ms) ∙ on (λ k. steps_from built k (get_or ms i d) (drop (i + 1) ms))

-- the path goes on
pub steps_on : (built : Built) (at : ℕ) (n d : Named) (ms : List Named) (i : ℕ) (r : Result ℕ Span) (k : ℕ) → i < length ms
    → ((further : ℕ → Found) → led_on n (get_or ms i d) (named_in built at n.name.0) further ≡ goes_on further r) → r ≡ Ok k
    → steps_from built at n (drop i ms) ≡ steps_from built k (get_or ms i d) (drop (i + 1) ms)
steps_on built at n d ms i r k h on is = steps_step built at n d ms i r h on ∙ ap (goes_on (λ k. steps_from built k (get_or ms i d) (drop (i + 1) ms))) is

-- the path breaks off
pub steps_off : (built : Built) (at : ℕ) (n d : Named) (ms : List Named) (i : ℕ) (r : Result ℕ Span) (place : Span) → i < length ms
    → ((further : ℕ → Found) → led_on n (get_or ms i d) (named_in built at n.name.0) further ≡ goes_on further r) → r ≡ Err place
    → steps_from built at n (drop i ms) ≡ found.Lost place
steps_off built at n d ms i r place h on is = steps_step built at n d ms i r h on ∙ ap (goes_on (λ k. steps_from built k (get_or ms i d) (drop (i + 1) ms))) is

-- the path is at its last name
pub steps_end : (built : Built) (at : ℕ) (n : Named) (ms : List Named) (i : ℕ) → length ms ≤ i → steps_from built at n (drop i ms) ≡ ended_at at n (named_in built at n.name.0)
steps_end built at n ms i h = ap (steps_from built at n) (drop_all i ms h) ∙ steps_nil built at n
