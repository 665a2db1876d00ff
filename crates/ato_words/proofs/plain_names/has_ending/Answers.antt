use Rattle.std.proofs.Common.{◌++◌, ap, sym, ◌∙◌, Some, None}
use Rattle.std.specs.Str.{bytes_eq}
use Rattle.std.proofs.lemmas.Bool.Decides.{Decides-eqb}
use Rattle.std.proofs.lemmas.Slice.Eq.{strip_prefix_is}
use Rattle.ato_words.proofs.PlainNameLemmas.{bytes_eq-front, no_front}
use Rattle.ato_words.proofs.plain_names.has_ending.Goals as goal

pub returns-in-None : goal.returns-in-None
returns-in-None c =
    let none = strip_prefix_is Decides-eqb c.as_bytes.result.now c.as_bytes-2.result.now None c.in-None.ensures.cases in
    sym (rw (sym c.as_bytes.ensures.value, sym c.as_bytes-2.ensures.value) (no_front _ _ _ none))

pub returns-in-Some : goal.returns-in-Some
returns-in-Some c =
    let front = strip_prefix_is Decides-eqb c.as_bytes.result.now c.as_bytes-2.result.now (Some c.in-Some.rest) c.in-Some.ensures.cases in
    c.eq.ensures ∙ sym (ap (λ t. bytes_eq t (c.args.out.now ++ c.args.ending.now)) (sym c.as_bytes.ensures.value ∙ front ∙ ap (λ o. o ++ c.in-Some.rest.now) c.as_bytes-2.ensures.value) ∙ bytes_eq-front c.args.out.now c.in-Some.rest.now c.args.ending.now)
