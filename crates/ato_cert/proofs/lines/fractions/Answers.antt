use Rattle.std.proofs.Common.{◌∙◌, sym, ap, Some, [], ◌∷◌, ◌++◌, append_assoc}
use Rattle.std.specs.List.{flat_map}
use Rattle.ato_cert.specs.Texts.{fraction_word}
use Rattle.ato_cert.proofs.LineLemmas.{next_fraction, no_fraction, after_fractions}
use Rattle.ato_cert.proofs.lines.fractions.Goals as goal

pub loop-word-preserved : goal.loop-word-preserved
loop-word-preserved c = λ point end e.
    next_fraction _ point c.loop-word.point c.loop-word.rest.now c.in-Some.word.now end (c.loop-word.invariant point end e) c.in-Some.ensures.stands
    (λ f fs p w.
    let r = c.in-Some-fraction.ensures.back f (flat_map fraction_word fs ++ (10 ∷ end)) (after_fractions fs end) w in
    (fs, rw (c.in_ok-push-in-Some-fraction.ensures.ok, r.0) (p ∙ sym (append_assoc c.loop-word.point (f ∷ []) fs)), r.1))

pub returns-in-None : goal.returns-in-None
returns-in-None c = λ point end e.
    next_fraction _ point c.loop-word.point c.loop-word.rest.now c.in-Some.word.now end (c.loop-word.invariant point end e) c.in-Some.ensures.stands
    (λ f fs p w. absurd (c.in-None.ensures.back f (flat_map fraction_word fs ++ (10 ∷ end)) (after_fractions fs end) w))

pub returns : goal.returns
returns c = λ point end e. ap Some (sym (no_fraction point c.loop-word.point c.loop-word.rest.now end (c.loop-word.invariant point end e) c.in_default.ensures.back))
