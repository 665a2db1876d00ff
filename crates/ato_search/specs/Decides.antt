-- Which verdict a search gives.
use Rattle.ato_cert.specs.declared.problem.Problem.{Problem}
use Rattle.ato_cert.specs.declared.cert.Verdict.TheVariants.{Refuted}
use Rattle.ato_cert.specs.declared.cert.Proof.{Proof}
use Rattle.ato_cert.specs.declared.cert.Proof.TheVariants.{Built, Tree}
use Rattle.ato_cert.specs.Good.{IsFirstGood, NoGood}

-- a proof that decides a problem: with the first good pick where a pick is good, and else that none is
abbrev pub Decides : Problem → Proof → Type 0
Decides problem (Built pick boxes) = IsFirstGood problem pick
Decides problem (Tree Refuted tree) = NoGood problem
