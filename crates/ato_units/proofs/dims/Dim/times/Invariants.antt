use Rattle.std.proofs.Common.{◌≡◌, length}
use Rattle.std.specs.Prelude.{◌+ℤ◌}
use Rattle.ato_units.specs.Exponents.{exponent, AreExponents}
use Rattle.ato_units.proofs.dims.Dim.times.Given as goal

abbrev pub invariant-loop-i : goal.invariant-loop-i
invariant-loop-i l = (length l.exponents ≡ 7) × AreExponents (λ k. exponent l.self.0 k +ℤ exponent l.o.0 k) l.i l.exponents
