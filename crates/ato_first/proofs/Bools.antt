use Rattle.std.proofs.Common.{◌≡◌, Bool, true, false, ◌||◌, ◌&&◌, refl}

pub and_true : (a b : Bool) → (a && b) ≡ true → (a ≡ true) × (b ≡ true)
and_true true true h = (refl, refl)
and_true true false h = let bad : ⊥ = cc in absurd bad
and_true false b h = let bad : ⊥ = cc in absurd bad

pub or_false : (a b : Bool) → (a || b) ≡ false → (a ≡ false) × (b ≡ false)
or_false true b h = let bad : ⊥ = cc in absurd bad
or_false false b h = (refl, h)

pub not_both : (a b : Bool) → a ≡ true → (a || b) ≡ false → ⊥
not_both true b p h = cc
not_both false b p h = cc

pub or_true : (a b : Bool) → (a || b) ≡ true → (P : Type 0) → (a ≡ true → P) → (b ≡ true → P) → P
or_true true b h P f g = f refl
or_true false b h P f g = g h
