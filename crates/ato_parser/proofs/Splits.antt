-- A list that is cut at two places.
use Rattle.std.proofs.Common.{◌≡◌, List, [], ◌∷◌, ◌++◌, refl, sym}

-- The one cut lies behind the other, or the other way round.
pub data Cuts {A : Type 0} (ts us xs ys : List A) : Type 0 where
  first_in : (between : List A) → xs ≡ ts ++ between → us ≡ between ++ ys → Cuts ts us xs ys
  second_in : (between : List A) → ts ≡ xs ++ between → ys ≡ between ++ us → Cuts ts us xs ys

longer_cuts : {A : Type 0} (x y : A) {ts us xs ys : List A} → x ≡ y → Cuts ts us xs ys → Cuts (x ∷ ts) us (y ∷ xs) ys
longer_cuts x y e (first_in between p q) = first_in between (cc) q
longer_cuts x y e (second_in between p q) = second_in between (cc) q

pub cuts : {A : Type 0} (ts us xs ys : List A) → ts ++ us ≡ xs ++ ys → Cuts ts us xs ys
cuts [] us xs ys e = first_in xs refl e
cuts (t ∷ ts) us [] ys e = second_in (t ∷ ts) refl (sym e)
cuts (t ∷ ts) us (x ∷ xs) ys e = longer_cuts t x (cc) (cuts ts us xs ys cc)

-- the first part of no items has none
pub no_first : {A : Type 0} (ts us : List A) → [] ≡ ts ++ us → [] ≡ ts
no_first [] us e = refl
no_first (t ∷ ts) us e = cc
