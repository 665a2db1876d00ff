use Rattle.std.proofs.Common.{◌≡◌, ℕ, ◌-◌, ◌≤◌, ◌<◌, List, ◌++◌, length, Option, None, Some, IfSome, refl, sym, ap, subst, ◌∙◌, arith, length-append, take, drop, append_assoc, take-append-drop}
use Rattle.std.specs.Io.KnownBytes.{Consumes, Appends}
use Rattle.std.proofs.KnownBytes.{Consumes-trans, Appends-trans}
use Rattle.std.proofs.lemmas.List.{length-take-le}
use lib.Seq.{take-append_seam}

-- a reader that gave more bytes than there is room for had more than the limit
pub long_by_more : (old mid new : Option (List ℕ)) (bytes piece : List ℕ) (count limit : ℕ) → Consumes old mid bytes → Consumes mid new (take count piece)
    → count ≤ length piece → limit - length bytes < count → IfSome old (λ rest. (file : List ℕ) × (Some rest ≡ Some file) × (limit < length file))
long_by_more None mid new bytes piece count limit gave then inside long = tt
long_by_more (Some rest) None new bytes piece count limit gave then inside long = absurd gave
long_by_more (Some rest) (Some middle) None bytes piece count limit gave then inside long = absurd then
long_by_more (Some rest) (Some middle) (Some left) bytes piece count limit gave then inside long =
    (rest, refl, omega (arith, ap length gave, ap length then, length-append bytes middle, length-append (take count piece) left, length-take-le count piece inside))

-- what two reads gave stays within the limit where the second fits into the room left
pub read_more : (old mid new : Option (List ℕ)) (bytes piece next : List ℕ) (count limit : ℕ) → Consumes old mid bytes → Consumes mid new (take count piece)
    → next ≡ bytes ++ take count piece → count ≤ length piece → length bytes ≤ limit → count ≤ limit - length bytes → (length next ≤ limit) × Consumes old new next
read_more old mid new bytes piece next count limit gave then is inside below fits = (
  omega (arith, ap length is, length-append bytes (take count piece), length-take-le count piece inside),
  subst (Consumes old new) (sym is) (Consumes-trans old mid new bytes (take count piece) gave then),
)

-- a write took the front of what was left
pub wrote_more : (old mid new : Option (List ℕ)) (all done rest next : List ℕ) (count : ℕ) → all ≡ done ++ rest → Appends old mid done
    → Appends mid new (take count rest) → next ≡ drop count rest → (more : List ℕ) × (all ≡ more ++ next) × Appends old new more
wrote_more old mid new all done rest next count split gave then is = (
  done ++ take count rest,
  split ∙ ap (λ l. done ++ l) (sym (take-append-drop count rest)) ∙ sym (append_assoc done (take count rest) (drop count rest)) ∙ ap (λ l. (done ++ take count rest) ++ l) (sym is),
  Appends-trans old mid new done (take count rest) gave then,
)

-- what was written so far is the first of all the bytes
pub wrote_first : (old new : Option (List ℕ)) (all done rest : List ℕ) → all ≡ done ++ rest → Appends old new done → (n : ℕ) × Appends old new (take n all)
wrote_first old new all done rest split gave = (length done, subst (Appends old new) (sym (ap (take (length done)) split ∙ take-append_seam done rest)) gave)
