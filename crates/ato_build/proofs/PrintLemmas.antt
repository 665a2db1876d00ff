use Rattle.std.proofs.Common.{◌≡◌, ℕ, ◌<◌, ◌≤◌, ◌+◌, ◌-◌, Bool, true, false, List, [], ◌++◌, length, take, drop, take-append-drop, ap, sym, ◌∙◌, subst, append_assoc, append-nil, length-drop, arith}
use Rattle.std.specs.Prelude.{Option, Some, None, Ok, Err}
use Rattle.std.proofs.lemmas.List.{take_all}
use Rattle.std.proofs.Math.Seq.{take-add, take-append-add, take-append_seam}
use Rattle.ato_outside.specs.declared.sink.SinkFailed.{SinkFailed}
use Rattle.ato_outside.specs.Sink.{WritesWhereTold}
use Rattle.ato_outside.specs.Causes.{Counts}
use Rattle.ato_build.specs.Printing.{Appends, Prints}

-- nothing was appended yet
pub appends_nothing : (o : Option (List ℕ)) → Appends o o []
appends_nothing None = tt
appends_nothing (Some old) = sym (append-nil old)

-- a write goes on
appends_more : (o m n : Option (List ℕ)) (text : List ℕ) (at k : ℕ) → Appends o m (take at text) → WritesWhereTold m n (drop at text) (Ok k) → Appends o n (take (at + k) text)
appends_more None None None text at k p q = tt
appends_more None None (Some n) text at k p q = absurd q
appends_more None (Some m) n text at k p q = absurd p
appends_more (Some o) None n text at k p q = absurd p
appends_more (Some o) (Some m) None text at k p q = absurd q
appends_more (Some o) (Some m) (Some n) text at k p q = q ∙ ap (λ l. l ++ take k (drop at text)) p ∙ append_assoc o (take at text) (take k (drop at text)) ∙ ap (λ l. o ++ l) (sym (take-add at k text))

-- a failed write changed nothing
pub appends_same : (o m n : Option (List ℕ)) (text : List ℕ) (piece : List ℕ) (e : SinkFailed) → Appends o m text → WritesWhereTold m n piece (Err e) → Appends o n text
appends_same None None None text piece e p q = tt
appends_same None None (Some n) text piece e p q = absurd q
appends_same None (Some m) n text piece e p q = absurd p
appends_same (Some o) None n text piece e p q = absurd p
appends_same (Some o) (Some m) None text piece e p q = absurd q
appends_same (Some o) (Some m) (Some n) text piece e p q = q ∙ p

rest_whole : (text : List ℕ) (at : ℕ) → take (length text - at) (drop at text) ≡ drop at text
rest_whole text at = take_all (length text - at) (drop at text) (omega (arith, length-drop at text))

-- a write of the rest of a text goes on
pub appends_rest : (o m n : Option (List ℕ)) (text : List ℕ) (at k : ℕ) → Appends o m (take at text) → WritesWhereTold m n (take (length text - at) (drop at text)) (Ok k) → Appends o n (take (at + k) text)
appends_rest o m n text at k p q = appends_more o m n text at k p (subst (λ l. WritesWhereTold m n l (Ok k)) (rest_whole text at) q)

-- a write of the rest of a text stays within it
pub rest_within : (text : List ℕ) (at k : ℕ) → at ≤ length text → k ≤ length (take (length text - at) (drop at text)) → at + k ≤ length text
rest_within text at k h b = let s : length (take (length text - at) (drop at text)) ≡ length (drop at text) = ap length (rest_whole text at) in omega (arith, length-drop at text)

-- a count that no fault raised
pub not_risen : (before now : ℕ) (P : Type 0) → Counts before now P → (P → ⊥) → now ≤ before
not_risen before now P h quiet = let none : before < now → ⊥ = λ l. quiet (h.only l) in omega arith

-- a text is appended behind another
pub appends_both : (o m n : Option (List ℕ)) (a b : List ℕ) → Appends o m a → Appends m n b → Appends o n (a ++ b)
appends_both None None None a b p q = tt
appends_both None None (Some n) a b p q = absurd q
appends_both None (Some m) n a b p q = absurd p
appends_both (Some o) None n a b p q = absurd p
appends_both (Some o) (Some m) None a b p q = absurd q
appends_both (Some o) (Some m) (Some n) a b p q = q ∙ ap (λ l. l ++ b) p ∙ append_assoc o a b

-- behind the whole of a text, the print of another
pub prints_both : (o m n : Option (List ℕ)) (a b : List ℕ) (r : Bool) → Prints o m a true → Prints m n b r → Prints o n (a ++ b) r
prints_both o m n a b true p q = appends_both o m n a b p q
prints_both o m n a b false p q = (length a + q.0, subst (Appends o n) (sym (take-append-add a b q.0)) (appends_both o m n a (take q.0 b) p q.1))

-- a front of a text is one of a longer text
take-front : (a b : List ℕ) (k : ℕ) → take (length (take k a)) (a ++ b) ≡ take k a
take-front a b k =
    ap (λ l. take (length (take k a)) (l ++ b)) (sym (take-append-drop k a))
    ∙ ap (take (length (take k a))) (append_assoc (take k a) (drop k a) b)
    ∙ take-append_seam (take k a) (drop k a ++ b)

-- where the print of a text stopped, so does that of a longer text
pub prints_stopped : (o m : Option (List ℕ)) (a b : List ℕ) → Prints o m a false → Prints o m (a ++ b) false
prints_stopped o m a b p = (length (take p.0 a), subst (Appends o m) (sym (take-front a b p.0)) p.1)
