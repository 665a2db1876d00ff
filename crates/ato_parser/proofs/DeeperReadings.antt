-- A whole file that may have deeper parentheses.
use Rattle.std.proofs.Common.{◌≡◌, ℕ, zero, suc, ◌<◌, ◌≤◌, ◌⊎◌, inl, inr, Ok, Err, ap, ◌∙◌, subst, arith}
use native.Mathlib.Nat.{eq-or-lt_of_le}
use Rattle.ato_ast.specs.declared.blocks.File.{File}
use Rattle.ato_parser.specs.declared.stop.Stop.{Stop}
use Rattle.ato_parser.specs.declared.stop.Stop.TheVariants as stops
use Rattle.ato_parser.specs.Tokens.{Tokens}
use Rattle.ato_parser.specs.Input.{Outcome}
use Rattle.ato_parser.specs.FileReading.{file, start, value_of, whole}
use Rattle.ato_parser.proofs.Lawful.{left_of, StopsBefore}
use Rattle.ato_parser.proofs.ReaderLaws.{Goes}
use Rattle.ato_parser.proofs.ReaderFiles.{file_goes}
use Rattle.ato_parser.proofs.DeeperLaws.{Passes, deeper, sum_deeper}

pub file_deeper : (depth : ℕ) → Goes deeper (file depth) (file (suc depth))
file_deeper depth = file_goes deeper depth (suc depth) (sum_deeper depth)

file_passes : (depth : ℕ) (ts : Tokens) → Passes (file depth (start ts)) (file (suc depth) (start ts))
file_passes depth ts = ((file_deeper depth).along (start ts)).passes

-- ---- one more depth

value_kept : {A : Type 0} (o p : Outcome A) (a : A) → Passes o p → value_of o ≡ Ok a → value_of p ≡ Ok a
value_kept (Ok x) p a passes e = ap value_of passes ∙ e
value_kept (Err s) p a passes e = cc

fault_kept : {A : Type 0} (o p : Outcome A) (k : ℕ) → Passes o p → value_of o ≡ Err (stops.Syntax k) → value_of p ≡ Err (stops.Syntax k)
fault_kept (Ok x) p k passes e = cc
fault_kept (Err stops.NoMemory) p k passes e = absurd passes
fault_kept (Err (stops.Syntax l)) p k passes e = ap value_of passes ∙ e
fault_kept (Err (stops.TooDeep l)) p k passes e = cc

stop_passed : {A : Type 0} (o p : Outcome A) (k : ℕ) → Passes o p → value_of o ≡ Err (stops.TooDeep k) → left_of p < k
stop_passed (Ok x) p k passes e = cc
stop_passed (Err stops.NoMemory) p k passes e = absurd passes
stop_passed (Err (stops.Syntax l)) p k passes e = cc
stop_passed (Err (stops.TooDeep l)) p k passes e = let same : l ≡ k = cc in omega arith

-- a file that is read is read so
pub deeper_whole : (depth : ℕ) (ts : Tokens) (f : File) → whole depth ts ≡ Ok f → whole (suc depth) ts ≡ Ok f
unfolding whole
deeper_whole depth ts f e = value_kept _ _ f (file_passes depth ts) e

-- a fault stays
pub deeper_fault : (depth : ℕ) (ts : Tokens) (k : ℕ) → whole depth ts ≡ Err (stops.Syntax k) → whole (suc depth) ts ≡ Err (stops.Syntax k)
unfolding whole
deeper_fault depth ts k e = fault_kept _ _ k (file_passes depth ts) e

-- the parenthesis that was too deep is read
pub deeper_left : (depth : ℕ) (ts : Tokens) (k : ℕ) → whole depth ts ≡ Err (stops.TooDeep k) → left_of (file (suc depth) (start ts)) < k
unfolding whole
deeper_left depth ts k e = stop_passed _ _ k (file_passes depth ts) e

left_of_stop : {A : Type 0} (o : Outcome A) (e : Stop) (n : ℕ) → value_of o ≡ Err e → StopsBefore n e → left_of o ≡ n
left_of_stop (Ok x) e n is stops = cc
left_of_stop (Err s) stops.NoMemory n is before = absurd before
left_of_stop (Err s) (stops.Syntax k) n is before = let same : s ≡ stops.Syntax k = cc in ap (λ t. left_of {A = Unit {0}} (Err t)) same ∙ before
left_of_stop (Err s) (stops.TooDeep k) n is before = let same : s ≡ stops.TooDeep k = cc in ap (λ t. left_of {A = Unit {0}} (Err t)) same ∙ before

-- where it stops then, it stops behind that parenthesis
pub deeper_stop : (depth : ℕ) (ts : Tokens) (k n : ℕ) (e : Stop) → whole depth ts ≡ Err (stops.TooDeep k) → whole (suc depth) ts ≡ Err e → StopsBefore n e → n < k
unfolding whole
deeper_stop depth ts k n e deep is before =
    let same : left_of (file (suc depth) (start ts)) ≡ n = left_of_stop (file (suc depth) (start ts)) e n is before in
    subst (λ l. l < k) same (stop_passed (file depth (start ts)) (file (suc depth) (start ts)) k (file_passes depth ts) deep)

-- ---- any greater depth

-- what each number hands on to the next
pub climbs : (P : ℕ → Type 0) → ((n : ℕ) → P n → P (suc n)) → (d e : ℕ) → d ≤ e → P d → P e
climbs P next d zero le p = subst P (omega arith) p
climbs P next d (suc e) le p = climbed P next d e (eq-or-lt_of_le le) (climbs P next d e) p
  where
    climbed : (P : ℕ → Type 0) → ((n : ℕ) → P n → P (suc n)) → (d e : ℕ) → (d ≡ suc e) ⊎ (d < suc e) → (d ≤ e → P d → P e) → P d → P (suc e)
    climbed P next d e (inl same) below p = subst P same p
    climbed P next d e (inr less) below p = next e (below (omega arith) p)

pub whole_upwards : (d e : ℕ) (ts : Tokens) (f : File) → d ≤ e → whole d ts ≡ Ok f → whole e ts ≡ Ok f
whole_upwards d e ts f le = climbs (λ n. whole n ts ≡ Ok f) (λ n. deeper_whole n ts f) d e le

pub fault_upwards : (d e : ℕ) (ts : Tokens) (k : ℕ) → d ≤ e → whole d ts ≡ Err (stops.Syntax k) → whole e ts ≡ Err (stops.Syntax k)
fault_upwards d e ts k le = climbs (λ n. whole n ts ≡ Err (stops.Syntax k)) (λ n. deeper_fault n ts k) d e le
