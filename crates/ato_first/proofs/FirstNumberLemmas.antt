-- The points of a block and their numbers.
use Rattle.std.proofs.Common.{◌≡◌, ℕ, zero, suc, ◌<◌, ◌+◌, ◌-◌, Bool, true, false, cond, not, ◌||◌, List, [], ◌∷◌, length, get_or, ap, sym, ◌∙◌, refl, arith, subst, inl, inr, if◌then◌else◌, nat_lt}
use Rattle.std.specs.Prelude.{Contains}
use Rattle.std.specs.List.{list_any, flat_map, IsDistinct, AllByRecursion}
use Rattle.std.specs.Str.{bytes_eq}
use Rattle.std.proofs.lemmas.Slice.Eq.{bytes_eq-Decides}
use Rattle.std.proofs.lemmas.Bool.{lt-leb, le-leb}
use Rattle.std.proofs.lemmas.Map.Keys.{IsDistinct-head, IsDistinct-tail}
use Rattle.std.proofs.lemmas.List.Elements.{Contains-append_left, Contains-append_right}
use Rattle.ato_base.specs.Joined.{Joined}
use Rattle.ato_base.specs.NameTable.{number_of}
use Rattle.ato_base.proofs.ClassLaws.{cases, first, later, nowhere}
use Rattle.ato_base.proofs.JoinedLaws.{joined_map}
use Rattle.ato_first.specs.declared.first_form.Point.{Point}
use Rattle.ato_first.specs.declared.first_form.Point.TheVariants.{Signal, Pin}
use Rattle.ato_first.specs.declared.first_form.End.{End}
use Rattle.ato_first.specs.declared.first_form.End.TheVariants.{Name, Declared}
use Rattle.ato_first.specs.declared.first_form.Line.{Line}
use Rattle.ato_first.specs.declared.first_form.Line.TheVariants.{Pass, Declaration, Join, Kind, Attribute, Assertion}
use Rattle.ato_first.specs.declared.first_form.Block.{Block}
use Rattle.ato_nets.specs.ClassNumbers.{IsJoin}
use Rattle.ato_first.specs.FirstPoints.{signal_names, pin_labels, end_points, line_points, lines_points, signals_of, pins_of, end_point, IsJoinedByLine, AreJoined, is_unknown_in, is_unknown_end, AreKnown}
use Rattle.ato_first.specs.FirstJoins.{point_number, line_joins, lines_joins}
use Rattle.ato_first.specs.declared.first_points.Points.{Points}
use Rattle.ato_nets.proofs.DistinctLaws.{distinct_same, distinct_once, bytes_eq-flip}

-- ---- texts by their numbers

equal : (a b : List ℕ) → bytes_eq a b ≡ true → a ≡ b
equal a b h = (bytes_eq-Decides a b).0 h

itself : (a : List ℕ) → bytes_eq a a ≡ true
itself a = (bytes_eq-Decides a a).1 refl

found_step : (x : List ℕ) (xs : List (List ℕ)) (text : List ℕ) (b : Bool) → bytes_eq text x ≡ b → (b || list_any (bytes_eq text) xs) ≡ true
    → (list_any (bytes_eq text) xs ≡ true → (number_of xs text < length xs) × (get_or xs (number_of xs text) [] ≡ text))
    → (number_of (x ∷ xs) text < length (x ∷ xs)) × (get_or (x ∷ xs) (number_of (x ∷ xs) text) [] ≡ text)
found_step x xs text true e h rest =
    let here : number_of (x ∷ xs) text ≡ 0 = ap (λ b. cond (not b) (1 + number_of xs text) 0) e in
    (omega arith, ap (λ n. get_or (x ∷ xs) n []) here ∙ sym (equal text x e))
found_step x xs text false e h rest =
    let more = rest h in
    let here : number_of (x ∷ xs) text ≡ suc (number_of xs text) = ap (λ b. cond (not b) (1 + number_of xs text) 0) e ∙ omega arith in
    (omega (arith, more.0), ap (λ n. get_or (x ∷ xs) n []) here ∙ more.1)

-- a text that is there stands at its number
pub number_found : (names : List (List ℕ)) (text : List ℕ) → list_any (bytes_eq text) names ≡ true → (number_of names text < length names) × (get_or names (number_of names text) [] ≡ text)
number_found [] text h = let bad : ⊥ = cc in absurd bad
number_found (x ∷ xs) text h = found_step x xs text (bytes_eq text x) refl h (number_found xs text)

away : (x : List ℕ) (ys : List (List ℕ)) → AllByRecursion (λ z. bytes_eq x z ≡ false) ys → (k : ℕ) → k < length ys → bytes_eq x (get_or ys k []) ≡ false
away x [] a k l = absurd (omega arith)
away x (y ∷ ys) a zero l = a.0
away x (y ∷ ys) a (suc k) l = away x ys a.1 k (omega arith)

-- in texts that differ, a text has its place as its number
pub number_at : (names : List (List ℕ)) → IsDistinct bytes_eq names → (i : ℕ) → i < length names → number_of names (get_or names i []) ≡ i
number_at [] d i h = absurd (omega arith)
number_at (x ∷ xs) d zero h = ap (λ b. cond (not b) (1 + number_of xs x) 0) (itself x)
number_at (x ∷ xs) d (suc i) h =
    let apart : bytes_eq (get_or xs i []) x ≡ false = bytes_eq-flip (get_or xs i []) x ∙ away x xs (IsDistinct-head bytes_eq x xs d) i (omega arith) in
    ap (λ b. cond (not b) (1 + number_of xs (get_or xs i [])) 0) apart ∙ ap (λ n. 1 + n) (number_at xs (IsDistinct-tail bytes_eq x xs d) i (omega arith)) ∙ omega arith

-- ---- points of lines

-- an element of a list of lists
pub in_flat : {A B : Type 0} (f : A → List B) (xs : List A) (x : A) (y : B) → Contains xs x → Contains (f x) y → Contains (flat_map f xs) y
in_flat f [] x y h k = absurd (nowhere x h)
in_flat f (z ∷ zs) x y h k = elim (cases z x zs h) [
  | inl e ↦ Contains-append_left (f z) (flat_map f zs) y (subst (λ w. Contains (f w) y) e k)
  | inr m ↦ Contains-append_right (f z) (flat_map f zs) y (in_flat f zs x y m k)
]

pub or_right : (a : Bool) → (a || true) ≡ true
or_right true = refl
or_right false = refl

-- a declared signal or pin is among the names or labels
signal_there : (points : List Point) (name : List ℕ) → Contains points (Signal name) → list_any (bytes_eq name) (signal_names points) ≡ true
signal_there [] name h = absurd (nowhere (Signal name) h)
signal_there (Signal other ∷ points) name h = elim (cases (Signal other) (Signal name) points h) [
  | inl e ↦ let is : name ≡ other = cc in ap (λ b. b || list_any (bytes_eq name) (signal_names points)) (ap (bytes_eq name) (sym is) ∙ itself name)
  | inr m ↦ ap (λ b. bytes_eq name other || b) (signal_there points name m) ∙ or_right (bytes_eq name other)
]
signal_there (Pin label ∷ points) name h = elim (cases (Pin label) (Signal name) points h) [
  | inl e ↦ let bad : ⊥ = cc in absurd bad
  | inr m ↦ signal_there points name m
]

pin_there : (points : List Point) (label : List ℕ) → Contains points (Pin label) → list_any (bytes_eq label) (pin_labels points) ≡ true
pin_there [] label h = absurd (nowhere (Pin label) h)
pin_there (Pin other ∷ points) label h = elim (cases (Pin other) (Pin label) points h) [
  | inl e ↦ let is : label ≡ other = cc in ap (λ b. b || list_any (bytes_eq label) (pin_labels points)) (ap (bytes_eq label) (sym is) ∙ itself label)
  | inr m ↦ ap (λ b. bytes_eq label other || b) (pin_there points label m) ∙ or_right (bytes_eq label other)
]
pin_there (Signal name ∷ points) label h = elim (cases (Signal name) (Pin label) points h) [
  | inl e ↦ let bad : ⊥ = cc in absurd bad
  | inr m ↦ pin_there points label m
]

-- The block has the point.
pub Has : Block → Point → Type 0
Has block (Signal name) = list_any (bytes_eq name) (signals_of block) ≡ true
Has block (Pin label) = list_any (bytes_eq label) (pins_of block) ≡ true

declared : (block : Block) (point : Point) → Contains (lines_points block.lines) point → Has block point
unfolding Has
declared block (Signal name) h = distinct_same name (signal_names (lines_points block.lines)) ∙ signal_there (lines_points block.lines) name h
declared block (Pin label) h = distinct_same label (pin_labels (lines_points block.lines)) ∙ pin_there (lines_points block.lines) label h

pub or_false : (a b : Bool) → (a || b) ≡ false → (a ≡ false) × (b ≡ false)
or_false true b h = let bad : ⊥ = cc in absurd bad
or_false false b h = (refl, h)

-- an element that does not pass
passes_not : {A : Type 0} (p : A → Bool) (xs : List A) (x : A) → list_any p xs ≡ false → Contains xs x → p x ≡ false
passes_not p [] x h m = absurd (nowhere x m)
passes_not p (y ∷ ys) x h m = elim (cases y x ys m) [
  | inl e ↦ ap p e ∙ (or_false (p y) (list_any p ys) h).0
  | inr n ↦ passes_not p ys x (or_false (p y) (list_any p ys) h).1 n
]

known_name : (b : Bool) → not b ≡ false → b ≡ true
known_name true h = refl
known_name false h = let bad : ⊥ = cc in absurd bad

end_known : (block : Block) (end : End) → is_unknown_end (signals_of block) end ≡ false → ((point : Point) → Contains (end_points end) point → Contains (lines_points block.lines) point) → Has block (end_point end)
unfolding Has
end_known block (Name name) h within = known_name (list_any (bytes_eq name) (signals_of block)) h
end_known block (Declared point) h within = declared block point (within point (first point []))

-- The block has the points that its lines join.
pub ends_known : (block : Block) → AreKnown block → (left right : End) → Contains block.lines (Join left right) → Has block (end_point left) × Has block (end_point right)
ends_known block known left right h =
    let fine = or_false (is_unknown_end (signals_of block) left) (is_unknown_end (signals_of block) right) (passes_not (is_unknown_in block) block.lines (Join left right) known h) in (
      end_known block left fine.0 (λ point m. in_flat line_points block.lines (Join left right) point h (Contains-append_left (end_points left) (end_points right) point m)),
      end_known block right fine.1 (λ point m. in_flat line_points block.lines (Join left right) point h (Contains-append_right (end_points left) (end_points right) point m)),
    )

-- ---- the numbers of the points

-- the points of a block, signals and pins
abbrev pub the_points : Block → Points
the_points block = record { signals = signals_of block; pins = pins_of block }

-- how many points there are
abbrev pub point_count : Block → ℕ
point_count block = length (signals_of block) + length (pins_of block)

-- the point of a number: signals come first, then pins
pub point_at : Block → ℕ → Point
point_at block i = if nat_lt i (length (signals_of block)) then Signal (get_or (signals_of block) i []) else Pin (get_or (pins_of block) (i - length (signals_of block)) [])

pub at_signal : (block : Block) (i : ℕ) → i < length (signals_of block) → point_at block i ≡ Signal (get_or (signals_of block) i [])
unfolding point_at
at_signal block i h = ap (λ b. if b then Signal (get_or (signals_of block) i []) else Pin (get_or (pins_of block) (i - length (signals_of block)) [])) (le-leb (suc i) (length (signals_of block)) (omega arith))

pub at_pin : (block : Block) (i : ℕ) → point_at block (length (signals_of block) + i) ≡ Pin (get_or (pins_of block) i [])
unfolding point_at
at_pin block i =
    ap (λ b. if b then Signal (get_or (signals_of block) (length (signals_of block) + i) []) else Pin (get_or (pins_of block) (length (signals_of block) + i - length (signals_of block)) []))
    (lt-leb (suc (length (signals_of block) + i)) (length (signals_of block)) (omega arith))
    ∙ ap (λ n. Pin (get_or (pins_of block) n [])) (back (length (signals_of block)) i)
  where
    back : (a b : ℕ) → a + b - a ≡ b
    back a b = omega arith

-- A point that the block has stands at its number.
pub has_number : (block : Block) (point : Point) → Has block point → (point_number (the_points block) point < point_count block) × (point_at block (point_number (the_points block) point) ≡ point)
unfolding Has
has_number block (Signal name) h =
    let found = number_found (signals_of block) name h in
    (omega (arith, found.0), at_signal block (number_of (signals_of block) name) found.0 ∙ ap Signal found.1)
has_number block (Pin label) h =
    let found = number_found (pins_of block) label h in
    (omega (arith, found.0), at_pin block (number_of (pins_of block) label) ∙ ap Pin found.1)

-- The signal and the pin at a place have its number.
pub signal_number : (block : Block) (i : ℕ) → i < length (signals_of block) → point_number (the_points block) (Signal (get_or (signals_of block) i [])) ≡ i
signal_number block i h = number_at (signals_of block) (distinct_once (signal_names (lines_points block.lines))) i h

pub pin_number : (block : Block) (i : ℕ) → i < length (pins_of block) → point_number (the_points block) (Pin (get_or (pins_of block) i [])) ≡ length (signals_of block) + i
pin_number block i h = ap (λ n. length (signals_of block) + n) (number_at (pins_of block) (distinct_once (pin_labels (lines_points block.lines))) i h)

-- ---- the joins

-- a pair of numbers is that of a line
join_line : (points : Points) (lines : List Line) (i j : ℕ) → Contains (lines_joins points lines) (i, j)
    → (left : End) × (right : End) × Contains lines (Join left right) × (i ≡ point_number points (end_point left)) × (j ≡ point_number points (end_point right))
join_line points [] i j h = absurd (nowhere (i, j) h)
join_line points (Pass ∷ lines) i j h = let m = join_line points lines i j h in (m.0, m.1, later Pass (Join m.0 m.1) lines m.2, m.3, m.4)
join_line points (Declaration point ∷ lines) i j h = let m = join_line points lines i j h in (m.0, m.1, later (Declaration point) (Join m.0 m.1) lines m.2, m.3, m.4)
join_line points (Kind text ∷ lines) i j h = let m = join_line points lines i j h in (m.0, m.1, later (Kind text) (Join m.0 m.1) lines m.2, m.3, m.4)
join_line points (Attribute name ∷ lines) i j h = let m = join_line points lines i j h in (m.0, m.1, later (Attribute name) (Join m.0 m.1) lines m.2, m.3, m.4)
join_line points (Assertion asserted ∷ lines) i j h = let m = join_line points lines i j h in (m.0, m.1, later (Assertion asserted) (Join m.0 m.1) lines m.2, m.3, m.4)
join_line points (Join left right ∷ lines) i j h =
    elim (cases (point_number points (end_point left), point_number points (end_point right)) (i, j) (lines_joins points lines) h) [
      | inl e ↦ (left, right, first (Join left right) lines, ap (λ p. p.0) e, ap (λ p. p.1) e)
      | inr k ↦ let m = join_line points lines i j k in (m.0, m.1, later (Join left right) (Join m.0 m.1) lines m.2, m.3, m.4)
    ]

-- a line's pair of numbers is there
line_join : (points : Points) (lines : List Line) (left right : End) → Contains lines (Join left right) → Contains (lines_joins points lines) (point_number points (end_point left), point_number points (end_point right))
line_join points lines left right h =
    in_flat (line_joins points) lines (Join left right) (point_number points (end_point left), point_number points (end_point right)) h (first (point_number points (end_point left), point_number points (end_point right)) [])

module _ (block : Block) (known : AreKnown block) where
  -- the numbers of a join are those of points
  pub join_within : (i j : ℕ) → Contains (lines_joins (the_points block) block.lines) (i, j) → (i < point_count block) × (j < point_count block)
  join_within i j h =
      let m = join_line (the_points block) block.lines i j h in
      let both = ends_known block known m.0 m.1 m.2 in (
        subst (λ n. n < point_count block) (sym m.3) (has_number block (end_point m.0) both.0).0,
        subst (λ n. n < point_count block) (sym m.4) (has_number block (end_point m.1) both.1).0,
      )

  -- numbers that are joined directly are those of points that a line joins
  direct_points : (i j : ℕ) → IsJoin (lines_joins (the_points block) block.lines) i j → IsJoinedByLine block (point_at block i) (point_at block j)
  direct_points i j h =
      let m = join_line (the_points block) block.lines i j h in
      let both = ends_known block known m.0 m.1 m.2 in (
        m.0,
        m.1,
        m.2,
        ap (point_at block) m.3 ∙ (has_number block (end_point m.0) both.0).1,
        ap (point_at block) m.4 ∙ (has_number block (end_point m.1) both.1).1,
      )

  direct_numbers : (p q : Point) → IsJoinedByLine block p q → IsJoin (lines_joins (the_points block) block.lines) (point_number (the_points block) p) (point_number (the_points block) q)
  direct_numbers p q (left, right, line, is, also) =
      subst (λ x. IsJoin (lines_joins (the_points block) block.lines) (point_number (the_points block) x) (point_number (the_points block) q)) (sym is)
      (subst (λ y. IsJoin (lines_joins (the_points block) block.lines) (point_number (the_points block) (end_point left)) (point_number (the_points block) y)) (sym also)
      (line_join (the_points block) block.lines left right line))

  -- joined numbers are those of joined points, and the other way round
  pub joined_points : {i j : ℕ} → Joined (IsJoin (lines_joins (the_points block) block.lines)) i j → AreJoined block (point_at block i) (point_at block j)
  joined_points h = joined_map (IsJoin (lines_joins (the_points block) block.lines)) (IsJoinedByLine block) (point_at block) direct_points h

  pub joined_numbers : {p q : Point} → AreJoined block p q → Joined (IsJoin (lines_joins (the_points block) block.lines)) (point_number (the_points block) p) (point_number (the_points block) q)
  joined_numbers h = joined_map (IsJoinedByLine block) (IsJoin (lines_joins (the_points block) block.lines)) (point_number (the_points block)) direct_numbers h
