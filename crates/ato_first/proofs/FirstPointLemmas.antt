-- The points of lines, and the sizes of lines.
use Rattle.std.proofs.Common.{◌≡◌, ℕ, ◌<◌, ◌≤◌, ◌+◌, List, [], ◌∷◌, ◌++◌, length, take, drop, get_or, ap, sym, ◌∙◌, refl, append-nil, arith, length-append, suc, take-append-drop, drop-cons, add-one}
use Rattle.std.proofs.lemmas.List.{take_more, take_all}
use Rattle.std.proofs.lemmas.Grind.{flat_map-append}
use Rattle.ato_base.specs.NameTable.{with_names}
use Rattle.ato_base.proofs.NameTableLaws.{with_names-append}
use Rattle.ato_first.specs.FirstForm.{lined, line_text, lines_text}
use Rattle.ato_first.specs.declared.first_form.Point.{Point}
use Rattle.ato_first.specs.declared.first_form.Point.TheVariants.{Signal, Pin}
use Rattle.ato_first.specs.declared.first_form.Line.{Line}
use Rattle.ato_first.specs.FirstPoints.{signal_names, pin_labels, line_points, lines_points}

signal_names-append : (xs ys : List Point) → signal_names (xs ++ ys) ≡ signal_names xs ++ signal_names ys
signal_names-append [] ys = refl
signal_names-append (Signal name ∷ xs) ys = ap (λ l. name ∷ l) (signal_names-append xs ys)
signal_names-append (Pin label ∷ xs) ys = signal_names-append xs ys

pin_labels-append : (xs ys : List Point) → pin_labels (xs ++ ys) ≡ pin_labels xs ++ pin_labels ys
pin_labels-append [] ys = refl
pin_labels-append (Signal name ∷ xs) ys = pin_labels-append xs ys
pin_labels-append (Pin label ∷ xs) ys = ap (λ l. label ∷ l) (pin_labels-append xs ys)

-- the points up to a line, and of the line
points_more : (lines : List Line) (i : ℕ) (line : Line) → i < length lines → line ≡ get_or lines i line → lines_points (take (i + 1) lines) ≡ lines_points (take i lines) ++ line_points line
points_more lines i line h is =
    ap lines_points (take_more lines i line h ∙ ap (λ l. take i lines ++ l ∷ []) (sym is))
    ∙ flat_map-append line_points (take i lines) (line ∷ [])
    ∙ ap (λ l. lines_points (take i lines) ++ l) (append-nil (line_points line))

-- the signals and pins after one more line
pub signals_more : (lines : List Line) (i : ℕ) (line : Line) → i < length lines → line ≡ get_or lines i line →
    with_names [] (signal_names (lines_points (take (i + 1) lines))) ≡ with_names (with_names [] (signal_names (lines_points (take i lines)))) (signal_names (line_points line))
signals_more lines i line h is =
    ap (λ l. with_names [] (signal_names l)) (points_more lines i line h is)
    ∙ ap (with_names []) (signal_names-append (lines_points (take i lines)) (line_points line))
    ∙ with_names-append [] (signal_names (lines_points (take i lines))) (signal_names (line_points line))

pub pins_more : (lines : List Line) (i : ℕ) (line : Line) → i < length lines → line ≡ get_or lines i line →
    with_names [] (pin_labels (lines_points (take (i + 1) lines))) ≡ with_names (with_names [] (pin_labels (lines_points (take i lines)))) (pin_labels (line_points line))
pins_more lines i line h is =
    ap (λ l. with_names [] (pin_labels l)) (points_more lines i line h is)
    ∙ ap (with_names []) (pin_labels-append (lines_points (take i lines)) (line_points line))
    ∙ with_names-append [] (pin_labels (lines_points (take i lines))) (pin_labels (line_points line))

-- the bytes up to a line, and of the line
pub size_more : (lines : List Line) (i : ℕ) (line : Line) → i < length lines → line ≡ get_or lines i line → length (lines_text (take (i + 1) lines)) ≡ length (lines_text (take i lines)) + length (lined (line_text line))
size_more lines i line h is =
    ap (λ l. length (lines_text l)) (take_more lines i line h ∙ ap (λ l. take i lines ++ l ∷ []) (sym is))
    ∙ ap length (flat_map-append (λ l. lined (line_text l)) (take i lines) (line ∷ []))
    ∙ ap (λ l. length (lines_text (take i lines) ++ l)) (append-nil (lined (line_text line)))
    ∙ length-append (lines_text (take i lines)) (lined (line_text line))

-- the bytes of some lines are among those of all
pub size_within : (lines : List Line) (i : ℕ) → length (lines_text (take i lines)) ≤ length (lines_text lines)
size_within lines i =
    omega (arith, ap (λ l. length (lines_text l)) (take-append-drop i lines), ap length (flat_map-append (λ l. lined (line_text l)) (take i lines) (drop i lines)), length-append (lines_text (take i lines)) (lines_text (drop i lines)))

-- ---- lists of lines

-- all lines, once the index has passed them
pub all_lines : (lines : List Line) (i : ℕ) → length lines ≤ i → take i lines ≡ lines
all_lines lines i h = take_all i lines h

-- the lines at one of them
pub cut_line : (lines : List Line) (i : ℕ) (line : Line) → i < length lines → line ≡ get_or lines i line → lines ≡ take i lines ++ line ∷ drop (i + 1) lines
cut_line lines i line h is =
    sym (take-append-drop i lines) ∙ ap (λ l. take i lines ++ l) (drop-cons lines i line h ∙ ap (λ x. x ∷ drop (suc i) lines) (sym is) ∙ ap (λ n. line ∷ drop n lines) (sym (add-one i)))
