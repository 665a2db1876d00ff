-- Whether lines declare a signal of a name, told one line after the other.
use Rattle.std.proofs.Common.{◌≡◌, ℕ, List, [], ◌∷◌, ◌++◌, Bool, true, ◌||◌, ap, sym, ◌∙◌, append-nil}
use Rattle.std.specs.List.{list_any, list_all}
use Rattle.std.specs.Str.{bytes_eq}
use Rattle.std.proofs.lemmas.Grind.{flat_map-append}
use Rattle.std.proofs.lemmas.List.Folds.{list_any-append}
use Rattle.ato_first.specs.FirstForm.{is_line, lines_text, NoLine}
use Rattle.ato_first.specs.PartLines.{line_signals, declared_signals, is_signal}
use Rattle.ato_first.specs.declared.first_form.Line.{Line}
use Rattle.ato_first.proofs.FirstFormLemmas.{no_line_here}
use Rattle.ato_first.proofs.OnceLemmas.{one_lines}

pub signal_more : (lines : List Line) (line : Line) (name : List ℕ) (before here : Bool) → before ≡ is_signal lines name → here ≡ list_any (bytes_eq name) (line_signals line)
    → (before || here) ≡ is_signal (lines ++ line ∷ []) name
signal_more lines line name before here p q =
    let all : declared_signals (lines ++ line ∷ []) ≡ declared_signals lines ++ line_signals line =
    flat_map-append line_signals lines (line ∷ []) ∙ ap (λ names. declared_signals lines ++ names) (append-nil (line_signals line)) in
    ap (λ b. b || here) p ∙ ap (λ b. is_signal lines name || b) q
    ∙ sym (ap (list_any (bytes_eq name)) all ∙ list_any-append (bytes_eq name) (declared_signals lines) (line_signals line))

-- All lines were looked at, where none follows.
pub signal_all : (bytes rest name : List ℕ) (lines read : List Line) (found : Bool) → list_all is_line read ≡ true → bytes ≡ lines_text read ++ rest → found ≡ is_signal read name → NoLine rest
    → list_all is_line lines ≡ true → bytes ≡ lines_text lines → found ≡ is_signal lines name
signal_all bytes rest name lines read found are text is none all e =
    let same = one_lines read lines rest [] are all (sym text ∙ e ∙ sym (append-nil (lines_text lines))) none no_line_here in
    is ∙ ap (λ ls. is_signal ls name) same.0
