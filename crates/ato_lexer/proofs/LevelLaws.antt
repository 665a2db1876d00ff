-- Each level that is opened is closed again.
use Rattle.std.proofs.Common.{◌≡◌, ℕ, zero, suc, ◌+◌, Bool, true, false, cond, List, [], ◌∷◌, ◌++◌, length, map, drop, Some, None, refl, sym, ap, subst, ◌∙◌, arith, if◌then◌else◌, length-drop}
use Rattle.std.specs.Prelude.{nat_lt, count_by}
use Rattle.std.specs.List.{list_all, take_while, repeat}
use Rattle.std.specs.Str.{is_utf8}
use Rattle.std.specs.Str.Lossy.{utf8_valid_len}
use Rattle.std.proofs.lemmas.List.Sums.{prefix_len-le-length, sum_by-append}
use Rattle.ato_base.specs.declared.faults.FaultKind.TheVariants as faults
use Rattle.ato_base.specs.declared.places.FileId.{FileId}
use Rattle.ato_lexer.specs.Lines.{Placed, Line, logical_lines}
use Rattle.ato_lexer.specs.Layout.{Item, token, newline, indent, dedent, end, fault, is_indent, is_dedent, is_open, top, left, kept, opened, steps, is_wide_number, token_item, last_end, laid_out}
use Rattle.ato_lexer.specs.Tokens.{is_good, bad_items, pieces_in, items, first_of, first_fault, fault_at}
use Rattle.ato_lexer.proofs.SliceLaws.{is_fine, first_none, all_append, laid_bad, bad_first}

count_append : (p : Item → Bool) (is js : List Item) → count_by p (is ++ js) ≡ count_by p is + count_by p js
count_append p is js = sum_by-append (λ (i : Item). cond (p i) 1 0) is js

dedents_counted : (n at : ℕ) → count_by is_dedent (repeat n (dedent at ∷ [])) ≡ n
dedents_counted zero at = refl
dedents_counted (suc n) at =
    let one : count_by is_dedent (dedent at ∷ []) ≡ 1 = refl in
    let e : count_by is_dedent ((dedent at ∷ []) ++ repeat n (dedent at ∷ [])) ≡ suc n = omega (arith, one, count_append is_dedent (dedent at ∷ []) (repeat n (dedent at ∷ [])), dedents_counted n at) in
    e

no_indents : (n at : ℕ) → count_by is_indent (repeat n (dedent at ∷ [])) ≡ 0
no_indents zero at = refl
no_indents (suc n) at =
    let one : count_by is_indent (dedent at ∷ []) ≡ 0 = refl in
    let e : count_by is_indent ((dedent at ∷ []) ++ repeat n (dedent at ∷ [])) ≡ 0 = omega (arith, one, count_append is_indent (dedent at ∷ []) (repeat n (dedent at ∷ [])), no_indents n at) in
    e

no_opening : (ps : List Placed) → count_by is_indent (map token_item ps) ≡ 0
no_opening [] = refl
no_opening (p ∷ ps) = by (is_wide_number p.piece.kind p.piece.text) (no_opening ps)
  where
    by : (b : Bool) → count_by is_indent (map token_item ps) ≡ 0 → count_by is_indent ((if b then fault faults.WideNumber p.start p.end else token p) ∷ map token_item ps) ≡ 0
    by true e =
        let one : count_by is_indent (fault faults.WideNumber p.start p.end ∷ []) ≡ 0 = refl in
        let h : count_by is_indent ((fault faults.WideNumber p.start p.end ∷ []) ++ map token_item ps) ≡ 0 = omega (arith, one, count_append is_indent (fault faults.WideNumber p.start p.end ∷ []) (map token_item ps), e) in
        h
    by false e =
        let one : count_by is_indent (token p ∷ []) ≡ 0 = refl in
        let h : count_by is_indent ((token p ∷ []) ++ map token_item ps) ≡ 0 = omega (arith, one, count_append is_indent (token p ∷ []) (map token_item ps), e) in
        h

no_closing : (ps : List Placed) → count_by is_dedent (map token_item ps) ≡ 0
no_closing [] = refl
no_closing (p ∷ ps) = by (is_wide_number p.piece.kind p.piece.text) (no_closing ps)
  where
    by : (b : Bool) → count_by is_dedent (map token_item ps) ≡ 0 → count_by is_dedent ((if b then fault faults.WideNumber p.start p.end else token p) ∷ map token_item ps) ≡ 0
    by true e =
        let one : count_by is_dedent (fault faults.WideNumber p.start p.end ∷ []) ≡ 0 = refl in
        let h : count_by is_dedent ((fault faults.WideNumber p.start p.end ∷ []) ++ map token_item ps) ≡ 0 = omega (arith, one, count_append is_dedent (fault faults.WideNumber p.start p.end ∷ []) (map token_item ps), e) in
        h
    by false e =
        let one : count_by is_dedent (token p ∷ []) ≡ 0 = refl in
        let h : count_by is_dedent ((token p ∷ []) ++ map token_item ps) ≡ 0 = omega (arith, one, count_append is_dedent (token p ∷ []) (map token_item ps), e) in
        h

-- the tokens of a line and its NEWLINE open no level and close none
rest_opens : (ps : List Placed) (at : ℕ) → count_by is_indent (map token_item ps ++ newline at ∷ []) ≡ 0
rest_opens ps at = let one : count_by is_indent (newline at ∷ []) ≡ 0 = refl in omega (arith, one, count_append is_indent (map token_item ps) (newline at ∷ []), no_opening ps)

rest_closes : (ps : List Placed) (at : ℕ) → count_by is_dedent (map token_item ps ++ newline at ∷ []) ≡ 0
rest_closes ps at = let one : count_by is_dedent (newline at ∷ []) ≡ 0 = refl in omega (arith, one, count_append is_dedent (map token_item ps) (newline at ∷ []), no_closing ps)

-- what a line does to the levels is what its INDENT or its DEDENTs say
steps_counted : (depth : ℕ) (first : Placed) (levels : List ℕ) → list_all is_fine (steps depth first levels) ≡ true
    → length levels + count_by is_indent (steps depth first levels) ≡ length (opened depth levels) + count_by is_dedent (steps depth first levels)
unfolding is_fine
steps_counted depth first levels h = by (nat_lt (top levels) depth) (is_open depth levels) h
  where
    by : (a b : Bool) → list_all is_fine (if a then indent first.start ∷ [] else (if b then repeat (left depth levels) (dedent first.start ∷ []) else fault faults.BadIndent first.start first.end ∷ [])) ≡ true
        → length levels + count_by is_indent (if a then indent first.start ∷ [] else (if b then repeat (left depth levels) (dedent first.start ∷ []) else fault faults.BadIndent first.start first.end ∷ []))
        ≡ length (if a then depth ∷ levels else kept depth levels) + count_by is_dedent (if a then indent first.start ∷ [] else (if b then repeat (left depth levels) (dedent first.start ∷ []) else fault faults.BadIndent first.start first.end ∷ []))
    by true b g =
        let one : count_by is_indent (indent first.start ∷ []) ≡ 1 = refl in
        let none : count_by is_dedent (indent first.start ∷ []) ≡ 0 = refl in
        let h : length levels + count_by is_indent (indent first.start ∷ []) ≡ length (depth ∷ levels) + count_by is_dedent (indent first.start ∷ []) = omega (arith, one, none) in
        h
    by false true g =
        let h : length levels + count_by is_indent (repeat (left depth levels) (dedent first.start ∷ [])) ≡ length (drop (left depth levels) levels) + count_by is_dedent (repeat (left depth levels) (dedent first.start ∷ [])) = omega (
          arith,
          dedents_counted (left depth levels) first.start,
          no_indents (left depth levels) first.start,
          length-drop (left depth levels) levels,
          prefix_len-le-length (nat_lt depth) levels,
        )
        in
        h
    by false false g = absurd (cc)

balanced_from : (lines : List Line) (levels : List ℕ) (size : ℕ) → list_all is_fine (laid_out levels size [] lines) ≡ true
    → length levels + count_by is_indent (laid_out levels size [] lines) ≡ count_by is_dedent (laid_out levels size [] lines)
unfolding laid_out
balanced_from [] levels size h =
    let opens : count_by is_indent (end size ∷ []) ≡ 0 = refl in
    let closes : count_by is_dedent (end size ∷ []) ≡ 0 = refl in
    let e : length levels + count_by is_indent (repeat (length levels) (dedent size ∷ []) ++ end size ∷ []) ≡ count_by is_dedent (repeat (length levels) (dedent size ∷ []) ++ end size ∷ []) = omega (
      arith,
      opens,
      closes,
      count_append is_indent (repeat (length levels) (dedent size ∷ [])) (end size ∷ []),
      count_append is_dedent (repeat (length levels) (dedent size ∷ [])) (end size ∷ []),
      dedents_counted (length levels) size,
      no_indents (length levels) size,
    )
    in
    e
balanced_from (line ∷ lines) levels size h =
    let first : List Item = steps line.depth line.first levels in
    let rest : List Item = map token_item (line.first ∷ line.others) ++ newline (last_end line.first.end line.others) ∷ [] in
    let more : List Item = laid_out (opened line.depth levels) size [] lines in
    let a = all_append (first ++ rest) more h in
    let b = all_append first rest a.0 in
    let e : length levels + count_by is_indent ((first ++ rest) ++ more) ≡ count_by is_dedent ((first ++ rest) ++ more) = omega (
      arith,
      count_append is_indent (first ++ rest) more,
      count_append is_indent first rest,
      count_append is_dedent (first ++ rest) more,
      count_append is_dedent first rest,
      rest_opens (line.first ∷ line.others) (last_end line.first.end line.others),
      rest_closes (line.first ∷ line.others) (last_end line.first.end line.others),
      steps_counted line.depth line.first levels b.0,
      balanced_from lines (opened line.depth levels) size a.1,
    )
    in
    e

pub balanced : (bytes : List ℕ) (file : FileId) → first_fault file bytes ≡ None → count_by is_indent (items bytes) ≡ count_by is_dedent (items bytes)
unfolding first_fault items
balanced bytes file h = by (is_utf8 bytes) h
  where
    by : (b : Bool) → (if b then first_of file (items bytes) else Some (fault_at file faults.BadText (utf8_valid_len bytes) (utf8_valid_len bytes + 1))) ≡ None → count_by is_indent (items bytes) ≡ count_by is_dedent (items bytes)
    by true g =
        let ps : List Placed = pieces_in bytes in
        let lines : List Line = logical_lines (take_while is_good ps) in
        let all = first_none file (items bytes) g in
        let none = laid_bad lines [] (length bytes) (bad_items ps) all (bad_first ps) in
        let e : laid_out [] (length bytes) (bad_items ps) lines ≡ laid_out [] (length bytes) [] lines = ap (λ (bad : List Item). laid_out [] (length bytes) bad lines) none in
        let counted = balanced_from lines [] (length bytes) (subst (λ (is : List Item). list_all is_fine is ≡ true) e all) in
        ap (count_by is_indent) e ∙ (omega (arith, counted)) ∙ ap (count_by is_dedent) (sym e)
    by false g = absurd (cc)
