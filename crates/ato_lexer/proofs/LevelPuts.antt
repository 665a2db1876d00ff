-- Levels that are left one after another.
use Rattle.std.proofs.Common.{◌≡◌, ℕ, zero, suc, ◌+◌, ◌<◌, ◌≤◌, Bool, true, false, cond, List, [], ◌∷◌, ◌++◌, length, length-append, drop, reverse, refl, sym, ap, ◌∙◌, subst, arith}
use Rattle.std.proofs.lemmas.Bool.{lt-ltb}
use Rattle.std.proofs.lemmas.List.{reverse-append}
use Rattle.std.specs.Prelude.{Option, Some, None, IsSome, nat_eq, nat_lt, ◌==◌, ◌||◌, if◌then◌else◌}
use Rattle.std.specs.List.{repeat, filter_map, list_any}
use Rattle.std.proofs.lemmas.List.Folds.{list_any-append}
use Rattle.std.specs.Option.{option_to_list}
use Rattle.ato_base.specs.NameTable.{with_names}
use Rattle.ato_base.specs.declared.faults.FaultKind.TheVariants as faults
use Rattle.ato_base.specs.declared.places.FileId.{FileId}
use Rattle.ato_base.specs.declared.tokens.Token.{Token}
use Rattle.ato_base.specs.declared.tokens.TokenKind.TheVariants as kinds
use Rattle.ato_lexer.specs.Layout.{top, left, kept, is_open, steps, last_items, indent, dedent, end, fault}
use Rattle.ato_lexer.proofs.PutLaws.{puts_more}
use Rattle.ato_lexer.specs.Lines.{Placed}
use Rattle.ato_lexer.specs.Puts.{Puts}
use Rattle.ato_lexer.specs.Tokens.{token_at, item_token, item_name, first_of}

-- a list and the same from its end pass a test alike
pub any_turned : (depth : ℕ) (levels : List ℕ) → list_any (nat_eq depth) (reverse levels) ≡ list_any (nat_eq depth) levels
any_turned depth [] = refl
any_turned depth (level ∷ levels) =
    ap (list_any (nat_eq depth)) (reverse-append (level ∷ []) levels)
    ∙ list_any-append (nat_eq depth) (reverse levels) (level ∷ [])
    ∙ ap (λ b. b || (nat_eq depth level || false)) (any_turned depth levels)
    ∙ turned (list_any (nat_eq depth) levels) (nat_eq depth level)
  where
    turned : (a b : Bool) → (a || (b || false)) ≡ (b || a)
    turned true true = refl
    turned true false = refl
    turned false true = refl
    turned false false = refl

-- a depth that is not 0 is open where it is among the levels
pub open_deep : (depth : ℕ) (levels : List ℕ) → (depth ≡ 0 → ⊥) → list_any (nat_eq depth) levels ≡ is_open depth (reverse levels)
open_deep depth levels h = sym (ap (λ b. b || list_any (nat_eq depth) (reverse levels)) (not_zero depth h) ∙ any_turned depth levels)
  where
    not_zero : (n : ℕ) → (n ≡ 0 → ⊥) → (n == 0) ≡ false
    not_zero n k = grind (arith, k)

-- what is put once more is put in front
pub repeat-last : {A : Type 0} (n : ℕ) (x : A) → repeat n (x ∷ []) ++ x ∷ [] ≡ repeat (suc n) (x ∷ [])
repeat-last zero x = refl
repeat-last (suc n) x = ap (λ l. x ∷ l) (repeat-last n x)

-- the deepest level is left by a line that is less deep
deepest_left : (depth level : ℕ) (levels : List ℕ) → depth < level → left depth (level ∷ levels) ≡ 1 + left depth levels
deepest_left depth level levels h = ap (λ b. cond b (1 + left depth levels) 0) (lt-ltb depth level h)

deepest_kept : (depth level : ℕ) (levels : List ℕ) → depth < level → kept depth (level ∷ levels) ≡ kept depth levels
deepest_kept depth level levels h = ap (λ n. drop n (level ∷ levels)) (deepest_left depth level levels h ∙ add-comm-one (left depth levels))
  where
    add-comm-one : (n : ℕ) → 1 + n ≡ suc n
    add-comm-one n = omega arith

pub record LeavesOne (depth : ℕ) (old new : List ℕ) : Type 0 where
  pub left_is : left depth (reverse old) ≡ 1 + left depth (reverse new)
  pub kept_is : kept depth (reverse old) ≡ kept depth (reverse new)

-- where a level is open there is one
pub deep_filled : (depth : ℕ) (levels : List ℕ) → depth < top (reverse levels) → 0 < length levels
deep_filled depth [] h = omega (arith, h)
deep_filled depth (x ∷ levels) h = omega arith

-- A level that is popped was the deepest, and is left.
pub popped : (depth : ℕ) (old new : List ℕ) (o : Option ℕ) → old ≡ new ++ option_to_list o → IsSome o → depth < top (reverse old) → LeavesOne depth old new
popped depth old new None is some h = let bad : ⊥ = cc in absurd bad
popped depth old new (Some x) is some h =
    let turned : reverse old ≡ x ∷ reverse new = ap reverse is ∙ reverse-append new (x ∷ []) in
    let deep : depth < x = subst (λ l. depth < top l) turned h in
    record {
      left_is = ap (left depth) turned ∙ deepest_left depth x (reverse new) deep;
      kept_is = ap (kept depth) turned ∙ deepest_kept depth x (reverse new) deep;
    }

-- no level is left by a line that is as deep as the deepest, or deeper
pub none_left : (depth : ℕ) (levels : List ℕ) → top levels ≤ depth → left depth levels ≡ 0
none_left depth [] h = refl
none_left depth (level ∷ levels) h = ap (λ b. cond b (1 + left depth levels) 0) (not_below depth level h)
  where
    not_below : (a b : ℕ) → b ≤ a → nat_lt a b ≡ false
    not_below a b h = grind arith

-- ---- what is put for levels that are left

not_below : (a b : ℕ) → b ≤ a → nat_lt a b ≡ false
not_below a b h = grind arith

pub left_steps : (depth : ℕ) (first : Placed) (levels : List ℕ) → depth ≤ top levels → is_open depth levels ≡ true → steps depth first levels ≡ repeat (left depth levels) (dedent first.start ∷ [])
left_steps depth first levels h is =
    ap (λ b. if b then indent first.start ∷ []
    else (if is_open depth levels then repeat (left depth levels) (dedent first.start ∷ []) else fault faults.BadIndent first.start first.end ∷ [])) (not_below (top levels) depth h)
    ∙ ap (λ b. if b then repeat (left depth levels) (dedent first.start ∷ []) else fault faults.BadIndent first.start first.end ∷ []) is

dedents-sound : (file : FileId) (n at : ℕ) → first_of file (repeat n (dedent at ∷ [])) ≡ None
dedents-sound file zero at = refl
dedents-sound file (suc n) at = dedents-sound file n at

dedents-names : (n at : ℕ) → filter_map item_name (repeat n (dedent at ∷ [])) ≡ []
dedents-names zero at = refl
dedents-names (suc n) at = dedents-names n at

dedents-tokens : (file : FileId) (names : List (List ℕ)) (n at : ℕ) → filter_map (item_token names file) (repeat n (dedent at ∷ [])) ≡ repeat n (token_at file at at kinds.Dedent ∷ [])
dedents-tokens file names zero at = refl
dedents-tokens file names (suc n) at = ap (λ l. token_at file at at kinds.Dedent ∷ l) (dedents-tokens file names n at)

-- A DEDENT was put for each of so many levels.
pub dedents_put : (file : FileId) (names : List (List ℕ)) (before after : List Token) (n at : ℕ) → after ≡ before ++ repeat n (token_at file at at kinds.Dedent ∷ [])
    → Puts file names names before after (repeat n (dedent at ∷ []))
dedents_put file names before after n at is = record {
  sound = dedents-sound file n at;
  names = ap (with_names names) (sym (dedents-names n at));
  tokens = λ later extends. is ∙ ap (λ l. before ++ l) (sym (dedents-tokens file later n at));
}

length-turned : (levels : List ℕ) → length (reverse levels) ≡ length levels
length-turned [] = refl
length-turned (level ∷ levels) =
    ap length (reverse-append (level ∷ []) levels) ∙ length-append (reverse levels) (level ∷ []) ∙ ap (λ n. n + 1) (length-turned levels) ∙ one (length levels)
  where
    one : (n : ℕ) → n + 1 ≡ suc n
    one n = omega arith

-- The end of a file was put.
pub end_put : (file : FileId) (names : List (List ℕ)) (levels : List ℕ) (size : ℕ) (before mid after : List Token)
    → mid ≡ before ++ repeat (length levels) (token_at file size size kinds.Dedent ∷ []) → after ≡ mid ++ token_at file size size kinds.End ∷ []
    → Puts file names names before after (last_items (reverse levels) size [])
end_put file names levels size before mid after dedents is =
    subst (λ n. Puts file names names before after (repeat n (dedent size ∷ []) ++ end size ∷ [])) (sym (length-turned levels))
    (puts_more file names names names before mid after (repeat (length levels) (dedent size ∷ [])) (end size ∷ []) (dedents_put file names before mid (length levels) size dedents)
    (record { sound = refl; names = refl; tokens = λ later extends. is }))
