-- Where END stands last and nowhere else.
use Rattle.std.proofs.Common.{rules, ◌≡◌, ◌↔◌, Bool, true, false, [], ◌∷◌, length, nat_eq, if◌then◌else◌, IsTrue, refl, sym, ap, subst, ◌∙◌}
use Rattle.ato_base.specs.declared.tokens.Token.{Token}
use Rattle.ato_base.specs.declared.tokens.TokenKind.{TokenKind}
use Rattle.ato_base.specs.declared.tokens.TokenKind.TheVariants as kinds
use Rattle.ato_parser.specs.Tokens.{Tokens, EndsOnce, just_end, before_end, is_end, token}

-- behind a token that is not END
pub past_other : (t : Token) (ts : Tokens) → is_end t.kind ≡ false → EndsOnce (t ∷ ts) → EndsOnce ts
past_other t ts other (just_end at) = absurd (search rules)
past_other t ts other (before_end e more) = more

-- END comes last
pub last_end : (t : Token) (ts : Tokens) → is_end t.kind ≡ true → EndsOnce (t ∷ ts) → length ts ≡ 0
last_end t ts end (just_end at) = refl
last_end t ts end (before_end e more) = absurd (search rules)

pub end_kind : (kind : TokenKind) → is_end kind ≡ true → kind ≡ kinds.End
end_kind kinds.End e = refl
end_kind (kinds.Name n) e = absurd (search rules)
end_kind (kinds.Number whole small at) e = absurd (search rules)
end_kind (kinds.Str contents) e = absurd (search rules)
end_kind (kinds.Keyword w) e = absurd (search rules)
end_kind (kinds.Mark m) e = absurd (search rules)
end_kind kinds.Newline e = absurd (search rules)
end_kind kinds.Indent e = absurd (search rules)
end_kind kinds.Dedent e = absurd (search rules)

pub just_one : (t : Token) (ts : Tokens) → is_end t.kind ≡ true → length ts ≡ 0 → EndsOnce (t ∷ ts)
just_one t (u ∷ us) end none = absurd (search rules)
just_one t [] end none = subst (λ kind. EndsOnce (token kind t.at ∷ [])) (sym (end_kind t.kind end)) (just_end t.at)

-- the same, computed
abbrev pub ends : Tokens → Bool
ends [] = false
ends (t ∷ ts) = if is_end t.kind then nat_eq (length ts) 0 else ends ts

pub ends_are : (ts : Tokens) → ends ts ≡ true → EndsOnce ts
ends_are [] e = absurd (search rules)
ends_are (t ∷ ts) e = by (is_end t.kind) refl e (λ f. ends_are ts f)
  where
    by : (b : Bool) → is_end t.kind ≡ b → (if b then nat_eq (length ts) 0 else ends ts) ≡ true → (ends ts ≡ true → EndsOnce ts) → EndsOnce (t ∷ ts)
    by true is e more = just_one t ts is (search rules)
    by false is e more = before_end is (more e)

pub are_ends : (ts : Tokens) → EndsOnce ts → ends ts ≡ true
are_ends ts (just_end at) = refl
are_ends ts (before_end {t = t} {ts = us} other more) = ap (λ b. if b then nat_eq (length us) 0 else ends us) other ∙ are_ends us more

false_not_true : false ≡ true → ⊥
false_not_true e = search rules

pub ends_as : (b : Bool) (ts : Tokens) → ends ts ≡ b → IsTrue b ↔ EndsOnce ts
ends_as true ts e = ((λ p. ends_are ts e), (λ p. refl))
ends_as false ts e = ((λ p. absurd (false_not_true p)), (λ p. sym e ∙ are_ends ts p))
