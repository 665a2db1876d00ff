-- What a text spells, as a function that computes.
use Rattle.std.proofs.Common.{◌≡◌, ℕ, Bool, true, false, List, [], ◌∷◌, ◌++◌, Option, Some, None, refl, sym, ap, ◌∙◌, if◌then◌else◌}
use Rattle.std.specs.Char.{is_ascii_digit}
use Rattle.std.specs.List.{list_all}
use Rattle.std.specs.Option.{is_some}
use Rattle.unicode_ident.specs.Ident.{is_xid_continue}
use Rattle.ato_base.specs.Names.{starts_name}
use Rattle.ato_frac.specs.Numbers.{Parts, IsNumber}
use Rattle.ato_frac.specs.Reading.{read_number}
use Rattle.ato_frac.proofs.Grammar.{read_sound}
use Rattle.ato_units.specs.Literals.{Token, number, word_token, mark_token, Spells, a_number, a_word, a_mark}
use Rattle.ato_units.specs.LiteralReading.{begins_with_digit}
use Rattle.ato_units.proofs.Fronts.{begins, is_number_front}

-- the token that a text spells, by its first character
unfoldable pub token_of : List ℕ → Option Token
token_of [] = None
token_of (c ∷ cs) =
    if is_ascii_digit c then (if is_some (read_number (c ∷ cs)) then Some (number (c ∷ cs)) else None)
    else (if starts_name c then (if list_all is_xid_continue cs then Some (word_token (c ∷ cs)) else None)
    else mark_token (c ∷ cs))

chosen : (digit found : Bool) (token : Token) (other : Option Token) → digit ≡ true → found ≡ true → (if digit then (if found then Some token else None) else other) ≡ Some token
chosen digit found token other e f = rw (e, f) refl

number_read : (text : List ℕ) (parts : Parts) → IsNumber text parts → token_of text ≡ Some (number text)
unfolding token_of
number_read text parts n = by text n (rw n.text_is (begins parts.whole (n.fraction_text ++ n.exponent_text) n.whole))
  where
    by : (s : List ℕ) → IsNumber s parts → begins_with_digit s ≡ true → token_of s ≡ Some (number s)
    by [] m h = absurd (cc)
    by (c ∷ cs) m h =
        chosen (is_ascii_digit c) (is_some (read_number (c ∷ cs))) (number (c ∷ cs))
        (if starts_name c then (if list_all is_xid_continue cs then Some (word_token (c ∷ cs)) else None) else mark_token (c ∷ cs))
        h
        (is_number_front (c ∷ cs) parts m)

-- what is spelled is found
pub spelled_found : (text : List ℕ) (token : Token) → Spells text token → token_of text ≡ Some token
unfolding token_of
spelled_found text token (a_number parts n e) = number_read text parts n ∙ ap Some (sym e)
spelled_found text token (a_word c cs e digit starts all t) = rw (t, e) (rw (digit, starts, all) refl)
spelled_found text token (a_mark c cs e digit starts m) = let k = rw e at m in rw e (rw (digit, starts) k)

some_same : (a b : Token) → Some a ≡ Some b → b ≡ a
some_same a b e = cc

-- what is found is spelled
pub found_spelled : (text : List ℕ) (token : Token) → token_of text ≡ Some token → Spells text token
unfolding token_of
found_spelled [] token h = absurd (cc)
found_spelled (c ∷ cs) token h = by (is_ascii_digit c) refl (starts_name c) refl h
  where
    of_number : (o : Option Parts) → read_number (c ∷ cs) ≡ o → (if is_some o then Some (number (c ∷ cs)) else None) ≡ Some token → Spells (c ∷ cs) token
    of_number None e g = absurd (cc)
    of_number (Some parts) e g = a_number parts (read_sound (c ∷ cs) parts e) (some_same (number (c ∷ cs)) token g)

    of_word : is_ascii_digit c ≡ false → starts_name c ≡ true → (b : Bool) → list_all is_xid_continue cs ≡ b → (if b then Some (word_token (c ∷ cs)) else None) ≡ Some token → Spells (c ∷ cs) token
    of_word digit starts true e g = a_word c cs refl digit starts e (some_same (word_token (c ∷ cs)) token g)
    of_word digit starts false e g = absurd (cc)

    by : (a : Bool) → is_ascii_digit c ≡ a → (b : Bool) → starts_name c ≡ b
        → (if a then (if is_some (read_number (c ∷ cs)) then Some (number (c ∷ cs)) else None)
        else (if b then (if list_all is_xid_continue cs then Some (word_token (c ∷ cs)) else None) else mark_token (c ∷ cs))) ≡ Some token
        → Spells (c ∷ cs) token
    by true e b f g = of_number (read_number (c ∷ cs)) refl g
    by false e true f g = of_word e f (list_all is_xid_continue cs) refl g
    by false e false f g = a_mark c cs refl e f g

-- where nothing is found nothing is spelled, and the other way round
pub none_spelled : (text : List ℕ) → token_of text ≡ None → (token : Token) → ¬ Spells text token
none_spelled text h token s = let found = spelled_found text token s in absurd (cc)

pub none_found : (text : List ℕ) → ((token : Token) → ¬ Spells text token) → token_of text ≡ None
none_found text h = by (token_of text) refl
  where
    by : (o : Option Token) → token_of text ≡ o → o ≡ None
    by None e = refl
    by (Some token) e = absurd (h token (found_spelled text token e))
