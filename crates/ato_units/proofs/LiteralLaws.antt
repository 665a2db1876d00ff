-- The reading of a text is the literal that the text is.
use Rattle.std.proofs.Common.{◌≡◌, ℕ, Bool, true, false, List, [], ◌∷◌, ◌++◌, Option, Some, None, refl, sym, ap, ◌∙◌, subst, if◌then◌else◌, append-nil}
use Rattle.std.specs.List.{list_all}
use Rattle.std.specs.Prelude.{option_and_then}
use Rattle.ato_units.specs.declared.quantities.Form.{Form}
use Rattle.ato_units.specs.declared.quantities.Form.TheVariants as forms
use Rattle.ato_units.specs.Literals.{is_blank, Token, number, unit, to, plus_minus, minus, keyword, AreTokens, end, next, Spelled, Literal, unit_tokens, unsigned_tokens, part_tokens, second_tokens, HasSecond, IsLiteral, IsNext}
use Rattle.ato_units.specs.LiteralReading.{past, front_token, next_token, as_unit, as_number, of_number, with_unit, front_unsigned, after_sign, front_part, is_nothing, whole, from_token, read_literal}
use Rattle.ato_units.proofs.Fronts.{cut_past, past_all}
use Rattle.ato_units.proofs.NextTokens.{next_sound, next_complete}

-- nothing but blanks

blank_past : (text : List ℕ) → AreTokens text [] → past is_blank text ≡ []
unfolding past
blank_past text (end h) = ap (λ (xs : List ℕ). past is_blank xs) (sym (append-nil text)) ∙ past_all is_blank text [] h

blank_next : (text : List ℕ) → AreTokens text [] → next_token text ≡ None
unfolding front_token
blank_next text h = ap front_token (blank_past text h)

blank_tokens : (text : List ℕ) → is_nothing (past is_blank text) ≡ true → AreTokens text []
blank_tokens text h = by (past is_blank text) refl h
  where
    by : (rest : List ℕ) → past is_blank text ≡ rest → is_nothing rest ≡ true → AreTokens text []
    by [] e g =
        let k = cut_past is_blank text in
        let f : text ≡ k.front = k.text_is ∙ ap (λ (xs : List ℕ). k.front ++ xs) e ∙ append-nil k.front in
        end (ap (λ (xs : List ℕ). list_all is_blank xs) f ∙ k.all)
    by (c ∷ cs) e g = absurd (cc)

-- a token and others
record Continues (text : List ℕ) (t : Token) (ts : List Token) : Type 0 where
  rest : List ℕ
  read : next_token text ≡ Some (t, rest)
  more : AreTokens rest ts

continues : (text : List ℕ) (t : Token) (ts : List Token) → AreTokens text (t ∷ ts) → Continues text t ts
continues text t ts (next rest n more) = record { rest = rest; read = next_complete text t rest n; more = more }

-- what tokens are read as

record IsCutOff (given : Option (Spelled × List ℕ)) (part : Spelled) (ts : List Token) : Type 0 where
  after : List ℕ
  given_is : given ≡ Some (part, after)
  more : AreTokens after ts

head_unit : List Token → Option (List ℕ)
head_unit [] = None
head_unit (t ∷ ts) = as_unit t

unit_complete : (negative : Bool) (digits : List ℕ) (u : Option (List ℕ)) (ts : List Token) (rest : List ℕ) → AreTokens rest (unit_tokens u ++ ts) → head_unit ts ≡ None
    → IsCutOff (Some (with_unit negative digits rest (next_token rest))) (record { negative = negative; digits = digits; unit = u }) ts
unfolding head_unit
unit_complete negative digits None [] rest h e = record { after = rest; given_is = rw (blank_next rest h) refl; more = h }
unit_complete negative digits None (t ∷ ts) rest h e =
    let k = continues rest t ts h in
    record { after = rest; given_is = rw k.read (rw e refl); more = h }
unit_complete negative digits (Some text) ts rest h e =
    let k = continues rest (unit text) ts h in
    record { after = k.rest; given_is = rw k.read refl; more = k.more }

unsigned_complete : (part : Spelled) (ts : List Token) (text : List ℕ) → AreTokens text (unsigned_tokens part ++ ts) → head_unit ts ≡ None
    → IsCutOff (front_unsigned part.negative text) part ts
unfolding front_unsigned
unsigned_complete part ts text h e =
    let k = continues text (number part.digits) (unit_tokens part.unit ++ ts) h in
    rw k.read (unit_complete part.negative part.digits part.unit ts k.rest k.more e)

part_complete : (part : Spelled) (ts : List Token) (text : List ℕ) → AreTokens text (part_tokens part ++ ts) → head_unit ts ≡ None → IsCutOff (front_part text) part ts
unfolding front_part
part_complete part ts text h e = by part.negative refl h
  where
    by : (b : Bool) → part.negative ≡ b → AreTokens text ((if b then minus ∷ unsigned_tokens part else unsigned_tokens part) ++ ts) → IsCutOff (front_part text) part ts
    by true n g =
        let k = continues text minus (unsigned_tokens part ++ ts) g in
        rw k.read (subst (λ (b : Bool). IsCutOff (front_unsigned b k.rest) part ts) n (unsigned_complete part ts k.rest k.more e))
    by false n g =
        let k = continues text (number part.digits) (unit_tokens part.unit ++ ts) g in
        rw k.read (subst (λ (b : Bool). IsCutOff (front_unsigned b text) part ts) n (unsigned_complete part ts text g e))

alone : (tokens : List Token) (text : List ℕ) → AreTokens text tokens → AreTokens text (tokens ++ [])
alone tokens text h = subst (λ (ts : List Token). AreTokens text ts) (sym (append-nil tokens)) h

whole_complete : (form : Form) (first second : Spelled) (given : Option (Spelled × List ℕ)) → IsCutOff given second [] → whole form first given ≡ Some (record { form = form; first = first; second = second })
whole_complete form first second given k = rw k.given_is (rw (blank_past k.after k.more) refl)

-- a text that is a literal is read as this one
pub read_complete : (text : List ℕ) (literal : Literal) → IsLiteral text literal → read_literal text ≡ Some literal
unfolding read_literal head_unit
read_complete text literal h = by literal.form literal.first literal.second h.tokens h.second
  where
    by : (form : Form) (first second : Spelled) → AreTokens text (part_tokens first ++ second_tokens form second) → HasSecond form first second
        → read_literal text ≡ Some (record { form = form; first = first; second = second })
    by forms.One first second t s =
        let k = part_complete first [] text t refl in
        rw k.given_is (rw (blank_next k.after k.more) (whole_complete forms.One first second (Some (first, k.after)) (record { after = k.after; given_is = ap (λ (p : Spelled). Some (p, k.after)) (sym s); more = k.more })))
    by forms.To first second t s =
        let k = part_complete first (to ∷ part_tokens second) text t refl in
        let j = continues k.after to (part_tokens second) k.more in
        rw k.given_is (rw j.read (whole_complete forms.To first second (front_part j.rest) (part_complete second [] j.rest (alone (part_tokens second) j.rest j.more) refl)))
    by forms.About first second t s =
        let k = part_complete first (plus_minus ∷ unsigned_tokens second) text t refl in
        let j = continues k.after plus_minus (unsigned_tokens second) k.more in
        rw k.given_is (rw j.read (whole_complete forms.About first second (front_unsigned false j.rest)
        (subst (λ (b : Bool). IsCutOff (front_unsigned b j.rest) second []) s (unsigned_complete second [] j.rest (alone (unsigned_tokens second) j.rest j.more) refl))))

-- what is read is spelled so

same_some : {X : Type 0} (x y : X) → Some x ≡ Some y → x ≡ y
same_some x y e = cc

negative_same : (negative : Bool) (digits rest : List ℕ) (o : Option (Token × List ℕ)) → (with_unit negative digits rest o).0.negative ≡ negative
negative_same n d r None = refl
negative_same n d r (Some cut) = by cut.0
  where
    by : (t : Token) → (with_unit n d r (Some (t, cut.1))).0.negative ≡ n
    by (number digits) = refl
    by (unit text) = refl
    by to = refl
    by plus_minus = refl
    by minus = refl
    by keyword = refl

unsigned_tokens_sound : (text : List ℕ) (negative : Bool) (digits rest : List ℕ) (o : Option (Token × List ℕ)) → next_token rest ≡ o → IsNext text (number digits) rest
    → (ts : List Token) → AreTokens (with_unit negative digits rest o).1 ts → AreTokens text (unsigned_tokens (with_unit negative digits rest o).0 ++ ts)
unsigned_tokens_sound text n d rest None e f ts h = next rest f h
unsigned_tokens_sound text n d rest (Some cut) e f ts h = by cut.0 e h
  where
    by : (t : Token) → next_token rest ≡ Some (t, cut.1) → AreTokens (with_unit n d rest (Some (t, cut.1))).1 ts → AreTokens text (unsigned_tokens (with_unit n d rest (Some (t, cut.1))).0 ++ ts)
    by (number digits) g k = next rest f k
    by (unit u) g k = next rest f (next cut.1 (next_sound rest (unit u) cut.1 g) k)
    by to g k = next rest f k
    by plus_minus g k = next rest f k
    by minus g k = next rest f k
    by keyword g k = next rest f k

record IsUnsigned (text : List ℕ) (negative : Bool) (cut : Spelled × List ℕ) : Type 0 where
  sign : cut.0.negative ≡ negative
  tokens : (ts : List Token) → AreTokens cut.1 ts → AreTokens text (unsigned_tokens cut.0 ++ ts)

unsigned_sound : (negative : Bool) (text : List ℕ) (cut : Spelled × List ℕ) → front_unsigned negative text ≡ Some cut → IsUnsigned text negative cut
unfolding front_unsigned
unsigned_sound n text cut e = by (next_token text) refl e
  where
    by : (o : Option (Token × List ℕ)) → next_token text ≡ o → option_and_then (λ c. of_number n (as_number c.0) c.1) o ≡ Some cut → IsUnsigned text n cut
    by None f g = absurd (cc)
    by (Some c) f g = at c.0 f g
      where
        at : (t : Token) → next_token text ≡ Some (t, c.1) → of_number n (as_number t) c.1 ≡ Some cut → IsUnsigned text n cut
        at (number digits) k l =
            subst (λ (x : Spelled × List ℕ). IsUnsigned text n x) (same_some _ _ l) (record {
              sign = negative_same n digits c.1 (next_token c.1);
              tokens = unsigned_tokens_sound text n digits c.1 (next_token c.1) refl (next_sound text (number digits) c.1 k);
            })
        at (unit u) k l = absurd (cc)
        at to k l = absurd (cc)
        at plus_minus k l = absurd (cc)
        at minus k l = absurd (cc)
        at keyword k l = absurd (cc)

positive_part : (text : List ℕ) (cut : Spelled × List ℕ) → front_unsigned false text ≡ Some cut → (ts : List Token) → AreTokens cut.1 ts → AreTokens text (part_tokens cut.0 ++ ts)
positive_part text cut e ts h =
    let k = unsigned_sound false text cut e in
    subst (λ (b : Bool). AreTokens text ((if b then minus ∷ unsigned_tokens cut.0 else unsigned_tokens cut.0) ++ ts)) (sym k.sign) (k.tokens ts h)

part_sound : (text : List ℕ) (cut : Spelled × List ℕ) → front_part text ≡ Some cut → (ts : List Token) → AreTokens cut.1 ts → AreTokens text (part_tokens cut.0 ++ ts)
unfolding front_part
part_sound text cut e ts h = by (next_token text) refl e
  where
    by : (o : Option (Token × List ℕ)) → next_token text ≡ o → front_unsigned (after_sign text o).0 (after_sign text o).1 ≡ Some cut → AreTokens text (part_tokens cut.0 ++ ts)
    by None f g = positive_part text cut g ts h
    by (Some c) f g = at c.0 f g
      where
        at : (t : Token) → next_token text ≡ Some (t, c.1) → front_unsigned (after_sign text (Some (t, c.1))).0 (after_sign text (Some (t, c.1))).1 ≡ Some cut
            → AreTokens text (part_tokens cut.0 ++ ts)
        at (number digits) k l = positive_part text cut l ts h
        at (unit u) k l = positive_part text cut l ts h
        at to k l = positive_part text cut l ts h
        at plus_minus k l = positive_part text cut l ts h
        at keyword k l = positive_part text cut l ts h
        at minus k l =
            let j = unsigned_sound true c.1 cut l in
            subst (λ (b : Bool). AreTokens text ((if b then minus ∷ unsigned_tokens cut.0 else unsigned_tokens cut.0) ++ ts)) (sym j.sign)
            (next c.1 (next_sound text minus c.1 k) (j.tokens ts h))

record IsWhole (form : Form) (first : Spelled) (given : Option (Spelled × List ℕ)) (literal : Literal) : Type 0 where
  cut : Spelled × List ℕ
  given_is : given ≡ Some cut
  literal_is : record { form = form; first = first; second = cut.0 } ≡ literal
  more : AreTokens cut.1 []

whole_sound : (form : Form) (first : Spelled) (given : Option (Spelled × List ℕ)) (literal : Literal) → whole form first given ≡ Some literal → IsWhole form first given literal
whole_sound form first None literal e = absurd (cc)
whole_sound form first (Some cut) literal e = by (is_nothing (past is_blank cut.1)) refl e
  where
    by : (b : Bool) → is_nothing (past is_blank cut.1) ≡ b → (if b then Some (record { form = form; first = first; second = cut.0 }) else None) ≡ Some literal → IsWhole form first (Some cut) literal
    by true f g = record { cut = cut; given_is = refl; literal_is = same_some _ _ g; more = blank_tokens cut.1 f }
    by false f g = absurd (cc)

-- what is read is the literal that the text is
pub read_sound : (text : List ℕ) (literal : Literal) → read_literal text ≡ Some literal → IsLiteral text literal
unfolding read_literal
read_sound text literal e = by (front_part text) refl e
  where
    by : (o : Option (Spelled × List ℕ)) → front_part text ≡ o → option_and_then (λ cut. from_token cut.0 cut.1 (next_token cut.1)) o ≡ Some literal → IsLiteral text literal
    by None f g = absurd (cc)
    by (Some cut) f g = at (next_token cut.1) refl g
      where
        of_form : (form : Form) (second : Spelled) → record { form = form; first = cut.0; second = second } ≡ literal → HasSecond form cut.0 second
            → AreTokens cut.1 (second_tokens form second) → IsLiteral text literal
        of_form form second same has h =
            subst (λ (l : Literal). IsLiteral text l) same (record { tokens = part_sound text cut f (second_tokens form second) h; second = has })

        all_of : (tokens : List Token) (rest : List ℕ) → AreTokens rest (tokens ++ []) → AreTokens rest tokens
        all_of tokens rest h = subst (λ (ts : List Token). AreTokens rest ts) (append-nil tokens) h

        token_at : (t : Token) (after : List ℕ) → next_token cut.1 ≡ Some (t, after) → from_token cut.0 cut.1 (Some (t, after)) ≡ Some literal → IsLiteral text literal
        token_at (number digits) after k l = absurd (cc)
        token_at (unit u) after k l = absurd (cc)
        token_at minus after k l = absurd (cc)
        token_at keyword after k l = absurd (cc)
        token_at to after k l =
            let w = whole_sound forms.To cut.0 (front_part after) literal l in
            of_form forms.To w.cut.0 w.literal_is tt
            (next after (next_sound cut.1 to after k) (all_of (part_tokens w.cut.0) after (part_sound after w.cut w.given_is [] w.more)))
        token_at plus_minus after k l =
            let w = whole_sound forms.About cut.0 (front_unsigned false after) literal l in
            let j = unsigned_sound false after w.cut w.given_is in
            of_form forms.About w.cut.0 w.literal_is j.sign
            (next after (next_sound cut.1 plus_minus after k) (all_of (unsigned_tokens w.cut.0) after (j.tokens [] w.more)))

        at : (o : Option (Token × List ℕ)) → next_token cut.1 ≡ o → from_token cut.0 cut.1 o ≡ Some literal → IsLiteral text literal
        at None k l =
            let w = whole_sound forms.One cut.0 (Some (cut.0, cut.1)) literal l in
            let same : (cut.0, cut.1) ≡ w.cut = same_some _ _ w.given_is in
            of_form forms.One w.cut.0 w.literal_is (sym (ap (λ (x : Spelled × List ℕ). x.0) same)) (subst (λ (x : Spelled × List ℕ). AreTokens x.1 []) (sym same) w.more)
        at (Some found) k l = token_at found.0 found.1 k l

-- a text is one literal at most
pub one_literal : (text : List ℕ) (a b : Literal) → IsLiteral text a → IsLiteral text b → a ≡ b
one_literal text a b h k = same_some a b (sym (read_complete text a h) ∙ read_complete text b k)
