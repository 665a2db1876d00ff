-- Items that are put one after another.
use Rattle.std.proofs.Common.{◌≡◌, ℕ, List, [], ◌∷◌, ◌++◌, refl, sym, ap, ◌∙◌, subst, append_assoc, append-nil}
use Rattle.std.specs.Prelude.{Some, None, false, if◌then◌else◌}
use Rattle.std.specs.List.{filter_map, cons_option}
use Rattle.std.proofs.lemmas.List.Elements.{filter_map-append}
use Rattle.std.specs.Prelude.{IsUtf8}
use Rattle.std.proofs.lemmas.Str.{encodes-chars}
use Rattle.ato_base.specs.NameTable.{with_name, with_names, number_of, Extends}
use Rattle.ato_base.specs.declared.tokens.TokenKind.TheVariants as kinds
use Rattle.ato_base.proofs.NameTableLaws.{all_extend, extends_more, with_names-append, held_number, held_after, number_after}
use Rattle.ato_base.specs.declared.faults.Fault.{Fault}
use Rattle.ato_base.specs.declared.places.FileId.{FileId}
use Rattle.ato_base.specs.declared.tokens.Token.{Token}
use Rattle.ato_lexer.specs.declared.pieces.Shape.TheVariants as shapes
use Rattle.ato_lexer.specs.Lines.{Placed, is_blank}
use Rattle.ato_lexer.specs.declared.scanning.Standing.TheVariants.{Between}
use Rattle.ato_lexer.specs.Walks.{put}
use Rattle.ato_lexer.specs.Layout.{steps, token_item, Item, token, newline, indent, dedent, end, fault}
use Rattle.ato_base.specs.declared.faults.Refusal.{Refusal}
use Rattle.ato_base.specs.declared.faults.Refusal.TheVariants as refusals
use Rattle.ato_lexer.specs.Puts.{Puts, StopsAt, placed_as}
use Rattle.ato_lexer.specs.Tokens.{token_at, item_token, item_name, first_of}

-- the first fault of two runs of items
first-sound : (file : FileId) (is js : List Item) → first_of file is ≡ None → first_of file (is ++ js) ≡ first_of file js
first-sound file [] js h = refl
first-sound file (token p ∷ is) js h = first-sound file is js h
first-sound file (newline at ∷ is) js h = first-sound file is js h
first-sound file (indent at ∷ is) js h = first-sound file is js h
first-sound file (dedent at ∷ is) js h = first-sound file is js h
first-sound file (end at ∷ is) js h = first-sound file is js h
first-sound file (fault k start stop ∷ is) js h = let bad : ⊥ = cc in absurd bad

first-found : (file : FileId) (f : Fault) (is js : List Item) → first_of file is ≡ Some f → first_of file (is ++ js) ≡ Some f
first-found file f [] js h = let bad : ⊥ = cc in absurd bad
first-found file f (token p ∷ is) js h = first-found file f is js h
first-found file f (newline at ∷ is) js h = first-found file f is js h
first-found file f (indent at ∷ is) js h = first-found file f is js h
first-found file f (dedent at ∷ is) js h = first-found file f is js h
first-found file f (end at ∷ is) js h = first-found file f is js h
first-found file f (fault k start stop ∷ is) js h = h

pub first_past : (file : FileId) (is js : List Item) → first_of file is ≡ None → first_of file (is ++ js) ≡ first_of file js
first_past = first-sound

pub first_front : (file : FileId) (f : Fault) (is js : List Item) → first_of file is ≡ Some f → first_of file (is ++ js) ≡ Some f
first_front = first-found

-- Nothing was put.
pub puts_none : (file : FileId) (names : List (List ℕ)) (tokens : List Token) → Puts file names names tokens tokens []
puts_none file names tokens = record { sound = refl; names = refl; tokens = λ later extends. sym (append-nil tokens) }

-- Items were put behind others.
pub puts_more : (file : FileId) (a b c : List (List ℕ)) (x y z : List Token) (is js : List Item) → Puts file a b x y is → Puts file b c y z js → Puts file a c x z (is ++ js)
puts_more file a b c x y z is js h k = record {
  sound = first-sound file is js h.sound ∙ k.sound;
  names =
      k.names ∙ ap (λ l. with_names l (filter_map item_name js)) h.names
      ∙ sym (with_names-append a (filter_map item_name is) (filter_map item_name js))
      ∙ ap (with_names a) (sym (filter_map-append item_name is js));
  tokens = λ later extends.
      let grown : Extends b c = subst (λ l. Extends b l) (sym k.names) (all_extend b (filter_map item_name js)) in
      k.tokens later extends
      ∙ ap (λ l. l ++ filter_map (item_token later file) js) (h.tokens later (extends_more b c later grown extends))
      ∙ append_assoc x (filter_map (item_token later file) is) (filter_map (item_token later file) js)
      ∙ ap (λ l. x ++ l) (sym (filter_map-append (item_token later file) is js));
}

-- A token that is no name was put.
pub puts_one : (file : FileId) (names : List (List ℕ)) (before after : List Token) (item : Item) (t : Token) → first_of file (item ∷ []) ≡ None → item_name item ≡ None
    → ((later : List (List ℕ)) → item_token later file item ≡ Some t) → after ≡ before ++ t ∷ [] → Puts file names names before after (item ∷ [])
puts_one file names before after item t sound unnamed is put = record {
  sound = sound;
  names = sym (ap (λ o. with_names names (cons_option o [])) unnamed);
  tokens = λ later extends. put ∙ ap (λ o. before ++ cons_option o []) (sym (is later));
}

-- A name was put, and stands in the table from now on.
pub puts_name : (file : FileId) (old new : List (List ℕ)) (before after : List Token) (text : List ℕ) (n start stop : ℕ) → IsUtf8 text → new ≡ with_name old text → n ≡ number_of old text
    → after ≡ before ++ token_at file start stop (kinds.Name (record { 0 = n })) ∷ [] → Puts file old new before after (token_item (placed_as shapes.Name text start stop) ∷ [])
puts_name file old new before after text n start stop utf8 table number put = record {
  sound = refl;
  names = table ∙ ap (with_name old) (sym (encodes-chars text utf8));
  tokens = λ later (more, grown).
      let kept : number_of later text ≡ n =
      ap (λ l. number_of l text) grown ∙ held_number new more text (held_after old new text table) ∙ sym (number_after old new text n table number) in
      put ∙ ap (λ k. before ++ token_at file start stop (kinds.Name (record { 0 = k })) ∷ []) (sym kept)
      ∙ ap (λ t. before ++ token_at file start stop (kinds.Name (record { 0 = number_of later t })) ∷ []) (sym (encodes-chars text utf8));
}

-- Why the first of two runs of items was not put, or the second behind the first.
pub stops_front : (file : FileId) (is js : List Item) (r : Refusal) → StopsAt file is r → StopsAt file (is ++ js) r
stops_front file is js (refusals.Fault f) h = first-found file f is js h
stops_front file is js refusals.NoMemory h = h

pub stops_past : (file : FileId) (is js : List Item) (r : Refusal) → first_of file is ≡ None → StopsAt file js r → StopsAt file (is ++ js) r
stops_past file is js (refusals.Fault f) sound h = first-sound file is js sound ∙ h
stops_past file is js refusals.NoMemory sound h = h

-- what the first token of a line puts
pub put_first : (levels : List ℕ) (column : ℕ) (p : Placed) → is_blank p.piece.kind ≡ false → steps column p levels ++ token_item p ∷ [] ≡ put levels (Between column) p
put_first levels column p h = sym (ap (λ b. if b then [] else steps column p levels ++ token_item p ∷ []) h)

-- A table that stays or grows keeps its names.
pub table_same : (names : List (List ℕ)) → Extends names names
table_same names = ([], sym (append-nil names))

pub table_kept : (old new : List (List ℕ)) → new ≡ old → Extends old new
table_kept old new h = ([], h ∙ sym (append-nil old))

pub table_grows : (old new : List (List ℕ)) (text : List ℕ) → new ≡ with_name old text → Extends old new
table_grows old new text h = subst (λ l. Extends old l) (sym h) (all_extend old (text ∷ []))
