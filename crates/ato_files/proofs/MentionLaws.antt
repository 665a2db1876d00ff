-- The strings of a file's imports are texts.
use Rattle.std.proofs.Common.{◌≡◌, ℕ, ◌+◌, ◌-◌, Bool, true, false, List, [], ◌∷◌, ◌++◌, map, Some, None, refl, sym, ap, subst, ◌∙◌, if◌then◌else◌, ◌⊎◌, inl, inr}
use Rattle.std.specs.Prelude.{IsUtf8}
use Rattle.std.specs.List.{filter_map, flat_map, cons_option, All}
use Rattle.std.specs.Str.{is_utf8}
use Rattle.std.specs.Str.Lossy.{utf8_valid_len}
use Rattle.ato_base.specs.declared.places.FileId.{FileId}
use Rattle.ato_base.specs.declared.places.Span.{Span}
use Rattle.ato_base.specs.declared.keywords.Mark.{Mark}
use Rattle.ato_base.specs.declared.faults.FaultKind.TheVariants as faults
use Rattle.ato_base.specs.declared.tokens.Token.{Token}
use Rattle.ato_base.specs.declared.tokens.TokenKind.{TokenKind}
use Rattle.ato_base.specs.declared.tokens.TokenKind.TheVariants as token_kinds
use Rattle.ato_ast.specs.declared.names.Quoted.{Quoted}
use Rattle.ato_ast.specs.declared.blocks.Head.{Head}
use Rattle.ato_ast.specs.declared.blocks.Head.TheVariants as head
use Rattle.ato_ast.specs.declared.blocks.Item.TheVariants as block_item
use Rattle.ato_ast.specs.declared.blocks.Item as tree_items
use Rattle.ato_ast.specs.declared.blocks.File.{File}
use Rattle.ato_ast.specs.PathKinds.{Kinds, joined, marked}
use Rattle.ato_ast.specs.FileKinds.{tail_kinds, head_kinds, item_kinds, file_kinds}
use Rattle.ato_lexer.specs.Pieces.{Kind}
use Rattle.ato_lexer.specs.Pieces as kinds
use Rattle.ato_lexer.specs.Lines.{Placed, is_token}
use Rattle.ato_lexer.specs.Layout.{Item, token, newline, indent, dedent, end, fault, item_piece}
use Rattle.ato_lexer.specs.Tokens.{AreTokens, items, pieces_in, kind_of, with_place, item_token, tokens_of, first_of, first_fault, fault_at}
use Rattle.ato_parser.specs.Faults.{deepest, IsTree}
use Rattle.ato_parser.proofs.KindsOfFiles.{file_kinds_of}
use Rattle.ato_files.specs.Files.{item_heads, head_mention}
use Rattle.ato_files.specs.Lists.{text_at, Among, here, there}
use Rattle.ato_files.specs.Walks.{HasText, tree_mentions}
use Rattle.ato_files.proofs.FileLaws.{among_left, among_right, among_flat_map}
use Rattle.ato_files.proofs.StringLaws.{PieceLaws, of_kept, each_of, string_text}

-- ---- lists

first_or_more : {X : Type 0} {x y : X} {ys : List X} → Among x (y ∷ ys) → (x ≡ y) ⊎ Among x ys
first_or_more here = inl refl
first_or_more (there a) = inr a

-- one of two lists in a row
of_both : {X : Type 0} {x : X} (xs ys : List X) → Among x (xs ++ ys) → Among x xs ⊎ Among x ys
of_both [] ys a = inr a
of_both (y ∷ xs) ys here = inl here
of_both (y ∷ xs) ys (there a) = elim (of_both xs ys a) [ inl b ↦ inl (there b) | inr b ↦ inr b ]

-- one of what some items give
record FromOne {X A : Type 0} (f : X → List A) (xs : List X) (a : A) : Type 0 where
  item : X
  among : Among item xs
  gives : Among a (f item)

from_one : {X A : Type 0} (f : X → List A) {a : A} (xs : List X) → Among a (flat_map f xs) → FromOne f xs a
from_one f [] a = elim a [ ]
from_one f (x ∷ xs) a = elim (of_both (f x) (flat_map f xs) a) [
  | inl b ↦ record { item = x; among = here; gives = b }
  | inr b ↦ let more = from_one f xs b in record { item = more.item; among = there more.among; gives = more.gives }
]

-- ---- a mention is the kind of a token

head_kind : {q : Quoted} (h : Head) → Among q (head_mention h) → Among (token_kinds.Str q.contents) (head_kinds h)
head_kind (head.ImportFrom n s at) here = there (there (there here))
head_kind (head.From s ns at) here = there here
head_kind (head.ImportFrom n s at) (there a) = elim a [ ]
head_kind (head.From s ns at) (there a) = elim a [ ]
head_kind (head.Import ns at) a = elim a [ ]
head_kind (head.Docs s) a = elim a [ ]
head_kind (head.Pass at) a = elim a [ ]

joined_kind : {X : Type 0} {x : X} {k : TokenKind} (m : Mark) (f : X → Kinds) (xs : List X) → Among x xs → Among k (f x) → Among k (joined m f xs)
joined_kind m f (x ∷ xs) here b = among_left (marked m f xs) b
joined_kind m f (y ∷ xs) (there a) b = among_right (f y) (among_flat_map (λ z. token_kinds.Mark m ∷ f z) a (there b))
joined_kind m f [] a b = elim a [ ]

item_kind : {h : Head} {k : TokenKind} (i : tree_items.Item) → Among h (item_heads i) → Among k (head_kinds h) → Among k (item_kinds i)
item_kind (block_item.Heads line) a b = among_left (tail_kinds line.tail ++ token_kinds.Newline ∷ []) (joined_kind _ head_kinds line.parts a b)
item_kind (block_item.Block block) a b = elim a [ ]

mention_kind : {q : Quoted} (f : File) → Among q (tree_mentions f) → Among (token_kinds.Str q.contents) (file_kinds f)
unfolding file_kinds
mention_kind f a =
    let of_head = from_one head_mention (flat_map item_heads f.items) a in
    let of_item = from_one item_heads f.items of_head.among in
    among_left (token_kinds.End ∷ []) (among_flat_map item_kinds of_item.among (item_kind of_item.item of_item.gives (head_kind of_head.item of_head.gives)))

-- ---- a string among the kinds of tokens is a piece

record IsString (file : FileId) (ps : List Placed) (at : Span) : Type 0 where
  piece : Placed
  quotes : ℕ
  among : Among piece ps
  kind : piece.piece.kind ≡ kinds.string quotes
  is : at ≡ record { file = file; start = piece.start + quotes; end = piece.end - quotes }

further : (file : FileId) (p : Placed) (ps : List Placed) {at : Span} → IsString file ps at → IsString file (p ∷ ps) at
further file p ps s = record { piece = s.piece; quotes = s.quotes; among = there s.among; kind = s.kind; is = s.is }

abbrev kinds_in : List Token → Kinds
kinds_in ts = map (λ (t : Token). t.kind) ts

module _ (names : List (List ℕ)) (file : FileId) where
  of_piece : {at : Span} (p : Placed) (ps : List Placed) (k : Kind) → p.piece.kind ≡ k → (more : List Token) → Among (token_kinds.Str at) (kinds_in (cons_option (with_place file p (kind_of names file p k)) more))
      → (Among (token_kinds.Str at) (kinds_in more) → IsString file ps at) → IsString file (p ∷ ps) at
  of_piece p ps kinds.name e more a rest = elim (first_or_more a) [ inl b ↦ absurd (cc) | inr b ↦ further file p ps (rest b) ]
  of_piece p ps (kinds.keyword w) e more a rest = elim (first_or_more a) [ inl b ↦ absurd (cc) | inr b ↦ further file p ps (rest b) ]
  of_piece p ps kinds.number e more a rest = elim (first_or_more a) [ inl b ↦ absurd (cc) | inr b ↦ further file p ps (rest b) ]
  of_piece p ps (kinds.string n) e more a rest = elim (first_or_more a) [ inl b ↦ record { piece = p; quotes = n; among = here; kind = e; is = (cc) } | inr b ↦ further file p ps (rest b) ]
  of_piece p ps (kinds.mark m) e more a rest = elim (first_or_more a) [ inl b ↦ absurd (cc) | inr b ↦ further file p ps (rest b) ]
  of_piece p ps kinds.blank e more a rest = further file p ps (rest a)
  of_piece p ps kinds.comment e more a rest = further file p ps (rest a)
  of_piece p ps kinds.line_end e more a rest = further file p ps (rest a)
  of_piece p ps kinds.bad_char e more a rest = further file p ps (rest a)
  of_piece p ps kinds.open_string e more a rest = further file p ps (rest a)

  of_items : {at : Span} (is : List Item) → Among (token_kinds.Str at) (kinds_in (filter_map (item_token names file) is)) → IsString file (filter_map item_piece is) at
  of_items [] a = elim a [ ]
  of_items (token p ∷ is) a = of_piece p (filter_map item_piece is) p.piece.kind refl (filter_map (item_token names file) is) a (of_items is)
  of_items (newline n ∷ is) a = elim (first_or_more a) [ inl b ↦ absurd (cc) | inr b ↦ of_items is b ]
  of_items (indent n ∷ is) a = elim (first_or_more a) [ inl b ↦ absurd (cc) | inr b ↦ of_items is b ]
  of_items (dedent n ∷ is) a = elim (first_or_more a) [ inl b ↦ absurd (cc) | inr b ↦ of_items is b ]
  of_items (end n ∷ is) a = elim (first_or_more a) [ inl b ↦ absurd (cc) | inr b ↦ of_items is b ]
  of_items (fault k start stop ∷ is) a = of_items is a

-- ---- the strings of a file that has tokens and a tree

-- where there is no fault, the bytes are a text and no item is one
record IsSound (bytes : List ℕ) (file : FileId) : Type 0 where
  utf8 : is_utf8 bytes ≡ true
  items_sound : first_of file (items bytes) ≡ None

is_sound : (bytes : List ℕ) (file : FileId) → first_fault file bytes ≡ None → IsSound bytes file
unfolding first_fault
is_sound bytes file h = by (is_utf8 bytes) refl h
  where
    by : (b : Bool) → is_utf8 bytes ≡ b → (if b then first_of file (items bytes) else Some (fault_at file faults.BadText (utf8_valid_len bytes) (utf8_valid_len bytes + 1))) ≡ None → IsSound bytes file
    by true e g = record { utf8 = e; items_sound = g }
    by false e g = absurd (cc)

pub mentions_are_texts : (laws : PieceLaws) (bytes : List ℕ) (file : FileId) (old new : List (List ℕ)) (tokens : List Token) (tree : File) → AreTokens bytes file old new tokens → IsTree tokens tree
    → All (HasText bytes) (tree_mentions tree)
mentions_are_texts laws bytes file old new tokens tree are parsed = each_of (HasText bytes) (tree_mentions tree) text
  where
    text : (q : Quoted) → Among q (tree_mentions tree) → HasText bytes q
    text q a =
        let sound = is_sound bytes file are.no_fault in
        let kind : Among (token_kinds.Str q.contents) (kinds_in (tokens_of new file bytes)) = subst (Among (token_kinds.Str q.contents)) (file_kinds_of deepest tree tokens parsed ∙ ap kinds_in are.tokens_are) (mention_kind tree a) in
        let s = of_items new file (items bytes) kind in
        let among : Among s.piece (pieces_in bytes) = of_kept (λ (p : Placed). is_token p.piece.kind) (pieces_in bytes) (subst (Among s.piece) (laws.tokens bytes file are.no_fault) s.among) in
        subst (λ at. IsUtf8 (text_at bytes at)) (sym s.is) (string_text laws bytes file s.piece s.quotes sound.utf8 sound.items_sound among s.kind)
