-- The name of each block of a loaded project is in its table of names, which has got all names of the files; so each part's type has a name.
use Rattle.std.proofs.Common.{◌≡◌, ℕ, zero, suc, Bool, true, false, true≢false, List, [], ◌∷◌, ◌++◌, length, map, Option, Some, None, inl, inr, refl, ap, sym, ◌∙◌, subst}
use Rattle.std.specs.Prelude.{filter_map, slice_get, option_to_list}
use Rattle.std.specs.List.{cons_option, flat_map, list_any}
use Rattle.std.specs.Option.{option_and_then, option_map}
use Rattle.std.proofs.lemmas.Bool.{and_parts}
use Rattle.std.specs.Str.{bytes_eq, encode_utf8_all}
use Rattle.std.proofs.lemmas.Option.{none-some, same_Some}
use Rattle.std.proofs.lemmas.Slice.Eq.{bytes_eq-Decides}
use Rattle.ato_base.specs.NameTable.{with_name, with_names, number_of, IsHeld, Extends}
use Rattle.ato_base.specs.Stages.{Reaches, arrived, onward}
use Rattle.ato_base.specs.declared.name_table.Name.{Name}
use Rattle.ato_base.specs.declared.places.FileId.{FileId}
use Rattle.ato_base.specs.declared.tokens.Token.{Token}
use Rattle.ato_base.specs.declared.tokens.TokenKind.{TokenKind}
use Rattle.ato_base.specs.declared.tokens.TokenKind.TheVariants as kinds
use Rattle.ato_base.proofs.NameTableLaws.{held_more, new_held, all_extend}
use Rattle.ato_lexer.specs.Pieces as pieces
use Rattle.ato_lexer.specs.Lines.{Placed}
use Rattle.ato_lexer.specs.Layout.{Item, token, newline, indent, dedent, end, fault}
use Rattle.ato_lexer.specs.Tokens.{kind_of, with_place, item_token, piece_name, item_name, names_in, items, AreTokens}
use Rattle.ato_ast.specs.declared.blocks.File.{File}
use Rattle.ato_ast.specs.declared.blocks.Item.{Item as File_Item}
use Rattle.ato_ast.specs.declared.blocks.Item.TheVariants as item
use Rattle.ato_ast.specs.FileKinds.{block_kinds, item_kinds, file_kinds}
use Rattle.ato_parser.specs.Tokens.{Tokens}
use Rattle.ato_parser.specs.Faults.{deepest, IsTree}
use Rattle.ato_parser.proofs.KindsOfFiles.{file_kinds_of}
use Rattle.ato_files.specs.declared.program.Program.{Program}
use Rattle.ato_files.specs.declared.program.SourceFile.{SourceFile}
use Rattle.ato_files.specs.Lists.{numbered}
use Rattle.ato_files.specs.Blocks.{BlockAt, item_block, blocks_of, block_of, meaning}
use Rattle.ato_files.specs.Lineages.{below, lineage_within}
use Rattle.ato_files.specs.Library.{library_names}
use Rattle.ato_files.specs.Loading.{Held, Loaded, all_files}
use Rattle.ato_files.specs.Programs.{Stage, Started, Loading, Named, Leads, IsProgram}
use Rattle.ato_files.proofs.LexedLibrary.{library_lexed}
use Rattle.ato_instance_tree.specs.Types.{block_kinds as block_kinds_of, is_component}
use Rattle.ato_instance_tree.specs.Walk.{type_at}
use Rattle.ato_instance_tree.specs.Order.{instances}
use Rattle.ato_instance_tree.specs.PathFaults.{is_component_at}
use Rattle.ato_instance_tree.proofs.SpotLaws.{IsIn, in_append, in_left, in_flat_map, at_in}
use Rattle.ato_instance_tree.proofs.NodeLaws.{into_flat_map}
use Rattle.ato_instance_tree.proofs.KnownLaws.{in_map}
use Rattle.ato_links.specs.Parts.{is_part, type_text, BlocksHaveNames, PartsHaveTypes}
use Rattle.ato_links.proofs.NetLaws.{filter_had}
use Rattle.ato_links.proofs.PinLaws.{any_had, path_found, numbered_item}

-- ---- lists

in_filter_map : {X Y : Type 0} (f : X → Option Y) (y : Y) (xs : List X) → IsIn y (filter_map f xs) → (x : X) × IsIn x xs × (f x ≡ Some y)
in_filter_map f y [] m = absurd m
in_filter_map f y (x ∷ xs) m = by (f x) refl m (in_filter_map f y xs) where
  by : (o : Option _) → f x ≡ o → IsIn y (cons_option o (filter_map f xs)) → (IsIn y (filter_map f xs) → (z : _) × IsIn z xs × (f z ≡ Some y))
      → (z : _) × IsIn z (x ∷ xs) × (f z ≡ Some y)
  by None e k more = let it = more k in (it.0, inr it.1, it.2)
  by (Some z) e (inl s) more = (x, inl refl, e ∙ ap Some (sym s))
  by (Some z) e (inr k) more = let it = more k in (it.0, inr it.1, it.2)

into_filter_map : {X Y : Type 0} (f : X → Option Y) (x : X) (y : Y) (xs : List X) → IsIn x xs → f x ≡ Some y → IsIn y (filter_map f xs)
into_filter_map f x y [] m e = absurd m
into_filter_map f x y (z ∷ zs) (inl s) e = subst (λ o. IsIn y (cons_option o (filter_map f zs))) (sym (ap f (sym s) ∙ e)) (inl refl)
into_filter_map f x y (z ∷ zs) (inr m) e = by (f z) (into_filter_map f x y zs m e) where
  by : (o : Option _) → IsIn y (filter_map f zs) → IsIn y (cons_option o (filter_map f zs))
  by None k = k
  by (Some w) k = inr k

front_get : {X : Type 0} (xs ys : List X) (i : ℕ) (x : X) → slice_get xs i ≡ Some x → slice_get (xs ++ ys) i ≡ Some x
front_get [] ys i x e = absurd (none-some x e)
front_get (z ∷ xs) ys zero x e = e
front_get (z ∷ xs) ys (suc i) x e = front_get xs ys i x e

-- ---- tables

-- The number is that of a text of the table.
abbrev pub IsTold : List (List ℕ) → ℕ → Type 0
IsTold names n = (text : List ℕ) × (slice_get names n ≡ Some text)

told_later : (old new : List (List ℕ)) (n : ℕ) → Extends old new → IsTold old n → IsTold new n
told_later old new n more it = (it.0, ap (λ l. slice_get l n) more.1 ∙ front_get old more.0 n it.0 it.1)

held_told : (names : List (List ℕ)) (text : List ℕ) → IsHeld names text → IsTold names (number_of names text)
held_told names text h =
    let it = any_had (bytes_eq text) names h in
    (text, path_found text names (subst (λ t. IsIn t names) (sym ((bytes_eq-Decides text it.0).0 it.2)) it.1))

all_held : (old texts : List (List ℕ)) (text : List ℕ) → IsIn text texts → IsHeld (with_names old texts) text
all_held old [] text m = absurd m
all_held old (t ∷ texts) text (inl e) =
    let more = all_extend (with_name old t) texts in
    subst (IsHeld (with_names old (t ∷ texts))) (sym e) (ap (list_any (bytes_eq t)) more.1 ∙ held_more (with_name old t) more.0 t (new_held old t))
all_held old (t ∷ texts) text (inr m) = all_held (with_name old t) texts text m

-- ---- tokens

is_name : TokenKind → Bool
is_name (kinds.Name n) = true
is_name _ = false

number_in : TokenKind → ℕ
number_in (kinds.Name n) = n.0
number_in _ = 0

-- The item is a name of this number.
record IsNamed (new : List (List ℕ)) (i : Item) (n : ℕ) : Type 0 where
  pub text : List ℕ
  pub named : item_name i ≡ Some text
  pub numbered : n ≡ number_of new text

module _ (new : List (List ℕ)) (id : FileId) (t : Token) (n : Name) (called : t.kind ≡ kinds.Name n) where
  is_of : (u : Token) → Some u ≡ Some t → u.kind ≡ kinds.Name n
  is_of u e = ap (λ (x : Token). x.kind) (same_Some u t e) ∙ called

  other : (u : Token) → is_name u.kind ≡ false → Some u ≡ Some t → ⊥
  unfolding is_name
  other u h e = true≢false (sym (ap is_name (is_of u e)) ∙ h)

  by_piece : (p : Placed) (k : pieces.Kind) → with_place id p (kind_of new id p k) ≡ Some t
      → (text : List ℕ) × (piece_name p k ≡ Some text) × (n.0 ≡ number_of new text)
  unfolding is_name number_in
  by_piece p pieces.name e = (encode_utf8_all p.piece.text, refl, sym (ap number_in (is_of _ e)))
  by_piece p (pieces.keyword k) e = absurd (other _ refl e)
  by_piece p pieces.number e = absurd (other _ refl e)
  by_piece p (pieces.string quotes) e = absurd (other _ refl e)
  by_piece p (pieces.mark m) e = absurd (other _ refl e)
  by_piece p pieces.blank e = absurd (none-some t e)
  by_piece p pieces.comment e = absurd (none-some t e)
  by_piece p pieces.line_end e = absurd (none-some t e)
  by_piece p pieces.bad_char e = absurd (none-some t e)
  by_piece p pieces.open_string e = absurd (none-some t e)

  by_item : (i : Item) → item_token new id i ≡ Some t → IsNamed new i n.0
  unfolding is_name
  by_item (token p) e = let it = by_piece p p.piece.kind e in record { text = it.0; named = it.1; numbered = it.2 }
  by_item (newline at) e = absurd (other _ refl e)
  by_item (indent at) e = absurd (other _ refl e)
  by_item (dedent at) e = absurd (other _ refl e)
  by_item (end at) e = absurd (other _ refl e)
  by_item (fault k start stop) e = absurd (none-some t e)

-- each name of a file is in the table behind it
file_told : (bytes : List ℕ) (id : FileId) (old new : List (List ℕ)) (tokens : Tokens) (tree : File) → AreTokens bytes id old new tokens → IsTree tokens tree
    → (n : Name) → IsIn (kinds.Name n) (file_kinds tree) → IsTold new n.0
file_told bytes id old new tokens tree are is n m =
    let t = in_map (λ (x : Token). x.kind) (kinds.Name n) tokens (subst (IsIn (kinds.Name n)) (file_kinds_of deepest tree tokens is) m) in
    let i = in_filter_map (item_token new id) t.0 (items bytes) (subst (IsIn t.0) are.tokens_are t.1) in
    let named = by_item new id t.0 n (sym t.2) i.0 i.2 in
    let held = all_held old (names_in bytes) named.text (into_filter_map item_name i.0 named.text (items bytes) i.1 named.named) in
    subst (IsTold new) (sym named.numbered) (held_told new named.text (subst (λ l. IsHeld l named.text) (sym are.names_are) held))

-- ---- stages

-- Each name of these files is in the table.
AreTold : List (List ℕ) → List SourceFile → Type 0
AreTold names files = (f : SourceFile) → IsIn f files → (n : Name) → IsIn (kinds.Name n) (file_kinds f.tree) → IsTold names n.0

Tabled : Stage → Type 0
Tabled Started = Unit {0}
Tabled (Loading l) = AreTold l.names (all_files l)
Tabled (Named l) = AreTold l.names (all_files l)

module _ (held : Held) (entry : List ℕ) where
  goes_on : (s t : Stage) → Leads held entry s t → Tabled s → Tabled t
  unfolding Tabled AreTold
  goes_on Started Started a d = elim a [ ]
  goes_on Started (Named m) a d = elim a [ ]
  goes_on (Named l) t a d = elim a [ ]
  goes_on (Loading l) Started a d = elim a [ ]
  goes_on Started (Loading l) a d = λ f m n h. elim (subst (λ (fs : List SourceFile). IsIn f (l.library ∷ fs)) a.files m) [
    | inl e ↦ subst (λ names. IsTold names n.0) (sym a.names)
        (file_told _ _ _ library_names _ l.library.tree library_lexed a.tree n (subst (λ (x : SourceFile). IsIn (kinds.Name n) (file_kinds x.tree)) e h))
    | inr k ↦ absurd k
  ]
  goes_on (Loading l) (Loading m) a d = λ f k n h. elim
      (in_append f (l.library ∷ l.files) (a.file ∷ []) (subst (λ (fs : List SourceFile). IsIn f fs) (all_more l m a.library a.files) k)) [
        | inl j ↦ told_later l.names m.names n.0 (grown l.names m.names a.file.bytes a.next.are.lexed.names_are) (d f j n h)
        | inr j ↦ file_told _ _ l.names m.names a.tokens a.file.tree a.next.are.lexed a.next.tree n (at_last f n j h)
      ]
    where
      all_more : (l m : Loaded) → m.library ≡ l.library → m.files ≡ l.files ++ a.file ∷ [] → all_files m ≡ (l.library ∷ l.files) ++ a.file ∷ []
      all_more l m e f = ap (λ x. x ∷ m.files) e ∙ ap (λ x. l.library ∷ x) f

      grown : (old new : List (List ℕ)) (bytes : List ℕ) → new ≡ with_names old (names_in bytes) → Extends old new
      grown old new bytes e = let more = all_extend old (names_in bytes) in (more.0, e ∙ more.1)

      at_last : (f : SourceFile) (n : Name) → IsIn f (a.file ∷ []) → IsIn (kinds.Name n) (file_kinds f.tree) → IsIn (kinds.Name n) (file_kinds a.file.tree)
      at_last f n (inl e) h = subst (λ (x : SourceFile). IsIn (kinds.Name n) (file_kinds x.tree)) e h
      at_last f n (inr k) h = absurd k
  goes_on (Loading l) (Named m) a d = subst (λ (x : Loaded). AreTold x.names (all_files x)) (sym a.0) d

  stays : (s t : Stage) → Reaches (Leads held entry) s t → Tabled s → Tabled t
  stays s t arrived d = d
  stays s t (onward {t = u} a more) d = stays u t more (goes_on s u a d)

  program_told : (p : Program) → IsProgram held entry p → AreTold p.names p.files
  unfolding Tabled
  program_told p is = subst (λ names. AreTold names p.files) (sym is.names)
      (subst (λ files. AreTold is.loaded.names files) (sym is.files) (stays Started (Named is.loaded) is.reached tt))

-- ---- blocks

-- a block's item writes its name
item_writes : (file number : ℕ) (b : BlockAt) (i : File_Item) → IsIn b (item_block file number i) → IsIn (kinds.Name b.block.name.name) (item_kinds i)
unfolding block_kinds
item_writes file number b (item.Heads line) m = absurd m
item_writes file number b (item.Block block) (inl e) = inr (inl (ap (λ (x : BlockAt). kinds.Name x.block.name.name) e))
item_writes file number b (item.Block block) (inr k) = absurd k

block_writes : (files : List SourceFile) (number : ℕ) (b : BlockAt) → block_of files number ≡ Some b
    → (f : SourceFile) × IsIn f files × IsIn (kinds.Name b.block.name.name) (file_kinds f.tree)
unfolding file_kinds
block_writes files number b e =
    let f = in_flat_map (λ (f : ℕ × SourceFile). flat_map (λ i. item_block f.0 i.0 i.1) (numbered 0 f.1.tree.items)) b (numbered 0 files)
    (at_in b (blocks_of files) number e) in
    let i = in_flat_map (λ (i : ℕ × File_Item). item_block f.0.0 i.0 i.1) b (numbered 0 f.0.1.tree.items) f.2 in
    let written = into_flat_map item_kinds (kinds.Name b.block.name.name) i.0.1 f.0.1.tree.items (numbered_item 0 i.0 f.0.1.tree.items i.1)
    (item_writes f.0.0 i.0.0 b i.0.1 i.2) in
    (f.0.1, numbered_item 0 f.0 files f.1, in_left (kinds.Name b.block.name.name) (flat_map item_kinds f.0.1.tree.items) _ written)

pub blocks_told : BlocksHaveNames
unfolding AreTold
blocks_told program number b loaded e =
    let it = block_writes program.files number b e in
    program_told loaded.held loaded.entry_file program loaded.is it.0 it.1 b.block.name.name it.2

-- ---- types of parts

alone : (files : List SourceFile) (block n : ℕ) → block_of files block ≡ None → lineage_within files n block ≡ block ∷ []
alone files block zero e = refl
alone files block (suc n) e = ap (λ o. below block (option_map (lineage_within files n)
    (option_and_then (λ (b : BlockAt). option_and_then (λ name. meaning files b.file name.name.0) b.block.parent) o))) e

no_kinds : (files : List SourceFile) (type : ℕ) → block_of files type ≡ None → block_kinds_of files type ≡ []
no_kinds files type e = ap (flat_map (λ b. map (λ (x : BlockAt). x.block.kind) (option_to_list (block_of files b))))
    (alone files type (length (blocks_of files)) e)
    ∙ ap (λ o. map (λ (x : BlockAt). x.block.kind) (option_to_list o) ++ []) e

pub types_told : PartsHaveTypes
types_told program entry path loaded m =
    by (type_at program.files entry path) (and_parts (is_component_at program.files entry path) _
    (filter_had (is_part program.files entry program.names) (instances program.files entry) path m).1).0
  where
    by_block : (type : ℕ) (o : Option BlockAt) → block_of program.files type ≡ o → list_any is_component (block_kinds_of program.files type ++ []) ≡ true
        → (text : List ℕ) × (option_and_then (λ (b : BlockAt). slice_get program.names b.block.name.name.0) o ≡ Some text)
    by_block type None e c = absurd (true≢false (sym c ∙ ap (λ l. list_any is_component (l ++ [])) (no_kinds program.files type e)))
    by_block type (Some b) e c = blocks_told program type b loaded e

    by : (type : Option ℕ) → list_any is_component (flat_map (block_kinds_of program.files) (option_to_list type)) ≡ true
        → (text : List ℕ) × (type_text program.files program.names type ≡ Some text)
    by None c = absurd (true≢false (sym c))
    by (Some t) c = by_block t (block_of program.files t) refl c
