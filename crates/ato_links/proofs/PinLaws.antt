-- Each pin of a loaded project stands in a part: a pin in no component is a fault of names.
use Rattle.std.proofs.Common.{◌≡◌, ℕ, zero, suc, ◌+◌, Bool, true, false, true≢false, ◌||◌, if◌then◌else◌, List, [], ◌∷◌, length, map, get_or, Option, Some, None, inl, inr, refl, ap, sym, ◌∙◌, subst, arith}
use Rattle.std.specs.Prelude.{cond, Contains, filter, filter_map, slice_get, option_to_list}
use Rattle.std.specs.List.{flat_map, list_any, position_or_len}
use Rattle.std.specs.Str.{bytes_eq}
use Rattle.std.proofs.lemmas.Bool.{and_from, or_left, or_right, cases_lt}
use Rattle.std.proofs.lemmas.Option.{none-some, same_Some, slice_get_within, slice_get-get_or, get_or_from_slice_get}
use Rattle.std.proofs.lemmas.List.Sums.{fails_before_first, passes_at_first}
use Rattle.std.proofs.lemmas.Slice.Eq.{bytes_eq-Decides}
use Rattle.ato_base.proofs.ClassLaws.{cases, nowhere}
use Rattle.ato_ast.specs.declared.paths.Label.{Label}
use Rattle.ato_ast.specs.Places.{label_at}
use Rattle.ato_ast.specs.declared.blocks.BlockKind.{BlockKind}
use Rattle.ato_ast.specs.declared.blocks.BlockKind.TheVariants as block
use Rattle.ato_base.specs.declared.faults.FaultKind.TheVariants as kinds
use Rattle.ato_files.specs.declared.program.SourceFile.{SourceFile}
use Rattle.ato_files.specs.Lists.{numbered}
use Rattle.ato_files.specs.Blocks.{BlockAt, blocks_of, block_of}
use Rattle.ato_files.specs.Lineages.{lineage}
use Rattle.ato_files.specs.Members.{pins as labels_of, stmts_of}
use Rattle.ato_files.specs.Faults.{fault}
use Rattle.ato_files.specs.NameFaults as names
use Rattle.ato_files.specs.NameFaults.{file_faults, block_faults, name_faults, name_fault}
use Rattle.ato_files.proofs.FaultLaws.{none_is_empty}
use Rattle.ato_instance_tree.specs.Types.{Located, line_stmts, block_stmts, located, type_stmts, stmts_of_type, block_kinds, is_component}
use Rattle.ato_instance_tree.specs.Members.{pin, named, label_text, members}
use Rattle.ato_instance_tree.specs.Walk.{type_at}
use Rattle.ato_instance_tree.specs.Order.{Spot, leaf, made_at, nodes, instance_of, instances}
use Rattle.ato_instance_tree.specs.PathFaults.{is_component_at}
use Rattle.ato_instance_tree.specs.Paths.{is_pin_of}
use Rattle.ato_instance_tree.proofs.DepthLaws.{nil_left, nil_right}
use Rattle.ato_instance_tree.proofs.SpotLaws.{IsIn, in_flat_map}
use Rattle.ato_instance_tree.proofs.NodeLaws.{into_flat_map, leaf_stands}
use Rattle.ato_instance_tree.proofs.KnownLaws.{in_map, in_option}
use Rattle.ato_instance_tree.proofs.LoadedLaws.{names_are_sound}
use Rattle.ato_instance_tree.proofs.MemberLaws.{agree}
use Rattle.ato_instance_tree.proofs.PlaceLaws.{place_in}
use Rattle.ato_links.specs.Parts.{has_kind, is_pin, is_part, parts}
use Rattle.ato_links.specs.Nets.{Pin, pins_of, pins, PinsStandInParts, NoPinTwice}

-- ---- items of lists

pub into_in : {X : Type 0} (x : X) (xs : List X) → Contains xs x → IsIn x xs
into_in x [] m = absurd (nowhere x m)
into_in x (y ∷ ys) m = elim (cases y x ys m) [ inl e ↦ inl e | inr k ↦ inr (into_in x ys k) ]

in_filter : {X : Type 0} (test : X → Bool) (x : X) (xs : List X) → IsIn x xs → test x ≡ true → IsIn x (filter test xs)
in_filter test x [] m e = absurd m
in_filter test x (y ∷ ys) (inl s) e = subst (λ b. IsIn x (cond b (y ∷ filter test ys) (filter test ys))) (sym (ap test (sym s) ∙ e)) (inl s)
in_filter test x (y ∷ ys) (inr m) e = kept (test y) (in_filter test x ys m e) where
  kept : (b : Bool) → IsIn x (filter test ys) → IsIn x (cond b (y ∷ filter test ys) (filter test ys))
  kept true k = inr k
  kept false k = k

pub in_instances : (path : List ℕ) (ss : List Spot) → IsIn (made_at path) ss → IsIn path (filter_map instance_of ss)
in_instances path [] m = absurd m
in_instances path (leaf up o ∷ ss) (inl e) = absurd (cc)
in_instances path (leaf up o ∷ ss) (inr m) = in_instances path ss m
in_instances path (made_at up ∷ ss) (inl e) = inl (cc)
in_instances path (made_at up ∷ ss) (inr m) = inr (in_instances path ss m)

any_from : {X : Type 0} (test : X → Bool) (x : X) (xs : List X) → IsIn x xs → test x ≡ true → list_any test xs ≡ true
any_from test x [] m e = absurd m
any_from test x (y ∷ ys) (inl s) e = or_left (test y) (list_any test ys) (ap test (sym s) ∙ e)
any_from test x (y ∷ ys) (inr m) e = or_right (test y) (list_any test ys) (any_from test x ys m e)

pub any_had : {X : Type 0} (test : X → Bool) (xs : List X) → list_any test xs ≡ true → (x : X) × IsIn x xs × (test x ≡ true)
any_had test [] e = absurd (true≢false (sym e))
any_had test (y ∷ ys) e = by (test y) refl e (any_had test ys) where
  by : (b : Bool) → test y ≡ b → (b || list_any test ys) ≡ true → (list_any test ys ≡ true → (x : _) × IsIn x ys × (test x ≡ true))
      → (x : _) × IsIn x (y ∷ ys) × (test x ≡ true)
  by true f k more = (y, inl refl, f)
  by false f k more = let it = more k in (it.0, inr it.1, it.2)

-- the first of some paths that is this one
pub path_found : (path : List ℕ) (paths : List (List ℕ)) → IsIn path paths → slice_get paths (position_or_len (bytes_eq path) paths) ≡ Some path
path_found path paths m =
    let i = place_in path paths m in
    let l = slice_get_within paths i.0 path i.1 in
    let test = bytes_eq path in
    elim (cases_lt (position_or_len test paths) (length paths)) [
      | inl h ↦ slice_get-get_or paths (position_or_len test paths) path h
          ∙ ap Some (sym ((bytes_eq-Decides path (get_or paths (position_or_len test paths) path)).0 (passes_at_first test paths path h)))
      | inr h ↦ absurd (true≢false (sym ((bytes_eq-Decides path (get_or paths i.0 path)).1 (sym (get_or_from_slice_get paths i.0 path path i.1)))
          ∙ fails_before_first test paths i.0 path (omega (arith, l, h))))
    ]

-- ---- blocks without a fault

pub nil_at : {X Y : Type 0} (f : X → List Y) (x : X) (xs : List X) → flat_map f xs ≡ [] → IsIn x xs → f x ≡ []
nil_at f x [] e h = absurd h
nil_at f x (y ∷ ys) e (inl k) = ap f k ∙ nil_left (f y) (flat_map f ys) e
nil_at f x (y ∷ ys) e (inr h) = nil_at f x ys (nil_right (f y) (flat_map f ys) e) h

numbered_at : {X : Type 0} (n i : ℕ) (x : X) (xs : List X) → slice_get xs i ≡ Some x → IsIn (n + i, x) (numbered n xs)
numbered_at n i x [] e = absurd (none-some x e)
numbered_at n zero x (y ∷ xs) e = inl (ap (λ k. (k, x)) (omega arith) ∙ ap (λ z. (n, z)) (sym (same_Some y x e)))
numbered_at n (suc i) x (y ∷ xs) e = inr (subst (λ k. IsIn (k, x) (numbered (suc n) xs)) (omega arith) (numbered_at (suc n) i x xs e))

pub numbered_there : {X : Type 0} (i : ℕ) (x : X) (xs : List X) → slice_get xs i ≡ Some x → IsIn (i, x) (numbered 0 xs)
numbered_there i x xs e = subst (λ k. IsIn (k, x) (numbered 0 xs)) (omega arith) (numbered_at 0 i x xs e)

pub numbered_item : {X : Type 0} (n : ℕ) (p : ℕ × X) (xs : List X) → IsIn p (numbered n xs) → IsIn p.1 xs
numbered_item n p [] h = absurd h
numbered_item n p (x ∷ xs) (inl e) = inl (ap (λ q. q.1) e)
numbered_item n p (x ∷ xs) (inr h) = inr (numbered_item (suc n) p xs h)

none_unless : {X Y : Type 0} (b : Bool) (f : X → Y) (x : X) (xs : List X) → IsIn x xs → (if b then [] else map f xs) ≡ [] → b ≡ true
none_unless true f x xs m e = refl
none_unless false f x [] m e = absurd m
none_unless false f x (y ∷ ys) m e = absurd (cc)

same_kind : (kind : BlockKind) → names.is_component kind ≡ is_component kind
same_kind block.Module = refl
same_kind block.Component = refl
same_kind block.Interface = refl

module _ (files : List SourceFile) (sound : name_fault files ≡ None) where
  block_sound : (number : ℕ) (b : BlockAt) → block_of files number ≡ Some b → block_faults files number b ≡ []
  block_sound number b e = nil_at (λ (x : ℕ × BlockAt). block_faults files x.0 x.1) (number, b) (numbered 0 (blocks_of files))
      (nil_right (flat_map (file_faults files) files) _ (none_is_empty (name_faults files) sound))
      (numbered_there number b (blocks_of files) e)

  -- a block that declares a pin is a component
  declares_in_component : (number : ℕ) (b : BlockAt) (l : Label) → block_of files number ≡ Some b → IsIn l (flat_map labels_of (stmts_of b.block))
      → is_component b.block.kind ≡ true
  declares_in_component number b l e m = sym (same_kind b.block.kind)
      ∙ none_unless (names.is_component b.block.kind) (λ l. fault kinds.WrongKind (label_at l)) l (flat_map labels_of (stmts_of b.block)) m
      (nil_right _ _ (nil_left _ _ (block_sound number b e)))

-- ---- statements of a type

-- The statement stands in a block of this number.
pub record StandsIn (files : List SourceFile) (number : ℕ) (l : Located) : Type 0 where
  pub at : BlockAt
  pub block : block_of files number ≡ Some at
  pub is : IsIn l.stmt (stmts_of at.block)

located_in : (files : List SourceFile) (number : ℕ) (l : Located) → IsIn l (located files number) → StandsIn files number l
located_in files number l h =
    let b = in_flat_map (block_stmts number) l (option_to_list (block_of files number)) h in
    let line = in_flat_map (line_stmts number) l (numbered 0 (map (λ l. l.parts) b.0.block.lines)) b.2 in
    let part = in_map (λ (p : ℕ × _). record { block = number; line = line.0.0; part = p.0; stmt = p.1 }) l (numbered 0 line.0.1) line.2 in
    let written = in_map (λ l. l.parts) line.0.1 b.0.block.lines (numbered_item 0 line.0 (map (λ l. l.parts) b.0.block.lines) line.1) in
    record {
      at = b.0;
      block = in_option b.0 (block_of files number) b.1;
      is = into_flat_map (λ l. l.parts) l.stmt written.0 b.0.block.lines written.1
          (subst (IsIn l.stmt) written.2 (subst (λ s. IsIn s line.0.1) (sym (ap (λ (x : Located). x.stmt) part.2)) (numbered_item 0 part.0 line.0.1 part.1)));
    }

kind_there : (files : List SourceFile) (number : ℕ) (at : BlockAt) → block_of files number ≡ Some at
    → IsIn at.block.kind (map (λ (x : BlockAt). x.block.kind) (option_to_list (block_of files number)))
kind_there files number at e = subst (λ o. IsIn at.block.kind (map (λ (x : BlockAt). x.block.kind) (option_to_list o))) (sym e) (inl refl)

module _ (files : List SourceFile) (sound : name_fault files ≡ None) where
  -- a type that declares a pin has a component in its lineage
  type_declares : (type : Option ℕ) (l : Label) → IsIn l (flat_map labels_of (stmts_of_type files type))
      → list_any is_component (flat_map (block_kinds files) (option_to_list type)) ≡ true
  type_declares type l m =
      let s = in_flat_map labels_of l (stmts_of_type files type) m in
      let of = in_map (λ (x : Located). x.stmt) s.0 (flat_map (type_stmts files) (option_to_list type)) s.1 in
      let t = in_flat_map (type_stmts files) of.0 (option_to_list type) of.1 in
      let b = in_flat_map (located files) of.0 (lineage files t.0) t.2 in
      let stands = located_in files b.0 of.0 b.2 in
      let kind = stands.at.block.kind in
      let declared = into_flat_map labels_of l of.0.stmt (stmts_of stands.at.block) stands.is (subst (λ x. IsIn l (labels_of x)) of.2 s.2) in
      any_from is_component kind (flat_map (block_kinds files) (option_to_list type))
      (into_flat_map (block_kinds files) kind t.0 (option_to_list type) t.1
      (into_flat_map (λ b. map (λ x. x.block.kind) (option_to_list (block_of files b))) kind b.0 (lineage files t.0) b.1
      (kind_there files b.0 stands.at stands.block)))
      (declares_in_component files sound b.0 stands.at l stands.block declared)

  pin_in_component : (type : Option ℕ) (text : List ℕ) → IsIn (pin text) (members files type)
      → list_any is_component (flat_map (block_kinds files) (option_to_list type)) ≡ true
  pin_in_component type text m =
      let has = any_from (is_pin_of text) (pin text) (members files type) m ((bytes_eq-Decides text text).1 refl) in
      let l = any_had (λ l. bytes_eq text (label_text files l)) (flat_map labels_of (stmts_of_type files type)) (sym ((agree files type).labels text) ∙ has) in
      type_declares type l.0 l.1

-- ---- pins

pin_of_spot : (p : Pin) (s : Spot) → IsIn p (pins_of s) → s ≡ leaf p.path (pin p.label)
pin_of_spot p (leaf path (pin text)) (inl e) = ap (λ (x : Pin). leaf x.path (pin x.label)) (sym e)
pin_of_spot p (leaf path (pin text)) (inr h) = absurd h
pin_of_spot p (leaf path (named n k)) h = absurd h
pin_of_spot p (made_at path) h = absurd h

pub stands_in_part : PinsStandInParts
stands_in_part program entry p loaded m =
    let files = program.files in
    let s = in_flat_map pins_of p (nodes files entry) (into_in p (pins files entry) m) in
    let is = leaf_stands files entry (suc (length (blocks_of files))) [] p.path (pin p.label)
    (subst (λ (x : Spot). IsIn x (nodes files entry)) (pin_of_spot p s.0 s.2) s.1) in
    let component : is_component_at files entry p.path ≡ true =
    pin_in_component files (names_are_sound program loaded) (type_at files entry p.path) p.label is.is in
    let pinned = or_left (list_any is_pin (members files (type_at files entry p.path))) (has_kind files entry program.names p.path)
    (any_from is_pin (pin p.label) (members files (type_at files entry p.path)) is.is refl) in
    path_found p.path (parts files entry program.names)
    (in_filter (is_part files entry program.names) p.path (instances files entry) (in_instances p.path (nodes files entry) is.at)
    (and_from (is_component_at files entry p.path) _ component pinned))

abbrev pin_at : List ℕ → List ℕ → Pin
pin_at label path = record { path = path; label = label }

same_pin : (p q : Pin) → p.path ≡ q.path → p.label ≡ q.label → p ≡ q
same_pin p q e f = ap (pin_at p.label) e ∙ ap (λ l. pin_at l q.path) f

pub no_pin_twice : NoPinTwice
no_pin_twice program entry loaded p q m n e =
    let same : Some p.path ≡ Some q.path = sym (stands_in_part program entry p loaded m)
    ∙ (ap (λ (x : _). slice_get (parts program.files entry program.names) x.comp) e ∙ stands_in_part program entry q loaded n) in
    let path = same_Some p.path q.path same in
    same_pin p q path (ap (λ x. x.label) e)
