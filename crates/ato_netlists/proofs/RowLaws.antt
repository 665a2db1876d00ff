-- The rows that are made one after another are those of the project.
use Rattle.std.proofs.Common.{◌≡◌, ◌<◌, ◌≤◌, ℕ, zero, suc, ◌+◌, Bool, true, false, cond, List, [], ◌∷◌, ◌++◌, length, get_or, drop, Option, None, refl, sym, ap, ◌∙◌, subst, append_assoc, append-nil, arith}
use Rattle.std.specs.Prelude.{slice_get, map, count_by, decimal, unwrap_or, codes}
use Rattle.std.specs.List.{AllZip}
use Rattle.std.specs.Option.{option_and_then}
use Rattle.std.specs.Str.{bytes_eq}
use Rattle.std.proofs.lemmas.List.{drop_all}
use Rattle.std.proofs.lemmas.List.Sums.{sum_by-cons}
use Rattle.std.proofs.lemmas.Slice.Zip.{AllZip-long}
use Rattle.ato_base.specs.declared.nets.PartRow.{PartRow}
use Rattle.ato_files.specs.declared.program.Program.{Program}
use Rattle.ato_instance_tree.specs.declared.tree.Node.{Node}
use Rattle.ato_instance_tree.specs.declared.tree.Tree.{Tree}
use Rattle.ato_instance_tree.specs.Elaborated.{IsElaborated, IsLoaded}
use Rattle.ato_instance_tree.specs.Order.{made_at}
use Rattle.ato_instance_tree.specs.TreeFaults.{Limits}
use Rattle.ato_instance_tree.specs.Walk.{type_at}
use Rattle.ato_links.specs.Parts.{text_or_none, has_kind, parts, prefix_of, designators_after, path_text, type_name, unless_slot, part_row, rows_of, part_rows}
use Rattle.ato_netlists.specs.declared.designators.Designators.{Designators}
use Rattle.ato_netlists.specs.declared.parts.Part.{Part}
use Rattle.ato_netlists.specs.declared.strings.Strings.{Strings}
use Rattle.ato_netlists.specs.Counted.{counted, CountsOneMore, HasCounted}
use Rattle.ato_netlists.specs.Known.{IsAt, IsSound}
use Rattle.ato_netlists.specs.Parts.{AreParts, AreStrings, IsPart, held}
use Rattle.ato_netlists.proofs.PlaceLemmas.{said}

-- ---- what is known

pub sound_of : (program : Program) (tree : Tree) → IsLoaded program → tree.first ≡ None → (most : Limits) (name : List ℕ) (is : IsElaborated most program name tree) → IsSound program tree is.entry
sound_of program tree loaded sound most name is = record { loaded = loaded; most = most; name = name; is = is; entry_is = refl; sound = sound }

-- ---- one row

-- the type of the node of an instance
pub type_law : {program : Program} {tree : Tree} {entry : ℕ} → IsSound program tree entry → (number : ℕ) (path : List ℕ) → IsAt program entry number path
    → option_and_then (λ (n : Node). n.block) (slice_get tree.nodes number) ≡ type_at program.files entry path
type_law {program} {tree} {entry} s number path at = let t = said s number (made_at path) at.is in
    ap (option_and_then (λ (n : Node). n.block)) t.at ∙ sym t.block

row_with : List ℕ → List ℕ → List ℕ → List ℕ → List ℕ → List ℕ → List ℕ → PartRow
row_with designator path name kind text pack pads = record { designator = designator; path = path; kind_name = name; kind = kind; part = text; «package» = pack; footprint = pads; price = [] }

module _ (program : Program) (tree : Tree) (entry : ℕ) (s : IsSound program tree entry) (ns : List Node) (same : ns ≡ tree.nodes) (strings : Strings) (known : AreStrings program entry strings)
    (path : List ℕ) (p : Part) (is : IsPart program entry path p) where
  text_law : (word : List ℕ) → unwrap_or (held strings p.node word) [] ≡ text_or_none program.files entry program.names word path
  text_law word = ap (λ (o : Option (List ℕ)). unwrap_or o []) (known.each p.node path word is.at)

  slot_text : (word : List ℕ) → unless_slot p.slot (unwrap_or (held strings p.node word) []) ≡ unless_slot (has_kind program.files entry program.names path) (text_or_none program.files entry program.names word path)
  slot_text word = ap (λ (b : Bool). unless_slot b (unwrap_or (held strings p.node word) [])) is.slot ∙ ap (unless_slot (has_kind program.files entry program.names path)) (text_law word)

  pub row_law : (designator path_is name kind text pack pads price : List ℕ) → path_is ≡ path_text program.names path
      → name ≡ type_name program.files program.names (option_and_then (λ (n : Node). n.block) (slice_get ns p.node))
      → kind ≡ unwrap_or (held strings p.node (codes "kind")) [] → text ≡ unless_slot p.slot (unwrap_or (held strings p.node (codes "part")) [])
      → pack ≡ unless_slot p.slot (unwrap_or (held strings p.node (codes "package")) []) → pads ≡ unless_slot p.slot (unwrap_or (held strings p.node (codes "footprint")) []) → price ≡ []
      → record { designator = designator; path = path_is; kind_name = name; kind = kind; part = text; «package» = pack; footprint = pads; price = price }
      ≡ part_row program.files entry program.names path designator
  unfolding row_with
  row_law designator path_is name kind text pack pads price a b c d e f g =
      ap (λ (x : List ℕ). let r : PartRow = record { designator = designator; path = path_is; kind_name = name; kind = kind; part = text; «package» = pack; footprint = pads; price = x } in r) g
      ∙ ap (λ (x : List ℕ). row_with designator x name kind text pack pads) a
      ∙ ap (λ (x : List ℕ). row_with designator (path_text program.names path) x kind text pack pads) (b ∙ ap (λ (l : List Node). type_name program.files program.names (option_and_then (λ (n : Node). n.block) (slice_get l p.node))) same
      ∙ ap (type_name program.files program.names) (type_law s p.node path is.at))
      ∙ ap (λ (x : List ℕ). row_with designator (path_text program.names path) (type_name program.files program.names (type_at program.files entry path)) x text pack pads) (c ∙ text_law (codes "kind"))
      ∙ ap (λ (x : List ℕ). row_with designator (path_text program.names path) (type_name program.files program.names (type_at program.files entry path)) (text_or_none program.files entry program.names (codes "kind") path) x pack pads)
      (d ∙ slot_text (codes "part"))
      ∙ ap (λ (x : List ℕ). row_with designator (path_text program.names path) (type_name program.files program.names (type_at program.files entry path)) (text_or_none program.files entry program.names (codes "kind") path)
      (unless_slot (has_kind program.files entry program.names path) (text_or_none program.files entry program.names (codes "part") path)) x pads) (e ∙ slot_text (codes "package"))
      ∙ ap (λ (x : List ℕ). row_with designator (path_text program.names path) (type_name program.files program.names (type_at program.files entry path)) (text_or_none program.files entry program.names (codes "kind") path)
      (unless_slot (has_kind program.files entry program.names path) (text_or_none program.files entry program.names (codes "part") path))
      (unless_slot (has_kind program.files entry program.names path) (text_or_none program.files entry program.names (codes "package") path)) x) (f ∙ slot_text (codes "footprint"))

-- ---- rows one after another

-- The rows so far, and those of the parts from a number on, are all rows.
pub record IsSoFar (program : Program) (entry number : ℕ) (rows : List PartRow) (d : Designators) : Type 0 where
  pub before : List (List ℕ)
  pub counts : HasCounted before d
  pub is : rows ++ rows_of program.files entry program.names (drop number (parts program.files entry program.names))
      (designators_after before (map (prefix_of program.files entry program.names) (drop number (parts program.files entry program.names))))
      ≡ part_rows program.files entry program.names

pub none_so_far : (program : Program) (entry : ℕ) (rows : List PartRow) (d : Designators) → rows ≡ [] → HasCounted [] d → IsSoFar program entry 0 rows d
none_so_far program entry rows d none counts = record {
  before = [];
  counts = counts;
  is = ap (λ (rs : List PartRow). rs ++ part_rows program.files entry program.names) none;
}

-- the item that stands beside another
record IsBeside {A B : Type 0} (R : A → B → Type 0) (xs : List A) (number : ℕ) (y : B) : Type 0 where
  item : A
  is : drop number xs ≡ item ∷ drop (number + 1) xs
  beside : R item y

beside_at : {A B : Type 0} (R : A → B → Type 0) (xs : List A) (ys : List B) (number : ℕ) (d y : B) → AllZip R xs ys → number < length ys → y ≡ get_or ys number d → IsBeside R xs number y
beside_at R [] [] number d y all h e = absurd (omega arith)
beside_at R [] (z ∷ ys) number d y all h e = absurd all
beside_at R (x ∷ xs) [] number d y all h e = absurd all
beside_at R (x ∷ xs) (z ∷ ys) zero d y all h e = record { item = x; is = refl; beside = subst (R x) (sym e) all.0 }
beside_at {A = A} R (x ∷ xs) (z ∷ ys) (suc number) d y all h e =
    let r = beside_at R xs ys number d y all.1 (omega arith) e in
    let same : suc (number + 1) ≡ suc number + 1 = omega arith in
    let more : drop (number + 1) xs ≡ drop (suc number + 1) (x ∷ xs) = ap (λ (k : ℕ). drop k (x ∷ xs)) same in
    record { item = r.item; is = r.is ∙ ap (λ (l : List A). r.item ∷ l) more; beside = r.beside }

count_more : (q p : List ℕ) (before : List (List ℕ)) → count_by (bytes_eq q) (p ∷ before) ≡ cond (bytes_eq q p) (count_by (bytes_eq q) before + 1) (count_by (bytes_eq q) before)
count_more q p before = sum_by-cons (λ (x : List ℕ). cond (bytes_eq q x) 1 0) p before ∙ by (bytes_eq q p)
  where
    by : (b : Bool) → cond b 1 0 + count_by (bytes_eq q) before ≡ cond b (count_by (bytes_eq q) before + 1) (count_by (bytes_eq q) before)
    by true = omega arith
    by false = omega arith

-- one part more is counted
counted_too : (before : List (List ℕ)) (prefix : List ℕ) (d e : Designators) → HasCounted before d
    → CountsOneMore prefix d e → HasCounted (prefix ∷ before) e
counted_too before prefix d e was more = record {
  each = λ q. more.each q ∙ ap (λ (n : ℕ). cond (bytes_eq q prefix) (n + 1) n) (was.each q) ∙ sym (count_more q prefix before);
}

pub one_more : (program : Program) (entry number : ℕ) (rows : List PartRow) (d e : Designators) (ps : List Part) (dflt p : Part) (strings : Strings) (prefix designator : List ℕ) (row : PartRow) (after : List PartRow)
    → AreStrings program entry strings → AreParts program entry ps → number < length ps → p ≡ get_or ps number dflt
    → prefix ≡ unwrap_or (held strings p.node (codes "designator_prefix")) (codes "U") → designator ≡ prefix ++ decimal (counted d prefix + 1)
    → CountsOneMore prefix d e
    → ((path : List ℕ) → IsPart program entry path p → row ≡ part_row program.files entry program.names path designator)
    → after ≡ rows ++ row ∷ [] → IsSoFar program entry number rows d → IsSoFar program entry (number + 1) after e
one_more program entry number rows d e ps dflt p strings prefix designator row after known all within at is_prefix is_designator more is_row is_after was =
    let files = program.files in
    let names = program.names in
    let paths = parts files entry names in
    let here = beside_at (IsPart program entry) paths ps number dflt p all within at in
    let rest = drop (number + 1) paths in
    let same : prefix ≡ prefix_of files entry names here.item = is_prefix ∙ ap (λ (o : Option (List ℕ)). unwrap_or o (codes "U")) (known.each p.node here.item (codes "designator_prefix") here.beside.at) in
    let text : designator ≡ prefix ++ decimal (count_by (bytes_eq prefix) was.before + 1) = is_designator ∙ ap (λ (n : ℕ). prefix ++ decimal (n + 1)) (was.counts.each prefix) in
    record {
      before = prefix ∷ was.before;
      counts = counted_too was.before prefix d e was.counts more;
      is = ap (λ (rs : List PartRow). rs ++ rows_of files entry names rest (designators_after (prefix ∷ was.before) (map (prefix_of files entry names) rest))) is_after
          ∙ append_assoc rows (row ∷ []) (rows_of files entry names rest (designators_after (prefix ∷ was.before) (map (prefix_of files entry names) rest)))
          ∙ ap (λ (r : PartRow). rows ++ r ∷ rows_of files entry names rest (designators_after (prefix ∷ was.before) (map (prefix_of files entry names) rest))) (is_row here.item here.beside)
          ∙ ap (λ (t : List ℕ). rows ++ part_row files entry names here.item t ∷ rows_of files entry names rest (designators_after (prefix ∷ was.before) (map (prefix_of files entry names) rest))) text
          ∙ ap (λ (t : List ℕ). rows ++ rows_of files entry names (here.item ∷ rest) (designators_after was.before (t ∷ map (prefix_of files entry names) rest))) same
          ∙ ap (λ (l : List (List ℕ)). rows ++ rows_of files entry names l (designators_after was.before (map (prefix_of files entry names) l))) (sym here.is)
          ∙ was.is;
    }

pub all_rows : (program : Program) (entry number : ℕ) (rows : List PartRow) (d : Designators) (ps : List Part) → AreParts program entry ps → length ps ≤ number → IsSoFar program entry number rows d
    → rows ≡ part_rows program.files entry program.names
all_rows program entry number rows d ps all long so_far =
    let paths = parts program.files entry program.names in
    let same = AllZip-long (IsPart program entry) paths ps all in
    let none : drop number paths ≡ [] = drop_all number paths (omega arith) in
    sym (append-nil rows)
    ∙ ap (λ (l : List (List ℕ)). rows ++ rows_of program.files entry program.names l (designators_after so_far.before (map (prefix_of program.files entry program.names) l))) (sym none)
    ∙ so_far.is
