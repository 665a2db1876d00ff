-- What one more occurrence gives.
use Rattle.std.proofs.Common.{◌≡◌, ℕ, zero, suc, true, false, true≢false, List, [], ◌∷◌, ◌++◌, take, Option, Some, None, refl, ap, sym, ◌∙◌, subst, inl, inr}
use Rattle.std.specs.Prelude.{◌↔◌, ◌⊎◌, option_to_list, slice_get}
use Rattle.std.specs.List.{flat_map, list_any}
use Rattle.std.specs.Option.{option_and_then}
use Rattle.std.proofs.lemmas.Bool.{false_from_ne_true}
use Rattle.std.proofs.lemmas.List.{append-nil}
use Rattle.std.proofs.lemmas.Option.{none-some}
use Rattle.ato_ast.specs.declared.paths.Path.{Path}
use Rattle.ato_ast.specs.declared.paths.Point.{Point}
use Rattle.ato_ast.specs.declared.stmts.End.{End}
use Rattle.ato_ast.specs.declared.stmts.Stmt.{Stmt}
use Rattle.ato_ast.specs.declared.stmts.Stmt.TheVariants as stmts
use Rattle.ato_base.specs.declared.places.Span.{Span}
use Rattle.ato_files.specs.Lists.{Among, here, there}
use Rattle.ato_files.proofs.FileLaws.{among_left, among_right}
use Rattle.ato_files.specs.declared.program.SourceFile.{SourceFile}
use Rattle.ato_instance_tree.specs.declared.tree.Node.{Node}
use Rattle.ato_instance_tree.specs.declared.tree.Occurrence.{Occurrence}
use Rattle.ato_instance_tree.specs.Targets.{stmt_at}
use Rattle.ato_links.specs.LinkFaults.{left_end}
use Rattle.ato_links.specs.Links.{Electrical, electrical_of}
use Rattle.ato_connections.specs.declared.joining.Clash.{Clash}
use Rattle.ato_connections.specs.declared.links.Links.{Links}
use Rattle.ato_connections.specs.declared.sides.Side.{Side}
use Rattle.ato_connections.specs.Linking.{Has}
use Rattle.ato_connections.specs.NodeLinks.{NodeLink, join, clash, is_clash, end_links, end_side, path_side, point_links, point_side, stmt_links}
use Rattle.ato_connections.specs.Outcome.{AreLinked, IsClash, entry_links, entries_links}
use Rattle.ato_connections.proofs.LinkingLaws.{among_either, flat_map_next, no_more}

-- ---- clashes

clash_found : (ls : List NodeLink) → Among clash ls → list_any is_clash ls ≡ true
clash_found [] a = elim a [ ]
clash_found (clash ∷ ls) a = refl
clash_found (join p q ∷ ls) (there a) = clash_found ls a

no_clash_found : (ls : List NodeLink) → (Among clash ls → ⊥) → list_any is_clash ls ≡ false
no_clash_found [] n = refl
no_clash_found (clash ∷ ls) n = absurd (n here)
no_clash_found (join p q ∷ ls) n = no_clash_found ls (λ a. n (there a))

-- What is joined so far has no clash.
not_yet : {files : List SourceFile} {names : List (List ℕ)} {ns : List Node} {os : List Occurrence} (l : Links)
    → AreLinked files names ns os l → l.clash ≡ false
not_yet {files} {names} {ns} {os} l is = false_from_ne_true l.clash
    (λ h. true≢false (sym (clash_found (entries_links files names ns os) ((is.each clash).0 h)) ∙ is.sound))

nowhere_among : {X : Type 0} {x : X} → Among x [] → ⊥
nowhere_among a = elim a [ ]

some_end : {at : Span} → at ∷ [] ≡ [] → ⊥
some_end e = cc

-- A statement without a left end joins nothing.
nothing_joined : (files : List SourceFile) (names : List (List ℕ)) (ns : List Node) (library : Electrical) (instance : ℕ) (s : Stmt) → left_end s ≡ []
    → stmt_links files names ns library instance s ≡ []
nothing_joined files names ns library instance (stmts.Pass at) e = refl
nothing_joined files names ns library instance (stmts.Docs text) e = refl
nothing_joined files names ns library instance (stmts.Point p end at) e = absurd (some_end e)
nothing_joined files names ns library instance (stmts.Connect p end at) e = absurd (some_end e)
nothing_joined files names ns library instance (stmts.Replace p n at) e = refl
nothing_joined files names ns library instance (stmts.Assign p v at) e = refl
nothing_joined files names ns library instance (stmts.Make m n at) e = refl
nothing_joined files names ns library instance (stmts.Declare m n v at) e = refl
nothing_joined files names ns library instance (stmts.Assert x c at) e = refl

take_past : {X : Type 0} (xs : List X) (n : ℕ) → slice_get xs n ≡ None → take (suc n) xs ≡ take n xs
take_past [] zero e = refl
take_past [] (suc n) e = refl
take_past (x ∷ xs) zero e = absurd (none-some x (sym e))
take_past (x ∷ xs) (suc n) e = ap (λ z. x ∷ z) (take_past xs n e)

-- ---- statements

-- What a statement joins is what its ends join.
module _ (files : List SourceFile) (names : List (List ℕ)) (ns : List Node) (library : Electrical) (instance : ℕ) (x y : Side) (link : NodeLink) where
  ends_same : (a b : Side) → x ≡ a → y ≡ b → end_links files names ns library x y ≡ end_links files names ns library a b
  ends_same a b e f = ap (λ z. end_links files names ns library z y) e ∙ ap (end_links files names ns library a) f

  as_ends : {G H : Type 0} (s : Stmt) → stmt_links files names ns library instance s ≡ end_links files names ns library x y
      → H ↔ (G ⊎ Among link (end_links files names ns library x y)) → H ↔ (G ⊎ Among link (stmt_links files names ns library instance s))
  as_ends {G} {H} s e h = subst (λ ls. H ↔ (G ⊎ Among link ls)) (sym e) h

  pub connect_joins : {G H : Type 0} (s : Stmt) (at : Span) (p : Path) (e : End)
      → s ≡ stmts.Connect p e at → x ≡ path_side files names ns instance p → y ≡ end_side files names ns instance e
      → H ↔ (G ⊎ Among link (end_links files names ns library x y)) → H ↔ (G ⊎ Among link (stmt_links files names ns library instance s))
  connect_joins s at p e is f g h = as_ends s
      (ap (stmt_links files names ns library instance) is ∙ sym (ends_same (path_side files names ns instance p) (end_side files names ns instance e) f g)) h

  -- The point is joined with the end behind it.
  pub point_joins : {G H : Type 0} (p : Point) (o : Option End) (e : End)
      → o ≡ Some e → x ≡ point_side files names ns instance p → y ≡ end_side files names ns instance e
      → H ↔ (G ⊎ Among link (end_links files names ns library x y)) → H ↔ (G ⊎ Among link (point_links files names ns library instance p o))
  point_joins {G} {H} p o e same f g h = subst (λ ls. H ↔ (G ⊎ Among link ls))
      (sym (ap (point_links files names ns library instance p) same
      ∙ append-nil (end_links files names ns library (point_side files names ns instance p) (end_side files names ns instance e))
      ∙ sym (ends_same (point_side files names ns instance p) (end_side files names ns instance e) f g)))
      h

pub declared_joins : {G H : Type 0} (files : List SourceFile) (names : List (List ℕ)) (ns : List Node) (library : Electrical) (instance : ℕ)
    (s : Stmt) (link : NodeLink)
    (at : Span) (p : Point) (o : Option End) → s ≡ stmts.Point p o at → H ↔ (G ⊎ Among link (point_links files names ns library instance p o))
    → H ↔ (G ⊎ Among link (stmt_links files names ns library instance s))
declared_joins {G} {H} files names ns library instance s link at p o is h = subst (λ ls. H ↔ (G ⊎ Among link ls))
    (sym (ap (stmt_links files names ns library instance) is)) h

-- The statement of an occurrence is found by its number.
pub the_statement : (files : List SourceFile) (os : List Occurrence) (n m : ℕ) (entry : Occurrence) (x : Option Stmt) → slice_get os n ≡ Some entry → m ≡ n
    → x ≡ option_and_then (λ o. stmt_at files o.block o.line o.part) (slice_get os m) → stmt_at files entry.block entry.line entry.part ≡ x
the_statement files os n m entry x is same e = sym (e ∙ ap (λ k. option_and_then (λ o. stmt_at files o.block o.line o.part) (slice_get os k)) same
    ∙ ap (option_and_then (λ o. stmt_at files o.block o.line o.part)) is)

abbrev pub Adds : List SourceFile → List (List ℕ) → List Node → ℕ → Stmt → Links → Links → Type 0
Adds files names ns instance s l m = (link : NodeLink) → Has m link
    ↔ (Has l link ⊎ Among link (stmt_links files names ns (electrical_of files names) instance s))

-- ---- one occurrence more

module _ (files : List SourceFile) (names : List (List ℕ)) (ns : List Node) (os : List Occurrence) (number : ℕ) where
  -- Where there is no such occurrence, nothing is added.
  pub past_the_end : (l : Links) → slice_get os number ≡ None → AreLinked files names ns (take number os) l → AreLinked files names ns (take (suc number) os) l
  past_the_end l e is = subst (λ xs. AreLinked files names ns xs l) (sym (take_past os number e)) is

  module _ (entry : Occurrence) (is_entry : slice_get os number ≡ Some entry) where
    joined_with : (l m : Links) (ls : List NodeLink) → ((link : NodeLink) → Has m link ↔ (Has l link ⊎ Among link ls))
        → AreLinked files names ns (take number os) l
        → (link : NodeLink) → Has m link ↔ Among link (entries_links files names ns (take number os) ++ ls)
    joined_with l m ls adds is link = (
      λ h. elim ((adds link).0 h) [
        | inl k ↦ among_left ls ((is.each link).0 k)
        | inr a ↦ among_right (entries_links files names ns (take number os)) a
      ],
      λ a. (adds link).1 (elim (among_either (entries_links files names ns (take number os)) a) [ inl b ↦ inl ((is.each link).1 b) | inr b ↦ inr b ]),
    )

    joined_now : (l m : Links) → ((link : NodeLink) → Has m link ↔ (Has l link ⊎ Among link (entry_links files names ns entry)))
        → AreLinked files names ns (take number os) l → (link : NodeLink) → Has m link ↔ Among link (entries_links files names ns (take (suc number) os))
    joined_now l m adds is link = subst (λ xs. Has m link ↔ Among link xs) (sym (flat_map_next (entry_links files names ns) os number entry is_entry))
        (joined_with l m (entry_links files names ns entry) adds is link)

    -- The occurrence adds its links, and none of them is a clash.
    goes_on : (l m : Links) → ((link : NodeLink) → Has m link ↔ (Has l link ⊎ Among link (entry_links files names ns entry))) → m.clash ≡ false
        → AreLinked files names ns (take number os) l → AreLinked files names ns (take (suc number) os) m
    goes_on l m adds none is = record {
      each = joined_now l m adds is;
      sound = no_clash_found (entries_links files names ns (take (suc number) os)) (λ a. true≢false (sym ((joined_now l m adds is clash).1 a) ∙ none));
    }

    -- The occurrence has no statement.
    pub without : (l : Links) → stmt_at files entry.block entry.line entry.part ≡ None → AreLinked files names ns (take number os) l
        → AreLinked files names ns (take (suc number) os) l
    without l e is = goes_on l l
        (λ link. subst (λ (o : Option Stmt). Has l link
        ↔ (Has l link ⊎ Among link (flat_map (stmt_links files names ns (electrical_of files names) entry.node) (option_to_list o)))) (sym e) no_more)
        (not_yet l is) is

    module _ (s : Stmt) (written : stmt_at files entry.block entry.line entry.part ≡ Some s) where
      links_are : entry_links files names ns entry ≡ stmt_links files names ns (electrical_of files names) entry.node s
      links_are = ap (λ o. flat_map (stmt_links files names ns (electrical_of files names) entry.node) (option_to_list o)) written
          ∙ append-nil (stmt_links files names ns (electrical_of files names) entry.node s)

      with_stmt : (l m : Links) → Adds files names ns entry.node s l m
          → (link : NodeLink) → Has m link ↔ (Has l link ⊎ Among link (entry_links files names ns entry))
      with_stmt l m adds link = subst (λ xs. Has m link ↔ (Has l link ⊎ Among link xs)) (sym links_are) (adds link)

      -- Its statement joins something without a clash.
      pub with_links : (l m : Links) → Adds files names ns entry.node s l m
          → m.clash ≡ false → AreLinked files names ns (take number os) l → AreLinked files names ns (take (suc number) os) m
      with_links l m adds none is = goes_on l m (with_stmt l m adds) none is

      clash_added : (l m : Links) → Adds files names ns entry.node s l m
          → m.clash ≡ true → AreLinked files names ns (take number os) l → Among clash (stmt_links files names ns (electrical_of files names) entry.node s)
      clash_added l m adds some is = elim ((adds clash).0 some) [ inl h ↦ absurd (true≢false (sym h ∙ not_yet l is)) | inr a ↦ a ]

      -- Its statement has a clash.
      pub with_clash : (l m : Links) (c : Clash) → Adds files names ns entry.node s l m
          → m.clash ≡ true → c.instance ≡ entry.node → left_end s ≡ c.at ∷ [] → AreLinked files names ns (take number os) l
          → IsClash files names ns os number c
      with_clash l m c adds some instance at is = record {
        entry = entry;
        is = is_entry;
        before = is.sound;
        has = clash_found (entry_links files names ns entry) (subst (Among clash) (sym links_are) (clash_added l m adds some is));
        stmt = s;
        written = written;
        instance = instance;
        at = at;
      }

      -- So it has a left end.
      pub has_end : (l m : Links) → Adds files names ns entry.node s l m → m.clash ≡ true → left_end s ≡ [] → AreLinked files names ns (take number os) l → ⊥
      has_end l m adds some e is = nowhere_among (subst (Among clash) (nothing_joined files names ns (electrical_of files names) entry.node s e)
          (clash_added l m adds some is))
