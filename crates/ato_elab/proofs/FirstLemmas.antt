-- The statements of a built tree's occurrences, and the first fault of its paths.
use Rattle.std.proofs.Common.{◌≡◌, ℕ, suc, ◌+◌, List, [], ◌∷◌, ◌++◌, length, Option, Some, None, refl, sym, ap, ◌∙◌, subst, Bor, arith}
use Rattle.std.specs.Prelude.{slice_get, map, reverse}
use Rattle.std.specs.List.{flat_map}
use Rattle.std.specs.Option.{option_map, option_and_then, option_or}
use Rattle.std.proofs.lemmas.Option.{none-some, same_Some}
use Rattle.ato_base.specs.declared.name_table.Name.{Name}
use Rattle.ato_base.specs.declared.places.Place.{Place}
use Rattle.ato_base.specs.declared.faults.Fault.{Fault}
use Rattle.ato_base.specs.declared.faults.FaultKind.{FaultKind}
use Rattle.ato_ast.specs.declared.stmts.Stmt.{Stmt}
use Rattle.ato_files.specs.declared.program.SourceFile.{SourceFile}
use Rattle.ato_files.specs.Lists.{numbered, first_of_all}
use Rattle.ato_files.specs.Programs.{NamesDiffer}
use Rattle.ato_instance_tree.specs.declared.tree.Occurrence.{Occurrence}
use Rattle.ato_instance_tree.specs.declared.tree.Late.{Late}
use Rattle.ato_instance_tree.specs.Walk.{Occ}
use Rattle.ato_instance_tree.specs.Order.{occurrences}
use Rattle.ato_instance_tree.specs.PathFaults.{keys_of, occ_faults, numbered_faults, path_fault}
use Rattle.ato_instance_tree.specs.Targets.{stmt_at}
use Rattle.ato_instance_tree.specs.Trees.{Where, SaidOcc, node_paths, occ_said, walked_said, first_said}
use Rattle.ato_instance_tree.proofs.WalkedLaws.{walked_stands}
use Rattle.ato_elab.specs.declared.built.Built.{Built}
use Rattle.ato_elab.specs.declared.faults.Mark.{Mark}
use Rattle.ato_elab.specs.declared.late_ground.Ground.{Ground}
use Rattle.ato_elab.specs.Built.{IsBuilt}
use Rattle.ato_elab.specs.Landing.{IsGround, marked}
use Rattle.ato_elab.specs.Late.{mark_in, numbered_mark, marks_from}
use Rattle.ato_elab.specs.Listing.{stmt_of}
use Rattle.ato_elab.specs.Standing.{IsAt}
use Rattle.ato_elab.specs.Telling.{IsLate, AreLate, IsFirstLate}
use Rattle.ato_elab.proofs.EntryLaws.{entry_law}
use Rattle.ato_elab.proofs.StmtLaws.{marks_are_faults}
use Rattle.ato_elab.proofs.TellLemmas.{shown_back, climbed_path}

-- ---- statements

same_stmts : (files : List SourceFile) (names : List (List ℕ)) (ws : List Where) (ss : List (Bor Stmt)) (xs : List Occurrence) (os : List Occ)
    → map (λ s. Some s.now) ss ≡ map (stmt_of files) xs → map (occ_said ws) xs ≡ map (walked_said names) os
    → ((i : ℕ) (o : Occ) → slice_get os i ≡ Some o → stmt_at files o.at.block o.at.line o.at.part ≡ Some o.at.stmt)
    → map (λ s. s.now) ss ≡ map (λ o. o.at.stmt) os
same_stmts files names ws [] [] [] e f stands = refl
same_stmts files names ws [] [] (o ∷ os) e f stands = absurd (cc)
same_stmts files names ws [] (x ∷ xs) os e f stands = absurd (cc)
same_stmts files names ws (s ∷ ss) [] os e f stands = absurd (cc)
same_stmts files names ws (s ∷ ss) (x ∷ xs) [] e f stands = absurd (cc)
same_stmts files names ws (s ∷ ss) (x ∷ xs) (o ∷ os) e f stands =
    let said : occ_said ws x ≡ walked_said names o = cc in
    let stmt : Some s.now ≡ stmt_of files x = cc in
    let here : stmt_of files x ≡ Some o.at.stmt = ap (λ (t : SaidOcc). stmt_at files t.block t.line t.part) said ∙ stands 0 o refl in
    let same : s.now ≡ o.at.stmt = same_Some s.now o.at.stmt (stmt ∙ here) in
    let more : map (λ (s : Bor Stmt). Some s.now) ss ≡ map (stmt_of files) xs = cc in
    let rest : map (occ_said ws) xs ≡ map (walked_said names) os = cc in
    ap (λ (t : Stmt). t ∷ map (λ (s : Bor Stmt). s.now) ss) same
    ∙ ap (λ (l : List Stmt). o.at.stmt ∷ l) (same_stmts files names ws ss xs os more rest (λ i p at. stands (suc i) p at))

-- the statements of the occurrences of a built tree
pub stmts_are : {files : List SourceFile} {names : List (List ℕ)} {entry : ℕ} {built : Built} → IsBuilt files names entry built → (ss : List (Bor Stmt))
    → map (λ s. Some s.now) ss ≡ map (stmt_of files) built.occurrences → map (λ s. s.now) ss ≡ map (λ o. o.at.stmt) (occurrences files entry)
stmts_are {files = files} {names = names} {entry = entry} {built = built} is ss e =
    same_stmts files names (node_paths built.nodes) ss built.occurrences (occurrences files entry) e is.written (λ i o at. walked_stands files entry i o at)

-- ---- the fault of a mark

fault : FaultKind → Place → Option Place → List Name → Fault
fault kind at other path = record { kind = kind; at = at; other = other; path = path }

same_fault : (a b : Fault) → a.kind ≡ b.kind → a.at ≡ b.at → a.other ≡ b.other → a.path ≡ b.path → a ≡ b
unfolding fault
same_fault a b e f g h = ap (λ (x : FaultKind). fault x a.at a.other a.path) e ∙ ap (λ (x : Place). fault b.kind x a.other a.path) f
    ∙ ap (λ (x : Option Place). fault b.kind b.at x a.path) g ∙ ap (fault b.kind b.at b.other) h

abbrev pair : ℕ → Fault → ℕ × Fault
pair number f = (number, f)

pair_of : (l : Late) (number : ℕ) (f : Fault) → l.occurrence ≡ number → l.fault ≡ f → pair l.occurrence l.fault ≡ pair number f
pair_of l number f a b = ap (λ (n : ℕ). pair n l.fault) a ∙ ap (pair number) b

module _ (names : List (List ℕ)) (entry : ℕ) (g : Ground) (differ : NamesDiffer names) (is : IsGround names entry g) where
  late_is : (number : ℕ) (o : Occ) (m : Mark) (l : Late) → slice_get (occurrences g.files.now entry) number ≡ Some o → IsLate names g.built.now (number, m) l → pair l.occurrence l.fault ≡ pair number (marked o.path m)
  late_is number o m l at late =
      let x = entry_law is.ready.is number o at in
      let same : late.entry ≡ x.entry_of = same_Some late.entry x.entry_of (sym late.at ∙ x.at) in
      let here : IsAt g.files.now entry late.entry.node o.path = subst (λ (e : Occurrence). IsAt g.files.now entry e.node o.path) (sym same) x.node in
      let path : reverse (map (λ (n : Name). n.0) l.fault.path) ≡ o.path
      = climbed_path differ is.ready.is (length g.built.now.nodes) late.entry.node o.path (reverse (map (λ (n : Name). n.0) l.fault.path)) here late.path in
      pair_of l number (marked o.path m) late.occurrence (same_fault l.fault (marked o.path m) late.kind late.place late.other (shown_back l.fault.path o.path path))

  late_first : (number : ℕ) (o : Occ) (m : Mark) (late : Option Late) → slice_get (occurrences g.files.now entry) number ≡ Some o → AreLate names g.built.now (Some (number, m)) late
      → first_said late ≡ Some (number, marked o.path m)
  late_first number o m None at late = absurd late
  late_first number o m (Some l) at late = ap Some (late_is number o m l at late)

  none_first : (late : Option Late) → AreLate names g.built.now None late → first_said late ≡ None
  none_first None late = refl
  none_first (Some l) late = absurd late

  -- ---- one occurrence after another

  mark_at : (number : ℕ) (s : Stmt) (e : Occurrence) (m : Option Mark) → slice_get g.built.now.occurrences number ≡ Some e → mark_in g e.node number s ≡ m
      → numbered_mark g number s ≡ option_map (λ m. (number, m)) m
  unfolding numbered_mark
  mark_at number s e m at is = ap (option_and_then (λ (e : Occurrence). option_map (λ (m : Mark). (number, m)) (mark_in g e.node number s))) at
      ∙ ap (option_map (λ (m : Mark). (number, m))) is

  marks_cons : (number : ℕ) (s : Stmt) (ss : List Stmt) → marks_from g number (s ∷ ss) ≡ option_or (numbered_mark g number s) (marks_from g (suc number) ss)
  unfolding marks_from
  marks_cons number s ss = refl

  marks_nil : (number : ℕ) → marks_from g number [] ≡ None
  unfolding marks_from
  marks_nil number = refl

  one_more : (number : ℕ) (o : Occ) (ss : List Stmt) (late : Option Late) (rest : List (ℕ × Fault)) → slice_get (occurrences g.files.now entry) number ≡ Some o
      → (AreLate names g.built.now (marks_from g (suc number) ss) late → first_said late ≡ first_of_all rest)
      → (m : Option Mark) (fs : List Fault) → numbered_mark g number o.at.stmt ≡ option_map (λ m. (number, m)) m → option_map (marked o.path) m ≡ first_of_all fs
      → AreLate names g.built.now (marks_from g number (o.at.stmt ∷ ss)) late → first_said late ≡ first_of_all (map (λ f. (number, f)) fs ++ rest)
  one_more number o ss late rest at more None [] e h l = more (subst (λ (m : Option (ℕ × Mark)). AreLate names g.built.now m late)
      (marks_cons number o.at.stmt ss ∙ ap (λ (m : Option (ℕ × Mark)). option_or m (marks_from g (suc number) ss)) e) l)
  one_more number o ss late rest at more None (f ∷ fs) e h l = absurd (none-some f h)
  one_more number o ss late rest at more (Some m) [] e h l = absurd (none-some (marked o.path m) (sym h))
  one_more number o ss late rest at more (Some m) (f ∷ fs) e h l =
      late_first number o m late at (subst (λ (m : Option (ℕ × Mark)). AreLate names g.built.now m late)
      (marks_cons number o.at.stmt ss ∙ ap (λ (m : Option (ℕ × Mark)). option_or m (marks_from g (suc number) ss)) e) l)
      ∙ ap (λ (x : Fault). Some (number, x)) (same_Some (marked o.path m) f h)

  all_late : (os : List Occ) (number : ℕ) (late : Option Late) → ((i : ℕ) (o : Occ) → slice_get os i ≡ Some o → slice_get (occurrences g.files.now entry) (number + i) ≡ Some o)
      → AreLate names g.built.now (marks_from g number (map (λ o. o.at.stmt) os)) late
      → first_said late ≡ first_of_all (flat_map (numbered_faults g.files.now entry (keys_of names)) (numbered number os))
  all_late [] number late there l = none_first late (subst (λ (m : Option (ℕ × Mark)). AreLate names g.built.now m late) (marks_nil number) l)
  all_late (o ∷ os) number late there l =
      let zeroth : number + 0 ≡ number = omega arith in
      let at : slice_get (occurrences g.files.now entry) number ≡ Some o = ap (slice_get (occurrences g.files.now entry)) (sym zeroth) ∙ there 0 o refl in
      let x = entry_law is.ready.is number o at in
      one_more number o (map (λ (o : Occ). o.at.stmt) os) late (flat_map (numbered_faults g.files.now entry (keys_of names)) (numbered (suc number) os)) at
      (all_late os (suc number) late (λ i p k. let next : suc number + i ≡ number + suc i = omega arith in ap (slice_get (occurrences g.files.now entry)) next ∙ there (suc i) p k))
      (mark_in g x.entry_of.node number o.at.stmt) (occ_faults g.files.now entry (keys_of names) o)
      (mark_at number o.at.stmt x.entry_of (mark_in g x.entry_of.node number o.at.stmt) x.at refl)
      (marks_are_faults names entry number g o x.entry_of.node is (record { is = at }) x.node).is l

  -- the first fault of paths
  pub first_fault : (late : Option Late) → IsFirstLate names g late → first_said late ≡ path_fault g.files.now entry (keys_of names)
  first_fault late first = all_late (occurrences g.files.now entry) 0 late
      (λ i o at. let same : 0 + i ≡ i = omega arith in ap (slice_get (occurrences g.files.now entry)) same ∙ at)
      (subst (λ (ss : List Stmt). AreLate names g.built.now (marks_from g 0 ss) late) is.stmts first.is)
