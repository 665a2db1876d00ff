-- The replacements that wait are those that the walk finds.
use Rattle.std.proofs.Common.{◌≡◌, ℕ, ◌+◌, suc, Bool, true, false, ◌&&◌, List, [], ◌∷◌, ◌++◌, map, length, Option, Some, None, refl, ap, sym, subst, ◌∙◌, append_assoc, append-nil, arith, Decides, true≢false}
use Rattle.std.specs.Prelude.{option_to_list, is_none, if◌then◌else◌, ◌==◌}
use Rattle.std.specs.List.{flat_map}
use Rattle.std.specs.Str.{bytes_eq}
use Rattle.std.proofs.lemmas.Grind.{flat_map-append}
use Rattle.std.proofs.lemmas.List.Folds.{flat_map-map}
use Rattle.std.proofs.lemmas.Slice.Eq.{bytes_eq-Decides}
use Rattle.std.proofs.lemmas.Bool.Decides.{same_from_decides}
use Rattle.ato_base.specs.declared.places.Span.{Span}
use Rattle.ato_base.specs.declared.tokens.TokenKind.{TokenKind}
use Rattle.ato_ast.specs.declared.names.Named.{Named}
use Rattle.ato_ast.specs.declared.paths.Path.{Path}
use Rattle.ato_ast.specs.declared.stmts.Stmt.{Stmt}
use Rattle.ato_ast.specs.declared.stmts.Stmt.TheVariants as stmt
use Rattle.ato_files.specs.declared.program.SourceFile.{SourceFile}
use Rattle.ato_files.specs.Blocks.{meaning_in}
use Rattle.ato_instance_tree.specs.Types.{Located, type_stmts, meant}
use Rattle.ato_instance_tree.specs.Walk.{Occ, occs, down, leads, replaces_of, replaces, replacements, walk, type_at}
use Rattle.ato_elab.specs.Waiting.{Waits, waits_of, waits_in, own_waits, passed, pass, pass_all, waiting, ends_with, ended, end, ends}

-- ---- paths from names

-- where names lead from a path
abbrev pub downs : List ℕ → List ℕ → List ℕ
downs [] path = path
downs (n ∷ more) path = downs more (n ∷ path)

abbrev numbers : List Named → List ℕ
numbers ns = map (λ n. n.name.0) ns

down_is : (ns : List Named) (path : List ℕ) → down ns path ≡ downs (numbers ns) path
down_is [] path = refl
down_is (n ∷ ns) path = down_is ns (n.name.0 ∷ path)

downs_long : (ns path : List ℕ) → length (downs ns path) ≡ length ns + length path
downs_long [] path = omega arith
downs_long (n ∷ ns) path = let e = downs_long ns (n ∷ path) in omega arith

-- Names that lead to one path from paths of one length are the same.
downs_same : (xs ys p q : List ℕ) → length p ≡ length q → downs xs p ≡ downs ys q → (xs ≡ ys) × (p ≡ q)
downs_same [] [] p q l e = (refl, e)
downs_same [] (y ∷ ys) p q l e = let k = ap length e in let m = downs_long ys (y ∷ q) in absurd (omega arith)
downs_same (x ∷ xs) [] p q l e = let k = ap length e in let m = downs_long xs (x ∷ p) in absurd (omega arith)
downs_same (x ∷ xs) (y ∷ ys) p q l e =
    let more = downs_same xs ys (x ∷ p) (y ∷ q) (ap suc l) e in
    let heads : x ≡ y = let h = more.1 in cc in
    let tails : p ≡ q = let h = more.1 in cc in
    let rest : xs ≡ ys = more.0 in
    (cc, tails)

-- The names lead to the path exactly where they are those that lead there.
leads_is : (ns : List Named) (names from : List ℕ) → bytes_eq (down ns from) (downs names from) ≡ bytes_eq (numbers ns) names
leads_is ns names from =
    let left = bytes_eq-Decides (down ns from) (downs names from) in
    let right = bytes_eq-Decides (numbers ns) names in
    same_from_decides _ (bytes_eq (numbers ns) names) (
      λ e. (downs_same (numbers ns) names from from refl (sym (down_is ns from) ∙ left.0 e)).0,
      λ e. left.1 (down_is ns from ∙ ap (λ z. downs z from) e),
    )
    right

-- ---- one statement

-- all of some items or none of them
all_or_none : {X : Type 0} (b : Bool) (xs : List X) → (if b then xs else []) ≡ flat_map (λ x. if b then x ∷ [] else []) xs
all_or_none true [] = refl
all_or_none true (x ∷ xs) = ap (λ z. x ∷ z) (all_or_none true xs)
all_or_none false [] = refl
all_or_none false (x ∷ xs) = all_or_none false xs

-- what a replacement waits for, and where it leads
replacing : (names from : List ℕ) (steps : List Named) (whole : Bool) (ms : List (ℕ × Named))
    → (if whole && bytes_eq (down steps from) (downs names from) then ms else [])
    ≡ flat_map (ends_with names) (if whole then map (λ t. record { rest = steps; to = t }) ms else [])
replacing names from steps false ms = refl
replacing names from steps true ms =
    ap (λ b. if b then ms else []) (leads_is steps names from)
    ∙ all_or_none (bytes_eq (numbers steps) names) ms
    ∙ sym (flat_map-map (ends_with names) (λ (t : ℕ × Named). let w : Waits = record { rest = steps; to = t } in w) ms)

-- A statement's types for a path below it are those of what waits.
stmt_is : (files : List SourceFile) (names from : List ℕ) (block : ℕ) (s : Stmt)
    → replaces_of files (downs names from) from block s ≡ flat_map (ends_with names) (waits_of files block s)
stmt_is files names from block (stmt.Replace p type at) = replacing names from p.steps (is_none p.pin) (meant files block type)
stmt_is files names from block _ = refl

-- ---- the walk

located_is : (files : List SourceFile) (names from : List ℕ) (ls : List Located)
    → flat_map (replaces files (downs names from)) (map (λ l. record { path = from; at = l }) ls)
    ≡ flat_map (ends_with names) (flat_map (waits_in files) ls)
located_is files names from [] = refl
located_is files names from (l ∷ ls) =
    let f = replaces files (downs names from) in
    let at = λ (l : Located). let o : Occ = record { path = from; at = l } in o in
    ap (λ z. z ++ flat_map f (map at ls)) (stmt_is files names from l.block l.stmt)
    ∙ ap (λ z. flat_map (ends_with names) (waits_in files l) ++ z) (located_is files names from ls)
    ∙ sym (flat_map-append (ends_with names) (waits_in files l) (flat_map (waits_in files) ls))

occs_is : (files : List SourceFile) (names from : List ℕ) (type : Option ℕ)
    → flat_map (replaces files (downs names from)) (occs files from type) ≡ flat_map (ends_with names) (own_waits files type)
occs_is files names from type = located_is files names from (flat_map (type_stmts files) (option_to_list type))

passed_is : (name : ℕ) (names : List ℕ) (to : ℕ × Named) (rest : List Named)
    → flat_map (ends_with names) (passed name to rest) ≡ ends_with (name ∷ names) (record { rest = rest; to = to })
passed_is name names to [] = refl
passed_is name names to (n ∷ more) = by (n.name.0 == name)
  where
    by : (b : Bool) → flat_map (ends_with names) (if b then record { rest = more; to = to } ∷ [] else [])
        ≡ (if b && bytes_eq (numbers more) names then to ∷ [] else [])
    by true = append-nil (if bytes_eq (numbers more) names then to ∷ [] else [])
    by false = refl

pass_all_is : (name : ℕ) (names : List ℕ) (ws : List Waits)
    → flat_map (ends_with names) (pass_all name ws) ≡ flat_map (ends_with (name ∷ names)) ws
pass_all_is name names [] = refl
pass_all_is name names (w ∷ ws) =
    flat_map-append (ends_with names) (pass name w) (pass_all name ws)
    ∙ ap (λ z. z ++ flat_map (ends_with names) (pass_all name ws)) (passed_is name names w.to w.rest)
    ∙ ap (λ z. ends_with (name ∷ names) w ++ z) (pass_all_is name names ws)

-- The types that replacements put at a path below are those of what waits and has these names left.
pub replacements_wait : (files : List SourceFile) (entry : ℕ) (names path : List ℕ)
    → replacements files (downs names path) (walk files entry path) ≡ flat_map (ends_with names) (waiting files entry path)
replacements_wait files entry names [] =
    ap (λ z. flat_map (replaces files (downs names [])) z) (append-nil (occs files [] (Some entry)))
    ∙ occs_is files names [] (Some entry)
replacements_wait files entry names (n ∷ path) =
    let f = replaces files (downs names (n ∷ path)) in
    let type = type_at files entry (n ∷ path) in
    let around = (walk files entry path).stmts in
    flat_map-append f (occs files (n ∷ path) type) around
    ∙ ap (λ z. z ++ flat_map f around) (occs_is files names (n ∷ path) type)
    ∙ ap (λ z. flat_map (ends_with names) (own_waits files type) ++ z)
    (replacements_wait files entry (n ∷ names) path ∙ sym (pass_all_is n names (waiting files entry path)))
    ∙ sym (flat_map-append (ends_with names) (own_waits files type) (pass_all n (waiting files entry path)))

end_is : (w : Waits) → ends_with [] w ≡ end w
end_is w = by w.rest w.to
  where
    by : (rest : List Named) (to : ℕ × Named) → ends_with [] (record { rest = rest; to = to }) ≡ ended rest to
    by [] to = refl
    by (n ∷ more) to = refl

ends_are : (ws : List Waits) → flat_map (ends_with []) ws ≡ ends ws
ends_are [] = refl
ends_are (w ∷ ws) = ap (λ z. z ++ flat_map (ends_with []) ws) (end_is w) ∙ ap (λ z. end w ++ z) (ends_are ws)

-- The types that replacements around put at a member are those that end there.
pub replacements_end : (files : List SourceFile) (entry name : ℕ) (path : List ℕ)
    → replacements files (name ∷ path) (walk files entry path) ≡ ends (pass_all name (waiting files entry path))
replacements_end files entry name path =
    replacements_wait files entry (name ∷ []) path
    ∙ sym (pass_all_is name [] (waiting files entry path))
    ∙ ends_are (pass_all name (waiting files entry path))
