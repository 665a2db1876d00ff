-- One statement more.
use Rattle.std.proofs.Common.{◌≡◌, ◌<◌, ℕ, Bool, ◌||◌, ◌+◌, nat_eq, List, [], ◌∷◌, ◌++◌, refl, sym, ap, ◌∙◌, append_assoc, append-nil, map, take, length, get_or, arith}
use Rattle.std.specs.List.{flat_map, list_any}
use Rattle.std.proofs.lemmas.List.{map-append, map_more, length-map, length-take-le}
use Rattle.std.proofs.lemmas.List.Folds.{list_any-append}
use Rattle.std.proofs.lemmas.Grind.{flat_map-append}
use Rattle.ato_ast.specs.declared.stmts.Stmt.{Stmt}
use Rattle.ato_files.specs.Lists.{numbered}
use Rattle.ato_files.specs.Members.{Decl, decls}
use Rattle.ato_files.proofs.NumberedLemmas.{numbered_more, numbered_push}
use Rattle.ato_instance_tree.specs.declared.type_stmts.StmtAt.{StmtAt}
use Rattle.ato_instance_tree.specs.Kept.{stmt_of, placed}
use Rattle.ato_instance_tree.specs.Types.{Located, line_stmts}
use Rattle.ato_instance_tree.specs.Members.{is_declared}

module _ (all : List StmtAt) (i : ℕ) (s : StmtAt) (within : i < length all) (read : s ≡ get_or all i s) where
  pub stmts_more : map stmt_of (take (i + 1) all) ≡ map stmt_of (take i all) ++ stmt_of s ∷ []
  stmts_more = map_more stmt_of all i s within ∙ ap (λ x. map stmt_of (take i all) ++ stmt_of x ∷ []) (sym read)

  -- what each statement gives, with one more
  pub flat_more : {A : Type 0} (f : Stmt → List A) → flat_map f (map stmt_of (take (i + 1) all)) ≡ flat_map f (map stmt_of (take i all)) ++ f (stmt_of s)
  flat_more f = ap (flat_map f) stmts_more ∙ flat_map-append f (map stmt_of (take i all)) (stmt_of s ∷ []) ∙ ap (λ l. flat_map f (map stmt_of (take i all)) ++ l) (append-nil (f (stmt_of s)))

  -- the same behind others
  pub behind_more : {A : Type 0} (f : Stmt → List A) (ms : List A) → (ms ++ flat_map f (map stmt_of (take i all))) ++ f (stmt_of s) ≡ ms ++ flat_map f (map stmt_of (take (i + 1) all))
  behind_more f ms = append_assoc ms _ _ ∙ ap (λ l. ms ++ l) (sym (flat_more f))

  pub declared_more : (n : ℕ) → is_declared (map stmt_of (take (i + 1) all)) n ≡ (is_declared (map stmt_of (take i all)) n || is_declared (stmt_of s ∷ []) n)
  declared_more n = ap (list_any (λ (d : Decl). nat_eq d.name.name.0 n)) (flat_more decls ∙ ap (λ l. flat_map decls (map stmt_of (take i all)) ++ l) (sym (append-nil (decls (stmt_of s)))))
      ∙ list_any-append (λ (d : Decl). nat_eq d.name.name.0 n) (flat_map decls (map stmt_of (take i all))) (flat_map decls (stmt_of s ∷ []))

-- one statement of a line more
pub line_more : (block line : ℕ) (parts : List Stmt) (i : ℕ) (s : Stmt) (start before after : List Located) → i < length parts → s ≡ get_or parts i s
    → before ≡ start ++ line_stmts block (line, take i parts) → after ≡ before ++ placed block line (i, s) ∷ [] → after ≡ start ++ line_stmts block (line, take (i + 1) parts)
line_more block line parts i s start before after within read was now =
    now ∙ ap (λ l. l ++ placed block line (i, s) ∷ []) was ∙ append_assoc start _ _
    ∙ ap (λ l. start ++ l) (sym (ap (map (placed block line)) (numbered_more parts i s within ∙ ap (λ x. numbered 0 (take i parts) ++ (i, x) ∷ []) (sym read))
    ∙ map-append (placed block line) (numbered 0 (take i parts)) ((i, s) ∷ [])))

-- one line of a block more
pub lines_more : {X : Type 0} (block : ℕ) (parts : X → List Stmt) (lines : List X) (i : ℕ) (x : X) (start before after : List Located) → i < length lines → x ≡ get_or lines i x
    → before ≡ start ++ flat_map (line_stmts block) (numbered 0 (map parts (take i lines))) → after ≡ before ++ line_stmts block (i, parts x)
    → after ≡ start ++ flat_map (line_stmts block) (numbered 0 (map parts (take (i + 1) lines)))
lines_more block parts lines i x start before after within read was now =
    let long : length (map parts (take i lines)) ≡ i = length-map (take i lines) parts ∙ length-take-le i lines (omega arith) in
    now ∙ ap (λ l. l ++ line_stmts block (i, parts x)) was ∙ append_assoc start _ _
    ∙ ap (λ l. start ++ l) (sym (
    ap (λ ls. flat_map (line_stmts block) (numbered 0 ls)) (map_more parts lines i x within ∙ ap (λ y. map parts (take i lines) ++ parts y ∷ []) (sym read))
    ∙ ap (flat_map (line_stmts block)) (numbered_push (map parts (take i lines)) (parts x) ∙ ap (λ (n : ℕ). numbered 0 (map parts (take i lines)) ++ (n, parts x) ∷ []) long)
    ∙ flat_map-append (line_stmts block) (numbered 0 (map parts (take i lines))) ((i, parts x) ∷ [])
    ∙ ap (λ l. flat_map (line_stmts block) (numbered 0 (map parts (take i lines))) ++ l) (append-nil (line_stmts block (i, parts x)))))
