-- The type to which the next instance is led, and what is counted with it.
use Rattle.std.proofs.Common.{◌≡◌, ◌<◌, ◌≤◌, ℕ, suc, ◌+◌, Bool, true, false, true≢false, List, [], ◌∷◌, ◌++◌, map, Option, Some, None, refl, sym, ap, ◌∙◌, subst, length, append-nil, arith}
use Rattle.std.specs.Prelude.{◌||◌, nat_lt, filter, option_to_list, sum_by}
use Rattle.std.specs.List.{flat_map}
use Rattle.std.specs.Option.{option_map}
use Rattle.std.proofs.lemmas.Bool.{ltb-false}
use Rattle.std.proofs.lemmas.List.{length-map}
use Rattle.ato_ast.specs.declared.names.Named.{Named}
use Rattle.ato_ast.specs.declared.stmts.Stmt.{Stmt}
use Rattle.ato_base.specs.declared.name_table.Name.{Name}
use Rattle.ato_files.specs.declared.program.SourceFile.{SourceFile}
use Rattle.ato_files.specs.Lists.{last_of, first_of_all}
use Rattle.ato_instance_tree.specs.declared.type_members.Member.{Member}
use Rattle.ato_instance_tree.specs.declared.type_stmts.StmtAt.{StmtAt}
use Rattle.ato_instance_tree.specs.Kept.{located_of, member_of, stmt_of}
use Rattle.ato_instance_tree.specs.Members.{members, members_among}
use Rattle.ato_instance_tree.specs.Order.{occs_at}
use Rattle.ato_instance_tree.specs.TreeFaults.{is_leaf, own_nodes, own_occs, types_around, too_large}
use Rattle.ato_instance_tree.specs.Types.{Located, type_stmts, stmts_of_type}
use Rattle.ato_instance_tree.specs.Walk.{Occ, news, made, made_in, walk, type_at, replacements}
use Rattle.ato_instance_tree.proofs.PushLaws.{nodes_sum_push, occs_sum_push}
use Rattle.ato_elab.specs.declared.changes.Change.{Change}
use Rattle.ato_elab.specs.declared.contents.Content.{Content}
use Rattle.ato_elab.specs.declared.frames.Counts.{Counts}
use Rattle.ato_elab.specs.declared.frames.Frame.{Frame}
use Rattle.ato_elab.specs.declared.frames.Given.{Given}
use Rattle.ato_elab.specs.declared.ways.Ways.{Ways}
use Rattle.ato_elab.specs.Building.{IsFrame, AreLeading, AreCounted, grown, is_over, limits_of}
use Rattle.ato_elab.specs.Changes.{AreChanges, listed, seen}
use Rattle.ato_elab.specs.Entering.{IsContent, IsWithin, with_content}
use Rattle.ato_elab.specs.Settling.{LeadsTo}
use Rattle.ato_elab.specs.Waiting.{ends, own_waits, pass_all, waiting, waits_in}
use Rattle.ato_elab.specs.Ways.{AreNews, AreWays, kept}
use Rattle.ato_instance_tree.specs.Order.{Spot}
use Rattle.ato_elab.proofs.LeadLaws.{replacements_end}

-- ---- the type of a member

module _ (files : List SourceFile) (entry : ℕ) (done : List Spot) (path outer : List ℕ) (f : Frame) (is : IsFrame files entry done path outer f) where
  -- what `new` gives a member
  pub frame_made : (name : ℕ) → kept f.ways.news name ≡ made files name (walk files entry path)
  frame_made name = is.news name
      ∙ ap (λ (ls : List Located). first_of_all (flat_map (news files name) ls)) (sym (append-nil (type_stmts files f.block)))
      ∙ ap (made_in files name) (sym is.type)

  -- what replaces it
  pub frame_replaces : (name : ℕ) → replacements files (name ∷ path) (walk files entry path) ≡ ends (map seen (listed f.ways.changes name))
  frame_replaces name = replacements_end files entry name path ∙ ap ends (sym (is.changes name))

  -- its type
  pub led_type : (name from block : ℕ) (new : Named) → kept f.ways.news name ≡ Some (from, new) → LeadsTo files from (ends (map seen (listed f.ways.changes name))) block
      → type_at files entry (name ∷ path) ≡ Some block
  led_type name from block new made_is leads =
      let rs = replacements files (name ∷ path) (walk files entry path) in
      ap (option_map (λ (x : ℕ × Named). (last_of x rs).0)) (sym (frame_made name) ∙ made_is)
      ∙ ap (λ (xs : List (ℕ × Named)). let o : Option ℕ = Some (last_of (from, new) xs).0 in o) (frame_replaces name)
      ∙ ap (λ (x : ℕ). let o : Option ℕ = Some x in o) (leads new path).0

-- ---- what waits below

pub waits_below : (files : List SourceFile) (entry name block : ℕ) (path : List ℕ) (f : Frame) (statements : List StmtAt) (from : List Change) (ways : Ways) → type_at files entry (name ∷ path) ≡ Some block
    → map located_of statements ≡ type_stmts files block → AreChanges (waiting files entry path) f.ways.changes → from ≡ listed f.ways.changes name
    → AreWays files statements from ways → AreChanges (waiting files entry (name ∷ path)) ways.changes
waits_below files entry name block path f statements from ways type stmts changes listed_is are =
    subst (λ ws. AreChanges ws ways.changes)
    (ap (λ (ls : List Located). flat_map (waits_in files) ls ++ map seen from) (stmts ∙ sym (append-nil (type_stmts files block)))
    ∙ ap (λ (o : Option ℕ). own_waits files o ++ map seen from) (sym type)
    ∙ ap (λ z. own_waits files (type_at files entry (name ∷ path)) ++ z) (ap (map seen) listed_is ∙ changes name))
    are.changes

pub waits_first : (files : List SourceFile) (entry : ℕ) (statements : List StmtAt) (ways : Ways) → map located_of statements ≡ type_stmts files entry
    → AreWays files statements [] ways → AreChanges (waiting files entry []) ways.changes
waits_first files entry statements ways stmts are =
    subst (λ ws. AreChanges ws ways.changes)
    (append-nil (flat_map (waits_in files) (map located_of statements)) ∙ ap (flat_map (waits_in files)) (stmts ∙ sym (append-nil (type_stmts files entry))))
    are.changes

pub news_below : (files : List SourceFile) (block : ℕ) (statements : List StmtAt) (from : List Change) (ways : Ways) → map located_of statements ≡ type_stmts files block
    → AreWays files statements from ways → AreNews files (type_stmts files block) ways.news
news_below files block statements from ways stmts are = subst (λ ls. AreNews files ls ways.news) stmts are.news

-- ---- what a type holds

pub content_members : (files : List SourceFile) (block : ℕ) (statements : List StmtAt) (ms : List Member) → map located_of statements ≡ type_stmts files block
    → map member_of ms ≡ members_among files (map stmt_of statements) → map member_of ms ≡ members files (Some block)
content_members files block statements ms stmts is = is ∙ ap (members_among files) (inner statements
    ∙ ap (map (λ (l : Located). l.stmt)) (stmts ∙ sym (append-nil (type_stmts files block))))
  where
    inner : (ss : List StmtAt) → map stmt_of ss ≡ map (λ (l : Located). l.stmt) (map located_of ss)
    inner [] = refl
    inner (s ∷ ss) = ap (λ z. s.stmt.now ∷ z) (inner ss)

-- ---- counts

pub content_nodes : (files : List SourceFile) (entry block : ℕ) (path : List ℕ) (content : Content) → type_at files entry path ≡ Some block → IsContent files block content
    → suc (length (filter is_leaf (map member_of content.members))) ≡ own_nodes files entry path
content_nodes files entry block path content type is =
    ap (λ ms. suc (length (filter is_leaf ms))) (is.members ∙ ap (members files) (sym type))

pub content_occs : (files : List SourceFile) (entry block : ℕ) (path : List ℕ) (content : Content) → type_at files entry path ≡ Some block → IsContent files block content
    → length content.statements ≡ own_occs files entry path
content_occs files entry block path content type is =
    sym (length-map content.statements located_of)
    ∙ ap length (is.statements ∙ sym (append-nil (type_stmts files block)))
    ∙ ap (λ (o : Option ℕ). length (flat_map (type_stmts files) (option_to_list o))) (sym type)
    ∙ sym (length-map (flat_map (type_stmts files) (option_to_list (type_at files entry path))) (λ (l : Located). let o : Occ = record { path = path; at = l } in o))

or_both : (a b : Bool) → (a || b) ≡ false → (a ≡ false) × (b ≡ false)
or_both true b h = absurd (true≢false h)
or_both false b h = (refl, h)

pub within_few : (most counts : Counts) → is_over most counts ≡ false → (counts.nodes ≤ most.nodes) × (counts.occurrences ≤ most.occurrences)
within_few most counts h = let both = or_both (nat_lt most.nodes counts.nodes) (nat_lt most.occurrences counts.occurrences) h in
    (ltb-false most.nodes counts.nodes both.0, ltb-false most.occurrences counts.occurrences both.1)

pub counted_more : (files : List SourceFile) (entry block : ℕ) (most old new : Counts) (paths : List (List ℕ)) (path : List ℕ) (content : Content)
    → AreCounted files entry most old paths → type_at files entry path ≡ Some block → IsContent files block content → IsWithin most old content new
    → AreCounted files entry most new (paths ++ path ∷ [])
counted_more files entry block most old new paths path content was type is within =
    let few = within_few most new within.few in
    record {
      nodes = ap (λ (c : Counts). c.nodes) within.sum ∙ ap (λ (n : ℕ). n + suc (length (filter is_leaf (map member_of content.members)))) was.nodes
          ∙ ap (λ (n : ℕ). sum_by (own_nodes files entry) paths + n) (content_nodes files entry block path content type is) ∙ sym (nodes_sum_push files entry paths path);
      occurrences = ap (λ (c : Counts). c.occurrences) within.sum ∙ ap (λ (n : ℕ). n + length content.statements) was.occurrences
          ∙ ap (λ (n : ℕ). sum_by (own_occs files entry) paths + n) (content_occs files entry block path content type is) ∙ sym (occs_sum_push files entry paths path);
      few_nodes = few.0;
      few_occurrences = few.1;
    }

-- Whether the counts are over the limits is whether these instances are too many.
pub over_is : (files : List SourceFile) (entry block : ℕ) (most old : Counts) (paths : List (List ℕ)) (path : List ℕ) (content : Content)
    → AreCounted files entry most old paths → type_at files entry path ≡ Some block → IsContent files block content
    → too_large files entry (limits_of most) (paths ++ path ∷ []) ≡ is_over most (with_content old content)
over_is files entry block most old paths path content was type is =
    ap (λ (n : ℕ). nat_lt most.nodes n || nat_lt most.occurrences (sum_by (own_occs files entry) (paths ++ path ∷ [])))
    (nodes_sum_push files entry paths path ∙ ap (λ (n : ℕ). sum_by (own_nodes files entry) paths + n) (sym (content_nodes files entry block path content type is))
    ∙ ap (λ (n : ℕ). n + suc (length (filter is_leaf (map member_of content.members)))) (sym was.nodes))
    ∙ ap (λ (n : ℕ). nat_lt most.nodes (old.nodes + suc (length (filter is_leaf (map member_of content.members)))) || nat_lt most.occurrences n)
    (occs_sum_push files entry paths path ∙ ap (λ (n : ℕ). sum_by (own_occs files entry) paths + n) (sym (content_occs files entry block path content type is))
    ∙ ap (λ (n : ℕ). n + length content.statements) (sym was.occurrences))
