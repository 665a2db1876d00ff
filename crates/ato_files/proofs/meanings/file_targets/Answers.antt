use Rattle.std.proofs.Common.{◌≡◌, ◌≤◌, ◌++◌, List, Option, length, take, ap, ◌∙◌, subst}
use Rattle.std.specs.Prelude.{map}
use Rattle.std.proofs.lemmas.List.{take_all}
use Rattle.ato_ast.specs.declared.names.Named.{Named}
use Rattle.ato_ast.specs.declared.names.Quoted.{Quoted}
use Rattle.ato_files.specs.Blocks.{imported, imports_of}
use Rattle.ato_files.specs.NameMaps.{AreFirst}
use Rattle.ato_files.specs.Meant.{import_pair}
use Rattle.ato_files.proofs.MeantLemmas.{no_import, targets_more, imports_more}
use Rattle.ato_files.proofs.meanings.file_targets.Goals.{After-loop-import}
use Rattle.ato_files.proofs.meanings.file_targets.Goals as goal

pub loop-import-preserved : goal.loop-import-preserved
loop-import-preserved c =
    let files = c.args.names.now.files.now in
    let file = c.args.file.now in
    let imports = c.as_slice-import-items.result.now in
    let i = c.loop-import.import-index in
    record {
      targets = targets_more files file imports i no_import c.target-target.result c.loop-import-test.true c.target-target.ensures c.loop-import.targets c.push.new.self
          c.loop-import.invariant.targets c.in_ok-push.ensures.ok;
      pairs = λ pairs are. imports_more files file imports i no_import c.target-target.result c.loop-import-test.true c.target-target.ensures c.args.number pairs c.put.new.self
          (c.in_ok-put.ensures (pairs ++ map (import_pair files c.args.number file) (take i imports)) (c.loop-import.invariant.pairs pairs are));
    }

whole : (c : After-loop-import) → length c.as_slice-import-items.result.now ≤ c.loop-import.import-index → take c.loop-import.import-index c.as_slice-import-items.result.now ≡ imports_of c.args.file.now
whole c past = take_all c.loop-import.import-index c.as_slice-import-items.result.now past ∙ c.as_slice-import-items.ensures ∙ c.in_ok-imports.ensures

pub returns-clause-targets : goal.returns-clause-targets
returns-clause-targets c =
    c.loop-import.invariant.targets ∙ ap (map (imported c.args.names.now.files.now c.args.file.now)) (whole (goal.at.returns-clause-targets c).After-loop-import c.loop-import-test.false)

pub returns-clause-pairs : goal.returns-clause-pairs
returns-clause-pairs c = λ pairs are.
    subst (λ (imports : List (Named × Option Quoted)). AreFirst (pairs ++ map (import_pair c.args.names.now.files.now c.args.number c.args.file.now) imports) c.loop-import.imported)
    (whole (goal.at.returns-clause-pairs c).After-loop-import c.loop-import-test.false) (c.loop-import.invariant.pairs pairs are)
