use Rattle.std.proofs.Common.{◌≡◌, ◌∙◌, ap, map, List}
use Rattle.ato_files.specs.declared.program.SourceFile.{SourceFile}
use Rattle.ato_instance_tree.specs.declared.type_stmts.StmtAt.{StmtAt}
use Rattle.ato_instance_tree.specs.Kept.{member_of, stmt_of}
use Rattle.ato_instance_tree.specs.Members.{members_among}
use Rattle.ato_elab.proofs.LedLemmas.{content_members}
use Rattle.ato_elab.proofs.contents.Content.of.Goals as goal

pub returns : goal.returns
returns c = λ are.
    let files = c.args.given.now.program.now.files in
    let stmts = c.in_ok-statements.ensures are in
    record {
      statements = stmts;
      members = content_members files c.args.block c.in_ok-statements.statements c.in_ok-members.members stmts
          (c.in_ok-members.ensures
          ∙ ap (λ (fs : List SourceFile). members_among fs (map stmt_of c.as_slice-2.result.now)) c.as_slice.ensures
          ∙ ap (λ (ss : List StmtAt). members_among files (map stmt_of ss)) c.as_slice-2.ensures);
    }
