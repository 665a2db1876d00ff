use Rattle.std.proofs.Common.{◌≡◌, ◌∙◌, ◌∷◌, [], List, ap, length, map, refl, subst, sym, append-nil}
use Rattle.ato_files.specs.Blocks.{blocks_of}
use Rattle.ato_instance_tree.specs.declared.type_stmts.StmtAt.{StmtAt}
use Rattle.ato_instance_tree.specs.Kept.{located_of}
use Rattle.ato_instance_tree.specs.Order.{made_at}
use Rattle.ato_instance_tree.specs.Types.{type_stmts}
use Rattle.ato_elab.specs.declared.changes.Change.{Change}
use Rattle.ato_elab.specs.Ways.{AreWays}
use Rattle.ato_elab.proofs.FrameLaws.{marked_more}
use Rattle.ato_elab.proofs.RootLaws.{marks_here, rooted}
use Rattle.ato_elab.proofs.frames.Growth.open_root.Goals as goal

pub returns : goal.returns
returns c = λ is_given below empty holds within.
    let given = c.args.given.now in
    let p = given.program.now in
    let files = p.files in
    let entry = c.args.entry in
    let g = c.args.self.now in
    let ways = c.in_ok-ways.ways in
    rooted given entry g c.args.content ways c.look.new.self c.set.new.self c.args.counts is_given below empty holds within
    (c.in_ok-look.ensures files p.names entry (made_at [] ∷ []) [] []
    (c.in_ok-put_root.ensures files p.names (c.kind.ensures is_given.blocks) (empty.so_far files p.names entry)) refl
    (ap (map located_of) c.as_slice.ensures ∙ holds.statements ∙ sym (append-nil (type_stmts files entry))))
    (subst (λ (cs : List Change). AreWays files c.args.content.statements cs ways) (c.as_slice-3.ensures ∙ c.new-none.ensures)
    (subst (λ (ss : List StmtAt). AreWays files ss c.as_slice-3.result.now ways) c.as_slice-2.ensures (c.in_ok-ways.ensures is_given.blocks is_given.meant)))
    (marked_more (length (blocks_of files)) entry [] g.marks c.set.new.self (marks_here given g is_given empty) below c.set.ensures.length c.set.ensures.others)
