use Rattle.std.proofs.Common.{sym, ap, ◌∙◌}
use Rattle.ato_instance_tree.specs.declared.tree.NodeKind.TheVariants as node
use Rattle.ato_instance_tree.specs.Kinds.{kind_from}
use Rattle.ato_instance_tree.proofs.KindLaws.{kind_is}
use Rattle.ato_instance_tree.proofs.LineageWords.{no_kind}
use Rattle.ato_instance_tree.proofs.kinds.kind.Goals as goal

pub returns-in-Some : goal.returns-in-Some
returns-in-Some c = λ are. c.kind_from.ensures are ∙ ap (kind_from c.args.program.now.files node.Interface) (c.in-Some.ensures are) ∙ kind_is c.args.program.now.files c.args.block

pub returns-in-None : goal.returns-in-None
returns-in-None c = λ are. sym (no_kind c.args.program.now.files c.args.block (c.in-None.ensures are))
