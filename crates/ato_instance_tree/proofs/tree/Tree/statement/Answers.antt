use Rattle.std.proofs.Common.{◌∙◌}
use Rattle.ato_instance_tree.proofs.WalkedLaws.{statement_walked}
use Rattle.ato_instance_tree.proofs.tree.Tree.statement.Goals as goal

pub returns-clause-walked : goal.returns-clause-walked
returns-clause-walked c = λ are most name is. c.statement_of.ensures are ∙ statement_walked most c.args.program.now name c.args.self.now is c.args.occurrence
