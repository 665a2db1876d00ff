use Rattle.std.proofs.Common.{[], map}
use Rattle.ato_instance_tree.specs.Kept.{stmt_of}
use Rattle.ato_instance_tree.specs.Seen.{IsListed}
use Rattle.ato_instance_tree.proofs.type_members.members.Goals as goal

pub returns : goal.returns
returns c = (c.in_ok-push_stmts.ensures (map stmt_of c.args.statements.now) c.in_ok-declared.ensures [] c.new-listing.ensures).found
