-- What statements and members are, as they are handed out.
use Rattle.std.specs.Prelude.{ℕ}
use Rattle.ato_ast.specs.declared.stmts.Stmt.{Stmt}
use Rattle.ato_files.specs.Members.{signal, instance, param}
use Rattle.ato_files.specs.Members as kinds
use Rattle.ato_instance_tree.specs.declared.type_stmts.StmtAt.{StmtAt}
use Rattle.ato_instance_tree.specs.declared.type_members.Kind.{Kind}
use Rattle.ato_instance_tree.specs.declared.type_members.Kind.TheVariants as kind
use Rattle.ato_instance_tree.specs.declared.type_members.Member.{Member}
use Rattle.ato_instance_tree.specs.declared.type_members.Member.TheVariants as member
use Rattle.ato_instance_tree.specs.Types.{Located}
use Rattle.ato_instance_tree.specs.Members as members
use Rattle.ato_instance_tree.specs.Members.{pin, named}

-- the statement of a block, and where it stands
abbrev pub located_of : StmtAt → Located
located_of s = record { block = s.block; line = s.line; part = s.part; stmt = s.stmt.now }

-- a statement of a line, with its number in the line
abbrev pub placed : ℕ → ℕ → ℕ × Stmt → Located
placed block line p = record { block = block; line = line; part = p.0; stmt = p.1 }

abbrev pub stmt_of : StmtAt → Stmt
stmt_of s = s.stmt.now

abbrev pub kind_of : Kind → kinds.Kind
kind_of kind.Signal = signal
kind_of kind.Param = param
kind_of (kind.Instance type) = instance type

abbrev pub member_of : Member → members.Member
member_of (member.Pin text) = pin text.now
member_of (member.Named name k) = named name (kind_of k)
