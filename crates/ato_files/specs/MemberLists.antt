-- Only private functions have clauses in these words.
-- What the statements of a block name, in lists.
use Rattle.std.specs.Prelude.{List, [], ◌∷◌, ◌++◌, map}
use Rattle.std.specs.List.{flat_map}
use Rattle.ato_ast.specs.declared.names.Named.{Named}
use Rattle.ato_ast.specs.declared.paths.Point.{Point}
use Rattle.ato_ast.specs.declared.stmts.Stmt.{Stmt}
use Rattle.ato_ast.specs.declared.blocks.Block.{Block}
use Rattle.ato_files.specs.declared.members.Sort.{Sort}
use Rattle.ato_files.specs.declared.members.Sort.TheVariants as sorts
use Rattle.ato_files.specs.declared.members.Declared.{Declared}
use Rattle.ato_files.specs.declared.members.Members.{Members}
use Rattle.ato_files.specs.Members.{Kind, signal, instance, param, Decl, point_decls, point_pins, decls, pins, stmts_of}
use Rattle.ato_files.specs.NameFaults.{type_names, new_names}

abbrev pub sort_of : Kind → Sort
sort_of signal = sorts.Signal
sort_of (instance type) = sorts.Instance
sort_of param = sorts.Param

abbrev pub declared_of : Decl → Declared
declared_of d = record { name = d.name; sort = sort_of d.kind }

abbrev pub no_members : Members
no_members = record { types = []; made = []; decls = []; pins = [] }

-- with what these points declare
abbrev pub with_points : Members → List Point → Members
with_points m ps = record {
  types = m.types;
  made = m.made;
  decls = m.decls ++ map declared_of (flat_map point_decls ps);
  pins = m.pins ++ flat_map point_pins ps;
}

-- with an instance of a type
abbrev pub with_made : Members → Named → Named → Members
with_made m name type = record {
  types = m.types ++ type ∷ [];
  made = m.made ++ type ∷ [];
  decls = m.decls ++ record { name = name; sort = sorts.Instance } ∷ [];
  pins = m.pins;
}

-- with what these statements name
abbrev pub with_stmts : Members → List Stmt → Members
with_stmts m ss = record {
  types = m.types ++ flat_map type_names ss;
  made = m.made ++ flat_map new_names ss;
  decls = m.decls ++ map declared_of (flat_map decls ss);
  pins = m.pins ++ flat_map pins ss;
}

-- what the statements of a block name
abbrev pub members_in : Block → Members
members_in b = with_stmts no_members (stmts_of b)
