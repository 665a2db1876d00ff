-- The kinds of fault.
use Rattle.std.specs.Prelude.{ℕ, List, codes}
use Rattle.ato_base.specs.declared.faults.FaultKind.{FaultKind}
use Rattle.ato_base.specs.declared.faults.FaultKind.TheVariants as kinds

-- the number and the name of each kind of fault
abbrev pub kind_line : FaultKind → ℕ × List ℕ
kind_line kinds.BadText = (1, codes "BadText")
kind_line kinds.BadChar = (2, codes "BadChar")
kind_line kinds.OpenString = (3, codes "OpenString")
kind_line kinds.BadIndent = (4, codes "BadIndent")
kind_line kinds.WideNumber = (5, codes "WideNumber")
kind_line kinds.Syntax = (6, codes "Syntax")
kind_line kinds.TooDeep = (7, codes "TooDeep")
kind_line kinds.FileMissing = (8, codes "FileMissing")
kind_line kinds.FileTooLong = (9, codes "FileTooLong")
kind_line kinds.TooManyFiles = (10, codes "TooManyFiles")
kind_line kinds.NameUnknown = (11, codes "NameUnknown")
kind_line kinds.NameTwice = (12, codes "NameTwice")
kind_line kinds.SuperLoop = (13, codes "SuperLoop")
kind_line kinds.NestLoop = (14, codes "NestLoop")
kind_line kinds.NoSuchMember = (15, codes "NoSuchMember")
kind_line kinds.NotSpecial = (16, codes "NotSpecial")
kind_line kinds.TreeTooLarge = (17, codes "TreeTooLarge")
kind_line kinds.WrongKind = (18, codes "WrongKind")
kind_line kinds.CannotConnect = (19, codes "CannotConnect")
kind_line kinds.NoHeader = (20, codes "NoHeader")
kind_line kinds.ColumnTwice = (21, codes "ColumnTwice")
kind_line kinds.BadRow = (22, codes "BadRow")
kind_line kinds.BadCell = (23, codes "BadCell")
kind_line kinds.PartTwice = (24, codes "PartTwice")
kind_line kinds.TooManyRows = (25, codes "TooManyRows")
kind_line kinds.UnitFault = (26, codes "UnitFault")
kind_line kinds.Unvalued = (27, codes "Unvalued")
kind_line kinds.DefinitionLoop = (28, codes "DefinitionLoop")
kind_line kinds.EmptyRange = (29, codes "EmptyRange")
kind_line kinds.ProblemTooLarge = (30, codes "ProblemTooLarge")

-- the number, which is printed behind an F
abbrev pub kind_number : FaultKind → ℕ
kind_number kind = (kind_line kind).0

-- the name, which is printed behind the number
abbrev pub kind_name : FaultKind → List ℕ
kind_name kind = (kind_line kind).1
