-- Worked rows of the prefixes of designators, and of the order of faults of paths.
use Rattle.std.proofs.Common.{◌≡◌, ℕ, false, true, List, [], ◌∷◌, Option, Some, None, codes, refl}
use Rattle.ato_base.specs.declared.places.Place.TheVariants as place
use Rattle.ato_base.specs.declared.faults.Fault.{Fault}
use Rattle.ato_base.specs.declared.faults.FaultKind.TheVariants as kinds
use Rattle.ato_ast.specs.declared.blocks.BlockKind.TheVariants.{Module, Component}
use Rattle.ato_ast.specs.declared.stmts.Stmt.{Stmt}
use Rattle.ato_files.proofs.Written.{span, nm, quoted, block}
use Rattle.ato_instance_tree.specs.PathFaults.{is_prefix, path_fault}
use Rattle.ato_instance_tree.specs.TreeFaults.{fault_in}
use Rattle.ato_instance_tree.proofs.Written.{written, dotted, pass, make, connect, assign, text, truth}
use Rattle.ato_instance_tree.proofs.PathRows.{keys, told}

-- ---- 1 to 8 letters

pub letters : is_prefix (codes "AZaz") ≡ true
letters = refl

pub eight_letters : is_prefix (codes "ABCDEFGH") ≡ true
eight_letters = refl

pub nine_letters : is_prefix (codes "ABCDEFGHI") ≡ false
nine_letters = refl

pub no_letter : is_prefix [] ≡ false
no_letter = refl

pub other_bytes : (is_prefix (codes "@") ≡ false) × (is_prefix (codes "[") ≡ false) × (is_prefix (codes "`") ≡ false) × (is_prefix (codes "{") ≡ false) × (is_prefix (codes "R1") ≡ false)
other_bytes = (refl, refl, refl, refl, refl)

-- C with some statements, and Top with `r = new C` and others; the digit 0 stands at 0, nine letters behind it, and then a digit again
abbrev prefixed : List Stmt → List Stmt → Option (ℕ × Fault)
prefixed own around = path_fault (written (codes "0ABCDEFGHI2") (block Component (nm 5 1) None own ∷ block Module (nm 8 50) None (make (nm 9 51) (nm 5 52) ∷ around) ∷ [])) 1 keys

-- `designator_prefix` with so many bytes behind a place
abbrev prefix : ℕ → ℕ → List Stmt
prefix at long = assign (dotted (nm 13 54 ∷ [])) (text at long) ∷ []

abbrev r_prefix : ℕ → ℕ → List Stmt
r_prefix at long = assign (dotted (nm 9 54 ∷ nm 13 55 ∷ [])) (text at long) ∷ []

-- occurrence 1, in C
abbrev in_part : ℕ → ℕ → Option (ℕ × Fault)
in_part at long = Some (1, fault_in (9 ∷ []) kinds.WrongKind (place.Source (quoted 1 at long).at))

pub eight_good : prefixed (prefix 0 8) [] ≡ None
eight_good = refl

pub nine_bad : prefixed (prefix 0 9) [] ≡ in_part 0 9
nine_bad = refl

pub none_bad : prefixed (prefix 0 0) [] ≡ in_part 0 0
none_bad = refl

pub digit_bad : prefixed (prefix 9 1) [] ≡ in_part 9 1
digit_bad = refl

-- it is looked at only where it counts
pub bad_replaced : prefixed (prefix 9 1) (r_prefix 0 3) ≡ None
bad_replaced = refl

pub bad_replaced_inside : prefixed (assign (dotted (nm 13 54 ∷ [])) (text 9 1) ∷ prefix 0 3) [] ≡ None
bad_replaced_inside = refl

-- in the path of the statement that assigns it, which is occurrence 1 of Top
pub good_replaced : prefixed (prefix 0 3) (r_prefix 9 1) ≡ Some (1, fault_in [] kinds.WrongKind (place.Source (quoted 1 9 1).at))
good_replaced = refl

-- on an instance that is no part, and on the root
pub on_the_root : prefixed [] (prefix 9 1) ≡ Some (1, fault_in [] kinds.WrongKind (place.Source (quoted 1 9 1).at))
on_the_root = refl

-- another name takes any string
pub other_name : prefixed (assign (dotted (nm 12 54 ∷ [])) (text 9 1) ∷ []) [] ≡ None
other_name = refl

-- a truth value is no string, and leaves the string in place
pub truth_is_no_prefix : prefixed (assign (dotted (nm 13 54 ∷ [])) (truth 60) ∷ []) [] ≡ None
truth_is_no_prefix = refl

pub truth_replaces_not : prefixed (prefix 9 1) (assign (dotted (nm 9 54 ∷ nm 13 55 ∷ [])) (truth 60) ∷ []) ≡ Some (2, fault_in (9 ∷ []) kinds.WrongKind (place.Source (quoted 1 9 1).at))
truth_replaces_not = refl

-- ---- an instance's statements before those below it, whatever stands earlier in the source

pub around_first : prefixed (connect (dotted (nm 3 20 ∷ [])) (dotted (nm 3 21 ∷ [])) ∷ []) (connect (dotted (nm 3 60 ∷ [])) (dotted (nm 9 61 ∷ [])) ∷ []) ≡ told kinds.NoSuchMember 60
around_first = refl

-- with the number of the occurrence and the path of its instance
pub below_later : prefixed (pass ∷ connect (dotted (nm 3 20 ∷ [])) (dotted (nm 3 21 ∷ [])) ∷ []) (pass ∷ []) ≡ Some (3, fault_in (9 ∷ []) kinds.NoSuchMember (place.Source (span 1 20 21)))
below_later = refl
