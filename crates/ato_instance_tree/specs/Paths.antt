-- Where the written paths of a statement lead, and what must be at their ends.
use Rattle.std.specs.Prelude.{ℕ, Bool, true, false, not, List, [], ◌∷◌, Option, Some, None, if◌then◌else◌}
use Rattle.std.specs.List.{flat_map, list_any}
use Rattle.std.specs.Str.{bytes_eq}
use Rattle.ato_base.specs.declared.places.Span.{Span}
use Rattle.ato_base.specs.declared.places.Place.TheVariants as place
use Rattle.ato_base.specs.declared.faults.Fault.{Fault}
use Rattle.ato_base.specs.declared.faults.FaultKind.TheVariants as kinds
use Rattle.ato_base.specs.declared.tokens.TokenKind.{TokenKind}
use Rattle.ato_base.specs.declared.tokens.TokenKind.TheVariants as token
use Rattle.ato_ast.specs.declared.names.Named.{Named}
use Rattle.ato_ast.specs.declared.paths.Path.{Path}
use Rattle.ato_files.specs.declared.program.SourceFile.{SourceFile}
use Rattle.ato_files.specs.Lists.{last_of}
use Rattle.ato_files.specs.Members.{Kind, signal, instance, param, member}
use Rattle.ato_instance_tree.specs.Types.{stmts_of_type}
use Rattle.ato_instance_tree.specs.Members.{Member, pin, named, members, source_text}
use Rattle.ato_instance_tree.specs.Walk.{type_at}
use Rattle.ato_instance_tree.specs.TreeFaults.{fault_in}

-- A member of the instance at a path, a pin of it, or a name that is no member of it; or the first place where a path breaks off.
pub data Found : Type 0 where
  lost : Span → Found
  free : List ℕ → Named → Found
  member_of : List ℕ → Named → Kind → Found
  pin_of : List ℕ → Named → Found

-- what a name is in the instance at a path
abbrev pub member_at : List SourceFile → ℕ → List ℕ → ℕ → Option Kind
member_at files entry path name = member (stmts_of_type files (type_at files entry path)) name

abbrev pub end_found : List ℕ → Named → Option Kind → Found
end_found path n None = free path n
end_found path n (Some k) = member_of path n k

-- On from a name to the next one of a path: only instances have members.
abbrev pub onward : Named → Named → Option Kind → Found → Found
onward n next None found = lost n.at
onward n next (Some (instance type)) found = found
onward n next (Some signal) found = lost next.at
onward n next (Some param) found = lost next.at

abbrev pub find_steps : List SourceFile → ℕ → List ℕ → Named → List Named → Found
find_steps files entry path n [] = end_found path n (member_at files entry path n.name.0)
find_steps files entry path n (m ∷ more) = onward n m (member_at files entry path n.name.0) (find_steps files entry (n.name.0 ∷ path) m more)

-- ---- pins at the end of a path

abbrev pub is_pin_of : List ℕ → Member → Bool
is_pin_of text (pin other) = bytes_eq text other
is_pin_of text (named n k) = false

abbrev pub has_pin : List Member → List ℕ → Bool
has_pin ms text = list_any (is_pin_of text) ms

-- where the number behind the last point of a path stands
abbrev pub number_place : TokenKind → List Span
number_place (token.Number whole small at) = at ∷ []
number_place _ = []

-- The name is an instance with a pin of this label, or the label is no member.
abbrev pub pin_found : List SourceFile → ℕ → Span → Found → Found
pin_found files entry number (member_of path n (instance type)) =
    if has_pin (members files (type_at files entry (n.name.0 ∷ path))) (source_text files number) then pin_of (n.name.0 ∷ path) n else lost number
pin_found files entry number (member_of path n signal) = lost number
pin_found files entry number (member_of path n param) = lost number
pin_found files entry number (pin_of path n) = lost number
pin_found files entry number (free path n) = lost n.at
pin_found files entry number (lost at) = lost at

abbrev pub steps_found : List SourceFile → ℕ → List ℕ → Span → List Named → Found
steps_found files entry path whole [] = lost whole
steps_found files entry path whole (n ∷ more) = find_steps files entry path n more

abbrev pub ended : List SourceFile → ℕ → Span → List Span → Found → Found
ended files entry whole [] found = lost whole
ended files entry whole (number ∷ more) found = pin_found files entry number found

abbrev pub pin_ended : List SourceFile → ℕ → Span → Option TokenKind → Found → Found
pin_ended files entry whole None found = found
pin_ended files entry whole (Some kind) found = ended files entry whole (number_place kind) found

-- where a path of a statement of the instance at a path leads
abbrev pub find_path : List SourceFile → ℕ → List ℕ → Path → Found
find_path files entry path p = pin_ended files entry p.at p.pin (steps_found files entry path p.at p.steps)

-- ---- what must be at an end

abbrev pub no_member : List ℕ → Span → Fault
no_member path at = fault_in path kinds.NoSuchMember (place.Source at)

abbrev pub wrong_kind : List ℕ → Span → Fault
wrong_kind path at = fault_in path kinds.WrongKind (place.Source at)

-- the fault of a path whose end must pass a test; `pins` tells whether a pin does
abbrev pub must_be : (Kind → Bool) → Bool → List ℕ → Found → List Fault
must_be test pins path (lost at) = no_member path at ∷ []
must_be test pins path (free holder n) = no_member path n.at ∷ []
must_be test pins path (member_of holder n k) = if test k then [] else wrong_kind path n.at ∷ []
must_be test pins path (pin_of holder n) = if pins then [] else wrong_kind path n.at ∷ []

abbrev pub is_param : Kind → Bool
is_param param = true
is_param _ = false

abbrev pub is_instance : Kind → Bool
is_instance (instance type) = true
is_instance _ = false

-- An end of a connection is no parameter.
abbrev pub end_faults : List SourceFile → ℕ → List ℕ → Path → List Fault
end_faults files entry path p = must_be (λ k. not (is_param k)) true path (find_path files entry path p)

-- A path in an expression, and one to which a literal or an expression is assigned, is a parameter.
abbrev pub param_faults : List SourceFile → ℕ → List ℕ → Path → List Fault
param_faults files entry path p = must_be is_param false path (find_path files entry path p)

-- A replacement is of an instance.
abbrev pub instance_path_faults : List SourceFile → ℕ → List ℕ → Path → List Fault
instance_path_faults files entry path p = must_be is_instance false path (find_path files entry path p)

-- A string is assigned to a name of an instance that is no other member.
abbrev pub text_found : List ℕ → Found → List Fault
text_found path (lost at) = no_member path at ∷ []
text_found path (free holder n) = []
text_found path (member_of holder n k) = wrong_kind path n.at ∷ []
text_found path (pin_of holder n) = wrong_kind path n.at ∷ []

abbrev pub text_faults : List SourceFile → ℕ → List ℕ → Path → List Fault
text_faults files entry path p = text_found path (find_path files entry path p)
