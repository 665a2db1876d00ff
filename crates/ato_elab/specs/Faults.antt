-- What is wrong where a path leads, without the path of the instance. Only private functions have clauses in these words.
use Rattle.std.specs.Prelude.{ℕ, Bool, true, false, List, [], ◌∷◌, Option, Some, None, if◌then◌else◌, not}
use Rattle.ato_base.specs.declared.places.Span.{Span}
use Rattle.ato_base.specs.declared.faults.FaultKind.TheVariants as kinds
use Rattle.ato_elab.specs.declared.faults.Mark.{Mark}
use Rattle.ato_elab.specs.declared.faults.Wanted.{Wanted}
use Rattle.ato_elab.specs.declared.faults.Wanted.TheVariants as wanted
use Rattle.ato_elab.specs.declared.finding_names.Sort.{Sort}
use Rattle.ato_elab.specs.declared.finding_names.Sort.TheVariants as sort
use Rattle.ato_elab.specs.declared.finding_paths.Found.{Found}
use Rattle.ato_elab.specs.declared.finding_paths.Found.TheVariants as found

abbrev pub no_such : Span → Mark
no_such at = record { kind = kinds.NoSuchMember; at = at }

abbrev pub wrong : Span → Mark
wrong at = record { kind = kinds.WrongKind; at = at }

abbrev pub sort_is_param : Sort → Bool
sort_is_param sort.Param = true
sort_is_param sort.Signal = false
sort_is_param sort.Instance = false

abbrev pub sort_is_instance : Sort → Bool
sort_is_instance sort.Instance = true
sort_is_instance sort.Signal = false
sort_is_instance sort.Param = false

-- A member of this sort may stand here.
abbrev pub fits : Wanted → Sort → Bool
fits wanted.End s = not (sort_is_param s)
fits wanted.Param s = sort_is_param s
fits wanted.Instance s = sort_is_instance s

-- A pin may stand here.
abbrev pub takes_pins : Wanted → Bool
takes_pins wanted.End = true
takes_pins wanted.Param = false
takes_pins wanted.Instance = false

-- what is wrong where something else is wanted
abbrev pub judged : Wanted → Found → Option Mark
judged w (found.Lost at) = Some (no_such at)
judged w (found.Free instance n) = Some (no_such n.at)
judged w (found.Member instance n number s) = if fits w s then None else Some (wrong n.at)
judged w (found.Pin n) = if takes_pins w then None else Some (wrong n.at)

-- what is wrong where a name is wanted that is no member
abbrev pub text_judged : Found → Option Mark
text_judged (found.Lost at) = Some (no_such at)
text_judged (found.Free instance n) = None
text_judged (found.Member instance n number s) = Some (wrong n.at)
text_judged (found.Pin n) = Some (wrong n.at)
