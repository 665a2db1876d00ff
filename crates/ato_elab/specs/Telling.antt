-- What is told of a first mark. Only private functions have clauses in these words.
use Rattle.std.specs.Prelude.{◌≡◌, ℕ, List, Option, Some, None, ⊤, length, map, reverse, slice_get}
use Rattle.ato_base.specs.declared.places.Place.TheVariants as place
use Rattle.ato_instance_tree.specs.declared.tree.Occurrence.{Occurrence}
use Rattle.ato_instance_tree.specs.declared.tree.Late.{Late}
use Rattle.ato_elab.specs.declared.built.Built.{Built}
use Rattle.ato_elab.specs.declared.faults.Mark.{Mark}
use Rattle.ato_elab.specs.declared.late_ground.Ground.{Ground}
use Rattle.ato_elab.specs.Climbing.{climbed}
use Rattle.ato_elab.specs.Late.{marks_from}

-- The fault is that of a mark in the occurrence of a number.
pub record IsLate (names : List (List ℕ)) (built : Built) (m : ℕ × Mark) (late : Late) : Type 0 where
  pub entry : Occurrence
  pub at : slice_get built.occurrences m.0 ≡ Some entry
  pub occurrence : late.occurrence ≡ m.0
  pub kind : late.fault.kind ≡ m.1.kind
  pub place : late.fault.at ≡ place.Source m.1.at
  pub other : late.fault.other ≡ None
  pub path : climbed names built.nodes (length built.nodes) entry.node ≡ Some (reverse (map (λ n. n.0) late.fault.path))

abbrev pub AreLate : List (List ℕ) → Built → Option (ℕ × Mark) → Option Late → Type 0
AreLate names built None None = ⊤
AreLate names built None (Some late) = ⊥
AreLate names built (Some m) None = ⊥
AreLate names built (Some m) (Some late) = IsLate names built m late

-- The fault is that of the first mark.
pub record IsFirstLate (names : List (List ℕ)) (g : Ground) (late : Option Late) : Type 0 where
  pub is : AreLate names g.built.now (marks_from g 0 (map (λ s. s.now) g.stmts.now)) late
