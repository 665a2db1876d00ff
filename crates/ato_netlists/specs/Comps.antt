-- The parts of a net list by what is held of parts. Only private functions have clauses in these words.
use Rattle.std.specs.Prelude.{List, [], ◌∷◌}
use Rattle.ato_base.specs.declared.nets.Comp.{Comp}
use Rattle.ato_base.specs.declared.nets.PartRow.{PartRow}
use Rattle.ato_links.specs.Nets.{comp_of}
use Rattle.ato_netlists.specs.declared.parts.Part.{Part}

-- parts by their rows, as long as there is a row
abbrev pub comps_by : List Part → List PartRow → List Comp
comps_by [] rows = []
comps_by (part ∷ parts) [] = []
comps_by (part ∷ parts) (row ∷ rows) = comp_of part.slot row ∷ comps_by parts rows
