use Rattle.std.specs.Prelude.{ℕ, ◌+◌, ◌==◌, if◌then◌else◌, List, [], ◌∷◌, ◌++◌, codes, slice_get}
use Rattle.std.specs.List.{flat_map}
use Rattle.std.specs.Option.{option_map_or}
use Rattle.std.specs.Fmt.{decimal}
use Rattle.ato_base.specs.declared.nets.Comp.{Comp}
use Rattle.ato_base.specs.declared.nets.NetPin.{NetPin}
use Rattle.ato_base.specs.declared.nets.Net.{Net}
use Rattle.ato_base.specs.declared.nets.NetList.{NetList}

-- in quotes, \ and " and LF are written \\ and \" and \n
abbrev pub escaped : ℕ → List ℕ
escaped b = if b == 92 then 92 ∷ 92 ∷ [] else (if b == 34 then 92 ∷ 34 ∷ [] else (if b == 10 then 92 ∷ 110 ∷ [] else b ∷ []))

unfoldable pub quoted : List ℕ → List ℕ
quoted text = 34 ∷ (flat_map escaped text ++ 34 ∷ [])

-- a text in quotes, after an opening
unfoldable pub field : List ℕ → List ℕ → List ℕ
field opening text = opening ++ quoted text

unfoldable pub comp_text : Comp → List ℕ
comp_text comp = field (codes "    (comp (ref ") comp.designator ++ (field (codes ") (value ") comp.value
    ++ (field (codes ") (footprint ") comp.footprint ++ (field (codes ") (path ") comp.path ++ codes "))\n")))

-- the designator of a part, or nothing where there is none
abbrev pub designator_at : List Comp → ℕ → List ℕ
designator_at comps k = option_map_or (λ comp. comp.designator) (slice_get comps k) []

unfoldable pub node_text : List Comp → NetPin → List ℕ
node_text comps pin = field (codes "      (node (ref ") (designator_at comps pin.comp) ++ (field (codes ") (pin ") pin.label ++ codes "))\n")

unfoldable pub net_text : List Comp → ℕ → Net → List ℕ
net_text comps code net = field (codes "    (net (code ") (decimal code) ++ (field (codes ") (name ") net.name ++ (codes ")\n"
    ++ (flat_map (node_text comps) net.pins ++ codes "    )\n")))

-- nets with codes from this one on
abbrev pub nets_text : List Comp → ℕ → List Net → List ℕ
nets_text comps code [] = []
nets_text comps code (net ∷ nets) = net_text comps code net ++ nets_text comps (code + 1) nets

unfoldable pub list_text : NetList → List ℕ
list_text list = codes "(export (version \"ato-1\")\n  (components\n" ++ (flat_map comp_text list.comps
    ++ (codes "  )\n  (nets\n" ++ (nets_text list.comps 1 list.nets ++ codes "  )\n)\n")))
