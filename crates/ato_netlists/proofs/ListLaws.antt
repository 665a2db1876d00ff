-- The net list of a tree is made from what fits its nodes.
use Rattle.std.proofs.Common.{◌≡◌, ℕ, zero, suc, ◌+◌, ◌<◌, Bool, true, false, List, [], ◌∷◌, length, get_or, sym, ◌∙◌, subst, arith, if◌then◌else◌}
use Rattle.std.specs.Prelude.{All}
use Rattle.std.proofs.lemmas.List.{get_or_default}
use Rattle.std.proofs.lemmas.Option.{slice_get_within}
use Rattle.ato_base.specs.declared.nets.Comp.{Comp}
use Rattle.ato_base.specs.declared.nets.Net.{Net}
use Rattle.ato_base.specs.declared.nets.PartRow.{PartRow}
use Rattle.ato_files.specs.declared.program.Program.{Program}
use Rattle.ato_instance_tree.specs.declared.tree.Node.{Node}
use Rattle.ato_instance_tree.specs.declared.tree.Tree.{Tree}
use Rattle.ato_instance_tree.specs.Order.{nodes}
use Rattle.ato_instance_tree.specs.Trees.{is_pin}
use Rattle.ato_links.specs.ByNumbers.{nets_by}
use Rattle.ato_links.specs.Joins.{AreClasses}
use Rattle.ato_links.specs.Linked.{library_of}
use Rattle.ato_links.specs.Nets.{AreNets, IsNetList}
use Rattle.ato_links.specs.Parts.{parts}
use Rattle.ato_links.proofs.NetLaws.{nets_by_numbers}
use Rattle.ato_netlists.specs.declared.parts.Part.{Part}
use Rattle.ato_netlists.specs.Comps.{comps_by}
use Rattle.ato_netlists.specs.Known.{IsSound}
use Rattle.ato_netlists.specs.Parts.{AreParts}
use Rattle.ato_netlists.specs.Pins.{pin_numbers}
use Rattle.ato_netlists.proofs.CompLaws.{comps_are}
use Rattle.ato_netlists.proofs.NodeLaws.{as_long}

-- pins are nodes
pins_from : (n : ℕ) (ns : List Node) → All (λ pin. pin < n + length ns) (pin_numbers n ns)
pins_from n [] = λ k d h. absurd (omega (arith, h))
pins_from n (x ∷ ns) = by (is_pin x.kind) (pins_from (suc n) ns) where
  by : (b : Bool) → All (λ pin. pin < suc n + length ns) (pin_numbers (suc n) ns) → All (λ pin. pin < n + length (x ∷ ns)) (if b then n ∷ pin_numbers (suc n) ns else pin_numbers (suc n) ns)
  by true all = λ k d h. each k d h
    where
      each : (k d : ℕ) → k < length (n ∷ pin_numbers (suc n) ns) → get_or (n ∷ pin_numbers (suc n) ns) k d < n + length (x ∷ ns)
      each zero d h = omega arith
      each (suc k) d h = omega (arith, all k d (omega (arith, h)))
  by false all = λ k d h. omega (arith, all k d h)

pub pins_within : (ns : List Node) (pins : List ℕ) → pins ≡ pin_numbers 0 ns → All (λ pin. pin < length ns) pins
pins_within ns pins e = subst (All (λ pin. pin < length ns)) (sym e) (λ k d h. omega (arith, pins_from 0 ns k d h))

module _ (program : Program) (tree : Tree) (entry : ℕ) (sound : IsSound program tree entry) (of : List ℕ) (are : AreClasses program.files entry (library_of program) of) where
  pub classes_size : length of ≡ length tree.nodes
  classes_size = are.size ∙ sym (as_long program tree entry sound)

  -- the number of a class is that of a node
  pub classes_within : All (λ class. class < length of) of
  classes_within = λ k d h.
      let j = are.joined k (omega (arith, h, are.size)) in
      omega (arith, slice_get_within (nodes program.files entry) (get_or of k 0) j.other j.is_other, get_or_default of k d 0 h, are.size)

  pub list_made : (ps : List Part) (rows : List PartRow) (comps : List Comp) (nets : List Net) → AreParts program entry ps → comps ≡ comps_by ps rows
      → nets ≡ nets_by program.files entry program.names of → IsNetList program.files entry program.names (library_of program) rows (record { comps = comps; nets = nets })
  list_made ps rows comps nets are_parts e f = record {
    comps = e ∙ comps_are program entry (parts program.files entry program.names) ps rows are_parts;
    nets = subst (AreNets program.files entry program.names (library_of program)) (sym f) (nets_by_numbers program.files entry program.names (library_of program) of are);
  }
