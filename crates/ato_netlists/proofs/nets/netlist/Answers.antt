use Rattle.std.proofs.Common.{◌<◌, length, get_or, refl, ap, sym, ◌∙◌, subst, arith}
use Rattle.std.specs.Prelude.{All, IfSome, ◌==◌}
use Rattle.std.specs.List.{position_or_len}
use Rattle.std.proofs.lemmas.Option.{slice_get_within}
use Rattle.ato_instance_tree.specs.declared.tree.Node.{Node}
use Rattle.ato_instance_tree.specs.Order.{made_at, nodes}
use Rattle.ato_links.specs.ByNumbers.{nets_by}
use Rattle.ato_netlists.specs.declared.parts.Part.{Part}
use Rattle.ato_netlists.specs.Comps.{comps_by}
use Rattle.ato_netlists.specs.Known.{IsSound}
use Rattle.ato_netlists.specs.Parts.{AreParts}
use Rattle.ato_netlists.specs.Signals.{AreSignals}
use Rattle.ato_netlists.proofs.ListLaws.{classes_size, classes_within, pins_within, list_made}
use Rattle.ato_netlists.proofs.NodeLaws.{as_long, parents_within}
use Rattle.ato_netlists.proofs.NumberLaws.{by_path}
use Rattle.ato_netlists.proofs.nets.netlist.Goals as goal

pub signals-requires-clause-size : goal.signals-requires-clause-size
signals-requires-clause-size c =
    let t = c.requires.tree in
    let sound : IsSound c.args.program.now c.args.tree.now t.is.entry
    = record { loaded = c.requires.loaded; most = t.most; name = t.name; is = t.is; entry_is = refl; sound = c.requires.sound } in
    ap length c.as_slice-2.ensures ∙ classes_size c.args.program.now c.args.tree.now t.is.entry sound c.args.classes.now.of (c.requires.classes t.most t.name t.is).classes ∙ sym (ap length c.as_slice-nodes.ensures)

pub signals-requires-clause-classes : goal.signals-requires-clause-classes
signals-requires-clause-classes c =
    let t = c.requires.tree in
    let sound : IsSound c.args.program.now c.args.tree.now t.is.entry
    = record { loaded = c.requires.loaded; most = t.most; name = t.name; is = t.is; entry_is = refl; sound = c.requires.sound } in
    subst (λ l. All (λ class. class < length l) l) (sym c.as_slice-2.ensures)
    (classes_within c.args.program.now c.args.tree.now t.is.entry sound c.args.classes.now.of (c.requires.classes t.most t.name t.is).classes)

pub nets-requires : goal.nets-requires
nets-requires c =
    let t = c.requires.tree in
    let sound : IsSound c.args.program.now c.args.tree.now t.is.entry
    = record { loaded = c.requires.loaded; most = t.most; name = t.name; is = t.is; entry_is = refl; sound = c.requires.sound } in
    let are = (c.requires.classes t.most t.name t.is).classes in
    record {
      within = record {
        size = ap length c.as_slice-3.ensures ∙ classes_size c.args.program.now c.args.tree.now t.is.entry sound c.args.classes.now.of are ∙ sym (ap length c.as_slice-nodes.ensures);
        classes = subst (λ l. All (λ class. class < length l) l) (sym c.as_slice-3.ensures) (classes_within c.args.program.now c.args.tree.now t.is.entry sound c.args.classes.now.of are);
        parts = ap length c.deref.ensures.value ∙ c.in_ok-numbers.ensures.size;
        pins = pins_within c.as_slice-nodes.result.now c.as_slice-4.result.now (c.as_slice-4.ensures ∙ c.in_ok-pins.ensures);
        signals = subst (λ of. AreSignals c.as_slice-nodes.result.now of c.deref-2.result.now) (c.as_slice-2.ensures ∙ sym c.as_slice-3.ensures)
            (subst (AreSignals c.as_slice-nodes.result.now c.as_slice-2.result.now) (sym c.deref-2.ensures.value) c.in_ok-signals.ensures);
        parents = subst (λ ns. All (λ (n : Node). IfSome n.parent (λ parent. parent < length ns)) ns) (sym c.as_slice-nodes.ensures) (parents_within c.args.program.now c.args.tree.now t.is.entry sound);
      };
    }

pub returns : goal.returns
returns c = λ most name is.
    let program = c.args.program.now in
    let tree = c.args.tree.now in
    let entry = is.entry in
    let found = c.in_ok-found.found in
    let sound : IsSound program tree entry = record { loaded = c.requires.loaded; most = most; name = name; is = is; entry_is = refl; sound = c.requires.sound } in
    let are_parts : AreParts program entry found = c.in_ok-found.ensures program entry sound (c.in_ok-strings.ensures entry sound) in
    list_made program tree entry sound c.args.classes.now.of (c.requires.classes most name is).classes found c.args.parts.now c.in_ok-comps.field-0 c.in_ok-nets.field-0 are_parts
    (c.in_ok-comps.ensures ∙ ap (λ ps. comps_by ps c.args.parts.now) c.as_slice-5.ensures)
    (c.in_ok-nets.ensures tree entry (record {
      sound = sound;
      nodes = c.as_slice-nodes.ensures;
      parts = λ number path at.
          let inside : number < length c.as_slice-nodes.result.now = omega (arith, slice_get_within (nodes program.files entry) number (made_at path) at.is, as_long program tree entry sound, ap length c.as_slice-nodes.ensures) in
          ap (λ l. get_or l number 0) c.deref.ensures.value ∙ c.in_ok-numbers.ensures.each number inside
          ∙ ap (position_or_len (λ (p : Part). p.node == number)) c.as_slice.ensures ∙ by_path program entry number path at found are_parts;
      pins = c.as_slice-4.ensures ∙ c.in_ok-pins.ensures;
    }) ∙ ap (nets_by program.files entry program.names) c.as_slice-3.ensures)
