-- The fault of the first clash, that of the first fault of paths, or the classes.
use Rattle.ato_connections.specs.declared.given.Given.{Given}
use Rattle.ato_connections.proofs.JoiningLaws.{given_is, clash_refused, late_refused, classes_linked, joins_within}
use Rattle.ato_connections.proofs.joining.joined_by.Goals as goal

pub returns-in-Some-clause-refused : goal.returns-in-Some-clause-refused
returns-in-Some-clause-refused c =
    let g : Given = record { alloc = c.args.alloc; program = c.args.program; nodes = c.as_slice.result; members = c.args.members; library = c.of.result } in
    let of = given_is g c.args.tree.now c.requires.loaded c.as_slice.ensures c.requires.members
    (c.of.ensures.block c.requires.loaded.is.blocks) c.of.ensures.line in
    clash_refused g c.args.tree.now c.requires.loaded of c.sound.result c.first_clash.new.links c.in_ok-clash.field-0 c.sound.ensures
    (c.in_ok-clash.ensures of c.new-links.ensures)
    c.in-Some.clash c.clash_fault.result c.in-Some.is c.clash_fault.ensures

pub returns-in-Some-first-clause-refused : goal.returns-in-Some-first-clause-refused
returns-in-Some-first-clause-refused c =
    let g : Given = record { alloc = c.args.alloc; program = c.args.program; nodes = c.as_slice.result; members = c.args.members; library = c.of.result } in
    let of = given_is g c.args.tree.now c.requires.loaded c.as_slice.ensures c.requires.members
    (c.of.ensures.block c.requires.loaded.is.blocks) c.of.ensures.line in
    late_refused g c.args.tree.now c.requires.loaded of c.sound.result c.first_clash.new.links c.in_ok-clash.field-0 c.sound.ensures
    (c.in_ok-clash.ensures of c.new-links.ensures)
    c.in-Some-first.late c.same_fault.result c.in_default.not-Some c.in-Some-first.is c.same_fault.ensures

pub classes-requires : goal.classes-requires
classes-requires c =
    let g : Given = record { alloc = c.args.alloc; program = c.args.program; nodes = c.as_slice.result; members = c.args.members; library = c.of.result } in
    let of = given_is g c.args.tree.now c.requires.loaded c.as_slice.ensures c.requires.members
    (c.of.ensures.block c.requires.loaded.is.blocks) c.of.ensures.line in
    joins_within g c.args.tree.now c.requires.loaded of c.sound.result c.first_clash.new.links c.in_ok-clash.field-0 c.sound.ensures
    (c.in_ok-clash.ensures of c.new-links.ensures)
    c.len.result c.len.ensures c.in_default.not-Some c.requires.tree

pub returns-clause-classes : goal.returns-clause-classes
returns-clause-classes c =
    let g : Given = record { alloc = c.args.alloc; program = c.args.program; nodes = c.as_slice.result; members = c.args.members; library = c.of.result } in
    let of = given_is g c.args.tree.now c.requires.loaded c.as_slice.ensures c.requires.members
    (c.of.ensures.block c.requires.loaded.is.blocks) c.of.ensures.line in
    classes_linked g c.args.tree.now c.requires.loaded of c.sound.result c.first_clash.new.links c.in_ok-clash.field-0 c.sound.ensures
    (c.in_ok-clash.ensures of c.new-links.ensures)
    c.in_ok-classes.field-0 c.len.result c.len.ensures c.in_default.not-Some c.in_default-first.not-Some c.in_ok-classes.ensures
