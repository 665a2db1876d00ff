use Rattle.std.proofs.Common.{◌≡◌, ◌∙◌, ◌∷◌, ◌++◌, [], List, ap, append-nil, length, map, subst, sym}
use Rattle.std.specs.Prelude.{option_to_list}
use Rattle.std.specs.List.{flat_map}
use Rattle.ato_files.specs.Blocks.{blocks_of}
use Rattle.ato_files.proofs.PushLemmas.{slice_get_push_last}
use Rattle.ato_instance_tree.specs.declared.type_stmts.StmtAt.{StmtAt}
use Rattle.ato_instance_tree.specs.Kept.{located_of}
use Rattle.ato_instance_tree.specs.Order.{made_at}
use Rattle.ato_instance_tree.specs.Types.{type_stmts}
use Rattle.ato_elab.specs.declared.changes.Change.{Change}
use Rattle.ato_elab.specs.Building.{made, path_of, types_of}
use Rattle.ato_elab.specs.Ways.{AreWays}
use Rattle.ato_elab.proofs.FrameLaws.{marked_more, spot_here}
use Rattle.ato_elab.proofs.HereLaws.{entered_here, fresh_spot, type_here}
use Rattle.ato_elab.proofs.frames.Growth.put_below.Goals as goal

pub returns : goal.returns
returns c = λ entry fs at led fresh holds within.
    let given = c.args.given.now in
    let p = given.program.now in
    let files = p.files in
    let f = c.args.frame.now in
    let g = c.args.self.now in
    let name = c.args.name in
    let lead = c.args.lead.now in
    let content = c.args.content in
    let ways = c.in_ok-ways.ways in
    let done = at.building.done in
    let is = at.building.is in
    let path = name.0 ∷ path_of (f ∷ fs) in
    let s = made_at path in
    let blocks = at.building.given_is.blocks in
    let typed = type_here given entry fs f name g at lead led in
    let last = c.in_ok-number.ensures.number files entry done (made done) is.so_far in
    let put = c.in_ok-number.ensures.grown files entry done (made done) (path_of (f ∷ fs)) typed (c.kind.ensures blocks) is.so_far
    (spot_here files p.names entry given.most done f fs g.built g.marks g.counts is) (fresh_spot given entry fs f name g at lead led) in
    let stmts = ap (map located_of) c.as_slice.ensures ∙ holds.statements ∙ sym (append-nil (type_stmts files lead.block)) ∙ ap (λ o. flat_map (type_stmts files) (option_to_list o)) (sym typed) in
    entered_here given entry fs f name g at lead led content c.in_ok-number.number ways c.look.new.self c.set.new.self c.args.counts fresh holds within last
    (c.in_ok-look.ensures files p.names entry (done ++ s ∷ []) (made done) path put (slice_get_push_last done s c.in_ok-number.number (sym last)) stmts)
    (subst (λ (cs : List Change). AreWays files content.statements cs ways) c.as_slice-3.ensures
    (subst (λ (ss : List StmtAt). AreWays files ss c.as_slice-3.result.now ways) c.as_slice-2.ensures (c.in_ok-ways.ensures blocks at.building.given_is.meant)))
    (marked_more (length (blocks_of files)) lead.block (types_of (f ∷ fs)) g.marks c.set.new.self is.marked fresh.below c.set.ensures.length c.set.ensures.others)
