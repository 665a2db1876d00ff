-- The fault of paths and links by what a tree says, and that none stands where there are classes.
use Rattle.std.proofs.Common.{ap, sym, ◌∙◌}
use Rattle.std.proofs.lemmas.Option.{none-some}
use Rattle.ato_instance_tree.specs.PathFaults.{keys_of}
use Rattle.ato_links.specs.LinkFaults.{link_fault, earlier}
use Rattle.ato_links.specs.Linked.{library_of, FaultByTree, OneLinkFault}
use Rattle.ato_links.proofs.FaultOrder.{first_of_both}

pub by_tree : FaultByTree
by_tree most program name tree is = first_of_both program.files is.entry (keys_of program.names) (library_of program)
    ∙ ap (earlier (link_fault program.files is.entry (library_of program))) (sym is.is.first)

pub one_fault : OneLinkFault
one_fault program entry classes f is e = none-some f (sym is.sound ∙ e)
