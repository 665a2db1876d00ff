use Rattle.ato_files.proofs.LibraryLaws as laws
use Rattle.ato_files.proofs.laws.library_has_tree.Goals as goal

pub returns-clause-ends : goal.returns-clause-ends
returns-clause-ends c = laws.library_ends

pub returns-clause-tree : goal.returns-clause-tree
returns-clause-tree c = laws.library_tree

pub returns-clause-start : goal.returns-clause-start
returns-clause-start c = laws.has_start

pub returns-clause-sound : goal.returns-clause-sound
returns-clause-sound c = laws.start_is_sound
