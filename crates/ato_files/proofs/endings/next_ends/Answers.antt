use Rattle.ato_files.proofs.EndingLemmas.{marks_more}
use Rattle.ato_files.proofs.endings.next_ends.Goals as goal

pub returns-then-walk-start-clause-marks : goal.returns-then-walk-start-clause-marks
returns-then-walk-start-clause-marks c = marks_more c.args.parents.now c.args.start c.args.walks.now c.requires.marks
