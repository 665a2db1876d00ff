use Rattle.std.proofs.Common.{ap}
use Rattle.ato_words.specs.Words.{texts}
use Rattle.ato_words.proofs.WordLineLaws.{job_some, job_none}
use Rattle.ato_words.proofs.words.job.Goals as goal

pub returns-clause-some : goal.returns-clause-some
returns-clause-some c = job_some _ _ c.task_of.result (ap texts c.as_slice.ensures.value) c.task_of.ensures.some

pub returns-clause-none : goal.returns-clause-none
returns-clause-none c = job_none _ _ c.task_of.result (ap texts c.as_slice.ensures.value) c.task_of.ensures.none
