use Rattle.ato_eval.proofs.judging.judge.Goals as goal

pub judge_within-requires-clause-roots : goal.judge_within-requires-clause-roots
judge_within-requires-clause-roots c = rw c.in-Within.is at c.requires.roots

pub judge_within-requires-clause-entries : goal.judge_within-requires-clause-entries
judge_within-requires-clause-entries c = rw c.in-Within.is at c.requires.entries

pub returns-in-Within-clause-judges : goal.returns-in-Within-clause-judges
returns-in-Within-clause-judges c = rw c.in-Within.is c.judge_within.ensures.judges

pub judge_less-requires-clause-roots : goal.judge_less-requires-clause-roots
judge_less-requires-clause-roots c = rw c.in-Less.is at c.requires.roots

pub judge_less-requires-clause-entries : goal.judge_less-requires-clause-entries
judge_less-requires-clause-entries c = rw c.in-Less.is at c.requires.entries

pub returns-in-Less-clause-judges : goal.returns-in-Less-clause-judges
returns-in-Less-clause-judges c = rw c.in-Less.is c.judge_less.ensures.judges

pub judge_less_or_equal-requires-clause-roots : goal.judge_less_or_equal-requires-clause-roots
judge_less_or_equal-requires-clause-roots c = rw c.in-LessEq.is at c.requires.roots

pub judge_less_or_equal-requires-clause-entries : goal.judge_less_or_equal-requires-clause-entries
judge_less_or_equal-requires-clause-entries c = rw c.in-LessEq.is at c.requires.entries

pub returns-in-LessEq-clause-judges : goal.returns-in-LessEq-clause-judges
returns-in-LessEq-clause-judges c = rw c.in-LessEq.is c.judge_less_or_equal.ensures.judges

pub judge_equal-requires-clause-roots : goal.judge_equal-requires-clause-roots
judge_equal-requires-clause-roots c = rw c.in-Equal.is at c.requires.roots

pub judge_equal-requires-clause-entries : goal.judge_equal-requires-clause-entries
judge_equal-requires-clause-entries c = rw c.in-Equal.is at c.requires.entries

pub returns-in-Equal-clause-judges : goal.returns-in-Equal-clause-judges
returns-in-Equal-clause-judges c = rw c.in-Equal.is c.judge_equal.ensures.judges

pub judge_defined-requires-clause-roots : goal.judge_defined-requires-clause-roots
judge_defined-requires-clause-roots c = rw c.in-Defined.is at c.requires.roots

pub judge_defined-requires-clause-entries : goal.judge_defined-requires-clause-entries
judge_defined-requires-clause-entries c = rw c.in-Defined.is at c.requires.entries

pub returns-in-Defined-clause-judges : goal.returns-in-Defined-clause-judges
returns-in-Defined-clause-judges c = rw c.in-Defined.is c.judge_defined.ensures.judges
