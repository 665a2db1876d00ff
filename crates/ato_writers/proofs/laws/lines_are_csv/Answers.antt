use Rattle.ato_writers.proofs.PartsLemmas as lemmas
use Rattle.ato_writers.proofs.laws.lines_are_csv.Goals as goal

pub returns : goal.returns
returns c = lemmas.lines_are_csv
