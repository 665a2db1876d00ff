use Rattle.ato_writers.proofs.ReadLemmas as lemmas
use Rattle.ato_writers.proofs.laws.parts_read_back.Goals as goal

pub returns : goal.returns
returns c = lemmas.parts_read_back
