use Rattle.ato_writers.proofs.ReadLemmas as lemmas
use Rattle.ato_writers.proofs.laws.one_list_of_parts.Goals as goal

pub returns : goal.returns
returns c = lemmas.one_list_of_parts
