use Rattle.ato_files.proofs.BlockLaws as laws
use Rattle.ato_files.proofs.laws.sound_names_have_blocks.Goals as goal

pub returns-clause-lineages : goal.returns-clause-lineages
returns-clause-lineages c = laws.has_lineage

pub returns-clause-blocks : goal.returns-clause-blocks
returns-clause-blocks c = laws.has_blocks
