use Rattle.ato_files.proofs.ProjectLaws as laws
use Rattle.ato_files.proofs.projects.load.Goals as goal

pub returns-clause-program_given : goal.returns-clause-program_given
returns-clause-program_given g c =
    laws.program_given g.S.Shelf.gets c.args.shelf.now c.load_program.new.shelf c.args.entry.now (g.S.Shelf.files c.args.shelf.now) c.load_program.result c.load_program.ensures.program c.load_program.ensures.refused

pub returns-clause-fault_given : goal.returns-clause-fault_given
returns-clause-fault_given g c =
    laws.fault_given g.S.Shelf.gets c.args.shelf.now c.load_program.new.shelf c.args.entry.now (g.S.Shelf.files c.args.shelf.now) c.load_program.result c.load_program.ensures.program c.load_program.ensures.refused
