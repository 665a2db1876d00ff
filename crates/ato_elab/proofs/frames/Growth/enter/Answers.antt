use Rattle.ato_elab.proofs.frames.Growth.enter.Goals as goal

pub returns-in-Err-clause-refused : goal.returns-in-Err-clause-refused
returns-in-Err-clause-refused c = λ entry at. c.in-Err.ensures.refused entry c.args.self.now at
