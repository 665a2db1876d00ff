use Rattle.ato_elab.proofs.ways.Ways.new.Goals as goal

pub returns : goal.returns
returns c = λ files. record { news = c.new.ensures files; changes = c.new-2.ensures }
