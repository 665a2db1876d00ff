use Rattle.ato_cert.proofs.PieceLemmas.{strips_back, strips_stands}
use Rattle.ato_cert.proofs.pieces.after.Goals as goal

pub returns-clause-back : goal.returns-clause-back
returns-clause-back c = strips_back c.args.text.now c.args.piece.now c.strip_prefix.result c.strip_prefix.ensures.cases

pub returns-clause-stands : goal.returns-clause-stands
returns-clause-stands c = strips_stands c.args.text.now c.args.piece.now c.strip_prefix.result c.strip_prefix.ensures.cases
