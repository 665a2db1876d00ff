use Rattle.ato_cert.proofs.Soundness.{sound_of}
use Rattle.ato_cert.proofs.laws.valid_is_sound.Goals as goal

pub returns : goal.returns
returns c = λ problem cert made valid. sound_of problem.slot cert.proof made valid.proof
