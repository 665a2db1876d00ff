use Rattle.ato_files.proofs.AnswerLaws.{fault_stands, fault_halts}
use Rattle.ato_files.proofs.loading.refuse.Goals as goal

pub returns-in-Ok-clause-fault : goal.returns-in-Ok-clause-fault
returns-in-Ok-clause-fault c = λ told entry replies stops.
    fault_stands told entry c.args.files c.args.stop c.in-Fault.fault c.in-Fault.read c.in-Ok.sources replies c.in-Fault.is c.in-Ok.ensures stops

pub returns-in-Err-clause-fault : goal.returns-in-Err-clause-fault
returns-in-Err-clause-fault c = λ told entry replies stops. fault_halts told entry c.args.files c.args.stop c.in-Fault.fault c.in-Fault.read replies c.in-Fault.is stops
