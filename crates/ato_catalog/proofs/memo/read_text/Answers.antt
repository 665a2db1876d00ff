use Rattle.ato_catalog.proofs.ValueLaws.{is_no_quantity, is_quantity}
use Rattle.ato_catalog.proofs.memo.read_text.Goals as goal

pub returns-in-Ok : goal.returns-in-Ok
returns-in-Ok c = is_quantity c.args.text.now c.in-Ok.quantity c.in-Ok.ensures.gives c.in-Ok.ensures.bad_text

pub returns-in-Err : goal.returns-in-Err
returns-in-Err c = is_no_quantity c.args.text.now _ c.in-Err.ensures.gives
