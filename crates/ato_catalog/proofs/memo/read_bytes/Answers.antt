use Rattle.ato_catalog.proofs.MemoLaws.{of_bytes}
use Rattle.ato_catalog.proofs.memo.read_bytes.Goals as goal

pub returns : goal.returns
returns c = of_bytes c.in_ok-text.text.now c.args.bytes.now c.read_text.result c.in_ok-text.ensures.0 c.read_text.ensures
