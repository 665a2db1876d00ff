use Rattle.std.proofs.Common.{◌++◌, false, subst}
use Rattle.std.specs.Prelude.{codes}
use Rattle.ato_build.specs.Printing.{Prints}
use Rattle.ato_build.proofs.PrintLemmas.{prints_both, prints_stopped}
use Rattle.ato_build.proofs.printing.print_write_fault.Goals as goal

pub returns-then-not-print-clause-told : goal.returns-then-not-print-clause-told
returns-then-not-print-clause-told g c =
    prints_stopped (g.O.Sink.written c.args.out.now) (g.O.Sink.written c.print.new.out) (codes "write fault ") (c.args.file.now ++ codes "\n")
    (subst (Prints (g.O.Sink.written c.args.out.now) (g.O.Sink.written c.print.new.out) (codes "write fault ")) c.if-not-print.true c.print.ensures.told)

pub returns-then-not-print-2-clause-told : goal.returns-then-not-print-2-clause-told
returns-then-not-print-2-clause-told g c =
    prints_both (g.O.Sink.written c.args.out.now) (g.O.Sink.written c.print.new.out) (g.O.Sink.written c.print-2.new.out) (codes "write fault ") (c.args.file.now ++ codes "\n") false
    (subst (Prints (g.O.Sink.written c.args.out.now) (g.O.Sink.written c.print.new.out) (codes "write fault ")) c.if-not-print.false c.print.ensures.told)
    (prints_stopped (g.O.Sink.written c.print.new.out) (g.O.Sink.written c.print-2.new.out) c.args.file.now (codes "\n")
    (subst (Prints (g.O.Sink.written c.print.new.out) (g.O.Sink.written c.print-2.new.out) c.args.file.now) c.if-not-print-2.true
    (subst (λ t. Prints (g.O.Sink.written c.print.new.out) (g.O.Sink.written c.print-2.new.out) t c.print-2.result) c.as_bytes.ensures.value c.print-2.ensures.told)))

pub returns-clause-told : goal.returns-clause-told
returns-clause-told g c =
    prints_both (g.O.Sink.written c.args.out.now) (g.O.Sink.written c.print.new.out) (g.O.Sink.written c.print-3.new.out) (codes "write fault ") (c.args.file.now ++ codes "\n") c.print-3.result
    (subst (Prints (g.O.Sink.written c.args.out.now) (g.O.Sink.written c.print.new.out) (codes "write fault ")) c.if-not-print.false c.print.ensures.told)
    (prints_both (g.O.Sink.written c.print.new.out) (g.O.Sink.written c.print-2.new.out) (g.O.Sink.written c.print-3.new.out) c.args.file.now (codes "\n") c.print-3.result
    (subst (Prints (g.O.Sink.written c.print.new.out) (g.O.Sink.written c.print-2.new.out) c.args.file.now) c.if-not-print-2.false
    (subst (λ t. Prints (g.O.Sink.written c.print.new.out) (g.O.Sink.written c.print-2.new.out) t c.print-2.result) c.as_bytes.ensures.value c.print-2.ensures.told))
    c.print-3.ensures.told)
