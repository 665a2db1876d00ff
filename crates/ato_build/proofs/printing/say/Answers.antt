use Rattle.std.proofs.Common.{subst, sym, ap, ◌∙◌}
use Rattle.ato_build.specs.Printing.{Prints}
use Rattle.ato_build.specs.Texts.{said_text, write_fault_text}
use Rattle.ato_build.proofs.printing.say.Goals as goal

pub returns-in-OutOfMemory-clause-told : goal.returns-in-OutOfMemory-clause-told
returns-in-OutOfMemory-clause-told g c =
    subst (λ said. Prints (g.O.Sink.written c.args.out.now) (g.O.Sink.written c.print-in-OutOfMemory.new.out) (said_text said) c.print-in-OutOfMemory.result)
    (sym c.in-OutOfMemory.is) c.print-in-OutOfMemory.ensures.told

pub returns-in-WriteFault-clause-told : goal.returns-in-WriteFault-clause-told
returns-in-WriteFault-clause-told g c =
    subst (λ text. Prints (g.O.Sink.written c.args.out.now) (g.O.Sink.written c.print_write_fault.new.out) text c.print_write_fault.result)
    (ap write_fault_text c.as_str.ensures ∙ ap said_text (sym c.in-WriteFault.is)) c.print_write_fault.ensures.told
