use Rattle.std.proofs.Common.{sym, ◌∙◌}
use Rattle.ato_first.proofs.BadLineLemmas.{lines_slice, cut_by_size, bad_at_signal, bad_at_end, bad_at_start, not_bad}
use Rattle.ato_first.proofs.FoundLemmas.{found_partial}
use Rattle.ato_first.proofs.fronts.Front.bad_line.Goals as goal

pub returns-in-Some : goal.returns-in-Some
returns-in-Some c name lines is are whole text =
    let clash = c.in-Some.ensures c.args.place lines are whole.once whole.found (lines_slice c.args.bytes.now c.args.self.rest.now lines text) in
    bad_at_signal name lines c.args.self.rest.now c.args.place c.in-Some.at is clash.0 clash.1

pub returns-then-is_cut : goal.returns-then-is_cut
returns-then-is_cut c name lines is are whole text =
    let none = c.in_default.ensures c.args.place lines are whole.once whole.found (lines_slice c.args.bytes.now c.args.self.rest.now lines text) in
    bad_at_end name lines c.args.bytes.now c.args.self.rest.now c.args.place is text none (sym (cut_by_size name lines c.args.bytes.now c.args.self.rest.now text) ∙ sym c.is_cut.ensures ∙ c.if-is_cut.true)

pub returns-then-is_partial : goal.returns-then-is_partial
returns-then-is_partial c name lines is are whole text =
    let none = c.in_default.ensures c.args.place lines are whole.once whole.found (lines_slice c.args.bytes.now c.args.self.rest.now lines text) in
    bad_at_start name lines c.args.self.rest.now none (sym (cut_by_size name lines c.args.bytes.now c.args.self.rest.now text) ∙ sym c.is_cut.ensures ∙ c.if-is_cut.false)
    (sym (found_partial c.args.self.found c.args.place lines whole.found) ∙ sym c.is_partial.ensures ∙ c.if-is_partial.true)

pub returns-else-is_partial : goal.returns-else-is_partial
returns-else-is_partial c name lines is are whole text =
    let none = c.in_default.ensures c.args.place lines are whole.once whole.found (lines_slice c.args.bytes.now c.args.self.rest.now lines text) in
    not_bad name lines c.args.self.rest.now none (sym (cut_by_size name lines c.args.bytes.now c.args.self.rest.now text) ∙ sym c.is_cut.ensures ∙ c.if-is_cut.false)
    (sym (found_partial c.args.self.found c.args.place lines whole.found) ∙ sym c.is_partial.ensures ∙ c.if-is_partial.false)
