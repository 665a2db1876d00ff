use Rattle.std.proofs.Common.{ℕ, List, ◌∙◌, nat_eq, ◌&&◌, Bor}
use Rattle.std.specs.Str.{bytes_eq}
use Rattle.indexmap.specs.IndexMap.{get_by}
use Rattle.ato_netlists.specs.Parts.{held}
use Rattle.ato_netlists.proofs.EntryLemmas.{entry_put, entry_kept}
use Rattle.ato_netlists.proofs.strings.Strings.put.Goals as goal

pub returns-in_ok-insert-in-Some : goal.returns-in_ok-insert-in-Some
unfolding held
returns-in_ok-insert-in-Some c = λ blocks. entry_put c.args.program.now c.args.tree.now c.args.entry.now
    (λ n w. get_by (λ (key : ℕ × Bor (List ℕ)). nat_eq n key.0 && bytes_eq w key.1.now) c.args.self.now.texts)
    (λ n w. get_by (λ (key : ℕ × Bor (List ℕ)). nat_eq n key.0 && bytes_eq w key.1.now) c.insert.new.self)
    c.as_bytes.result.now c.in-Some.text (c.as_bytes.ensures.value ∙ c.as_str.ensures)
    (λ n w. c.in_ok-insert-in-Some.ensures.updates.0 (n, record { ref_ptr = c.args.entry.ref_ptr; now = w })) (c.in-Some.ensures blocks)

pub returns-in-None : goal.returns-in-None
returns-in-None c = λ blocks number word. entry_kept c.args.program.now c.args.tree.now c.args.entry.now (c.in-None.ensures blocks) number word (held c.args.self.now number word)
