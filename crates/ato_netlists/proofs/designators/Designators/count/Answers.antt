use Rattle.std.proofs.Common.{ℕ, List, Bor}
use Rattle.std.specs.Str.{bytes_eq}
use Rattle.indexmap.specs.IndexMap.{get_by}
use Rattle.ato_netlists.proofs.CountedLaws.{counted_more}
use Rattle.ato_netlists.proofs.designators.Designators.count.Goals as goal

pub returns-clause-counted : goal.returns-clause-counted
returns-clause-counted c = record {
  each = counted_more
      (λ q. get_by (λ (key : Bor (List ℕ)). bytes_eq q key.now) c.args.self.now.counts) (λ q. get_by (λ (key : Bor (List ℕ)). bytes_eq q key.now) c.insert.new.self)
      c.args.prefix.now c.in_ok-number.number (λ q. c.in_ok-insert.ensures.updates.0 (record { ref_ptr = c.args.prefix.ref_ptr; now = q })) c.in_ok-number.ensures;
}
