use Rattle.std.proofs.Common.{◌≡◌, Bor, List, ℕ, arith, ◌≤◌, length, ◌∙◌, sym, refl, inl, inr, Some, ◌∷◌, [], map}
use Rattle.std.proofs.lemmas.List.{length-append, length-map, map-append, take_all}
use Rattle.csv.specs.Reading.{Reached, default_config, strip_bom}
use Rattle.csv.specs.Records.{fields_of}
use Rattle.csv.specs.declared.parser.State.TheVariants as st
use Rattle.csv.proofs.ReadFacts.{rows-end, rows-more}
use Rattle.ato_catalog.proofs.RecordLaws.{all-records, first-records}
use Rattle.ato_catalog.proofs.records.read_marked.Goals as goal

pub loop-row-init : goal.loop-row-init
unfolding Reached
loop-row-init c =
    let fr = c.from_reader-reader.ensures in
    let start = c.into_iter-row-iterator.ensures.into_iter_gives ∙ refl in
    let rdr = c.into_byte_records-row-items.ensures.rdr in
    let left = c.into_byte_records-row-items.ensures.left in
    rw (start, rdr, c.new-records.ensures) (
      rw (c.flexible.ensures, c.has_headers.ensures) at fr.trim ∙ c.new.ensures.trim,
      inr (inr (rw (c.flexible.ensures, c.has_headers.ensures) at fr.has_headers, fr.headers)),
      left,
      rw (c.flexible.ensures, c.has_headers.ensures) at fr.config ∙ c.new.ensures.config,
      strip_bom c.args.bytes.now,
      fr.source,
      omega arith,
      (sym fr.state, refl),
    )

pub loop-row-preserved : goal.loop-row-preserved
loop-row-preserved c =
    let inv = c.loop-row.invariant in
    let s = rw c.in-Some.is at ((c.next.ensures.steps inv.2 inv.0).0 inv.1) in
    let r = rw c.in-Ok.is at s in
    let m = rows-more (λ (s : Bor (List ℕ)). Some s.now) c.loop-row.row-iterator.rdr c.next.new.self.rdr (fields_of c.in-Ok.row) default_config st.StartRecord (strip_bom c.args.bytes.now) inv.4 (map fields_of c.loop-row.records) inv.3 inv.5 inv.7 r.0 in
    let size = length-append c.loop-row.records (c.in-Ok.row ∷ []) in
    let grown : length c.push.new.self ≤ c.args.most = rw c.in_ok-push.ensures.ok (omega (arith, size, c.len.ensures, inv.6)) in
    (r.0.3 ∙ inv.0, inl r.1, r.2, r.0.2 ∙ inv.3, m.0, m.1, grown, rw (c.in_ok-push.ensures.ok, map-append fields_of c.loop-row.records (c.in-Ok.row ∷ [])) m.2)

pub returns-then-len-most : goal.returns-then-len-most
returns-then-len-most c =
    let inv = c.loop-row.invariant in
    let first = first-records default_config c.loop-row.row-iterator.rdr.state (strip_bom c.args.bytes.now) inv.4 (map fields_of c.loop-row.records) inv.7 in
    let size : length (map fields_of c.loop-row.records) ≡ c.args.most = length-map c.loop-row.records fields_of ∙ (sym c.len.ensures ∙ c.if-len-most.true) in
    rw size at first

pub returns : goal.returns
returns c =
    let inv = c.loop-row.invariant in
    let s = rw c.in-None.is at ((c.next.ensures.steps inv.2 inv.0).0 inv.1) in
    let all = all-records default_config (strip_bom c.args.bytes.now) (map fields_of c.loop-row.records)
    (c.loop-row.row-iterator.rdr.state, inv.4, inv.7, rows-end (λ (s : Bor (List ℕ)). Some s.now) c.loop-row.row-iterator.rdr c.next.new.self.rdr [] default_config inv.4 inv.3 inv.5 s) in
    rw (← all) (sym (take_all c.args.most (map fields_of c.loop-row.records) (rw length-map inv.6)))
