use Rattle.std.proofs.Common.{◌≡◌, ◌<◌, ◌∙◌, true, length, arith, sym}
use Rattle.std.specs.Str.{bytes_eq}
use Rattle.std.proofs.lemmas.Slice.Eq.{bytes_eq-Decides}
use Rattle.ato_catalog.proofs.MemoLaws.{kept_for}
use Rattle.ato_catalog.proofs.memo.Memo.find.Goals as goal

pub returns-then-eq : goal.returns-then-eq
returns-then-eq c =
    let kept = c.in_ok-kept.kept in
    let test : bytes_eq kept.text.now c.args.text.now ≡ true = sym c.eq.ensures ∙ c.if-eq.true in
    let same = (bytes_eq-Decides kept.text.now c.args.text.now).0 test in
    let inside : c.place_of-place.result < length c.self.inside.kept.items = omega (arith, c.len.ensures) in
    kept_for c.self.inside.kept.items c.place_of-place.result c.index.result.now kept c.args.text.now c.self.invariant inside c.index.ensures c.in_ok-kept.was same
