use Rattle.std.proofs.Common.{ap, ◌∙◌}
use Rattle.std.specs.Str.{chars}
use Rattle.ato_lexer.proofs.ReadingLaws.{front_cut, front_goes_on}
use Rattle.ato_lexer.proofs.pieces.front.Goals as goal

pub end_of-requires : goal.end_of-requires
end_of-requires c = front_goes_on (chars c.args.text.now) _ _ _ c.in_ok-first.ensures.cut c.cut_piece-shape.ensures

pub returns-clause-cut : goal.returns-clause-cut
returns-clause-cut c =
    let k = front_cut (chars c.args.text.now) _ _ _ c.in_ok-first.ensures.cut c.cut_piece-shape.ensures in
    (k.0, ap chars c.end_of.ensures.same ∙ k.1)
