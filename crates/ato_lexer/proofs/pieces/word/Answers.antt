use Rattle.std.specs.Str.{chars}
use Rattle.unicode_ident.specs.Ident.{is_xid_continue}
use Rattle.ato_units.proofs.Cutting.{past_end, end_at, end_trans}
use Rattle.ato_lexer.proofs.pieces.word.Goals as goal

pub before-requires : goal.before-requires
before-requires c =
    end_trans (chars c.args.text.now) (chars c.args.after.now) _ c.requires
    (end_at (chars c.args.after.now) _ _ c.past_word-rest.ensures (past_end is_xid_continue (chars c.args.after.now)))
