use Rattle.std.proofs.Common.{◌≡◌, List, length}
use Rattle.std.specs.List.{flat_map}
use Rattle.ato_first.specs.FirstTokens.{line_names}
use Rattle.ato_base.specs.NameTable.{with_names, Extends}
use Rattle.ato_first.specs.PartLines.{AreOnce}
use Rattle.ato_first.specs.Statements.{AreRead, IsFound}
use Rattle.ato_first.specs.declared.first_form.Line.{Line}
use Rattle.ato_first.proofs.lexing.push_lines.Given as goal

abbrev pub invariant-loop-front : goal.invariant-loop-front
invariant-loop-front l = record {
  read : (lines : List Line) × AreRead l.file l.place l.bytes l.front.rest.now l.names l.initial.tokens l.tokens lines × AreOnce lines × IsFound l.front.found l.place lines × (l.names ≡ with_names l.initial.names (flat_map line_names lines));
  names : Extends l.initial.names l.names;
}

abbrev pub decreases-loop-front : goal.decreases-loop-front
decreases-loop-front l = length l.front.rest.now
