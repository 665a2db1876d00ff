use Rattle.std.proofs.Common.{length, reverse}
use denote.Text.{Utf8}
use denote.Shadow.{shadow}
use Rattle.ato_base.specs.NameTable.{Extends}
use Rattle.ato_lexer.specs.Scans.{IsScanned}
use Rattle.ato_lexer.proofs.scanning.scan.Given as goal

abbrev pub invariant-pieces : goal.invariant-pieces
invariant-pieces l = record {
  utf8 : shadow (Utf8 l.rest);
  scanned : IsScanned l.file l.start l.text l.initial.names l.names l.tokens (reverse l.levels.items) l.standing l.at l.rest;
  names : Extends l.initial.names l.names;
}

abbrev pub decreases-pieces : goal.decreases-pieces
decreases-pieces l = length l.rest
