use Rattle.std.proofs.Common.{Some, refl, sym, ◌^◌, ◌++◌}
use Rattle.ato_first.specs.FirstForm.{lined, head_text}
use Rattle.ato_first.proofs.Reading.{bad_indent, bad_block, bad_within_file, file_mentioned, file_read}
use Rattle.ato_first.proofs.lexing.lex_block.Goals as goal

pub returns-in_default-clause-refused : goal.returns-in_default-clause-refused
returns-in_default-clause-refused c =
    bad_indent c.args.file _ c.args.name.now c.args.bytes.now c.bad_line.result c.requires.name refl c.in_default.ensures c.bad_line.ensures

pub bad_line-requires-in-Some-bad_line : goal.bad_line-requires-in-Some-bad_line
bad_line-requires-in-Some-bad_line c =
    let (lines, read, whole, mentioned) = c.in_ok-front.ensures.read in
    bad_within_file _ (2 ^ 32) c.in-Some-bad_line.at c.args.name.now c.args.bytes.now c.in_ok-front.front.rest.now lines refl read.text c.requires.size
    (sym (c.in-Some-bad_line.ensures c.args.name.now lines refl read.are_lines whole read.text))

pub returns-in-Some-bad_line-clause-refused : goal.returns-in-Some-bad_line-clause-refused
returns-in-Some-bad_line-clause-refused c =
    let (lines, read, whole, mentioned) = c.in_ok-front.ensures.read in
    bad_block c.args.file c.in-Some-bad_line.at _ c.args.name.now c.args.bytes.now c.in_ok-front.front.rest.now c.in_ok-front.front.found c.push_lines.new.names c.push_head.new.tokens c.push_lines.new.tokens lines
    c.bad_line-in-Some-bad_line.result c.requires.name read whole
    (sym (c.in-Some-bad_line.ensures c.args.name.now lines refl read.are_lines whole read.text)) c.bad_line-in-Some-bad_line.ensures

pub returns-clause-tokens : goal.returns-clause-tokens
returns-clause-tokens c =
    let (lines, read, whole, mentioned) = c.in_ok-front.ensures.read in (
      Some (record { name = c.args.name.now; lines = lines }),
      file_read c.args.file _ c.args.name.now c.args.bytes.now c.in_ok-front.front.rest.now c.in_ok-front.front.found c.push_head.new.names c.push_lines.new.names
          c.new-tokens.result c.push_head.new.tokens c.push_lines.new.tokens c.push_last.new.tokens lines
          c.requires.name refl c.new-tokens.ensures c.in_ok-push_head.ensures.pushed c.in_ok-push_head.ensures.held c.push_lines.ensures.names read whole
          (sym (c.in_default-bad_line.ensures c.args.name.now lines refl read.are_lines whole read.text)) c.in_ok-push_last.ensures,
    )

pub returns-clause-mentioned : goal.returns-clause-mentioned
unfolding returns-clause-tokens
returns-clause-mentioned c =
    let (lines, read, whole, mentioned) = c.in_ok-front.ensures.read in
    λ block is.
    file_mentioned c.args.names.now c.push_head.new.names c.push_lines.new.names c.args.name.now (lined (head_text c.args.name.now) ++ c.args.bytes.now) lines block
    (returns-clause-tokens c).1.is c.in_ok-push_head.ensures.mentioned mentioned is
