use Rattle.std.proofs.Common.{◌∷◌, [], ◌++◌, sym, refl, arith, append-nil}
use Rattle.ato_first.specs.Statements.{read_line}
use Rattle.ato_base.proofs.NameTableLaws.{extends_more}
use Rattle.ato_first.proofs.Reading.{rest_place, read_none, read_more, mentioned_more, statement_line}
use Rattle.ato_first.proofs.lexing.push_lines.Goals as goal

pub loop-front-init : goal.loop-front-init
loop-front-init c = record {
  read = (
    [],
    read_none c.args.file c.args.place c.args.bytes.now c.new-front.result.rest.now c.args.names.now c.args.tokens.now c.new-front.ensures.rest,
    record { kinds = omega arith; attributes = omega arith; assertions = omega arith },
    c.new-front.ensures.found c.args.place,
    refl,
  );
  names = ([], sym (append-nil c.args.names.now));
}

pub loop-front-preserved : goal.loop-front-preserved
loop-front-preserved c =
    let (lines, read, once, found, mentioned) = c.loop-front.invariant.read in
    let line = read_line c.in-Some.statement in
    let next = c.in-Some.ensures.front c.args.place lines once found (rest_place c.args.place c.args.bytes.now c.loop-front.front.rest.now lines read.text) in
    record {
      read = (
        lines ++ line ∷ [],
        read_more c.args.file c.args.place c.args.bytes.now c.loop-front.front.rest.now c.in-Some.next.rest.now
            c.loop-front.names c.push_statement.new.names c.args.tokens.now c.loop-front.tokens c.push_statement.new.tokens lines line
            read c.in-Some.ensures.line.0 (statement_line c.in-Some.statement c.in-Some.ensures.line.1) c.push_statement.ensures.names
            c.in_ok-push_statement-in-Some.ensures.pushed c.in_ok-push_statement-in-Some.ensures.held,
        next.0,
        next.1,
        mentioned_more c.args.names.now c.loop-front.names c.push_statement.new.names lines line mentioned c.in_ok-push_statement-in-Some.ensures.mentioned,
      );
      names = extends_more c.args.names.now c.loop-front.names c.push_statement.new.names c.loop-front.invariant.names c.push_statement.ensures.names;
    }
