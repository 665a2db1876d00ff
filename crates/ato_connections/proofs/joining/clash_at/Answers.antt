use Rattle.std.proofs.Common.{Some, None, refl, sym, subst}
use Rattle.ato_connections.proofs.OutcomeLaws.{Adds, the_statement, past_the_end, without, with_links, with_clash, has_end}
use Rattle.ato_connections.proofs.joining.clash_at.Goals as goal

pub returns-in_default : goal.returns-in_default
returns-in_default c = λ is joined. past_the_end c.args.given.now.program.now.files c.args.given.now.program.now.names c.args.tree.now.nodes
    c.args.tree.now.occurrences c.args.number c.args.links.now (sym c.in_default.ensures) joined

pub returns-in_default-statement : goal.returns-in_default-statement
returns-in_default-statement c = λ is joined.
    let files = c.args.given.now.program.now.files in
    let os = c.args.tree.now.occurrences in
    without files c.args.given.now.program.now.names c.args.tree.now.nodes os c.args.number c.in-Some.entry (sym c.in-Some.ensures) c.args.links.now
    (the_statement files os c.args.number c.in_ok-small.field-0 c.in-Some.entry None (sym c.in-Some.ensures) c.in_ok-small.ensures
    (c.in_default-statement.ensures.entries is.given.blocks))
    joined

pub returns-then-not-links : goal.returns-then-not-links
returns-then-not-links c = λ is joined.
    let files = c.args.given.now.program.now.files in
    let names = c.args.given.now.program.now.names in
    let os = c.args.tree.now.occurrences in
    let s = c.in-Some-statement.stmt.now in
    with_links files names c.args.tree.now.nodes os c.args.number c.in-Some.entry (sym c.in-Some.ensures) s
    (the_statement files os c.args.number c.in_ok-small.field-0 c.in-Some.entry (Some s) (sym c.in-Some.ensures) c.in_ok-small.ensures
    (c.in-Some-statement.ensures.entries is.given.blocks))
    c.args.links.now c.join_stmt.new.links
    (subst (λ ns. Adds files names ns c.in-Some.entry.node s c.args.links.now c.join_stmt.new.links) is.nodes (c.in_ok-join_stmt.ensures is.given))
    c.if-not-links.true joined

pub returns-in-Some-left_end : goal.returns-in-Some-left_end
returns-in-Some-left_end c = λ is joined.
    let files = c.args.given.now.program.now.files in
    let names = c.args.given.now.program.now.names in
    let os = c.args.tree.now.occurrences in
    let s = c.in-Some-statement.stmt.now in
    with_clash files names c.args.tree.now.nodes os c.args.number c.in-Some.entry (sym c.in-Some.ensures) s
    (the_statement files os c.args.number c.in_ok-small.field-0 c.in-Some.entry (Some s) (sym c.in-Some.ensures) c.in_ok-small.ensures
    (c.in-Some-statement.ensures.entries is.given.blocks))
    c.args.links.now c.join_stmt.new.links _
    (subst (λ ns. Adds files names ns c.in-Some.entry.node s c.args.links.now c.join_stmt.new.links) is.nodes (c.in_ok-join_stmt.ensures is.given))
    c.if-not-links.false refl (sym c.in-Some-left_end.ensures) joined

pub returns-in-None : goal.returns-in-None
returns-in-None c = λ is joined.
    let files = c.args.given.now.program.now.files in
    let names = c.args.given.now.program.now.names in
    let os = c.args.tree.now.occurrences in
    let s = c.in-Some-statement.stmt.now in
    absurd (has_end files names c.args.tree.now.nodes os c.args.number c.in-Some.entry (sym c.in-Some.ensures) s
    (the_statement files os c.args.number c.in_ok-small.field-0 c.in-Some.entry (Some s) (sym c.in-Some.ensures) c.in_ok-small.ensures
    (c.in-Some-statement.ensures.entries is.given.blocks))
    c.args.links.now c.join_stmt.new.links
    (subst (λ ns. Adds files names ns c.in-Some.entry.node s c.args.links.now c.join_stmt.new.links) is.nodes (c.in_ok-join_stmt.ensures is.given))
    c.if-not-links.false (sym c.in-None.ensures) joined)
