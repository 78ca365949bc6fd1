use Rattle.std.specs.Prelude.{[]}
use Rattle.std.proofs.Common.{arith}
use Rattle.om_lower.proofs.Settled.{long_row, short_row}
use Rattle.om_lower_tables.specs.Sites.{body_in}
use Rattle.om_lower_rules.specs.BodyTables.{numbered_by}
use Rattle.om_lower.proofs.body.emitted_in.Goals as goal

pub returns-then-place-gt-INSTRUCTION_LIMIT : goal.returns-then-place-gt-INSTRUCTION_LIMIT
returns-then-place-gt-INSTRUCTION_LIMIT c =
    let b = body_in [] c.args.site.now in
    long_row (numbered_by c.args.tables.now) b.numbers b.function b.tree _ _ c.new-writing.ensures.draft
    c.in_ok-write.ensures.code (omega (arith, c.if-place-gt-INSTRUCTION_LIMIT.true, c.place.ensures))

pub returns : goal.returns
returns c =
    let b = body_in [] c.args.site.now in
    short_row (numbered_by c.args.tables.now) b.numbers b.function b.tree _ _ _ _ c.in_ok-settled.field-0
    c.new-writing.ensures.draft c.new-writing.ensures.closed c.in_ok-settled.ensures.code c.in_ok-settled.ensures.lists
    c.in_ok-settled.ensures.scopes (omega (arith, c.if-place-gt-INSTRUCTION_LIMIT.false, c.place.ensures))
    c.in_ok-write.ensures.code c.in_ok-write.ensures.scopes
