use Rattle.std.proofs.Common.{sym}
use Rattle.om_parser_parts.proofs.LineRuns.{past_fails, past_ends, past_goes_on, run_is_ended}
use Rattle.om_parser_parts.proofs.line.run.Goals as goal

pub returns-in_default : goal.returns-in_default
returns-in_default c = record {
  ends_once = tt;
  taken = sym (past_fails c.args.tokens.now c.tokens.rest.now
      c.tokens.taken c.tokens.invariant (sym c.in_default.ensures));
}

pub returns-then-is_end : goal.returns-then-is_end
returns-then-is_end c =
    let taken = past_ends c.args.tokens.now c.tokens.rest.now c.tokens.taken c.tokens.invariant c.in-Some.first.now
    c.in-Some.behind.now (sym c.in-Some.ensures) (sym c.if-is_end.ensures) in
    record { ends_once = run_is_ended c.args.tokens.now _ taken; taken = sym taken }

pub tokens-preserved : goal.tokens-preserved
tokens-preserved c = past_goes_on c.args.tokens.now c.tokens.rest.now c.tokens.taken c.tokens.invariant
    c.in-Some.first.now c.in-Some.behind.now (sym c.in-Some.ensures) (sym c.if-is_end.ensures)
