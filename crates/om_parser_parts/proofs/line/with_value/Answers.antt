use Rattle.std.proofs.Common.{◌≡◌, sym, rules}
use Rattle.om_parser_tree.specs.Limits.{accepted}
use Rattle.om_parser_parts.proofs.LineViews.{none_left, none_read, some_read, value_fails}
use Rattle.om_parser_parts.proofs.line.with_value.Goals as goal

pub filled-requires : goal.filled-requires
filled-requires c = none_left c.args.directive c.requires (sym c.in_default.ensures)

pub returns-in_default : goal.returns-in_default
returns-in_default c = none_read c.args.directive accepted c.args.run.now c.filled.result (sym c.in_default.ensures)
    c.filled.ensures.made c.filled.ensures.refused

pub returns-in-Ok : goal.returns-in-Ok
returns-in-Ok c =
    let inner : c.into_inner.result ≡ c.in-Ok.value.value = search rules in
    some_read c.args.directive accepted c.args.run.now c.filled-in-Ok.result c.in-Some.tokens.now
    c.into_inner.result (sym c.in-Some.ensures) (rw inner c.in-Ok.ensures) c.filled-in-Ok.ensures.made
    c.filled-in-Ok.ensures.refused

pub returns-in-Err : goal.returns-in-Err
returns-in-Err c = value_fails c.args.directive accepted c.args.run.now c.in-Some.tokens.now c.in-Err.fault
    (sym c.in-Some.ensures) c.in-Err.ensures
