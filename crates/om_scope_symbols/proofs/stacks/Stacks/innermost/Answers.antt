use Rattle.std.proofs.Common.{sym, ap, ◌∙◌}
use Rattle.om_scope_symbols.specs.Stacks.{innermost_of}
use Rattle.om_scope_symbols.proofs.Stacked.{innermost-last, none-left}
use Rattle.om_scope_symbols.proofs.stacks.Stacks.innermost.Goals as goal

pub returns-in_err-item : goal.returns-in_err-item
returns-in_err-item over c =
    c.from_residual.ensures
    ∙ none-left c.items.result.now c.in_err-item.ensures.cases
    ∙ ap innermost_of c.items.ensures

pub returns : goal.returns
returns over c =
    sym (ap innermost_of c.in_ok-item.ensures.cases.0 ∙ innermost-last c.in_ok-item.field-0-1.now c.in_ok-item.item.now)
    ∙ ap innermost_of c.items.ensures
