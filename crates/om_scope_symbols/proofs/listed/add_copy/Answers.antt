use Rattle.std.proofs.Common.{sym, ap, ◌∙◌}
use Rattle.std.specs.Map.{keys_of}
use Rattle.om_scope_rules.specs.Scopes.{with_name}
use Rattle.om_scope_symbols.specs.Stacks.{without_innermost}
use Rattle.om_scope_symbols.proofs.Stacked.{without-last}
use Rattle.om_scope_symbols.proofs.Tables.{names-push}
use Rattle.om_scope_symbols.proofs.listed.add_copy.Goals as goal

pub returns-in-Ok-clause-named : goal.returns-in-Ok-clause-named
returns-in-Ok-clause-named c =
    c.in-Ok.ensures.added
    ∙ ap (λ names. with_name names c.args.name.now) c.requires.named
    ∙ names-push c.args.copies.now c.args.name.now c.args.copy c.requires.is_new
    ∙ sym (ap keys_of c.in_ok-put.ensures.put)

pub returns-in-Err-clause-named : goal.returns-in-Err-clause-named
returns-in-Err-clause-named c =
    c.in-Err.ensures.unchanged_on_error ∙ c.requires.named
    ∙ sym (ap keys_of (c.pop-name.ensures.left ∙ ap without_innermost c.in_ok-put.ensures.put
    ∙ without-last c.args.copies.now (c.args.name.now, c.args.copy)))
