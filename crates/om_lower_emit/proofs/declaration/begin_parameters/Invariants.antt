use Rattle.std.proofs.Common.{drop}
use Rattle.om_lower_emit.specs.Drafts.{Written}
use Rattle.om_lower_rules.specs.Scopes.{each_scope, parameter_scope}
use Rattle.om_lower_emit.specs.Scoping.{ScopesOn}
use Rattle.om_lower_rules.specs.Numbered.{Numbered}
use Rattle.om_lower_emit.proofs.declaration.begin_parameters.Given as goal

abbrev pub invariant-loop-parameter : goal.invariant-loop-parameter
invariant-loop-parameter l = (names : Numbered) (d : Written)
    → ScopesOn names (λ at. each_scope parameter_scope l.parameters)
    (λ at. each_scope parameter_scope (drop l.parameter-index l.parameters)) d l.fn.scopes d l.scopes
