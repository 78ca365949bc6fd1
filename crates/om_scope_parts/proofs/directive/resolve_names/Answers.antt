use Rattle.std.proofs.Common.{◌++◌, ap, sym, refl, ◌∙◌}
use Rattle.std.proofs.lemmas.Result.{err_from_is_err_and}
use Rattle.std.specs.List.{flat_map}
use Rattle.om_scope_rules.specs.DirectiveRules.{flushed_breaches}
use Rattle.om_scope_rules.specs.Faults.{first_of}
use Rattle.om_scope_rules.specs.InRow.{each-step, first_of_left, nothing_made, row_made}
use Rattle.om_scope_rules.specs.Perhaps.{each}
use Rattle.om_scope_rules.specs.Resolution.{variable_named}
use Rattle.om_scope_rules.specs.Resolves.{refuses}
use Rattle.om_scope_parts.proofs.directive.resolve_names.Goals as goal

pub loop-name-init : goal.loop-name-init
loop-name-init c =
    let whole = c.into_iter-name-iterator.ensures.into_iter_gives ∙ c.new-name-items.ensures in
    rw c.new-variables.ensures.items record {
      rules = ap (flat_map (flushed_breaches c.args.symbols.now)) (sym whole);
      resolved = ap (each (variable_named c.args.symbols.now)) (sym whole) ∙ sym (nothing_made _);
    }

pub returns-in_err-resolve_flushed : goal.returns-in_err-resolve_flushed
returns-in_err-resolve_flushed c =
    let p = err_from_is_err_and c.from_residual.result c.from_residual.ensures.1 in
    let left = rw c.in-Some.ensures.steps at c.loop-name.invariant.rules in
    rw (p.1, p.2) (refuses (λ other. ap first_of left ∙ first_of_left _ _ _ c.in_err-resolve_flushed.ensures.checked))

pub loop-name-preserved : goal.loop-name-preserved
loop-name-preserved c =
    let rest = c.next.new.self in
    let here = c.in-Some.ensures.steps in
    let one = c.in_ok-resolve_flushed.ensures in
    record {
      rules =
          (rw here at c.loop-name.invariant.rules)
          ∙ ap (λ here. here ++ flat_map (flushed_breaches c.args.symbols.now) rest) one.checked;
      resolved =
          rw c.in_ok-push.ensures.items ((rw here at c.loop-name.invariant.resolved)
          ∙ each-step (variable_named c.args.symbols.now) c.in-Some.name.now rest c.loop-name.variables.items _
          one.resolved);
    }

pub returns : goal.returns
returns c = rw c.of.ensures record {
  checked = c.loop-name.invariant.rules ∙ ap (flat_map (flushed_breaches c.args.symbols.now)) c.in-None.ensures.steps.0;
  resolved =
      c.loop-name.invariant.resolved
      ∙ row_made (each (variable_named c.args.symbols.now)) _ _ refl c.in-None.ensures.steps.0;
}
