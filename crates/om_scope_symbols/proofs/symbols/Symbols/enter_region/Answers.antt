use Rattle.std.proofs.Common.{[], ◌∷◌, ap, ◌∙◌}
use Rattle.om_scope_rules.specs.Scopes.{is_declared, with_bindings, within}
use Rattle.om_scope_symbols.proofs.Tables.{new-at, scope_of-next}
use Rattle.om_scope_symbols.proofs.symbols.Symbols.enter_region.Goals as goal

pub declare-requires : goal.declare-requires
declare-requires c =
    let bindings = c.as_slice-binding-items.result.now in
    let binding = c.binding-item.result in
    record {
      is_new =
          ap (λ text. is_declared c.loop-binding.self text) c.as_slice.ensures.value
          ∙ ap (λ scopes. is_declared scopes binding.0.items) c.loop-binding.invariant.2
          ∙ new-at bindings c.loop-binding.binding-index binding c.loop-binding-test.true c.binding-item.is
          c.loop-binding.invariant.1;
    }

pub loop-binding-preserved : goal.loop-binding-preserved
loop-binding-preserved c =
    let bindings = c.as_slice-binding-items.result.now in
    let binding = c.binding-item.result in (
      c.loop-binding.invariant.0,
      c.loop-binding.invariant.1,
      c.in_ok-declare.ensures
          ∙ ap (λ text. with_bindings c.loop-binding.self ((text, binding.1) ∷ [])) c.as_slice.ensures.value
          ∙ ap (λ scopes. with_bindings scopes ((binding.0.items, binding.1) ∷ [])) c.loop-binding.invariant.2
          ∙ ap (λ inner. within inner c.args.region c.args.self.now)
          (scope_of-next bindings c.loop-binding.binding-index binding c.loop-binding-test.true c.binding-item.is),
    )
