use Rattle.std.proofs.Common.{◌++◌, [], ◌∷◌, append-nil, append_assoc, map, ap, sym, ◌∙◌}
use Rattle.std.proofs.lemmas.Result.{err_from_is_err_and}
use Rattle.om_parser_tree.specs.View.{view_number}
use Rattle.om_scope_rules.specs.InRow.{row_behind, row_whole, unbroken-refuse, unbroken-step}
use Rattle.om_scope_rules.specs.Scopes.{after_global}
use Rattle.om_scope_rules.specs.UnitResolution.{global_of}
use Rattle.om_scope_rules.specs.UnitRules.{global_breaches}
use Rattle.om_scope_parts.specs.Declares.{global_tree}
use Rattle.om_scope_parts.proofs.Commas.{all_left, declarators_seen}
use Rattle.om_scope_parts.proofs.globals.declare_globals.Goals as goal

pub loop-declarator-init : goal.loop-declarator-init
loop-declarator-init c =
    let declaration = c.args.declaration.now in
    let whole =
    ap (map global_tree) (c.into_iter-declarator-iterator.ensures.into_iter_gives ∙ c.new-declarator-items.ensures)
    ∙ ap (λ rest. map global_tree (declaration.first ∷ map (λ further. further.1) rest)) c.as_slice.ensures.value
    ∙ declarators_seen view_number declaration.first declaration.rest.items in
    record {
      rules = all_left whole;
      declared = ap (λ left. c.args.globals.now.items ++ map global_of left) whole;
    }

pub returns-in_err-declare_global-clause-checked : goal.returns-in_err-declare_global-clause-checked
returns-in_err-declare_global-clause-checked c =
    let p = err_from_is_err_and c.from_residual.result c.from_residual.ensures.1 in
    let here = ap (map global_tree) c.in-Some.ensures.steps in
    let left = rw here at c.loop-declarator.invariant.rules in
    rw (p.1, p.2) (unbroken-refuse global_breaches after_global left c.in_err-declare_global.ensures.checked)

pub loop-declarator-preserved : goal.loop-declarator-preserved
loop-declarator-preserved c =
    let here = ap (map global_tree) c.in-Some.ensures.steps in
    let one = c.in_ok-declare_global.ensures in
    let made = global_of (global_tree c.in-Some.declarator.now) ∷ [] in
    let rest = map global_tree c.next.new.self in
    record {
      rules = rw one.in_scope (unbroken-step global_breaches after_global (rw here at c.loop-declarator.invariant.rules)
          one.checked);
      declared =
          rw one.declared (append_assoc c.loop-declarator.globals.items made (map global_of rest)
          ∙ (rw here at c.loop-declarator.invariant.declared));
    }

pub returns-clause-checked : goal.returns-clause-checked
returns-clause-checked c =
    row_whole (ap (map global_tree) c.in-None.ensures.steps.0) c.loop-declarator.invariant.rules

pub returns-clause-in_scope : goal.returns-clause-in_scope
returns-clause-in_scope c =
    row_behind (ap (map global_tree) c.in-None.ensures.steps.0) c.loop-declarator.invariant.rules

pub returns-clause-declared : goal.returns-clause-declared
returns-clause-declared c =
    let made = c.loop-declarator.globals.items in
    let none = ap (λ ds. made ++ map global_of (map global_tree ds)) c.in-None.ensures.steps.0 in
    sym (none ∙ append-nil made) ∙ c.loop-declarator.invariant.declared
