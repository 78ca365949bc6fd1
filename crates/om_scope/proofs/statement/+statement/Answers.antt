use Rattle.std.proofs.Common.{◌≡◌, ◌+◌, [], ◌∷◌, ◌++◌, Some, length, length-append, map, option_map, ap, refl, sym, ◌∙◌}
use Rattle.std.proofs.Common.{arith, rules}
use Rattle.std.specs.Prelude.{is_some}
use Rattle.std.proofs.lemmas.List.{drop_all}
use Rattle.std.proofs.lemmas.Result.{err_from_is_err_and}
use Rattle.om_parser_tree.specs.declared.tree.Statement.TheViews.{size-Statement, sized-Construct}
use Rattle.om_parser_tree.specs.View.{view_directive, view_for_start, view_part, view_statement}
use Rattle.om_scope_rules.specs.LoopViews.{view_loop}
use Rattle.om_scope_rules.specs.Loops.{loop_in}
use Rattle.om_scope_tree.specs.ResolvedView as view
use Rattle.om_scope_rules.specs.ProperConstructs.{construct_there, parts_proper, proper_inside}
use Rattle.om_scope_rules.specs.Scopes.{inside, outside}
use Rattle.om_scope_rules.specs.StatementResolution.{resolved_statement}
use Rattle.om_scope_rules.specs.StatementRules.{after_for_start, after_statement, after_statements, parts_breaches}
use Rattle.om_scope_rules.specs.StatementRules.{statement_breaches, statements_breaches}
use Rattle.om_scope.proofs.Blocks.{block_outside, body_outside, construct_outside, for_outside, parts_refuse}
use Rattle.om_scope.proofs.Blocks.{parts_step, statements_made, statements_refuse, statements_step, statements_whole}
use Rattle.om_scope.proofs.Constructs.{view_construct, view_do, view_if, view_if_else, view_while}
use Rattle.om_scope.proofs.Founds.{ok_anyway, ok_then}
use Rattle.om_scope.proofs.Fronts.{bounds_refuse}
use Rattle.om_scope.proofs.Inside.{block_inside, do_inside, else_inside, for_inside, if_inside, sections_inside}
use Rattle.om_scope.proofs.Inside.{then_inside, while_inside}
use Rattle.om_scope.proofs.MadeParts.{parts_made, parts_whole}
use Rattle.om_scope_rules.specs.InRow.{both_whole, first_refuses, second_refuses}
use Rattle.om_scope.proofs.BlockPropers.{left_parts_proper, left_proper, with_depth}
use Rattle.om_scope.specs.Items.{drop-item, length-map}
use Rattle.om_scope.specs.Pushes.{map-push}
use Rattle.om_scope_rules.specs.Resolves.{refuses}
use Rattle.om_scope_tree.specs.declared.resolved.ResolvedStatement.{fold-roll-ResolvedStatement}
use Rattle.om_scope_tree.specs.declared.resolved.ResolvedStatement.TheVariants as made
use Rattle.om_scope.proofs.statement.+statement.Goals as goal

pub resolve_statement-returns-in-Construct-clause-found : goal.resolve_statement-returns-in-Construct-clause-found
unfolding statement_breaches resolved_statement
resolve_statement-returns-in-Construct-clause-found t c = record {
  checked =
      let h = rw (c.deref-in-Construct.ensures, c.deref-in-Construct-2.ensures)
      at c.resolve_construct.ensures.found.checked in
      rw (c.in-Construct.is, view_construct c.in-Construct.directive c.in-Construct.body) h;
  resolved =
      let h = rw (c.deref-in-Construct.ensures, c.deref-in-Construct-2.ensures)
      at c.resolve_construct.ensures.found.resolved in
      rw (c.in-Construct.is, view_construct c.in-Construct.directive c.in-Construct.body) h;
}

pub resolve_statement-returns-in_err-condition-in-If-clause-found :
    goal.resolve_statement-returns-in_err-condition-in-If-clause-found
unfolding statement_breaches
resolve_statement-returns-in_err-condition-in-If-clause-found t c =
    let p = err_from_is_err_and c.from_residual-in_err-condition-in-If.result
    c.from_residual-in_err-condition-in-If.ensures.1 in
    let refused = rw c.deref-in-If.ensures at c.in_err-condition-in-If.ensures.checked in
    rw (p.1, p.2, c.in-If.is, view_if c.in-If.at c.in-If.condition c.in-If.then)
    (refuses (first_refuses _ _ _ refused))

pub resolve_statement-returns-in_err-then-in-If-clause-found :
    goal.resolve_statement-returns-in_err-then-in-If-clause-found
unfolding statement_breaches
resolve_statement-returns-in_err-then-in-If-clause-found t c =
    let p = err_from_is_err_and c.from_residual-in_err-then-in-If.result
    c.from_residual-in_err-then-in-If.ensures.1 in
    let condition = rw c.deref-in-If.ensures at c.in_ok-condition-in-If.ensures.checked in
    let refused = rw c.deref-in-If-2.ensures at c.in_err-then-in-If.ensures.found.checked in
    rw (p.1, p.2, c.in-If.is, view_if c.in-If.at c.in-If.condition c.in-If.then)
    (refuses (second_refuses _ _ _ condition refused))

pub resolve_statement-returns-in_ok-then-in-If-clause-found :
    goal.resolve_statement-returns-in_ok-then-in-If-clause-found
unfolding statement_breaches resolved_statement
resolve_statement-returns-in_ok-then-in-If-clause-found t c = record {
  checked =
      let condition = rw c.deref-in-If.ensures at c.in_ok-condition-in-If.ensures.checked in
      let branch = rw c.deref-in-If-2.ensures at c.in_ok-then-in-If.ensures.found.checked in
      rw (c.in-If.is, view_if c.in-If.at c.in-If.condition c.in-If.then)
      (both_whole _ _ condition branch);
  resolved =
      let condition = rw c.deref-in-If.ensures at c.in_ok-condition-in-If.ensures.resolved in
      let branch = rw c.deref-in-If-2.ensures at c.in_ok-then-in-If.ensures.found.resolved in
      let value : c.into_inner.result ≡ c.in_ok-condition-in-If.condition.value = search rules in
      rw (
        c.in-If.is,
        view_if c.in-If.at c.in-If.condition c.in-If.then,
        condition,
        branch,
        ← made.rolls-If,
        fold-roll-ResolvedStatement,
        value,
      ) refl;
}

pub resolve_statement-returns-in_err-condition-in-IfElse-clause-found :
    goal.resolve_statement-returns-in_err-condition-in-IfElse-clause-found
unfolding statement_breaches
resolve_statement-returns-in_err-condition-in-IfElse-clause-found t c =
    let p = err_from_is_err_and c.from_residual-in_err-condition-in-IfElse.result
    c.from_residual-in_err-condition-in-IfElse.ensures.1 in
    let refused = rw c.deref-in-IfElse.ensures at c.in_err-condition-in-IfElse.ensures.checked in
    rw (
      p.1,
      p.2,
      c.in-IfElse.is,
      view_if_else c.in-IfElse.at c.in-IfElse.condition c.in-IfElse.then c.in-IfElse.else_word c.in-IfElse.other,
    )
    (refuses (first_refuses _ _ _ (first_refuses _ _ _ refused)))

pub resolve_statement-returns-in_err-then-in-IfElse-clause-found :
    goal.resolve_statement-returns-in_err-then-in-IfElse-clause-found
unfolding statement_breaches
resolve_statement-returns-in_err-then-in-IfElse-clause-found t c =
    let p = err_from_is_err_and c.from_residual-in_err-then-in-IfElse.result
    c.from_residual-in_err-then-in-IfElse.ensures.1 in
    let condition = rw c.deref-in-IfElse.ensures at c.in_ok-condition-in-IfElse.ensures.checked in
    let refused = rw c.deref-in-IfElse-2.ensures at c.in_err-then-in-IfElse.ensures.found.checked in
    rw (
      p.1,
      p.2,
      c.in-IfElse.is,
      view_if_else c.in-IfElse.at c.in-IfElse.condition c.in-IfElse.then c.in-IfElse.else_word c.in-IfElse.other,
    )
    (refuses (first_refuses _ _ _ (second_refuses _ _ _ condition refused)))

pub resolve_statement-returns-in_err-other-in-IfElse-clause-found :
    goal.resolve_statement-returns-in_err-other-in-IfElse-clause-found
unfolding statement_breaches
resolve_statement-returns-in_err-other-in-IfElse-clause-found t c =
    let p = err_from_is_err_and c.from_residual-in_err-other-in-IfElse.result
    c.from_residual-in_err-other-in-IfElse.ensures.1 in
    let condition = rw c.deref-in-IfElse.ensures at c.in_ok-condition-in-IfElse.ensures.checked in
    let branch = rw c.deref-in-IfElse-2.ensures at c.in_ok-then-in-IfElse.ensures.found.checked in
    let refused = rw (c.deref-in-IfElse-3.ensures, c.in_ok-then-in-IfElse.ensures.in_scope)
    at c.in_err-other-in-IfElse.ensures.found.checked in
    rw (
      p.1,
      p.2,
      c.in-IfElse.is,
      view_if_else c.in-IfElse.at c.in-IfElse.condition c.in-IfElse.then c.in-IfElse.else_word c.in-IfElse.other,
    )
    (refuses (second_refuses _ _ _ (both_whole _ _ condition branch) refused))

pub resolve_statement-returns-in_ok-other-in-IfElse-clause-found :
    goal.resolve_statement-returns-in_ok-other-in-IfElse-clause-found
unfolding statement_breaches resolved_statement
resolve_statement-returns-in_ok-other-in-IfElse-clause-found t c = record {
  checked =
      let condition = rw c.deref-in-IfElse.ensures at c.in_ok-condition-in-IfElse.ensures.checked in
      let branch = rw c.deref-in-IfElse-2.ensures at c.in_ok-then-in-IfElse.ensures.found.checked in
      let other = rw (c.deref-in-IfElse-3.ensures, c.in_ok-then-in-IfElse.ensures.in_scope)
      at c.in_ok-other-in-IfElse.ensures.found.checked in
      rw (
        c.in-IfElse.is,
        view_if_else c.in-IfElse.at c.in-IfElse.condition c.in-IfElse.then c.in-IfElse.else_word c.in-IfElse.other,
      )
      (both_whole _ _ (both_whole _ _ condition branch) other);
  resolved =
      let condition = rw c.deref-in-IfElse.ensures at c.in_ok-condition-in-IfElse.ensures.resolved in
      let branch = rw c.deref-in-IfElse-2.ensures at c.in_ok-then-in-IfElse.ensures.found.resolved in
      let other = rw (c.deref-in-IfElse-3.ensures, c.in_ok-then-in-IfElse.ensures.in_scope)
      at c.in_ok-other-in-IfElse.ensures.found.resolved in
      let value : c.into_inner-in-IfElse.result ≡ c.in_ok-condition-in-IfElse.condition.value = search rules in
      rw (
        c.in-IfElse.is,
        view_if_else c.in-IfElse.at c.in-IfElse.condition c.in-IfElse.then c.in-IfElse.else_word c.in-IfElse.other,
        condition,
        branch,
        other,
        ← made.rolls-IfElse,
        fold-roll-ResolvedStatement,
        value,
      ) refl;
}

pub resolve_statement-returns-in_err-condition-in-While-clause-found :
    goal.resolve_statement-returns-in_err-condition-in-While-clause-found
unfolding statement_breaches
resolve_statement-returns-in_err-condition-in-While-clause-found t c =
    let p = err_from_is_err_and c.from_residual-in_err-condition-in-While.result
    c.from_residual-in_err-condition-in-While.ensures.1 in
    let refused = rw c.deref-in-While.ensures at c.in_err-condition-in-While.ensures.checked in
    rw (p.1, p.2, c.in-While.is, view_while c.in-While.at c.in-While.condition c.in-While.body)
    (refuses (first_refuses _ _ _ refused))

pub resolve_statement-returns-in_err-body-in-While-clause-found :
    goal.resolve_statement-returns-in_err-body-in-While-clause-found
unfolding statement_breaches
resolve_statement-returns-in_err-body-in-While-clause-found t c =
    let p = err_from_is_err_and c.from_residual-in_err-body-in-While.result
    c.from_residual-in_err-body-in-While.ensures.1 in
    let condition = rw c.deref-in-While.ensures at c.in_ok-condition-in-While.ensures.checked in
    let refused = rw (c.deref-in-While-2.ensures, c.looping.ensures) at c.in_err-body-in-While.ensures.found.checked in
    rw (p.1, p.2, c.in-While.is, view_while c.in-While.at c.in-While.condition c.in-While.body)
    (refuses (second_refuses _ _ _ condition refused))

pub resolve_statement-returns-in_ok-body-in-While-clause-found :
    goal.resolve_statement-returns-in_ok-body-in-While-clause-found
unfolding statement_breaches resolved_statement
resolve_statement-returns-in_ok-body-in-While-clause-found t c = record {
  checked =
      let condition = rw c.deref-in-While.ensures at c.in_ok-condition-in-While.ensures.checked in
      let body = rw (c.deref-in-While-2.ensures, c.looping.ensures) at c.in_ok-body-in-While.ensures.found.checked in
      rw (c.in-While.is, view_while c.in-While.at c.in-While.condition c.in-While.body)
      (both_whole _ _ condition body);
  resolved =
      let condition = rw c.deref-in-While.ensures at c.in_ok-condition-in-While.ensures.resolved in
      let body : resolved_statement (inside c.args.symbols.now) c.args.flow.parallel
      (view_statement c.in-While.body.value) ≡ Some (view.statement c.in_ok-body-in-While.body.value) =
      rw (c.deref-in-While-2.ensures, c.looping.ensures) at c.in_ok-body-in-While.ensures.found.resolved in
      let value : c.into_inner-in-While.result ≡ c.in_ok-condition-in-While.condition.value = search rules in
      rw (
        c.in-While.is,
        view_while c.in-While.at c.in-While.condition c.in-While.body,
        condition,
        body,
        ← made.rolls-While,
        fold-roll-ResolvedStatement,
        value,
      ) refl;
}

pub resolve_statement-returns-in_err-body-in-Do-clause-found :
    goal.resolve_statement-returns-in_err-body-in-Do-clause-found
unfolding statement_breaches
resolve_statement-returns-in_err-body-in-Do-clause-found t c =
    let p = err_from_is_err_and c.from_residual-in_err-body-in-Do.result
    c.from_residual-in_err-body-in-Do.ensures.1 in
    let refused = rw (c.deref-in-Do.ensures, c.looping-in-Do.ensures) at c.in_err-body-in-Do.ensures.found.checked in
    rw (p.1, p.2, c.in-Do.is, view_do c.in-Do.at c.in-Do.body c.in-Do.while_word c.in-Do.condition c.in-Do.semicolon)
    (refuses (first_refuses _ _ _ refused))

pub resolve_statement-returns-in_err-condition-in-Do-clause-found :
    goal.resolve_statement-returns-in_err-condition-in-Do-clause-found
unfolding statement_breaches
resolve_statement-returns-in_err-condition-in-Do-clause-found t c =
    let p = err_from_is_err_and c.from_residual-in_err-condition-in-Do.result
    c.from_residual-in_err-condition-in-Do.ensures.1 in
    let body = rw (c.deref-in-Do.ensures, c.looping-in-Do.ensures) at c.in_ok-body-in-Do.ensures.found.checked in
    let refused = rw (c.deref-in-Do-2.ensures, c.in_ok-body-in-Do.ensures.in_scope)
    at c.in_err-condition-in-Do.ensures.checked in
    rw (p.1, p.2, c.in-Do.is, view_do c.in-Do.at c.in-Do.body c.in-Do.while_word c.in-Do.condition c.in-Do.semicolon)
    (refuses (second_refuses _ _ _ body refused))

pub resolve_statement-returns-in_ok-condition-in-Do-clause-found :
    goal.resolve_statement-returns-in_ok-condition-in-Do-clause-found
unfolding statement_breaches resolved_statement
resolve_statement-returns-in_ok-condition-in-Do-clause-found t c = record {
  checked =
      let body = rw (c.deref-in-Do.ensures, c.looping-in-Do.ensures) at c.in_ok-body-in-Do.ensures.found.checked in
      let condition = rw (c.deref-in-Do-2.ensures, c.in_ok-body-in-Do.ensures.in_scope)
      at c.in_ok-condition-in-Do.ensures.checked in
      rw (c.in-Do.is, view_do c.in-Do.at c.in-Do.body c.in-Do.while_word c.in-Do.condition c.in-Do.semicolon)
      (both_whole _ _ body condition);
  resolved =
      let body : resolved_statement (inside c.args.symbols.now) c.args.flow.parallel
      (view_statement c.in-Do.body.value) ≡ Some (view.statement c.in_ok-body-in-Do.body.value) =
      rw (c.deref-in-Do.ensures, c.looping-in-Do.ensures) at c.in_ok-body-in-Do.ensures.found.resolved in
      let condition = rw (c.deref-in-Do-2.ensures, c.in_ok-body-in-Do.ensures.in_scope)
      at c.in_ok-condition-in-Do.ensures.resolved in
      let value : c.into_inner-in-Do.result ≡ c.in_ok-condition-in-Do.condition.value = search rules in
      rw (
        c.in-Do.is,
        view_do c.in-Do.at c.in-Do.body c.in-Do.while_word c.in-Do.condition c.in-Do.semicolon,
        body,
        condition,
        ← made.rolls-Do,
        fold-roll-ResolvedStatement,
        value,
      ) refl;
}

pub resolve_statement-resolve_block-requires : goal.resolve_statement-resolve_block-requires
resolve_statement-resolve_block-requires t c =
    let part = block_inside c.args.statement.now _ c.in-Block.left c.in-Block.items c.in-Block.close_brace c.in-Block.is
    c.as_slice.ensures.value c.requires.proper in
    (omega (arith, part.0, c.decreases), part.1)

pub resolve_statement-resolve_body-requires : goal.resolve_statement-resolve_body-requires
resolve_statement-resolve_body-requires t c =
    let part = if_inside c.args.statement.now _ c.in-If.at c.in-If.condition c.in-If.then c.in-If.is
    c.deref-in-If-2.ensures c.requires.proper in
    (omega (arith, part.0, c.decreases), part.1)

pub resolve_statement-resolve_body-requires-in-IfElse : goal.resolve_statement-resolve_body-requires-in-IfElse
resolve_statement-resolve_body-requires-in-IfElse t c =
    let part = then_inside c.args.statement.now _ c.in-IfElse.at c.in-IfElse.condition c.in-IfElse.then
    c.in-IfElse.else_word c.in-IfElse.other c.in-IfElse.is c.deref-in-IfElse-2.ensures c.requires.proper in
    (omega (arith, part.0, c.decreases), part.1)

pub resolve_statement-resolve_body-requires-in-IfElse-2 : goal.resolve_statement-resolve_body-requires-in-IfElse-2
resolve_statement-resolve_body-requires-in-IfElse-2 t c =
    let part = else_inside c.args.statement.now _ c.in-IfElse.at c.in-IfElse.condition c.in-IfElse.then
    c.in-IfElse.else_word c.in-IfElse.other c.in-IfElse.is c.deref-in-IfElse-3.ensures c.requires.proper in
    (omega (arith, part.0, c.decreases), part.1)

pub resolve_statement-resolve_body-requires-in-While : goal.resolve_statement-resolve_body-requires-in-While
resolve_statement-resolve_body-requires-in-While t c =
    let part = while_inside c.args.statement.now _ c.in-While.at c.in-While.condition c.in-While.body c.in-While.is
    c.deref-in-While-2.ensures c.requires.proper in
    (omega (arith, part.0, c.decreases), part.1)

pub resolve_statement-resolve_body-requires-in-Do : goal.resolve_statement-resolve_body-requires-in-Do
resolve_statement-resolve_body-requires-in-Do t c =
    let part = do_inside c.args.statement.now _ c.in-Do.at c.in-Do.body c.in-Do.while_word c.in-Do.condition
    c.in-Do.semicolon c.in-Do.is c.deref-in-Do.ensures c.requires.proper in
    (omega (arith, part.0, c.decreases), part.1)

pub resolve_statement-resolve_for-requires : goal.resolve_statement-resolve_for-requires
resolve_statement-resolve_for-requires t c =
    let part = for_inside c.args.statement.now _ c.in-For.head c.in-For.body c.in-For.is c.deref-in-For-2.ensures
    c.requires.proper in
    (omega (arith, part.0, c.decreases), part.1)

pub resolve_statement-resolve_construct-requires : goal.resolve_statement-resolve_construct-requires
resolve_statement-resolve_construct-requires t c = (
  omega (
    arith,
    ap size-Statement c.in-Construct.is,
    sized-Construct c.in-Construct.directive c.in-Construct.body,
    ap size-Statement c.deref-in-Construct-2.ensures,
    c.decreases,
  ),
  rw (c.deref-in-Construct.ensures, c.deref-in-Construct-2.ensures)
      (rw (c.in-Construct.is, view_construct c.in-Construct.directive c.in-Construct.body) at c.requires.proper),
)

pub resolve_statement-resolve_sections-requires : goal.resolve_statement-resolve_sections-requires
resolve_statement-resolve_sections-requires t c =
    let part = sections_inside c.args.statement.now _ c.in-Sections.directive c.in-Sections.open_brace
    c.in-Sections.parts c.in-Sections.close_brace c.in-Sections.is c.as_slice-in-Sections.ensures.value
    c.requires.proper in
    (omega (arith, part.0, c.decreases), (part.1, part.2))

pub boxed_statement-resolve_statement-requires : goal.boxed_statement-resolve_statement-requires
boxed_statement-resolve_statement-requires t c = (omega (arith, c.decreases), c.requires.proper)

pub resolve_body-boxed_statement-found-requires : goal.resolve_body-boxed_statement-found-requires
resolve_body-boxed_statement-found-requires t c = (omega (arith, c.decreases), c.requires.proper)

pub resolve_block-resolve_statements-items-requires : goal.resolve_block-resolve_statements-items-requires
resolve_block-resolve_statements-items-requires t c = (omega (arith, c.decreases), c.requires.proper)

pub resolve_for-resolve_body-requires : goal.resolve_for-resolve_body-requires
resolve_for-resolve_body-requires t c = (omega (arith, c.decreases), c.requires.proper)

pub resolve_repeated-resolve_body-requires : goal.resolve_repeated-resolve_body-requires
resolve_repeated-resolve_body-requires t c = (omega (arith, c.decreases), c.requires.proper)

pub resolve_loop_construct-resolve_loop_body-requires : goal.resolve_loop_construct-resolve_loop_body-requires
resolve_loop_construct-resolve_loop_body-requires t c =
    let same : loop_in (view_statement c.args.body.now) ≡ Some (view_loop c.in-Some.found) = sym c.loop_in.ensures
    ∙ ap (option_map view_loop) c.in-Some.is in
    (omega (arith, c.decreases), (c.requires.proper, ap is_some same))

pub resolve_loop_construct-boxed_statement-checked-requires :
    goal.resolve_loop_construct-boxed_statement-checked-requires
resolve_loop_construct-boxed_statement-checked-requires t c = (omega (arith, c.decreases), c.requires.proper)

pub resolve_construct-resolve_loop_construct-requires : goal.resolve_construct-resolve_loop_construct-requires
resolve_construct-resolve_loop_construct-requires t c = (
  omega (arith, c.decreases),
  proper_inside (view_directive c.args.directive.now) (view_statement c.args.body.now) c.requires.proper,
)

pub resolve_plain_construct-boxed_statement-requires : goal.resolve_plain_construct-boxed_statement-requires
resolve_plain_construct-boxed_statement-requires t c = (
  omega (arith, c.decreases),
  proper_inside (view_directive c.args.directive.now) (view_statement c.args.body.now) c.requires.proper,
)

pub resolve_plain_construct-construct_of-requires : goal.resolve_plain_construct-construct_of-requires
resolve_plain_construct-construct_of-requires t c = record {
  is_there = construct_there _ _ _ (view_directive c.args.directive.now) (view_statement c.args.body.now) _ _ _
      c.requires.proper c.requires.for_any c.in_ok-body.ensures.found.resolved;
}

pub resolve_sections-resolve_parts-requires : goal.resolve_sections-resolve_parts-requires
resolve_sections-resolve_parts-requires t c = (
  omega (arith, c.decreases),
  parts_proper _ c.requires.formed c.requires.forms,
)

pub resolve_statements-resolve_statement-found-requires : goal.resolve_statements-resolve_statement-found-requires
resolve_statements-resolve_statement-found-requires t c = (
  with_depth _ _ _ c.args.items.now c.loop-item.item-index c.item-item.result c.loop-item-test.true c.item-item.is
      c.decreases (λ deep. omega (arith, deep, c.decreases)),
  (left_proper c.args.items.now c.loop-item.item-index c.item-item.result c.loop-item-test.true c.item-item.is
      c.loop-item.invariant.3).0,
)

pub resolve_body-returns-clause-in_scope : goal.resolve_body-returns-clause-in_scope
resolve_body-returns-clause-in_scope t c =
    ok_then c.boxed_statement-found.result c.boxed_statement-found.ensures.in_scope
    (λ behind. c.leave.ensures
    ∙ ap outside (behind ∙ ap (λ scopes. after_statement scopes (view_statement c.args.body.now))
    c.in_ok-enter.ensures) ∙ body_outside c.args.symbols.now (view_statement c.args.body.now))

pub resolve_statements-returns-in_err-add-clause-found : goal.resolve_statements-returns-in_err-add-clause-found
resolve_statements-returns-in_err-add-clause-found t c =
    let p = err_from_is_err_and c.from_residual.result c.from_residual.ensures.1 in
    let here = ap (map view_statement) (drop-item c.args.items.now c.loop-item.item-index c.item-item.result
    c.loop-item-test.true c.item-item.is) in
    let left = rw here at c.loop-item.invariant in
    rw (p.1, p.2) (refuses (statements_refuse _ _ _ _ _ _ _ left.0
    (c.in_err-add.ensures.checked _ c.resolve_statement-found.ensures.found.checked)))

pub resolve_statements-loop-item-preserved : goal.resolve_statements-loop-item-preserved
resolve_statements-loop-item-preserved t c =
    let here = ap (map view_statement) (drop-item c.args.items.now c.loop-item.item-index c.item-item.result
    c.loop-item-test.true c.item-item.is) in
    let left = rw here at c.loop-item.invariant in
    let added = c.in_ok-add.ensures.added in
    let checked = rw added.1 at c.resolve_statement-found.ensures.found.checked in
    let behind = rw added.1 at c.resolve_statement-found.ensures.in_scope in
    let made = rw added.1 at c.resolve_statement-found.ensures.found.resolved in
    let grown = ap (map view.statement) added.2 ∙ map-push view.statement
    c.loop-item.resolved.items added.0 in
    rw (behind, grown) (
      statements_step _ _ _ _ _ _ left.0 checked,
      left.1,
      statements_made _ _ _ _ _ _ _ left.2 made,
      (left_proper c.args.items.now c.loop-item.item-index c.item-item.result c.loop-item-test.true c.item-item.is
          c.loop-item.invariant.3).1,
    )

pub resolve_block-returns-clause-in_scope : goal.resolve_block-returns-clause-in_scope
resolve_block-returns-clause-in_scope t c =
    let ss = map view_statement c.args.items.now in
    ok_then c.resolve_statements-items.result c.resolve_statements-items.ensures.in_scope
    (λ behind. c.leave.ensures ∙ ap outside (behind ∙ ap (λ scopes. after_statements scopes ss)
    c.in_ok-enter.ensures) ∙ block_outside c.args.symbols.now ss)

pub resolve_for-returns-clause-in_scope : goal.resolve_for-returns-clause-in_scope
resolve_for-returns-clause-in_scope t c =
    let start = view_for_start c.args.head.now.start in
    c.leave.ensures
    ∙ ap outside (c.in_ok-body.ensures.in_scope ∙ c.in_ok-turn.ensures.in_scope
    ∙ ap (λ scopes. after_for_start scopes start) c.in_ok-enter.ensures)
    ∙ for_outside c.args.symbols.now start

pub resolve_plain_construct-returns-clause-in_scope : goal.resolve_plain_construct-returns-clause-in_scope
resolve_plain_construct-returns-clause-in_scope t c =
    ok_anyway c.construct_of.result
    (c.leave.ensures
    ∙ ap outside (c.in_ok-body.ensures.in_scope
    ∙ ap (λ scopes. after_statement scopes (view_statement c.args.body.now)) c.in_ok-clauses.ensures.in_scope)
    ∙ construct_outside _ _ c.args.symbols.now (view_statement c.args.body.now))

pub resolve_loop_construct-returns-in_err-clauses-in-Some-clause-found :
    goal.resolve_loop_construct-returns-in_err-clauses-in-Some-clause-found
resolve_loop_construct-returns-in_err-clauses-in-Some-clause-found t c =
    let p = err_from_is_err_and c.from_residual-in_err-clauses-in-Some.result
    c.from_residual-in_err-clauses-in-Some.ensures.1 in
    let same : loop_in (view_statement c.args.body.now) ≡ Some (view_loop c.in-Some.found) = sym c.loop_in.ensures
    ∙ ap (option_map view_loop) c.in-Some.is in
    rw (p.1, p.2, same) (refuses (bounds_refuse c.args.symbols.now c.args.flow (view_directive c.args.directive.now)
    (view_loop c.in-Some.found) (view_statement c.args.body.now) _ c.in_err-clauses-in-Some.ensures.checked))

pub resolve_statements-returns-clause-found : goal.resolve_statements-returns-clause-found
unfolding statements_breaches
resolve_statements-returns-clause-found t c = record {
  checked =
      let none = ap (map view_statement) (drop_all c.loop-item.item-index c.args.items.now c.loop-item-test.false) in
      let left = rw none at c.loop-item.invariant in
      left.0;
  resolved =
      let none = ap (map view_statement) (drop_all c.loop-item.item-index c.args.items.now c.loop-item-test.false) in
      let left = rw none at c.loop-item.invariant in
      statements_whole _ _ _ _ left.2;
}

pub resolve_statements-returns-clause-in_scope : goal.resolve_statements-returns-clause-in_scope
resolve_statements-returns-clause-in_scope t c =
    let none = ap (map view_statement) (drop_all c.loop-item.item-index c.args.items.now c.loop-item-test.false) in
    let left = rw none at c.loop-item.invariant in
    sym left.1

pub resolve_parts-returns-in_err-add-clause-found : goal.resolve_parts-returns-in_err-add-clause-found
resolve_parts-returns-in_err-add-clause-found t c =
    let p = err_from_is_err_and c.from_residual.result c.from_residual.ensures.1 in
    let here = ap (map view_part) (drop-item c.args.sections.now c.loop-part.part-index c.part-item.result
    c.loop-part-test.true c.part-item.is) in
    let left = rw here at c.loop-part.invariant in
    let count : c.len.result ≡ length (map view.part c.loop-part.resolved.items) = omega (
      arith,
      c.len.ensures,
      c.loop-part.resolved.ok.0,
      length-map view.part c.loop-part.resolved.items,
    ) in
    let checked = rw (left.1, count) at c.resolve_part-found.ensures.found.checked in
    rw (p.1, p.2) (refuses (parts_refuse _ _ _ _ _ _ _ left.0 (c.in_err-add.ensures.checked _ checked)))

pub resolve_parts-resolve_part-found-requires : goal.resolve_parts-resolve_part-found-requires
resolve_parts-resolve_part-found-requires t c = (
  with_depth _ _ _ c.args.sections.now c.loop-part.part-index c.part-item.result c.loop-part-test.true c.part-item.is
      c.decreases (λ deep. omega (arith, deep, c.decreases)),
  (left_parts_proper c.args.sections.now c.loop-part.part-index c.part-item.result c.loop-part-test.true
      c.part-item.is c.loop-part.invariant.3).0,
)

pub resolve_parts-loop-part-preserved : goal.resolve_parts-loop-part-preserved
resolve_parts-loop-part-preserved t c =
    let here = ap (map view_part) (drop-item c.args.sections.now c.loop-part.part-index c.part-item.result
    c.loop-part-test.true c.part-item.is) in
    let left = rw here at c.loop-part.invariant in
    let made = map view.part c.loop-part.resolved.items in
    let as_many = length-map view.part c.loop-part.resolved.items in
    let count : c.len.result ≡ length made = omega (
      arith,
      c.len.ensures,
      c.loop-part.resolved.ok.0,
      as_many,
    ) in
    let added = c.in_ok-add.ensures.added in
    let checked = rw (left.1, count, added.1) at c.resolve_part-found.ensures.found.checked in
    let behind = rw added.1 at c.resolve_part-found.ensures.in_scope in
    let found = rw (left.1, added.1) at c.resolve_part-found.ensures.found.resolved in
    let grown = ap (map view.part) added.2 ∙ map-push view.part c.loop-part.resolved.items added.0 in
    let longer : length (made ++ view.part added.0 ∷ []) ≡ length made + 1 = length-append made _ in
    rw (grown, longer) (
      parts_step _ _ _ _ _ _ left.0 checked,
      behind ∙ left.1,
      parts_made _ _ _ _ _ _ _ left.2 found,
      (left_parts_proper c.args.sections.now c.loop-part.part-index c.part-item.result c.loop-part-test.true
          c.part-item.is c.loop-part.invariant.3).1,
    )

pub resolve_parts-returns-clause-found : goal.resolve_parts-returns-clause-found
unfolding parts_breaches
resolve_parts-returns-clause-found t c = record {
  checked =
      let none = ap (map view_part) (drop_all c.loop-part.part-index c.args.sections.now c.loop-part-test.false) in
      let left = rw none at c.loop-part.invariant in
      left.0;
  resolved =
      let none = ap (map view_part) (drop_all c.loop-part.part-index c.args.sections.now c.loop-part-test.false) in
      let left = rw none at c.loop-part.invariant in
      parts_whole _ _ _ _ left.2;
}
