use Rattle.std.proofs.lemmas.Result.{IfOk-weaker}
use Rattle.om_scope_tree.specs.Beside.{TreeCopiesBehind}
use Rattle.om_scope_tree.specs.Weights.{HasSmallWeight}
use Rattle.om_scope_tree.specs.ResolvedView as view
use Rattle.om_frontend.proofs.Refusals.{names_refuse}
use Rattle.om_frontend.proofs.program.resolution_of.Goals as goal

pub resolve-requires : goal.resolve-requires
resolve-requires c = record {
  formed = c.in_ok-unit.ensures.tree.parsed.formed;
  atomics_have_forms = c.in_ok-unit.ensures.tree.forms;
}

pub returns-clause-refused : goal.returns-clause-refused
returns-clause-refused c = names_refuse c.args.source.now _ c.resolve.result c.in_ok-unit.ensures.tree
    c.resolve.ensures.first_breach

pub returns-clause-copies_behind : goal.returns-clause-copies_behind
returns-clause-copies_behind c =
    let tree = c.in_ok-unit.ensures.tree in
    IfOk-weaker c.resolve.result _ (λ resolved. TreeCopiesBehind (view.resolved resolved))
    (λ resolved made. c.sources_have_copies_behind.ensures c.args.source.now tree.tokens _
    (view.resolved resolved) tree.lexed tree.parsed.spelled made)
    c.resolve.ensures.resolved

pub returns-clause-small : goal.returns-clause-small
returns-clause-small c =
    let tree = c.in_ok-unit.ensures.tree in
    IfOk-weaker c.resolve.result _ (λ resolved. HasSmallWeight (view.resolved resolved))
    (λ resolved made. c.sources_have_small_weight.ensures c.args.source.now tree.tokens _
    (view.resolved resolved) tree.lexed tree.parsed.spelled made)
    c.resolve.ensures.resolved
