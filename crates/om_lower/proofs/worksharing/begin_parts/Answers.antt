use Rattle.std.proofs.Common.{length, refl, map}
use Rattle.om_scope_tree.specs.ResolvedView as view
use Rattle.om_lower.proofs.Opened.{begins_sections}
use Rattle.om_lower.proofs.PartsOpened.{opens_parts}
use Rattle.om_lower_emit.specs.declared.spot.LoopLabels.{LoopLabels}
use Rattle.om_lower.specs.Parts.{part_head}
use Rattle.om_lower_emit.specs.Emits.{names_at}
use Rattle.om_lower_rules.specs.Scopes.{sections_head}
use Rattle.om_lower.proofs.Begun.{sections_begin, writes_list}
use Rattle.om_lower_emit.specs.Scoping.{stand_ahead}
use Rattle.om_lower.proofs.worksharing.begin_parts.Goals as goal

pub returns-clause-code : goal.returns-clause-code
returns-clause-code c =
    let clauses = map view.clause c.args.head.now.clauses.now in
    let labels : LoopLabels = record { again = c.in_ok-again.again; over = c.in_ok-over.over } in
    opens_parts (names_at c.args.here.now) (part_head c.args.here.now.at.line c.args.head.now.numbers clauses
    (length c.args.parts.now)) labels _ _ _ _ refl refl refl c.next_pick-numbers.ensures
    (begins_sections (names_at c.args.here.now) _ _ _ labels _ _ _ _ _ _ _ _ c.in_ok-again.ensures
    c.in_ok-over.ensures c.in_ok-starts.ensures.code c.in_ok-put.ensures c.define.ensures c.in_ok-put_jump.ensures
    c.in_ok-put-2.ensures) c.in_ok-first.ensures

pub returns-clause-scopes : goal.returns-clause-scopes
returns-clause-scopes c =
    stand_ahead (names_at c.args.here.now) (λ at. sections_head at c.args.here.now.at.line
    (map view.clause c.args.head.now.clauses.now)) _ _ _ _ _
    (sections_begin (names_at c.args.here.now) c.args.here.now.at.line
    (map view.clause c.args.head.now.clauses.now) _ _ _ _ _ _ _ _ _ _ _ _ _ _ _ c.in_ok-again.ensures
    c.in_ok-over.ensures c.in_ok-starts.ensures.scopes c.in_ok-put.ensures c.define.ensures c.in_ok-put_jump.ensures
    c.in_ok-put-2.ensures) (writes_list _ _ _ _ _ c.in_ok-first.ensures)
