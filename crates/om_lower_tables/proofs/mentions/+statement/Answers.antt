use Rattle.std.proofs.Common.{◌+◌, map, option_map, drop, ap, arith, sym, ◌∙◌}
use Rattle.std.specs.Prelude.{sum}
use Rattle.std.proofs.lemmas.Grind.{common_steps}
use denote.Param.Weighed.{most}
use Rattle.om_scope_tree.specs.declared.resolved.ResolvedStatement.TheViews.{size-ResolvedPart, size-ResolvedStatement}
use Rattle.om_scope_tree.specs.declared.resolved.ResolvedStatement.TheViews.{sized-Block, sized-Construct, sized-Do}
use Rattle.om_scope_tree.specs.declared.resolved.ResolvedStatement.TheViews.{sized-For, sized-IfElse, sized-Loop}
use Rattle.om_scope_tree.specs.declared.resolved.ResolvedStatement.TheViews.{size_is-ResolvedPart, sized-Region, sized-Sections}
use Rattle.om_scope_tree.specs.ResolvedTree as trees
use Rattle.om_scope_tree.specs.ResolvedView as view
use Rattle.om_scope_tree.specs.Weights.{clause_weight, declarator_weight, loop_weight, parts_weight, statements_weight, update_weight}
use Rattle.om_lower_rules.specs.Mentions.{all_mentioned}
use Rattle.om_lower_rules.specs.Numbering.{numbers_of}
use Rattle.om_lower_tables.specs.Room.{IsRoomFor}
use Rattle.om_lower_tables.specs.Walks.{head_weight}
use Rattle.om_lower_tables.proofs.Rooms.{clauses_behind, construct_behind, given, head_behind, loop_behind, statement_behind}
use Rattle.om_lower_tables.proofs.Rooms.{statements_behind}
use Rattle.om_lower_tables.proofs.Rooms.{value_behind}
use Rattle.om_lower_tables.proofs.Weights.{all_weight_of, weight_block, weight_construct, weight_do, weight_for}
use Rattle.om_lower_tables.proofs.Noting.{parts_next}
use Rattle.om_lower_tables.proofs.Weights.{next_part, smaller_tested}
use Rattle.om_lower_tables.proofs.Weights.{item_left, part_left, weight_declaration, weight_expression}
use Rattle.om_lower_tables.proofs.Weights.{weight_return, weight_update, weight_tested, weight_region, with_depth}
use Rattle.om_lower_tables.proofs.Weights.{weight_if_else, weight_loop, weight_sections}
use Rattle.om_lower_tables.proofs.mentions.+statement.Goals as goal

pub note_statement-note_statements-requires : goal.note_statement-note_statements-requires
unfolding IsRoomFor
note_statement-note_statements-requires t c = (
  omega (
    arith,
    ap size-ResolvedStatement c.in-Block.is,
    sized-Block c.in-Block.at c.in-Block.items,
    ap (most size-ResolvedStatement) c.as_slice-in-Block.ensures.value,
    c.decreases,
  ),
  omega (
    arith,
    weight_block _ _ _ c.in-Block.is,
    ap (λ xs. statements_weight (trees.statements (map view.statement xs))) c.as_slice-in-Block.ensures.value,
    c.requires.room,
  ),
)

pub note_statement-note_statement-requires : goal.note_statement-note_statement-requires
unfolding IsRoomFor
note_statement-note_statement-requires t c = (
  omega (
    arith,
    ap size-ResolvedStatement c.in-IfElse.is,
    sized-IfElse c.in-IfElse.at c.in-IfElse.condition c.in-IfElse.then c.in-IfElse.other,
    ap size-ResolvedStatement c.deref.ensures,
    c.decreases,
  ),
  omega (
    arith,
    weight_if_else _ _ _ _ _ c.in-IfElse.is,
    ap all_weight_of c.deref.ensures,
    value_behind (view.expression c.in-IfElse.condition) c.args.walk.now.found c.note_value-in-IfElse.new.found c.in_ok-note_value-in-IfElse.ensures,
    c.requires.room,
  ),
)

pub note_statement-note_statement-requires-in-IfElse : goal.note_statement-note_statement-requires-in-IfElse
unfolding IsRoomFor
note_statement-note_statement-requires-in-IfElse t c = (
  omega (
    arith,
    ap size-ResolvedStatement c.in-IfElse.is,
    sized-IfElse c.in-IfElse.at c.in-IfElse.condition c.in-IfElse.then c.in-IfElse.other,
    ap size-ResolvedStatement c.deref-in-IfElse.ensures,
    c.decreases,
  ),
  omega (
    arith,
    weight_if_else _ _ _ _ _ c.in-IfElse.is,
    ap all_weight_of c.deref.ensures,
    ap all_weight_of c.deref-in-IfElse.ensures,
    value_behind (view.expression c.in-IfElse.condition) c.args.walk.now.found c.note_value-in-IfElse.new.found c.in_ok-note_value-in-IfElse.ensures,
    statement_behind (view.statement c.deref.result.now) (numbers_of c.args.walk.now.numbers) c.note_statement.new.walk.numbers c.note_value-in-IfElse.new.found c.note_statement.new.walk.found c.in_ok-note_statement-in-IfElse.ensures.behind c.in_ok-note_statement-in-IfElse.ensures.noted,
    c.requires.room,
  ),
)

pub note_statement-note_statement-requires-in-Do : goal.note_statement-note_statement-requires-in-Do
unfolding IsRoomFor
note_statement-note_statement-requires-in-Do t c = (
  omega (
    arith,
    ap size-ResolvedStatement c.in-Do.is,
    sized-Do c.in-Do.at c.in-Do.body c.in-Do.condition,
    ap size-ResolvedStatement c.deref-in-Do.ensures,
    c.decreases,
  ),
  omega (
    arith,
    weight_do _ _ _ _ c.in-Do.is,
    ap all_weight_of c.deref-in-Do.ensures,
    c.requires.room,
  ),
)

pub note_statement-note_statement-requires-in-For : goal.note_statement-note_statement-requires-in-For
unfolding IsRoomFor
note_statement-note_statement-requires-in-For t c = (
  omega (
    arith,
    ap size-ResolvedStatement c.in-For.is,
    sized-For c.in-For.at c.in-For.head c.in-For.body,
    ap size-ResolvedStatement c.deref-in-For-2.ensures,
    c.decreases,
  ),
  omega (
    arith,
    weight_for _ _ _ _ c.in-For.is,
    ap all_weight_of c.deref-in-For-2.ensures,
    ap head_weight c.deref-in-For.ensures,
    head_behind (view.start c.deref-in-For.result.now.start) (option_map view.expression c.deref-in-For.result.now.condition) (option_map view.expression c.deref-in-For.result.now.step) c.args.walk.now.found c.note_head.new.found c.in_ok-note_head-in-For.ensures,
    c.requires.room,
  ),
)

pub note_statement-note_statement-requires-in-Loop : goal.note_statement-note_statement-requires-in-Loop
unfolding IsRoomFor
note_statement-note_statement-requires-in-Loop t c = (
  omega (
    arith,
    ap size-ResolvedStatement c.in-Loop.is,
    sized-Loop c.in-Loop.at c.in-Loop.clauses c.in-Loop.nowait c.in-Loop.repeated c.in-Loop.body,
    ap size-ResolvedStatement c.deref-in-Loop-2.ensures,
    c.decreases,
  ),
  omega (
    arith,
    weight_loop _ _ _ _ _ _ c.in-Loop.is,
    ap all_weight_of c.deref-in-Loop-2.ensures,
    ap (λ xs. sum (map clause_weight (map view.clause xs))) c.as_slice-in-Loop.ensures.value,
    clauses_behind (map view.clause c.as_slice-in-Loop.result.now) c.args.walk.now.found c.note_clauses-in-Loop.new.found c.in_ok-note_clauses-in-Loop.ensures,
    ap (λ l. loop_weight (view.loop l)) c.deref-in-Loop.ensures,
    loop_behind (view.loop c.deref-in-Loop.result.now) c.note_clauses-in-Loop.new.found c.note_loop.new.found c.in_ok-note_loop-in-Loop.ensures,
    c.requires.room,
  ),
)

pub note_statement-note_parts-requires : goal.note_statement-note_parts-requires
unfolding IsRoomFor
note_statement-note_parts-requires t c = (
  omega (
    arith,
    ap size-ResolvedStatement c.in-Sections.is,
    sized-Sections c.in-Sections.at c.in-Sections.clauses c.in-Sections.nowait c.in-Sections.parts,
    ap (most size-ResolvedPart) c.as_slice-in-Sections-2.ensures.value,
    c.decreases,
  ),
  omega (
    arith,
    weight_sections _ _ _ _ _ c.in-Sections.is,
    ap (λ xs. sum (map clause_weight (map view.clause xs))) c.as_slice-in-Sections.ensures.value,
    ap (λ xs. parts_weight (trees.parts (map view.part xs))) c.as_slice-in-Sections-2.ensures.value,
    clauses_behind (map view.clause c.as_slice-in-Sections.result.now) c.args.walk.now.found c.note_clauses-in-Sections.new.found c.in_ok-note_clauses-in-Sections.ensures,
    ap given c.next_pick-walk.ensures,
    c.requires.room,
  ),
)

pub note_statement-note_statement-requires-in-Construct : goal.note_statement-note_statement-requires-in-Construct
unfolding IsRoomFor
note_statement-note_statement-requires-in-Construct t c = (
  omega (
    arith,
    ap size-ResolvedStatement c.in-Construct.is,
    sized-Construct c.in-Construct.at c.in-Construct.kind c.in-Construct.clauses c.in-Construct.body,
    ap size-ResolvedStatement c.deref-in-Construct.ensures,
    c.decreases,
  ),
  omega (
    arith,
    weight_construct _ _ _ _ _ c.in-Construct.is,
    ap (λ xs. sum (map clause_weight (map view.clause xs))) c.as_slice-in-Construct.ensures.value,
    ap all_weight_of c.deref-in-Construct.ensures,
    construct_behind c.in-Construct.at c.in-Construct.kind c.args.walk.now.found c.note_construct.new.found
        c.in_ok-note_construct-in-Construct.ensures,
    clauses_behind (map view.clause c.as_slice-in-Construct.result.now) c.note_construct.new.found c.note_clauses-in-Construct.new.found c.in_ok-note_clauses-in-Construct.ensures,
    c.requires.room,
  ),
)

pub note_region-note_statement-requires : goal.note_region-note_statement-requires
unfolding IsRoomFor
note_region-note_statement-requires t c = (
  omega (arith, c.decreases),
  omega (arith, ap given c.next_body-inner.ensures, c.requires.room),
)

pub note_statement-note_value-requires-in-Do : goal.note_statement-note_value-requires-in-Do
unfolding IsRoomFor
note_statement-note_value-requires-in-Do t c =
    omega (
      arith,
      weight_do _ _ _ _ c.in-Do.is,
      ap all_weight_of c.deref-in-Do.ensures,
      statement_behind (view.statement c.deref-in-Do.result.now) (numbers_of c.args.walk.now.numbers) c.note_statement-in-Do.new.walk.numbers c.args.walk.now.found c.note_statement-in-Do.new.walk.found c.in_ok-note_statement-in-Do.ensures.behind c.in_ok-note_statement-in-Do.ensures.noted,
      c.requires.room,
    )

pub note_statement-note_loop-requires : goal.note_statement-note_loop-requires
unfolding IsRoomFor
note_statement-note_loop-requires t c =
    omega (
      arith,
      weight_loop _ _ _ _ _ _ c.in-Loop.is,
      ap (λ l. loop_weight (view.loop l)) c.deref-in-Loop.ensures,
      ap (λ xs. sum (map clause_weight (map view.clause xs))) c.as_slice-in-Loop.ensures.value,
      clauses_behind (map view.clause c.as_slice-in-Loop.result.now) c.args.walk.now.found c.note_clauses-in-Loop.new.found c.in_ok-note_clauses-in-Loop.ensures,
      c.requires.room,
    )

pub note_statement-note_clauses-requires-in-Construct : goal.note_statement-note_clauses-requires-in-Construct
unfolding IsRoomFor
note_statement-note_clauses-requires-in-Construct t c =
    omega (
      arith,
      weight_construct _ _ _ _ _ c.in-Construct.is,
      ap (λ xs. sum (map clause_weight (map view.clause xs))) c.as_slice-in-Construct.ensures.value,
      construct_behind c.in-Construct.at c.in-Construct.kind c.args.walk.now.found c.note_construct.new.found
          c.in_ok-note_construct-in-Construct.ensures,
      c.requires.room,
    )

pub note_statement-note_declarators-requires : goal.note_statement-note_declarators-requires
unfolding IsRoomFor
note_statement-note_declarators-requires t c =
    omega (
      arith,
      weight_declaration _ _ _ c.in-Declaration.is,
      ap (λ xs. sum (map declarator_weight (map view.declarator xs))) c.as_slice.ensures.value,
      c.requires.room,
    )

pub note_statement-note_value-requires : goal.note_statement-note_value-requires
unfolding IsRoomFor
note_statement-note_value-requires t c =
    omega (
      arith,
      weight_expression _ _ _ c.in-Expression.is,
      c.requires.room,
    )

pub note_statement-note_value-requires-in-IfElse : goal.note_statement-note_value-requires-in-IfElse
unfolding IsRoomFor
note_statement-note_value-requires-in-IfElse t c =
    omega (
      arith,
      weight_if_else _ _ _ _ _ c.in-IfElse.is,
      c.requires.room,
    )

pub note_statement-note_head-requires : goal.note_statement-note_head-requires
unfolding IsRoomFor
note_statement-note_head-requires t c =
    omega (
      arith,
      weight_for _ _ _ _ c.in-For.is,
      ap head_weight c.deref-in-For.ensures,
      c.requires.room,
    )

pub note_statement-note_perhaps-requires : goal.note_statement-note_perhaps-requires
unfolding IsRoomFor
note_statement-note_perhaps-requires t c =
    omega (
      arith,
      weight_return _ _ _ c.in-Return.is,
      c.requires.room,
    )

pub note_statement-note_clauses-requires-in-Loop : goal.note_statement-note_clauses-requires-in-Loop
unfolding IsRoomFor
note_statement-note_clauses-requires-in-Loop t c =
    omega (
      arith,
      weight_loop _ _ _ _ _ _ c.in-Loop.is,
      ap (λ xs. sum (map clause_weight (map view.clause xs))) c.as_slice-in-Loop.ensures.value,
      c.requires.room,
    )

pub note_statement-note_clauses-requires-in-Sections : goal.note_statement-note_clauses-requires-in-Sections
unfolding IsRoomFor
note_statement-note_clauses-requires-in-Sections t c =
    omega (
      arith,
      weight_sections _ _ _ _ _ c.in-Sections.is,
      ap (λ xs. sum (map clause_weight (map view.clause xs))) c.as_slice-in-Sections.ensures.value,
      c.requires.room,
    )

pub note_statement-next_pick-walk-requires : goal.note_statement-next_pick-walk-requires
unfolding IsRoomFor
note_statement-next_pick-walk-requires t c =
    omega (
      arith,
      weight_sections _ _ _ _ _ c.in-Sections.is,
      c.requires.room,
    )

pub note_statement-note_construct-requires : goal.note_statement-note_construct-requires
unfolding IsRoomFor
note_statement-note_construct-requires t c =
    omega (
      arith,
      weight_construct _ _ _ _ _ c.in-Construct.is,
      c.requires.room,
    )

pub note_statement-note_update-requires : goal.note_statement-note_update-requires
unfolding IsRoomFor
note_statement-note_update-requires t c =
    omega (
      arith,
      weight_update _ _ _ c.in-Update.is,
      ap (λ u. update_weight (view.update u)) c.deref-in-Update.ensures,
      c.requires.room,
    )

pub note_statement-note_clauses-requires : goal.note_statement-note_clauses-requires
unfolding IsRoomFor
note_statement-note_clauses-requires t c =
    omega (
      arith,
      weight_region _ _ _ _ _ _ c.in-Region.is,
      ap (λ xs. sum (map clause_weight (map view.clause xs))) c.as_slice-in-Region.ensures.value,
      c.requires.room,
    )

pub note_statement-note_region-requires : goal.note_statement-note_region-requires
unfolding IsRoomFor
note_statement-note_region-requires t c = (
  omega (
    arith,
    ap size-ResolvedStatement c.in-Region.is,
    sized-Region c.in-Region.at c.in-Region.kind c.in-Region.clauses c.in-Region.captures c.in-Region.body,
    ap size-ResolvedStatement c.deref-in-Region.ensures,
    c.decreases,
  ),
  omega (
    arith,
    weight_region _ _ _ _ _ _ c.in-Region.is,
    ap (λ xs. sum (map clause_weight (map view.clause xs))) c.as_slice-in-Region.ensures.value,
    ap all_weight_of c.deref-in-Region.ensures,
    clauses_behind (map view.clause c.as_slice-in-Region.result.now) c.args.walk.now.found c.note_clauses.new.found c.in_ok-note_clauses-in-Region.ensures,
    c.requires.room,
  ),
)

pub note_statement-note_value-requires-in-If : goal.note_statement-note_value-requires-in-If
unfolding IsRoomFor
note_statement-note_value-requires-in-If t c =
    omega (
      arith,
      weight_tested _ _ _ c.in-If.is,
      c.requires.room,
    )

pub note_statement-note_statement-requires-in-If : goal.note_statement-note_statement-requires-in-If
unfolding IsRoomFor
note_statement-note_statement-requires-in-If t c = (
  omega (
    arith,
    smaller_tested _ _ _ c.in-If.is,
    ap size-ResolvedStatement c.deref-in-If.ensures,
    c.decreases,
  ),
  omega (
    arith,
    weight_tested _ _ _ c.in-If.is,
    ap all_weight_of c.deref-in-If.ensures,
    value_behind (view.expression c.in-If.test) c.args.walk.now.found c.note_value-in-If.new.found c.in_ok-note_value-in-If.ensures,
    c.requires.room,
  ),
)

pub note_statements-note_statement-requires : goal.note_statements-note_statement-requires
unfolding IsRoomFor
note_statements-note_statement-requires t c = (
  with_depth _ _ _ c.args.items.now c.loop-item.item-index c.item-item.result c.loop-item-test.true
      c.item-item.is c.decreases (λ deep. omega (arith, deep, c.decreases)),
  omega (
    arith,
    item_left c.args.items.now c.loop-item.item-index c.item-item.result c.loop-item-test.true c.item-item.is,
    c.loop-item.invariant.2,
  ),
)

pub note_parts-note_statements-requires : goal.note_parts-note_statements-requires
unfolding IsRoomFor
note_parts-note_statements-requires t c = (
  with_depth _ _ _ c.args.parts.now c.loop-part.part-index c.part-item.result c.loop-part-test.true
      c.part-item.is c.decreases (λ deep. omega (arith, deep, size_is-ResolvedPart c.part-item.result, ap (most size-ResolvedStatement) c.as_slice.ensures.value, c.decreases)),
  omega (
    arith,
    part_left c.args.parts.now c.loop-part.part-index c.part-item.result c.loop-part-test.true c.part-item.is,
    ap (λ xs. statements_weight (trees.statements (map view.statement xs))) c.as_slice.ensures.value,
    c.loop-part.invariant.2,
  ),
)

pub note_region-next_body-inner-requires : goal.note_region-next_body-inner-requires
unfolding IsRoomFor
note_region-next_body-inner-requires t c = omega (arith, c.requires.room)

pub note_statements-loop-item-preserved : goal.note_statements-loop-item-preserved
unfolding IsRoomFor all_mentioned
note_statements-loop-item-preserved t c = (
  grind (arith, common_steps),
  grind (arith, common_steps),
  omega (
    arith,
    item_left c.args.items.now c.loop-item.item-index c.item-item.result c.loop-item-test.true c.item-item.is,
    statement_behind (view.statement c.item-item.result) (numbers_of c.loop-item.walk.numbers)
        c.note_statement.new.walk.numbers c.loop-item.walk.found c.note_statement.new.walk.found
        c.in_ok-note_statement.ensures.behind c.in_ok-note_statement.ensures.noted,
    c.loop-item.invariant.2,
  ),
  (grind (arith, common_steps), grind (arith, common_steps), grind (arith, common_steps), grind (arith, common_steps)),
)

pub note_parts-loop-part-preserved : goal.note_parts-loop-part-preserved
unfolding IsRoomFor
note_parts-loop-part-preserved t c =
    let k = c.loop-part.part-index in
    let x = c.part-item.result in
    let seen = trees.statements (map view.statement c.as_slice.result.now) in
    let rest = trees.parts (map view.part (drop (k + 1) c.args.parts.now)) in
    let listed = ap (λ xs. trees.statements (map view.statement xs)) c.as_slice.ensures.value in
    let here = next_part c.args.parts.now k x c.loop-part-test.true c.part-item.is
    ∙ ap (λ items. trees.Part items rest) (sym listed) in
    let next = parts_next seen _ rest (trees.parts (map view.part c.args.parts.now))
    (numbers_of c.loop-part.walk.numbers) (numbers_of c.args.walk.now.numbers) c.note_statements.new.walk.numbers
    c.loop-part.walk.ends.items c.note_statements.new.walk.ends.items c.args.walk.now.ends.items c.loop-part.walk.found
    c.note_statements.new.walk.found c.args.walk.now.found here c.in_ok-note_statements.ensures.behind
    c.in_ok-note_statements.ensures.ends c.in_ok-note_statements.ensures.noted c.loop-part.invariant.0
    c.loop-part.invariant.1 c.loop-part.invariant.3 in (
      next.0,
      next.1,
      omega (
        arith,
        part_left c.args.parts.now k x c.loop-part-test.true c.part-item.is,
        ap statements_weight listed,
        statements_behind seen (numbers_of c.loop-part.walk.numbers) c.note_statements.new.walk.numbers
            c.loop-part.walk.found c.note_statements.new.walk.found c.in_ok-note_statements.ensures.behind
            c.in_ok-note_statements.ensures.noted,
        c.loop-part.invariant.2,
      ),
      next.2,
    )
