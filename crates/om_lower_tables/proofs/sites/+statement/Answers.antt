use Rattle.std.proofs.Common.{◌+◌, map, drop, ap, arith, sym, ◌∙◌, subst}
use Rattle.std.proofs.lemmas.Result.{on_ok_weaker}
use denote.Param.Weighed.{most}
use Rattle.om_scope_tree.specs.declared.resolved.ResolvedStatement.TheViews.{size-ResolvedPart, size-ResolvedStatement}
use Rattle.om_scope_tree.specs.declared.resolved.ResolvedStatement.TheViews.{size_is-ResolvedPart, sized-Block}
use Rattle.om_scope_tree.specs.declared.resolved.ResolvedStatement.TheViews.{sized-IfElse, sized-Region, sized-Sections}
use Rattle.om_scope_tree.specs.ResolvedTree as trees
use Rattle.om_scope_tree.specs.ResolvedView as view
use Rattle.om_scope_tree.specs.Weights.{parts_weight, statements_weight}
use Rattle.om_lower_rules.specs.Bodies.{all_regions, behind_all, behind_parts, parts_regions, regions}
use Rattle.om_lower_rules.specs.Numbering.{numbers_of}
use Rattle.om_lower_tables.specs.Room.{IsRoomFor}
use Rattle.om_lower_tables.specs.Sites.{AddsBodies, function_of, site_variables}
use Rattle.om_lower_tables.proofs.Rooms.{all_numbers_behind, given, numbers_behind}
use Rattle.om_lower_tables.proofs.Weights.{all_weight_of, inside, item_left, next_item, next_part, part_left, view_if_else}
use Rattle.om_lower_tables.proofs.Weights.{weight_block, weight_if_else, weight_region, weight_sections}
use Rattle.om_lower_tables.proofs.Weights.{with_depth}
use Rattle.om_lower_tables.proofs.SiteBodies.{if_else_regions, items_regions, left_added, part_regions, region_added}
use Rattle.om_lower_tables.proofs.SiteBodies.{region_round, round_kept, two_added}
use Rattle.om_lower_tables.proofs.sites.+statement.Goals as goal

pub see_statement-see_statements-requires : goal.see_statement-see_statements-requires
unfolding IsRoomFor
see_statement-see_statements-requires t c = (
  omega (
    arith,
    ap size-ResolvedStatement c.in-Block.is,
    sized-Block c.in-Block.at c.in-Block.items,
    ap (most size-ResolvedStatement) c.as_slice.ensures.value,
    c.decreases,
  ),
  (
    c.requires.round,
    omega (
      arith,
      weight_block _ _ _ c.in-Block.is,
      ap (λ xs. statements_weight (trees.statements (map view.statement xs))) c.as_slice.ensures.value,
      c.requires.room,
    ),
  ),
)

pub see_statement-see_statement-requires : goal.see_statement-see_statement-requires
unfolding IsRoomFor
see_statement-see_statement-requires t c = (
  omega (
    arith,
    ap size-ResolvedStatement c.in-IfElse.is,
    sized-IfElse c.in-IfElse.at c.in-IfElse.condition c.in-IfElse.then c.in-IfElse.other,
    ap size-ResolvedStatement c.deref.ensures,
    c.decreases,
  ),
  (
    c.requires.round,
    omega (
      arith,
      weight_if_else _ _ _ _ _ c.in-IfElse.is,
      ap all_weight_of c.deref.ensures,
      c.requires.room,
    ),
  ),
)

pub see_statement-see_statement-requires-in-IfElse : goal.see_statement-see_statement-requires-in-IfElse
unfolding IsRoomFor
see_statement-see_statement-requires-in-IfElse t c = (
  omega (
    arith,
    ap size-ResolvedStatement c.in-IfElse.is,
    sized-IfElse c.in-IfElse.at c.in-IfElse.condition c.in-IfElse.then c.in-IfElse.other,
    ap size-ResolvedStatement c.deref-in-IfElse.ensures,
    c.decreases,
  ),
  (
    round_kept c.args.sites.now.items c.see_statement.new.sites.items c.args.round.now.depth
        (site_variables c.args.round.now) c.requires.round c.in_ok-between-in-IfElse.ensures.sites.1,
    omega (
      arith,
      weight_if_else _ _ _ _ _ c.in-IfElse.is,
      ap all_weight_of c.deref.ensures,
      ap all_weight_of c.deref-in-IfElse.ensures,
      numbers_behind (view.statement c.deref.result.now) (numbers_of c.args.numbers)
          c.in_ok-between-in-IfElse.between c.in_ok-between-in-IfElse.ensures.behind,
      c.requires.room,
    ),
  ),
)

pub see_statement-see_parts-requires : goal.see_statement-see_parts-requires
unfolding IsRoomFor
see_statement-see_parts-requires t c = (
  omega (
    arith,
    ap size-ResolvedStatement c.in-Sections.is,
    sized-Sections c.in-Sections.at c.in-Sections.clauses c.in-Sections.nowait c.in-Sections.parts,
    ap (most size-ResolvedPart) c.as_slice-in-Sections.ensures.value,
    c.decreases,
  ),
  (
    c.requires.round,
    omega (
      arith,
      weight_sections _ _ _ _ _ c.in-Sections.is,
      ap (λ xs. parts_weight (trees.parts (map view.part xs))) c.as_slice-in-Sections.ensures.value,
      ap given c.next_pick.ensures,
      c.requires.room,
    ),
  ),
)

pub see_region-see_statement-requires : goal.see_region-see_statement-requires
unfolding IsRoomFor
see_region-see_statement-requires t c = (
  omega (arith, c.decreases),
  (
    region_round _ _ _ _ _ c.in_ok-push.ensures.items c.requires.round c.depth_in-depth.ensures,
    omega (arith, ap given c.next_body-inner.ensures, c.requires.room),
  ),
)

pub see_region-returns-clause-sites : goal.see_region-returns-clause-sites
unfolding IsRoomFor
see_region-returns-clause-sites t c =
    on_ok_weaker c.see_statement.result (λ added. region_added _ _ _ c.args.round.now _ _
    (view.statement c.args.body.now) c.in_ok-push.ensures.items c.requires.round c.depth_in-depth.ensures
    c.next_body-inner.ensures added) c.see_statement.ensures.sites

pub see_region-next_body-inner-requires : goal.see_region-next_body-inner-requires
unfolding IsRoomFor
see_region-next_body-inner-requires t c = omega (arith, c.requires.room)

pub see_statement-next_pick-requires : goal.see_statement-next_pick-requires
unfolding IsRoomFor
see_statement-next_pick-requires t c = omega (arith, weight_sections _ _ _ _ _ c.in-Sections.is, c.requires.room)

pub see_statement-see_region-requires : goal.see_statement-see_region-requires
unfolding IsRoomFor
see_statement-see_region-requires t c = (
  omega (
    arith,
    ap size-ResolvedStatement c.in-Region.is,
    sized-Region c.in-Region.at c.in-Region.kind c.in-Region.clauses c.in-Region.captures c.in-Region.body,
    ap size-ResolvedStatement c.deref-in-Region-2.ensures,
    c.decreases,
  ),
  (
    c.requires.round,
    omega (
      arith,
      weight_region _ _ _ _ _ _ c.in-Region.is,
      ap all_weight_of c.deref-in-Region-2.ensures,
      c.requires.room,
    ),
  ),
)

pub see_statement-see_statement-requires-in-If : goal.see_statement-see_statement-requires-in-If
unfolding IsRoomFor
see_statement-see_statement-requires-in-If t c =
    let one = inside _ _ c.in-If.is in (
      omega (arith, one.0, ap size-ResolvedStatement c.deref-in-If.ensures, c.decreases),
      (c.requires.round, omega (arith, one.1, ap all_weight_of c.deref-in-If.ensures, c.requires.room)),
    )

pub see_statement-returns-in_ok-between-in-IfElse-clause-sites :
    goal.see_statement-returns-in_ok-between-in-IfElse-clause-sites
see_statement-returns-in_ok-between-in-IfElse-clause-sites t c =
    let f = function_of c.args.round.now in
    let outer = site_variables c.args.round.now in
    let n = numbers_of c.args.numbers in
    let m = numbers_of c.in_ok-between-in-IfElse.between in
    let s = view.statement c.deref.result.now in
    let u = view.statement c.deref-in-IfElse.result.now in
    let at = c.in-IfElse.at in
    let test = view.expression c.in-IfElse.condition in
    let tree = view_if_else _ _ _ _ _ c.in-IfElse.is
    ∙ ap (λ x. trees.IfElse at test (view.statement x) (view.statement c.in-IfElse.other.value))
    (sym c.deref.ensures)
    ∙ ap (λ x. trees.IfElse at test s (view.statement x)) (sym c.deref-in-IfElse.ensures) in
    let both = if_else_regions f outer n m (view.statement c.args.statement.now) at test s u tree
    c.in_ok-between-in-IfElse.ensures.behind in
    on_ok_weaker c.see_statement-in-IfElse.result
    (λ added. subst (λ bodies. AddsBodies c.args.round.now bodies c.args.sites.now.items
    c.see_statement-in-IfElse.new.sites.items) (sym both)
    (two_added c.args.round.now (regions f outer n s) (regions f outer m u) c.args.sites.now.items
    c.see_statement.new.sites.items c.see_statement-in-IfElse.new.sites.items
    c.in_ok-between-in-IfElse.ensures.sites added)) c.see_statement-in-IfElse.ensures.sites

pub see_statements-see_statement-requires : goal.see_statements-see_statement-requires
unfolding IsRoomFor
see_statements-see_statement-requires t c = (
  with_depth _ _ _ c.args.items.now c.loop-item.item-index c.item-item.result c.loop-item-test.true c.item-item.is
      c.decreases (λ deep. omega (arith, deep, c.decreases)),
  (
    round_kept c.args.sites.now.items c.loop-item.sites.items c.args.round.now.depth (site_variables c.args.round.now)
        c.requires.round c.loop-item.invariant.3,
    omega (
      arith,
      item_left c.args.items.now c.loop-item.item-index c.item-item.result c.loop-item-test.true c.item-item.is,
      c.loop-item.invariant.2,
    ),
  ),
)

pub see_statements-loop-item-preserved : goal.see_statements-loop-item-preserved
unfolding IsRoomFor
see_statements-loop-item-preserved t c =
    let k = c.loop-item.item-index in
    let x = c.item-item.result in
    let s = view.statement x in
    let f = function_of c.args.round.now in
    let outer = site_variables c.args.round.now in
    let n = numbers_of c.loop-item.behind in
    let m = numbers_of c.in_ok-behind.behind in
    let rest = trees.statements (map view.statement (drop (k + 1) c.args.items.now)) in
    let all = trees.statements (map view.statement c.args.items.now) in
    let here = next_item c.args.items.now k x c.loop-item-test.true c.item-item.is in
    let next = c.in_ok-behind.ensures.behind in
    let added = left_added c.args.round.now (regions f outer n s) (all_regions f outer m rest) _
    (all_regions f outer (numbers_of c.args.numbers) all) c.args.sites.now.items c.loop-item.sites.items
    c.see_statement.new.sites.items (items_regions f outer n m _ rest s here next) c.in_ok-behind.ensures.sites
    c.loop-item.invariant.1 c.loop-item.invariant.3 in (
      ap (λ b. behind_all b rest) next ∙ ap (λ items. behind_all n items) (sym here) ∙ c.loop-item.invariant.0,
      added.0,
      omega (
        arith,
        item_left c.args.items.now k x c.loop-item-test.true c.item-item.is,
        numbers_behind s n c.in_ok-behind.behind next,
        c.loop-item.invariant.2,
      ),
      added.1,
    )

pub see_parts-see_statements-requires : goal.see_parts-see_statements-requires
unfolding IsRoomFor
see_parts-see_statements-requires t c =
    let items = ap (most size-ResolvedStatement) c.as_slice.ensures.value in
    let size = size_is-ResolvedPart c.part-item.result in (
      with_depth _ _ _ c.args.parts.now c.loop-part.part-index c.part-item.result c.loop-part-test.true c.part-item.is
          c.decreases (λ deep. omega (arith, deep, size, items, c.decreases)),
      (
        round_kept c.args.sites.now.items c.loop-part.sites.items c.args.round.now.depth
            (site_variables c.args.round.now) c.requires.round c.loop-part.invariant.3,
        omega (
          arith,
          part_left c.args.parts.now c.loop-part.part-index c.part-item.result c.loop-part-test.true c.part-item.is,
          ap (λ xs. statements_weight (trees.statements (map view.statement xs))) c.as_slice.ensures.value,
          c.loop-part.invariant.2,
        ),
      ),
    )

pub see_parts-loop-part-preserved : goal.see_parts-loop-part-preserved
unfolding IsRoomFor
see_parts-loop-part-preserved t c =
    let k = c.loop-part.part-index in
    let x = c.part-item.result in
    let seen = trees.statements (map view.statement c.as_slice.result.now) in
    let f = function_of c.args.round.now in
    let outer = site_variables c.args.round.now in
    let n = numbers_of c.loop-part.behind in
    let m = numbers_of c.in_ok-behind.behind in
    let rest = trees.parts (map view.part (drop (k + 1) c.args.parts.now)) in
    let all = trees.parts (map view.part c.args.parts.now) in
    let listed = ap (λ xs. trees.statements (map view.statement xs)) c.as_slice.ensures.value in
    let here = next_part c.args.parts.now k x c.loop-part-test.true c.part-item.is
    ∙ ap (λ items. trees.Part items rest) (sym listed) in
    let next = c.in_ok-behind.ensures.behind in
    let added = left_added c.args.round.now (all_regions f outer n seen) (parts_regions f outer m rest) _
    (parts_regions f outer (numbers_of c.args.numbers) all) c.args.sites.now.items c.loop-part.sites.items
    c.see_statements.new.sites.items (part_regions f outer n m _ rest seen here next) c.in_ok-behind.ensures.sites
    c.loop-part.invariant.1 c.loop-part.invariant.3 in (
      ap (λ b. behind_parts b rest) next ∙ ap (λ parts. behind_parts n parts) (sym here) ∙ c.loop-part.invariant.0,
      added.0,
      omega (
        arith,
        part_left c.args.parts.now k x c.loop-part-test.true c.part-item.is,
        ap statements_weight listed,
        all_numbers_behind seen n c.in_ok-behind.behind next,
        c.loop-part.invariant.2,
      ),
      added.1,
    )
