use Rattle.std.proofs.Common.{◌≡◌, All, Some, ap, arith, map, slice_get, subst, sym, ◌∙◌}
use Rattle.om_lower.specs.Inputs.{tree_of}
use Rattle.om_lower.specs.Made.{AddsFunction}
use Rattle.om_scope_tree.specs.ResolvedView as view
use Rattle.om_scope_tree.specs.ResolvedTree.{ResolvedFunctionTree}
use Rattle.om_scope_tree.specs.Weights.{function_weight}
use Rattle.om_lower_tables.specs.Room.{HasNumbers, IsRoomFor}
use Rattle.om_lower_rules.specs.declared.tables.Numbers as numbers
use Rattle.om_lower_rules.specs.Bodies.{first_numbers, function_bodies}
use Rattle.om_lower_rules.specs.Coded.{BodyHasCode}
use Rattle.om_lower_rules.specs.Numbering.{numbers_of}
use Rattle.om_lower_rules.specs.ProgramTables.{AreCellsOf, ends_in}
use Rattle.om_lower.proofs.Coding.{function_added, stopped_at}
use Rattle.om_lower.proofs.FunctionBodies.{function_holds}
use Rattle.om_lower.proofs.Items.{item_at}
use Rattle.om_lower.proofs.Knowing.{end_is, end_there, ends_stand, extents_there, slots_long, zip_at}
use Rattle.om_lower.proofs.Knowing.{Room, room_at}
use Rattle.om_lower.proofs.functions.add_functions.Goals as goal

room_for : (f : ResolvedFunctionTree) (given : numbers.Numbers) → Room (numbers_of given) (function_weight f)
    → HasNumbers (function_weight f) given
unfolding IsRoomFor
room_for f given room = room

pub extents_at-requires : goal.extents_at-requires
extents_at-requires c =
    let tree = tree_of c.args.input.now in
    let tables = c.args.input.now.tables.now in
    let f = view.function c.function-item.result in
    let n = numbers_of c.loop-index.numbers in
    let there : slice_get tree.functions c.loop-index.index ≡ Some f =
    subst (λ items. slice_get (map view.function items) c.loop-index.index ≡ Some f)
    c.as_slice-function-items.ensures.value
    (item_at view.function c.as_slice-function-items.result.now c.loop-index.index c.function-item.result
    c.loop-index-test.true c.function-item.is) in
    extents_there tree.functions tables.extents.items c.loop-index.index f c.requires.given.tables.cells there

pub add_function-requires-clause-next : goal.add_function-requires-clause-next
add_function-requires-clause-next c =
    let tree = tree_of c.args.input.now in
    let tables = c.args.input.now.tables.now in
    let f = view.function c.function-item.result in
    let n = numbers_of c.loop-index.numbers in
    let there : slice_get tree.functions c.loop-index.index ≡ Some f =
    subst (λ items. slice_get (map view.function items) c.loop-index.index ≡ Some f)
    c.as_slice-function-items.ensures.value
    (item_at view.function c.as_slice-function-items.result.now c.loop-index.index c.function-item.result
    c.loop-index-test.true c.function-item.is) in
    record {
      cells = zip_at AreCellsOf tree.functions tables.extents.items c.loop-index.index f _ c.requires.given.tables.cells there
          c.extents_at.ensures;
      code = subst (λ m. All (λ b. BodyHasCode b.function b.tree) (function_bodies m f))
          (sym c.loop-index.invariant.0.numbers)
          (function_holds (λ b. BodyHasCode b.function b.tree) first_numbers tree.functions c.loop-index.index f
          c.requires.given.has_code.bodies there);
      ends = ends_stand (ends_in tables) tree.functions c.loop-index.index f n c.requires.given.tables.ends there
          c.loop-index.invariant.0.numbers;
      before = c.loop-index.invariant.1;
      room = room_for f c.loop-index.numbers (subst (λ m. Room m (function_weight f))
          (sym c.loop-index.invariant.0.numbers)
          (room_at tree.functions first_numbers c.loop-index.index f there (omega (arith, c.requires.given.small))));
    }

pub returns-then-not-branch : goal.returns-then-not-branch
returns-then-not-branch c =
    let tree = tree_of c.args.input.now in
    let tables = c.args.input.now.tables.now in
    let f = view.function c.function-item.result in
    let n = numbers_of c.loop-index.numbers in
    let there : slice_get tree.functions c.loop-index.index ≡ Some f =
    subst (λ items. slice_get (map view.function items) c.loop-index.index ≡ Some f)
    c.as_slice-function-items.ensures.value
    (item_at view.function c.as_slice-function-items.result.now c.loop-index.index c.function-item.result
    c.loop-index-test.true c.function-item.is) in
    stopped_at tree c.loop-index.lowered c.add_function.new.lowered c.loop-index.index f n c.loop-index.invariant.0
    there
    (subst (λ fits. AddsFunction tree n f c.loop-index.lowered c.add_function.new.lowered fits) c.if-not-branch.true
    c.in_ok-add_function.ensures.adds)

pub numbers_behind-numbers-requires : goal.numbers_behind-numbers-requires
numbers_behind-numbers-requires c =
    let tree = tree_of c.args.input.now in
    let tables = c.args.input.now.tables.now in
    let f = view.function c.function-item.result in
    let n = numbers_of c.loop-index.numbers in
    let there : slice_get tree.functions c.loop-index.index ≡ Some f =
    subst (λ items. slice_get (map view.function items) c.loop-index.index ≡ Some f)
    c.as_slice-function-items.ensures.value
    (item_at view.function c.as_slice-function-items.result.now c.loop-index.index c.function-item.result
    c.loop-index-test.true c.function-item.is) in
    let stand = ends_stand (ends_in tables) tree.functions c.loop-index.index f n c.requires.given.tables.ends there
    c.loop-index.invariant.0.numbers in
    end_there (ends_in tables) n f stand

pub loop-index-preserved : goal.loop-index-preserved
loop-index-preserved c =
    let tree = tree_of c.args.input.now in
    let tables = c.args.input.now.tables.now in
    let f = view.function c.function-item.result in
    let n = numbers_of c.loop-index.numbers in
    let there : slice_get tree.functions c.loop-index.index ≡ Some f =
    subst (λ items. slice_get (map view.function items) c.loop-index.index ≡ Some f)
    c.as_slice-function-items.ensures.value
    (item_at view.function c.as_slice-function-items.result.now c.loop-index.index c.function-item.result
    c.loop-index-test.true c.function-item.is) in
    let stand = ends_stand (ends_in tables) tree.functions c.loop-index.index f n c.requires.given.tables.ends there
    c.loop-index.invariant.0.numbers in
    let behind = end_is (ends_in tables) n f (numbers_of c.numbers_behind-numbers.result) stand
    c.numbers_behind-numbers.ensures in (
      function_added tree c.loop-index.lowered c.add_function.new.lowered c.loop-index.index f n
          (numbers_of c.numbers_behind-numbers.result) c.loop-index.invariant.0 there
          (subst (λ fits. AddsFunction tree n f c.loop-index.lowered c.add_function.new.lowered fits)
          c.if-not-branch.false c.in_ok-add_function.ensures.adds) behind,
      slots_long c.loop-index.slots.items c.add_function.new.slots.items f n c.loop-index.invariant.1
          (c.in_ok-add_function.ensures.slots c.if-not-branch.false) ∙ ap (λ m. m.bodies) (sym behind),
    )
