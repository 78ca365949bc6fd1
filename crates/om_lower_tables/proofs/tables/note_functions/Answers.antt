use Rattle.std.proofs.Common.{◌+◌, ◌∷◌, ◌++◌, [], map, drop, ap, arith, sym, ◌∙◌, subst}
use Rattle.std.specs.List.{flat_map}
use Rattle.std.proofs.lemmas.List.{append_assoc, drop_all}
use Rattle.om_scope_tree.specs.ResolvedView as view
use Rattle.om_scope_tree.specs.Weights.{function_weight}
use Rattle.om_lower_rules.specs.Bodies.{behind_functions}
use Rattle.om_lower_rules.specs.Ends.{ends_from, function_ends}
use Rattle.om_lower_rules.specs.Mentions.{access_mention, format_mention, function_mentioned, lock_mention}
use Rattle.om_lower_rules.specs.Numbering.{function_numbers, numbers_of}
use Rattle.om_lower_tables.specs.Noted.{accessed, noted}
use Rattle.om_lower_tables.specs.Room.{IsRoomFor}
use Rattle.om_lower_tables.proofs.Noting.{Onward, accessed_further, cells_done, cells_next, noted_further}
use Rattle.om_lower_tables.proofs.Rooms.{function_behind}
use Rattle.om_lower_tables.proofs.Weights.{next_left, sum_left}
use Rattle.om_lower_tables.proofs.tables.note_functions.Goals as goal

pub returns-clause-cells : goal.returns-clause-cells
returns-clause-cells c =
    let all = map view.function c.args.functions.now in
    let noted = c.loop-function.made.extents.items in
    cells_done all noted (subst (λ left. Onward all (map view.function left) noted)
    (drop_all c.loop-function.function-index c.args.functions.now c.loop-function-test.false)
    c.loop-function.invariant.7)

pub note_function-requires-clause-room : goal.note_function-requires-clause-room
unfolding IsRoomFor
note_function-requires-clause-room c =
    omega (
      arith,
      sum_left function_weight view.function c.args.functions.now c.loop-function.function-index
          c.function-item.result c.loop-function-test.true c.function-item.is,
      c.loop-function.invariant.4,
    )

pub loop-function-preserved : goal.loop-function-preserved
unfolding IsRoomFor
loop-function-preserved c =
    let k = c.loop-function.function-index in
    let f = view.function c.function-item.result in
    let rest = map view.function (drop (k + 1) c.args.functions.now) in
    let here = ap (λ fs. map view.function fs)
    (next_left c.args.functions.now k c.function-item.result c.loop-function-test.true c.function-item.is) in
    let old = c.loop-function.made in
    let new = c.note_function.new.made in
    let n = numbers_of old.walk.numbers in
    let next = c.in_ok-note_function.ensures in
    let formats = function_mentioned format_mention in
    let locks = function_mentioned lock_mention in
    let accesses = function_mentioned access_mention in
    let ends = map numbers_of old.walk.ends.items in (
      ap (λ b. behind_functions b rest) next.behind ∙ ap (λ fs. behind_functions n fs) (sym here)
          ∙ c.loop-function.invariant.0,
      ap (λ texts. noted texts (flat_map formats rest)) next.formats
          ∙ sym (noted_further old.walk.found.formats (formats f) (flat_map formats rest))
          ∙ ap (λ fs. noted old.walk.found.formats (flat_map formats fs)) (sym here) ∙ c.loop-function.invariant.1,
      ap (λ texts. noted texts (flat_map locks rest)) next.locks
          ∙ sym (noted_further old.walk.found.locks (locks f) (flat_map locks rest))
          ∙ ap (λ fs. noted old.walk.found.locks (flat_map locks fs)) (sym here) ∙ c.loop-function.invariant.2,
      next.empty,
      omega (
        arith,
        sum_left function_weight view.function c.args.functions.now k c.function-item.result
            c.loop-function-test.true c.function-item.is,
        function_behind f n new.walk.numbers old.walk.found.formats new.walk.found.formats old.walk.found.locks
            new.walk.found.locks next.behind next.formats next.locks,
        c.loop-function.invariant.4,
      ),
      ap (λ xs. xs ++ function_numbers (numbers_of new.walk.numbers) rest) next.bodies
          ∙ append_assoc old.bodies.items (n.bodies ∷ []) (function_numbers (numbers_of new.walk.numbers) rest)
          ∙ ap (λ b. old.bodies.items ++ n.bodies ∷ function_numbers b rest) next.behind
          ∙ ap (λ fs. old.bodies.items ++ function_numbers n fs) (sym here) ∙ c.loop-function.invariant.5,
      ap (λ xs. xs ++ ends_from (numbers_of new.walk.numbers) rest) next.ends
          ∙ append_assoc ends (function_ends n f) (ends_from (numbers_of new.walk.numbers) rest)
          ∙ ap (λ b. ends ++ (function_ends n f ++ ends_from b rest)) next.behind
          ∙ ap (λ fs. ends ++ ends_from n fs) (sym here) ∙ c.loop-function.invariant.6,
      cells_next (map view.function c.args.functions.now) rest f old.extents.items new.extents.items
          (subst (λ fs. Onward (map view.function c.args.functions.now) fs old.extents.items) here
          c.loop-function.invariant.7) next.cells,
      ap (λ lines. accessed lines (flat_map accesses rest)) next.atomics
          ∙ sym (accessed_further old.walk.found.atomics.entries (accesses f) (flat_map accesses rest))
          ∙ ap (λ fs. accessed old.walk.found.atomics.entries (flat_map accesses fs)) (sym here)
          ∙ c.loop-function.invariant.8,
    )
