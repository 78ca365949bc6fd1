use Rattle.std.proofs.Common.{◌≡◌, ◌++◌, [], List, map, drop}
use Rattle.std.specs.Prelude.{sum}
use Rattle.std.specs.List.{AllZip, flat_map}
use Rattle.om_scope_tree.specs.ResolvedView as view
use Rattle.om_scope_tree.specs.Weights.{function_weight}
use Rattle.om_lower_rules.specs.Bodies.{behind_functions, first_numbers}
use Rattle.om_lower_rules.specs.Mentions.{access_mention, format_mention, function_mentioned, lock_mention}
use Rattle.om_lower_rules.specs.Slots.{Extent}
use Rattle.om_lower_rules.specs.Ends.{ends_from}
use Rattle.om_lower_tables.specs.Noted.{accessed, noted}
use Rattle.om_lower_tables.specs.Room.{HasRoom}
use Rattle.om_lower_rules.specs.Numbering.{function_numbers, numbers_of}
use Rattle.om_lower_rules.specs.ProgramTables.{AreCellsOf}
use Rattle.om_lower_tables.proofs.tables.note_functions.Given as goal

abbrev pub invariant-loop-function : goal.invariant-loop-function
invariant-loop-function l =
    let left = map view.function (drop l.function-index l.functions) in
    let all = map view.function l.functions in
    (behind_functions (numbers_of l.made.walk.numbers) left ≡ behind_functions first_numbers all)
    × (noted l.made.walk.found.formats (flat_map (function_mentioned format_mention) left)
    ≡ noted l.fn.made.walk.found.formats (flat_map (function_mentioned format_mention) all))
    × (noted l.made.walk.found.locks (flat_map (function_mentioned lock_mention) left)
    ≡ noted l.fn.made.walk.found.locks (flat_map (function_mentioned lock_mention) all))
    × (l.made.walk.found.extents ≡ [])
    × HasRoom (sum (map function_weight left)) l.made.walk
    × (l.made.bodies.items ++ function_numbers (numbers_of l.made.walk.numbers) left ≡ l.fn.made.bodies.items
    ++ function_numbers first_numbers all)
    × (map numbers_of l.made.walk.ends.items ++ ends_from (numbers_of l.made.walk.numbers) left
    ≡ map numbers_of l.fn.made.walk.ends.items ++ ends_from first_numbers all)
    × ((rest : List (List Extent)) → AllZip AreCellsOf left rest → AllZip AreCellsOf all (l.made.extents.items ++ rest))
    × (accessed l.made.walk.found.atomics.entries (flat_map (function_mentioned access_mention) left)
    ≡ accessed l.fn.made.walk.found.atomics.entries (flat_map (function_mentioned access_mention) all))
