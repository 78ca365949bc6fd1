use Rattle.std.proofs.Common.{◌≡◌, ◌+◌, drop, length, map}
use Rattle.std.specs.Prelude.{is_some}
use Rattle.om_scope_tree.specs.ResolvedTree as trees
use Rattle.om_scope_tree.specs.ResolvedView as view
use Rattle.om_lower_rules.specs.Bodies as rows
use Rattle.om_lower_rules.specs.Coded.{PartsHaveCode, StatementsHaveCode}
use Rattle.om_lower_rules.specs.BodyTables.{numbered_by}
use Rattle.om_lower_rules.specs.Ends.{HasAllEnds, HasPartsEnds}
use Rattle.om_lower_rules.specs.Numbering.{numbers_of}
use Rattle.om_lower_rules.specs.ProgramTables.{known_in}
use Rattle.om_lower_rules.specs.Scopes.{all_scopes, part_scopes}
use Rattle.om_lower.specs.Parts.{AreFree}
use Rattle.om_lower_emit.specs.Scoping.{ScopesOn}
use Rattle.om_lower.proofs.Lists.{Onward}
use Rattle.om_lower.proofs.PartLists.{OnwardParts}
use Rattle.om_lower.proofs.statement.+statement.Given as goal

-- what is left has code, whoever writes it has written all, and the numbers behind its regions are known
abbrev pub invariant-statements-loop-item : goal.invariant-statements-loop-item
invariant-statements-loop-item l =
    let all = trees.statements (map view.statement l.items) in
    let left = trees.statements (map view.statement (drop l.item-index l.items)) in
    StatementsHaveCode (is_some l.spot.jumps.over) (is_some l.spot.jumps.next) left
    × (rows.behind_all (numbers_of l.numbers) left ≡ rows.behind_all (numbers_of l.spot.numbers) all)
    × Onward (length l.fn.writing.draft.places) (numbered_by l.tables) l.spot.jumps (numbers_of l.spot.numbers)
    (numbers_of l.numbers) all left l.fn.writing.draft l.writing.draft
    × HasAllEnds (known_in l.tables) (numbers_of l.numbers) left
    × ScopesOn (numbered_by l.tables) (λ at. all_scopes at all) (λ at. all_scopes at left) l.fn.writing.draft
    l.fn.writing.scopes l.writing.draft l.writing.scopes

-- the same of the parts of a `sections`, whose labels are free
abbrev pub invariant-parts-loop-index : goal.invariant-parts-loop-index
invariant-parts-loop-index l =
    let all = trees.parts (map view.part l.sections) in
    let left = trees.parts (map view.part (drop l.index l.sections)) in
    PartsHaveCode left
    × (rows.behind_parts (numbers_of l.numbers) left ≡ rows.behind_parts (numbers_of l.spot.numbers) all)
    × AreFree (l.spot.first + l.index) (length (drop l.index l.sections)) l.writing.draft
    × OnwardParts (numbered_by l.tables) l.spot (numbers_of l.spot.numbers) (numbers_of l.numbers) all left
    (l.spot.first + l.index) l.fn.writing.draft l.writing.draft
    × HasPartsEnds (known_in l.tables) (numbers_of l.numbers) left
    × ScopesOn (numbered_by l.tables) (λ at. part_scopes at all) (λ at. part_scopes at left) l.fn.writing.draft
    l.fn.writing.scopes l.writing.draft l.writing.scopes
