-- What is promised of the begin of a `sections`, and of its parts.
use Rattle.std.specs.Prelude.{◌≡◌, ◌<◌, ◌≤◌, ℕ, ◌+◌, ◌^◌, List, [], ◌∷◌, None, Some, length, map, slice_get}
use Rattle.om_lower_emit.specs.Stretches.{sections_begin}
use Rattle.om_lower_emit.specs.Drafts.{Written, labels_from}
use Rattle.om_lower_emit.specs.Emits as emits
use Rattle.om_lower_emit.specs.Emits.{site}
use Rattle.om_scope_tree.specs.ResolvedTree.{ResolvedClauseTree, ResolvedPartsTree, NoParts, Part}
use Rattle.om_lower_rules.specs.Bodies.{Numbers, next_pick}
use Rattle.om_lower_rules.specs.Statements.{parts}
use Rattle.om_lower.specs.declared.worksharing.PartsSpot.{PartsSpot}
use Rattle.om_lower_emit.specs.Statements.{GoesWith}
use Rattle.om_lower_rules.specs.declared.tables.Numbers as tables
use Rattle.om_lower_rules.specs.Numbered.{Numbered}
use Rattle.om_lower_rules.specs.Numbering.{numbers_of}
use Rattle.om_lower_rules.specs.Picks.{parts_own_picks}

-- ---- the begin

-- a `sections` before its parts: its line, its numbers, its clauses, and how many parts it has
pub record PartHead : Type 0 where
  pub line : ℕ
  pub numbers : Numbers
  pub clauses : List ResolvedClauseTree
  pub count : ℕ

abbrev pub part_head : ℕ → tables.Numbers → List ResolvedClauseTree → ℕ → PartHead
part_head line numbers clauses count =
    record { line = line; numbers = numbers_of numbers; clauses = clauses; count = count }

-- its list of PICK stands in the program, and its begin in the code
abbrev pub head_row : Numbered → PartHead → PartsSpot → emits.Part
head_row names head spot done at = λ p q.
    (slice_get done.picks head.numbers.picks ≡ Some (map at (labels_from spot.first head.count)))
    × sections_begin names head.line head.clauses (record { number = head.numbers.picks; count = head.count })
    (record { again = spot.again; over = spot.over }) done at p q

-- labels of so many parts stand nowhere yet
abbrev pub AreFree : (first count : ℕ) → Written → Type 0
AreFree first count d = (k : ℕ) → k < count → slice_get d.places (first + k) ≡ Some None

-- the begin is written, and the labels of the parts and the one behind them are still to be placed
pub record OpensParts (names : Numbered) (head : PartHead) (spot : PartsSpot) (old new : Written) : Type 0 where
  pub goes : GoesWith (length old.places) (head.numbers.picks ∷ []) (head_row names head spot) old new
  pub line : spot.line ≡ head.line
  pub numbers : numbers_of spot.numbers ≡ next_pick head.numbers
  pub above : length old.places ≤ spot.over
  pub below : spot.over < spot.first
  pub over : slice_get new.places spot.over ≡ Some None
  pub free : AreFree spot.first head.count new
  pub fit : spot.first + head.count ≤ 2 ^ 64

-- ---- the parts

-- the labels of parts, from the first one on
abbrev pub part_labels : (first : ℕ) → ResolvedPartsTree → List ℕ
part_labels first NoParts = []
part_labels first (Part items rest) = first ∷ part_labels (first + 1) rest

-- parts are written from the label of the first one on
abbrev pub GoesParts : (lowest : ℕ) → Numbered → Numbers → ResolvedPartsTree → PartsSpot → (first : ℕ) → Written
    → Written → Type 0
GoesParts lowest names n all spot first =
    GoesWith lowest (parts_own_picks n all)
    (λ done at. parts (site names done) n spot.line (at spot.again) all (map at (part_labels first all)))

abbrev pub EmitsParts : Numbered → Numbers → ResolvedPartsTree → PartsSpot → Written → Written → Type 0
EmitsParts names n all spot = GoesParts spot.first names n all spot spot.first
