-- Where the parts of a picture stand, in points.
use Rattle.std.specs.Prelude.{ℕ, ◌+◌, ◌-◌, ◌*◌, ◌%◌, cond, nat_lt, List, [], ◌∷◌}
use Rattle.lab_graph.specs.declared.picture.End.{End}
use Rattle.lab_graph.specs.declared.picture.StepBox.{StepBox}
use Rattle.lab_draw.specs.declared.scale.Scale.{Scale}

-- the serial of the first box, which stands at the left; 1 where there is none
abbrev pub first_serial : List StepBox → ℕ
first_serial [] = 1
first_serial (b ∷ bs) = b.serial

-- of marks the first, of boxes the second
abbrev pub sized : Scale → ℕ → ℕ → ℕ
sized scale small large = cond scale.is_small small large

-- the left edge of a box, and its middle: columns are 8 or 100 points wide, and boxes 6 or 92
abbrev pub left_of : Scale → ℕ → ℕ
left_of scale serial = let column = serial - scale.first in sized scale (8 * column + 8) (100 * column + 8)

abbrev pub middle_of : Scale → ℕ → ℕ
middle_of scale serial = let column = serial - scale.first in sized scale (8 * column + 11) (100 * column + 54)

abbrev pub label_left : Scale → ℕ → ℕ
label_left scale serial = let column = serial - scale.first in sized scale (8 * column + 15) (100 * column + 58)

-- the upper and the lower edge of a box, in the middle of a lane of 120 points
abbrev pub top_of : Scale → ℕ → ℕ
top_of scale worker = sized scale (120 * worker + 57) (120 * worker + 43)

abbrev pub bottom_of : Scale → ℕ → ℕ
bottom_of scale worker = sized scale (120 * worker + 63) (120 * worker + 77)

-- an arrow goes from the lower edge to the upper one where it goes down, and else from the upper to the lower
abbrev pub leaves_at : Scale → End → End → ℕ
leaves_at scale from to = cond (nat_lt from.worker to.worker) (bottom_of scale from.worker) (top_of scale from.worker)

abbrev pub arrives_at : Scale → End → End → ℕ
arrives_at scale from to = cond (nat_lt from.worker to.worker) (top_of scale to.worker) (bottom_of scale to.worker)

-- the base of what is written at an arrow's head
abbrev pub label_base : End → End → ℕ
label_base from to = cond (nat_lt from.worker to.worker)
    (120 * to.worker + 37 - 12 * ((to.worker - from.worker - 1) % 3))
    (120 * to.worker + 90 + 12 * ((from.worker - to.worker - 1) % 3))
