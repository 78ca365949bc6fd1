use Rattle.std.proofs.Common.{◌≡◌, ◌++◌, drop}
use Rattle.lab_draw.specs.Marks.{boxes_text}
use Rattle.lab_draw.proofs.marks.push_boxes.Given as goal

-- the boxes so far and those of what is left are all
abbrev pub invariant-loop-step : goal.invariant-loop-step
invariant-loop-step l = l.text.items ++ boxes_text l.class l.scale (drop l.step-index l.boxes)
    ≡ l.initial.text.items ++ boxes_text l.class l.scale l.boxes
