use Rattle.std.proofs.Common.{◌≡◌, drop}
use Rattle.om_foot.specs.Footprint.{first_touch_of}
use Rattle.om_foot.proofs.footprint.first_touch.Given as goal

-- the answer for what is left is the answer for all
abbrev pub invariant-loop-touch : goal.invariant-loop-touch
invariant-loop-touch l = first_touch_of l.mode (drop l.touch-index l.touches) ≡ first_touch_of l.mode l.touches
