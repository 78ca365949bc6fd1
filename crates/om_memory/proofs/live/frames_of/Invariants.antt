use Rattle.std.proofs.Common.{◌≡◌, take, map}
use Rattle.om_memory.specs.Plain.{plain_box}
use Rattle.om_memory.proofs.live.frames_of.Given as goal

-- the frames so far stand for the plain ones
abbrev pub invariant-loop-frame : goal.invariant-loop-frame
invariant-loop-frame l = map plain_box l.frames.items ≡ take l.frame-index l.plain
