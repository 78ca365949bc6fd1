use Rattle.std.proofs.Common.{◌≡◌, take, map}
use Rattle.om_memory.specs.Plain.{plain_box}
use Rattle.om_memory.proofs.copy.plain_callers_of.Given as goal

-- the frames so far are copied
abbrev pub invariant-loop-frame : goal.invariant-loop-frame
invariant-loop-frame l = l.copies.items ≡ map plain_box (take l.frame-index l.frames)
