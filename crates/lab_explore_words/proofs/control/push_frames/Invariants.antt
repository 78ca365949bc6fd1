use Rattle.std.proofs.Common.{◌≡◌, ◌++◌, drop}
use Rattle.lab_explore_words.specs.Lists.{each, list_words}
use Rattle.lab_explore_words.specs.Words.{frame_words}
use Rattle.lab_explore_words.proofs.control.push_frames.Given as goal

-- the words so far and those of what is left are all
abbrev pub invariant-loop-frame : goal.invariant-loop-frame
invariant-loop-frame l =
    l.out.items ++ each frame_words (drop l.frame-index l.frames)
    ≡ l.fn.out.items ++ list_words frame_words l.frames
