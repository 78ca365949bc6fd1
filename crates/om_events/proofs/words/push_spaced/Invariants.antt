use Rattle.std.proofs.Common.{◌≡◌, ◌++◌, map, take}
use Rattle.om_events.specs.Records.{spaced}
use Rattle.om_events.specs.Words.{word_text}
use Rattle.om_events.proofs.words.push_spaced.Given as goal

-- the words so far are appended
abbrev pub invariant-loop-word : goal.invariant-loop-word
invariant-loop-word l = l.out.items ≡ l.initial.out.items ++ spaced (map word_text (take l.word-index l.words))
