use Rattle.std.proofs.Common.{◌≡◌, ◌++◌, drop}
use Rattle.lab_explore_words.specs.Lists.{each, list_words, number_words}
use Rattle.lab_explore_words.proofs.plain.push_bytes.Given as goal

-- the words so far and those of what is left are all
abbrev pub invariant-loop-byte : goal.invariant-loop-byte
invariant-loop-byte l =
    l.out.items ++ each number_words (drop l.byte-index l.bytes)
    ≡ l.fn.out.items ++ list_words number_words l.bytes
