use Rattle.std.proofs.Common.{◌≡◌, ◌++◌, drop}
use Rattle.lab_explore_words.specs.Lists.{each, list_words}
use Rattle.lab_explore_words.specs.Words.{context_words}
use Rattle.lab_explore_words.proofs.control.push_contexts.Given as goal

-- the words so far and those of what is left are all
abbrev pub invariant-loop-context : goal.invariant-loop-context
invariant-loop-context l =
    l.out.items ++ each context_words (drop l.context-index l.contexts)
    ≡ l.fn.out.items ++ list_words context_words l.contexts
