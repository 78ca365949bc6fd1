use Rattle.std.proofs.Common.{◌≡◌, ◌++◌, drop}
use Rattle.lab_explore_words.specs.Lists.{each, list_words}
use Rattle.lab_explore_words.specs.Values.{record_words}
use Rattle.lab_explore_words.proofs.record.push_records.Given as goal

-- the words so far and those of what is left are all
abbrev pub invariant-loop-event : goal.invariant-loop-event
invariant-loop-event l =
    l.out.items ++ each record_words (drop l.event-index l.records)
    ≡ l.fn.out.items ++ list_words record_words l.records
