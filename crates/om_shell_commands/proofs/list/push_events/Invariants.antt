use Rattle.std.proofs.Common.{◌≡◌, ◌++◌, drop}
use Rattle.om_shell_commands.specs.Lists.{joined, event_line}
use Rattle.om_shell_commands.proofs.list.push_events.Given as goal

-- the lines so far and those of what is left are all
abbrev pub invariant-loop-event : goal.invariant-loop-event
invariant-loop-event l = l.text.items ++ joined event_line (drop l.event-index l.events) ≡ l.initial.text.items
    ++ joined event_line l.events
