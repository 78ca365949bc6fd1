use denote.Shadow.{shadow}
use denote.Text.{Utf8}
use Rattle.gate_cases.proofs.sessions.add_lines.Given as goal

-- the line that is repeated is text
abbrev pub invariant-loop-next : goal.invariant-loop-next
invariant-loop-next l =
    (goal.iterator-loop-next).can_next l.next-iterator × (goal.iterator-loop-next).is_finite l.next-iterator
    × shadow (Utf8 l.line)
