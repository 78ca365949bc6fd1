use Rattle.std.proofs.Common.{◌≡◌, ◌++◌, drop}
use Rattle.om_shell_debugger.specs.Marked.{without}
use Rattle.om_shell_debugger.proofs.marks.without.Given as goal

-- what is kept so far and what is kept of the rest are all
abbrev pub invariant-loop-other : goal.invariant-loop-other
invariant-loop-other l = l.kept ++ without l.line (drop l.other-index l.lines) ≡ without l.line l.initial.lines
