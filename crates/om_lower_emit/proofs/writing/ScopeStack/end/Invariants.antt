use Rattle.std.proofs.Common.{◌≡◌, ◌≤◌, ◌+◌, length}
use Rattle.om_lower_emit.specs.declared.writing.ScopeStack.{ScopeStack}
use Rattle.om_lower_emit.specs.Scoped.{EndsScopes}
use Rattle.om_lower_emit.proofs.writing.ScopeStack.end.Given as goal

-- as many have begun as turns are left, and whoever ends them has ended all
abbrev pub invariant-loop-turn : goal.invariant-loop-turn
invariant-loop-turn l = (l.height ≤ length l.fn.self.opened.items) →
    (l.height + length l.fn.self.opened.items ≡ l._turn + length l.self.opened.items)
    × ((z : ScopeStack) → EndsScopes l.height l.to l.self z → EndsScopes l.height l.to l.fn.self z)
