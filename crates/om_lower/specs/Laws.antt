-- No tree keeps the limits on bodies and passes one, and it has at most one fault by such a limit.
use Rattle.std.specs.Prelude.{◌≡◌}
use Rattle.om_lexer.specs.declared.fault.SourceFault.{SourceFault}
use Rattle.om_scope_tree.specs.ResolvedTree.{ResolvedTree}
use Rattle.om_lower.specs.Limits.{AreWithin, IsTooMany}

-- No tree does both.
abbrev pub WithinIsNotTooMany : Type 0
WithinIsNotTooMany = (tree : ResolvedTree) (fault : SourceFault) → AreWithin tree → IsTooMany tree fault → ⊥

-- A tree has at most one fault by a limit on bodies.
abbrev pub OneTooMany : Type 0
OneTooMany = (tree : ResolvedTree) (a b : SourceFault) → IsTooMany tree a → IsTooMany tree b → a ≡ b
