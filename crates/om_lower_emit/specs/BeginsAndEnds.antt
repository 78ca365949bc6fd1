-- What is promised of the heads and the ends of `if`, `while`, `do` and `for`.
use Rattle.std.specs.Prelude.{ℕ, IfOk, Option, Result, option_map}
use Rattle.om_lower_emit.specs.declared.spot.Here.{Here}
use Rattle.om_lower_emit.specs.declared.spot.LoopLabels.{LoopLabels}
use Rattle.om_lower_emit.specs.declared.spot.TurnLabels.{TurnLabels}
use Rattle.om_lower_emit.specs.declared.writing.Writing.{Writing}
use Rattle.om_lower_emit.specs.Drafts.{Written}
use Rattle.om_lower_emit.specs.Emits.{names_at}
use Rattle.om_lower_emit.specs.Scoped.{AppendsScopes}
use Rattle.om_lower_emit.specs.Stretches.{AppendsEnd, AppendsHead, Begins, BeginsTurn, Ends, Opens, do_end, else_begin}
use Rattle.om_lower_emit.specs.Stretches.{for_begin, for_end, loop_end, test_at, while_begin}
use Rattle.om_scope_tree.specs.declared.resolved.ResolvedExpression.{ResolvedExpression}
use Rattle.om_scope_tree.specs.declared.resolved.ResolvedStart.{ResolvedStart}
use Rattle.om_scope_tree.specs.ResolvedView as view
use Rattle.om_lower_rules.specs.Numbered.{Numbered}
use Rattle.om_lower_rules.specs.Scopes.{for_head}

-- ---- each is written where `here` or a line says, unless memory runs out

-- the head of an `if`, whose label is still to be placed
abbrev pub BeginsIf : {E : Type 0} → Result ℕ E → Here → ResolvedExpression → Written → Written → Type 0
BeginsIf result here condition old new =
    let line = here.at.line in
    IfOk result (λ label. Begins label (test_at (names_at here) line label (view.expression condition)) old new)

-- what stands between the two statements of an `if` with `else`; the label of the head is placed, and another one is
-- free
abbrev pub BeginsElse : {E : Type 0} → Result ℕ E → (line head : ℕ) → Written → Written → Type 0
BeginsElse result line head old new =
    IfOk result (λ label. (names : Numbered) → Opens head label (else_begin names line head label) old new)

-- the head of a `while`
abbrev pub BeginsWhile : {E : Type 0} → Result LoopLabels E → Here → ResolvedExpression → Written → Written → Type 0
BeginsWhile result here condition old new = AppendsHead result here while_begin (view.expression condition) old new

-- the end of a loop in any body
abbrev pub EndsLoop : (line : ℕ) → LoopLabels → Written → Written → Type 0
EndsLoop line labels old new = (names : Numbered) → Ends labels.over (loop_end names line labels) old new

-- the end of a `do`
abbrev pub EndsDo : {T E : Type 0} → Result T E → Here → TurnLabels → ResolvedExpression → Written → Written → Type 0
EndsDo result here labels condition old new =
    AppendsEnd result here labels.next (λ names l. do_end names l labels) (view.expression condition) old new

-- the head of a `for`, and its scopes
abbrev pub BeginsFor : {E : Type 0} → Result TurnLabels E → Here → ResolvedStart → Option ResolvedExpression → Writing
    → Writing → Type 0
BeginsFor result here begin condition old new =
    let stretch = for_begin (names_at here) here.at.line (view.start begin) (option_map view.expression condition) in
    IfOk result (λ labels. BeginsTurn labels (stretch labels) old.draft new.draft)

abbrev pub ScopesFor : {T E : Type 0} → Result T E → Here → ResolvedStart → Option ResolvedExpression → Writing
    → Writing → Type 0
ScopesFor result here begin condition old new =
    let tree = option_map view.expression condition in
    AppendsScopes result here (λ at l. for_head at l (view.start begin)) tree old new

-- the end of a `for`
abbrev pub EndsFor : {T E : Type 0} → Result T E → Here → TurnLabels → Option ResolvedExpression → Written → Written
    → Type 0
EndsFor result here labels step old new =
    AppendsEnd result here labels.next (λ names l. for_end names l labels) (option_map view.expression step) old new
