-- What is promised of the begins and the ends of worksharing constructs.
use Rattle.std.specs.Prelude.{ℕ, Bool, IfOk, List, Result, map}
use Rattle.om_lower_emit.specs.declared.spot.Here.{Here}
use Rattle.om_lower_emit.specs.Drafts.{Written}
use Rattle.om_lower_emit.specs.Emits.{Appends, names_at}
use Rattle.om_lower.specs.Parts.{OpensParts, part_head}
use Rattle.om_lower.specs.declared.worksharing.PartsSpot.{PartsSpot}
use Rattle.om_lower.specs.declared.worksharing.SectionsHead.{SectionsHead}
use Rattle.om_scope_tree.specs.declared.resolved.ResolvedClause.{ResolvedClause}
use Rattle.om_scope_tree.specs.declared.resolved.ResolvedLoop.{ResolvedLoop}
use Rattle.om_scope_tree.specs.ResolvedView as view
use Rattle.om_lower_rules.specs.Scopes.{loop_head, sections_head}
use Rattle.om_lower_rules.specs.Statements.{closes}
use Rattle.om_lower_emit.specs.Scoped.{AppendsScopes}
use Rattle.om_lower_emit.specs.Stretches.{AppendsHead, worksharing_begin}
use Rattle.om_lower_emit.specs.declared.spot.LoopLabels.{LoopLabels}
use Rattle.om_lower_emit.specs.declared.writing.Writing.{Writing}

-- ---- each is written where `here` or a line says, unless memory runs out

-- the begin of a worksharing loop, and its scopes
abbrev pub BeginsSharedLoop : {E : Type 0} → Result LoopLabels E → Here → List ResolvedClause → ResolvedLoop → Writing
    → Writing → Type 0
BeginsSharedLoop result here clauses repeated old new =
    let trees = map view.clause clauses in
    AppendsHead result here (λ names l. worksharing_begin names l trees) (view.loop repeated) old.draft new.draft

abbrev pub ScopesSharedLoop : {T E : Type 0} → Result T E → Here → List ResolvedClause → ResolvedLoop → Writing → Writing
    → Type 0
ScopesSharedLoop result here clauses repeated old new =
    let trees = map view.clause clauses in
    AppendsScopes result here (λ at l. loop_head at l trees) (view.loop repeated) old new

-- what stands behind a worksharing loop or the parts of a `sections`
abbrev pub EndsWorksharing : {T E : Type 0} → Result T E → Here → List ResolvedClause → (nowait : Bool) → Written
    → Written → Type 0
EndsWorksharing result here clauses nowait old new =
    Appends result here (λ at l clauses. closes at l clauses nowait) (map view.clause clauses) old new

-- the begin of a `sections` of so many parts, and its scopes
abbrev pub BeginsParts : {E : Type 0} → Result PartsSpot E → Here → SectionsHead → (count : ℕ) → Writing → Writing
    → Type 0
BeginsParts result here head count old new =
    let begin = part_head here.at.line head.numbers (map view.clause head.clauses.now) count in
    IfOk result (λ spot. OpensParts (names_at here) begin spot old.draft new.draft)

abbrev pub ScopesParts : {T E : Type 0} → Result T E → Here → SectionsHead → Writing → Writing → Type 0
ScopesParts result here head old new =
    AppendsScopes result here sections_head (map view.clause head.clauses.now) old new
