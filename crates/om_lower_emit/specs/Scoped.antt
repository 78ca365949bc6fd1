-- What is promised of the scopes of names in code that is written.
use Rattle.std.specs.Prelude.{◌≡◌, ◌≤◌, ℕ, All, List, [], ◌∷◌, ◌++◌, OnOk, Option, None, Result, drop, length, map}
use Rattle.std.specs.Prelude.{reverse, take}
use Rattle.om_lower_emit.specs.Drafts.{Labels, Written}
use Rattle.om_lower_emit.specs.declared.spot.Here.{Here}
use Rattle.om_lower_emit.specs.Emits.{Finished, Fits, Grows, names_at, site}
use Rattle.om_scope_tree.specs.declared.resolved.ConstructKind.{ConstructKind}
use Rattle.om_scope_tree.specs.declared.resolved.CopyKind.TheVariants as copies
use Rattle.om_scope_tree.specs.declared.resolved.LocalVariable.{LocalVariable}
use Rattle.om_scope_tree.specs.declared.resolved.ResolvedClause.{ResolvedClause}
use Rattle.om_scope_tree.specs.ResolvedTree.{ResolvedClauseTree, Copied}
use Rattle.om_scope_tree.specs.ResolvedView as view
use Rattle.om_lower_rules.specs.declared.variables.VariableScope.{VariableScope}
use Rattle.om_lower_rules.specs.Rows.{Site}
use Rattle.om_lower_rules.specs.Scopes.{Found, Scoping, closed_at, construct_head, each_scope, opened_with}
use Rattle.om_lower_emit.specs.declared.writing.ScopeStack.{ScopeStack}
use Rattle.om_lower_emit.specs.declared.writing.Writing.{Writing}
use Rattle.om_lower_rules.specs.Numbered.{Numbered}

-- the scope of one variable begins at this place
pub record BeginsOneScope (from : ℕ) (length : Option ℕ) (variable : LocalVariable) (old new : ScopeStack)
    : Type 0 where
  pub opened : new.opened.items ≡ old.opened.items ++ opened_with length from variable ∷ []
  pub closed : new.closed.items ≡ old.closed.items

-- all but the first of those that have begun end at this place
pub record EndsScopes (height to : ℕ) (old new : ScopeStack) : Type 0 where
  pub opened : new.opened.items ≡ take height old.opened.items
  pub closed : new.closed.items ≡ old.closed.items ++ map (closed_at to) (reverse (drop height old.opened.items))

-- all scopes but the first `height` that have begun end at this place, if so many have begun
abbrev pub EndsAbove : (height to : ℕ) → ScopeStack → ScopeStack → Type 0
EndsAbove height to old new = height ≤ length old.opened.items → EndsScopes height to old new

-- the scope of the copy of a clause begins at this place, if the clause makes one
abbrev pub BeginsCopy : (from : ℕ) → ResolvedClauseTree → ScopeStack → ScopeStack → Type 0
BeginsCopy from (Copied kind x copy) old new = BeginsOneScope from None copy old new
BeginsCopy from clause old new = new ≡ old

-- where the scope of that copy begins in the body of a `parallel`
abbrev pub team_from : (place : ℕ) → ResolvedClauseTree → ℕ
team_from place (Copied (copies.Reduction o) x copy) = place
team_from place clause = 0

-- the last one of those that have begun ends
pub record EndsLast (to : ℕ) (old new : ScopeStack) : Type 0 where
  pub last : VariableScope
  pub opened : old.opened.items ≡ new.opened.items ++ last ∷ []
  pub closed : new.closed.items ≡ old.closed.items ++ closed_at to last ∷ []

-- a scope begins and ends at places up to this one
pub record IsInside (place : ℕ) (v : VariableScope) : Type 0 where
  pub from : v.from ≤ place
  pub to : v.to ≤ place

abbrev pub AreInside : (place : ℕ) → List VariableScope → Type 0
AreInside place scopes = All (IsInside place) scopes

-- scopes begin and end in code that is written: whatever finished program agrees with it, they are those of
-- this row
pub record ScopesStand (names : Numbered) (row : Site → Scoping) (a : Written) (x : ScopeStack) (b : Written)
    (y : ScopeStack) : Type 0 where
  pub found : Found
  pub opened : y.opened.items ≡ x.opened.items ++ found.opened
  pub closed : y.closed.items ≡ x.closed.items ++ found.closed
  pub begun : AreInside (length b.code) found.opened
  pub ended : AreInside (length b.code) found.closed
  pub grows : Grows a b
  pub stands : (done : Finished) (at : Labels) → Fits done at (length a.code) b
      → row (site names done) (length a.code) (length b.code) found

abbrev pub EmitsScopes : Numbered → (Site → Scoping) → Writing → Writing → Type 0
EmitsScopes names row old new = ScopesStand names row old.draft old.scopes new.draft new.scopes

-- the scopes of x begin and end in what a function writes there, unless memory runs out
abbrev pub AppendsScopes : {T E X : Type 0} → Result T E → Here → (row : Site → ℕ → X → Scoping) → (x : X)
    → Writing → Writing → Type 0
AppendsScopes result here row x old new =
    OnOk result (EmitsScopes (names_at here) (λ at. row at here.at.line x) old new)

-- the scopes of all items of a list begin where nothing is written, unless memory runs out
abbrev pub BeginsEach : {T E X : Type 0} → Result T E → (row : X → Scoping) → List X → ScopeStack → ScopeStack
    → Type 0
BeginsEach result row xs old new =
    OnOk result ((names : Numbered) (d : Written) → ScopesStand names (λ at. each_scope row xs) d old d new)

-- ---- the scopes of clauses, unless memory runs out

-- the scope of a clause's copy, and those of the copies of clauses
abbrev pub ScopesClause : {T E : Type 0} → Result T E → Here → (row : Site → ℕ → ResolvedClauseTree → Scoping)
    → ResolvedClause → Writing → Writing → Type 0
ScopesClause result here row clause old new = AppendsScopes result here row (view.clause clause) old new

abbrev pub ScopesClauses : {T E : Type 0} → Result T E → Here → (row : Site → ℕ → ResolvedClauseTree → Scoping)
    → List ResolvedClause → Writing → Writing → Type 0
ScopesClauses result here row clauses old new =
    AppendsScopes result here (λ at l. each_scope (row at l)) (map view.clause clauses) old new

-- the scopes of what stands before the statement of a construct with these clauses
abbrev pub ScopesConstruct : {T E : Type 0} → Result T E → Here → ConstructKind → List ResolvedClause → Writing
    → Writing → Type 0
ScopesConstruct result here kind clauses old new =
    AppendsScopes result here (λ at l. construct_head at l kind) (map view.clause clauses) old new
