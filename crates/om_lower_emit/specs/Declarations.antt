-- What is promised of declarations, of what a `for` begins with, and of what leaves a function: a function writes it
-- where `here` says, unless memory runs out, and the scopes of the names in it are those of its row.
use Rattle.std.specs.Prelude.{List, Option, Result, map, option_map}
use Rattle.om_scope_tree.specs.declared.resolved.ResolvedDeclarator.{ResolvedDeclarator}
use Rattle.om_scope_tree.specs.declared.resolved.ResolvedExpression.{ResolvedExpression}
use Rattle.om_scope_tree.specs.declared.resolved.ResolvedStart.{ResolvedStart}
use Rattle.om_scope_tree.specs.ResolvedView as view
use Rattle.om_lower_rules.specs.Expressions.{effect}
use Rattle.om_lower_rules.specs.Rows.{each, perhaps}
use Rattle.om_lower_rules.specs.Scopes.{declarator_scope, each_scope, start_scopes}
use Rattle.om_lower_rules.specs.Statements.{declarator, returned, start}
use Rattle.om_lower_emit.specs.declared.spot.Here.{Here}
use Rattle.om_lower_emit.specs.declared.writing.Writing.{Writing}
use Rattle.om_lower_emit.specs.Drafts.{Written}
use Rattle.om_lower_emit.specs.Emits.{Appends}
use Rattle.om_lower_emit.specs.Scoped.{AppendsScopes}

-- a declared name is made unset, or gets its initializer, and its scope begins there
abbrev pub Initializes : {T E : Type 0} → Result T E → Here → ResolvedDeclarator → Written → Written → Type 0
Initializes result here declared old new = Appends result here declarator (view.declarator declared) old new

abbrev pub ScopesDeclarator : {T E : Type 0} → Result T E → Here → ResolvedDeclarator → Writing → Writing → Type 0
ScopesDeclarator result here declared old new =
    AppendsScopes result here declarator_scope (view.declarator declared) old new

-- the same of the names of a declaration, in their order
abbrev pub InitializesAll : {T E : Type 0} → Result T E → Here → List ResolvedDeclarator → Written → Written → Type 0
InitializesAll result here declared old new =
    Appends result here (λ at l. each (declarator at l)) (map view.declarator declared) old new

abbrev pub ScopesDeclarators : {T E : Type 0} → Result T E → Here → List ResolvedDeclarator → Writing → Writing → Type 0
ScopesDeclarators result here declared old new =
    AppendsScopes result here (λ at l. each_scope (declarator_scope at l)) (map view.declarator declared) old new

-- what a `for` begins with, and its scopes
abbrev pub AppendsStart : {T E : Type 0} → Result T E → Here → ResolvedStart → Written → Written → Type 0
AppendsStart result here begin old new = Appends result here start (view.start begin) old new

abbrev pub ScopesStart : {T E : Type 0} → Result T E → Here → ResolvedStart → Writing → Writing → Type 0
ScopesStart result here begin old new = AppendsScopes result here start_scopes (view.start begin) old new

-- an expression that may be left out, and whose value nothing uses
abbrev pub AppendsPerhapsEffect : {T E : Type 0} → Result T E → Here → Option ResolvedExpression → Written → Written
    → Type 0
AppendsPerhapsEffect result here e old new =
    Appends result here (λ at l. perhaps (effect at l)) (option_map view.expression e) old new

-- a `return` with its value, if it has one, which ends the program if the function is `main`
abbrev pub AppendsReturn : {T E : Type 0} → Result T E → Here → Option ResolvedExpression → Written → Written → Type 0
AppendsReturn result here answer old new =
    Appends result here (λ at l. returned at l at.is_main) (option_map view.expression answer) old new
