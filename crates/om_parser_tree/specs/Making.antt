-- What a function returns that makes a part of a tree out of tokens, or of its own parts.
use Rattle.std.specs.Prelude.{◌≡◌, List, Result, Ok, Err, ◌⊎◌, Vec, map}
use Rattle.std.specs.Global.{Box}
use Rattle.std.specs.declared.alloc.Global.{Global}
use denote.Ref.{Bor}
use Rattle.om_lexer.specs.Faults.{no_memory}
use Rattle.om_lexer.specs.declared.fault.SourceFault.{SourceFault}
use Rattle.om_lexer.specs.declared.token.Span.{Span}
use Rattle.om_lexer.specs.declared.token.Token.{Token}
use Rattle.om_pragma.specs.declared.tree.Directive.{Directive}
use Rattle.om_parser_tree.specs.declared.assembly.Branches.{Branches}
use Rattle.om_parser_tree.specs.declared.tree.Condition.{Condition}
use Rattle.om_parser_tree.specs.declared.tree.Expression.{Expression}
use Rattle.om_parser_tree.specs.declared.tree.Part.{Part}
use Rattle.om_parser_tree.specs.declared.tree.Statement.{Statement}
use Rattle.om_parser_tree.specs.Tree.{IfElse, Sections, StatementTree, parts}
use Rattle.om_parser_tree.specs.View.{view_inner, view_line, view_part, view_statement, view_test}

-- what reading gives: a value, or the fault that stops it
abbrev pub Outcome : Type 0 → Type 0
Outcome A = Result A SourceFault

-- what a function returned is what reading gives, unless memory ran out
abbrev pub Reads : {X Y : Type 0} → (X → Y) → Result X SourceFault → Outcome Y → Type 0
Reads f (Ok x) read = read ≡ Ok (f x)
Reads f (Err e) read = (e ≡ no_memory) ⊎ (read ≡ Err e)

-- a part that a function makes, and the tokens behind it, unless memory ran out
abbrev pub Makes : {X Y : Type 0} → (X → Y × List Token) → Result X SourceFault → Y → List Token → Type 0
Makes f result made rest = Reads f result (Ok (made, rest))

-- a statement and the tokens behind it, or a refusal
abbrev pub MadeStatement : Type 0
MadeStatement = Result (Box Statement × Bor (List Token)) SourceFault

-- what was returned is this statement, unless memory ran out
abbrev pub MakesStatement : MadeStatement → StatementTree → List Token → Type 0
MakesStatement = Makes (λ x. (view_statement x.0.value, x.1.now))

-- an `if` with this condition, and what it chooses from (C17 6.8.4.1)
abbrev pub if_else_of : Span → Box Condition → Branches → StatementTree
if_else_of at condition branches = IfElse at (view_test condition) (view_inner branches.body) branches.else_word
    (view_inner branches.else_body)

-- a `sections` of this line, and of the parts between its braces (OpenMP API 5.2, section 11.3)
abbrev pub sections_of : Box (Directive Expression) → Span × Vec Part Global × Span → StatementTree
sections_of directive braces = Sections (view_line directive) braces.0 (parts (map view_part braces.1.items)) braces.2
