-- For proofs: the trees of what the code makes. What is read is so unless memory ran out; a refusal that reading gives
-- is then the answer, and nothing else is.
use Rattle.std.specs.Prelude.{Bool, List, [], Option, Result, Vec, map, option_map}
use Rattle.std.specs.Global.{Box}
use Rattle.std.specs.declared.alloc.Global.{Global}
use denote.Ref.{Bor}
use Rattle.om_lexer.specs.declared.fault.SourceFault.{SourceFault}
use Rattle.om_lexer.specs.declared.token.Span.{Span}
use Rattle.om_lexer.specs.declared.token.Token.{Token}
use Rattle.om_parser.specs.declared.opening.Opening.{Opening}
use Rattle.om_parser.specs.declared.opening.Opening.TheVariants as openings
use Rattle.om_parser.specs.declared.statement.Room.{Room}
use Rattle.om_pragma.specs.declared.tree.Directive.{Directive}
use Rattle.om_parser.specs.ConstructReading.{atomic_of}
use Rattle.om_parser.specs.StatementReading.{OpeningTree, OpensIf, OpensWhile, OpensFor, behind_body, statement_in}
use Rattle.om_parser_parts.specs.Made.{view_operand, ReadsOne}
use Rattle.om_parser_parts.specs.Reading.{Outcome, Reader, Reads}
use Rattle.om_parser_tree.specs.declared.tree.Expression.{Expression}
use Rattle.om_parser_tree.specs.declared.tree.Item.{Item}
use Rattle.om_parser_tree.specs.declared.tree.Parameters.{Parameters}
use Rattle.om_parser_tree.specs.declared.tree.Part.{Part}
use Rattle.om_parser_tree.specs.declared.tree.Statement.{Statement}
use Rattle.om_parser_tree.specs.Making.{MadeStatement}
use Rattle.om_parser_tree.specs.Tree as trees
use Rattle.om_parser_tree.specs.Tree.{ExpressionTree, ItemTree, ParametersTree, PartsTree, StatementTree}
use Rattle.om_parser_tree.specs.View.{view_condition, view_for_head, view_inner, view_item, view_line, view_parameters}
use Rattle.om_parser_tree.specs.View.{view_part, view_statement}

-- the tree of an opening
abbrev pub view_opening : Opening → OpeningTree
view_opening (openings.If at c) = OpensIf at (view_condition c.value)
view_opening (openings.While at c) = OpensWhile at (view_condition c.value)
view_opening (openings.For h) = OpensFor (view_for_head h.value)

-- what was returned is the statement that reading gives
abbrev pub ReadsStatement : MadeStatement → Outcome (StatementTree × List Token) → Type 0
ReadsStatement = Reads (λ x. (view_statement x.0.value, x.1.now))

-- what follows this body of a statement that begins so, in this room
abbrev pub behind_body_in : Room → Opening → Box Statement → Reader StatementTree
behind_body_in room opening body = behind_body (statement_in room) (view_opening opening) (view_inner body)

-- an `atomic` of this line and this statement, which has one of the forms where that is asked
abbrev pub atomic_with : (checked : Bool) → Box (Directive Expression) → Box Statement → Reader StatementTree
atomic_with checked directive body = atomic_of checked (view_line directive) (view_inner body)

-- what was returned is the expression that may be left out, and the mark behind it, as reading gives them
abbrev pub ReadsOptional : Result (Option (Box Expression) × Span × Bor (List Token)) SourceFault
    → Outcome ((Option ExpressionTree × Span) × List Token) → Type 0
ReadsOptional = Reads (λ x. ((option_map view_operand x.0, x.1), x.2.now))

-- what was returned is what stands in the braces of `sections`, and their spans, as reading gives them
abbrev pub ReadsBraces : Result (Span × Vec Part Global × Span × Bor (List Token)) SourceFault
    → Outcome ((Span × PartsTree × Span) × List Token) → Type 0
ReadsBraces = Reads (λ x. ((x.0, trees.parts (map view_part x.1.items), x.2), x.3.now))

-- what was returned is the parameters that reading gives (C17 6.7.6.3)
abbrev pub ReadsParameters : {N : Type 0} → Result (Parameters N) SourceFault → Outcome (ParametersTree N) → Type 0
ReadsParameters = Reads view_parameters

-- what was returned is what stands first at file scope, as reading gives it
abbrev pub ReadsItem : Result (Item × Bor (List Token)) SourceFault → Outcome (ItemTree × List Token) → Type 0
ReadsItem = ReadsOne view_item

-- what was returned is all that stands at file scope, and the end, behind which nothing stands, as reading gives it
abbrev pub ReadsToEnd : Result (Vec Item Global × Span) SourceFault → Outcome (List ItemTree × Span × List Token)
    → Type 0
ReadsToEnd = Reads (λ x. (map view_item x.0.items, x.1, []))
