-- Parts of a loop as trees.
use Rattle.std.specs.Prelude.{◌≡◌, List, Option, map, option_map}
use Rattle.om_lexer.specs.declared.token.Span.{Span}
use Rattle.om_pragma.specs.declared.clause.Name as names
use Rattle.om_parser_tree.specs.declared.tree.ArrayLength.{ArrayLength}
use Rattle.om_parser_tree.specs.declared.tree.Declarator.{Declarator}
use Rattle.om_parser_tree.specs.declared.tree.Expression.{Expression}
use Rattle.om_parser_tree.specs.declared.tree.Initializer.{Initializer}
use Rattle.om_parser_tree.specs.Tree.{ExpressionTree}
use Rattle.om_parser_tree.specs.View.{view_declarator, view_expression, view_further, view_initializer}
use Rattle.om_scope_rules.specs.declared.canonical.Bound as bounds
use Rattle.om_scope_rules.specs.declared.canonical.Loop as found
use Rattle.om_scope_rules.specs.declared.canonical.LoopStart as starts
use Rattle.om_scope_rules.specs.Loops.{LoopStart, Bound, Loop, declared_start, initialized_start}

-- the tree of an expression
abbrev pub tree_of : Expression → ExpressionTree
tree_of = view_expression

abbrev pub view_start : starts.LoopStart → LoopStart
view_start s = record { variable = s.variable.now; is_declared = s.is_declared; from = view_expression s.from.now }

-- what is found to begin a loop is this
abbrev pub StartsAs : Option starts.LoopStart → Option LoopStart → Type 0
StartsAs start begin = option_map view_start start ≡ begin

-- what a variable with this initializer begins a loop with
abbrev pub begun_by_variable : names.Name → Option ArrayLength → Option (Initializer Expression) → Option LoopStart
begun_by_variable variable array initializer =
    initialized_start variable array (option_map (view_initializer view_expression) initializer)

-- what a declaration begins a loop with
abbrev pub begun_by_declarators : Declarator Expression → List (Span × Declarator Expression) → Option LoopStart
begun_by_declarators first rest =
    declared_start (view_declarator view_expression first) (map (view_further view_expression) rest)

abbrev pub view_bound : bounds.Bound → Bound
view_bound b = record { comparison = b.comparison; direction = b.direction; to = view_expression b.to.now }

abbrev pub view_loop : found.Loop → Loop
view_loop l = record {
  at = l.at;
  start = view_start l.start;
  comparison = l.comparison;
  to = view_expression l.to.now;
  step = l.step;
}
