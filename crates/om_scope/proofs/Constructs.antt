-- Statements that the program takes apart, as trees.
use Rattle.std.proofs.Common.{◌≡◌, map, sym, ap, ◌∙◌}
use Rattle.om_parser_tree.specs.declared.tree.Statement.{fold-roll-Statement}
use Rattle.om_parser_tree.specs.declared.tree.Statement.TheOpen.{Statement-F}
use Rattle.om_parser_tree.specs.declared.tree.Statement.TheVariants as statements
use Rattle.om_parser_tree.specs.Tree as trees
use Rattle.om_parser_tree.specs.Tree.{StatementTree, PartTree, Construct, If, IfElse, While, Do}
use Rattle.om_parser_tree.specs.View.{part_layer, statement_layer, view_condition, view_directive, view_for_head, view_part}
use Rattle.om_parser_tree.specs.View.{view_statement}

pub view_construct : (d : _) (s : _) → view_statement (statements.Construct d s)
    ≡ Construct (view_directive d.value) (view_statement s.value)
view_construct d s = ap view_statement (sym (statements.rolls-Construct d s)) ∙ fold-roll-Statement StatementTree
    PartTree statement_layer part_layer (Statement-F.Construct d s)

pub view_if : (at : _) (c : _) (s : _) → view_statement (statements.If at c s)
    ≡ If at (view_condition c.value) (view_statement s.value)
view_if at c s = ap view_statement (sym (statements.rolls-If at c s)) ∙ fold-roll-Statement StatementTree
    PartTree statement_layer part_layer (Statement-F.If at c s)

pub view_if_else : (at : _) (c : _) (s : _) (word : _) (t : _) → view_statement (statements.IfElse at c s word t)
    ≡ IfElse at (view_condition c.value) (view_statement s.value) word (view_statement t.value)
view_if_else at c s word t = ap view_statement (sym (statements.rolls-IfElse at c s word t))
    ∙ fold-roll-Statement StatementTree PartTree statement_layer part_layer (Statement-F.IfElse at c s word t)

pub view_while : (at : _) (c : _) (s : _) → view_statement (statements.While at c s)
    ≡ While at (view_condition c.value) (view_statement s.value)
view_while at c s = ap view_statement (sym (statements.rolls-While at c s)) ∙ fold-roll-Statement StatementTree
    PartTree statement_layer part_layer (Statement-F.While at c s)

pub view_do : (at : _) (s : _) (again : _) (c : _) (semicolon : _)
    → view_statement (statements.Do at s again c semicolon)
    ≡ Do at (view_statement s.value) again (view_condition c.value) semicolon
view_do at s again c semicolon = ap view_statement (sym (statements.rolls-Do at s again c semicolon))
    ∙ fold-roll-Statement StatementTree PartTree statement_layer part_layer (Statement-F.Do at s again c semicolon)

pub view_for : (h : _) (s : _) → view_statement (statements.For h s)
    ≡ trees.For (view_for_head h.value) (view_statement s.value)
view_for h s = ap view_statement (sym (statements.rolls-For h s)) ∙ fold-roll-Statement StatementTree
    PartTree statement_layer part_layer (Statement-F.For h s)

pub view_block : (left : _) (items : _) (right : _) → view_statement (statements.Block left items right)
    ≡ trees.Block left (trees.statements (map view_statement items.items)) right
view_block left items right = ap view_statement (sym (statements.rolls-Block left items right))
    ∙ fold-roll-Statement StatementTree PartTree statement_layer part_layer (Statement-F.Block left items right)

pub view_sections : (d : _) (left : _) (parts : _) (right : _) → view_statement (statements.Sections d left parts right)
    ≡ trees.Sections (view_directive d.value) left (trees.parts (map view_part parts.items)) right
view_sections d left parts right = ap view_statement (sym (statements.rolls-Sections d left parts right))
    ∙ fold-roll-Statement StatementTree PartTree statement_layer part_layer (Statement-F.Sections d left parts right)
