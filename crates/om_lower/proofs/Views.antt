-- What a statement with a statement in it is as a tree.
use Rattle.std.proofs.Common.{◌≡◌, map, option_map, sym, ap, ◌∙◌}
use Rattle.om_scope_tree.specs.declared.resolved.ResolvedStatement.{fold-roll-ResolvedStatement}
use Rattle.om_scope_tree.specs.declared.resolved.ResolvedStatement.TheOpen.{ResolvedStatement-F}
use Rattle.om_scope_tree.specs.declared.resolved.ResolvedStatement.TheVariants as v
use Rattle.om_scope_tree.specs.ResolvedTree as trees
use Rattle.om_scope_tree.specs.ResolvedTree.{ResolvedStatementTree, ResolvedStatementsTree}
use Rattle.om_scope_tree.specs.ResolvedView.{part_layer, statement_layer}
use Rattle.om_scope_tree.specs.ResolvedView as view

pub view_if : (at : _) (c : _) (s : _) → view.statement (v.If at c s)
    ≡ trees.If at (view.expression c) (view.statement s.value)
view_if at c s = ap view.statement (sym (v.rolls-If at c s)) ∙ fold-roll-ResolvedStatement
    ResolvedStatementTree ResolvedStatementsTree statement_layer part_layer (ResolvedStatement-F.If at c s)

pub view_if_else : (at : _) (c : _) (s : _) (t : _) → view.statement (v.IfElse at c s t) ≡ trees.IfElse at
    (view.expression c) (view.statement s.value) (view.statement t.value)
view_if_else at c s t = ap view.statement (sym (v.rolls-IfElse at c s t)) ∙ fold-roll-ResolvedStatement
    ResolvedStatementTree ResolvedStatementsTree statement_layer part_layer (ResolvedStatement-F.IfElse at c s t)

pub view_while : (at : _) (c : _) (s : _) → view.statement (v.While at c s)
    ≡ trees.While at (view.expression c) (view.statement s.value)
view_while at c s = ap view.statement (sym (v.rolls-While at c s)) ∙ fold-roll-ResolvedStatement
    ResolvedStatementTree ResolvedStatementsTree statement_layer part_layer (ResolvedStatement-F.While at c s)

pub view_do : (at : _) (s : _) (c : _) → view.statement (v.Do at s c)
    ≡ trees.Do at (view.statement s.value) (view.expression c)
view_do at s c = ap view.statement (sym (v.rolls-Do at s c)) ∙ fold-roll-ResolvedStatement
    ResolvedStatementTree ResolvedStatementsTree statement_layer part_layer (ResolvedStatement-F.Do at s c)

pub view_for : (at : _) (h : _) (s : _) → view.statement (v.For at h s)
    ≡ trees.For at (view.start h.value.start) (option_map view.expression h.value.condition)
    (option_map view.expression h.value.step) (view.statement s.value)
view_for at h s = ap view.statement (sym (v.rolls-For at h s)) ∙ fold-roll-ResolvedStatement
    ResolvedStatementTree ResolvedStatementsTree statement_layer part_layer (ResolvedStatement-F.For at h s)

pub view_loop : (at : _) (clauses : _) (nowait : _) (l : _) (s : _) → view.statement
    (v.Loop at clauses nowait l s)
    ≡ trees.Loop at (map view.clause clauses.items) nowait (view.loop l.value)
    (view.statement s.value)
view_loop at clauses nowait l s = ap view.statement (sym (v.rolls-Loop at clauses nowait l s))
    ∙ fold-roll-ResolvedStatement ResolvedStatementTree ResolvedStatementsTree statement_layer part_layer
    (ResolvedStatement-F.Loop at clauses nowait l s)

pub view_construct : (at : _) (kind : _) (clauses : _) (s : _) → view.statement (v.Construct at kind clauses s)
    ≡ trees.Construct at kind (map view.clause clauses.items) (view.statement s.value)
view_construct at kind clauses s = ap view.statement (sym (v.rolls-Construct at kind clauses s))
    ∙ fold-roll-ResolvedStatement ResolvedStatementTree ResolvedStatementsTree statement_layer part_layer
    (ResolvedStatement-F.Construct at kind clauses s)

pub view_break : (at : _) → view.statement (v.Break at) ≡ trees.Break at
view_break at = ap view.statement (sym (v.rolls-Break at)) ∙ fold-roll-ResolvedStatement
    ResolvedStatementTree ResolvedStatementsTree statement_layer part_layer (ResolvedStatement-F.Break at)

pub view_continue : (at : _) → view.statement (v.Continue at) ≡ trees.Continue at
view_continue at = ap view.statement (sym (v.rolls-Continue at)) ∙ fold-roll-ResolvedStatement
    ResolvedStatementTree ResolvedStatementsTree statement_layer part_layer (ResolvedStatement-F.Continue at)

pub view_stand_alone : (at : _) (directive : _) → view.statement (v.StandAlone at directive)
    ≡ trees.StandAlone at directive
view_stand_alone at directive = ap view.statement (sym (v.rolls-StandAlone at directive))
    ∙ fold-roll-ResolvedStatement ResolvedStatementTree ResolvedStatementsTree statement_layer part_layer
    (ResolvedStatement-F.StandAlone at directive)

pub view_region : (at : _) (kind : _) (clauses : _) (captures : _) (s : _) → view.statement
    (v.Region at kind clauses captures s)
    ≡ trees.Region at kind (map view.clause clauses.items) captures (view.statement s.value)
view_region at kind clauses captures s = ap view.statement (sym (v.rolls-Region at kind clauses captures s))
    ∙ fold-roll-ResolvedStatement ResolvedStatementTree ResolvedStatementsTree statement_layer part_layer
    (ResolvedStatement-F.Region at kind clauses captures s)

pub view_block : (at : _) (items : _) → view.statement (v.Block at items)
    ≡ trees.Block at (trees.statements (map view.statement items.items))
view_block at items = ap view.statement (sym (v.rolls-Block at items)) ∙ fold-roll-ResolvedStatement
    ResolvedStatementTree ResolvedStatementsTree statement_layer part_layer (ResolvedStatement-F.Block at items)

pub view_sections : (at : _) (clauses : _) (nowait : _) (parts : _) → view.statement
    (v.Sections at clauses nowait parts)
    ≡ trees.Sections at (map view.clause clauses.items) nowait
    (trees.parts (map view.part parts.items))
view_sections at clauses nowait parts = ap view.statement (sym (v.rolls-Sections at clauses nowait parts))
    ∙ fold-roll-ResolvedStatement ResolvedStatementTree ResolvedStatementsTree statement_layer part_layer
    (ResolvedStatement-F.Sections at clauses nowait parts)

pub view_declaration : (at : _) (ds : _) → view.statement (v.Declaration at ds) ≡ trees.Declaration at
    (map view.declarator ds.items)
view_declaration at ds = ap view.statement (sym (v.rolls-Declaration at ds)) ∙ fold-roll-ResolvedStatement
    ResolvedStatementTree ResolvedStatementsTree statement_layer part_layer (ResolvedStatement-F.Declaration at ds)

pub view_empty : (at : _) → view.statement (v.Empty at) ≡ trees.Empty at
view_empty at = ap view.statement (sym (v.rolls-Empty at)) ∙ fold-roll-ResolvedStatement
    ResolvedStatementTree ResolvedStatementsTree statement_layer part_layer (ResolvedStatement-F.Empty at)

pub view_expression : (at : _) (e : _) → view.statement (v.Expression at e) ≡ trees.Expression at
    (view.expression e)
view_expression at e = ap view.statement (sym (v.rolls-Expression at e)) ∙ fold-roll-ResolvedStatement
    ResolvedStatementTree ResolvedStatementsTree statement_layer part_layer (ResolvedStatement-F.Expression at e)

pub view_return : (at : _) (e : _) → view.statement (v.Return at e) ≡ trees.Return at
    (option_map view.expression e)
view_return at e = ap view.statement (sym (v.rolls-Return at e)) ∙ fold-roll-ResolvedStatement
    ResolvedStatementTree ResolvedStatementsTree statement_layer part_layer (ResolvedStatement-F.Return at e)

pub view_update : (at : _) (u : _) → view.statement (v.Update at u) ≡ trees.Update at
    (view.update u.value)
view_update at u = ap view.statement (sym (v.rolls-Update at u)) ∙ fold-roll-ResolvedStatement
    ResolvedStatementTree ResolvedStatementsTree statement_layer part_layer (ResolvedStatement-F.Update at u)
