use Rattle.std.proofs.Common.{◌≡◌, ◌≤◌, ◌+◌, ◌^◌, List, arith, drop, refl, length, map, option_map, sym, ap, subst, ◌∙◌}
use denote.Param.Weighed.{most}
use Rattle.std.proofs.lemmas.List.{drop_all}
use Rattle.std.proofs.lemmas.Result.{err_from_is_err_and}
use Rattle.om_lower_emit.specs.Drafts.{Written}
use Rattle.om_lower_emit.specs.Writing.{goes_end}
use Rattle.om_lexer.specs.declared.token.Span.{Span}
use Rattle.om_scope_tree.specs.declared.resolved.ResolvedPart.{out-ResolvedPart}
use Rattle.om_scope_tree.specs.declared.resolved.ResolvedStatement.{ResolvedStatement}
use Rattle.om_scope_tree.specs.declared.resolved.ResolvedStatement.TheVariants as v
use Rattle.om_scope_tree.specs.declared.resolved.ResolvedStatement.TheViews.{size-ResolvedStatement, size_is-ResolvedPart}
use Rattle.om_scope_tree.specs.ResolvedTree as trees
use Rattle.om_scope_tree.specs.ResolvedView as view
use Rattle.om_lower_rules.specs.Bodies as rows
use Rattle.om_lower_rules.specs.BodyTables.{numbered_by}
use Rattle.om_lower_rules.specs.Numbered.{Numbered}
use Rattle.om_lower_rules.specs.Numbering.{numbers_of}
use Rattle.om_lower_emit.specs.Going.{free_with, with_none}
use Rattle.om_lower.proofs.Lists.{left_item, left_next, no_atomic, numbers_are, onward_begin, onward_done, spot_is}
use Rattle.om_lower.proofs.Lists.{nothing_on_error, statement_is}
use Rattle.om_lower.proofs.RegionEnds.{sections_ends}
use Rattle.om_lower.proofs.RegionEnds.{ends_here, ends_next, parts_ends_here, parts_ends_next, region_ends}
use Rattle.om_lower.proofs.Views.{view_block, view_break, view_construct, view_continue, view_declaration, view_do}
use Rattle.om_lower.proofs.Views.{view_empty}
use Rattle.om_lower.proofs.Views.{view_expression, view_for, view_if, view_if_else, view_loop, view_region}
use Rattle.om_lower.proofs.Views.{view_return, view_sections, view_stand_alone, view_update, view_while}
use Rattle.om_lower.proofs.Forms.{close_clauses_are, construct_clauses_are, emits_construct, emits_do, emits_for}
use Rattle.om_lower.proofs.Forms.{emits_if, emits_if_else, emits_loop, emits_while, loop_clauses_are}
use Rattle.om_lower.proofs.PartLists.{free_first, free_start, items_are, left_count, left_part, onward_parts_begin}
use Rattle.om_lower.proofs.PartLists.{onward_parts_done, opens_are, parts_are, parts_next}
use Rattle.om_lower.proofs.SectionsRow.{emits_sections, labels_are}
use Rattle.om_lower.proofs.Inside.{atomic_ends, code_here, if_code, if_else_code, parts_code_here, sections_few}
use Rattle.om_lower.proofs.Inside.{region_code, while_code}
use Rattle.om_lower.proofs.Within.{block_within, construct_within, do_within, else_within, for_within, if_within}
use Rattle.om_lower.proofs.Within.{loop_within, parts_within, then_within, while_within, with_depth}
use Rattle.om_lower_rules.specs.Scopes.{all_scopes, scopes}
use Rattle.om_lower_rules.specs.Statements.{assignment_row}
use Rattle.om_lower_emit.specs.declared.spot.JumpLabels.{JumpLabels}
use Rattle.om_lower.proofs.Scoped.{all_scopes_done, all_scopes_next, alone, construct_scopes_clauses}
use Rattle.om_lower.proofs.Scoped.{construct_stands, do_scopes, for_scopes, if_else_scopes, if_scopes, loop_scopes}
use Rattle.om_lower.proofs.Scoped.{loop_scopes_clauses, part_scopes_are, part_scopes_done, part_scopes_next}
use Rattle.om_lower.proofs.Scoped.{part_stands, scopes_are, sections_scopes, sections_scopes_clauses, while_scopes}
use Rattle.om_lower_emit.specs.declared.writing.ScopeStack.{ScopeStack}
use Rattle.om_lower.specs.Parts.{AreFree}
use Rattle.om_lower_emit.specs.Scoped.{ScopesStand}
use Rattle.om_lower_emit.specs.Scoping.{scopes_begin, stand_block, stand_plain}
use Rattle.om_lower.proofs.statement.+statement.Goals as goal

pub statement-define-requires-in-IfElse : goal.statement-define-requires-in-IfElse
statement-define-requires-in-IfElse t c =
    free_with _ _ _ _ _ (c.in_ok-end-in-IfElse.ensures (numbered_by c.args.tables.now)).free
    c.in_ok-after-in-IfElse.ensures.emitted

pub statement-end_loop-requires : goal.statement-end_loop-requires
statement-end_loop-requires t c =
    free_with _ _ _ _ _ c.in_ok-labels-in-While.ensures.free c.in_ok-after-in-While.ensures.emitted

pub statement-end_do-requires-clause-next : goal.statement-end_do-requires-clause-next
statement-end_do-requires-clause-next t c =
    free_with _ _ _ _ _ c.in_ok-labels-in-Do.ensures.next.free c.in_ok-after-in-Do.ensures.emitted

pub statement-end_do-requires-clause-over : goal.statement-end_do-requires-clause-over
statement-end_do-requires-clause-over t c =
    free_with _ _ _ _ _ c.in_ok-labels-in-Do.ensures.over.free c.in_ok-after-in-Do.ensures.emitted

pub statement-end_for-requires-clause-next : goal.statement-end_for-requires-clause-next
statement-end_for-requires-clause-next t c =
    free_with _ _ _ _ _ c.in_ok-labels-in-For.ensures.code.next.free c.in_ok-after-in-For.ensures.emitted

pub statement-end_for-requires-clause-over : goal.statement-end_for-requires-clause-over
statement-end_for-requires-clause-over t c =
    free_with _ _ _ _ _ c.in_ok-labels-in-For.ensures.code.over.free c.in_ok-after-in-For.ensures.emitted

pub statement-end_loop-requires-in-Loop : goal.statement-end_loop-requires-in-Loop
statement-end_loop-requires-in-Loop t c =
    free_with _ _ _ _ _ c.in_ok-labels-in-Loop.ensures.code.free c.in_ok-after-in-Loop.ensures.emitted

pub statement-end_construct-requires : goal.statement-end_construct-requires
statement-end_construct-requires t c =
    record {
      free = free_with _ _ _ _ _ c.in_ok-label-in-Construct.ensures.code.free c.in_ok-after-in-Construct.ensures.emitted;
      kind = no_atomic c.in-Construct.kind c.in_default.not-Atomic;
    }

pub statement-returns-in_ok-after-in-If : goal.statement-returns-in_ok-after-in-If
statement-returns-in_ok-after-in-If t c =
    let seen = (ap (λ z. trees.If c.in-If.at (view.expression c.in-If.condition) (view.statement z))
    c.deref.ensures ∙ sym (ap view.statement c.in-If.is ∙ view_if c.in-If.at c.in-If.condition
    c.in-If.then)) in
    record {
      behind = c.in_ok-after-in-If.ensures.behind
          ∙ ap (λ z. rows.behind (numbers_of c.args.spot.numbers) z) seen;
      emitted = statement_is (numbered_by c.args.tables.now) (numbers_of c.args.spot.numbers) _ _ c.args.spot.jumps _ _
          seen
          (emits_if (numbered_by c.args.tables.now) (numbers_of c.args.spot.numbers) c.in-If.at
          (view.expression c.in-If.condition) (view.statement c.deref.result.now) c.args.spot.jumps
          c.in_ok-end-in-If.end _ _ _ _
          c.in_ok-end-in-If.ensures c.in_ok-after-in-If.ensures.emitted c.define.ensures);
      scopes = scopes_are (numbered_by c.args.tables.now) _ _ _ _ _ _ seen
          (if_scopes (numbered_by c.args.tables.now) c.in-If.at (view.expression c.in-If.condition)
          (view.statement c.deref.result.now) c.in_ok-end-in-If.end _ _ _ _ _ _ c.in_ok-end-in-If.ensures
          c.in_ok-after-in-If.ensures.scopes c.define.ensures);
    }

pub statement-returns-in_ok-after-in-IfElse : goal.statement-returns-in_ok-after-in-IfElse
statement-returns-in_ok-after-in-IfElse t c =
    let seen = (ap (λ z. trees.IfElse c.in-IfElse.at (view.expression c.in-IfElse.condition)
    (view.statement z) (view.statement c.deref-in-IfElse-2.result.now)) c.deref-in-IfElse.ensures
    ∙ ap (λ z. trees.IfElse c.in-IfElse.at (view.expression c.in-IfElse.condition)
    (view.statement c.in-IfElse.then.value) (view.statement z)) c.deref-in-IfElse-2.ensures
    ∙ sym (ap view.statement c.in-IfElse.is ∙ view_if_else c.in-IfElse.at c.in-IfElse.condition
    c.in-IfElse.then c.in-IfElse.other)) in
    record {
      behind = c.in_ok-after-in-IfElse.ensures.behind
          ∙ ap (λ x. rows.behind (numbers_of x.numbers) (view.statement c.deref-in-IfElse-2.result.now))
          c.behind.ensures
          ∙ ap (λ n. rows.behind n (view.statement c.deref-in-IfElse-2.result.now))
          c.in_ok-between-in-IfElse.ensures.behind
          ∙ ap (λ z. rows.behind (numbers_of c.args.spot.numbers) z) seen;
      emitted = statement_is (numbered_by c.args.tables.now) (numbers_of c.args.spot.numbers) _ _ c.args.spot.jumps _ _
          seen
          (emits_if_else (numbered_by c.args.tables.now) (numbers_of c.args.spot.numbers) c.in-IfElse.at
          (view.expression c.in-IfElse.condition) (view.statement c.deref-in-IfElse.result.now)
          (view.statement c.deref-in-IfElse-2.result.now) c.args.spot.jumps c.in_ok-head-in-IfElse.head
          c.in_ok-end-in-IfElse.end _ _ _ _ _ _
          c.in_ok-head-in-IfElse.ensures c.in_ok-between-in-IfElse.ensures.emitted
          (c.in_ok-end-in-IfElse.ensures (numbered_by c.args.tables.now))
          (numbers_are (numbered_by c.args.tables.now) _ _ (view.statement c.deref-in-IfElse-2.result.now)
          c.args.spot.jumps _ _ c.in_ok-between-in-IfElse.ensures.behind (spot_is (numbered_by c.args.tables.now)
          (view.statement c.deref-in-IfElse-2.result.now) _ _ _ _ c.behind.ensures
          c.in_ok-after-in-IfElse.ensures.emitted))
          c.define-in-IfElse.ensures);
      scopes = scopes_are (numbered_by c.args.tables.now) _ _ _ _ _ _ seen
          (if_else_scopes (numbered_by c.args.tables.now) c.in-IfElse.at (view.expression c.in-IfElse.condition)
          (view.statement c.deref-in-IfElse.result.now)
          (view.statement c.deref-in-IfElse-2.result.now) c.in_ok-head-in-IfElse.head
          c.in_ok-end-in-IfElse.end _ _ _ _ _ _ _ _ _ c.in_ok-head-in-IfElse.ensures
          c.in_ok-between-in-IfElse.ensures.scopes (c.in_ok-end-in-IfElse.ensures (numbered_by c.args.tables.now))
          c.in_ok-after-in-IfElse.ensures.scopes c.define-in-IfElse.ensures);
    }

pub statement-returns-in_ok-end_loop-in-While : goal.statement-returns-in_ok-end_loop-in-While
statement-returns-in_ok-end_loop-in-While t c =
    let seen = (ap (λ z. trees.While c.in-While.at (view.expression c.in-While.condition)
    (view.statement z))
    c.deref-in-While.ensures ∙ sym (ap view.statement c.in-While.is ∙ view_while c.in-While.at
    c.in-While.condition c.in-While.body)) in
    record {
      behind = c.in_ok-after-in-While.ensures.behind
          ∙ ap (λ x. rows.behind (numbers_of x.numbers) (view.statement c.deref-in-While.result.now))
          c.in_loop-inside.ensures
          ∙ ap (λ z. rows.behind (numbers_of c.args.spot.numbers) z) seen;
      emitted = statement_is (numbered_by c.args.tables.now) (numbers_of c.args.spot.numbers) _ _ c.args.spot.jumps _ _
          seen
          (emits_while (numbered_by c.args.tables.now) (numbers_of c.args.spot.numbers) c.in-While.at
          (view.expression c.in-While.condition) (view.statement c.deref-in-While.result.now)
          c.args.spot.jumps c.in_ok-labels-in-While.labels _ _ _ _
          c.in_ok-labels-in-While.ensures (spot_is (numbered_by c.args.tables.now)
          (view.statement c.deref-in-While.result.now) _ _ _ _ c.in_loop-inside.ensures
          c.in_ok-after-in-While.ensures.emitted) (c.in_ok-end_loop-in-While.ensures (numbered_by c.args.tables.now)));
      scopes = scopes_are (numbered_by c.args.tables.now) _ _ _ _ _ _ seen
          (while_scopes (numbered_by c.args.tables.now) c.in-While.at (view.expression c.in-While.condition)
          (view.statement c.deref-in-While.result.now) c.in_ok-labels-in-While.labels _ _ _ _ _ _
          c.in_ok-labels-in-While.ensures c.in_ok-after-in-While.ensures.scopes
          (c.in_ok-end_loop-in-While.ensures (numbered_by c.args.tables.now)));
    }

pub statement-returns-in_ok-end_do-in-Do : goal.statement-returns-in_ok-end_do-in-Do
statement-returns-in_ok-end_do-in-Do t c =
    let seen = (ap (λ z. trees.Do c.in-Do.at (view.statement z) (view.expression c.in-Do.condition))
    c.deref-in-Do.ensures ∙ sym (ap view.statement c.in-Do.is ∙ view_do c.in-Do.at c.in-Do.body
    c.in-Do.condition)) in
    record {
      behind = c.in_ok-after-in-Do.ensures.behind
          ∙ ap (λ x. rows.behind (numbers_of x.numbers) (view.statement c.deref-in-Do.result.now))
          c.in_loop-inside-in-Do.ensures
          ∙ ap (λ z. rows.behind (numbers_of c.args.spot.numbers) z) seen;
      emitted = statement_is (numbered_by c.args.tables.now) (numbers_of c.args.spot.numbers) _ _ c.args.spot.jumps _ _
          seen
          (emits_do (numbered_by c.args.tables.now) (numbers_of c.args.spot.numbers) c.in-Do.at
          (view.expression c.in-Do.condition) (view.statement c.deref-in-Do.result.now)
          c.args.spot.jumps c.in_ok-labels-in-Do.labels _ _ _ _
          c.in_ok-labels-in-Do.ensures (spot_is (numbered_by c.args.tables.now)
          (view.statement c.deref-in-Do.result.now) _ _ _ _ c.in_loop-inside-in-Do.ensures
          c.in_ok-after-in-Do.ensures.emitted) c.in_ok-end_do-in-Do.ensures);
      scopes = scopes_are (numbered_by c.args.tables.now) _ _ _ _ _ _ seen
          (do_scopes (numbered_by c.args.tables.now) c.in-Do.at (view.expression c.in-Do.condition)
          (view.statement c.deref-in-Do.result.now) c.in_ok-labels-in-Do.labels _ _ _ _ _ _
          c.in_ok-labels-in-Do.ensures c.in_ok-after-in-Do.ensures.scopes c.in_ok-end_do-in-Do.ensures);
    }

pub statement-returns-in_ok-end-in-For : goal.statement-returns-in_ok-end-in-For
statement-returns-in_ok-end-in-For t c =
    let seen = (ap (λ z. trees.For c.in-For.at (view.start z.start) (option_map view.expression
    z.condition)
    (option_map view.expression z.step) (view.statement c.deref-in-For.result.now))
    c.deref-head.ensures
    ∙ ap (λ z. trees.For c.in-For.at (view.start c.in-For.head.value.start) (option_map
    view.expression c.in-For.head.value.condition) (option_map view.expression
    c.in-For.head.value.step) (view.statement z)) c.deref-in-For.ensures
    ∙ sym (ap view.statement c.in-For.is ∙ view_for c.in-For.at c.in-For.head c.in-For.body)) in
    record {
      behind = c.in_ok-after-in-For.ensures.behind
          ∙ ap (λ x. rows.behind (numbers_of x.numbers) (view.statement c.deref-in-For.result.now))
          c.in_loop-inside-in-For.ensures
          ∙ ap (λ z. rows.behind (numbers_of c.args.spot.numbers) z) seen;
      emitted = statement_is (numbered_by c.args.tables.now) (numbers_of c.args.spot.numbers) _ _ c.args.spot.jumps _ _
          seen
          (emits_for (numbered_by c.args.tables.now) (numbers_of c.args.spot.numbers) c.in-For.at
          (view.start c.deref-head.result.now.start) (option_map view.expression
          c.deref-head.result.now.condition)
          (option_map view.expression c.deref-head.result.now.step) (view.statement
          c.deref-in-For.result.now)
          c.args.spot.jumps c.in_ok-labels-in-For.labels _ _ _ _
          c.in_ok-labels-in-For.ensures.code (spot_is (numbered_by c.args.tables.now)
          (view.statement c.deref-in-For.result.now) _ _ _ _ c.in_loop-inside-in-For.ensures
          c.in_ok-after-in-For.ensures.emitted) c.in_ok-end_for-in-For.ensures);
      scopes = scopes_are (numbered_by c.args.tables.now) _ _ _ _ _ _ seen
          (for_scopes (numbered_by c.args.tables.now) c.in-For.at
          (view.start c.deref-head.result.now.start) (option_map view.expression
          c.deref-head.result.now.condition)
          (option_map view.expression c.deref-head.result.now.step) (view.statement
          c.deref-in-For.result.now)
          c.in_ok-labels-in-For.labels _ _ _ _ _ _ _ _ _ _ c.height-height-in-For.ensures c.place-to-in-For.ensures
          c.in_ok-labels-in-For.ensures.scopes c.in_ok-after-in-For.ensures.scopes c.in_ok-end_for-in-For.ensures
          c.in_ok-end-in-For.ensures);
    }

pub statement-returns-in_ok-jump-in-Break-clause-emitted :
    goal.statement-returns-in_ok-jump-in-Break-clause-emitted
statement-returns-in_ok-jump-in-Break-clause-emitted t c =
    statement_is (numbered_by c.args.tables.now) (numbers_of c.args.spot.numbers) _ _ c.args.spot.jumps _ _
    (sym (ap view.statement c.in-Break.is ∙ view_break c.in-Break.at))
    (with_none _ _ _ _ (c.in_ok-jump-in-Break.ensures (numbered_by c.args.tables.now)))

pub statement-returns-in_ok-jump-in-Continue-clause-emitted :
    goal.statement-returns-in_ok-jump-in-Continue-clause-emitted
statement-returns-in_ok-jump-in-Continue-clause-emitted t c =
    statement_is (numbered_by c.args.tables.now) (numbers_of c.args.spot.numbers) _ _ c.args.spot.jumps _ _
    (sym (ap view.statement c.in-Continue.is ∙ view_continue c.in-Continue.at))
    (with_none _ _ _ _ (c.in_ok-jump-in-Continue.ensures (numbered_by c.args.tables.now)))

pub statement-returns-in_ok-stand_alone-in-StandAlone-clause-emitted :
    goal.statement-returns-in_ok-stand_alone-in-StandAlone-clause-emitted
statement-returns-in_ok-stand_alone-in-StandAlone-clause-emitted t c =
    statement_is (numbered_by c.args.tables.now) (numbers_of c.args.spot.numbers) _ _ c.args.spot.jumps _ _
    (sym (ap view.statement c.in-StandAlone.is ∙ view_stand_alone c.in-StandAlone.at
    c.in-StandAlone.directive))
    (with_none _ _ _ _ (c.in_ok-stand_alone-in-StandAlone.ensures (numbered_by c.args.tables.now)))

pub statement-returns-in_ok-end-in-Loop : goal.statement-returns-in_ok-end-in-Loop
statement-returns-in_ok-end-in-Loop t c =
    let seen = (ap (λ z. trees.Loop c.in-Loop.at (map view.clause c.in-Loop.clauses.items) c.in-Loop.nowait
    (view.loop z) (view.statement c.deref-in-Loop-2.result.now)) c.deref-in-Loop.ensures
    ∙ ap (λ z. trees.Loop c.in-Loop.at (map view.clause c.in-Loop.clauses.items) c.in-Loop.nowait
    (view.loop c.in-Loop.repeated.value) (view.statement z)) c.deref-in-Loop-2.ensures
    ∙ sym (ap view.statement c.in-Loop.is ∙ view_loop c.in-Loop.at c.in-Loop.clauses c.in-Loop.nowait
    c.in-Loop.repeated c.in-Loop.body)) in
    record {
      behind = c.in_ok-after-in-Loop.ensures.behind
          ∙ ap (λ x. rows.behind (numbers_of x.numbers) (view.statement c.deref-in-Loop-2.result.now))
          c.in_iteration-inside.ensures
          ∙ ap (λ z. rows.behind (numbers_of c.args.spot.numbers) z) seen;
      emitted = statement_is (numbered_by c.args.tables.now) (numbers_of c.args.spot.numbers) _ _ c.args.spot.jumps _ _
          seen
          (emits_loop (numbered_by c.args.tables.now) (numbers_of c.args.spot.numbers) c.in-Loop.at
          (map view.clause c.in-Loop.clauses.items) c.in-Loop.nowait (view.loop
          c.deref-in-Loop.result.now)
          (view.statement c.deref-in-Loop-2.result.now) c.args.spot.jumps c.in_ok-labels-in-Loop.labels _ _
          _ _ _
          (loop_clauses_are (numbered_by c.args.tables.now) c.in-Loop.at.line (view.loop
          c.deref-in-Loop.result.now)
          c.in_ok-labels-in-Loop.labels _ _ _ _ c.as_slice-in-Loop.ensures.value c.in_ok-labels-in-Loop.ensures.code)
          (spot_is (numbered_by c.args.tables.now) (view.statement c.deref-in-Loop-2.result.now) _ _ _ _
          c.in_iteration-inside.ensures c.in_ok-after-in-Loop.ensures.emitted)
          (c.in_ok-end_loop-in-Loop.ensures (numbered_by c.args.tables.now))
          (close_clauses_are (numbered_by c.args.tables.now) c.in-Loop.at.line c.in-Loop.nowait _ _ _ _
          c.as_slice-in-Loop-2.ensures.value c.in_ok-end_worksharing-in-Loop.ensures));
      scopes = scopes_are (numbered_by c.args.tables.now) _ _ _ _ _ _ seen
          (loop_scopes (numbered_by c.args.tables.now) c.in-Loop.at (map view.clause c.in-Loop.clauses.items) c.in-Loop.nowait
          (view.loop c.deref-in-Loop.result.now) (view.statement c.deref-in-Loop-2.result.now)
          c.in_ok-labels-in-Loop.labels _ _ _ _ _ _ _ _ _ _ _ c.height-height-in-Loop.ensures c.place-to-in-Loop.ensures
          (loop_scopes_clauses (numbered_by c.args.tables.now) c.in-Loop.at.line (view.loop c.deref-in-Loop.result.now) _ _ _ _ _ _
          c.as_slice-in-Loop.ensures.value c.in_ok-labels-in-Loop.ensures.scopes) c.in_ok-after-in-Loop.ensures.scopes
          (c.in_ok-end_loop-in-Loop.ensures (numbered_by c.args.tables.now))
          (close_clauses_are (numbered_by c.args.tables.now) c.in-Loop.at.line c.in-Loop.nowait _ _ _ _
          c.as_slice-in-Loop-2.ensures.value c.in_ok-end_worksharing-in-Loop.ensures) c.in_ok-end-in-Loop.ensures);
    }

pub statement-returns-in_ok-end-in-Construct : goal.statement-returns-in_ok-end-in-Construct
statement-returns-in_ok-end-in-Construct t c =
    let seen = (ap (λ z. trees.Construct c.in-Construct.at c.in-Construct.kind
    (map view.clause c.in-Construct.clauses.items) (view.statement z))
    c.deref-in-Construct.ensures ∙ sym (ap view.statement c.in-Construct.is
    ∙ view_construct c.in-Construct.at c.in-Construct.kind c.in-Construct.clauses c.in-Construct.body)) in
    record {
      behind = c.in_ok-after-in-Construct.ensures.behind
          ∙ ap (λ x. rows.behind (numbers_of x.numbers) (view.statement c.deref-in-Construct.result.now))
          c.outside-inside.ensures ∙ ap (λ z. rows.behind (numbers_of c.args.spot.numbers) z) seen;
      emitted = statement_is (numbered_by c.args.tables.now) (numbers_of c.args.spot.numbers) _ _ c.args.spot.jumps _ _
          seen
          (emits_construct (numbered_by c.args.tables.now) (numbers_of c.args.spot.numbers) c.in-Construct.at
          c.in-Construct.kind (map view.clause c.in-Construct.clauses.items)
          (view.statement c.deref-in-Construct.result.now) c.args.spot.jumps
          c.in_ok-label-in-Construct.label _ _ _ _
          (construct_clauses_are (numbered_by c.args.tables.now) c.in-Construct.at.line c.in-Construct.kind
          c.in_ok-label-in-Construct.label _ _ _ _ c.as_slice-in-Construct.ensures.value
          c.in_ok-label-in-Construct.ensures.code)
          (spot_is (numbered_by c.args.tables.now) (view.statement c.deref-in-Construct.result.now) _ _ _ _
          c.outside-inside.ensures c.in_ok-after-in-Construct.ensures.emitted)
          c.in_ok-end_construct-in-Construct.ensures);
      scopes = scopes_are (numbered_by c.args.tables.now) _ _ _ _ _ _ seen
          (construct_stands (numbered_by c.args.tables.now) c.in-Construct.at c.in-Construct.kind
          (map view.clause c.in-Construct.clauses.items)
          (view.statement c.deref-in-Construct.result.now) c.in_ok-label-in-Construct.label _ _ _ _ _ _ _ _ _ _
          (no_atomic c.in-Construct.kind c.in_default.not-Atomic) c.height-height-in-Construct.ensures
          c.place-to-in-Construct.ensures
          (construct_scopes_clauses (numbered_by c.args.tables.now) c.in-Construct.at.line c.in-Construct.kind _ _ _ _ _ _
          c.as_slice-in-Construct.ensures.value c.in_ok-label-in-Construct.ensures.scopes)
          c.in_ok-after-in-Construct.ensures.scopes c.in_ok-end_construct-in-Construct.ensures
          c.in_ok-end-in-Construct.ensures);
    }

pub statements-loop-item-init : goal.statements-loop-item-init
statements-loop-item-init t c =
    (c.requires.code, refl, onward_begin _ _ _ _ _, c.requires.ends, scopes_begin (numbered_by c.args.tables.now) _ _ _)

pub statements-statement-requires : goal.statements-statement-requires
statements-statement-requires t c =
    let here = left_item c.args.items.now c.loop-item.item-index c.item-item.result c.loop-item-test.true
    c.item-item.is in (
      with_depth _ _ _ c.args.items.now c.loop-item.item-index c.item-item.result c.loop-item-test.true c.item-item.is
          c.decreases (λ deep. omega (arith, deep, c.decreases)),
      (
        code_here _ _ _ _ _ c.behind-here.ensures here c.loop-item.invariant.0,
        ends_here _ _ _ _ _ _ c.behind-here.ensures here c.loop-item.invariant.3,
      ),
    )

pub statements-loop-item-preserved : goal.statements-loop-item-preserved
statements-loop-item-preserved t c =
    let here = left_item c.args.items.now c.loop-item.item-index c.item-item.result c.loop-item-test.true
    c.item-item.is in
    let after = c.in_ok-after.ensures.behind
    ∙ ap (λ x. rows.behind (numbers_of x.numbers) (view.statement c.item-item.result))
    c.behind-here.ensures in
    let next = left_next _ _ _ (numbered_by c.args.tables.now) c.args.spot.jumps _ _ _ _ _ _ _ _ _ _ here after
    (spot_is (numbered_by c.args.tables.now) _ _ _ _ _ c.behind-here.ensures c.in_ok-after.ensures.emitted)
    c.loop-item.invariant.0 c.loop-item.invariant.1 c.loop-item.invariant.2 in (
      next.0,
      next.1,
      next.2,
      ends_next _ _ _ _ _ _ here after c.loop-item.invariant.3,
      all_scopes_next (numbered_by c.args.tables.now) _ _ _ _ _ _ _ _ _ _ here c.loop-item.invariant.4
          c.in_ok-after.ensures.scopes,
    )

pub statements-returns-clause-emitted : goal.statements-returns-clause-emitted
statements-returns-clause-emitted t c =
    onward_done _ (numbered_by c.args.tables.now) c.args.spot.jumps _ _ _ _ _ _
    (ap (λ xs. trees.statements (map view.statement xs))
    (drop_all c.loop-item.item-index c.args.items.now c.loop-item-test.false)) c.loop-item.invariant.2

pub statement-returns-in_ok-after-in-Region-clause-emitted :
    goal.statement-returns-in_ok-after-in-Region-clause-emitted
statement-returns-in_ok-after-in-Region-clause-emitted t c =
    statement_is (numbered_by c.args.tables.now) (numbers_of c.args.spot.numbers) _ _ c.args.spot.jumps _ _
    (ap (λ x. trees.Region c.in-Region.at c.in-Region.kind (map view.clause x) c.as_slice-in-Region-2.result.now
    (view.statement c.deref-in-Region.result.now)) c.as_slice-in-Region.ensures.value
    ∙ ap (λ x. trees.Region c.in-Region.at c.in-Region.kind (map view.clause c.in-Region.clauses.items) x
    (view.statement c.deref-in-Region.result.now)) c.as_slice-in-Region-2.ensures
    ∙ ap (λ z. trees.Region c.in-Region.at c.in-Region.kind (map view.clause c.in-Region.clauses.items)
    c.in-Region.captures (view.statement z)) c.deref-in-Region.ensures
    ∙ sym (ap view.statement c.in-Region.is ∙ view_region c.in-Region.at c.in-Region.kind c.in-Region.clauses
    c.in-Region.captures c.in-Region.body))
    (c.in_ok-after-in-Region.ensures.emitted c.args.spot.jumps)

pub parts-loop-index-init : goal.parts-loop-index-init
parts-loop-index-init t c =
    let all = trees.parts (map view.part c.args.sections.now) in (
      c.requires.code,
      refl,
      free_start c.args.spot.first (length c.args.sections.now) c.args.writing.now.draft c.requires.free,
      onward_parts_begin (numbered_by c.args.tables.now) c.args.spot (numbers_of c.args.spot.numbers) all
          (c.args.spot.first + 0) c.args.writing.now.draft (omega arith),
      c.requires.ends,
      scopes_begin (numbered_by c.args.tables.now) _ _ _,
    )

pub parts-define-requires : goal.parts-define-requires
parts-define-requires t c =
    let left = left_count c.args.sections.now c.loop-index.index c.index-sections-index.result c.loop-index-test.true
    in
    free_first (c.args.spot.first + c.loop-index.index) (length (drop c.loop-index.index c.args.sections.now)) _
    c.loop-index.writing.draft refl (omega (arith, left)) c.loop-index.invariant.2

pub parts-statements-requires : goal.parts-statements-requires
parts-statements-requires t c =
    let here = left_part c.args.sections.now c.loop-index.index c.index-sections-index.result c.loop-index-test.true
    c.index-sections-index.is in
    let size = size_is-ResolvedPart c.index-sections-index.result in
    let items = ap (most size-ResolvedStatement) c.as_slice.ensures.value in (
      with_depth _ _ _ c.args.sections.now c.loop-index.index c.index-sections-index.result c.loop-index-test.true
          c.index-sections-index.is c.decreases (λ deep. omega (arith, deep, size, items, c.decreases)),
      (
        parts_code_here _ _ _ _ _ _ c.outside-inside.ensures c.as_slice.ensures.value here
            c.loop-index.invariant.0,
        parts_ends_here _ _ _ _ _ _ _ c.outside-inside.ensures c.as_slice.ensures.value here
            c.loop-index.invariant.4,
      ),
    )

-- the same statements
item_scopes_are : (names : Numbered) (xs ys : List ResolvedStatement) (a : Written) (x : ScopeStack) (b : Written)
    (y : ScopeStack) → xs ≡ ys
    → ScopesStand names (λ at. all_scopes at (trees.statements (map view.statement xs))) a x b y
    → ScopesStand names (λ at. all_scopes at (trees.statements (map view.statement ys))) a x b y
item_scopes_are names xs ys a x b y same stand =
    subst (λ z. ScopesStand names (λ at. all_scopes at (trees.statements (map view.statement z))) a x b y) same
    stand

pub parts-loop-index-preserved : goal.parts-loop-index-preserved
parts-loop-index-preserved t c =
    let here = left_part c.args.sections.now c.loop-index.index c.index-sections-index.result c.loop-index-test.true
    c.index-sections-index.is in
    let left = left_count c.args.sections.now c.loop-index.index c.index-sections-index.result c.loop-index-test.true
    in
    let label = c.args.spot.first + c.loop-index.index in
    let next = c.args.spot.first + (c.loop-index.index + 1) in
    let items = (out-ResolvedPart c.index-sections-index.result).items.items in
    let seen = trees.statements (map view.statement items) in
    let after = c.in_ok-after.ensures.behind
    ∙ ap (λ x. rows.behind_all (numbers_of x.numbers)
    (trees.statements (map view.statement c.as_slice.result.now))) c.outside-inside.ensures
    ∙ ap (λ xs. rows.behind_all (numbers_of c.loop-index.numbers)
    (trees.statements (map view.statement xs))) c.as_slice.ensures.value in
    let written = parts_next (numbered_by c.args.tables.now) c.args.spot (numbers_of c.args.spot.numbers)
    (numbers_of c.loop-index.numbers) (numbers_of c.in_ok-after.after) _ _ _ seen
    label next (length (drop (c.loop-index.index + 1) c.args.sections.now)) _ _ _ _ _ here after
    (omega arith) (omega arith) c.define.ensures
    (items_are (numbered_by c.args.tables.now) _ _ _ items _ _ c.outside-inside.ensures c.as_slice.ensures.value
    c.in_ok-after.ensures.emitted)
    c.in_ok-put_jump.ensures c.loop-index.invariant.0 c.loop-index.invariant.1
    (subst (λ n. AreFree label n c.loop-index.writing.draft) left c.loop-index.invariant.2) c.loop-index.invariant.3 in (
      written.0,
      written.1,
      written.2,
      written.3,
      parts_ends_next _ _ _ _ _ seen here after c.loop-index.invariant.4,
      part_scopes_next (numbered_by c.args.tables.now) _ _ _ _ _ _ _ _ _ _ here c.loop-index.invariant.5
          (part_stands (numbered_by c.args.tables.now) c.args.spot.line _ _ seen _ _ _ _ _ _ _ _ _ c.height-height.ensures
          c.place-to.ensures c.define.ensures
          (item_scopes_are (numbered_by c.args.tables.now) _ _ _ _ _ _ c.as_slice.ensures.value
          c.in_ok-after.ensures.scopes) c.in_ok-end.ensures c.in_ok-put_jump.ensures),
    )

pub parts-returns-clause-emitted : goal.parts-returns-clause-emitted
parts-returns-clause-emitted t c =
    onward_parts_done (numbered_by c.args.tables.now) c.args.spot (numbers_of c.args.spot.numbers)
    (numbers_of c.loop-index.numbers) _ _ _ _ _
    (ap (λ xs. trees.parts (map view.part xs)) (drop_all c.loop-index.index c.args.sections.now
    c.loop-index-test.false)) c.loop-index.invariant.3

pub statement-parts-requires : goal.statement-parts-requires
statement-parts-requires t c =
    let opened = c.in_ok-inside-in-Sections.ensures.code in
    let same = ap length (c.as_slice-in-Sections-2.ensures.value ∙ sym c.as_slice-in-Sections-3.ensures.value) in
    let part = parts_within _ _ c.args.spot c.args.tree.now _ c.in-Sections.at c.in-Sections.clauses c.in-Sections.nowait
    c.in-Sections.sections c.in-Sections.is c.as_slice-in-Sections-3.ensures.value opened.numbers c.requires.code
    c.requires.ends in
    let free = subst (λ n. AreFree c.in_ok-inside-in-Sections.inside.first n c.begin_parts.new.writing.draft) same opened.free in
    let fit = subst (λ n. c.in_ok-inside-in-Sections.inside.first + n ≤ 2 ^ 64) same opened.fit in
    (omega (arith, part.0, c.decreases), (part.1, (part.2, (free, fit))))

pub statement-returns-in_ok-end-in-Sections-clause-emitted :
    goal.statement-returns-in_ok-end-in-Sections-clause-emitted
statement-returns-in_ok-end-in-Sections-clause-emitted t c =
    let parts = c.in-Sections.sections.items in
    let inside = c.in_ok-inside-in-Sections.inside in
    let all = trees.parts (map view.part parts) in
    statement_is (numbered_by c.args.tables.now) (numbers_of c.args.spot.numbers) _ _ c.args.spot.jumps _ _
    (sym (ap view.statement c.in-Sections.is ∙ view_sections c.in-Sections.at c.in-Sections.clauses
    c.in-Sections.nowait c.in-Sections.sections))
    (emits_sections (numbered_by c.args.tables.now) (numbers_of c.args.spot.numbers) c.in-Sections.at
    (map view.clause c.in-Sections.clauses.items) c.in-Sections.nowait all c.args.spot.jumps (length parts)
    inside _ _ _ _ _ (labels_are inside.first parts)
    (opens_are (numbered_by c.args.tables.now) c.in-Sections.at.line c.args.spot.numbers inside _ _ _ _ _ _
    c.as_slice-in-Sections.ensures.value c.as_slice-in-Sections-2.ensures.value c.in_ok-inside-in-Sections.ensures.code)
    (parts_are (numbered_by c.args.tables.now) (numbers_of inside.numbers) inside _ _ _ _
    c.as_slice-in-Sections-3.ensures.value c.in_ok-after-in-Sections.ensures.emitted)
    c.define-in-Sections.ensures
    (close_clauses_are (numbered_by c.args.tables.now) c.in-Sections.at.line c.in-Sections.nowait _ _ _ _
    c.as_slice-in-Sections-4.ensures.value c.in_ok-end_worksharing-in-Sections.ensures))

pub statement-statements-requires : goal.statement-statements-requires
statement-statements-requires t c =
    let part = block_within _ c.args.spot c.args.tree.now _ c.in-Block.at c.in-Block.items c.in-Block.is
    c.as_slice-in-Block.ensures.value c.requires.code c.requires.ends in
    (omega (arith, part.0, c.decreases), (part.1, part.2))

pub statement-inner-requires : goal.statement-inner-requires
statement-inner-requires t c =
    let part = if_within _ c.args.spot c.args.tree.now _ c.in-If.at c.in-If.condition c.in-If.then c.in-If.is c.deref.ensures
    c.requires.code c.requires.ends in
    (omega (arith, part.0, c.decreases), (part.1, part.2))

pub statement-inner-requires-in-IfElse : goal.statement-inner-requires-in-IfElse
statement-inner-requires-in-IfElse t c =
    let part = then_within _ c.args.spot c.args.tree.now _ c.in-IfElse.at c.in-IfElse.condition c.in-IfElse.then
    c.in-IfElse.other c.in-IfElse.is c.deref-in-IfElse.ensures c.requires.code c.requires.ends in
    (omega (arith, part.0, c.decreases), (part.1, part.2))

pub statement-inner-requires-in-IfElse-2 : goal.statement-inner-requires-in-IfElse-2
statement-inner-requires-in-IfElse-2 t c =
    let part = else_within _ _ c.args.spot _ c.args.tree.now _ _ c.in-IfElse.at c.in-IfElse.condition c.in-IfElse.then
    c.in-IfElse.other c.in-IfElse.is c.deref-in-IfElse.ensures c.deref-in-IfElse-2.ensures c.behind.ensures
    c.in_ok-between-in-IfElse.ensures.behind c.requires.code c.requires.ends in
    (omega (arith, part.0, c.decreases), (part.1, part.2))

pub statement-inner-requires-in-While : goal.statement-inner-requires-in-While
statement-inner-requires-in-While t c =
    let part = while_within _ _ c.args.spot _ _ c.args.tree.now _ c.in-While.at c.in-While.condition c.in-While.body
    c.in-While.is c.deref-in-While.ensures c.in_loop-inside.ensures c.requires.code c.requires.ends in
    (omega (arith, part.0, c.decreases), (part.1, part.2))

pub statement-inner-requires-in-Do : goal.statement-inner-requires-in-Do
statement-inner-requires-in-Do t c =
    let part = do_within _ _ c.args.spot _ _ c.args.tree.now _ c.in-Do.at c.in-Do.body c.in-Do.condition c.in-Do.is
    c.deref-in-Do.ensures c.in_loop-inside-in-Do.ensures c.requires.code c.requires.ends in
    (omega (arith, part.0, c.decreases), (part.1, part.2))

pub statement-inner-requires-in-For : goal.statement-inner-requires-in-For
statement-inner-requires-in-For t c =
    let part = for_within _ _ c.args.spot _ _ c.args.tree.now _ c.in-For.at c.in-For.head c.in-For.body c.in-For.is
    c.deref-in-For.ensures c.in_loop-inside-in-For.ensures c.requires.code c.requires.ends in
    (omega (arith, part.0, c.decreases), (part.1, part.2))

pub statement-inner-requires-in-Loop : goal.statement-inner-requires-in-Loop
statement-inner-requires-in-Loop t c =
    let part = loop_within _ _ c.args.spot _ c.args.tree.now _ c.in-Loop.at c.in-Loop.clauses c.in-Loop.nowait
    c.in-Loop.repeated c.in-Loop.body c.in-Loop.is c.deref-in-Loop-2.ensures c.in_iteration-inside.ensures
    c.requires.code c.requires.ends in
    (omega (arith, part.0, c.decreases), (part.1, part.2))

pub statement-inner-requires-in-Construct : goal.statement-inner-requires-in-Construct
statement-inner-requires-in-Construct t c =
    let part = construct_within _ _ c.args.spot c.args.tree.now _ c.in-Construct.at c.in-Construct.kind
    c.in-Construct.clauses c.in-Construct.body (no_atomic c.in-Construct.kind c.in_default.not-Atomic) c.in-Construct.is
    c.deref-in-Construct.ensures c.outside-inside.ensures c.requires.code c.requires.ends in
    (omega (arith, part.0, c.decreases), (part.1, part.2))

pub statement-begin_if-requires : goal.statement-begin_if-requires
statement-begin_if-requires t c =
    (if_code _ _ c.args.tree.now c.in-If.at c.in-If.condition c.in-If.then c.in-If.is c.requires.code).0

pub statement-begin_if-requires-in-IfElse : goal.statement-begin_if-requires-in-IfElse
statement-begin_if-requires-in-IfElse t c =
    (if_else_code _ _ c.args.tree.now c.in-IfElse.at c.in-IfElse.condition c.in-IfElse.then c.in-IfElse.other
    c.in-IfElse.is c.requires.code).0

pub statement-begin_while-requires : goal.statement-begin_while-requires
statement-begin_while-requires t c =
    (while_code _ _ c.args.tree.now c.in-While.at c.in-While.condition c.in-While.body c.in-While.is c.requires.code).0

pub statement-region_there-requires-clause-code : goal.statement-region_there-requires-clause-code
statement-region_there-requires-clause-code t c =
    region_code _ _ c.args.tree.now c.in-Region.at c.in-Region.kind c.in-Region.clauses c.in-Region.captures
    c.in-Region.body _ c.in-Region.is c.as_slice-in-Region.ensures.value c.requires.code

pub statement-region_there-requires-clause-known : goal.statement-region_there-requires-clause-known
statement-region_there-requires-clause-known t c =
    region_ends _ _ c.args.tree.now _ c.in-Region.at c.in-Region.kind c.in-Region.clauses c.in-Region.captures
    c.in-Region.body _ c.in-Region.is c.deref-in-Region.ensures c.as_slice-in-Region.ensures.value c.requires.ends

pub statement-returns-in_ok-jump-in-Break-clause-scopes : goal.statement-returns-in_ok-jump-in-Break-clause-scopes
statement-returns-in_ok-jump-in-Break-clause-scopes t c =
    scopes_are (numbered_by c.args.tables.now) _ _ _ _ _ _ (sym (ap view.statement c.in-Break.is ∙ view_break c.in-Break.at))
    (alone (numbered_by c.args.tables.now) (numbers_of c.args.spot.numbers)
    (trees.Break c.in-Break.at)
    c.args.spot.jumps _ _ _ (c.in_ok-jump-in-Break.ensures (numbered_by c.args.tables.now)).writes)

pub statement-returns-in_ok-jump-in-Continue-clause-scopes : goal.statement-returns-in_ok-jump-in-Continue-clause-scopes
statement-returns-in_ok-jump-in-Continue-clause-scopes t c =
    scopes_are (numbered_by c.args.tables.now) _ _ _ _ _ _ (sym (ap view.statement c.in-Continue.is ∙ view_continue c.in-Continue.at))
    (alone (numbered_by c.args.tables.now) (numbers_of c.args.spot.numbers)
    (trees.Continue c.in-Continue.at)
    c.args.spot.jumps _ _ _ (c.in_ok-jump-in-Continue.ensures (numbered_by c.args.tables.now)).writes)

pub statement-returns-in_ok-stand_alone-in-StandAlone-clause-scopes : goal.statement-returns-in_ok-stand_alone-in-StandAlone-clause-scopes
statement-returns-in_ok-stand_alone-in-StandAlone-clause-scopes t c =
    scopes_are (numbered_by c.args.tables.now) _ _ _ _ _ _ (sym (ap view.statement c.in-StandAlone.is ∙ view_stand_alone c.in-StandAlone.at
    c.in-StandAlone.directive))
    (alone (numbered_by c.args.tables.now) (numbers_of c.args.spot.numbers)
    (trees.StandAlone c.in-StandAlone.at c.in-StandAlone.directive)
    c.args.spot.jumps _ _ _ (c.in_ok-stand_alone-in-StandAlone.ensures (numbered_by c.args.tables.now)).writes)

pub statement-returns-in_ok-after-in-Region-clause-scopes : goal.statement-returns-in_ok-after-in-Region-clause-scopes
statement-returns-in_ok-after-in-Region-clause-scopes t c =
    scopes_are (numbered_by c.args.tables.now) _ _ _ _ _ _ (ap (λ x. trees.Region c.in-Region.at c.in-Region.kind (map view.clause x) c.as_slice-in-Region-2.result.now
    (view.statement c.deref-in-Region.result.now)) c.as_slice-in-Region.ensures.value
    ∙ ap (λ x. trees.Region c.in-Region.at c.in-Region.kind (map view.clause c.in-Region.clauses.items) x
    (view.statement c.deref-in-Region.result.now)) c.as_slice-in-Region-2.ensures
    ∙ ap (λ z. trees.Region c.in-Region.at c.in-Region.kind (map view.clause c.in-Region.clauses.items)
    c.in-Region.captures (view.statement z)) c.deref-in-Region.ensures
    ∙ sym (ap view.statement c.in-Region.is ∙ view_region c.in-Region.at c.in-Region.kind c.in-Region.clauses
    c.in-Region.captures c.in-Region.body))
    (alone (numbered_by c.args.tables.now) (numbers_of c.args.spot.numbers)
    (trees.Region c.in-Region.at c.in-Region.kind (map view.clause c.as_slice-in-Region.result.now) c.as_slice-in-Region-2.result.now
    (view.statement c.deref-in-Region.result.now))
    c.args.spot.jumps _ _ _ (c.in_ok-after-in-Region.ensures.emitted c.args.spot.jumps).writes)

pub statement-returns-in_ok-end-in-Sections-clause-scopes : goal.statement-returns-in_ok-end-in-Sections-clause-scopes
statement-returns-in_ok-end-in-Sections-clause-scopes t c =
    let all = trees.parts (map view.part c.in-Sections.sections.items) in
    scopes_are (numbered_by c.args.tables.now) _ _ _ _ _ _
    (sym (ap view.statement c.in-Sections.is ∙ view_sections c.in-Sections.at c.in-Sections.clauses
    c.in-Sections.nowait c.in-Sections.sections))
    (sections_scopes (numbered_by c.args.tables.now) c.in-Sections.at (map view.clause c.in-Sections.clauses.items) c.in-Sections.nowait all
    _ _ _ _ _ _ _ _ _ _ _ _ c.height-height-in-Sections.ensures c.place-to-in-Sections.ensures
    (sections_scopes_clauses (numbered_by c.args.tables.now) c.in-Sections.at.line _ _ _ _ _ _ c.as_slice-in-Sections.ensures.value
    c.in_ok-inside-in-Sections.ensures.scopes)
    (part_scopes_are (numbered_by c.args.tables.now) _ _ _ _ _ _ c.as_slice-in-Sections-3.ensures.value c.in_ok-after-in-Sections.ensures.scopes)
    c.define-in-Sections.ensures
    (close_clauses_are (numbered_by c.args.tables.now) c.in-Sections.at.line c.in-Sections.nowait _ _ _ _
    c.as_slice-in-Sections-4.ensures.value c.in_ok-end_worksharing-in-Sections.ensures) c.in_ok-end-in-Sections.ensures)

pub inner-statement-requires : goal.inner-statement-requires
inner-statement-requires t c = (omega (arith, c.decreases), (c.requires.code, c.requires.ends))

pub inner-returns-clause-scopes : goal.inner-returns-clause-scopes
inner-returns-clause-scopes t c =
    stand_block (numbered_by c.args.tables.now) (λ at. scopes at (view.statement c.args.tree.now)) _ _ _ _ _ _ _ c.height-height.ensures
    c.place-to.ensures c.in_ok-after.ensures.scopes c.in_ok-end.ensures

pub statements-returns-clause-scopes : goal.statements-returns-clause-scopes
statements-returns-clause-scopes t c =
    all_scopes_done (numbered_by c.args.tables.now) _ _ _ _ _ _ (ap (λ xs. trees.statements (map view.statement xs))
    (drop_all c.loop-item.item-index c.args.items.now c.loop-item-test.false)) c.loop-item.invariant.4

pub parts-returns-clause-scopes : goal.parts-returns-clause-scopes
parts-returns-clause-scopes t c =
    part_scopes_done (numbered_by c.args.tables.now) _ _ _ _ _ _ (ap (λ xs. trees.parts (map view.part xs))
    (drop_all c.loop-index.index c.args.sections.now c.loop-index-test.false)) c.loop-index.invariant.5

pub statement-returns-in_ok-end-in-Block-clause-scopes : goal.statement-returns-in_ok-end-in-Block-clause-scopes
statement-returns-in_ok-end-in-Block-clause-scopes t c =
    let items = trees.statements (map view.statement c.as_slice-in-Block.result.now) in
    scopes_are (numbered_by c.args.tables.now) _ _ _ _ _ _
    (ap (λ xs. trees.Block c.in-Block.at (trees.statements (map view.statement xs)))
    c.as_slice-in-Block.ensures.value
    ∙ sym (ap view.statement c.in-Block.is ∙ view_block c.in-Block.at c.in-Block.items))
    (stand_block (numbered_by c.args.tables.now) (λ at. all_scopes at items) _ _ _ _ _ _ _ c.height-height.ensures
    c.place-to.ensures c.in_ok-after-in-Block.ensures.scopes c.in_ok-end-in-Block.ensures)

pub statement-returns-in_ok-declarators-in-Declaration-clause-scopes :
    goal.statement-returns-in_ok-declarators-in-Declaration-clause-scopes
statement-returns-in_ok-declarators-in-Declaration-clause-scopes t c =
    scopes_are (numbered_by c.args.tables.now) _ _ _ _ _ _
    (ap (λ xs. trees.Declaration c.in-Declaration.at (map view.declarator xs)) c.as_slice.ensures.value
    ∙ sym (ap view.statement c.in-Declaration.is
    ∙ view_declaration c.in-Declaration.at c.in-Declaration.declared))
    c.in_ok-declarators-in-Declaration.ensures.scopes

pub statement-returns-in_ok-effect-in-Expression-clause-scopes :
    goal.statement-returns-in_ok-effect-in-Expression-clause-scopes
statement-returns-in_ok-effect-in-Expression-clause-scopes t c =
    scopes_are (numbered_by c.args.tables.now) _ _ _ _ _ _
    (sym (ap view.statement c.in-Expression.is
    ∙ view_expression c.in-Expression.at c.in-Expression.expression))
    (alone (numbered_by c.args.tables.now) (numbers_of c.args.spot.numbers)
    (trees.Expression c.in-Expression.at (view.expression c.in-Expression.expression)) c.args.spot.jumps _ _ _
    c.in_ok-effect-in-Expression.ensures.writes)

pub statement-returns-in_ok-returned-in-Return-clause-scopes :
    goal.statement-returns-in_ok-returned-in-Return-clause-scopes
statement-returns-in_ok-returned-in-Return-clause-scopes t c =
    scopes_are (numbered_by c.args.tables.now) _ _ _ _ _ _
    (sym (ap view.statement c.in-Return.is ∙ view_return c.in-Return.at c.in-Return.answer))
    (alone (numbered_by c.args.tables.now) (numbers_of c.args.spot.numbers)
    (trees.Return c.in-Return.at (option_map view.expression c.in-Return.answer)) c.args.spot.jumps _ _ _
    c.in_ok-returned-in-Return.ensures.writes)

pub statement-returns-in_ok-update-in-Update-clause-scopes :
    goal.statement-returns-in_ok-update-in-Update-clause-scopes
statement-returns-in_ok-update-in-Update-clause-scopes t c =
    scopes_are (numbered_by c.args.tables.now) _ _ _ _ _ _
    (ap (λ z. trees.Update c.in-Update.at (view.update z)) c.deref-in-Update.ensures
    ∙ sym (ap view.statement c.in-Update.is ∙ view_update c.in-Update.at c.in-Update.updated))
    (alone (numbered_by c.args.tables.now) (numbers_of c.args.spot.numbers)
    (trees.Update c.in-Update.at (view.update c.deref-in-Update.result.now)) c.args.spot.jumps _ _ _
    c.in_ok-update-in-Update.ensures.writes)

-- nothing is written, so no scope begins or ends
empty_stands : (names : Numbered) (n : rows.Numbers) (jumps : JumpLabels) (tree : ResolvedStatement) (first : Span)
    (draft : Written) (x : ScopeStack) → tree ≡ v.Empty first
    → ScopesStand names (λ at. scopes at (view.statement tree)) draft x draft x
empty_stands names n jumps tree first draft x is =
    scopes_are names (trees.Empty first) _ draft x draft x (sym (ap view.statement is ∙ view_empty first))
    (alone names n (trees.Empty first) jumps draft draft x (goes_end 0 draft).writes)

pub statement-returns-in-Empty-clause-scopes : goal.statement-returns-in-Empty-clause-scopes
statement-returns-in-Empty-clause-scopes t c =
    empty_stands (numbered_by c.args.tables.now) (numbers_of c.args.spot.numbers) c.args.spot.jumps _ _
    c.args.writing.now.draft c.args.writing.now.scopes c.in-Empty.is

pub statement-returns-in-Atomic-clause-scopes : goal.statement-returns-in-Atomic-clause-scopes
statement-returns-in-Atomic-clause-scopes t c =
    let clauses = map view.clause c.in-Construct.clauses.items in
    let s = view.statement c.deref-in-Atomic.result.now in
    scopes_are (numbered_by c.args.tables.now) _ _ _ _ _ _
    (ap (λ k. trees.Construct c.in-Construct.at k clauses s) (sym c.in-Atomic.is)
    ∙ ap (λ z. trees.Construct c.in-Construct.at c.in-Construct.kind clauses (view.statement z))
    c.deref-in-Atomic.ensures
    ∙ sym (ap view.statement c.in-Construct.is ∙ view_construct c.in-Construct.at c.in-Construct.kind
    c.in-Construct.clauses c.in-Construct.body))
    (stand_plain (numbered_by c.args.tables.now) (λ at. assignment_row at c.in-Construct.at.line s) _ _ _
    c.in_ok-assignment-in-Construct.ensures.writes)

pub statement-returns-in-Atomic-clause-behind : goal.statement-returns-in-Atomic-clause-behind
statement-returns-in-Atomic-clause-behind t c =
    atomic_ends _ _ (numbers_of c.args.spot.numbers) c.args.tree.now c.in-Construct.at c.in-Construct.kind
    c.in-Atomic.access c.in-Construct.clauses c.in-Construct.body c.in-Construct.is c.in-Atomic.is c.requires.code

pub statement-begin_parts-requires : goal.statement-begin_parts-requires
statement-begin_parts-requires t c = record {
  few = sections_few _ _ c.args.tree.now _ c.in-Sections.at c.in-Sections.clauses c.in-Sections.nowait
      c.in-Sections.sections c.in-Sections.is c.as_slice-in-Sections-2.ensures.value c.requires.code;
  numbered = (sections_ends _ _ c.args.tree.now c.in-Sections.at c.in-Sections.clauses c.in-Sections.nowait
      c.in-Sections.sections c.in-Sections.is c.requires.ends).0;
}

pub statement-begin_else-requires : goal.statement-begin_else-requires
statement-begin_else-requires t c =
    free_with _ _ _ _ _ c.in_ok-head-in-IfElse.ensures.free c.in_ok-between-in-IfElse.ensures.emitted

pub statement-define-requires : goal.statement-define-requires
statement-define-requires t c =
    free_with _ _ _ _ _ c.in_ok-end-in-If.ensures.free c.in_ok-after-in-If.ensures.emitted

pub statement-returns-in_ok-declarators-in-Declaration-clause-emitted :
    goal.statement-returns-in_ok-declarators-in-Declaration-clause-emitted
statement-returns-in_ok-declarators-in-Declaration-clause-emitted t c =
    statement_is (numbered_by c.args.tables.now) (numbers_of c.args.spot.numbers) _ _ c.args.spot.jumps _ _
    (ap (λ xs. trees.Declaration c.in-Declaration.at (map view.declarator xs)) c.as_slice.ensures.value
    ∙ sym (ap view.statement c.in-Declaration.is
    ∙ view_declaration c.in-Declaration.at c.in-Declaration.declared))
    (with_none _ _ _ _ c.in_ok-declarators-in-Declaration.ensures.code)

pub statement-returns-in_ok-end-in-Block-clause-emitted : goal.statement-returns-in_ok-end-in-Block-clause-emitted
statement-returns-in_ok-end-in-Block-clause-emitted t c =
    statement_is (numbered_by c.args.tables.now) (numbers_of c.args.spot.numbers) _ _ c.args.spot.jumps _ _
    (ap (λ xs. trees.Block c.in-Block.at (trees.statements (map view.statement xs)))
    c.as_slice-in-Block.ensures.value
    ∙ sym (ap view.statement c.in-Block.is ∙ view_block c.in-Block.at c.in-Block.items))
    c.in_ok-after-in-Block.ensures.emitted

pub statement-returns-in-Empty-clause-emitted : goal.statement-returns-in-Empty-clause-emitted
statement-returns-in-Empty-clause-emitted t c =
    statement_is (numbered_by c.args.tables.now) (numbers_of c.args.spot.numbers) _ _ c.args.spot.jumps _ _
    (sym (ap view.statement c.in-Empty.is ∙ view_empty _))
    (with_none _ _ _ _ (goes_end _ c.args.writing.now.draft))

pub statement-returns-in_ok-effect-in-Expression-clause-emitted :
    goal.statement-returns-in_ok-effect-in-Expression-clause-emitted
statement-returns-in_ok-effect-in-Expression-clause-emitted t c =
    statement_is (numbered_by c.args.tables.now) (numbers_of c.args.spot.numbers) _ _ c.args.spot.jumps _ _
    (sym (ap view.statement c.in-Expression.is
    ∙ view_expression c.in-Expression.at c.in-Expression.expression))
    (with_none _ _ _ _ c.in_ok-effect-in-Expression.ensures)

pub statement-returns-in_ok-returned-in-Return-clause-emitted :
    goal.statement-returns-in_ok-returned-in-Return-clause-emitted
statement-returns-in_ok-returned-in-Return-clause-emitted t c =
    statement_is (numbered_by c.args.tables.now) (numbers_of c.args.spot.numbers) _ _ c.args.spot.jumps _ _
    (sym (ap view.statement c.in-Return.is ∙ view_return c.in-Return.at c.in-Return.answer))
    (with_none _ _ _ _ c.in_ok-returned-in-Return.ensures)

pub statement-returns-in_ok-update-in-Update-clause-emitted :
    goal.statement-returns-in_ok-update-in-Update-clause-emitted
statement-returns-in_ok-update-in-Update-clause-emitted t c =
    statement_is (numbered_by c.args.tables.now) (numbers_of c.args.spot.numbers) _ _ c.args.spot.jumps _ _
    (ap (λ z. trees.Update c.in-Update.at (view.update z)) c.deref-in-Update.ensures
    ∙ sym (ap view.statement c.in-Update.is ∙ view_update c.in-Update.at c.in-Update.updated))
    (with_none _ _ _ _ c.in_ok-update-in-Update.ensures)

-- where memory runs out, nothing is promised
pub statement-returns-in_err-end-in-For-clause-behind : goal.statement-returns-in_err-end-in-For-clause-behind
statement-returns-in_err-end-in-For-clause-behind t c =
    let failed = err_from_is_err_and c.from_residual-in_err-end-in-For.result
    c.from_residual-in_err-end-in-For.ensures.1 in
    nothing_on_error _ _ _ failed.1

pub statement-returns-in_err-end-in-For-clause-emitted : goal.statement-returns-in_err-end-in-For-clause-emitted
statement-returns-in_err-end-in-For-clause-emitted t c =
    let failed = err_from_is_err_and c.from_residual-in_err-end-in-For.result
    c.from_residual-in_err-end-in-For.ensures.1 in
    nothing_on_error _ _ _ failed.1

pub statement-returns-in_err-end-in-For-clause-scopes : goal.statement-returns-in_err-end-in-For-clause-scopes
statement-returns-in_err-end-in-For-clause-scopes t c =
    let failed = err_from_is_err_and c.from_residual-in_err-end-in-For.result
    c.from_residual-in_err-end-in-For.ensures.1 in
    nothing_on_error _ _ _ failed.1

pub statement-returns-in_err-end-in-Loop-clause-behind : goal.statement-returns-in_err-end-in-Loop-clause-behind
statement-returns-in_err-end-in-Loop-clause-behind t c =
    let failed = err_from_is_err_and c.from_residual-in_err-end-in-Loop.result
    c.from_residual-in_err-end-in-Loop.ensures.1 in
    nothing_on_error _ _ _ failed.1

pub statement-returns-in_err-end-in-Loop-clause-emitted : goal.statement-returns-in_err-end-in-Loop-clause-emitted
statement-returns-in_err-end-in-Loop-clause-emitted t c =
    let failed = err_from_is_err_and c.from_residual-in_err-end-in-Loop.result
    c.from_residual-in_err-end-in-Loop.ensures.1 in
    nothing_on_error _ _ _ failed.1

pub statement-returns-in_err-end-in-Loop-clause-scopes : goal.statement-returns-in_err-end-in-Loop-clause-scopes
statement-returns-in_err-end-in-Loop-clause-scopes t c =
    let failed = err_from_is_err_and c.from_residual-in_err-end-in-Loop.result
    c.from_residual-in_err-end-in-Loop.ensures.1 in
    nothing_on_error _ _ _ failed.1

pub statement-returns-in_err-end-in-Sections-clause-behind :
    goal.statement-returns-in_err-end-in-Sections-clause-behind
statement-returns-in_err-end-in-Sections-clause-behind t c =
    let failed = err_from_is_err_and c.from_residual-in_err-end-in-Sections.result
    c.from_residual-in_err-end-in-Sections.ensures.1 in
    nothing_on_error _ _ _ failed.1

pub statement-returns-in_err-end-in-Sections-clause-emitted :
    goal.statement-returns-in_err-end-in-Sections-clause-emitted
statement-returns-in_err-end-in-Sections-clause-emitted t c =
    let failed = err_from_is_err_and c.from_residual-in_err-end-in-Sections.result
    c.from_residual-in_err-end-in-Sections.ensures.1 in
    nothing_on_error _ _ _ failed.1

pub statement-returns-in_err-end-in-Sections-clause-scopes :
    goal.statement-returns-in_err-end-in-Sections-clause-scopes
statement-returns-in_err-end-in-Sections-clause-scopes t c =
    let failed = err_from_is_err_and c.from_residual-in_err-end-in-Sections.result
    c.from_residual-in_err-end-in-Sections.ensures.1 in
    nothing_on_error _ _ _ failed.1

pub statement-returns-in_err-end-in-Construct : goal.statement-returns-in_err-end-in-Construct
statement-returns-in_err-end-in-Construct t c =
    let failed = err_from_is_err_and c.from_residual-in_err-end-in-Construct.result
    c.from_residual-in_err-end-in-Construct.ensures.1 in
    record {
      behind = nothing_on_error _ _ _ failed.1;
      emitted = nothing_on_error _ _ _ failed.1;
      scopes = nothing_on_error _ _ _ failed.1;
    }
