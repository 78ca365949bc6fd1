-- A construct has tokens enough for itself, for the `printf`s in its clauses, and for what stands in it.
use Rattle.std.proofs.Common.{ℕ, ◌+◌, ◌≤◌, true, List, [], ◌++◌, Option, None, Some, map, sum, arith}
use Rattle.std.specs.Prelude.{IfSome}
use Rattle.om_lexer.specs.declared.token.Span.{Span}
use Rattle.om_lexer.specs.declared.token.Token.{Token}
use Rattle.om_pragma.specs.declared.tree.AtomicKind.{AtomicKind}
use Rattle.om_pragma.specs.declared.tree.AtomicKind.TheVariants as kinds
use Rattle.om_pragma.specs.declared.tree.Directive.{Directive}
use Rattle.om_pragma.specs.declared.tree.DirectiveName.{DirectiveName}
use Rattle.om_pragma.specs.declared.tree.DirectiveName.TheVariants as directives
use Rattle.om_pragma.specs.Questions.{atomic_kind}
use Rattle.om_scope_tree.specs.declared.resolved.Side.{Side}
use Rattle.om_scope_tree.specs.ResolvedTree as resolved
use Rattle.om_scope_tree.specs.ResolvedTree.{ResolvedClauseTree, ResolvedLoopTree, ResolvedPartsTree}
use Rattle.om_scope_tree.specs.ResolvedTree.{ResolvedStatementTree, ResolvedUpdateTree}
use Rattle.om_scope_tree.specs.Weights.{clause_weight, loop_weight, parts_weight, statement_weight, update_weight}
use Rattle.om_scope_rules.proofs.ClauseWeights.{LineFits}
use Rattle.om_scope_rules.proofs.CopyPlaces.{line}
use Rattle.om_scope_rules.proofs.Fitting.{Fits, nothing, behind, lighter, together}
use Rattle.om_scope_rules.proofs.Steps.{if_either}
use Rattle.om_scope_rules.proofs.StepsFrom.{if_behind}
use Rattle.om_scope_rules.proofs.UpdateWeights.{update_within}
use Rattle.om_scope_rules.specs.DirectiveRules.{traits_of}
use Rattle.om_scope_rules.specs.Scopes.{Scopes}
use Rattle.om_scope_rules.specs.Sharing.{is_parallel}
use Rattle.om_scope_rules.specs.StatementResolution.{atomic_of, construct_of, flushed, has_nowait, loop_construct_of}
use Rattle.om_scope_rules.specs.StatementResolution.{parallel_of, resolved_alone, sections_construct_of, with_update}
use Rattle.om_scope_rules.specs.Updates.{update_of}
use Rattle.om_parser_tree.specs.Tree.{ExpressionTree}

-- there are tokens enough for a statement, and for the parts of `sections`
abbrev pub StatementFits : List Token → ResolvedStatementTree → Type 0
StatementFits ts s = Fits ts (statement_weight s)

abbrev pub PartsFit : List Token → ResolvedPartsTree → Type 0
PartsFit ts parts = Fits ts (parts_weight parts)

module _ (d : Directive ExpressionTree) (back : List Token) where
  abbrev all : List Token
  all = line d ++ back

  module _ (cs : List ResolvedClauseTree) (hc : LineFits d cs) where
    abbrev own : ℕ
    own = sum (map clause_weight cs)

    -- of a directive that counts for two at most
    counted : (inner n : ℕ) → n ≤ 1 + (1 + own) + inner → Fits back inner → Fits all n
    counted inner n e h =
        lighter n (1 + (1 + own) + inner) all e (together (1 + (1 + own)) inner (line d) back hc h)

    module _ (body : ResolvedStatementTree) (h : StatementFits back body) where
      once : Fits all (1 + (own + statement_weight body))
      once = counted (statement_weight body) (1 + (own + statement_weight body)) (omega arith) h

      update_fits : (at : Span) (u : Option ResolvedUpdateTree)
          → IfSome u (λ x. update_weight x ≤ statement_weight body) → IfSome (with_update at u) (StatementFits all)
      unfolding statement_weight
      update_fits at None e = tt
      update_fits at (Some u) e =
          let n = update_weight u in
          behind n (line d) back (lighter n (statement_weight body) back e h)

      atomic_fits : (kind : AtomicKind) (side : Side) (at : Span)
          → IfSome (atomic_of kind side at cs body) (StatementFits all)
      unfolding statement_weight
      atomic_fits kinds.Update side at = update_fits at (update_of side body) (update_within side body)
      atomic_fits kinds.Read side at = once
      atomic_fits kinds.Write side at = once

      pub construct_fits : (parallel : Option ℕ) (side : Side) (name : DirectiveName)
          → IfSome (construct_of parallel side d name cs body) (StatementFits all)
      unfolding construct_of statement_weight
      construct_fits parallel side (directives.Parallel s) = once
      construct_fits parallel side (directives.Task s) = once
      construct_fits parallel side (directives.Atomic s) = atomic_fits (atomic_kind d) side d.hash
      construct_fits parallel side (directives.Taskgroup s) = once
      construct_fits parallel side (directives.Single s) = once
      construct_fits parallel side (directives.Masked s) = once
      construct_fits parallel side (directives.Master s) = once
      construct_fits parallel side (directives.Critical s name) = once
      construct_fits parallel side (directives.For s) = tt
      construct_fits parallel side (directives.Sections s) = tt
      construct_fits parallel side (directives.Section s) = tt
      construct_fits parallel side (directives.ParallelFor s t) = tt
      construct_fits parallel side (directives.ParallelSections s t) = tt
      construct_fits parallel side (directives.Barrier s) = tt
      construct_fits parallel side (directives.Taskwait s) = tt
      construct_fits parallel side (directives.Taskyield s) = tt
      construct_fits parallel side (directives.Flush s list) = tt

    -- a loop, with a `parallel` round it or not
    pub loop_construct_fits : (l : ResolvedLoopTree) (body : ResolvedStatementTree)
        → Fits back (loop_weight l + statement_weight body) → StatementFits all (loop_construct_of d cs l body)
    unfolding statement_weight
    loop_construct_fits l body h =
        let inner = loop_weight l + statement_weight body in
        if_either (StatementFits all) (is_parallel (traits_of d.name).region)
        (parallel_of d cs (resolved.Loop d.hash [] true l body)) (resolved.Loop d.hash cs (has_nowait d) l body)
        (counted inner _ (omega arith) h) (counted inner _ (omega arith) h)

    -- the same of `sections`
    pub sections_fit : (parts : ResolvedPartsTree) → PartsFit back parts
        → StatementFits all (sections_construct_of d cs parts)
    unfolding statement_weight
    sections_fit parts h =
        let inner = parts_weight parts in
        if_either (StatementFits all) (is_parallel (traits_of d.name).region)
        (parallel_of d cs (resolved.Sections d.hash [] true parts)) (resolved.Sections d.hash cs (has_nowait d) parts)
        (counted inner _ (omega arith) h) (counted inner _ (omega arith) h)

-- a directive that stands alone has no part with a number
pub alone_fits : (ts : List Token) (scopes : Scopes) (d : Directive ExpressionTree) (name : DirectiveName)
    → IfSome (resolved_alone scopes d name) (StatementFits ts)
unfolding statement_weight
alone_fits ts scopes d (directives.Barrier s) = nothing ts
alone_fits ts scopes d (directives.Taskwait s) = nothing ts
alone_fits ts scopes d (directives.Taskyield s) = nothing ts
alone_fits ts scopes d (directives.Parallel s) = tt
alone_fits ts scopes d (directives.For s) = tt
alone_fits ts scopes d (directives.Sections s) = tt
alone_fits ts scopes d (directives.Section s) = tt
alone_fits ts scopes d (directives.Single s) = tt
alone_fits ts scopes d (directives.ParallelFor s t) = tt
alone_fits ts scopes d (directives.ParallelSections s t) = tt
alone_fits ts scopes d (directives.Masked s) = tt
alone_fits ts scopes d (directives.Master s) = tt
alone_fits ts scopes d (directives.Critical s name) = tt
alone_fits ts scopes d (directives.Atomic s) = tt
alone_fits ts scopes d (directives.Task s) = tt
alone_fits ts scopes d (directives.Taskgroup s) = tt
alone_fits ts scopes d (directives.Flush s list) =
    if_behind (StatementFits ts) (flushed scopes list) _ (λ vs. nothing ts)
