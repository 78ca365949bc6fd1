-- The places of a construct are among its tokens, where its copies and the places of its statement are.
use Rattle.std.proofs.Common.{ℕ, true, List, [], ◌∷◌, ◌++◌, Option, None, Some}
use Rattle.std.specs.List.{flat_map}
use Rattle.std.specs.Prelude.{IfSome}
use Rattle.om_lexer.specs.declared.token.Span.{Span}
use Rattle.om_lexer.specs.declared.token.Token.{Token}
use Rattle.om_scope_rules.proofs.Among.{none, further, begun, together}
use Rattle.om_scope_rules.specs.TreePlaces.{AreAmong}
use Rattle.om_scope_rules.proofs.CopyPlaces.{CopiesAmong, behind_hash, line}
use Rattle.om_scope_rules.proofs.Steps.{if_either}
use Rattle.om_scope_rules.proofs.StepsFrom.{if_behind}
use Rattle.om_scope_rules.specs.TreePlaces.{Place, Declared, Begun}
use Rattle.om_scope_rules.specs.TreePlaces.{clause_places, parts_places, statement_places}
use Rattle.om_pragma.specs.declared.tree.AtomicKind.{AtomicKind}
use Rattle.om_pragma.specs.declared.tree.AtomicKind.TheVariants as kinds
use Rattle.om_pragma.specs.declared.tree.Directive.{Directive}
use Rattle.om_pragma.specs.declared.tree.DirectiveName.{DirectiveName}
use Rattle.om_pragma.specs.declared.tree.DirectiveName.TheVariants as directives
use Rattle.om_pragma.specs.Questions.{atomic_kind}
use Rattle.om_pragma.specs.Spelling.{directive_spelling, opening_spelling}
use Rattle.om_scope_tree.specs.declared.resolved.Side.{Side}
use Rattle.om_scope_tree.specs.ResolvedTree as resolved
use Rattle.om_scope_tree.specs.ResolvedTree.{ResolvedClauseTree, ResolvedLoopTree, ResolvedPartsTree}
use Rattle.om_scope_tree.specs.ResolvedTree.{ResolvedStatementTree, ResolvedUpdateTree}
use Rattle.om_scope_rules.specs.DirectiveRules.{traits_of}
use Rattle.om_scope_rules.specs.Scopes.{Scopes}
use Rattle.om_scope_rules.specs.Sharing.{is_parallel}
use Rattle.om_scope_rules.specs.StatementResolution.{atomic_of, construct_of, flushed, has_nowait, loop_construct_of}
use Rattle.om_scope_rules.specs.StatementResolution.{parallel_of, resolved_alone, sections_construct_of, with_update}
use Rattle.om_scope_rules.specs.Updates.{update_of}
use Rattle.om_parser_tree.specs.Tree.{ExpressionTree}

-- the places of a statement, and of the parts of `sections`, are among these tokens
abbrev pub PlacesAmong : List Token → ResolvedStatementTree → Type 0
PlacesAmong ts s = AreAmong (statement_places s) ts

abbrev pub PartsAmong : List Token → ResolvedPartsTree → Type 0
PartsAmong ts parts = AreAmong (parts_places parts) ts

-- ---- the tokens of a line, and of what stands behind it

module _ (d : Directive ExpressionTree) (back : List Token) where
  abbrev all : List Token
  all = line d ++ back

  -- a region begins with its line
  region : (ps qs : List Place) → AreAmong ps (behind_hash d) → AreAmong qs back
      → AreAmong (Begun d.hash ∷ (ps ++ qs)) all
  unfolding directive_spelling opening_spelling
  region ps qs hp hq = begun d.hash (ps ++ qs) (behind_hash d ++ back) (together ps qs (behind_hash d) back hp hq)

  -- another construct has no place of its own
  construct : (ps qs : List Place) → AreAmong ps (behind_hash d) → AreAmong qs back → AreAmong (ps ++ qs) all
  unfolding directive_spelling opening_spelling
  construct ps qs hp hq = further (ps ++ qs) _ _ (together ps qs (behind_hash d) back hp hq)

  update_among : (at : Span) (u : Option ResolvedUpdateTree) → IfSome (with_update at u) (PlacesAmong all)
  update_among at None = tt
  update_among at (Some u) = none all

  module _ (cs : List ResolvedClauseTree) (body : ResolvedStatementTree) (hc : CopiesAmong (behind_hash d) cs)
      (h : PlacesAmong back body) where
    as_region : AreAmong (Begun d.hash ∷ (flat_map clause_places cs ++ statement_places body)) all
    as_region = region (flat_map clause_places cs) (statement_places body) hc h

    plain : AreAmong (flat_map clause_places cs ++ statement_places body) all
    plain = construct (flat_map clause_places cs) (statement_places body) hc h

    atomic_among : (kind : AtomicKind) (side : Side) (at : Span)
        → IfSome (atomic_of kind side at cs body) (PlacesAmong all)
    atomic_among kinds.Update side at = update_among at (update_of side body)
    atomic_among kinds.Read side at = plain
    atomic_among kinds.Write side at = plain

    pub construct_among : (parallel : Option ℕ) (side : Side) (name : DirectiveName)
        → IfSome (construct_of parallel side d name cs body) (PlacesAmong all)
    unfolding construct_of
    construct_among parallel side (directives.Parallel s) = as_region
    construct_among parallel side (directives.Task s) = as_region
    construct_among parallel side (directives.Atomic s) = atomic_among (atomic_kind d) side d.hash
    construct_among parallel side (directives.Taskgroup s) = plain
    construct_among parallel side (directives.Single s) = plain
    construct_among parallel side (directives.Masked s) = plain
    construct_among parallel side (directives.Master s) = plain
    construct_among parallel side (directives.Critical s name) = plain
    construct_among parallel side (directives.For s) = tt
    construct_among parallel side (directives.Sections s) = tt
    construct_among parallel side (directives.Section s) = tt
    construct_among parallel side (directives.ParallelFor s t) = tt
    construct_among parallel side (directives.ParallelSections s t) = tt
    construct_among parallel side (directives.Barrier s) = tt
    construct_among parallel side (directives.Taskwait s) = tt
    construct_among parallel side (directives.Taskyield s) = tt
    construct_among parallel side (directives.Flush s list) = tt

  -- a loop, with its own variable behind the copies
  pub loop_construct_among : (cs : List ResolvedClauseTree) (l : ResolvedLoopTree) (body : ResolvedStatementTree)
      → CopiesAmong (behind_hash d) cs → AreAmong (Declared l.variable ∷ statement_places body) back
      → PlacesAmong all (loop_construct_of d cs l body)
  loop_construct_among cs l body hc h =
      let copies = flat_map clause_places cs in
      let own = Declared l.variable ∷ statement_places body in
      if_either (PlacesAmong all) (is_parallel (traits_of d.name).region)
      (parallel_of d cs (resolved.Loop d.hash [] true l body)) (resolved.Loop d.hash cs (has_nowait d) l body)
      (region copies own hc h) (construct copies own hc h)

  pub sections_among : (cs : List ResolvedClauseTree) (parts : ResolvedPartsTree)
      → CopiesAmong (behind_hash d) cs → PartsAmong back parts → PlacesAmong all (sections_construct_of d cs parts)
  sections_among cs parts hc h =
      let copies = flat_map clause_places cs in
      let own = parts_places parts in
      if_either (PlacesAmong all) (is_parallel (traits_of d.name).region)
      (parallel_of d cs (resolved.Sections d.hash [] true parts)) (resolved.Sections d.hash cs (has_nowait d) parts)
      (region copies own hc h) (construct copies own hc h)

-- a directive that stands alone has no places
pub alone_among : (ts : List Token) (scopes : Scopes) (d : Directive ExpressionTree) (name : DirectiveName)
    → IfSome (resolved_alone scopes d name) (PlacesAmong ts)
alone_among ts scopes d (directives.Barrier s) = none ts
alone_among ts scopes d (directives.Taskwait s) = none ts
alone_among ts scopes d (directives.Taskyield s) = none ts
alone_among ts scopes d (directives.Parallel s) = tt
alone_among ts scopes d (directives.For s) = tt
alone_among ts scopes d (directives.Sections s) = tt
alone_among ts scopes d (directives.Section s) = tt
alone_among ts scopes d (directives.Single s) = tt
alone_among ts scopes d (directives.ParallelFor s t) = tt
alone_among ts scopes d (directives.ParallelSections s t) = tt
alone_among ts scopes d (directives.Masked s) = tt
alone_among ts scopes d (directives.Master s) = tt
alone_among ts scopes d (directives.Critical s name) = tt
alone_among ts scopes d (directives.Atomic s) = tt
alone_among ts scopes d (directives.Task s) = tt
alone_among ts scopes d (directives.Taskgroup s) = tt
alone_among ts scopes d (directives.Flush s list) =
    if_behind (PlacesAmong ts) (flushed scopes list) _ (λ vs. none ts)
