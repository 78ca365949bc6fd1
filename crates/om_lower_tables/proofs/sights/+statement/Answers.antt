use Rattle.std.proofs.Common.{ap, arith}
use denote.Param.Weighed.{most}
use Rattle.om_scope_tree.specs.declared.resolved.ResolvedStatement.TheViews.{size-ResolvedPart, size-ResolvedStatement}
use Rattle.om_scope_tree.specs.declared.resolved.ResolvedStatement.TheViews.{sized-Block, sized-Construct, sized-Do}
use Rattle.om_scope_tree.specs.declared.resolved.ResolvedStatement.TheViews.{sized-For, sized-IfElse, sized-Loop}
use Rattle.om_scope_tree.specs.declared.resolved.ResolvedStatement.TheViews.{sized-Sections}
use Rattle.om_lower_tables.proofs.sights.+statement.Goals as goal

pub see_statement-see_statements-requires : goal.see_statement-see_statements-requires
see_statement-see_statements-requires t c = (
  omega (
    arith,
    ap size-ResolvedStatement c.in-Block.is,
    sized-Block c.in-Block.at c.in-Block.items,
    ap (most size-ResolvedStatement) c.as_slice-in-Block.ensures.value,
    c.decreases,
  ),
  tt,
)

pub see_statement-see_statement-requires : goal.see_statement-see_statement-requires
see_statement-see_statement-requires t c = (
  omega (
    arith,
    ap size-ResolvedStatement c.in-IfElse.is,
    sized-IfElse c.in-IfElse.at c.in-IfElse.condition c.in-IfElse.then c.in-IfElse.other,
    ap size-ResolvedStatement c.deref.ensures,
    c.decreases,
  ),
  tt,
)

pub see_statement-see_statement-requires-in-IfElse : goal.see_statement-see_statement-requires-in-IfElse
see_statement-see_statement-requires-in-IfElse t c = (
  omega (
    arith,
    ap size-ResolvedStatement c.in-IfElse.is,
    sized-IfElse c.in-IfElse.at c.in-IfElse.condition c.in-IfElse.then c.in-IfElse.other,
    ap size-ResolvedStatement c.deref-in-IfElse.ensures,
    c.decreases,
  ),
  tt,
)

pub see_statement-see_statement-requires-in-Do : goal.see_statement-see_statement-requires-in-Do
see_statement-see_statement-requires-in-Do t c = (
  omega (
    arith,
    ap size-ResolvedStatement c.in-Do.is,
    sized-Do c.in-Do.at c.in-Do.body c.in-Do.condition,
    ap size-ResolvedStatement c.deref-in-Do.ensures,
    c.decreases,
  ),
  tt,
)

pub see_statement-see_statement-requires-in-For : goal.see_statement-see_statement-requires-in-For
see_statement-see_statement-requires-in-For t c = (
  omega (
    arith,
    ap size-ResolvedStatement c.in-For.is,
    sized-For c.in-For.at c.in-For.head c.in-For.body,
    ap size-ResolvedStatement c.deref-in-For-2.ensures,
    c.decreases,
  ),
  tt,
)

pub see_statement-see_statement-requires-in-Loop : goal.see_statement-see_statement-requires-in-Loop
see_statement-see_statement-requires-in-Loop t c = (
  omega (
    arith,
    ap size-ResolvedStatement c.in-Loop.is,
    sized-Loop c.in-Loop.at c.in-Loop.clauses c.in-Loop.nowait c.in-Loop.repeated c.in-Loop.body,
    ap size-ResolvedStatement c.deref-in-Loop-2.ensures,
    c.decreases,
  ),
  tt,
)

pub see_statement-see_parts-requires : goal.see_statement-see_parts-requires
see_statement-see_parts-requires t c = (
  omega (
    arith,
    ap size-ResolvedStatement c.in-Sections.is,
    sized-Sections c.in-Sections.at c.in-Sections.clauses c.in-Sections.nowait c.in-Sections.parts,
    ap (most size-ResolvedPart) c.as_slice-in-Sections-2.ensures.value,
    c.decreases,
  ),
  tt,
)

pub see_statement-see_statement-requires-in-Construct : goal.see_statement-see_statement-requires-in-Construct
see_statement-see_statement-requires-in-Construct t c = (
  omega (
    arith,
    ap size-ResolvedStatement c.in-Construct.is,
    sized-Construct c.in-Construct.at c.in-Construct.kind c.in-Construct.clauses c.in-Construct.body,
    ap size-ResolvedStatement c.deref-in-Construct.ensures,
    c.decreases,
  ),
  tt,
)
