-- What the code of declarations, clauses and constructs names exists.
use Rattle.std.proofs.Common.{◌≡◌, ℕ, ◌+◌, ◌<◌, Bool, true, false, List, [], ◌∷◌, ◌++◌, length, Option, Some, None}
use Rattle.std.proofs.Common.{refl, subst}
use Rattle.std.specs.Prelude.{map, nat_eq, All, if◌then◌else◌}
use Rattle.std.specs.List.{flat_map, list_any}
use Rattle.std.specs.Str.{bytes_eq}
use Rattle.std.proofs.lemmas.List.Elements.{All-nil, All-cons, All-head, All-tail, All-append}
use Rattle.om_code.specs.declared.instruction.AtomicOperator.{AtomicOperator}
use Rattle.om_code.specs.declared.instruction.Comparison.{Comparison}
use Rattle.om_code.specs.declared.instruction.Side.{Side}
use Rattle.om_code.specs.declared.raw.Raw.{Raw}
use Rattle.om_code.specs.declared.raw.Slot.{Slot}
use Rattle.om_code.specs.Validity.{IsKnownPlace, IsKnownBody}
use Rattle.om_pragma.specs.declared.clause.ValueClause.{ValueClause}
use Rattle.om_scope_tree.specs.declared.resolved.Capture.{Capture}
use Rattle.om_scope_tree.specs.declared.resolved.CopyKind.{CopyKind}
use Rattle.om_scope_tree.specs.declared.resolved.CopyKind.TheVariants as copies
use Rattle.om_scope_tree.specs.declared.resolved.LocalVariable.{LocalVariable}
use Rattle.om_scope_tree.specs.declared.resolved.StandAlone as alone
use Rattle.om_scope_tree.specs.declared.resolved.StandAlone.TheVariants as alones
use Rattle.om_scope_tree.specs.declared.resolved.Taking.{Taking}
use Rattle.om_scope_tree.specs.declared.resolved.Taking.TheVariants as takings
use Rattle.om_scope_tree.specs.declared.resolved.Variable as variables
use Rattle.om_scope_tree.specs.declared.resolved.Variable.TheVariants as named
use Rattle.om_scope_tree.specs.Captures.{variable_uses, expression_uses, perhaps_uses, clause_uses, captured_variable}
use Rattle.om_scope_tree.specs.ResolvedTree.{ResolvedExpressionTree, ResolvedDeclaratorTree, ResolvedClauseTree}
use Rattle.om_scope_tree.specs.ResolvedTree.{ClauseValue, Shared, Copied, ResolvedLoopTree, ResolvedStartTree}
use Rattle.om_scope_tree.specs.ResolvedTree.{StartNothing, StartExpression, StartDeclaration, ResolvedStatementTree}
use Rattle.om_scope_tree.specs.ResolvedTree.{ResolvedTree}
use Rattle.om_scope_tree.specs.Whole.{Around, Admitted, IsWholeIfAny, AreWholeDeclarators, IsWholeStart, IsWholeReturn}
use Rattle.om_scope_tree.specs.Whole.{AreWholeClauses, IsWholeClause, IsWholeTarget, IsWholeUpdate, IsWholeLoop}
use Rattle.om_scope_tree.specs.Whole.{IsWholeStatement}
use Rattle.om_scope_tree.specs.Whole as whole
use Rattle.om_lower_rules.specs.Bodies.{region_variables}
use Rattle.om_lower_rules.specs.Expressions.{value, effect}
use Rattle.om_lower_rules.specs.Mentions.{format_mention, perhaps_mentioned, declarator_mentioned, start_mentioned}
use Rattle.om_lower_rules.specs.Mentions.{clause_mentioned}
use Rattle.om_lower_rules.specs.Rows.{Site, Row, given, perhaps, each}
use Rattle.om_lower_rules.specs.Slots.{FirstCopy, clause_first, capture_first, taken_first, first_copies, first_copy_at}
use Rattle.om_lower_rules.specs.Slots.{by_slots, region_uses, place, slot, declarator_sights, start_sights, clause_sights}
use Rattle.om_lower_rules.specs.Slots.{region_clause_sights}
use Rattle.om_lower_rules.specs.Statements.{jump, declared, declarator, start, test, returned, copy_start, clause_start}
use Rattle.om_lower_rules.specs.Statements.{starts, reduction_start, reduction_starts, combine_copy, combine_clause}
use Rattle.om_lower_rules.specs.Statements.{reductions}
use Rattle.om_lower_rules.specs.Statements.{clause_value, given_copies, load_original, worksharing_end, alone_row, filter_row}
use Rattle.om_lower_rules.specs.Statements.{single_row, masked_row, lock_number, critical_row, updated, group_row, loop_rest}
use Rattle.om_lower_rules.specs.Statements.{parallel_row, task_row}
use Rattle.om_lower_rules.proofs.Named.{Named, named_end, named_ins, named_part, Has, has_front, has_back}
use Rattle.om_lower_rules.proofs.NamedExpressions as expressions
use Rattle.om_lower_rules.proofs.NamedExpressions.{Program}

-- what a copy begins with exists
abbrev pub CopyKnown : Raw → Site → List Slot → FirstCopy → Type 0
CopyKnown raw at slots copy = IsKnownPlace raw.globals slots (place at copy.original)

module _ (tree : ResolvedTree) (raw : Raw) (at : Site) (slots : List Slot) (program : Program tree raw at slots) where
  abbrev pub Names : Row → Type 0
  Names r = (p q : ℕ) → r p q → Named raw slots at.code p q

  -- it is among the slots of the body, or the formats of the program
  abbrev pub Slots : List ℕ → Type 0
  Slots xs = Has nat_eq at.slots xs

  abbrev pub Formats : List (List ℕ) → Type 0
  Formats xs = Has bytes_eq at.formats xs

  -- what stands round a part is of this program
  abbrev pub IsHere : Around → Type 0
  IsHere around = (around.globals ≡ tree.globals) × (around.functions ≡ tree.functions)

  pub slots_front : (xs ys : List ℕ) → Slots (xs ++ ys) → Slots xs
  slots_front xs ys h = has_front nat_eq at.slots xs ys h

  pub slots_back : (xs ys : List ℕ) → Slots (xs ++ ys) → Slots ys
  slots_back xs ys h = has_back nat_eq at.slots xs ys h

  pub formats_front : (xs ys : List (List ℕ)) → Formats (xs ++ ys) → Formats xs
  formats_front xs ys h = has_front bytes_eq at.formats xs ys h

  pub formats_back : (xs ys : List (List ℕ)) → Formats (xs ++ ys) → Formats ys
  formats_back xs ys h = has_back bytes_eq at.formats xs ys h

  pub value_named : (e : ResolvedExpressionTree) (l : ℕ) (around : Around) → IsHere around → whole.IsWhole around
      true e → Slots (expression_uses e)
      → Formats (format_mention.in_expression e) → Names (value at l e)
  value_named e l around g w s t = expressions.value_names tree raw at slots program e l around true g.0 g.1 w s t

  -- ---- declarations, and the heads of loops

  declared_names : (l : ℕ) (x : LocalVariable) (e : Option ResolvedExpressionTree) (around : Around) → IsHere around
      → IsWholeIfAny around true e
      → list_any (nat_eq x.at) at.slots ≡ true → Slots (perhaps_uses e)
      → Formats (perhaps_mentioned format_mention e) → Names (declared at l x e)
  declared_names l x None around g w here s t p q r = named_ins r (expressions.slot_there tree raw at slots program
      x.at here) named_end
  declared_names l x (Some e) around g w here s t p q r =
      named_part r (value_named e l around g w s t p)
      (λ m r. named_ins r (expressions.slot_there tree raw at slots program x.at here) named_end)

  pub declarators_names : (l : ℕ) (ds : List ResolvedDeclaratorTree) (around : Around) → IsHere around
      → AreWholeDeclarators around ds
      → Slots (flat_map declarator_sights ds) → Formats (flat_map (declarator_mentioned format_mention) ds)
      → Names (each (declarator at l) ds)
  declarators_names l [] around g w s t p q r = named_end r
  declarators_names l (d ∷ ds) around g w s t p q r =
      named_part r
      (declared_names l d.variable d.initial (whole.declared around d) g w.1 s.0
      (slots_front (perhaps_uses d.initial) (flat_map declarator_sights ds) s.1)
      (formats_front (perhaps_mentioned format_mention d.initial) (flat_map (declarator_mentioned format_mention)
      ds) t) p)
      (λ m r. declarators_names l ds (whole.declared around d) g w.2
      (slots_back (perhaps_uses d.initial) (flat_map declarator_sights ds) s.1)
      (formats_back (perhaps_mentioned format_mention d.initial) (flat_map (declarator_mentioned format_mention) ds)
      t) m q r)

  pub start_names : (l : ℕ) (s : ResolvedStartTree) (around : Around) → IsHere around → IsWholeStart around s
      → Slots (start_sights s)
      → Formats (start_mentioned format_mention s) → Names (start at l s)
  start_names l StartNothing around g w s t p q r = named_end r
  start_names l (StartExpression e) around g w s t p q r = expressions.effect_names tree raw at slots program e l
      around g.0 g.1 w s t p q r
  start_names l (StartDeclaration ds) around g w s t p q r = declarators_names l ds around g w s t p q r

  pub test_names : (l f : ℕ) (e : Option ResolvedExpressionTree) (around : Around) → IsHere around
      → IsWholeIfAny around true e → Slots (perhaps_uses e)
      → Formats (perhaps_mentioned format_mention e) → Names (perhaps (test at l f) e)
  test_names l f None around g w s t p q r = named_end r
  test_names l f (Some e) around g w s t p q r = named_part r (value_named e l around g w s t p)
      (λ m r. named_ins r tt named_end)

  pub step_names : (l : ℕ) (e : Option ResolvedExpressionTree) (around : Around) → IsHere around
      → IsWholeIfAny around false e → Slots (perhaps_uses e)
      → Formats (perhaps_mentioned format_mention e) → Names (perhaps (effect at l) e)
  step_names l None around g w s t p q r = named_end r
  step_names l (Some e) around g w s t p q r = expressions.effect_names tree raw at slots program e l around g.0 g.1
      w s t p q r

  pub returned_names : (l : ℕ) (is_main : Bool) (e : Option ResolvedExpressionTree) (around : Around)
      → IsHere around → IsWholeReturn around e
      → Slots (perhaps_uses e) → Formats (perhaps_mentioned format_mention e) → Names (returned at l is_main e)
  returned_names l true None around g w s t p q r = named_ins r tt named_end
  returned_names l true (Some e) around g w s t p q r = named_part r (value_named e l around g w.1 s t p)
      (λ m r. named_ins r tt named_end)
  returned_names l false None around g w s t p q r = named_ins r tt named_end
  returned_names l false (Some e) around g w s t p q r = named_part r (value_named e l around g w.1 s t p)
      (λ m r. named_ins r tt named_end)

  pub jump_names : (l : ℕ) (to : Option ℕ) → Names (given to (jump at l))
  jump_names l None p q r = absurd r
  jump_names l (Some f) p q r = named_ins r tt named_end

  -- ---- clauses

  pub slot_known : (x : LocalVariable) → list_any (nat_eq x.at) at.slots ≡ true → slot at x < length slots
  slot_known x here = expressions.slot_there tree raw at slots program x.at here

  copy_start_names : (l : ℕ) (kind : CopyKind) (x : variables.Variable) (copy : LocalVariable) (around : Around)
      → IsHere around
      → whole.IsWholeCopy around kind x → Slots (clause_sights (Copied kind x copy))
      → Names (copy_start at l kind x copy)
  copy_start_names l copies.Private x copy around g w s p q r = named_ins r (slot_known copy s.0) named_end
  copy_start_names l copies.Firstprivate x copy around g w s p q r =
      named_ins r (expressions.place_there tree raw at slots program around _ x g.0 w
      (slots_front (variable_uses x) (copy.at ∷ []) s))
      (λ r. named_ins r (slot_known copy (slots_back (variable_uses x) (copy.at ∷ []) s).0) named_end)
  copy_start_names l (copies.Reduction o) x copy around g w s p q r =
      named_ins r tt (λ r. named_ins r (slot_known copy (slots_back (variable_uses x) (copy.at ∷ []) s).0) named_end)

  clause_start_names : (l : ℕ) (clause : ResolvedClauseTree) (around : Around) (admitted : Admitted) → IsHere around
      → IsWholeClause around admitted clause → Slots (clause_sights clause) → Names (clause_start at l clause)
  clause_start_names l (ClauseValue kind e) around admitted g w s p q r = named_end r
  clause_start_names l (Shared x) around admitted g w s p q r = named_end r
  clause_start_names l (Copied kind x copy) around admitted g w s p q r = copy_start_names l kind x copy around g
      w.1 s p q r

  pub starts_names : (l : ℕ) (clauses : List ResolvedClauseTree) (around : Around) (admitted : Admitted) → IsHere around
      → AreWholeClauses around admitted clauses → Slots (flat_map clause_sights clauses) → Names (starts at l clauses)
  starts_names l [] around admitted g w s p q r = named_end r
  starts_names l (c ∷ cs) around admitted g w s p q r =
      named_part r
      (clause_start_names l c around admitted g (All-head (IsWholeClause around admitted) c cs w)
      (slots_front (clause_sights c) (flat_map clause_sights cs) s) p)
      (λ m r. starts_names l cs around admitted g (All-tail (IsWholeClause around admitted) c cs w)
      (slots_back (clause_sights c) (flat_map clause_sights cs) s) m q r)

  reduction_start_names : (l : ℕ) (kind : CopyKind) (x : variables.Variable) (copy : LocalVariable)
      → Slots (region_clause_sights (Copied kind x copy))
      → Names (reduction_start at l kind x copy)
  reduction_start_names l copies.Private x copy s p q r = named_end r
  reduction_start_names l copies.Firstprivate x copy s p q r = named_end r
  reduction_start_names l (copies.Reduction o) x copy s p q r =
      named_ins r tt (λ r. named_ins r (slot_known copy (slots_back (variable_uses x) (copy.at ∷ []) s).0) named_end)

  pub reduction_starts_names : (l : ℕ) (clauses : List ResolvedClauseTree)
      → Slots (flat_map region_clause_sights clauses) → Names (reduction_starts at l clauses)
  reduction_starts_names l [] s p q r = named_end r
  reduction_starts_names l (ClauseValue kind e ∷ cs) s p q r = named_part r (λ m r. named_end r)
      (λ m r. reduction_starts_names l cs s m q r)
  reduction_starts_names l (Shared x ∷ cs) s p q r =
      named_part r (λ m r. named_end r) (λ m r. reduction_starts_names l cs
      (slots_back (variable_uses x) (flat_map region_clause_sights cs) s) m q r)
  reduction_starts_names l (Copied kind x copy ∷ cs) s p q r =
      named_part r (reduction_start_names l kind x copy (slots_front (region_clause_sights (Copied kind x copy))
      (flat_map region_clause_sights cs) s) p)
      (λ m r. reduction_starts_names l cs (slots_back (region_clause_sights (Copied kind x copy))
      (flat_map region_clause_sights cs) s) m q r)

  combine_copy_names : (l : ℕ) (kind : CopyKind) (x : variables.Variable) (copy : LocalVariable) (around : Around)
      → IsHere around
      → whole.IsWholeCopy around kind x → Slots (region_clause_sights (Copied kind x copy))
      → Names (combine_copy at l kind x copy)
  combine_copy_names l copies.Private x copy around g w s p q r = named_end r
  combine_copy_names l copies.Firstprivate x copy around g w s p q r = named_end r
  combine_copy_names l (copies.Reduction o) x copy around g w s p q r =
      named_ins r (
        slot_known copy (slots_back (variable_uses x) (copy.at ∷ []) s).0,
        expressions.place_there tree raw at slots program around _ x g.0 w
            (slots_front (variable_uses x) (copy.at ∷ []) s),
      )
      named_end

  combine_clause_names : (l : ℕ) (clause : ResolvedClauseTree) (around : Around) (admitted : Admitted) → IsHere around
      → IsWholeClause around admitted clause → Slots (region_clause_sights clause) → Names (combine_clause at l clause)
  combine_clause_names l (ClauseValue kind e) around admitted g w s p q r = named_end r
  combine_clause_names l (Shared x) around admitted g w s p q r = named_end r
  combine_clause_names l (Copied kind x copy) around admitted g w s p q r = combine_copy_names l kind x copy around g
      w.1 s p q r

  pub reductions_names : (l : ℕ) (clauses : List ResolvedClauseTree) (around : Around) (admitted : Admitted)
      → IsHere around
      → AreWholeClauses around admitted clauses → Slots (flat_map region_clause_sights clauses)
      → Names (reductions at l clauses)
  reductions_names l [] around admitted g w s p q r = named_end r
  reductions_names l (c ∷ cs) around admitted g w s p q r =
      named_part r
      (combine_clause_names l c around admitted g (All-head (IsWholeClause around admitted) c cs w)
      (slots_front (region_clause_sights c) (flat_map region_clause_sights cs) s) p)
      (λ m r. reductions_names l cs around admitted g (All-tail (IsWholeClause around admitted) c cs w)
      (slots_back (region_clause_sights c) (flat_map region_clause_sights cs) s) m q r)

  -- what a construct sees of its clauses, a region sees of them too
  pub region_sights : (clauses : List ResolvedClauseTree) → Slots (flat_map clause_sights clauses)
      → Slots (flat_map region_clause_sights clauses)
  region_sights [] s = tt
  region_sights (ClauseValue kind e ∷ cs) s = region_sights cs
      (slots_back (expression_uses e) (flat_map clause_sights cs) s)
  region_sights (Shared (named.Local x) ∷ cs) s = (s.0, region_sights cs s.1)
  region_sights (Shared (named.Global n) ∷ cs) s = region_sights cs s
  region_sights (Copied copies.Private x copy ∷ cs) s = (s.0, region_sights cs s.1)
  region_sights (Copied copies.Firstprivate (named.Local x) copy ∷ cs) s = (s.1.0, region_sights cs s.1.1)
  region_sights (Copied copies.Firstprivate (named.Global n) copy ∷ cs) s = (s.0, region_sights cs s.1)
  region_sights (Copied (copies.Reduction o) (named.Local x) copy ∷ cs) s = (s.0, (s.1.0, region_sights cs s.1.1))
  region_sights (Copied (copies.Reduction o) (named.Global n) copy ∷ cs) s = (s.0, region_sights cs s.1)

  -- the value of `num_threads` or `filter`, by what is used of each clause
  pub clause_value_named : (l : ℕ) (clauses : List ResolvedClauseTree) (around : Around) (admitted : Admitted)
      (uses : ResolvedClauseTree → List ℕ)
      → ((kind : ValueClause) (e : ResolvedExpressionTree) → uses (ClauseValue kind e) ≡ expression_uses e)
      → IsHere around
      → AreWholeClauses around admitted clauses → Slots (flat_map uses clauses)
      → Formats (flat_map (clause_mentioned format_mention) clauses)
      → (e : ResolvedExpressionTree) → clause_value clauses ≡ Some e → Names (value at l e)
  clause_value_named l [] around admitted uses same g w s t e is p q r = absurd cc
  clause_value_named l (ClauseValue kind x ∷ cs) around admitted uses same g w s t e is p q r =
      let found : x ≡ e = cc is in
      value_named e l around g
      (subst (λ z. whole.IsWhole around true z) found (All-head (IsWholeClause around admitted) (ClauseValue kind x)
      cs w).1)
      (subst (λ z. Slots (expression_uses z)) found
      (subst Slots (same kind x) (slots_front (uses (ClauseValue kind x)) (flat_map uses cs) s)))
      (subst (λ z. Formats (format_mention.in_expression z)) found
      (formats_front (format_mention.in_expression x) (flat_map (clause_mentioned format_mention) cs) t))
      p q r
  clause_value_named l (Shared x ∷ cs) around admitted uses same g w s t e is p q r =
      clause_value_named l cs around admitted uses same g (All-tail (IsWholeClause around admitted) (Shared x) cs w)
      (slots_back (uses (Shared x)) (flat_map uses cs) s) t e is p q r
  clause_value_named l (Copied kind x copy ∷ cs) around admitted uses same g w s t e is p q r =
      clause_value_named l cs around admitted uses same g (All-tail (IsWholeClause around admitted)
      (Copied kind x copy) cs w)
      (slots_back (uses (Copied kind x copy)) (flat_map uses cs) s) t e is p q r

  -- ---- ends and directives that stand alone

  pub end_names : (l : ℕ) (nowait : Bool) → Names (worksharing_end at l nowait)
  end_names l true p q r = named_ins r tt named_end
  end_names l false p q r = named_ins r tt (λ r. named_ins r tt (λ r. named_ins r tt named_end))

  pub alone_names : (l : ℕ) (directive : alone.StandAlone) → Names (alone_row at l directive)
  alone_names l alones.Barrier p q r = named_ins r tt (λ r. named_ins r tt named_end)
  alone_names l alones.Taskwait p q r = named_ins r tt (λ r. named_ins r tt named_end)
  alone_names l alones.Taskyield p q r = named_ins r tt named_end
  alone_names l (alones.Flush vs) p q r = named_ins r tt named_end

  pub filter_names : (l : ℕ) (e : Option ResolvedExpressionTree) → ((x : ResolvedExpressionTree) → e ≡ Some x
      → Names (value at l x)) → Names (filter_row at l e)
  filter_names l None f p q r = named_ins r tt named_end
  filter_names l (Some e) f p q r = f e refl p q r

  pub updated_names : (l : ℕ) (x : variables.Variable) (j : Option ResolvedExpressionTree) (o : AtomicOperator)
      (side : Side) (e : ResolvedExpressionTree)
      (around : Around) → IsHere around → IsWholeTarget around x j → whole.IsWhole around true e
      → Slots (variable_uses x ++ (perhaps_uses j ++ expression_uses e))
      → Formats (perhaps_mentioned format_mention j ++ format_mention.in_expression e)
      → Names (updated at l x j o side e)
  updated_names l x None o side e around g w v s t p q r =
      named_part r (value_named e l around g v (slots_back (variable_uses x) (expression_uses e) s) t p)
      (λ m r. named_ins r (expressions.place_there tree raw at slots program around _ x g.0 w
      (slots_front (variable_uses x) (expression_uses e) s)) named_end)
  updated_names l x (Some j) o side e around g w v s t p q r =
      let more = slots_back (variable_uses x) (expression_uses j ++ expression_uses e) s in
      named_part r
      (value_named j l around g w.1 (slots_front (expression_uses j) (expression_uses e) more)
      (formats_front (format_mention.in_expression j) (format_mention.in_expression e) t) p)
      (λ m r. named_part r
      (value_named e l around g v (slots_back (expression_uses j) (expression_uses e) more)
      (formats_back (format_mention.in_expression j) (format_mention.in_expression e) t) m)
      (λ m r. named_ins r
      (expressions.place_there tree raw at slots program around _ x g.0 w.0
      (slots_front (variable_uses x) (expression_uses j ++ expression_uses e) s)) named_end))

  -- ---- constructs

  pub single_names : (l : ℕ) (nowait : Bool) (clauses : List ResolvedClauseTree) (body : Row)
      → Names (starts at l clauses) → Names body
      → Names (single_row at l nowait clauses body)
  single_names l nowait clauses body s b p q r =
      named_ins r.1 tt (λ u. named_part u (s (p + 1)) (λ m u. named_part u (b m) (λ m u. end_names l nowait m q u.1)))

  pub masked_names : (l : ℕ) (clauses : List ResolvedClauseTree) (body : Row)
      → Names (filter_row at l (clause_value clauses)) → Names body
      → Names (masked_row at l clauses body)
  masked_names l clauses body f b p q r =
      named_part r.1 (f p) (λ m u. named_ins u tt
      (λ u. named_part u (b (m + 1)) (λ m u. named_ins u tt (λ u. named_end u.1))))

  pub critical_names : (l : ℕ) (name : Option (List ℕ)) (body : Row) → lock_number at name < length raw.locks
      → Names body → Names (critical_row at l name body)
  critical_names l name body lock b p q r =
      named_ins r lock (λ r. named_ins r lock (λ r. named_part r (b (p + 1 + 1)) (λ m r. named_ins r lock named_end)))

  pub group_names : (l : ℕ) (body : Row) → Names body → Names (group_row at l body)
  group_names l body b p q r = named_ins r tt (λ r. named_part r (b (p + 1)) (λ m r. named_ins r tt named_end))

  pub loop_names : (l : ℕ) (clauses : List ResolvedClauseTree) (nowait : Bool) (loop : ResolvedLoopTree)
      (body : ℕ → Row) (comparison : Option Comparison)
      → Names (value at loop.at.line loop.from) → Names (value at loop.at.line loop.to) → slot at loop.variable <
      length slots
      → Names (starts at l clauses) → Names (reductions at l clauses) → ((next : ℕ) → Names (body next))
      → Names (given comparison (loop_rest at l clauses nowait loop body))
  loop_names l clauses nowait loop body None from to here s c b p q r = absurd r
  loop_names l clauses nowait loop body (Some comparison) from to here s c b p q r =
      named_part r.3 (from p) (λ m u. named_part u (to m) (λ m u. named_part u (s m) (λ m u.
      named_ins u tt (λ u. named_ins u.1 tt (λ u. named_ins u.1 here (λ u.
      named_part u (b r.1 _) (λ m u. named_ins u tt (λ u. named_part u.1 (c _) (λ m u. end_names l nowait m q u)))))))))

  -- ---- regions

  pub loads_names : (l : ℕ) (xs : List FirstCopy)
      → All (λ copy. IsKnownPlace raw.globals slots (place at copy.original)) xs → Names (each (load_original at l) xs)
  loads_names l [] known p q r = named_end r
  loads_names l (x ∷ xs) known p q r =
      named_part r
      (λ m r. named_ins r (All-head (λ (copy : FirstCopy). IsKnownPlace raw.globals slots (place at copy.original))
      x xs known) named_end)
      (λ m r. loads_names l xs
      (All-tail (λ (copy : FirstCopy). IsKnownPlace raw.globals slots (place at copy.original)) x xs known) m q r)

  pub parallel_names : (l body : ℕ) (size : Option ResolvedExpressionTree) (xs : List FirstCopy)
      → ((e : ResolvedExpressionTree) → size ≡ Some e → Names (value at l e)) → Names (each (load_original at l) xs)
      → IsKnownBody raw.bodies slots body (length xs) → Names (parallel_row at l body size xs)
  parallel_names l body None xs f loads known p q r =
      named_part r (λ m r. named_end r) (λ m r. named_part r (loads m) (λ m r. named_ins r known named_end))
  parallel_names l body (Some e) xs f loads known p q r =
      named_part r (f e refl p) (λ m r. named_part r (loads m) (λ m r. named_ins r known named_end))

  pub task_names : (l body : ℕ) (xs : List FirstCopy) → Names (each (load_original at l) xs)
      → IsKnownBody raw.bodies slots body (length xs)
      → Names (task_row at l body xs)
  task_names l body xs loads known p q r = named_part r (loads p) (λ m r. named_ins r known named_end)

  copy_at_known : (xs : List FirstCopy) (variable : ℕ) → All (CopyKnown raw at slots) xs
      → All (CopyKnown raw at slots) (first_copy_at xs variable)
  copy_at_known [] variable known = All-nil (CopyKnown raw at slots)
  copy_at_known (x ∷ xs) variable known = chosen (nat_eq x.variable variable)
      (copy_at_known xs variable (All-tail (CopyKnown raw at slots) x xs known))
    where
      chosen : (b : Bool) → All (CopyKnown raw at slots) (first_copy_at xs variable) → All (CopyKnown raw at slots)
          (if b then x ∷ [] else first_copy_at xs variable)
      chosen true rest = All-cons (CopyKnown raw at slots) x [] (All-head (CopyKnown raw at slots) x xs known)
          (All-nil (CopyKnown raw at slots))
      chosen false rest = rest

  by_slots_known : (order : List ℕ) (xs : List FirstCopy) → All (CopyKnown raw at slots) xs
      → All (CopyKnown raw at slots) (by_slots order xs)
  by_slots_known [] xs known = All-nil (CopyKnown raw at slots)
  by_slots_known (x ∷ order) xs known =
      All-append (CopyKnown raw at slots) (first_copy_at xs x) (by_slots order xs) (copy_at_known xs x known)
      (by_slots_known order xs known)

  clause_copies_known : (clauses : List ResolvedClauseTree) (around : Around) (admitted : Admitted) → IsHere around
      → AreWholeClauses around admitted clauses
      → Slots (flat_map clause_uses clauses) → All (CopyKnown raw at slots) (flat_map clause_first clauses)
  clause_copies_known [] around admitted g w s = All-nil (CopyKnown raw at slots)
  clause_copies_known (ClauseValue kind e ∷ cs) around admitted g w s =
      clause_copies_known cs around admitted g (All-tail (IsWholeClause around admitted) (ClauseValue kind e) cs w)
      (slots_back (expression_uses e) (flat_map clause_uses cs) s)
  clause_copies_known (Shared x ∷ cs) around admitted g w s =
      clause_copies_known cs around admitted g (All-tail (IsWholeClause around admitted) (Shared x) cs w)
      (slots_back (variable_uses x) (flat_map clause_uses cs) s)
  clause_copies_known (Copied copies.Private x copy ∷ cs) around admitted g w s =
      clause_copies_known cs around admitted g (All-tail (IsWholeClause around admitted)
      (Copied copies.Private x copy) cs w) s
  clause_copies_known (Copied copies.Firstprivate x copy ∷ cs) around admitted g w s =
      All-cons (CopyKnown raw at slots) _ (flat_map clause_first cs)
      (expressions.place_there tree raw at slots program around _ x g.0 (All-head (IsWholeClause around admitted)
      (Copied copies.Firstprivate x copy) cs w).1
      (slots_front (variable_uses x) (flat_map clause_uses cs) s))
      (clause_copies_known cs around admitted g (All-tail (IsWholeClause around admitted)
      (Copied copies.Firstprivate x copy) cs w)
      (slots_back (variable_uses x) (flat_map clause_uses cs) s))
  clause_copies_known (Copied (copies.Reduction o) x copy ∷ cs) around admitted g w s =
      clause_copies_known cs around admitted g (All-tail (IsWholeClause around admitted)
      (Copied (copies.Reduction o) x copy) cs w)
      (slots_back (variable_uses x) (flat_map clause_uses cs) s)

  taken_known : (taking : Taking) (x : ℕ) → list_any (nat_eq x) at.slots ≡ true → All (CopyKnown raw at slots)
      (taken_first taking x)
  taken_known takings.Shared x here = All-nil (CopyKnown raw at slots)
  taken_known takings.Firstprivate x here =
      All-cons (CopyKnown raw at slots) _ [] (expressions.slot_there tree raw at slots program x here)
      (All-nil (CopyKnown raw at slots))

  captures_known : (captures : List Capture) → Slots (map captured_variable captures) → All (CopyKnown raw at slots)
      (flat_map capture_first captures)
  captures_known [] s = All-nil (CopyKnown raw at slots)
  captures_known (c ∷ cs) s =
      All-append (CopyKnown raw at slots) (capture_first c) (flat_map capture_first cs)
      (taken_known c.taking c.variable s.0) (captures_known cs s.1)

  -- what a region copies as it begins is loaded from places that exist
  pub copies_known : (clauses : List ResolvedClauseTree) (captures : List Capture) (s : ResolvedStatementTree)
      (around : Around) (admitted : Admitted) → IsHere around
      → AreWholeClauses around admitted clauses → Slots (region_uses clauses captures)
      → All (CopyKnown raw at slots) (given_copies clauses captures s)
  copies_known clauses captures s around admitted g w v =
      by_slots_known (region_variables clauses s) (first_copies clauses captures)
      (All-append (CopyKnown raw at slots) (flat_map clause_first clauses) (flat_map capture_first captures)
      (clause_copies_known clauses around admitted g w (slots_front (flat_map clause_uses clauses)
      (map captured_variable captures) v))
      (captures_known captures (slots_back (flat_map clause_uses clauses) (map captured_variable captures) v)))
