-- Which variables the instructions of clauses and directives name, and how many they are.
use Rattle.std.proofs.Common.{ℕ, ◌+◌, Bool, true, false, List, [], ◌∷◌, Option, None}
use Rattle.std.proofs.Common.{Some}
use Rattle.om_code.specs.declared.instruction.AtomicOperator.{AtomicOperator}
use Rattle.om_code.specs.declared.instruction.Side.{Side}
use Rattle.om_scope_tree.specs.declared.resolved.CopyKind.TheVariants as copies
use Rattle.om_scope_tree.specs.declared.resolved.StandAlone as alone
use Rattle.om_scope_tree.specs.declared.resolved.StandAlone.TheVariants as alones
use Rattle.om_scope_tree.specs.declared.resolved.Variable.{Variable}
use Rattle.om_scope_tree.specs.ResolvedTree.{ResolvedExpressionTree, ResolvedClauseTree, ClauseValue, Shared, Copied}
use Rattle.om_lower_rules.specs.Rows.{Row, Site}
use Rattle.om_lower_rules.specs.Statements.{alone_row, closes, combine_clause}
use Rattle.om_lower_rules.specs.Statements.{filter_row}
use Rattle.om_lower_rules.specs.Statements.{reductions}
use Rattle.om_lower_rules.specs.Statements.{updated, worksharing_end}
use Rattle.om_name_laws.specs.Sees.{EachUse, EachUseIfAny}
use Rattle.om_name_laws.proofs.Runs.{Runs, Named}
use Rattle.om_name_laws.proofs.Runs.{runs_end, runs_ins, runs_part, this}
use Rattle.om_name_laws.proofs.Runs.{value_ran, value_size}
use Rattle.std.proofs.Common.{◌++◌, nat_eq, flat_map}
use Rattle.std.specs.Prelude.{if◌then◌else◌}
use Rattle.om_scope_tree.specs.declared.resolved.Capture.{Capture}
use Rattle.om_lower_rules.specs.Rows.{each}
use Rattle.om_lower_rules.specs.Slots.{FirstCopy, by_slots, capture_first, clause_first, first_copies, first_copy_at}
use Rattle.om_lower_rules.specs.Statements.{load_original, parallel_row, task_row}
use Rattle.om_name_laws.proofs.Runs.{perhaps_value_ran, value_count}

module _ (at : Site) (P : Variable → Type 0) where
  abbrev pub RanRow : ℕ → Row → Type 0
  RanRow n r = (p q : ℕ) → r p q → Runs at.code (Named at P) p n q

  abbrev pub reduction_size : ResolvedClauseTree → ℕ
  reduction_size (ClauseValue kind e) = 0
  reduction_size (Shared x) = 0
  reduction_size (Copied copies.Private x copy) = 0
  reduction_size (Copied copies.Firstprivate x copy) = 0
  reduction_size (Copied (copies.Reduction o) x copy) = 1

  abbrev pub reductions_size : List ResolvedClauseTree → ℕ
  reductions_size [] = 0
  reductions_size (c ∷ cs) = reduction_size c + reductions_size cs

  reduction_ran : (l : ℕ) (c : ResolvedClauseTree) → RanRow (reduction_size c) (combine_clause at l c)
  reduction_ran l (ClauseValue kind e) p q r = runs_end r
  reduction_ran l (Shared x) p q r = runs_end r
  reduction_ran l (Copied copies.Private x copy) p q r = runs_end r
  reduction_ran l (Copied copies.Firstprivate x copy) p q r = runs_end r
  reduction_ran l (Copied (copies.Reduction o) x copy) p q r = runs_ins r tt runs_end

  pub reductions_ran : (l : ℕ) (cs : List ResolvedClauseTree) → RanRow (reductions_size cs) (reductions at l cs)
  reductions_ran l [] p q r = runs_end r
  reductions_ran l (c ∷ cs) p q r = runs_part r (reduction_ran l c p) (λ m r. reductions_ran l cs m q r)

  abbrev pub end_size : Bool → ℕ
  end_size true = 1
  end_size false = 3

  pub end_ran : (l : ℕ) (nowait : Bool) → RanRow (end_size nowait) (worksharing_end at l nowait)
  end_ran l true p q r = runs_ins r tt runs_end
  end_ran l false p q r = runs_ins r tt (λ r. runs_ins r tt (λ r. runs_ins r tt runs_end))

  pub closes_ran : (l : ℕ) (cs : List ResolvedClauseTree) (nowait : Bool)
      → RanRow (reductions_size cs + end_size nowait) (closes at l cs nowait)
  closes_ran l cs nowait p q r = runs_part r (reductions_ran l cs p) (λ m r. end_ran l nowait m q r)

  abbrev pub alone_size : alone.StandAlone → ℕ
  alone_size alones.Barrier = 2
  alone_size alones.Taskwait = 2
  alone_size alones.Taskyield = 1
  alone_size (alones.Flush vs) = 1

  pub alone_ran : (l : ℕ) (d : alone.StandAlone) → RanRow (alone_size d) (alone_row at l d)
  alone_ran l alones.Barrier p q r = runs_ins r tt (λ r. runs_ins r tt runs_end)
  alone_ran l alones.Taskwait p q r = runs_ins r tt (λ r. runs_ins r tt runs_end)
  alone_ran l alones.Taskyield p q r = runs_ins r tt runs_end
  alone_ran l (alones.Flush vs) p q r = runs_ins r tt runs_end

  abbrev pub filter_size : Option ResolvedExpressionTree → ℕ
  filter_size None = 1
  filter_size (Some e) = value_size e

  pub filter_ran : (l : ℕ) (e : Option ResolvedExpressionTree) → EachUseIfAny P e
      → RanRow (filter_size e) (filter_row at l e)
  filter_ran l None u p q r = runs_ins r tt runs_end
  filter_ran l (Some e) u p q r = value_ran at P l e u p q r

  abbrev pub update_size : Option ResolvedExpressionTree → ResolvedExpressionTree → ℕ
  update_size None e = value_size e + 1
  update_size (Some j) e = value_size j + (value_size e + 1)

  pub update_ran : (l : ℕ) (x : Variable) (j : Option ResolvedExpressionTree) (o : AtomicOperator) (side : Side)
      (e : ResolvedExpressionTree) → P x → EachUseIfAny P j → EachUse P e
      → RanRow (update_size j e) (updated at l x j o side e)
  update_ran l x None o side e h u w p q r =
      runs_part r (value_ran at P l e w p) (λ m r. runs_ins r (this at P x h) runs_end)
  update_ran l x (Some j) o side e h u w p q r =
      runs_part r (value_ran at P l j u p) (λ m r. runs_part r (value_ran at P l e w m)
      (λ m r. runs_ins r (this at P x h) runs_end))

  -- ---- regions, in the body that meets them

  abbrev pub OriginalsOf : List FirstCopy → Type 0
  OriginalsOf [] = Unit {0}
  OriginalsOf (c ∷ cs) = P c.original × OriginalsOf cs

  originals_both : (xs ys : List FirstCopy) → OriginalsOf xs → OriginalsOf ys → OriginalsOf (xs ++ ys)
  originals_both [] ys h g = g
  originals_both (x ∷ xs) ys h g = (h.0, originals_both xs ys h.1 g)

  original_at : (xs : List FirstCopy) (slot : ℕ) → OriginalsOf xs → OriginalsOf (first_copy_at xs slot)
  original_at [] slot h = tt
  original_at (x ∷ xs) slot h = either (nat_eq x.variable slot) (original_at xs slot h.1)
    where
      either : (b : Bool) → OriginalsOf (first_copy_at xs slot)
          → OriginalsOf (if b then x ∷ [] else first_copy_at xs slot)
      either true g = (h.0, tt)
      either false g = g

  pub originals_by : (slots : List ℕ) (xs : List FirstCopy) → OriginalsOf xs → OriginalsOf (by_slots slots xs)
  originals_by [] xs h = tt
  originals_by (slot ∷ slots) xs h =
      originals_both (first_copy_at xs slot) (by_slots slots xs) (original_at xs slot h) (originals_by slots xs h)

  pub originals_first : (cs : List ResolvedClauseTree) (ts : List Capture)
      → OriginalsOf (flat_map clause_first cs) → OriginalsOf (flat_map capture_first ts)
      → OriginalsOf (first_copies cs ts)
  originals_first cs ts h g = originals_both (flat_map clause_first cs) (flat_map capture_first ts) h g

  abbrev pub loads_size : List FirstCopy → ℕ
  loads_size [] = 0
  loads_size (x ∷ xs) = 1 + loads_size xs

  pub loads_ran : (l : ℕ) (xs : List FirstCopy) → OriginalsOf xs → RanRow (loads_size xs) (each (load_original at l) xs)
  loads_ran l [] h p q r = runs_end r
  loads_ran l (x ∷ xs) h p q r =
      runs_part r (λ m r. runs_ins r (this at P x.original h.0) runs_end) (λ m r. loads_ran l xs h.1 m q r)

  pub parallel_ran : (l b : ℕ) (size : Option ResolvedExpressionTree) (xs : List FirstCopy) → EachUseIfAny P size
      → OriginalsOf xs → RanRow (value_count at P size + (loads_size xs + 1)) (parallel_row at l b size xs)
  parallel_ran l b size xs u h p q r =
      runs_part r (perhaps_value_ran at P l size u p) (λ m r. runs_part r (loads_ran l xs h m)
      (λ m r. runs_ins r tt runs_end))

  pub task_ran : (l b : ℕ) (xs : List FirstCopy) → OriginalsOf xs → RanRow (loads_size xs + 1) (task_row at l b xs)
  task_ran l b xs h p q r = runs_part r (loads_ran l xs h p) (λ m r. runs_ins r tt runs_end)
