-- What holds of the variables of every body holds of those of the body round each.
use Rattle.std.proofs.Common.{◌≡◌, ◌≤◌, ℕ, List, [], All, length, refl, arith}
use Rattle.std.proofs.lemmas.List.Elements.{All-nil, All-cons, All-head, All-tail, All-append}
use Rattle.om_lower.specs.Limits.{HasFewSlots}
use Rattle.om_lower.proofs.FunctionBodies.{all_behind, all_front}
use Rattle.om_scope_tree.specs.ResolvedTree.{ResolvedStatementTree, Declaration, Block, Empty, Expression, If, IfElse}
use Rattle.om_scope_tree.specs.ResolvedTree.{While, Do, For, Return, Break, Continue, Region, Loop, Sections}
use Rattle.om_scope_tree.specs.ResolvedTree.{Construct, Update, StandAlone, ResolvedStatementsTree, NoStatements}
use Rattle.om_scope_tree.specs.ResolvedTree.{Statement, ResolvedPartsTree, NoParts, Part, ResolvedFunctionTree}
use Rattle.om_lower_rules.specs.Bodies.{BodySite, FunctionBody, Numbers, RegionBody, all_regions, behind}
use Rattle.om_lower_rules.specs.Bodies.{behind_all, function_bodies, function_variables, next_body, next_pick, parts_regions}
use Rattle.om_lower_rules.specs.Bodies.{region_variables, regions}

-- a body of this function, with few slots in the body round it
abbrev pub IsRound : ResolvedFunctionTree → BodySite → Type 0
IsRound f b = (b.function ≡ f) × (length b.outer ≤ 256)

mutual
  unfolding regions all_regions parts_regions

  round_in : (f : ResolvedFunctionTree) (outer : List ℕ) (n : Numbers) (s : ResolvedStatementTree)
      → length outer ≤ 256 → All HasFewSlots (regions f outer n s) → All (IsRound f) (regions f outer n s)
  round_in f outer n (Declaration at ds) le few = All-nil (IsRound f)
  round_in f outer n (Block at items) le few = round_all f outer n items le few
  round_in f outer n (Empty at) le few = All-nil (IsRound f)
  round_in f outer n (Expression at e) le few = All-nil (IsRound f)
  round_in f outer n (If at c s) le few = round_in f outer n s le few
  round_in f outer n (IfElse at c s t) le few =
      All-append (IsRound f) (regions f outer n s) (regions f outer (behind n s) t)
      (round_in f outer n s le (all_front HasFewSlots (regions f outer n s) _ few))
      (round_in f outer (behind n s) t le (all_behind HasFewSlots (regions f outer n s) _ few))
  round_in f outer n (While at c s) le few = round_in f outer n s le few
  round_in f outer n (Do at s c) le few = round_in f outer n s le few
  round_in f outer n (For at start condition step s) le few = round_in f outer n s le few
  round_in f outer n (Return at value) le few = All-nil (IsRound f)
  round_in f outer n (Break at) le few = All-nil (IsRound f)
  round_in f outer n (Continue at) le few = All-nil (IsRound f)
  round_in f outer n (Region at kind clauses captures s) le few =
      let here : BodySite = record {
        function = f;
        tree = RegionBody at kind clauses captures s;
        outer = outer;
        numbers = next_body n;
      } in
      let inner = regions f (region_variables clauses s) (next_body n) s in
      All-cons (IsRound f) here inner (refl, le)
      (round_in f (region_variables clauses s) (next_body n) s (All-head HasFewSlots here inner few)
      (All-tail HasFewSlots here inner few))
  round_in f outer n (Loop at clauses nowait l s) le few = round_in f outer n s le few
  round_in f outer n (Sections at clauses nowait parts) le few = round_parts f outer (next_pick n) parts le few
  round_in f outer n (Construct at kind clauses s) le few = round_in f outer n s le few
  round_in f outer n (Update at u) le few = All-nil (IsRound f)
  round_in f outer n (StandAlone at directive) le few = All-nil (IsRound f)

  round_all : (f : ResolvedFunctionTree) (outer : List ℕ) (n : Numbers) (items : ResolvedStatementsTree)
      → length outer ≤ 256 → All HasFewSlots (all_regions f outer n items)
      → All (IsRound f) (all_regions f outer n items)
  round_all f outer n NoStatements le few = All-nil (IsRound f)
  round_all f outer n (Statement s rest) le few =
      All-append (IsRound f) (regions f outer n s) (all_regions f outer (behind n s) rest)
      (round_in f outer n s le (all_front HasFewSlots (regions f outer n s) _ few))
      (round_all f outer (behind n s) rest le (all_behind HasFewSlots (regions f outer n s) _ few))

  round_parts : (f : ResolvedFunctionTree) (outer : List ℕ) (n : Numbers) (parts : ResolvedPartsTree)
      → length outer ≤ 256 → All HasFewSlots (parts_regions f outer n parts)
      → All (IsRound f) (parts_regions f outer n parts)
  round_parts f outer n NoParts le few = All-nil (IsRound f)
  round_parts f outer n (Part items rest) le few =
      All-append (IsRound f) (all_regions f outer n items) (parts_regions f outer (behind_all n items) rest)
      (round_all f outer n items le (all_front HasFewSlots (all_regions f outer n items) _ few))
      (round_parts f outer (behind_all n items) rest le
      (all_behind HasFewSlots (all_regions f outer n items) _ few))

pub round_function : (f : ResolvedFunctionTree) (n : Numbers) → All HasFewSlots (function_bodies n f)
    → All (IsRound f) (function_bodies n f)
round_function f n few =
    let here : BodySite = record { function = f; tree = FunctionBody; outer = []; numbers = next_body n } in
    let inner = all_regions f (function_variables f) (next_body n) f.body in
    All-cons (IsRound f) here inner (refl, omega arith)
    (round_all f (function_variables f) (next_body n) f.body (All-head HasFewSlots here inner few)
    (All-tail HasFewSlots here inner few))
