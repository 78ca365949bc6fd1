-- The lists of what a part has, and of the regions in it, have the numbers that the part goes through.
use Rattle.std.proofs.Common.{◌≡◌, ℕ, ◌+◌, List, [], ◌∷◌, ◌++◌, refl, arith}
use Rattle.std.specs.List.{flat_map}
use Rattle.std.proofs.lemmas.Bool.Decides.{nat_tests}
use Rattle.om_scope_tree.specs.ResolvedTree.{ResolvedStatementTree, Declaration, Block, Empty, Expression, If, IfElse}
use Rattle.om_scope_tree.specs.ResolvedTree.{While, Do, For, Return, Break, Continue, Region, Loop, Sections}
use Rattle.om_scope_tree.specs.ResolvedTree.{Construct, Update, StandAlone, ResolvedStatementsTree, NoStatements}
use Rattle.om_scope_tree.specs.ResolvedTree.{Statement, ResolvedPartsTree, NoParts, Part, ResolvedFunctionTree}
use Rattle.om_lower_rules.specs.Bodies.{Numbers, next_body, next_pick, behind, behind_all, behind_parts, behind_function}
use Rattle.om_lower_rules.specs.Bodies.{behind_functions, first_numbers, BodySite, RegionBody, FunctionBody}
use Rattle.om_lower_rules.specs.Bodies.{region_variables, function_variables, regions, all_regions, parts_regions}
use Rattle.om_lower_rules.specs.Bodies.{function_bodies, bodies_from}
use Rattle.om_lower_rules.specs.Picks.{own_picks, all_own_picks, parts_own_picks}
use Rattle.om_lower.specs.Once.{count, below, site_picks, PicksOfFunctions}

pub count-append : (k : ℕ) (xs ys : List ℕ) → count k (xs ++ ys) ≡ count k xs + count k ys
count-append k [] ys = omega arith
count-append k (x ∷ xs) ys = omega (arith, count-append k xs ys)

-- how often a number stands in the lists of bodies
unfoldable counts : ℕ → List BodySite → ℕ
counts k sites = count k (flat_map site_picks sites)

counts-nil : (k : ℕ) → counts k [] ≡ 0
unfolding counts
counts-nil k = refl

counts-cons : (k : ℕ) (b : BodySite) (sites : List BodySite)
    → counts k (b ∷ sites) ≡ count k (site_picks b) + counts k sites
unfolding counts
counts-cons k b sites = count-append k (site_picks b) (flat_map site_picks sites)

counts-append : (k : ℕ) (xs ys : List BodySite) → counts k (xs ++ ys) ≡ counts k xs + counts k ys
counts-append k [] ys = omega (arith, counts-nil k)
counts-append k (x ∷ xs) ys =
    omega (arith, counts-cons k x (xs ++ ys), counts-cons k x xs, counts-append k xs ys)

-- one number more
below-next : (k n : ℕ) → count k (n ∷ []) + below k n ≡ below k (n + 1)
below-next k n = grind (arith, nat_tests)

module _ (k : ℕ) (f : ResolvedFunctionTree) where
  mutual
    unfolding regions all_regions parts_regions

    part : (s : ResolvedStatementTree) (outer : List ℕ) (n : Numbers)
        → count k (own_picks n s) + counts k (regions f outer n s) + below k n.picks ≡ below k (behind n s).picks
    part (Declaration first ds) outer n = omega (arith, counts-nil k)
    part (Block first items) outer n = parts items outer n
    part (Empty first) outer n = omega (arith, counts-nil k)
    part (Expression first e) outer n = omega (arith, counts-nil k)
    part (If first c s) outer n = part s outer n
    part (IfElse first c s t) outer n =
        omega (
          arith,
          part s outer n,
          part t outer (behind n s),
          count-append k (own_picks n s) (own_picks (behind n s) t),
          counts-append k (regions f outer n s) (regions f outer (behind n s) t),
        )
    part (While first c s) outer n = part s outer n
    part (Do first s c) outer n = part s outer n
    part (For first start c step s) outer n = part s outer n
    part (Return first value) outer n = omega (arith, counts-nil k)
    part (Break first) outer n = omega (arith, counts-nil k)
    part (Continue first) outer n = omega (arith, counts-nil k)
    part (Region first kind clauses captures s) outer n =
        let inner = regions f (region_variables clauses s) (next_body n) s in
        let body = RegionBody first kind clauses captures s in
        let own : BodySite = record { function = f; tree = body; outer = outer; numbers = next_body n } in
        omega (arith, counts-cons k own inner, part s (region_variables clauses s) (next_body n))
    part (Loop first clauses nowait l s) outer n = part s outer n
    part (Sections first clauses nowait items) outer n =
        omega (arith, sections items outer (next_pick n), below-next k n.picks)
    part (Construct first kind clauses s) outer n = part s outer n
    part (Update first u) outer n = omega (arith, counts-nil k)
    part (StandAlone first directive) outer n = omega (arith, counts-nil k)

    parts : (items : ResolvedStatementsTree) (outer : List ℕ) (n : Numbers)
        → count k (all_own_picks n items) + counts k (all_regions f outer n items) + below k n.picks
        ≡ below k (behind_all n items).picks
    parts NoStatements outer n = omega (arith, counts-nil k)
    parts (Statement s rest) outer n =
        omega (
          arith,
          part s outer n,
          parts rest outer (behind n s),
          count-append k (own_picks n s) (all_own_picks (behind n s) rest),
          counts-append k (regions f outer n s) (all_regions f outer (behind n s) rest),
        )

    sections : (items : ResolvedPartsTree) (outer : List ℕ) (n : Numbers)
        → count k (parts_own_picks n items) + counts k (parts_regions f outer n items) + below k n.picks
        ≡ below k (behind_parts n items).picks
    sections NoParts outer n = omega (arith, counts-nil k)
    sections (Part items rest) outer n =
        omega (
          arith,
          parts items outer n,
          sections rest outer (behind_all n items),
          count-append k (all_own_picks n items) (parts_own_picks (behind_all n items) rest),
          counts-append k (all_regions f outer n items) (parts_regions f outer (behind_all n items) rest),
        )

  function : (n : Numbers) → counts k (function_bodies n f) + below k n.picks ≡ below k (behind_function n f).picks
  function n =
      let inner = all_regions f (function_variables f) (next_body n) f.body in
      let own : BodySite = record { function = f; tree = FunctionBody; outer = []; numbers = next_body n } in
      omega (arith, counts-cons k own inner, parts f.body (function_variables f) (next_body n))

program : (k : ℕ) (fs : List ResolvedFunctionTree) (n : Numbers)
    → counts k (bodies_from n fs) + below k n.picks ≡ below k (behind_functions n fs).picks
program k [] n = omega (arith, counts-nil k)
program k (f ∷ fs) n =
    omega (
      arith,
      function k f n,
      program k fs (behind_function n f),
      counts-append k (function_bodies n f) (bodies_from (behind_function n f) fs),
    )

below-none : (k : ℕ) → below k 0 ≡ 0
below-none k = grind (arith, nat_tests)

pub each_once : PicksOfFunctions
unfolding counts
each_once fs k = omega (arith, program k fs first_numbers, below-none k)
