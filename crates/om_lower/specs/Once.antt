-- Each number below a limit stands once.
use Rattle.std.specs.Prelude.{◌≡◌, ◌+◌, ℕ, List, [], ◌∷◌, if◌then◌else◌, nat_eq, nat_lt}
use Rattle.std.specs.List.{flat_map}
use Rattle.om_scope_tree.specs.ResolvedTree.{ResolvedFunctionTree}
use Rattle.om_lower_rules.specs.Bodies.{BodySite, behind_functions, bodies_from, first_numbers}
use Rattle.om_lower_rules.specs.Picks.{body_picks}

-- how often a number stands among others
abbrev pub count : ℕ → List ℕ → ℕ
count k [] = 0
count k (n ∷ numbers) = (if nat_eq k n then 1 else 0) + count k numbers

-- once below a limit, and never from there on
abbrev pub below : ℕ → ℕ → ℕ
below k n = if nat_lt k n then 1 else 0

-- each number below n stands once, and no other
abbrev pub IsEachOnce : ℕ → List ℕ → Type 0
IsEachOnce n numbers = (k : ℕ) → count k numbers ≡ below k n

-- the numbers of the lists of a body, where it stands
abbrev pub site_picks : BodySite → List ℕ
site_picks b = body_picks b.numbers b.function b.tree

-- The lists of the bodies of functions have all numbers below the one behind them, each once.
abbrev pub PicksOfFunctions : Type 0
PicksOfFunctions =
    (functions : List ResolvedFunctionTree) →
    IsEachOnce (behind_functions first_numbers functions).picks
    (flat_map site_picks (bodies_from first_numbers functions))
