-- The bodies round each region of a function.
use Rattle.std.proofs.Common.{◌≡◌, ◌<◌, ◌≤◌, ℕ, zero, suc, ◌+◌, ◌-◌, List, [], ◌∷◌, ◌++◌, Some, length, take, slice_get}
use Rattle.std.proofs.Common.{refl, sym, ap, ◌∙◌, arith}
use Rattle.std.specs.Prelude.{unwrap_or}
use Rattle.std.proofs.Math.Nat.{min-le_right}
use Rattle.std.proofs.Math.Seq.{take-append_seam}
use Rattle.std.proofs.lemmas.List.{append_assoc, length-append, length-take, length-take-le}
use Rattle.std.proofs.lemmas.Option.{slice_get_within}
use Rattle.om_lower_tables.specs.declared.sites.Site.{Site}
use Rattle.om_lower_tables.specs.Sites.{IsRound, KeepsRound, bodies_in, body_in, body_round, innermost, part_tree}
use Rattle.om_lower_tables.specs.Sites.{AddsBodies, IsOpen, function_of, round_behind, round_with, site_variables}
use Rattle.om_lower_tables.specs.Sites.{variables_at}
use Rattle.om_scope_tree.specs.ResolvedTree.{ResolvedFunctionTree, ResolvedPartsTree, ResolvedStatementTree, IfElse}
use Rattle.om_scope_tree.specs.ResolvedTree.{ResolvedStatementsTree, Part, Statement}
use Rattle.om_scope_tree.specs.ResolvedView as view
use Rattle.om_lower_rules.specs.Bodies.{BodySite, Numbers, all_regions, behind, behind_all, parts_regions, regions}
use Rattle.om_lower_rules.specs.Numbering.{numbers_of}

-- ---- lists

get_take : {A : Type 0} (n : ℕ) (xs : List A) (k : ℕ) → k < n → slice_get (take n xs) k ≡ slice_get xs k
get_take zero xs k lt = let none : ⊥ = omega (arith, lt) in absurd none
get_take (suc n) [] k lt = refl
get_take (suc n) (x ∷ xs) zero lt = refl
get_take (suc n) (x ∷ xs) (suc k) lt = get_take n xs k (let below : k < n = omega (arith, lt) in below)

take_less : {A : Type 0} (n m : ℕ) (xs : List A) → n ≤ m → take n (take m xs) ≡ take n xs
take_less zero m xs le = refl
take_less (suc n) zero xs le = let none : ⊥ = omega (arith, le) in absurd none
take_less (suc n) (suc m) [] le = refl
take_less (suc n) (suc m) (x ∷ xs) le =
    ap (λ rest. x ∷ rest) (take_less n m xs (let below : n ≤ m = omega (arith, le) in below))

get_end : {A : Type 0} (xs : List A) (x : A) → slice_get (xs ++ x ∷ []) (length xs) ≡ Some x
get_end [] x = refl
get_end (y ∷ xs) x = get_end xs x

-- ---- further bodies

bodies_append : (round : List (List ℕ)) (xs ys : List Site)
    → bodies_in round (xs ++ ys) ≡ bodies_in round xs ++ bodies_in (round_behind round xs) ys
bodies_append round [] ys = refl
bodies_append round (x ∷ xs) ys = ap (λ rest. body_round round x ∷ rest) (bodies_append (round_with round x) xs ys)

behind_append : (round : List (List ℕ)) (xs ys : List Site)
    → round_behind round (xs ++ ys) ≡ round_behind (round_behind round xs) ys
behind_append round [] ys = refl
behind_append round (x ∷ xs) ys = behind_append (round_with round x) xs ys

length_behind : (round : List (List ℕ)) (sites : List Site) → length (round_behind round sites)
    ≤ length round + length sites
length_behind round [] = omega arith
length_behind round (x ∷ sites) =
    let vars = variables_at (view.function x.function.now) x.part in
    let long : length (round_with round x) ≡ length (take x.depth round) + 1 =
    length-append (take x.depth round) (vars ∷ []) in
    let taken = length-take x.depth round in
    let less = min-le_right x.depth (length round) in
    let rest = length_behind (round_with round x) sites in
    omega (arith, long, taken, less, rest)

-- ---- a region in an open body

abbrev numbered : List ℕ → Site → Numbers → BodySite
numbered outer site n = record {
  function = view.function site.function.now;
  tree = part_tree site.part;
  outer = outer;
  numbers = n;
}

kept_length : (round : List (List ℕ)) (d : ℕ) (v : List ℕ) → slice_get round d ≡ Some v
    → length (take (d + 1) round) ≡ d + 1
kept_length round d v open_at =
    let below = slice_get_within round d v open_at in
    length-take-le (d + 1) round (omega (arith, below))

kept_innermost : (round : List (List ℕ)) (d : ℕ) (v : List ℕ) → slice_get round d ≡ Some v
    → innermost (take (d + 1) round) ≡ v
kept_innermost round d v open_at =
    let last : d + 1 - 1 ≡ d = omega arith in
    ap (λ n. unwrap_or (slice_get (take (d + 1) round) (n - 1)) []) (kept_length round d v open_at)
    ∙ ap (λ n. unwrap_or (slice_get (take (d + 1) round) n) []) last
    ∙ ap (λ x. unwrap_or x []) (get_take (d + 1) round d (omega arith) ∙ open_at)

pub region_pushed : (old new : List Site) (site : Site) (d : ℕ) (v : List ℕ) (n : Numbers)
    → new ≡ old ++ site ∷ [] → IsRound d v old → site.depth ≡ d + 1 → numbers_of site.numbers ≡ n
    → bodies_in [] new ≡ bodies_in [] old ++ record {
      function = view.function site.function.now;
      tree = part_tree site.part;
      outer = v;
      numbers = n;
    } ∷ []
region_pushed old new site d v n same open_at deep is =
    let round = round_behind [] old in
    ap (λ sites. bodies_in [] sites) same ∙ bodies_append [] old (site ∷ [])
    ∙ ap (λ outer. bodies_in [] old ++ body_in outer site ∷ [])
    (ap (λ k. innermost (take k round)) deep ∙ kept_innermost round d v open_at)
    ∙ ap (λ m. bodies_in [] old ++ numbered v site m ∷ []) is

behind_region : (old new : List Site) (site : Site) (d : ℕ) → site.depth ≡ d + 1 → new ≡ old ++ site ∷ []
    → round_behind [] new
    ≡ take (d + 1) (round_behind [] old) ++ variables_at (view.function site.function.now) site.part ∷ []
behind_region old new site d deep same =
    let vars = variables_at (view.function site.function.now) site.part in
    ap (λ sites. round_behind [] sites) same ∙ behind_append [] old (site ∷ [])
    ∙ ap (λ n. take n (round_behind [] old) ++ vars ∷ []) deep

pub region_round : (old new : List Site) (site : Site) (d : ℕ) (v : List ℕ) → new ≡ old ++ site ∷ []
    → IsRound d v old → site.depth ≡ d + 1
    → IsRound site.depth (variables_at (view.function site.function.now) site.part) new
region_round old new site d v same open_at deep =
    let round = round_behind [] old in
    let vars = variables_at (view.function site.function.now) site.part in
    ap (λ all. slice_get all site.depth) (behind_region old new site d deep same)
    ∙ ap (λ n. slice_get (take (d + 1) round ++ vars ∷ []) n) (deep ∙ sym (kept_length round d v open_at))
    ∙ get_end (take (d + 1) round) vars

pub region_keeps : (old new : List Site) (site : Site) (d : ℕ) (v : List ℕ) → IsRound d v old
    → site.depth ≡ d + 1 → new ≡ old ++ site ∷ [] → KeepsRound d old new
region_keeps old new site d v open_at deep same =
    let round = round_behind [] old in
    let vars = variables_at (view.function site.function.now) site.part in
    ap (λ all. take (d + 1) all) (behind_region old new site d deep same)
    ∙ ap (λ n. take n (take (d + 1) round ++ vars ∷ [])) (sym (kept_length round d v open_at))
    ∙ take-append_seam (take (d + 1) round) (vars ∷ [])

-- a body is less deep than there are bodies
pub round_below : (sites : List Site) (d : ℕ) (v : List ℕ) → IsRound d v sites → d < length sites
round_below sites d v open_at =
    let below = slice_get_within (round_behind [] sites) d v open_at in
    let most = length_behind [] sites in
    omega (arith, below, most)

pub round_kept : (old new : List Site) (d : ℕ) (v : List ℕ) → IsRound d v old → KeepsRound d old new
    → IsRound d v new
round_kept old new d v open_at kept =
    sym (get_take (d + 1) (round_behind [] new) d (omega arith)) ∙ ap (λ round. slice_get round d) kept
    ∙ get_take (d + 1) (round_behind [] old) d (omega arith) ∙ open_at

pub kept_then : (a b c : List Site) (d : ℕ) → KeepsRound d a b → KeepsRound d b c → KeepsRound d a c
kept_then a b c d first second = second ∙ first

pub kept_outer : (a b c : List Site) (d e : ℕ) → e ≡ d + 1 → KeepsRound d a b → KeepsRound e b c → KeepsRound d a c
kept_outer a b c d e deep first second =
    let le : d + 1 ≤ e + 1 = omega (arith, deep) in
    sym (take_less (d + 1) (e + 1) (round_behind [] c) le) ∙ ap (λ round. take (d + 1) round) second
    ∙ take_less (d + 1) (e + 1) (round_behind [] b) le ∙ first

-- the body of a region and those in it have been added
pub region_added : (old pushed new : List Site) (round site : Site) (n : Numbers) (s : ResolvedStatementTree)
    → pushed ≡ old ++ site ∷ [] → IsOpen round old → site.depth ≡ round.depth + 1 → numbers_of site.numbers ≡ n
    → AddsBodies site (regions (function_of site) (site_variables site) (numbers_of site.numbers) s) pushed new
    → AddsBodies round (numbered (site_variables round) site n ∷ regions (function_of site) (site_variables site) n s)
    old new
region_added old pushed new round site n s same open_at deep is added =
    let outer = site_variables round in
    let f = function_of site in
    let all = site_variables site in
    let first = region_pushed old pushed site round.depth outer n same open_at deep is in
    let kept = region_keeps old pushed site round.depth outer open_at deep same in (
      added.0 ∙ ap (λ bodies. bodies ++ regions f all (numbers_of site.numbers) s) first
          ∙ append_assoc (bodies_in [] old) (numbered outer site n ∷ []) (regions f all (numbers_of site.numbers) s)
          ∙ ap (λ m. bodies_in [] old ++ numbered outer site n ∷ regions f all m s) is,
      kept_outer old pushed new round.depth site.depth deep kept added.1,
    )

-- ---- bodies that have been added, one part behind the other

pub two_added : (round : Site) (first second : List BodySite) (old mid new : List Site)
    → AddsBodies round first old mid → AddsBodies round second mid new → AddsBodies round (first ++ second) old new
two_added round first second old mid new one other = (
  other.0 ∙ ap (λ bodies. bodies ++ second) one.0 ∙ append_assoc (bodies_in [] old) first second,
  kept_then old mid new round.depth one.1 other.1,
)

-- what is left to add, behind what has been added, is all
pub left_added : (round : Site) (first rest left all : List BodySite) (old mid new : List Site)
    → left ≡ first ++ rest → AddsBodies round first mid new
    → bodies_in [] mid ++ left ≡ bodies_in [] old ++ all → KeepsRound round.depth old mid
    → (bodies_in [] new ++ rest ≡ bodies_in [] old ++ all) × KeepsRound round.depth old new
left_added round first rest left all old mid new here added is kept = (
  ap (λ bodies. bodies ++ rest) added.0 ∙ append_assoc (bodies_in [] mid) first rest
      ∙ ap (λ bodies. bodies_in [] mid ++ bodies) (sym here) ∙ is,
  kept_then old mid new round.depth kept added.1,
)

pub if_else_regions : (f : ResolvedFunctionTree) (outer : List ℕ) (n m : Numbers) (tree : ResolvedStatementTree)
    (at : _) (c : _) (s : _) (t : _) → tree ≡ IfElse at c s t → m ≡ behind n s
    → regions f outer n tree ≡ regions f outer n s ++ regions f outer m t
unfolding regions
if_else_regions f outer n m tree at c s t is next =
    ap (λ x. regions f outer n x) is ∙ ap (λ k. regions f outer n s ++ regions f outer k t) (sym next)

pub items_regions : (f : ResolvedFunctionTree) (outer : List ℕ) (n m : Numbers) (left rest : ResolvedStatementsTree)
    (s : ResolvedStatementTree) → left ≡ Statement s rest → m ≡ behind n s
    → all_regions f outer n left ≡ regions f outer n s ++ all_regions f outer m rest
unfolding all_regions
items_regions f outer n m left rest s is next =
    ap (λ x. all_regions f outer n x) is ∙ ap (λ k. regions f outer n s ++ all_regions f outer k rest) (sym next)

pub part_regions : (f : ResolvedFunctionTree) (outer : List ℕ) (n m : Numbers) (left rest : ResolvedPartsTree)
    (items : ResolvedStatementsTree) → left ≡ Part items rest → m ≡ behind_all n items
    → parts_regions f outer n left ≡ all_regions f outer n items ++ parts_regions f outer m rest
unfolding parts_regions
part_regions f outer n m left rest items is next =
    ap (λ x. parts_regions f outer n x) is
    ∙ ap (λ k. all_regions f outer n items ++ parts_regions f outer k rest) (sym next)
