-- The bodies of a function, one behind the other, as a loop meets them.
use Rattle.std.proofs.Common.{◌≡◌, ◌<◌, ◌≤◌, ℕ, zero, suc, ◌+◌, Bool, List, [], ◌∷◌, ◌++◌, Some, All, length, take}
use Rattle.std.proofs.Common.{slice_get, get_or, refl, ap, subst, sym, ◌∙◌, arith}
use Rattle.om_lower.specs.declared.bodies.Bodies.{Bodies}
use Rattle.om_lower.specs.Made.{AddsBody}
use Rattle.om_lower.proofs.Items.{all_taken, item_get, take_pushed}
use Rattle.om_scope_tree.specs.ResolvedTree.{ResolvedTree}
use Rattle.om_lower_rules.specs.Bodies.{BodySite}
use Rattle.om_lower_tables.specs.declared.sites.Site.{Site}
use Rattle.om_lower_tables.specs.Sites.{bodies_in, body_in, body_round, round_behind, round_with}

behind_append : (round : List (List ℕ)) (xs ys : List Site)
    → round_behind round (xs ++ ys) ≡ round_behind (round_behind round xs) ys
behind_append round [] ys = refl
behind_append round (x ∷ xs) ys = behind_append (round_with round x) xs ys

length_bodies : (round : List (List ℕ)) (sites : List Site) → length (bodies_in round sites) ≡ length sites
length_bodies round [] = refl
length_bodies round (x ∷ sites) = ap (λ n. suc n) (length_bodies (round_with round x) sites)

-- ---- where a loop stands

site_there : (round : List (List ℕ)) (sites : List Site) (k : ℕ) (site : Site) → slice_get sites k ≡ Some site
    → slice_get (bodies_in round sites) k ≡ Some (body_round (round_behind round (take k sites)) site)
site_there round [] k site at = cc
site_there round (x ∷ sites) zero site at = let same : x ≡ site = cc in ap (λ s. Some (body_round round s)) same
site_there round (x ∷ sites) (suc k) site at = site_there (round_with round x) sites k site at

pub site_at : (sites : List Site) (k : ℕ) (site : Site) → k < length sites → site ≡ get_or sites k site
    → slice_get (bodies_in [] sites) k ≡ Some (body_round (round_behind [] (take k sites)) site)
site_at sites k site lt is = site_there [] sites k site (item_get sites k site lt is)

-- before the first there is none round it
pub none_behind : (sites : List Site) → round_behind [] (take 0 sites) ≡ []
none_behind [] = refl
none_behind (site ∷ sites) = refl

pub round_next : (sites : List Site) (k : ℕ) (site : Site) → k < length sites → site ≡ get_or sites k site
    → round_behind [] (take (k + 1) sites) ≡ round_with (round_behind [] (take k sites)) site
round_next sites k site lt is =
    let next : k + 1 ≡ suc k = omega arith in
    ap (λ n. round_behind [] (take n sites)) next
    ∙ ap (λ some. round_behind [] some) (take_pushed sites k site (item_get sites k site lt is))
    ∙ behind_append [] (take k sites) (site ∷ [])

-- the first k of the bodies are all
pub all_bodies : (P : BodySite → Type 0) (sites : List Site) (k : ℕ) → length sites ≤ k
    → All P (take k (bodies_in [] sites)) → All P (bodies_in [] sites)
all_bodies P sites k le all =
    all_taken P (bodies_in [] sites) k (subst (λ n. n ≤ k) (sym (length_bodies [] sites)) le) all

take_all : {A : Type 0} (xs : List A) (n : ℕ) → length xs ≤ n → take n xs ≡ xs
take_all [] zero le = refl
take_all [] (suc n) le = refl
take_all (x ∷ xs) zero le = let none : ⊥ = omega (arith, le) in absurd none
take_all (x ∷ xs) (suc n) le =
    ap (λ rest. x ∷ rest) (take_all xs n (let below : length xs ≤ n = omega (arith, le) in below))

pub taken_bodies : (sites : List Site) (k : ℕ) → length sites ≤ k
    → take k (bodies_in [] sites) ≡ bodies_in [] sites
taken_bodies sites k le = take_all (bodies_in [] sites) k (subst (λ n. n ≤ k) (sym (length_bodies [] sites)) le)

-- a body is added in the same body, and in the same bodies
pub adds_in : (tree : ResolvedTree) (site : Site) (outer known : List ℕ) (old new : Bodies) (fits : Bool)
    → outer ≡ known → AddsBody tree (body_in outer site) old new fits
    → AddsBody tree (body_in known site) old new fits
adds_in tree site outer known old new fits same adds =
    subst (λ all. AddsBody tree (body_in all site) old new fits) same adds

pub adds_round : (tree : ResolvedTree) (site : Site) (round known : List (List ℕ)) (old new : Bodies) (fits : Bool)
    → round ≡ known → AddsBody tree (body_round round site) old new fits
    → AddsBody tree (body_round known site) old new fits
adds_round tree site round known old new fits same adds =
    subst (λ all. AddsBody tree (body_round all site) old new fits) same adds
