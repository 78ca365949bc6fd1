-- Matter of proofs: bodies stand in their list at the places that their numbers tell.
use Rattle.std.proofs.Common.{◌≡◌, ℕ, zero, suc, ◌+◌, List, [], ◌∷◌, ◌++◌, length, Some, refl, ap, ◌∙◌, arith}
use Rattle.std.proofs.Common.{length-append}
use Rattle.std.specs.Prelude.{slice_get, take}
use Rattle.om_scope_tree.specs.ResolvedTree.{ResolvedStatementTree, Declaration, Block, Empty, Expression, If, IfElse}
use Rattle.om_scope_tree.specs.ResolvedTree.{While, Do, For, Return, Break, Continue, Region, Loop, Sections}
use Rattle.om_scope_tree.specs.ResolvedTree.{Construct, Update, StandAlone, ResolvedStatementsTree, NoStatements}
use Rattle.om_scope_tree.specs.ResolvedTree.{Statement, ResolvedPartsTree, NoParts, Part, ResolvedFunctionTree}
use Rattle.om_lower_rules.specs.Bodies.{Numbers, next_body, next_pick, behind, behind_all, behind_parts, behind_function}
use Rattle.om_lower_rules.specs.Bodies.{behind_functions, FunctionBody, BodySite, region_variables, function_variables}
use Rattle.om_lower_rules.specs.Bodies.{regions, all_regions, parts_regions, function_bodies, bodies_from}

-- from this place on, these stand there
pub record StandsAt {A : Type 0} (all : List A) (k : ℕ) (some : List A) : Type 0 where
  pub by : (i : ℕ) (x : A) → slice_get some i ≡ Some x → slice_get all (k + i) ≡ Some x

pub get_front : {A : Type 0} (xs ys : List A) (i : ℕ) (x : A) → slice_get xs i ≡ Some x → slice_get (xs ++ ys) i ≡ Some x
get_front [] ys i x e = absurd cc
get_front (y ∷ xs) ys zero x e = e
get_front (y ∷ xs) ys (suc i) x e = get_front xs ys i x e

pub get_back : {A : Type 0} (xs ys : List A) (i : ℕ) (x : A) → slice_get ys i ≡ Some x → slice_get (xs ++ ys)
    (length xs + i) ≡ Some x
get_back [] ys i x e = let none : 0 + i ≡ i = omega arith in ap (λ z. slice_get ys z) none ∙ e
get_back (y ∷ xs) ys i x e =
    let at : length (y ∷ xs) + i ≡ suc (length xs + i) = omega arith in
    ap (λ z. slice_get (y ∷ (xs ++ ys)) z) at ∙ get_back xs ys i x e

pub stands_whole : {A : Type 0} (all : List A) → StandsAt all 0 all
stands_whole all = record { by = λ i x e. let none : 0 + i ≡ i = omega arith in ap (λ z. slice_get all z) none ∙ e }

pub stands_front : {A : Type 0} (all xs ys : List A) (k : ℕ) → StandsAt all k (xs ++ ys) → StandsAt all k xs
stands_front all xs ys k h = record { by = λ i x e. h.by i x (get_front xs ys i x e) }

pub stands_back : {A : Type 0} (all xs ys : List A) (k m : ℕ) → k + length xs ≡ m → StandsAt all k (xs ++ ys)
    → StandsAt all m ys
stands_back all xs ys k m e h = record {
  by = λ i x is.
      let at : m + i ≡ k + (length xs + i) = omega (arith, e) in
      ap (λ z. slice_get all z) at ∙ h.by (length xs + i) x (get_back xs ys i x is);
}

pub stands_head : {A : Type 0} (all : List A) (x : A) (xs : List A) (k : ℕ) → StandsAt all k (x ∷ xs)
    → slice_get all k ≡ Some x
stands_head all x xs k h = let at : k ≡ k + 0 = omega arith in ap (λ z. slice_get all z) at ∙ h.by 0 x refl

pub stands_tail : {A : Type 0} (all : List A) (x : A) (xs : List A) (k : ℕ) → StandsAt all k (x ∷ xs)
    → StandsAt all (k + 1) xs
stands_tail all x xs k h = record {
  by = λ i y is. let at : k + 1 + i ≡ k + suc i = omega arith in ap (λ z. slice_get all z) at ∙ h.by (suc i) y is;
}

-- ---- as many bodies as numbers are gone through

module _ (f : ResolvedFunctionTree) where
  mutual
    unfolding regions all_regions parts_regions

    pub regions_long : (s : ResolvedStatementTree) (outer : List ℕ) (n : Numbers) → n.bodies + length
        (regions f outer n s) ≡ (behind n s).bodies
    regions_long (Declaration first ds) outer n = omega arith
    regions_long (Block first items) outer n = all_regions_long items outer n
    regions_long (Empty first) outer n = omega arith
    regions_long (Expression first e) outer n = omega arith
    regions_long (If first c s) outer n = regions_long s outer n
    regions_long (IfElse first c s t) outer n =
        let a = regions_long s outer n in let b = regions_long t outer (behind n s) in
        omega (arith, a, b, length-append (regions f outer n s) (regions f outer (behind n s) t))
    regions_long (While first c s) outer n = regions_long s outer n
    regions_long (Do first s c) outer n = regions_long s outer n
    regions_long (For first start c step s) outer n = regions_long s outer n
    regions_long (Return first e) outer n = omega arith
    regions_long (Break first) outer n = omega arith
    regions_long (Continue first) outer n = omega arith
    regions_long (Region first kind clauses captures s) outer n =
        let a = regions_long s (region_variables clauses s) (next_body n) in omega (arith, a)
    regions_long (Loop first clauses nowait l s) outer n = regions_long s outer n
    regions_long (Sections first clauses nowait parts) outer n = parts_regions_long parts outer (next_pick n)
    regions_long (Construct first kind clauses s) outer n = regions_long s outer n
    regions_long (Update first u) outer n = omega arith
    regions_long (StandAlone first directive) outer n = omega arith

    pub all_regions_long : (items : ResolvedStatementsTree) (outer : List ℕ) (n : Numbers) → n.bodies + length
        (all_regions f outer n items) ≡ (behind_all n items).bodies
    all_regions_long NoStatements outer n = omega arith
    all_regions_long (Statement s rest) outer n =
        let a = regions_long s outer n in let b = all_regions_long rest outer (behind n s) in
        omega (arith, a, b, length-append (regions f outer n s) (all_regions f outer (behind n s) rest))

    pub parts_regions_long : (parts : ResolvedPartsTree) (outer : List ℕ) (n : Numbers) → n.bodies + length
        (parts_regions f outer n parts) ≡ (behind_parts n parts).bodies
    parts_regions_long NoParts outer n = omega arith
    parts_regions_long (Part items rest) outer n =
        let a = all_regions_long items outer n in let b = parts_regions_long rest outer (behind_all n items) in
        omega (
          arith,
          a,
          b,
          length-append (all_regions f outer n items) (parts_regions f outer (behind_all n items)
              rest),
        )

  pub function_long : (n : Numbers) → n.bodies + length (function_bodies n f) ≡ (behind_function n f).bodies
  function_long n = let a = all_regions_long f.body (function_variables f) (next_body n) in omega (arith, a)

-- ---- the body of a function

-- the body of a function by its number, as it is numbered
pub function_body_there : (fs : List ResolvedFunctionTree) (k : ℕ) (f : ResolvedFunctionTree) (n : Numbers)
    (all : List BodySite)
    → StandsAt all n.bodies (bodies_from n fs) → slice_get fs k ≡ Some f
    → (m : Numbers) × (slice_get all (behind_functions n (take k fs)).bodies
    ≡ Some (record { function = f; tree = FunctionBody; outer = []; numbers = m }))
function_body_there [] k f n all h e = absurd cc
function_body_there (g ∷ fs) zero f n all h e =
    let same : g ≡ f = cc e in
    let front = stands_front all (function_bodies n g) (bodies_from (behind_function n g) fs) n.bodies h in (
      next_body n,
      stands_head all _ (all_regions g (function_variables g) (next_body n) g.body) n.bodies front
          ∙ ap (λ (z : ResolvedFunctionTree). Some
          (record { function = z; tree = FunctionBody; outer = []; numbers = next_body n })) same,
    )
function_body_there (g ∷ fs) (suc k) f n all h e =
    function_body_there fs k f (behind_function n g) all
    (stands_back all (function_bodies n g) (bodies_from (behind_function n g) fs) n.bodies
    (behind_function n g).bodies (function_long g n) h) e
