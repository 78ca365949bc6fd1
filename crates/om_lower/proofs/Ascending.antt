-- The lists of PICK of one body ascend, so there is a table in which each stands at its number.
use Rattle.std.proofs.Common.{◌≡◌, ◌<◌, ◌≤◌, ◌+◌, ◌-◌, ℕ, zero, suc, List, [], ◌∷◌, ◌++◌, Some, length, map, refl, sym}
use Rattle.std.proofs.Common.{ap, subst, ◌∙◌, arith, length-append}
use Rattle.std.specs.Prelude.{slice_get}
use Rattle.om_lower_emit.specs.declared.draft.PickList.{PickList}
use Rattle.om_lower_emit.specs.Settled.{ListsStand, number_of}
use Rattle.om_lower_emit.specs.Writing.{get_left, get_seam}
use Rattle.om_scope_tree.specs.ResolvedTree.{ResolvedStatementTree, Declaration, Block, Empty, Expression, If, IfElse}
use Rattle.om_scope_tree.specs.ResolvedTree.{While, Do, For, Return, Break, Continue, Region, Loop, Sections}
use Rattle.om_scope_tree.specs.ResolvedTree.{Construct, Update, StandAlone, ResolvedStatementsTree, NoStatements}
use Rattle.om_scope_tree.specs.ResolvedTree.{Statement, ResolvedPartsTree, NoParts, Part, ResolvedFunctionTree}
use Rattle.om_lower_rules.specs.Bodies.{BodyTree, FunctionBody, Numbers, RegionBody, behind, behind_all}
use Rattle.om_lower_rules.specs.Bodies.{behind_parts, next_body, next_pick}
use Rattle.om_lower_rules.specs.Picks.{all_own_picks, body_picks, own_picks, parts_own_picks}

-- numbers from a on, each above the one before it, and all below b
abbrev pub Ascends : ℕ → List ℕ → ℕ → Type 0
Ascends a [] b = a ≤ b
Ascends a (x ∷ xs) b = (a ≤ x) × Ascends (x + 1) xs b

ascends-lower : (a b c : ℕ) (xs : List ℕ) → a ≤ b → Ascends b xs c → Ascends a xs c
ascends-lower a b c [] le up = omega (arith, le, up)
ascends-lower a b c (x ∷ xs) le up = (let first = up.0 in omega (arith, le, first), up.1)

ascends-append : (a b c : ℕ) (xs ys : List ℕ) → Ascends a xs b → Ascends b ys c → Ascends a (xs ++ ys) c
ascends-append a b c [] ys up on = ascends-lower a b c ys up on
ascends-append a b c (x ∷ xs) ys up on = (up.0, ascends-append (x + 1) b c xs ys up.1 on)

ascends-bound : (a b : ℕ) (xs : List ℕ) → Ascends a xs b → a ≤ b
ascends-bound a b [] up = up
ascends-bound a b (x ∷ xs) up =
    let first = up.0 in let rest = ascends-bound (x + 1) b xs up.1 in omega (arith, first, rest)

mutual
  own_ascends : (s : ResolvedStatementTree) (n : Numbers) → Ascends n.picks (own_picks n s) (behind n s).picks
  own_ascends (Declaration at ds) n = omega arith
  own_ascends (Block at items) n = all_ascend items n
  own_ascends (Empty at) n = omega arith
  own_ascends (Expression at e) n = omega arith
  own_ascends (If at c s) n = own_ascends s n
  own_ascends (IfElse at c s t) n =
      ascends-append n.picks (behind n s).picks (behind (behind n s) t).picks (own_picks n s)
      (own_picks (behind n s) t) (own_ascends s n) (own_ascends t (behind n s))
  own_ascends (While at c s) n = own_ascends s n
  own_ascends (Do at s c) n = own_ascends s n
  own_ascends (For at start condition step s) n = own_ascends s n
  own_ascends (Return at value) n = omega arith
  own_ascends (Break at) n = omega arith
  own_ascends (Continue at) n = omega arith
  own_ascends (Region at kind clauses captures s) n = ascends-bound n.picks (behind (next_body n) s).picks
      (own_picks (next_body n) s) (own_ascends s (next_body n))
  own_ascends (Loop at clauses nowait l s) n = own_ascends s n
  own_ascends (Sections at clauses nowait parts) n = (omega arith, parts_ascend parts (next_pick n))
  own_ascends (Construct at kind clauses s) n = own_ascends s n
  own_ascends (Update at u) n = omega arith
  own_ascends (StandAlone at directive) n = omega arith

  all_ascend : (items : ResolvedStatementsTree) (n : Numbers)
      → Ascends n.picks (all_own_picks n items) (behind_all n items).picks
  all_ascend NoStatements n = omega arith
  all_ascend (Statement s rest) n =
      ascends-append n.picks (behind n s).picks (behind_all (behind n s) rest).picks (own_picks n s)
      (all_own_picks (behind n s) rest) (own_ascends s n) (all_ascend rest (behind n s))

  parts_ascend : (parts : ResolvedPartsTree) (n : Numbers)
      → Ascends n.picks (parts_own_picks n parts) (behind_parts n parts).picks
  parts_ascend NoParts n = omega arith
  parts_ascend (Part items rest) n =
      ascends-append n.picks (behind_all n items).picks (behind_parts (behind_all n items) rest).picks
      (all_own_picks n items) (parts_own_picks (behind_all n items) rest) (all_ascend items n)
      (parts_ascend rest (behind_all n items))

-- ---- a table

blanks : ℕ → List (List ℕ)
blanks zero = []
blanks (suc n) = [] ∷ blanks n

blanks_long : (n : ℕ) → length (blanks n) ≡ n
unfolding blanks
blanks_long zero = refl
blanks_long (suc n) = ap suc (blanks_long n)

pub record Tabled (done : List (List ℕ)) (lists : List PickList) : Type 0 where
  pub picks : List (List ℕ)
  pub begins : (k : ℕ) → k < length done → slice_get picks k ≡ slice_get done k
  pub stand : ListsStand lists picks

one_or_rest : (x : PickList) (rest : List PickList) (picks : List (List ℕ)) → slice_get picks x.number ≡ Some x.places
    → ListsStand rest picks → ListsStand (x ∷ rest) picks
one_or_rest x rest picks here stand list (zero, lt, is) =
    subst (λ y. slice_get picks y.number ≡ Some y.places) is here
one_or_rest x rest picks here stand list (suc k, lt, is) =
    stand list (k, (let below : k < length rest = omega (arith, lt) in below), is)

tabled : (done : List (List ℕ)) (lists : List PickList) (b : ℕ) → Ascends (length done) (map number_of lists) b
    → Tabled done lists
tabled done [] b up = record {
  picks = done;
  begins = λ k lt. refl;
  stand = λ list there. let lt = there.1 in let none : ⊥ = omega (arith, lt) in absurd none;
}
tabled done (x ∷ rest) b up =
    let first = up.0 in
    let padded = done ++ blanks (x.number - length done) in
    let long : length padded ≡ x.number =
    omega (arith, length-append done (blanks (x.number - length done)), blanks_long (x.number - length done), first) in
    let next = padded ++ x.places ∷ [] in
    let longer : length next ≡ x.number + 1 = omega (arith, length-append padded (x.places ∷ []), long) in
    let more = tabled next rest b (subst (λ k. Ascends k (map number_of rest) b) (sym longer) up.1) in
    let here : slice_get more.picks x.number ≡ Some x.places =
    more.begins x.number (omega (arith, longer))
    ∙ subst (λ k. slice_get next k ≡ Some x.places) long (get_seam padded x.places []) in
    record {
      picks = more.picks;
      begins = λ k lt.
          more.begins k (omega (arith, longer, first, lt))
          ∙ get_left padded (x.places ∷ []) k (omega (arith, long, first, lt))
          ∙ get_left done (blanks (x.number - length done)) k lt;
      stand = one_or_rest x rest more.picks here more.stand;
    }

body_ascends : (n : Numbers) (f : ResolvedFunctionTree) (tree : BodyTree) → (b : ℕ) × Ascends 0 (body_picks n f tree) b
body_ascends n f FunctionBody = (
  (behind_all n f.body).picks,
  ascends-lower 0 n.picks (behind_all n f.body).picks (all_own_picks n f.body)
      (omega arith) (all_ascend f.body n),
)
body_ascends n f (RegionBody first kind clauses captures s) =
    ((behind n s).picks, ascends-lower 0 n.picks (behind n s).picks (own_picks n s) (omega arith) (own_ascends s n))

-- there is a table in which the lists of a body stand
pub body_table : (n : Numbers) (f : ResolvedFunctionTree) (tree : BodyTree) (lists : List PickList)
    → map number_of lists ≡ body_picks n f tree → Tabled [] lists
body_table n f tree lists same =
    let up = body_ascends n f tree in
    tabled [] lists up.0 (subst (λ numbers. Ascends 0 numbers up.0) (sym same) up.1)
