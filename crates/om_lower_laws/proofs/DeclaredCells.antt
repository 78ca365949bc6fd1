-- A variable that a function declares has the cells of its own declarator, as no two variables stand at one byte.
use Rattle.std.proofs.Common.{◌≡◌, ◌≤◌, ◌<◌, ◌⊎◌, ℕ, zero, suc, ◌+◌, Bool, true, false, List, [], ◌∷◌, ◌++◌, Option}
use Rattle.std.proofs.Common.{None, Some}
use Rattle.std.proofs.Common.{append-nil, arith, get_or, inl, inr, length, map, refl, subst, sym, ap, ◌∙◌}
use Rattle.std.specs.List.{flat_map}
use Rattle.std.specs.List.Sorted.{IsStrictlyIncreasing}
use Rattle.std.specs.Prelude.{nat_eq, slice_index, if◌then◌else◌}
use Rattle.std.proofs.lemmas.Bool.{eqb-true, eq-eqb}
use Rattle.om_scope_rules.specs.PlaceLaws.{PlacesRise}
use Rattle.om_scope_rules.specs.TreePlaces.{Place, Declared, Begun, byte_of, clause_places, declarator_place}
use Rattle.om_scope_rules.specs.TreePlaces.{function_places}
use Rattle.om_scope_rules.specs.TreePlaces.{parts_places, start_places, statement_places, statements_places}
use Rattle.om_scope_rules.specs.TreePlaces.{tree_places}
use Rattle.om_scope_tree.specs.ResolvedTree.{ResolvedExpressionTree, ResolvedDeclaratorTree, ResolvedClauseTree}
use Rattle.om_scope_tree.specs.ResolvedTree.{ClauseValue, Shared, Copied, ResolvedStartTree, StartNothing}
use Rattle.om_scope_tree.specs.ResolvedTree.{StartExpression}
use Rattle.om_scope_tree.specs.ResolvedTree.{StartDeclaration, ResolvedStatementTree, Declaration, Block, Empty}
use Rattle.om_scope_tree.specs.ResolvedTree.{Expression, If, IfElse, While, Do, For, Return, Break, Continue, Region}
use Rattle.om_scope_tree.specs.ResolvedTree.{Loop, Sections, Construct, Update, StandAlone, ResolvedStatementsTree}
use Rattle.om_scope_tree.specs.ResolvedTree.{NoStatements, Statement, ResolvedPartsTree, NoParts, Part}
use Rattle.om_scope_tree.specs.ResolvedTree.{ResolvedFunctionTree}
use Rattle.om_lower_rules.specs.Mentions.{all_mentioned, clause_mentioned, declarator_mentioned, extent_mention}
use Rattle.om_lower_rules.specs.Mentions.{extents_of}
use Rattle.om_lower_rules.specs.Mentions.{mentioned, parts_mentioned, perhaps_mentioned, start_mentioned}
use Rattle.om_lower_rules.specs.Slots.{Extent, cells_in}
use Rattle.om_lower_laws.specs.CellLaws.{DeclaredCells}

-- ---- declared variables stand at places of their function

-- the variables of these stand at some of the places, in their order
abbrev StandAt : List Extent → List Place → Type 0
StandAt [] ps = Unit {0}
StandAt (e ∷ es) [] = ⊥
StandAt (e ∷ es) (p ∷ ps) = ((e.variable ≡ byte_of p) × StandAt es ps) ⊎ StandAt (e ∷ es) ps

further : (p : Place) (es : List Extent) (ps : List Place) → StandAt es ps → StandAt es (p ∷ ps)
further p [] ps h = tt
further p (e ∷ es) ps h = inr h

behind : (front : List Place) (es : List Extent) (ps : List Place) → StandAt es ps → StandAt es (front ++ ps)
behind [] es ps h = h
behind (p ∷ front) es ps h = further p es (front ++ ps) (behind front es ps h)

together : (es fs : List Extent) (ps qs : List Place) → StandAt es ps → StandAt fs qs → StandAt (es ++ fs) (ps ++ qs)
together [] fs ps qs h more = behind ps fs qs more
together (e ∷ es) fs [] qs h more = absurd h
together (e ∷ es) fs (p ∷ ps) qs (inl h) more = inl (h.0, together es fs ps qs h.1 more)
together (e ∷ es) fs (p ∷ ps) qs (inr h) more = inr (together (e ∷ es) fs ps qs h more)

-- these have none
perhaps_none : (o : Option ResolvedExpressionTree) → perhaps_mentioned extent_mention o ≡ []
perhaps_none None = refl
perhaps_none (Some e) = refl

clauses_none : (clauses : List ResolvedClauseTree) → flat_map (clause_mentioned extent_mention) clauses ≡ []
clauses_none [] = refl
clauses_none (ClauseValue kind e ∷ rest) = clauses_none rest
clauses_none (Shared v ∷ rest) = clauses_none rest
clauses_none (Copied kind original copy ∷ rest) = clauses_none rest

-- behind what has none
behind_none : (xs es : List Extent) (ps : List Place) → xs ≡ [] → StandAt es ps → StandAt (xs ++ es) ps
behind_none xs es ps none h = subst (λ z. StandAt (z ++ es) ps) (sym none) h

declarators_stand : (ds : List ResolvedDeclaratorTree)
    → StandAt (flat_map (declarator_mentioned extent_mention) ds) (map declarator_place ds)
declarators_stand [] = tt
declarators_stand (d ∷ ds) =
    inl (
      refl,
      behind_none (perhaps_mentioned extent_mention d.initial) _ (map declarator_place ds)
          (perhaps_none d.initial) (declarators_stand ds),
    )

start_stands : (start : ResolvedStartTree) → StandAt (start_mentioned extent_mention start) (start_places start)
start_stands StartNothing = tt
start_stands (StartExpression e) = tt
start_stands (StartDeclaration ds) = declarators_stand ds

mutual
  unfolding mentioned all_mentioned parts_mentioned

  stand : (s : ResolvedStatementTree) → StandAt (mentioned extent_mention s) (statement_places s)
  stand (Declaration at ds) = declarators_stand ds
  stand (Block at items) = all_stand items
  stand (Empty at) = tt
  stand (Expression at e) = tt
  stand (If at c s) = stand s
  stand (IfElse at c s t) =
      together (mentioned extent_mention s) (mentioned extent_mention t) (statement_places s) (statement_places t)
      (stand s) (stand t)
  stand (While at c s) = stand s
  stand (Do at s c) =
      subst (λ z. StandAt z (statement_places s)) (sym (append-nil (mentioned extent_mention s))) (stand s)
  stand (For at start condition step s) =
      let own = mentioned extent_mention s in
      let turn = perhaps_mentioned extent_mention step in
      together (start_mentioned extent_mention start) _ (start_places start) (statement_places s) (start_stands start)
      (behind_none (perhaps_mentioned extent_mention condition) (turn ++ own) (statement_places s)
      (perhaps_none condition) (behind_none turn own (statement_places s) (perhaps_none step) (stand s)))
  stand (Return at None) = tt
  stand (Return at (Some e)) = tt
  stand (Break at) = tt
  stand (Continue at) = tt
  stand (Region at kind clauses captures s) =
      let listed = flat_map clause_places clauses in
      behind_none (flat_map (clause_mentioned extent_mention) clauses) (mentioned extent_mention s) _
      (clauses_none clauses)
      (further (Begun at) (mentioned extent_mention s) (listed ++ statement_places s)
      (behind listed (mentioned extent_mention s) (statement_places s) (stand s)))
  stand (Loop at clauses nowait l s) =
      let listed = flat_map clause_places clauses in
      let own = mentioned extent_mention s in
      behind_none (flat_map (clause_mentioned extent_mention) clauses) own _ (clauses_none clauses)
      (behind listed own (Declared l.variable ∷ statement_places s)
      (further (Declared l.variable) own (statement_places s) (stand s)))
  stand (Sections at clauses nowait parts) =
      let own = parts_mentioned extent_mention parts in
      behind_none (flat_map (clause_mentioned extent_mention) clauses) own _ (clauses_none clauses)
      (behind (flat_map clause_places clauses) own (parts_places parts) (parts_stand parts))
  stand (Construct at kind clauses s) =
      let own = mentioned extent_mention s in
      behind_none (flat_map (clause_mentioned extent_mention) clauses) own _ (clauses_none clauses)
      (behind (flat_map clause_places clauses) own (statement_places s) (stand s))
  stand (Update at u) = behind_none (perhaps_mentioned extent_mention u.index) [] [] (perhaps_none u.index) tt
  stand (StandAlone at directive) = tt

  all_stand : (items : ResolvedStatementsTree) → StandAt (all_mentioned extent_mention items) (statements_places items)
  all_stand NoStatements = tt
  all_stand (Statement s rest) =
      together (mentioned extent_mention s) (all_mentioned extent_mention rest) (statement_places s)
      (statements_places rest) (stand s) (all_stand rest)

  parts_stand : (parts : ResolvedPartsTree) → StandAt (parts_mentioned extent_mention parts) (parts_places parts)
  parts_stand NoParts = tt
  parts_stand (Part items rest) =
      together (all_mentioned extent_mention items) (parts_mentioned extent_mention rest) (statements_places items)
      (parts_places rest) (all_stand items) (parts_stand rest)

function_stands : (f : ResolvedFunctionTree) → StandAt (extents_of f) (function_places f)
function_stands f = behind (map Declared f.parameters) (extents_of f) (statements_places f.body) (all_stand f.body)

-- ---- places rise

-- each stands above the one before it, the first no lower than that
abbrev RiseFrom : ℕ → List Place → Type 0
RiseFrom least [] = Unit {0}
RiseFrom least (p ∷ ps) = (least ≤ byte_of p) × RiseFrom (suc (byte_of p)) ps

-- so do variables
abbrev Ascend : ℕ → List Extent → Type 0
Ascend least [] = Unit {0}
Ascend least (e ∷ es) = (least ≤ e.variable) × Ascend (suc e.variable) es

behind_first : (x : ℕ) (xs : List ℕ) → IsStrictlyIncreasing (x ∷ xs) → IsStrictlyIncreasing xs
behind_first x xs h k within =
    let e : suc k + 1 ≡ suc (k + 1) = omega arith in
    subst (λ n. slice_index xs k < slice_index (x ∷ xs) n) e (h (suc k) (omega (within, arith)))

rise : (least : ℕ) (p : Place) (ps : List Place) → least ≤ byte_of p → IsStrictlyIncreasing (map byte_of (p ∷ ps))
    → RiseFrom least (p ∷ ps)
rise least p [] le h = (le, tt)
rise least p (q ∷ ps) le h =
    let next : byte_of p < byte_of q = h zero (omega arith) in
    (le, rise (suc (byte_of p)) q ps (omega (arith, next)) (behind_first (byte_of p) (map byte_of (q ∷ ps)) h))

rise_all : (ps : List Place) → IsStrictlyIncreasing (map byte_of ps) → RiseFrom 0 ps
rise_all [] h = tt
rise_all (p ∷ ps) h = rise 0 p ps (omega arith) h

front_rises : (least : ℕ) (ps qs : List Place) → RiseFrom least (ps ++ qs) → RiseFrom least ps
front_rises least [] qs h = tt
front_rises least (p ∷ ps) qs h = (h.0, front_rises (suc (byte_of p)) ps qs h.1)

back_rises : (least : ℕ) (ps qs : List Place) → RiseFrom least (ps ++ qs) → (from : ℕ) × RiseFrom from qs
back_rises least [] qs h = (least, h)
back_rises least (p ∷ ps) qs h = back_rises (suc (byte_of p)) ps qs h.1

-- those of one function
function_rises : (fs : List ResolvedFunctionTree) (f : ResolvedFunctionTree) (least k : ℕ)
    → RiseFrom least (flat_map function_places fs) → k < length fs → get_or fs k f ≡ f
    → (from : ℕ) × RiseFrom from (function_places f)
function_rises [] f least k h within e = absurd (omega (arith, within))
function_rises (g ∷ fs) f least zero h within e = (
  least,
  subst (λ (it : ResolvedFunctionTree). RiseFrom least (function_places it)) e
      (front_rises least (function_places g) (flat_map function_places fs) h),
)
function_rises (g ∷ fs) f least (suc k) h within e =
    let rest = back_rises least (function_places g) (flat_map function_places fs) h in
    function_rises fs f rest.0 k rest.1 (omega (arith, within)) e

lower : (least other : ℕ) (es : List Extent) → least ≤ other → Ascend other es → Ascend least es
lower least other [] le h = tt
lower least other (e ∷ es) le h = let first = h.0 in (omega (arith, le, first), h.1)

ascend : (least : ℕ) (es : List Extent) (ps : List Place) → RiseFrom least ps → StandAt es ps → Ascend least es
ascend least [] ps h at = tt
ascend least (e ∷ es) [] h at = absurd at
ascend least (e ∷ es) (p ∷ ps) h (inl at) =
    let first = h.0 in
    let same = at.0 in
    (omega (arith, first, same), subst (λ n. Ascend (suc n) es) (sym same) (ascend (suc (byte_of p)) es ps h.1 at.1))
ascend least (e ∷ es) (p ∷ ps) h (inr at) =
    let first = h.0 in
    lower least (suc (byte_of p)) (e ∷ es) (omega (arith, first)) (ascend (suc (byte_of p)) (e ∷ es) ps h.1 at)

-- ---- cells

above : (es : List Extent) (e : Extent) (least k : ℕ) → Ascend least es → k < length es → get_or es k e ≡ e
    → least ≤ e.variable
above [] e least k h within is = absurd (omega (arith, within))
above (x ∷ es) e least zero h within is = subst (λ (it : Extent). least ≤ it.variable) is h.0
above (x ∷ es) e least (suc k) h within is =
    let first = h.0 in
    let rest = above es e (suc x.variable) k h.1 (omega (arith, within)) is in
    omega (arith, first, rest)

first_cells : (x : Extent) (es : List Extent) → cells_in (x ∷ es) x.variable ≡ x.cells
first_cells x es = ap (λ b. if b then x.cells else cells_in es x.variable) (eq-eqb x.variable x.variable refl)

further_cells : (x : Extent) (es : List Extent) (variable : ℕ) → x.variable < variable
    → cells_in (x ∷ es) variable ≡ cells_in es variable
further_cells x es variable lt = by (nat_eq x.variable variable) refl
  where
    by : (b : Bool) → nat_eq x.variable variable ≡ b
        → (if b then x.cells else cells_in es variable) ≡ cells_in es variable
    by true e = let same : x.variable ≡ variable = eqb-true x.variable variable e in absurd (omega (arith, lt, same))
    by false e = refl

own_cells : (es : List Extent) (e : Extent) (least k : ℕ) → Ascend least es → k < length es → get_or es k e ≡ e
    → cells_in es e.variable ≡ e.cells
own_cells [] e least k h within is = absurd (omega (arith, within))
own_cells (x ∷ es) e least zero h within is =
    subst (λ (it : Extent). cells_in (x ∷ es) it.variable ≡ it.cells) is (first_cells x es)
own_cells (x ∷ es) e least (suc k) h within is =
    let inside : k < length es = omega (arith, within) in
    let more = above es e (suc x.variable) k h.1 inside is in
    further_cells x es e.variable (omega (arith, more)) ∙ own_cells es e (suc x.variable) k h.1 inside is

module _ (places_rise : PlacesRise) where
  pub declared_cells : DeclaredCells
  declared_cells source tokens unit tree f e lexed spelled resolves function extent =
      let all = rise_all (tree_places tree) (places_rise source tokens unit tree lexed spelled resolves) in
      let own = function_rises tree.functions f 0 function.0 all function.1 function.2 in
      own_cells (extents_of f) e own.0 extent.0 (ascend own.0 (extents_of f) (function_places f) own.1
      (function_stands f)) extent.1 extent.2
