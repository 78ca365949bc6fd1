-- What the regions of a source take is seen outside of them, as its declarations stand in the order of its text.
use Rattle.std.proofs.Common.{◌≡◌, ℕ, suc, ◌+◌, ◌<◌, ◌≤◌, ◌⊎◌, Bool, true, false, List, [], ◌∷◌, ◌++◌, inl, inr, ap}
use Rattle.std.proofs.Common.{arith, flat_map, fold, map, nat_eq, nat_lt, refl, subst, ⊎_elim}
use Rattle.std.specs.Prelude.{All, IsSomeAnd, Option, None, Some, slice_index, ◌&&◌, ◌||◌, not, if◌then◌else◌}
use Rattle.std.specs.List.{list_any}
use Rattle.std.specs.List.Sorted.{IsStrictlyIncreasing}
use Rattle.std.proofs.lemmas.Bool.{eq-eqb, ltb-true}
use Rattle.std.proofs.lemmas.List.Elements.{All-nil, All-cons, All-head, All-tail}
use Rattle.om_scope_rules.specs.TreePlaces.{Place, Declared, Begun, byte_of, clause_places}
use Rattle.om_scope_rules.specs.TreePlaces.{function_places, parts_places, start_places, statement_places}
use Rattle.om_scope_rules.specs.TreePlaces.{statements_places}
use Rattle.om_scope_tree.specs.declared.resolved.Capture.{Capture}
use Rattle.om_scope_tree.specs.declared.resolved.CopyKind.{CopyKind}
use Rattle.om_scope_tree.specs.declared.resolved.CopyKind.TheVariants as copies
use Rattle.om_scope_tree.specs.declared.resolved.GlobalVariable.{GlobalVariable}
use Rattle.om_scope_tree.specs.declared.resolved.LocalVariable.{LocalVariable}
use Rattle.om_scope_tree.specs.declared.resolved.Variable as variables
use Rattle.om_scope_tree.specs.declared.resolved.Variable.TheVariants as named
use Rattle.om_scope_tree.specs.Captures.{captured_variable, combined_uses, is_further, listed_uses, listed_variables}
use Rattle.om_scope_tree.specs.Captures.{statement_uses, taken_variables, variable_uses, with_use}
use Rattle.om_scope_tree.specs.ResolvedTree.{ResolvedClauseTree, ClauseValue, Shared, Copied, ResolvedStatementTree}
use Rattle.om_scope_tree.specs.ResolvedTree.{Declaration, Block, Empty, Expression, If, IfElse, While, Do, For, Return}
use Rattle.om_scope_tree.specs.ResolvedTree.{Break, Continue, Region, Loop, Sections, Construct, Update, StandAlone}
use Rattle.om_scope_tree.specs.ResolvedTree.{ResolvedStatementsTree, NoStatements, Statement, ResolvedPartsTree}
use Rattle.om_scope_tree.specs.ResolvedTree.{NoParts}
use Rattle.om_scope_tree.specs.ResolvedTree.{Part, ResolvedFunctionTree}
use Rattle.om_scope_tree.specs.Whole as whole
use Rattle.om_scope_tree.specs.Whole.{Around, AreWholeItems, AreWholeParts, IsWholeFunction, IsWholeStatement}
use Rattle.om_scope_rules.specs.PlaceLaws.{PlacesRise}
use Rattle.om_scope_rules.specs.TreePlaces.{tree_places}
use Rattle.om_scope_rules.specs.UnitResolution.{resolution_of}
use Rattle.om_scope_rules.specs.WholeLaws.{UnbrokenTreesAreWhole}
use Rattle.om_scope_tree.specs.ResolvedTree.{ResolvedTree}
use Rattle.om_scope_tree.specs.Whole.{IsWholeTree}
use Rattle.om_name_laws.specs.SourceLaws.{SourcesSeeNames}
use Rattle.om_name_laws.proofs.UnitsSee.{sources_see_most}
use Rattle.om_name_laws.specs.Sees.{Known, CapturesSee, ClausesSee, CopySees, FunctionSees, IsSeen, ItemsSee, PartsSee}
use Rattle.om_name_laws.specs.Sees.{StatementSees, after_item, after_start, known_scalar, with_copies, with_parameters}
use Rattle.om_name_laws.proofs.Known.{Anything, PlacesOf, places_back, places_front}
use Rattle.om_name_laws.proofs.Outside.{Has, first_or, one_of_both, out_copies, statement_use, variable_of}

-- ---- places rise

-- each stands above the one before it, the first no lower than that
abbrev pub Rise : ℕ → List Place → Type 0
Rise least [] = Unit {0}
Rise least (p ∷ ps) = (least ≤ byte_of p) × Rise (suc (byte_of p)) ps

rise_front : (least : ℕ) (ps qs : List Place) → Rise least (ps ++ qs) → Rise least ps
rise_front least [] qs h = tt
rise_front least (p ∷ ps) qs h = (h.0, rise_front (suc (byte_of p)) ps qs h.1)

rise_back : (least : ℕ) (ps qs : List Place) → Rise least (ps ++ qs) → (from : ℕ) × Rise from qs
rise_back least [] qs h = (least, h)
rise_back least (p ∷ ps) qs h = rise_back (suc (byte_of p)) ps qs h.1

-- so they stand no earlier than that
rise_behind : (least n : ℕ) (ps : List Place) → n ≤ least → Rise least ps → PlacesOf (λ name at. n ≤ at) ps
rise_behind least n [] le h = tt
rise_behind least n (Declared v ∷ ps) le h =
    let first = h.0 in (omega (arith, le, first), rise_behind (suc v.at) n ps (omega (arith, le, first)) h.1)
rise_behind least n (Begun s ∷ ps) le h =
    let first = h.0 in rise_behind (suc s.start) n ps (omega (arith, le, first)) h.1

behind_first : (x : ℕ) (xs : List ℕ) → IsStrictlyIncreasing (x ∷ xs) → IsStrictlyIncreasing xs
behind_first x xs h k within =
    let e : suc k + 1 ≡ suc (k + 1) = omega arith in
    subst (λ n. slice_index xs k < slice_index (x ∷ xs) n) e (h (suc k) (omega (within, arith)))

rise_one : (least : ℕ) (p : Place) (ps : List Place) → least ≤ byte_of p → IsStrictlyIncreasing (map byte_of (p ∷ ps))
    → Rise least (p ∷ ps)
rise_one least p [] le h = (le, tt)
rise_one least p (q ∷ ps) le h =
    let next : byte_of p < byte_of q = h 0 (omega arith) in
    (le, rise_one (suc (byte_of p)) q ps (omega (arith, next)) (behind_first (byte_of p) (map byte_of (q ∷ ps)) h))

pub rise_all : (ps : List Place) → IsStrictlyIncreasing (map byte_of ps) → Rise 0 ps
rise_all [] h = tt
rise_all (p ∷ ps) h = rise_one 0 p ps (omega arith) h

-- ---- what a region takes

further : (start : ℕ) (found : List ℕ) (y : ℕ) → is_further start found y ≡ true → y < start
further start found y e = by (nat_lt y start) refl e
  where
    by : (b : Bool) → nat_lt y start ≡ b → (b && not (list_any (nat_eq y) found)) ≡ true → y < start
    by true same e = ltb-true y start same
    by false same e = absurd cc

used : (start x : ℕ) (found : List ℕ) (y : ℕ) → Has x (with_use start found y)
    → Has x found ⊎ ((x < start) × (x ≡ y))
used start x found y h = by (is_further start found y) refl h
  where
    by : (b : Bool) → is_further start found y ≡ b → Has x (if b then found ++ y ∷ [] else found)
        → Has x found ⊎ ((x < start) × (x ≡ y))
    by false e h = inl h
    by true e h =
        ⊎_elim (λ (one : Has x found). inl one)
        (λ (other : Has x (y ∷ [])). ⊎_elim
        (λ (same : x ≡ y). inr (let lt = further start found y e in omega (arith, lt, same), same))
        (λ (none : Has x []). absurd cc) (first_or x y [] other))
        (one_of_both x found (y ∷ []) h)

or_first : (x y : ℕ) (ys : List ℕ) → x ≡ y → Has x (y ∷ ys)
or_first x y ys e = ap (λ b. b || list_any (nat_eq x) ys) (eq-eqb x y e)

or_rest : (x y : ℕ) (ys : List ℕ) → Has x ys → Has x (y ∷ ys)
or_rest x y ys h = by (nat_eq x y)
  where
    by : (b : Bool) → (b || list_any (nat_eq x) ys) ≡ true
    by true = refl
    by false = h

all_used : (start x : ℕ) (xs found : List ℕ) → Has x (fold (with_use start) found xs)
    → Has x found ⊎ ((x < start) × Has x xs)
all_used start x [] found h = inl h
all_used start x (y ∷ xs) found h =
    ⊎_elim
    (λ (one : Has x (with_use start found y)). ⊎_elim (λ (old : Has x found). inl old)
    (λ (new : (x < start) × (x ≡ y)). inr (new.0, or_first x y xs new.1)) (used start x found y one))
    (λ (more : (x < start) × Has x xs). inr (more.0, or_rest x y xs more.1))
    (all_used start x xs (with_use start found y) h)

module _ (globals : List GlobalVariable) where
  copy_listed : (kind : CopyKind) (original : variables.Variable) (copy : LocalVariable) (x : ℕ) (ks : List Known)
      → CopySees globals ks kind original copy → Has x (combined_uses kind original)
      → IsSeen globals ks (named.Local x)
  copy_listed copies.Private original copy x ks h u = absurd cc
  copy_listed copies.Firstprivate original copy x ks h u = absurd cc
  copy_listed (copies.Reduction o) original copy x ks h u =
      variable_of (IsSeen globals ks) x original (copy.name, h) u

  listed : (cs : List ResolvedClauseTree) (x : ℕ) (ks : List Known) → ClausesSee globals ks cs
      → Has x (flat_map listed_uses cs) → IsSeen globals ks (named.Local x)
  listed [] x ks h u = absurd cc
  listed (ClauseValue kind e ∷ cs) x ks h u = listed cs x ks h.1 u
  listed (Shared v ∷ cs) x ks h u =
      ⊎_elim (λ (a : Has x (variable_uses v)). variable_of (IsSeen globals ks) x v h.0 a) (listed cs x ks h.1)
      (one_of_both x (variable_uses v) (flat_map listed_uses cs) u)
  listed (Copied kind original copy ∷ cs) x ks h u =
      ⊎_elim (λ (a : Has x (combined_uses kind original)). copy_listed kind original copy x ks h.0 a)
      (listed cs x ks h.1) (one_of_both x (combined_uses kind original) (flat_map listed_uses cs) u)

  -- a variable that a region takes
  taken_seen : (start : ℕ) (cs : List ResolvedClauseTree) (s : ResolvedStatementTree) (ks : List Known)
      → ClausesSee globals ks cs → StatementSees (CapturesSee globals) globals (with_copies ks cs) s
      → PlacesOf (λ name at. start ≤ at) (flat_map clause_places cs ++ statement_places s) → (x : ℕ)
      → Has x (taken_variables start cs s) → IsSeen globals ks (named.Local x)
  taken_seen start cs s ks hc hs p x u =
      ⊎_elim
      (λ (a : Has x (listed_variables start cs)). ⊎_elim (λ (none : Has x []). absurd cc)
      (λ (b : (x < start) × Has x (flat_map listed_uses cs)). listed cs x ks hc b.1)
      (all_used start x (flat_map listed_uses cs) [] a))
      (λ (b : (x < start) × Has x (statement_uses s)). out_copies globals start x b.0 cs ks
      (places_front (λ name at. start ≤ at) (flat_map clause_places cs) (statement_places s) p)
      (statement_use globals start x b.0 s (with_copies ks cs) hs
      (places_back (λ name at. start ≤ at) (flat_map clause_places cs) (statement_places s) p) b.1))
      (all_used start x (statement_uses s) (listed_variables start cs) u)

  captures_seen : (ts : List Capture) (ks : List Known)
      → ((x : ℕ) → Has x (map captured_variable ts) → IsSeen globals ks (named.Local x)) → CapturesSee globals ks ts
  captures_seen [] ks h = tt
  captures_seen (t ∷ ts) ks h = (
    h t.variable (or_first t.variable t.variable (map captured_variable ts) refl),
    captures_seen ts ks (λ x u. h x (or_rest x t.variable (map captured_variable ts) u)),
  )

  -- ---- statements

  mutual
    pub statement_seen : (s : ResolvedStatementTree) (ks : List Known) (around : Around) (least : ℕ)
        → StatementSees Anything globals ks s → IsWholeStatement around s → Rise least (statement_places s)
        → StatementSees (CapturesSee globals) globals ks s
    statement_seen (Declaration at ds) ks around least h w r = h
    statement_seen (Block at items) ks around least h w r = items_seen items ks around least h w r
    statement_seen (Empty at) ks around least h w r = h
    statement_seen (Expression at e) ks around least h w r = h
    statement_seen (If at c s) ks around least h w r = (h.0, statement_seen s ks around least h.1 w.1 r)
    statement_seen (IfElse at c s t) ks around least h w r =
        let rest = rise_back least (statement_places s) (statement_places t) r in (
          h.0,
          statement_seen s ks around least h.1 w.1 (rise_front least (statement_places s) (statement_places t) r),
          statement_seen t ks around rest.0 h.2 w.2 rest.1,
        )
    statement_seen (While at c s) ks around least h w r =
        (h.0, statement_seen s ks (whole.repeated around) least h.1 w.1 r)
    statement_seen (Do at s c) ks around least h w r =
        (statement_seen s ks (whole.repeated around) least h.0 w.0 r, h.1)
    statement_seen (For at start c step s) ks around least h w r =
        let rest = rise_back least (start_places start) (statement_places s) r in (
          h.0,
          h.1,
          h.2,
          statement_seen s (after_start ks start) (whole.repeated (whole.after_start around start)) rest.0 h.3 w.3
              rest.1,
        )
    statement_seen (Return at e) ks around least h w r = h
    statement_seen (Break at) ks around least h w r = h
    statement_seen (Continue at) ks around least h w r = h
    statement_seen (Region at kind cs ts s) ks around least h w r =
        let first = r.0 in
        let rest = rise_back (suc at.start) (flat_map clause_places cs) (statement_places s) r.1 in
        let body = statement_seen s (with_copies ks cs) (whole.within around cs) rest.0 h.2 w.2 rest.1 in
        let behind = rise_behind (suc at.start) at.start (flat_map clause_places cs ++ statement_places s)
        (omega arith) r.1 in (
          h.0,
          captures_seen ts ks (λ x u. taken_seen at.start cs s ks h.0 body behind x (subst (Has x) w.1.taken u)),
          body,
        )
    statement_seen (Loop at cs nowait l s) ks around least h w r =
        let rest = rise_back least (flat_map clause_places cs) (Declared l.variable ∷ statement_places s) r in (
          h.0,
          h.1,
          statement_seen s (known_scalar l.variable ∷ with_copies ks cs) (whole.iterated around cs l)
              (suc l.variable.at) h.2 w.2 rest.1.1,
        )
    statement_seen (Sections at cs nowait parts) ks around least h w r =
        let rest = rise_back least (flat_map clause_places cs) (parts_places parts) r in
        (h.0, parts_seen parts (with_copies ks cs) (whole.within around cs) rest.0 h.1 w.3 rest.1)
    statement_seen (Construct at kind cs s) ks around least h w r =
        let rest = rise_back least (flat_map clause_places cs) (statement_places s) r in
        (h.0, h.1, statement_seen s (with_copies ks cs) (whole.within around cs) rest.0 h.2 w.1 rest.1)
    statement_seen (Update at u) ks around least h w r = h
    statement_seen (StandAlone at directive) ks around least h w r = h

    pub items_seen : (items : ResolvedStatementsTree) (ks : List Known) (around : Around) (least : ℕ)
        → ItemsSee Anything globals ks items → AreWholeItems around items → Rise least (statements_places items)
        → ItemsSee (CapturesSee globals) globals ks items
    items_seen NoStatements ks around least h w r = tt
    items_seen (Statement s rest) ks around least h w r =
        let more = rise_back least (statement_places s) (statements_places rest) r in (
          statement_seen s ks around least h.0 w.0
              (rise_front least (statement_places s) (statements_places rest) r),
          items_seen rest (after_item ks s) (whole.after_item around s) more.0 h.1 w.1 more.1,
        )

    parts_seen : (parts : ResolvedPartsTree) (ks : List Known) (around : Around) (least : ℕ)
        → PartsSee Anything globals ks parts → AreWholeParts around parts → Rise least (parts_places parts)
        → PartsSee (CapturesSee globals) globals ks parts
    parts_seen NoParts ks around least h w r = tt
    parts_seen (Part items rest) ks around least h w r =
        let more = rise_back least (statements_places items) (parts_places rest) r in (
          items_seen items ks around least h.0 w.1
              (rise_front least (statements_places items) (parts_places rest) r),
          parts_seen rest ks around more.0 h.1 w.2 more.1,
        )

  pub functions_seen : (functions : List ResolvedFunctionTree) (fs : List ResolvedFunctionTree) (least : ℕ)
      → All (FunctionSees Anything globals) fs → All (IsWholeFunction globals functions) fs
      → Rise least (flat_map function_places fs) → All (FunctionSees (CapturesSee globals) globals) fs
  functions_seen functions [] least h w r = All-nil (FunctionSees (CapturesSee globals) globals)
  functions_seen functions (f ∷ fs) least h w r =
      let own = rise_front least (function_places f) (flat_map function_places fs) r in
      let rest = rise_back least (function_places f) (flat_map function_places fs) r in
      let body = rise_back least (map Declared f.parameters) (statements_places f.body) own in
      All-cons (FunctionSees (CapturesSee globals) globals) f fs
      (items_seen f.body (with_parameters [] f.parameters) (whole.at_function globals functions f) body.0
      (All-head (FunctionSees Anything globals) f fs h)
      (All-head (IsWholeFunction globals functions) f fs w).body body.1)
      (functions_seen functions fs rest.0 (All-tail (FunctionSees Anything globals) f fs h)
      (All-tail (IsWholeFunction globals functions) f fs w) rest.1)

-- ---- a whole source

module _ (places_rise : PlacesRise) (wholes : UnbrokenTreesAreWhole) where
  pub sources_see : SourcesSeeNames
  sources_see source tokens unit tree lexed spelled formed forms none e =
      let w = whole_of tree (resolution_of unit) e (wholes unit formed forms none) in
      functions_seen tree.globals tree.functions tree.functions 0 (sources_see_most unit tree formed none e) w.functions
      (rise_all (tree_places tree) (places_rise source tokens unit tree lexed spelled e))
    where
      whole_of : (tree : ResolvedTree) (o : Option ResolvedTree) → o ≡ Some tree → IsSomeAnd o IsWholeTree
          → IsWholeTree tree
      whole_of tree None e h = absurd cc
      whole_of tree (Some t) e h = let same : t ≡ tree = cc e in subst IsWholeTree same h
