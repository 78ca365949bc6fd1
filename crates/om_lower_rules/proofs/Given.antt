-- The slots of a body: each has its cells, those that are shared are in the body round it, and those that
-- values are given to are its own.
use Rattle.std.proofs.Common.{◌≡◌, ℕ, ◌<◌, ◌≤◌, Bool, true, false, List, [], ◌∷◌, ◌++◌, Option, Some, refl, sym, ap}
use Rattle.std.proofs.Common.{◌∙◌, subst, arith}
use Rattle.std.specs.Prelude.{slice_get, map, option_map, nat_eq, nat_lt, not, ◌&&◌, ◌||◌, fold, All, IsSomeAnd}
use Rattle.std.specs.Prelude.{if◌then◌else◌}
use Rattle.std.specs.List.{flat_map, list_any}
use Rattle.std.proofs.lemmas.Bool.{eqb-true, eq-eqb, ltb-true}
use Rattle.std.proofs.lemmas.List.Elements.{All-nil, All-cons, All-head, All-tail, All-append}
use Rattle.std.proofs.lemmas.List.Folds.{list_any-append}
use Rattle.std.proofs.lemmas.Option.{slice_get-map}
use Rattle.om_code.specs.declared.raw.Slot.{Slot}
use Rattle.om_code.specs.declared.raw.Source.TheVariants.{Own, Outer}
use Rattle.om_code.specs.Validity.{FitsOuter, IsGiven}
use Rattle.om_scope_tree.specs.declared.resolved.Capture.{Capture}
use Rattle.om_scope_tree.specs.declared.resolved.CopyKind.TheVariants as copies
use Rattle.om_scope_tree.specs.declared.resolved.Taking.{Taking}
use Rattle.om_scope_tree.specs.declared.resolved.Taking.TheVariants as takings
use Rattle.om_scope_tree.specs.Beside.{IsCopyBehind}
use Rattle.om_scope_tree.specs.Captures.{captured_variable, with_use, listed_uses, listed_variables, taken_variables}
use Rattle.om_scope_tree.specs.Captures.{statement_uses}
use Rattle.om_scope_tree.specs.ResolvedTree.{ResolvedClauseTree, ClauseValue, Shared, Copied, ResolvedStatementTree}
use Rattle.om_lower_rules.specs.Slots.{Extent, cells_in, is_shared, shares, source_of, slot_of, slot_with, FirstCopy}
use Rattle.om_lower_rules.specs.Slots.{clause_first, capture_first, taken_first, first_copies, first_copy_at, by_slots}
use Rattle.om_lower_rules.proofs.Named.{number_found, Has}
use Rattle.om_lower_rules.proofs.Placed.{HasCells}

-- a variable has a cell
pub cells_there : (extents : List Extent) (x : ℕ) → All HasCells extents → 1 ≤ cells_in extents x
cells_there [] x all = omega arith
cells_there (e ∷ es) x all = chosen (nat_eq e.variable x) (cells_there es x (All-tail HasCells e es all))
  where
    chosen : (b : Bool) → 1 ≤ cells_in es x → 1 ≤ (if b then e.cells else cells_in es x)
    chosen true rest = All-head HasCells e es all
    chosen false rest = rest

-- ---- slots of the body round it

-- a shared variable is among the captured ones
shared_among : (table : List ℕ) (captures : List Capture) (x : ℕ) → Has nat_eq table (map captured_variable captures)
    → list_any (shares x) captures ≡ true → list_any (nat_eq x) table ≡ true
shared_among table [] x h e = absurd cc
shared_among table (c ∷ cs) x h e = first (nat_eq c.variable x) refl e (shared_among table cs x h.1)
  where
    first : (b : Bool) → nat_eq c.variable x ≡ b → ((if b then is_shared c.taking else false) || list_any (shares x)
        cs) ≡ true
        → (list_any (shares x) cs ≡ true → list_any (nat_eq x) table ≡ true) → list_any (nat_eq x) table ≡ true
    first true same e rest = ap (λ z. list_any (nat_eq z) table) (sym (eqb-true c.variable x same)) ∙ h.0
    first false same e rest = rest e

module _ (extents : List Extent) (round : List ℕ) (taken : List Capture) (variables : List ℕ) where
  -- the slot of a variable that a body has
  pub slot_is : (x : ℕ) → list_any (nat_eq x) variables ≡ true
      → slice_get (map (slot_with extents round taken) variables) (slot_of variables x)
      ≡ Some (slot_with extents round taken x)
  slot_is x e =
      let found = number_found (nat_eq x) variables e in
      let same : x ≡ found.0 = eqb-true x found.0 found.2 in
      slice_get-map (slot_with extents round taken) variables (slot_of variables x)
      ∙ ap (λ z. option_map (slot_with extents round taken) z) found.1
      ∙ ap (λ z. Some (slot_with extents round taken z)) (sym same)

  pub given_own : (x : ℕ) → list_any (nat_eq x) variables ≡ true → list_any (shares x) taken ≡ false
      → IsGiven (map (slot_with extents round taken) variables) (slot_of variables x)
  given_own x e unshared =
      let own : source_of round taken x ≡ Own = ap (λ b. if b then Outer (slot_of round x) else Own) unshared in
      subst (λ (z : Option Slot). IsSomeAnd z (λ slot. slot.source ≡ Own)) (sym (slot_is x e)) own

-- a slot has its cells in itself, or in a slot as large of the body round it
pub fits_round : (extents : List Extent) (before : List ℕ) (held taken : List Capture) (round : List ℕ) (x : ℕ)
    → Has nat_eq round (map captured_variable taken)
    → FitsOuter (map (slot_with extents before held) round) (cells_in extents x) (source_of round taken x)
fits_round extents before held taken round x h = chosen (list_any (shares x) taken) refl
  where
    chosen : (b : Bool) → list_any (shares x) taken ≡ b
        → FitsOuter (map (slot_with extents before held) round) (cells_in extents x)
        (if b then Outer (slot_of round x) else Own)
    chosen true e =
        subst (λ (z : Option Slot). IsSomeAnd z (λ slot. slot.cells ≡ cells_in extents x))
        (sym (slot_is extents before held round x (shared_among round taken x h e))) refl
    chosen false e = tt

-- ---- what a region takes

-- each stands before a place, and no two are one
abbrev pub AreApart : List ℕ → Type 0
AreApart [] = Unit {0}
AreApart (x ∷ xs) = (list_any (nat_eq x) xs ≡ false) × AreApart xs

abbrev pub AreBefore : ℕ → List ℕ → Type 0
AreBefore start xs = All (λ x. x < start) xs

nat_eq_flip : (x y : ℕ) → nat_eq x y ≡ false → nat_eq y x ≡ false
nat_eq_flip x y e = flipped (nat_eq y x) refl
  where
    flipped : (b : Bool) → nat_eq y x ≡ b → b ≡ false
    flipped true same = absurd (let one : nat_eq x y ≡ true = eq-eqb x y (sym (eqb-true y x same)) in cc)
    flipped false same = refl

apart_push : (xs : List ℕ) (y : ℕ) → AreApart xs → list_any (nat_eq y) xs ≡ false → AreApart (xs ++ y ∷ [])
apart_push [] y a e = (refl, tt)
apart_push (x ∷ xs) y a e = chosen (nat_eq y x) refl e (λ none. apart_push xs y a.1 none)
  where
    behind : list_any (nat_eq y) xs ≡ false → nat_eq y x ≡ false → list_any (nat_eq x) (xs ++ y ∷ []) ≡ false
    behind none differ = list_any-append (nat_eq x) xs (y ∷ []) ∙ ap (λ z. z || (nat_eq x y || false)) a.0
        ∙ ap (λ z. z || false) (nat_eq_flip y x differ)

    chosen : (b : Bool) → nat_eq y x ≡ b → (b || list_any (nat_eq y) xs) ≡ false
        → (list_any (nat_eq y) xs ≡ false → AreApart (xs ++ y ∷ []))
        → AreApart (x ∷ (xs ++ y ∷ []))
    chosen true same e rest = absurd cc
    chosen false same e rest = (behind e same, rest e)

-- variables that are taken so far
pub record IsTaken (start : ℕ) (xs : List ℕ) : Type 0 where
  pub before : AreBefore start xs
  pub apart : AreApart xs

further_taken : (start : ℕ) (found : List ℕ) (x : ℕ) → IsTaken start found → IsTaken start (with_use start found x)
further_taken start found x t = chosen (nat_lt x start) (list_any (nat_eq x) found) refl refl
  where
    chosen : (b c : Bool) → nat_lt x start ≡ b → list_any (nat_eq x) found ≡ c
        → IsTaken start (if (b && not c) then found ++ x ∷ [] else found)
    chosen true false lt none = record {
      before = All-append (λ (z : ℕ). z < start) found (x ∷ []) t.before (All-cons (λ (z : ℕ). z < start) x []
          (ltb-true x start lt) (All-nil (λ (z : ℕ). z < start)));
      apart = apart_push found x t.apart none;
    }
    chosen true true lt none = t
    chosen false c lt none = t

uses_taken : (start : ℕ) (uses found : List ℕ) → IsTaken start found → IsTaken start (fold (with_use start) found uses)
uses_taken start [] found t = t
uses_taken start (x ∷ uses) found t = uses_taken start uses (with_use start found x) (further_taken start found x t)

pub taken_is : (start : ℕ) (clauses : List ResolvedClauseTree) (s : ResolvedStatementTree)
    → IsTaken start (taken_variables start clauses s)
taken_is start clauses s =
    uses_taken start (statement_uses s) (listed_variables start clauses)
    (uses_taken start (flat_map listed_uses clauses) []
    (record { before = All-nil (λ (z : ℕ). z < start); apart = tt }))

-- a copy of the region stands for none of the variables that it shares
abbrev pub IsUnshared : List Capture → FirstCopy → Type 0
IsUnshared captures copy = list_any (shares copy.variable) captures ≡ false

behind_unshared : (start : ℕ) (captures : List Capture) (x : ℕ) → AreBefore start (map captured_variable captures)
    → start ≤ x → list_any (shares x) captures ≡ false
behind_unshared start [] x before le = refl
behind_unshared start (c ∷ cs) x before le =
    chosen (nat_eq c.variable x) refl (behind_unshared start cs x (All-tail (λ (z : ℕ). z < start) c.variable
    (map captured_variable cs) before) le)
  where
    chosen : (b : Bool) → nat_eq c.variable x ≡ b → list_any (shares x) cs ≡ false
        → ((if b then is_shared c.taking else false) || list_any (shares x) cs) ≡ false
    chosen true same rest =
        let lt = All-head (λ (z : ℕ). z < start) c.variable (map captured_variable cs) before in
        absurd (omega (arith, eqb-true c.variable x same, lt, le))
    chosen false same rest = rest

clause_unshared : (start : ℕ) (captures : List Capture) (clauses : List ResolvedClauseTree) → AreBefore start
    (map captured_variable captures)
    → All (IsCopyBehind start) clauses → All (IsUnshared captures) (flat_map clause_first clauses)
clause_unshared start captures [] before behind = All-nil (IsUnshared captures)
clause_unshared start captures (ClauseValue kind e ∷ cs) before behind = clause_unshared start captures cs before
    (All-tail (IsCopyBehind start) _ cs behind)
clause_unshared start captures (Shared x ∷ cs) before behind = clause_unshared start captures cs before
    (All-tail (IsCopyBehind start) _ cs behind)
clause_unshared start captures (Copied copies.Private x copy ∷ cs) before behind = clause_unshared start captures cs
    before (All-tail (IsCopyBehind start) _ cs behind)
clause_unshared start captures (Copied copies.Firstprivate x copy ∷ cs) before behind =
    All-cons (IsUnshared captures) _ (flat_map clause_first cs)
    (behind_unshared start captures copy.at before
    (All-head (IsCopyBehind start) (Copied copies.Firstprivate x copy) cs behind))
    (clause_unshared start captures cs before (All-tail (IsCopyBehind start) _ cs behind))
clause_unshared start captures (Copied (copies.Reduction o) x copy ∷ cs) before behind = clause_unshared start
    captures cs before (All-tail (IsCopyBehind start) _ cs behind)

-- the same of a captured copy, which is one of these
pub record IsCaptured (captures : List Capture) (copy : FirstCopy) : Type 0 where
  pub unshared : list_any (shares copy.variable) captures ≡ false
  pub among : list_any (nat_eq copy.variable) (map captured_variable captures) ≡ true

absent_differs : (x y : ℕ) (xs : List ℕ) → list_any (nat_eq x) xs ≡ false → list_any (nat_eq y) xs ≡ true
    → nat_eq x y ≡ false
absent_differs x y xs absent there = chosen (nat_eq x y) refl
  where
    chosen : (b : Bool) → nat_eq x y ≡ b → b ≡ false
    chosen true same = absurd (let one : list_any (nat_eq x) xs ≡ true = ap (λ z. list_any (nat_eq z) xs)
        (eqb-true x y same) ∙ there in cc)
    chosen false same = refl

further_captured : (c : Capture) (cs : List Capture) (xs : List FirstCopy) → list_any (nat_eq c.variable)
    (map captured_variable cs) ≡ false
    → All (IsCaptured cs) xs → All (IsCaptured (c ∷ cs)) xs
further_captured c cs [] absent all = All-nil (IsCaptured (c ∷ cs))
further_captured c cs (x ∷ xs) absent all =
    let one = All-head (IsCaptured cs) x xs all in
    let differ : nat_eq c.variable x.variable ≡ false = absent_differs c.variable x.variable
    (map captured_variable cs) absent one.among in
    All-cons (IsCaptured (c ∷ cs)) x xs
    (record {
      unshared = ap (λ b. (if b then is_shared c.taking else false) || list_any (shares x.variable) cs) differ
          ∙ one.unshared;
      among = ap (λ b. b || list_any (nat_eq x.variable) (map captured_variable cs))
          (nat_eq_flip c.variable x.variable differ) ∙ one.among;
    })
    (further_captured c cs xs absent (All-tail (IsCaptured cs) x xs all))

-- no capture shares a variable that is none of theirs
absent_unshared : (x : ℕ) (cs : List Capture) → list_any (nat_eq x) (map captured_variable cs) ≡ false
    → list_any (shares x) cs ≡ false
absent_unshared x [] e = refl
absent_unshared x (c ∷ cs) e = chosen (nat_eq x c.variable) refl e (absent_unshared x cs)
  where
    chosen : (b : Bool) → nat_eq x c.variable ≡ b → (b || list_any (nat_eq x) (map captured_variable cs)) ≡ false
        → (list_any (nat_eq x) (map captured_variable cs) ≡ false → list_any (shares x) cs ≡ false)
        → ((if nat_eq c.variable x then is_shared c.taking else false) || list_any (shares x) cs) ≡ false
    chosen true same e rest = absurd cc
    chosen false same e rest = ap (λ z. (if z then is_shared c.taking else false) || list_any (shares x) cs)
        (nat_eq_flip x c.variable same) ∙ rest e

captured_here : (c : Capture) (cs : List Capture) → list_any (nat_eq c.variable) (map captured_variable cs) ≡ false
    → (taking : Taking) → c.taking ≡ taking → All (IsCaptured (c ∷ cs)) (taken_first taking c.variable)
captured_here c cs absent takings.Shared e = All-nil (IsCaptured (c ∷ cs))
captured_here c cs absent takings.Firstprivate e =
    All-cons (IsCaptured (c ∷ cs)) _ []
    (record {
      unshared =
          ap (λ b. (if b then is_shared c.taking else false) || list_any (shares c.variable) cs)
          (eq-eqb c.variable c.variable refl)
          ∙ ap (λ z. is_shared z || list_any (shares c.variable) cs) e ∙ absent_unshared c.variable cs absent;
      among = ap (λ b. b || list_any (nat_eq c.variable) (map captured_variable cs))
          (eq-eqb c.variable c.variable refl);
    })
    (All-nil (IsCaptured (c ∷ cs)))

captures_apart : (captures : List Capture) → AreApart (map captured_variable captures) → All (IsCaptured captures)
    (flat_map capture_first captures)
captures_apart [] a = All-nil (IsCaptured [])
captures_apart (c ∷ cs) a =
    All-append (IsCaptured (c ∷ cs)) (capture_first c) (flat_map capture_first cs)
    (captured_here c cs a.0 c.taking refl) (further_captured c cs (flat_map capture_first cs) a.0
    (captures_apart cs a.1))

unshared_only : (captures : List Capture) (xs : List FirstCopy) → All (IsCaptured captures) xs
    → All (IsUnshared captures) xs
unshared_only captures [] all = All-nil (IsUnshared captures)
unshared_only captures (x ∷ xs) all =
    All-cons (IsUnshared captures) x xs (All-head (IsCaptured captures) x xs all).unshared
    (unshared_only captures xs (All-tail (IsCaptured captures) x xs all))

pub first_unshared : (start : ℕ) (clauses : List ResolvedClauseTree) (captures : List Capture)
    (s : ResolvedStatementTree)
    → map captured_variable captures ≡ taken_variables start clauses s → All (IsCopyBehind start) clauses
    → All (IsUnshared captures) (first_copies clauses captures)
first_unshared start clauses captures s taken behind =
    let t : IsTaken start (map captured_variable captures) = subst (λ z. IsTaken start z) (sym taken)
    (taken_is start clauses s) in
    All-append (IsUnshared captures) (flat_map clause_first clauses) (flat_map capture_first captures)
    (clause_unshared start captures clauses t.before behind)
    (unshared_only captures (flat_map capture_first captures) (captures_apart captures t.apart))

-- ---- the copies by their slots

-- each copy is among the variables, and this holds of it
pub record IsOrdered (P : FirstCopy → Type 0) (order : List ℕ) (copy : FirstCopy) : Type 0 where
  pub there : list_any (nat_eq copy.variable) order ≡ true
  pub so : P copy

one_ordered : (P : FirstCopy → Type 0) (x : ℕ) (xs : List FirstCopy) → All P xs → All (λ copy. (copy.variable ≡ x)
    × P copy) (first_copy_at xs x)
one_ordered P x [] all = All-nil (λ (copy : FirstCopy). (copy.variable ≡ x) × P copy)
one_ordered P x (c ∷ cs) all = chosen (nat_eq c.variable x) refl (one_ordered P x cs (All-tail P c cs all))
  where
    chosen : (b : Bool) → nat_eq c.variable x ≡ b → All (λ copy. (copy.variable ≡ x) × P copy) (first_copy_at cs x)
        → All (λ copy. (copy.variable ≡ x) × P copy) (if b then c ∷ [] else first_copy_at cs x)
    chosen true same rest =
        All-cons (λ (copy : FirstCopy). (copy.variable ≡ x) × P copy) c [] (
          eqb-true c.variable x same,
          All-head P c
              cs all,
        )
        (All-nil (λ (copy : FirstCopy). (copy.variable ≡ x) × P copy))
    chosen false same rest = rest

module _ (P : FirstCopy → Type 0) (whole : List ℕ) where
  placed_one : (x : ℕ) (xs : List FirstCopy) → list_any (nat_eq x) whole ≡ true → All (λ copy. (copy.variable ≡ x)
      × P copy) xs → All (IsOrdered P whole) xs
  placed_one x [] there all = All-nil (IsOrdered P whole)
  placed_one x (c ∷ cs) there all =
      let one = All-head (λ (copy : FirstCopy). (copy.variable ≡ x) × P copy) c cs all in
      All-cons (IsOrdered P whole) c cs
      (record { there = ap (λ z. list_any (nat_eq z) whole) one.0 ∙ there; so = one.1 })
      (placed_one x cs there (All-tail (λ (copy : FirstCopy). (copy.variable ≡ x) × P copy) c cs all))

  pub ordered : (order : List ℕ) (xs : List FirstCopy) → Has nat_eq whole order → All P xs → All (IsOrdered P whole)
      (by_slots order xs)
  ordered [] xs h all = All-nil (IsOrdered P whole)
  ordered (x ∷ order) xs h all =
      All-append (IsOrdered P whole) (first_copy_at xs x) (by_slots order xs) (placed_one x (first_copy_at xs x) h.0
      (one_ordered P x xs all)) (ordered order xs h.1 all)

-- a list has each of its own
or_true : (b : Bool) → (b || true) ≡ true
or_true true = refl
or_true false = refl

has_more : (all xs : List ℕ) → ((x : ℕ) → list_any (nat_eq x) xs ≡ true → list_any (nat_eq x) all ≡ true)
    → Has nat_eq all xs
has_more all [] f = tt
has_more all (x ∷ xs) f = (
  f x (ap (λ b. b || list_any (nat_eq x) xs) (eq-eqb x x refl)),
  has_more all xs
      (λ y e. f y (ap (λ b. nat_eq y x || b) e ∙ or_true (nat_eq y x))),
)

pub has_itself : (xs : List ℕ) → Has nat_eq xs xs
has_itself xs = has_more xs xs (λ x e. e)
