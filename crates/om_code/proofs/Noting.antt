-- Heights that are noted at places one after the other.
use Rattle.std.proofs.Common.{◌≡◌, ◌⊎◌, inl, inr, ⊎_elim, ℕ, zero, suc, ◌+◌, ◌<◌, ◌≤◌, Bool, true, false, List, [], ◌∷◌}
use Rattle.std.proofs.Common.{◌++◌, length, Option, None, Some, refl, sym, ◌∙◌, ap, subst, arith, set, length-set}
use Rattle.std.proofs.Common.{length-append, is_none, if◌then◌else◌, slice_index_or}
use Rattle.std.specs.Prelude.{Contains}
use Rattle.std.proofs.lemmas.Bool.{cases_eq}
use Rattle.std.proofs.lemmas.List.{get_or-set_same, get_or-set_other}
use Rattle.std.proofs.lemmas.List.Elements.{Contains-append_left, Contains-append_right, Contains-append_cases}
use Rattle.om_code.specs.declared.fault.CodeFault.{CodeFault}
use Rattle.om_code.specs.declared.instruction.Exits.{Exits}
use Rattle.om_code.specs.Contained.{Contains-here, Contains-there}
use Rattle.om_code.specs.Ways.{places}
use Rattle.om_code.specs.Search.{height_of, unknown_count, AreWithin, Agrees, with_reached, Notes, FailsToNote}

-- the only element of a list of one
pub Contains-one : (x y : ℕ) → Contains (x ∷ []) y → y ≡ x
Contains-one x y (zero, lt, e) = sym e
Contains-one x y (suc k, lt, e) = absurd (omega arith)

pub Contains-none : (y : ℕ) → Contains (let none : List ℕ = [] in none) y → ⊥
Contains-none y (k, lt, e) = omega arith

pub Contains-cases : (x y : ℕ) (xs : List ℕ) → Contains (x ∷ xs) y → (y ≡ x) ⊎ Contains xs y
Contains-cases x y xs (zero, lt, e) = inl (sym e)
Contains-cases x y xs (suc k, lt, e) = inr (k, omega (arith, lt), e)

pub Contains-at : (xs : List ℕ) (k : ℕ) → k < length xs → Contains xs (slice_index_or xs k 0)
Contains-at [] k lt = absurd (omega arith)
Contains-at (x ∷ xs) zero lt = Contains-here x xs
Contains-at (x ∷ xs) (suc k) lt = Contains-there x (slice_index_or xs k 0) xs (Contains-at xs k (omega (arith, lt)))

-- places of a list lie within a bound
pub within-head : (bound to : ℕ) (places : List ℕ) → AreWithin bound (to ∷ places) → to < bound
within-head bound to places h = h to (Contains-here to places)

pub within-tail : (bound to : ℕ) (places : List ℕ) → AreWithin bound (to ∷ places) → AreWithin bound places
within-tail bound to places h p k = h p (Contains-there to p places k)

-- a place with a height has a number
pub within : (heights : List (Option ℕ)) (at height : ℕ) → height_of heights at ≡ Some height → at < length heights
within [] at height e = cc
within (h ∷ heights) zero height e = omega arith
within (h ∷ heights) (suc at) height e = let lt : at < length heights = within heights at height e in omega arith

-- what an index reads is the height there
pub height_is_at : (heights : List (Option ℕ)) (at : ℕ) (o : Option ℕ) → at < length heights → o
    ≡ slice_index_or heights at o → height_of heights at ≡ o
height_is_at [] at o lt e = absurd (omega arith)
height_is_at (h ∷ heights) zero o lt e = sym e
height_is_at (h ∷ heights) (suc at) o lt e = height_is_at heights at o (omega (arith, lt)) e

-- the places that exits lead to lie within a bound
pub exits-are : (bound at : ℕ) (picks : List (List ℕ)) (exits known : Exits) → exits ≡ known → AreWithin bound
    (places picks at exits) → AreWithin bound (places picks at known)
exits-are bound at picks exits known e h = subst (λ x. AreWithin bound (places picks at x)) e h

-- ---- one place

module _ (heights : List (Option ℕ)) (to n : ℕ) (lt : to < length heights) (agrees : Agrees (height_of heights to)
    n) where
  agrees_at : (h : ℕ) → height_of heights to ≡ Some h → h ≡ n
  agrees_at h e = subst (λ o. Agrees o n) e agrees

  pub set_keeps : (at h : ℕ) → height_of heights at ≡ Some h → height_of (set heights to (Some n)) at ≡ Some h
  set_keeps at h e =
      ⊎_elim (λ same. subst (λ q. height_of (set heights to (Some n)) q ≡ Some h) (sym same)
      (get_or-set_same heights to (Some n) None lt
      ∙ ap Some (sym (agrees_at h (subst (λ q. height_of heights q ≡ Some h) same e)))))
      (λ other. get_or-set_other heights to at (Some n) None other ∙ e) (cases_eq at to)

  pub set_only : (at h : ℕ) → height_of (set heights to (Some n)) at ≡ Some h → (height_of heights at ≡ Some h)
      ⊎ ((at ≡ to) × (h ≡ n) × (height_of heights to ≡ None))
  set_only at h e = ⊎_elim (λ same. here same (height_of heights to) refl)
      (λ other. inl (sym (get_or-set_other heights to at (Some n) None other) ∙ e)) (cases_eq at to)
    where
      is_n : at ≡ to → h ≡ n
      is_n same = let f : Some h ≡ Some n = sym e ∙ ap (λ q. height_of (set heights to (Some n)) q) same
          ∙ get_or-set_same heights to (Some n) None lt in cc

      here : at ≡ to → (o : Option ℕ) → height_of heights to ≡ o → (height_of heights at ≡ Some h)
          ⊎ ((at ≡ to) × (h ≡ n) × (height_of heights to ≡ None))
      here same None was = inr (same, is_n same, was)
      here same (Some k) was = inl (ap (λ q. height_of heights q) same ∙ was
          ∙ ap Some (agrees_at k was ∙ sym (is_n same)))

pub set_here : (heights : List (Option ℕ)) (to n : ℕ) → to < length heights → height_of (set heights to (Some n)) to
    ≡ Some n
set_here heights to n lt = get_or-set_same heights to (Some n) None lt

-- which places are still to be followed after one more was reached
pub reached_keeps : (heights : List (Option ℕ)) (unfollowed : List ℕ) (to at : ℕ) → Contains unfollowed at
    → Contains (with_reached heights unfollowed to) at
reached_keeps heights unfollowed to at h = keeps (is_none (height_of heights to))
  where
    keeps : (b : Bool) → Contains (if b then unfollowed ++ to ∷ [] else unfollowed) at
    keeps true = Contains-append_left unfollowed (to ∷ []) at h
    keeps false = h

pub reached_fresh : (heights : List (Option ℕ)) (unfollowed : List ℕ) (to at : ℕ)
    → Contains (with_reached heights unfollowed to) at → Contains unfollowed at ⊎ (at ≡ to)
reached_fresh heights unfollowed to at = fresh (is_none (height_of heights to))
  where
    fresh : (b : Bool) → Contains (if b then unfollowed ++ to ∷ [] else unfollowed) at → Contains unfollowed at
        ⊎ (at ≡ to)
    fresh true h = ⊎_elim (λ left. inl left) (λ right. inr (Contains-one to at right))
        (Contains-append_cases unfollowed (to ∷ []) at h)
    fresh false h = inl h

pub reached_new : (heights : List (Option ℕ)) (unfollowed : List ℕ) (to : ℕ) → height_of heights to ≡ None
    → Contains (with_reached heights unfollowed to) to
reached_new heights unfollowed to e = subst (λ o. Contains (if is_none o then unfollowed ++ to ∷ [] else unfollowed)
    to) (sym e) (Contains-append_right unfollowed (to ∷ []) to (Contains-here to []))

-- beside one more place
pub reached_beside : (heights : List (Option ℕ)) (at to : ℕ) (unfollowed : List ℕ) → with_reached heights
    (at ∷ unfollowed) to ≡ at ∷ with_reached heights unfollowed to
reached_beside heights at to unfollowed = beside (is_none (height_of heights to))
  where
    beside : (b : Bool) → (if b then (at ∷ unfollowed) ++ to ∷ [] else at ∷ unfollowed) ≡ at
        ∷ (if b then unfollowed ++ to ∷ [] else unfollowed)
    beside true = refl
    beside false = refl

-- ---- several places

pub notes_beside : (at n : ℕ) (places : List ℕ) (hs : List (Option ℕ)) (us : List ℕ) (hs' : List (Option ℕ))
    (us' : List ℕ) → Notes n places hs us hs' us' → Notes n places hs (at ∷ us) hs' (at ∷ us')
notes_beside at n [] hs us hs' us' notes = (notes.0, ap (λ l. at ∷ l) notes.1)
notes_beside at n (to ∷ places) hs us hs' us' notes = (
  notes.0,
  subst (λ l. Notes n places (set hs to (Some n)) l hs' (at ∷ us')) (sym (reached_beside hs at to us))
      (notes_beside at n places (set hs to (Some n)) (with_reached hs us to) hs' us' notes.1),
)

-- places after places
pub notes_then : (n : ℕ) (first second : List ℕ) (hs : List (Option ℕ)) (us : List ℕ) (hs' : List (Option ℕ))
    (us' : List ℕ) (hs'' : List (Option ℕ)) (us'' : List ℕ) → Notes n first hs us hs' us' → Notes n second hs' us'
    hs'' us'' → Notes n (first ++ second) hs us hs'' us''
notes_then n [] second hs us hs' us' hs'' us'' f s = subst (λ h. Notes n second h us hs'' us'') f.0
    (subst (λ u. Notes n second hs' u hs'' us'') f.1 s)
notes_then n (to ∷ first) second hs us hs' us' hs'' us'' f s = (
  f.0,
  notes_then n first second (set hs to (Some n))
      (with_reached hs us to) hs' us' hs'' us'' f.1 s,
)

pub fails_then : (fault : CodeFault) (n : ℕ) (first second : List ℕ) (hs : List (Option ℕ)) (us : List ℕ)
    (hs' : List (Option ℕ)) (us' : List ℕ) → Notes n first hs us hs' us' → FailsToNote fault n second hs'
    → FailsToNote fault n (first ++ second) hs
fails_then fault n [] second hs us hs' us' f s = subst (λ h. FailsToNote fault n second h) f.0 s
fails_then fault n (to ∷ first) second hs us hs' us' f s = inr (
  f.0,
  fails_then fault n first second
      (set hs to (Some n)) (with_reached hs us to) hs' us' f.1 s,
)

pub notes_length : (n : ℕ) (places : List ℕ) (hs : List (Option ℕ)) (us : List ℕ) (hs' : List (Option ℕ))
    (us' : List ℕ) → Notes n places hs us hs' us' → length hs' ≡ length hs
notes_length n [] hs us hs' us' notes = ap length notes.0
notes_length n (to ∷ places) hs us hs' us' notes = notes_length n places (set hs to (Some n))
    (with_reached hs us to) hs' us' notes.1 ∙ length-set hs to (Some n)

-- what is known stays
pub notes_keeps : (n : ℕ) (places : List ℕ) (hs : List (Option ℕ)) (us : List ℕ) (hs' : List (Option ℕ))
    (us' : List ℕ) → AreWithin (length hs) places → Notes n places hs us hs' us' → (at h : ℕ) → height_of hs at
    ≡ Some h → height_of hs' at ≡ Some h
notes_keeps n [] hs us hs' us' inside notes at h e = ap (λ l. height_of l at) notes.0 ∙ e
notes_keeps n (to ∷ places) hs us hs' us' inside notes at h e =
    notes_keeps n places (set hs to (Some n)) (with_reached hs us to) hs' us'
    (subst (λ k. AreWithin k places) (sym (length-set hs to (Some n))) (within-tail (length hs) to places
    inside)) notes.1 at h (set_keeps hs to n (within-head (length hs) to places inside) notes.0 at h e)

-- each of the places is known
pub notes_known : (n : ℕ) (places : List ℕ) (hs : List (Option ℕ)) (us : List ℕ) (hs' : List (Option ℕ))
    (us' : List ℕ) → AreWithin (length hs) places → Notes n places hs us hs' us' → (at : ℕ) → Contains places at
    → height_of hs' at ≡ Some n
notes_known n [] hs us hs' us' inside notes at c = absurd (Contains-none at c)
notes_known n (to ∷ places) hs us hs' us' inside notes at c =
    let lt : to < length hs = within-head (length hs) to places inside in
    let inside' : AreWithin (length (set hs to (Some n))) places = subst (λ k. AreWithin k places)
    (sym (length-set hs to (Some n))) (within-tail (length hs) to places inside) in
    let first : height_of hs' to ≡ Some n = notes_keeps n places (set hs to (Some n)) (with_reached hs us to) hs'
    us' inside' notes.1 to n (set_here hs to n lt) in
    ⊎_elim (λ here. subst (λ q. height_of hs' q ≡ Some n) (sym here) first)
    (λ there. notes_known n places (set hs to (Some n)) (with_reached hs us to) hs' us' inside' notes.1 at
    there) (Contains-cases to at places c)

-- ---- the measure of the search: one more height is known, or no place more is to be followed

unknown_set : (heights : List (Option ℕ)) (to n : ℕ) → to < length heights → height_of heights to ≡ None
    → unknown_count (set heights to (Some n)) + 1 ≡ unknown_count heights
unknown_set [] to n lt e = absurd (omega arith)
unknown_set (None ∷ heights) zero n lt e = omega arith
unknown_set (Some k ∷ heights) zero n lt e = cc
unknown_set (None ∷ heights) (suc to) n lt e = let r = unknown_set heights to n (omega arith) e in omega (arith, r)
unknown_set (Some k ∷ heights) (suc to) n lt e = unknown_set heights to n (omega arith) e

unknown_same : (heights : List (Option ℕ)) (to n k : ℕ) → to < length heights → height_of heights to ≡ Some k
    → unknown_count (set heights to (Some n)) ≡ unknown_count heights
unknown_same [] to n k lt e = absurd (omega arith)
unknown_same (None ∷ heights) zero n k lt e = cc
unknown_same (Some h ∷ heights) zero n k lt e = omega arith
unknown_same (None ∷ heights) (suc to) n k lt e = let r = unknown_same heights to n k (omega arith) e in omega
    (arith, r)
unknown_same (Some h ∷ heights) (suc to) n k lt e = unknown_same heights to n k (omega arith) e

fewer_reached : (hs : List (Option ℕ)) (us : List ℕ) (to n : ℕ) → to < length hs
    → unknown_count (set hs to (Some n)) + length (with_reached hs us to) ≤ unknown_count hs + length us
fewer_reached hs us to n lt = by_height (height_of hs to) refl
  where
    by_height : (o : Option ℕ) → height_of hs to ≡ o → unknown_count (set hs to (Some n)) + length
        (with_reached hs us to) ≤ unknown_count hs + length us
    by_height None was =
        let l : length (with_reached hs us to) ≡ length (us ++ to ∷ []) =
        ap (λ o. length (if is_none o then us ++ to ∷ [] else us)) was in
        omega (arith, l, length-append us (to ∷ []), unknown_set hs to n lt was)
    by_height (Some k) was =
        let l : length (with_reached hs us to) ≡ length us =
        ap (λ o. length (if is_none o then us ++ to ∷ [] else us)) was in
        omega (arith, l, unknown_same hs to n k lt was)

pub fewer : (n : ℕ) (places : List ℕ) (hs : List (Option ℕ)) (us : List ℕ) (hs' : List (Option ℕ)) (us' : List ℕ)
    → AreWithin (length hs) places → Notes n places hs us hs' us' → unknown_count hs' + length us' ≤ unknown_count
    hs + length us
fewer n [] hs us hs' us' inside notes = let h : unknown_count hs' ≡ unknown_count hs = ap (λ l. unknown_count l)
    notes.0 in let u : length us' ≡ length us = ap length notes.1 in omega (arith, h, u)
fewer n (to ∷ places) hs us hs' us' inside notes =
    let first = fewer_reached hs us to n (within-head (length hs) to places inside) in
    let rest = fewer n places (set hs to (Some n)) (with_reached hs us to) hs' us'
    (subst (λ k. AreWithin k places) (sym (length-set hs to (Some n))) (within-tail (length hs) to places
    inside)) notes.1 in
    omega (arith, first, rest)
