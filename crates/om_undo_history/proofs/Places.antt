-- A worker's last entry, by its index in the undo records.
use Rattle.std.proofs.Common.{◌≡◌, ◌≢◌, refl, sym, ◌∙◌, ap, None, Some, List, [], ◌∷◌, ℕ, zero, suc, ◌+◌, ◌==◌}
use Rattle.std.proofs.Common.{take, drop, add-one, arith, eq-eqb, subst}
use Rattle.std.specs.Prelude.{slice_get, All}
use Rattle.std.specs.List.{AllByRecursion}
use Rattle.std.proofs.lemmas.Bool.{ne_eqb}
use Rattle.std.proofs.lemmas.List.{take-map, drop-map}
use Rattle.om_state.specs.declared.step.Entry.{Entry}
use Rattle.om_undo_history.specs.Runs.{Place, last_or_first, last_place}
use Rattle.om_undo_history.specs.declared.records.UndoRecord.{UndoRecord}
use Rattle.om_undo_history.specs.Records.{entries_of, IsLastOf}

-- none of these entries is the worker's
abbrev pub NoneOwn : ℕ → List Entry → Type 0
NoneOwn w es = AllByRecursion (λ (e : Entry). e.worker ≢ w) es

NoneOwn-entries : (w : ℕ) (ks : List UndoRecord) → All (λ (k : UndoRecord). k.entry.worker ≢ w) ks
    → NoneOwn w (entries_of ks)
NoneOwn-entries w [] h = tt
NoneOwn-entries w (k ∷ ks) h = (h 0 k (omega arith), NoneOwn-entries w ks (λ i d less. h (suc i) d (omega arith)))

pub last_place-none_own : (w : ℕ) (es : List Entry) → NoneOwn w es → last_place w es ≡ None
last_place-none_own w [] h = refl
last_place-none_own w (e ∷ es) h =
    ap (λ o. last_or_first o (e.worker == w) e es) (last_place-none_own w es h.1)
    ∙ ap (λ b. last_or_first None b e es) (ne_eqb e.worker w h.0)

last_place-own : (w i : ℕ) (es : List Entry) (e : Entry) → slice_get es i ≡ Some e → e.worker ≡ w
    → NoneOwn w (drop (suc i) es)
    → last_place w es ≡ Some (record { earlier = take i es; entry = e; later = drop (suc i) es })
last_place-own w i [] e at own none = cc
last_place-own w zero (x ∷ xs) e at own none =
    let is : x ≡ e = cc in
    ap (λ o. last_or_first o (x.worker == w) x xs) (last_place-none_own w xs none)
    ∙ ap (λ b. last_or_first None b x xs) (eq-eqb x.worker w (ap (λ (y : Entry). y.worker) is ∙ own))
    ∙ ap (λ y. Some (record { earlier = []; entry = y; later = xs })) is
last_place-own w (suc i) (x ∷ xs) e at own none = ap (λ o. last_or_first o (x.worker == w) x xs)
    (last_place-own w i xs e at own none)

slice_get-entries : (ks : List UndoRecord) (i : ℕ) (k : UndoRecord) → slice_get ks i ≡ Some k
    → slice_get (entries_of ks) i ≡ Some k.entry
slice_get-entries [] i k h = cc
slice_get-entries (x ∷ xs) zero k h = let e : x ≡ k = cc in ap (λ (y : UndoRecord). Some y.entry) e
slice_get-entries (x ∷ xs) (suc i) k h = slice_get-entries xs i k h

-- the place of a record
abbrev pub place_at : List UndoRecord → ℕ → UndoRecord → Place
place_at ks i k = record { earlier = entries_of (take i ks); entry = k.entry; later = entries_of (drop (suc i) ks) }

pub last_place-at : (w : ℕ) (ks : List UndoRecord) (i : ℕ) (k : UndoRecord) → IsLastOf w ks i k
    → last_place w (entries_of ks) ≡ Some (place_at ks i k)
last_place-at w ks i k h =
    let es : List Entry = entries_of ks in
    let later : entries_of (drop (i + 1) ks) ≡ drop (suc i) es = ap (λ n. entries_of (drop n ks)) (add-one i)
    ∙ sym (drop-map (λ (x : UndoRecord). x.entry) (suc i) ks) in
    let none : NoneOwn w (drop (suc i) es) =
    subst (NoneOwn w) later (NoneOwn-entries w (drop (i + 1) ks) h.none_later) in
    last_place-own w i es k.entry (slice_get-entries ks i k h.at) h.own none
    ∙ (λ j. Some
    (record {
      earlier = take-map (λ (x : UndoRecord). x.entry) i ks j;
      entry = k.entry;
      later = drop-map (λ (x : UndoRecord). x.entry) (suc i) ks j;
    }))

pub last_place-none : (w : ℕ) (ks : List UndoRecord) → All (λ (k : UndoRecord). k.entry.worker ≢ w) ks
    → last_place w (entries_of ks) ≡ None
last_place-none w ks h = last_place-none_own w (entries_of ks) (NoneOwn-entries w ks h)

-- the records have one at an index that is the worker's last
pub record HasLast (w : ℕ) (ks : List UndoRecord) (i : ℕ) : Type 0 where
  pub made : UndoRecord
  pub is_last : IsLastOf w ks i made
