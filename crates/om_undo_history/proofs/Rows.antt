-- Records by serial, in rows: what is found, added and taken out.
use Rattle.std.proofs.Common.{◌≡◌, refl, sym, ◌∙◌, ap, subst, Bool, true, false, cond, ℕ, zero, suc, ◌<◌, ◌≤◌, nat_lt, arith}
use Rattle.std.proofs.Common.{Option, None, Some, List, [], ◌∷◌, ◌++◌, length, get_or, append-nil, Bor}
use Rattle.std.specs.Prelude.{slice_get, slice_set, is_some, IsSome, IfSome, IfNone}
use Rattle.std.specs.Bool.{then_some}
use Rattle.std.specs.Option.{option_copied, option_to_list}
use Rattle.std.specs.List.{filter}
use Rattle.std.specs.List.Sorted.{IsPartitionPoint, IsPartitionedBy}
use Rattle.std.specs.Ordering.{nat_cmp, is_eq}
use Rattle.std.specs.Cmp.{nat_cmp_is}
use Rattle.std.specs.declared.cmp.Ordering.TheVariants.{Less}
use Rattle.std.specs.BTreeMap.{is_at}
use Rattle.std.specs.Map.{lookup, remove_entry, values_of}
use Rattle.om_undo_history.specs.declared.by_serial.Row.{Row}
use Rattle.om_undo_history.specs.declared.records.UndoRecord.{UndoRecord}
use Rattle.om_undo_history.specs.Records.{AreBelow}
use Rattle.om_undo_history.specs.Touches.{AreBySerial}
use Rattle.om_undo_history.specs.Rows.{with_entry, entries_in, AreRising, LastStands, IsAboveAll}
use Rattle.om_undo_history.proofs.BySerial.{at_same, at_other}

at_above : (s q : ℕ) → s < q → is_at (nat_cmp s) q ≡ false
at_above s q lt = ap is_eq (sym (nat_cmp_is s q Less lt))

-- ---- a search

-- where no entry passes, none goes
pub remove_missing : (test : ℕ → Bool) (es : List (ℕ × UndoRecord)) → lookup test es ≡ None → remove_entry test es ≡ es
remove_missing test [] none = refl
remove_missing test (e ∷ es) none = go (test e.0) none (λ h. remove_missing test es h)
  where
    go : (b : Bool) → cond b (Some e.1) (lookup test es) ≡ None → (lookup test es ≡ None → remove_entry test es ≡ es)
        → cond b es (e ∷ remove_entry test es) ≡ e ∷ es
    go true none rest = cc
    go false none rest = ap (λ xs. e ∷ xs) (rest none)

-- a serial below all rows has no record
missing-above : (s low : ℕ) (rows : List Row) → s ≤ low → AreRising low rows
    → lookup (is_at (nat_cmp s)) (entries_in rows) ≡ None
missing-above s low [] le h = refl
missing-above s low (r ∷ rs) le h = go r.kept (missing-above s r.serial rs (omega (arith, le, h.0)) h.1)
  where
    go : (o : Option UndoRecord) → lookup (is_at (nat_cmp s)) (entries_in rs) ≡ None
        → lookup (is_at (nat_cmp s)) (with_entry r.serial o (entries_in rs)) ≡ None
    go None rest = rest
    go (Some k) rest = ap (λ b. cond b (Some k) (lookup (is_at (nat_cmp s)) (entries_in rs)))
        (at_above s r.serial (omega (arith, le, h.0))) ∙ rest

row-above : (low : ℕ) (rows : List Row) (i : ℕ) (r : Row) → AreRising low rows → slice_get rows i ≡ Some r → low < r.serial
row-above low [] i r h at = cc
row-above low (x ∷ xs) zero r h at =
    let same : x ≡ r = cc in subst (λ (y : Row). low < y.serial) same h.0
row-above low (x ∷ xs) (suc i) r h at =
    let above : x.serial < r.serial = row-above x.serial xs i r h.1 at in omega (arith, above, h.0)

pub same_row : (a b : Row) → Some a ≡ Some b → a ≡ b
same_row a b is = cc

-- a search finds what stands in a serial's row
pub found-at : (low s : ℕ) (rows : List Row) (i : ℕ) (r : Row) → AreRising low rows → slice_get rows i ≡ Some r
    → r.serial ≡ s → lookup (is_at (nat_cmp s)) (entries_in rows) ≡ r.kept
found-at low s [] i r h at is = cc
found-at low s (x ∷ xs) zero r h at is = go x.kept ∙ ap (λ (y : Row). y.kept) same
  where
    same : x ≡ r
    same = cc

    here : x.serial ≡ s
    here = ap (λ (y : Row). y.serial) same ∙ is

    go : (o : Option UndoRecord) → lookup (is_at (nat_cmp s)) (with_entry x.serial o (entries_in xs)) ≡ o
    go None = missing-above s x.serial xs (omega (arith, here)) h.1
    go (Some k) = ap (λ b. cond b (Some k) (lookup (is_at (nat_cmp s)) (entries_in xs))) (at_same s x.serial here)
found-at low s (x ∷ xs) (suc i) r h at is = go x.kept (found-at x.serial s xs i r h.1 at is)
  where
    above : x.serial < r.serial
    above = row-above x.serial xs i r h.1 at

    go : (o : Option UndoRecord) → lookup (is_at (nat_cmp s)) (entries_in xs) ≡ r.kept
        → lookup (is_at (nat_cmp s)) (with_entry x.serial o (entries_in xs)) ≡ r.kept
    go None rest = rest
    go (Some k) rest = ap (λ b. cond b (Some k) (lookup (is_at (nat_cmp s)) (entries_in xs)))
        (at_other s x.serial (subst (λ n. x.serial < n) is above)) ∙ rest

-- the serials of rows do not fall
ordered-above : (low : ℕ) (rows : List Row) (j : ℕ) (d : Row) → AreRising low rows → j < length rows
    → low < (get_or rows j d).serial
ordered-above low [] j d h lt = absurd (omega (arith, lt))
ordered-above low (x ∷ xs) zero d h lt = h.0
ordered-above low (x ∷ xs) (suc j) d h lt =
    let above : x.serial < (get_or xs j d).serial = ordered-above x.serial xs j d h.1 (omega (arith, lt)) in
    omega (arith, above, h.0)

ordered : (low : ℕ) (rows : List Row) (i j : ℕ) (d : Row) → AreRising low rows → i ≤ j → j < length rows
    → (get_or rows i d).serial ≤ (get_or rows j d).serial
ordered low [] i j d h le lt = absurd (omega (arith, lt))
ordered low (x ∷ xs) zero zero d h le lt = omega arith
ordered low (x ∷ xs) zero (suc j) d h le lt =
    let above : x.serial < (get_or xs j d).serial = ordered-above x.serial xs j d h.1 (omega (arith, lt)) in
    omega (arith, above)
ordered low (x ∷ xs) (suc i) zero d h le lt = absurd (omega (arith, le))
ordered low (x ∷ xs) (suc i) (suc j) d h le lt = ordered x.serial xs i j d h.1 (omega (arith, le)) (omega (arith, lt))

pub parted : (low s : ℕ) (rows : List Row) → AreRising low rows → IsPartitionedBy (λ (r : Row). nat_lt r.serial s) rows
parted low s rows h = λ i j d le lt below.
    let no_higher : (get_or rows i d).serial ≤ (get_or rows j d).serial = ordered low rows i j d h le lt in
    let less : (get_or rows j d).serial < s = grind (arith, below) in
    let lower : (get_or rows i d).serial < s = omega (arith, no_higher, less) in
    grind (arith, lower)

-- a serial that is not at its place has no record
pub missing : (low s : ℕ) (rows : List Row) (p : ℕ) → AreRising low rows
    → IsPartitionPoint (λ (r : Row). nat_lt r.serial s ≡ true) (λ (r : Row). nat_lt r.serial s ≡ false) rows p
    → ((r : Row) → slice_get rows p ≡ Some r → r.serial ≡ s → ⊥)
    → lookup (is_at (nat_cmp s)) (entries_in rows) ≡ None
missing low s [] p h parts other = refl
missing low s (x ∷ xs) zero h parts other =
    let no_less : nat_lt x.serial s ≡ false = parts.1 0 x (omega arith) (omega arith) in
    let above : s < x.serial = below-or no_less in
    missing-above s s (x ∷ xs) (omega arith) (above, h.1)
  where
    decide : (b : Bool) → nat_lt s x.serial ≡ b → nat_lt x.serial s ≡ false → s < x.serial
    decide true lt no_less = grind (arith, lt)
    decide false lt no_less = let same : x.serial ≡ s = grind (arith, lt, no_less) in absurd (other x refl same)

    below-or : nat_lt x.serial s ≡ false → s < x.serial
    below-or no_less = decide (nat_lt s x.serial) refl no_less
missing low s (x ∷ xs) (suc p) h parts other =
    let less : nat_lt x.serial s ≡ true = parts.0 0 x (omega arith) (omega arith) in
    let below : x.serial < s = grind (arith, less) in
    go x.kept below (missing x.serial s xs p h.1 (
      λ k d le lt. parts.0 (suc k) d (omega arith) (omega (arith, lt)),
      λ k d le lt. parts.1 (suc k) d (omega (arith, le)) (omega (arith, lt)),
    ) (λ r at is. other r at is))
  where
    go : (o : Option UndoRecord) → x.serial < s → lookup (is_at (nat_cmp s)) (entries_in xs) ≡ None
        → lookup (is_at (nat_cmp s)) (with_entry x.serial o (entries_in xs)) ≡ None
    go None below rest = rest
    go (Some k) below rest = ap (λ b. cond b (Some k) (lookup (is_at (nat_cmp s)) (entries_in xs)))
        (at_other s x.serial below) ∙ rest

-- a serial behind the last row has no record
pub missing-behind : (low s t : ℕ) (rows : List Row) (n : ℕ) (r : Row) → AreRising low rows
    → slice_get rows n ≡ Some r → suc n ≡ length rows → r.serial ≤ s → s < t
    → lookup (is_at (nat_cmp t)) (entries_in rows) ≡ None
missing-behind low s t [] n r h at is le lt = refl
missing-behind low s t (x ∷ []) zero r h at is le lt = go x.kept
  where
    same : x ≡ r
    same = cc

    below : x.serial < t
    below = subst (λ (y : Row). y.serial < t) (sym same) (omega (arith, le, lt))

    go : (o : Option UndoRecord) → lookup (is_at (nat_cmp t)) (with_entry x.serial o []) ≡ None
    go None = refl
    go (Some k) = ap (λ b. cond b (Some k) None) (at_other t x.serial below)
missing-behind low s t (x ∷ []) (suc n) r h at is le lt = cc
missing-behind low s t (x ∷ y ∷ ys) zero r h at is le lt = absurd (omega (arith, is))
missing-behind low s t (x ∷ y ∷ ys) (suc n) r h at is le lt =
    go x.kept (missing-behind x.serial s t (y ∷ ys) n r h.1 at (omega (arith, is)) le lt)
  where
    above : x.serial < r.serial
    above = row-above x.serial (y ∷ ys) n r h.1 at

    go : (o : Option UndoRecord) → lookup (is_at (nat_cmp t)) (entries_in (y ∷ ys)) ≡ None
        → lookup (is_at (nat_cmp t)) (with_entry x.serial o (entries_in (y ∷ ys))) ≡ None
    go None rest = rest
    go (Some k) rest = ap (λ b. cond b (Some k) (lookup (is_at (nat_cmp t)) (entries_in (y ∷ ys))))
        (at_other t x.serial (omega (arith, above, le, lt))) ∙ rest

-- ---- a record is taken out

pub taken-at : (low s : ℕ) (rows : List Row) (i : ℕ) (r gone : Row) → AreRising low rows → slice_get rows i ≡ Some r
    → r.serial ≡ s → gone.kept ≡ None
    → entries_in (slice_set rows i gone) ≡ remove_entry (is_at (nat_cmp s)) (entries_in rows)
taken-at low s [] i r gone h at is none = cc
taken-at low s (x ∷ xs) zero r gone h at is none =
    ap (λ o. with_entry gone.serial o (entries_in xs)) none ∙ go x.kept
  where
    same : x ≡ r
    same = cc

    here : x.serial ≡ s
    here = ap (λ (y : Row). y.serial) same ∙ is

    go : (o : Option UndoRecord) → entries_in xs ≡ remove_entry (is_at (nat_cmp s)) (with_entry x.serial o (entries_in xs))
    go None = sym (remove_missing (is_at (nat_cmp s)) (entries_in xs) (missing-above s x.serial xs (omega (arith, here)) h.1))
    go (Some k) = sym (ap (λ b. cond b (entries_in xs) ((x.serial, k) ∷ remove_entry (is_at (nat_cmp s)) (entries_in xs)))
        (at_same s x.serial here))
taken-at low s (x ∷ xs) (suc i) r gone h at is none = go x.kept (taken-at x.serial s xs i r gone h.1 at is none)
  where
    above : x.serial < r.serial
    above = row-above x.serial xs i r h.1 at

    go : (o : Option UndoRecord)
        → entries_in (slice_set xs i gone) ≡ remove_entry (is_at (nat_cmp s)) (entries_in xs)
        → with_entry x.serial o (entries_in (slice_set xs i gone))
        ≡ remove_entry (is_at (nat_cmp s)) (with_entry x.serial o (entries_in xs))
    go None rest = rest
    go (Some k) rest = ap (λ es. (x.serial, k) ∷ es) rest
        ∙ sym (ap (λ b. cond b (entries_in xs) ((x.serial, k) ∷ remove_entry (is_at (nat_cmp s)) (entries_in xs)))
        (at_other s x.serial (subst (λ n. x.serial < n) is above)))

pub rising-set : (low : ℕ) (rows : List Row) (i : ℕ) (r gone : Row) → AreRising low rows → slice_get rows i ≡ Some r
    → gone.serial ≡ r.serial → AreRising low (slice_set rows i gone)
rising-set low [] i r gone h at is = cc
rising-set low (x ∷ xs) zero r gone h at is =
    let same : x ≡ r = cc in
    let here : x.serial ≡ gone.serial = ap (λ (y : Row). y.serial) same ∙ sym is in
    (subst (λ n. low < n) here h.0, subst (λ n. AreRising n xs) here h.1)
rising-set low (x ∷ xs) (suc i) r gone h at is = (h.0, rising-set x.serial xs i r gone h.1 at is)

-- ---- a record is added

pub entries-append : (rows more : List Row) → entries_in (rows ++ more) ≡ entries_in rows ++ entries_in more
entries-append [] more = refl
entries-append (x ∷ xs) more = go x.kept (entries-append xs more)
  where
    go : (o : Option UndoRecord) → entries_in (xs ++ more) ≡ entries_in xs ++ entries_in more
        → with_entry x.serial o (entries_in (xs ++ more)) ≡ with_entry x.serial o (entries_in xs) ++ entries_in more
    go None rest = rest
    go (Some k) rest = ap (λ es. (x.serial, k) ∷ es) rest

above-rest : (s serial : ℕ) (o : Option UndoRecord) (es : List (ℕ × UndoRecord)) → IsAboveAll s (with_entry serial o es)
    → IsAboveAll s es
above-rest s serial None es h = h
above-rest s serial (Some k) es h = h.1

rising-behind : (low : ℕ) (x : Row) (xs : List Row) (r : Row) → AreRising low (x ∷ xs) → LastStands (x ∷ xs)
    → IsAboveAll r.serial (entries_in (x ∷ xs)) → AreRising low (x ∷ xs ++ r ∷ [])
rising-behind low x [] r h last above = (h.0, (go x.kept last above, tt))
  where
    go : (o : Option UndoRecord) → IsSome o → IsAboveAll r.serial (with_entry x.serial o []) → x.serial < r.serial
    go None some above = cc
    go (Some k) some above = above.0
rising-behind low x (y ∷ ys) r h last above =
    (h.0, rising-behind x.serial y ys r h.1 last (above-rest r.serial x.serial x.kept (entries_in (y ∷ ys)) above))

pub rising-push : (low : ℕ) (rows : List Row) (r : Row) → AreRising low rows → LastStands rows
    → IsAboveAll r.serial (entries_in rows) → low < r.serial → AreRising low (rows ++ r ∷ [])
rising-push low [] r h last above some = (some, tt)
rising-push low (x ∷ xs) r h last above some = rising-behind low x xs r h last above

pub above_all : (low s : ℕ) (es : List (ℕ × UndoRecord)) → AreBySerial low es → AreBelow s (values_of es)
    → IsAboveAll s es
above_all low s [] h below = tt
above_all low s (e ∷ es) h below = (subst (λ n. n < s) (sym h.1) below.0, above_all e.0 s es h.2 below.1)

-- ---- rows without a record go

pub rising-front : (low : ℕ) (rows more : List Row) → AreRising low (rows ++ more) → AreRising low rows
rising-front low [] more h = tt
rising-front low (x ∷ xs) more h = (h.0, rising-front x.serial xs more h.1)

pub entries-front : (rows : List Row) (r : Row) → r.kept ≡ None → entries_in (rows ++ r ∷ []) ≡ entries_in rows
entries-front rows r none =
    entries-append rows (r ∷ []) ∙ ap (λ o. entries_in rows ++ with_entry r.serial o []) none ∙ append-nil (entries_in rows)

pub last-stands : (rows : List Row) (n : ℕ) (r : Row) → slice_get rows n ≡ Some r → suc n ≡ length rows → IsSome r.kept
    → LastStands rows
last-stands [] n r at is some = tt
last-stands (x ∷ []) zero r at is some =
    let same : x ≡ r = cc in subst (λ (y : Row). IsSome y.kept) (sym same) some
last-stands (x ∷ []) (suc n) r at is some = cc
last-stands (x ∷ y ∷ ys) zero r at is some = absurd (omega (arith, is))
last-stands (x ∷ y ∷ ys) (suc n) r at is some = last-stands (y ∷ ys) n r at (omega (arith, is)) some

no_record : (o : Option UndoRecord) → is_some o ≡ false → o ≡ None
no_record None none = refl
no_record (Some k) none = cc

-- a row without a record leaves the end
pub popped : (low : ℕ) (rows left : List Row) (r : Row) (o : Option Row) → rows ≡ left ++ option_to_list o → o ≡ Some r
    → is_some r.kept ≡ false → AreRising low rows → (entries_in left ≡ entries_in rows) × AreRising low left
popped low rows left r o is there none h =
    let whole : rows ≡ left ++ r ∷ [] = is ∙ ap (λ p. left ++ option_to_list p) there in (
      sym (ap entries_in whole ∙ entries-front left r (no_record r.kept none)),
      rising-front low left (r ∷ []) (subst (AreRising low) whole h),
    )

abbrev pub has_record : Row → Bool
has_record r = is_some r.kept

rising-lower : (low lower : ℕ) (rows : List Row) → lower ≤ low → AreRising low rows → AreRising lower rows
rising-lower low lower [] le h = tt
rising-lower low lower (x ∷ xs) le h = (omega (arith, h.0, le), h.1)

last-cons : (x : Row) (xs : List Row) → is_some x.kept ≡ true → LastStands xs → LastStands (x ∷ xs)
last-cons x [] some last = some
last-cons x (y ∷ ys) some last = last

-- what is left where those without a record go
pub record IsTidy (low : ℕ) (rows tidied : List Row) : Type 0 where
  pub same : entries_in tidied ≡ entries_in rows
  pub rising : AreRising low tidied
  pub last : LastStands tidied

pub tidied : (low : ℕ) (rows : List Row) → AreRising low rows → IsTidy low rows (filter has_record rows)
tidied low [] h = record { same = refl; rising = tt; last = tt }
tidied low (x ∷ xs) h = go x.kept refl (tidied x.serial xs h.1)
  where
    gone : has_record x ≡ false → filter has_record (x ∷ xs) ≡ filter has_record xs
    gone none = ap (λ b. cond b (x ∷ filter has_record xs) (filter has_record xs)) none

    stays : has_record x ≡ true → filter has_record (x ∷ xs) ≡ x ∷ filter has_record xs
    stays some = ap (λ b. cond b (x ∷ filter has_record xs) (filter has_record xs)) some

    go : (o : Option UndoRecord) → x.kept ≡ o → IsTidy x.serial xs (filter has_record xs)
        → IsTidy low (x ∷ xs) (filter has_record (x ∷ xs))
    go None is rest = subst (IsTidy low (x ∷ xs)) (sym (gone (ap is_some is))) (record {
      same = rest.same ∙ sym (ap (λ o. with_entry x.serial o (entries_in xs)) is);
      rising = rising-lower x.serial low (filter has_record xs) (omega (arith, h.0)) rest.rising;
      last = rest.last;
    })
    go (Some k) is rest = subst (IsTidy low (x ∷ xs)) (sym (stays (ap is_some is))) (record {
      same = ap (λ es. with_entry x.serial x.kept es) rest.same;
      rising = (h.0, rest.rising);
      last = last-cons x (filter has_record xs) (ap is_some is) rest.last;
    })

-- ---- what a search answers

pub told : (found o : Option UndoRecord) → found ≡ o → IfSome o (λ k. found ≡ Some k)
told found None is = tt
told found (Some k) is = is

pub untold : (found o : Option UndoRecord) → found ≡ o → IfNone o (found ≡ None)
untold found None is = is
untold found (Some k) is = tt

pub told-lent : (found : Option UndoRecord) (o : Option (Bor UndoRecord)) → found ≡ option_copied o
    → IfSome o (λ k. found ≡ Some k.now)
told-lent found None is = tt
told-lent found (Some k) is = is

pub untold-lent : (found : Option UndoRecord) (o : Option (Bor UndoRecord)) → found ≡ option_copied o
    → IfNone o (found ≡ None)
untold-lent found None is = is
untold-lent found (Some k) is = tt

-- ---- row by row

pub entries-gone : (rows rest : List Row) (r : Row) → rows ≡ r ∷ rest → r.kept ≡ None
    → values_of (entries_in rows) ≡ values_of (entries_in rest)
entries-gone rows rest r is none =
    ap (λ rs. values_of (entries_in rs)) is ∙ ap (λ o. values_of (with_entry r.serial o (entries_in rest))) none

pub entries-one : (rows rest : List Row) (r : Row) (k : UndoRecord) → rows ≡ r ∷ rest → r.kept ≡ Some k
    → values_of (entries_in rows) ≡ k ∷ values_of (entries_in rest)
entries-one rows rest r k is some =
    ap (λ rs. values_of (entries_in rs)) is ∙ ap (λ o. values_of (with_entry r.serial o (entries_in rest))) some

-- what is so is so where nothing is answered
pub if_none : {A : Type 0} (o : Option A) (P : Type 0) → P → IfNone o P
if_none None P h = h
if_none (Some a) P h = tt

pub chosen : (b : Bool) (i : ℕ) (P : ℕ → Type 0) → (b ≡ true → P i) → IfSome (then_some b i) P
chosen true i P h = h refl
chosen false i P h = tt

pub unchosen : (b : Bool) (i : ℕ) (P : Type 0) → (b ≡ false → P) → IfNone (then_some b i) P
unchosen true i P h = tt
unchosen false i P h = h refl
