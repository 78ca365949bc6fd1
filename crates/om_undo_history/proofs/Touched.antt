-- What the entries of a history touch: with one more, without one, and by serial.
use Rattle.std.proofs.Common.{◌≡◌, ◌≢◌, refl, sym, ◌∙◌, ap, subst, Bool, true, false, cond, ◌&&◌, nat_eq, ℕ, zero, suc, ◌<◌, ◌≤◌}
use Rattle.std.proofs.Common.{arith, Some, List, [], ◌∷◌, ◌++◌}
use Rattle.std.specs.Prelude.{slice_get, remove}
use Rattle.std.proofs.lemmas.Bool.Decides.{Decides-eqb}
use Rattle.om_foot.specs.declared.object.Obj.{Obj}
use Rattle.om_foot.specs.declared.footprint.Mode.{Mode}
use Rattle.om_foot.specs.declared.footprint.Access.{Access}
use Rattle.om_undo_history.specs.declared.records.UndoRecord.{UndoRecord}
use Rattle.om_undo_history.specs.Records.{AreBelow, AreAbove}
use Rattle.om_undo_touches.specs.Touches.{names}
use Rattle.om_undo_history.specs.Touches.{touched}
use Rattle.om_undo_history.proofs.Rising.{Ascends}

abbrev pub serial_of : UndoRecord → ℕ
serial_of k = k.entry.serial

-- records whose serials rise above a number
abbrev pub Rising : ℕ → List UndoRecord → Type 0
Rising low ks = Ascends serial_of low ks

nat_same : (x y : ℕ) → nat_eq x y ≡ true → x ≡ y
nat_same x y h = (Decides-eqb x y).0 h

pub nat_self : (x : ℕ) → nat_eq x x ≡ true
nat_self x = (Decides-eqb x x).1 refl

pub nat_other : (x y : ℕ) → x ≢ y → nat_eq x y ≡ false
nat_other x y h = go (nat_eq x y) refl
  where
    go : (b : Bool) → nat_eq x y ≡ b → b ≡ false
    go false e = refl
    go true e = absurd (h (nat_same x y e))

-- the record at an index has a serial above the number
pub rising_at : (low : ℕ) (ks : List UndoRecord) (i : ℕ) (k : UndoRecord) → Rising low ks → slice_get ks i ≡ Some k
    → low < k.entry.serial
rising_at low [] i k h at = cc
rising_at low (x ∷ xs) zero k h at = let is : x ≡ k = cc in subst (λ (y : UndoRecord). low < y.entry.serial) is h.0
rising_at low (x ∷ xs) (suc i) k h at = let more : x.entry.serial < k.entry.serial =
    rising_at x.entry.serial xs i k h.1 at in omega (arith, h.0)

-- of two records the later one has the greater serial
pub rising_later : (low : ℕ) (ks : List UndoRecord) (i j : ℕ) (a b : UndoRecord) → Rising low ks
    → slice_get ks i ≡ Some a → slice_get ks j ≡ Some b → i < j → a.entry.serial < b.entry.serial
rising_later low [] i j a b h at to less = cc
rising_later low (x ∷ xs) zero zero a b h at to less = absurd (omega (arith, less))
rising_later low (x ∷ xs) (suc i) zero a b h at to less = absurd (omega (arith, less))
rising_later low (x ∷ xs) zero (suc j) a b h at to less = let is : x ≡ a = cc in
    subst (λ (y : UndoRecord). y.entry.serial < b.entry.serial) is (rising_at x.entry.serial xs j b h.1 to)
rising_later low (x ∷ xs) (suc i) (suc j) a b h at to less =
    rising_later x.entry.serial xs i j a b h.1 at to (omega (arith, less))

-- so a greater serial is that of a later record
pub rising_behind : (low : ℕ) (ks : List UndoRecord) (i j : ℕ) (a b : UndoRecord) → Rising low ks
    → slice_get ks i ≡ Some a → slice_get ks j ≡ Some b → a.entry.serial < b.entry.serial → i < j
rising_behind low [] i j a b h at to less = cc
rising_behind low (x ∷ xs) zero zero a b h at to less = let is : x ≡ a = cc in let same : x ≡ b = cc in
    absurd (omega (arith, less, ap serial_of (sym is ∙ same)))
rising_behind low (x ∷ xs) (suc i) zero a b h at to less = let same : x ≡ b = cc in
    absurd (omega (arith, less, rising_at x.entry.serial xs i a h.1 at, ap serial_of same))
rising_behind low (x ∷ xs) zero (suc j) a b h at to less = omega arith
rising_behind low (x ∷ xs) (suc i) (suc j) a b h at to less =
    let more : i < j = rising_behind x.entry.serial xs i j a b h.1 at to less in omega arith

-- an entry more at the end
pub touched-push : (f : UndoRecord → List Access) (ks : List UndoRecord) (k : UndoRecord) (o : Obj) (m : Mode) (s : ℕ)
    → touched f (ks ++ k ∷ []) o m s
    ≡ cond (nat_eq k.entry.serial s && names o m (f k)) true (touched f ks o m s)
touched-push f [] k o m s = refl
touched-push f (x ∷ xs) k o m s =
    ap (cond (nat_eq x.entry.serial s && names o m (f x)) true) (touched-push f xs k o m s)
    ∙ exchanged (nat_eq x.entry.serial s && names o m (f x)) (nat_eq k.entry.serial s && names o m (f k))
  where
    exchanged : (p q : Bool) → cond p true (cond q true (touched f xs o m s))
        ≡ cond q true (cond p true (touched f xs o m s))
    exchanged true true = refl
    exchanged true false = refl
    exchanged false true = refl
    exchanged false false = refl

-- no entry has a serial that is none of theirs
pub touched-above : (f : UndoRecord → List Access) (low : ℕ) (ks : List UndoRecord) (o : Obj) (m : Mode) (s : ℕ)
    → Rising low ks → s ≤ low → touched f ks o m s ≡ false
touched-above f low [] o m s h le = refl
touched-above f low (k ∷ ks) o m s h le =
    ap (λ b. cond (b && names o m (f k)) true (touched f ks o m s))
    (nat_other k.entry.serial s (λ e. omega (arith, h.0, le, e)))
    ∙ touched-above f k.entry.serial ks o m s h.1 (omega (arith, h.0, le))

pub touched-below : (f : UndoRecord → List Access) (ks : List UndoRecord) (o : Obj) (m : Mode) (s : ℕ)
    → AreBelow s ks → touched f ks o m s ≡ false
touched-below f [] o m s h = refl
touched-below f (k ∷ ks) o m s h =
    ap (λ b. cond (b && names o m (f k)) true (touched f ks o m s))
    (nat_other k.entry.serial s (λ e. omega (arith, h.0, e)))
    ∙ touched-below f ks o m s h.1

pub touched-zero : (f : UndoRecord → List Access) (ks : List UndoRecord) (o : Obj) (m : Mode) → AreAbove 0 ks
    → touched f ks o m 0 ≡ false
touched-zero f [] o m h = refl
touched-zero f (k ∷ ks) o m h =
    ap (λ b. cond (b && names o m (f k)) true (touched f ks o m 0))
    (nat_other k.entry.serial 0 (λ e. omega (arith, h.0, e)))
    ∙ touched-zero f ks o m h.1

-- what an entry touches is what its footprint names
pub touched-at : (f : UndoRecord → List Access) (low : ℕ) (ks : List UndoRecord) (i : ℕ) (k : UndoRecord) (o : Obj)
    (m : Mode) → Rising low ks → slice_get ks i ≡ Some k → touched f ks o m k.entry.serial ≡ names o m (f k)
touched-at f low [] i k o m h at = cc
touched-at f low (x ∷ xs) zero k o m h at =
    let is : x ≡ k = cc in
    let s : ℕ = k.entry.serial in
    (λ j. cond (both j && names o m (f (is j))) true (none j)) ∙ last (names o m (f k))
  where
    both : nat_eq x.entry.serial k.entry.serial ≡ true
    both = let is : x ≡ k = cc in ap (λ (y : UndoRecord). nat_eq y.entry.serial k.entry.serial) is
        ∙ nat_self k.entry.serial

    none : touched f xs o m k.entry.serial ≡ false
    none = let is : x ≡ k = cc in touched-above f x.entry.serial xs o m k.entry.serial h.1
        (omega (arith, ap serial_of is))

    last : (b : Bool) → cond b true false ≡ b
    last true = refl
    last false = refl
touched-at f low (x ∷ xs) (suc i) k o m h at =
    ap (λ b. cond (b && names o m (f x)) true (touched f xs o m k.entry.serial))
    (nat_other x.entry.serial k.entry.serial (λ e. omega (arith, rising_at x.entry.serial xs i k h.1 at, e)))
    ∙ touched-at f x.entry.serial xs i k o m h.1 at

-- without the entry at an index
pub touched-remove : (f : UndoRecord → List Access) (low : ℕ) (ks : List UndoRecord) (i : ℕ) (k : UndoRecord) (o : Obj)
    (m : Mode) (s : ℕ) → Rising low ks → slice_get ks i ≡ Some k
    → touched f (remove ks i) o m s
    ≡ cond (nat_eq k.entry.serial s && names o m (f k)) false (touched f ks o m s)
touched-remove f low [] i k o m s h at = cc
touched-remove f low (x ∷ xs) zero k o m s h at =
    let is : x ≡ k = cc in
    subst (λ (y : UndoRecord). touched f xs o m s ≡ cond (nat_eq y.entry.serial s && names o m (f y)) false
    (cond (nat_eq x.entry.serial s && names o m (f x)) true (touched f xs o m s))) is
    (head (nat_eq x.entry.serial s) (names o m (f x)) refl)
  where
    head : (e n : Bool) → nat_eq x.entry.serial s ≡ e → touched f xs o m s ≡ cond (e && n) false
        (cond (e && n) true (touched f xs o m s))
    head false n is = refl
    head true false is = refl
    head true true is = touched-above f x.entry.serial xs o m s h.1 (omega (arith, nat_same x.entry.serial s is))
touched-remove f low (x ∷ xs) (suc i) k o m s h at =
    ap (cond (nat_eq x.entry.serial s && names o m (f x)) true)
    (touched-remove f x.entry.serial xs i k o m s h.1 at)
    ∙ apart (nat_eq x.entry.serial s) (nat_eq k.entry.serial s) refl refl
  where
    apart : (p q : Bool) → nat_eq x.entry.serial s ≡ p → nat_eq k.entry.serial s ≡ q
        → cond (p && names o m (f x)) true (cond (q && names o m (f k)) false (touched f xs o m s))
        ≡ cond (q && names o m (f k)) false (cond (p && names o m (f x)) true (touched f xs o m s))
    apart false q e g = refl
    apart true false e g = refl
    apart true true e g = absurd (omega (
      arith,
      rising_at x.entry.serial xs i k h.1 at,
      nat_same x.entry.serial s e,
      nat_same k.entry.serial s g,
    ))

-- who made a touch
pub record Toucher (f : UndoRecord → List Access) (ks : List UndoRecord) (o : Obj) (m : Mode) (s : ℕ) : Type 0 where
  pub i : ℕ
  pub made : UndoRecord
  pub at : slice_get ks i ≡ Some made
  pub serial_is : made.entry.serial ≡ s
  pub named : names o m (f made) ≡ true

pub toucher : (f : UndoRecord → List Access) (ks : List UndoRecord) (o : Obj) (m : Mode) (s : ℕ)
    → touched f ks o m s ≡ true → Toucher f ks o m s
toucher f [] o m s h = cc
toucher f (k ∷ ks) o m s h =
    go (nat_eq k.entry.serial s) (names o m (f k)) refl refl h (λ e. toucher f ks o m s e)
  where
    behind : Toucher f ks o m s → Toucher f (k ∷ ks) o m s
    behind t = record {
      i = suc t.i;
      made = t.made;
      at = t.at;
      serial_is = t.serial_is;
      named = t.named;
    }

    go : (e n : Bool) → nat_eq k.entry.serial s ≡ e → names o m (f k) ≡ n
        → cond (e && n) true (touched f ks o m s) ≡ true → (touched f ks o m s ≡ true → Toucher f ks o m s)
        → Toucher f (k ∷ ks) o m s
    go true true is named h later = record {
      i = 0;
      made = k;
      at = refl;
      serial_is = nat_same k.entry.serial s is;
      named = named;
    }
    go true false is named h later = behind (later h)
    go false n is named h later = behind (later h)
