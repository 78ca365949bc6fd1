-- The first entry that conflicts, by the touch lists, is the one that the definition names; and a worker's last entry.
use Rattle.std.proofs.Common.{◌≡◌, ◌≢◌, refl, sym, ◌∙◌, ap, Bool, true, false, cond, ◌&&◌, nat_eq, ℕ, zero, suc, ◌+◌, ◌-◌, ◌<◌, ◌≤◌}
use Rattle.std.proofs.Common.{arith, Option, None, Some, List, [], ◌∷◌, drop, get_or, ⊎_elim}
use Rattle.std.specs.Prelude.{slice_get, is_some, All, IfSome, IfNone}
use Rattle.std.proofs.lemmas.Bool.{true≢false}
use Rattle.std.proofs.lemmas.Option.{slice_get-get_or}
use Rattle.std.proofs.lemmas.Bool.Decides.{Decides-eqb}
use Rattle.om_foot.specs.declared.object.Obj.{Obj}
use Rattle.om_foot.specs.declared.object.Obj.TheVariants as obj
use Rattle.om_foot.specs.declared.footprint.Mode.{Mode}
use Rattle.om_foot.specs.declared.footprint.Mode.TheVariants.{Read, Write, Add}
use Rattle.om_foot.specs.declared.footprint.Access.{Access}
use Rattle.om_foot.specs.Footprint.{conflict_of, modes_conflict}
use Rattle.om_state.specs.declared.step.Entry.{Entry}
use Rattle.om_undo_history.specs.declared.reply.UndoReply.{UndoReply}
use Rattle.om_undo_history.specs.declared.reply.UndoReply.TheVariants.{Undone}
use Rattle.om_undo_history.specs.declared.records.UndoRecord.{UndoRecord}
use Rattle.om_undo_touches.specs.declared.own.OwnEntries.{OwnEntries}
use Rattle.om_undo_touches.specs.declared.touches.TouchLists.{TouchLists}
use Rattle.om_undo_history.specs.Records.{conflict_or, first_kept_conflict, reply_before, kept_reply, LastHasSerial}
use Rattle.om_undo_touches.specs.Touches.{names, has_touch, meets_at, meets}
use Rattle.om_foot.specs.Firsts.{IsFirst, IsGreatest}
use Rattle.om_undo_history.specs.Touches.{AreListsOf, own_footprint}
use Rattle.om_undo_touches.specs.Touches.{is_own}
use Rattle.om_undo_history.specs.Touches.{AreOwnOf}
use Rattle.om_undo_touches.specs.Searches.{either_true, meets-alike, meets-named}
use Rattle.om_undo_history.proofs.OwnEntries.{own_named}
use Rattle.om_undo_history.proofs.Touched.{Rising, rising_later, rising_behind, touched-at, Toucher, toucher, nat_self}

abbrev pub footprint_of : UndoRecord → List Access
footprint_of k = k.footprint

not_met : (e : Entry) (o : Option Obj) (r : UndoReply) → is_some o ≡ false → conflict_or e o r ≡ r
not_met e None r h = refl
not_met e (Some q) r h = cc

met : (e : Entry) (o : Option Obj) (r s : UndoReply) → is_some o ≡ true → conflict_or e o r ≡ conflict_or e o s
met e (Some q) r s h = refl
met e None r s h = cc

-- no record conflicts
none_first : (footprint : List Access) (later : List UndoRecord) (otherwise : UndoReply)
    → ((n : ℕ) (k : UndoRecord) → slice_get later n ≡ Some k → is_some (conflict_of footprint k.footprint) ≡ false)
    → first_kept_conflict footprint later otherwise ≡ otherwise
none_first footprint [] otherwise h = refl
none_first footprint (k ∷ ks) otherwise h =
    not_met k.entry (conflict_of footprint k.footprint) (first_kept_conflict footprint ks otherwise) (h 0 k refl)
    ∙ none_first footprint ks otherwise (λ n x at. h (suc n) x at)

-- the record at an index is the first that conflicts
some_first : (footprint : List Access) (later : List UndoRecord) (n : ℕ) (made : UndoRecord) (otherwise : UndoReply)
    → slice_get later n ≡ Some made → is_some (conflict_of footprint made.footprint) ≡ true
    → ((j : ℕ) (k : UndoRecord) → slice_get later j ≡ Some k → j < n
    → is_some (conflict_of footprint k.footprint) ≡ false)
    → first_kept_conflict footprint later otherwise
    ≡ conflict_or made.entry (conflict_of footprint made.footprint) otherwise
some_first footprint [] n made otherwise at here before = cc
some_first footprint (k ∷ ks) zero made otherwise at here before =
    let is : k ≡ made = cc in
    ap (λ (x : UndoRecord). conflict_or x.entry (conflict_of footprint x.footprint)
    (first_kept_conflict footprint ks otherwise)) is
    ∙ met made.entry (conflict_of footprint made.footprint) (first_kept_conflict footprint ks otherwise) otherwise here
some_first footprint (k ∷ ks) (suc n) made otherwise at here before =
    not_met k.entry (conflict_of footprint k.footprint) (first_kept_conflict footprint ks otherwise)
    (before 0 k refl (omega arith))
    ∙ some_first footprint ks n made otherwise at here (λ j x to less. before (suc j) x to (omega (arith, less)))

pub slice_get-drop : {X : Type 0} (i : ℕ) (xs : List X) (n : ℕ) → slice_get (drop i xs) n ≡ slice_get xs (i + n)
slice_get-drop zero xs n = let e : n ≡ 0 + n = omega arith in ap (slice_get xs) e
slice_get-drop (suc i) [] n = refl
slice_get-drop (suc i) (x ∷ xs) n =
    let e : suc (i + n) ≡ suc i + n = omega arith in slice_get-drop i xs n ∙ ap (slice_get (x ∷ xs)) e

-- a serial meets a footprint where its record conflicts with it
pub met_is : (ks : List UndoRecord) (lists : TouchLists) (footprint : List Access) (j : ℕ) (k : UndoRecord) → Rising 0 ks
    → AreListsOf footprint_of ks lists → slice_get ks j ≡ Some k
    → meets (has_touch lists) footprint k.entry.serial ≡ is_some (conflict_of footprint k.footprint)
met_is ks lists footprint j k rises are at =
    meets-alike (has_touch lists) (λ o m t. names o m k.footprint) footprint k.entry.serial 0
    (λ o m. are o m k.entry.serial ∙ touched-at footprint_of 0 ks j k o m rises at)
    ∙ meets-named footprint k.footprint

reply_is : (ks : List UndoRecord) (i : ℕ) (k : UndoRecord) → slice_get ks i ≡ Some k
    → kept_reply ks i ≡ first_kept_conflict k.footprint (drop (i + 1) ks) (Undone k.entry.serial k.entry.line)
reply_is ks i k at = ap (λ o. reply_before o (drop (i + 1) ks)) at

pub reply_none : (ks : List UndoRecord) (lists : TouchLists) (i : ℕ) (k : UndoRecord) → Rising 0 ks
    → AreListsOf footprint_of ks lists → slice_get ks i ≡ Some k
    → IsFirst (meets (has_touch lists) k.footprint) k.entry.serial None
    → Undone k.entry.serial k.entry.line ≡ kept_reply ks i
reply_none ks lists i k rises are at none =
    sym (reply_is ks i k at
    ∙ none_first k.footprint (drop (i + 1) ks) (Undone k.entry.serial k.entry.line)
    (λ n x to. let there : slice_get ks (i + 1 + n) ≡ Some x = sym (slice_get-drop (i + 1) ks n) ∙ to in
    sym (met_is ks lists k.footprint (i + 1 + n) x rises are there)
    ∙ none x.entry.serial (rising_later 0 ks i (i + 1 + n) k x rises at there (omega arith))))

pub reply_some : (ks : List UndoRecord) (lists : TouchLists) (i j : ℕ) (k made : UndoRecord) → Rising 0 ks
    → AreListsOf footprint_of ks lists → slice_get ks i ≡ Some k → slice_get ks j ≡ Some made
    → IsFirst (meets (has_touch lists) k.footprint) k.entry.serial (Some made.entry.serial)
    → conflict_or made.entry (conflict_of k.footprint made.footprint) (Undone k.entry.serial k.entry.line)
    ≡ kept_reply ks i
reply_some ks lists i j k made rises are at to first =
    let less : i < j = rising_behind 0 ks i j k made rises at to first.0 in
    let place : i + 1 + (j - (i + 1)) ≡ j = omega (arith, less) in
    sym (reply_is ks i k at
    ∙ some_first k.footprint (drop (i + 1) ks) (j - (i + 1)) made (Undone k.entry.serial k.entry.line)
    (slice_get-drop (i + 1) ks (j - (i + 1)) ∙ ap (slice_get ks) place ∙ to)
    (sym (met_is ks lists k.footprint j made rises are to) ∙ first.1)
    (λ n x there before. let stands : slice_get ks (i + 1 + n) ≡ Some x = sym (slice_get-drop (i + 1) ks n) ∙ there in
    sym (met_is ks lists k.footprint (i + 1 + n) x rises are stands)
    ∙ first.2 x.entry.serial (rising_later 0 ks i (i + 1 + n) k x rises at stands (omega arith))
    (rising_later 0 ks (i + 1 + n) j x made rises stands to (omega (arith, before, less)))))

-- an entry stands behind each serial that is found

second : (p q : Bool) → (p && q) ≡ true → q ≡ true
second true q h = h
second false q h = cc

touched_by : (touch : Mode → ℕ → Bool) (m : Mode) (s : ℕ) → meets_at touch m s ≡ true
    → (n : Mode) × (touch n s ≡ true)
touched_by touch m s h =
    ⊎_elim (λ read. (Read, second (modes_conflict m Read) (touch Read s) read))
    (λ more. ⊎_elim (λ written. (Write, second (modes_conflict m Write) (touch Write s) written))
    (λ added. (Add, second (modes_conflict m Add) (touch Add s) added))
    (either_true (modes_conflict m Write && touch Write s) (modes_conflict m Add && touch Add s) more))
    (either_true (modes_conflict m Read && touch Read s)
    (cond (modes_conflict m Write && touch Write s) true (modes_conflict m Add && touch Add s)) h)

pub record Behind (ks : List UndoRecord) (s : ℕ) : Type 0 where
  pub o : Obj
  pub m : Mode
  pub who : Toucher footprint_of ks o m s

pub found_behind : (ks : List UndoRecord) (lists : TouchLists) (footprint : List Access) (s : ℕ)
    → AreListsOf footprint_of ks lists → meets (has_touch lists) footprint s ≡ true → Behind ks s
found_behind ks lists [] s are h = cc
found_behind ks lists (a ∷ rest) s are h =
    ⊎_elim
    (λ here. let n = touched_by (has_touch lists a.object) a.mode s here in record {
      o = a.object;
      m = n.0;
      who = toucher footprint_of ks a.object n.0 s (sym (are a.object n.0 s) ∙ n.1);
    })
    (λ later. found_behind ks lists rest s are later)
    (either_true (meets_at (has_touch lists a.object) a.mode s) (meets (has_touch lists) rest s) h)

-- a worker's last entry

own_at : (ks : List UndoRecord) (own : OwnEntries) (w i : ℕ) (k : UndoRecord) → Rising 0 ks
    → AreOwnOf ks own → slice_get ks i ≡ Some k → k.entry.worker ≡ w
    → is_own own w k.entry.serial ≡ true
own_at ks own w i k rises are at is =
    are w k.entry.serial ∙ touched-at own_footprint 0 ks i k (obj.Control w) Write rises at
    ∙ own_named k w ∙ ap (λ n. nat_eq n w) is ∙ nat_self w

pub last_found : (ks : List UndoRecord) (own : OwnEntries) (w t : ℕ) → Rising 0 ks
    → AreOwnOf ks own → IsGreatest (is_own own w) (Some t)
    → LastHasSerial w ks t
last_found ks own w t rises are greatest =
    let who : Toucher own_footprint ks (obj.Control w) Write t =
    toucher own_footprint ks (obj.Control w) Write t (sym (are w t) ∙ greatest.0) in
    record {
      i = who.i;
      made = who.made;
      is_last = record {
        at = who.at;
        own = (Decides-eqb who.made.entry.worker w).0 (sym (own_named who.made w) ∙ who.named);
        none_later = λ n d less is.
            let x : UndoRecord = get_or (drop (who.i + 1) ks) n d in
            let there : slice_get ks (who.i + 1 + n) ≡ Some x = sym (slice_get-drop (who.i + 1) ks n)
            ∙ slice_get-get_or (drop (who.i + 1) ks) n d less in
            let later : who.made.entry.serial < x.entry.serial =
            rising_later 0 ks who.i (who.i + 1 + n) who.made x rises who.at there (omega arith) in
            let most : x.entry.serial ≤ t = greatest.1 x.entry.serial
            (own_at ks own w (who.i + 1 + n) x rises are there is) in
            omega (arith, later, most, who.serial_is);
      };
      serial_is = who.serial_is;
    }

pub last_none : (ks : List UndoRecord) (own : OwnEntries) (w : ℕ) → Rising 0 ks → AreOwnOf ks own
    → IsGreatest (is_own own w) None
    → All (λ (k : UndoRecord). k.entry.worker ≢ w) ks
last_none ks own w rises are none = λ n d less is.
    let x : UndoRecord = get_or ks n d in
    true≢false (sym (own_at ks own w n x rises are (slice_get-get_or ks n d less) is) ∙ none x.entry.serial)

-- the same of what a search answers
pub last_if : (ks : List UndoRecord) (own : OwnEntries) (w : ℕ) (x : Option ℕ) → Rising 0 ks
    → AreOwnOf ks own → IsGreatest (is_own own w) x
    → IfSome x (λ s. LastHasSerial w ks s)
last_if ks own w None rises are greatest = tt
last_if ks own w (Some t) rises are greatest = last_found ks own w t rises are greatest

pub none_if : (ks : List UndoRecord) (own : OwnEntries) (w : ℕ) (x : Option ℕ) → Rising 0 ks
    → AreOwnOf ks own → IsGreatest (is_own own w) x
    → IfNone x (All (λ (k : UndoRecord). k.entry.worker ≢ w) ks)
none_if ks own w None rises are greatest = last_none ks own w rises are greatest
none_if ks own w (Some t) rises are greatest = tt
