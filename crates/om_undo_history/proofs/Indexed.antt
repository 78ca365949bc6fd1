-- Records by serial with their touch lists: with one more, without one, and what a search in them finds.
use Rattle.std.proofs.Common.{◌≡◌, refl, sym, ◌∙◌, ap, subst, Bool, true, false, ℕ, ◌<◌}
use Rattle.std.proofs.Common.{None, Some, List, [], ◌∷◌, ◌++◌, IfSome, cond, nat_eq, ◌&&◌}
use Rattle.std.specs.Prelude.{slice_get, remove, is_some}
use Rattle.std.specs.Ordering.{nat_cmp}
use Rattle.std.specs.BTreeMap.{is_at}
use Rattle.std.specs.Map.{lookup, remove_entry, values_of}
use Rattle.om_foot.specs.declared.object.Obj.{Obj}
use Rattle.om_foot.specs.declared.footprint.Mode.{Mode}
use Rattle.om_foot.specs.declared.footprint.Access.{Access}
use Rattle.om_foot.specs.Footprint.{conflict_of}
use Rattle.om_undo_history.specs.declared.reply.UndoReply.{UndoReply}
use Rattle.om_undo_history.specs.declared.reply.UndoReply.TheVariants.{Undone}
use Rattle.om_undo_history.specs.declared.records.UndoRecord.{UndoRecord}
use Rattle.om_undo_touches.specs.declared.own.OwnEntries.{OwnEntries}
use Rattle.om_undo_touches.specs.declared.touches.TouchLists.{TouchLists}
use Rattle.om_undo_history.specs.Records.{conflict_or, kept_reply, record_with, AreBelow, Refuses}
use Rattle.om_undo_touches.specs.Touches.{names as names_it, has_touch, meets, AreSame, AreWith}
use Rattle.om_foot.specs.Firsts.{IsFirst}
use Rattle.om_undo_history.specs.Touches.{touched, AreBySerial, AreListsOf}
use Rattle.om_undo_touches.specs.Touches.{AreOnly, AreWithout, is_own, SameOwn, WithOwn, WithoutOwn}
use Rattle.om_undo_history.specs.Touches.{AreOwnOf, ConflictsAt, IsIndexed}
use Rattle.om_undo_history.proofs.Touched.{touched-at, touched-below, touched-remove}
use Rattle.om_undo_history.proofs.BySerial.{at_is, rising, IsFound, is_found, Stands, stands, values-push, by_serial-push}
use Rattle.om_undo_history.proofs.Members.{lists-push}
use Rattle.om_undo_history.proofs.OwnEntries.{own-push, own-remove}
use Rattle.om_undo_history.proofs.Replies.{footprint_of, found_behind, met_is, reply_none, reply_some}

pub no_records : (es : List (ℕ × UndoRecord)) (lists : TouchLists) (own : OwnEntries) → es ≡ []
    → ((o : Obj) (m : Mode) (s : ℕ) → has_touch lists o m s ≡ false)
    → ((w s : ℕ) → is_own own w s ≡ false) → IsIndexed es lists own
no_records es lists own is none none_own = subst (λ fs. IsIndexed fs lists own) (sym is)
    (record { by_serial = tt; touches = none; own_entries = none_own })

-- a serial above all others has no touch
pub fresh : (f : UndoRecord → List Access) (ks : List UndoRecord) (lists : TouchLists) (s : ℕ) → AreListsOf f ks lists
    → AreBelow s ks → (o : Obj) (m : Mode) → has_touch lists o m s ≡ false
fresh f ks lists s are below o m = are o m s ∙ touched-below f ks o m s below

pub indexed_same : (es : List (ℕ × UndoRecord)) (lists more : TouchLists) (own more_own : OwnEntries)
    → IsIndexed es lists own → AreSame lists more → SameOwn own more_own → IsIndexed es more more_own
indexed_same es lists more own more_own h same same_own = record {
  by_serial = h.by_serial;
  touches = λ o m s. same o m s ∙ h.touches o m s;
  own_entries = λ w s. same_own w s ∙ h.own_entries w s;
}

pub indexed_with : (es : List (ℕ × UndoRecord)) (k : UndoRecord) (lists more : TouchLists) (own more_own : OwnEntries)
    → IsIndexed es lists own → 0 < k.entry.serial → AreBelow k.entry.serial (values_of es)
    → AreWith k.footprint k.entry.serial lists more → WithOwn k.entry.worker k.entry.serial own more_own
    → IsIndexed (es ++ (k.entry.serial, k) ∷ []) more more_own
indexed_with es k lists more own more_own h some below added added_own =
    let values : values_of (es ++ (k.entry.serial, k) ∷ []) ≡ values_of es ++ k ∷ [] =
    values-push es k.entry.serial k in
    record {
      by_serial = by_serial-push 0 es k.entry.serial k h.by_serial some refl below;
      touches = subst (λ ks. AreListsOf footprint_of ks more) (sym values)
          (lists-push footprint_of (values_of es) k lists more h.touches added);
      own_entries = subst (λ ks. AreOwnOf ks more_own) (sym values)
          (own-push (values_of es) k own more_own h.own_entries added_own);
    }

lists-remove : (f : UndoRecord → List Access) (ks : List UndoRecord) (i : ℕ) (k : UndoRecord) (old new : TouchLists)
    → AreListsOf f ks old → AreWithout (f k) k.entry.serial old new
    → ((o : Obj) (m : Mode) (s : ℕ) → touched f (remove ks i) o m s
    ≡ cond (nat_eq k.entry.serial s && names_it o m (f k)) false (touched f ks o m s))
    → AreListsOf f (remove ks i) new
lists-remove f ks i k old new are less is o m s =
    less o m s
    ∙ ap (λ b. cond (nat_eq k.entry.serial s && names_it o m (f k)) false b) (are o m s)
    ∙ sym (is o m s)

pub indexed_without : (es : List (ℕ × UndoRecord)) (serial : ℕ) (k : UndoRecord) (lists less : TouchLists)
    (own less_own : OwnEntries) → IsIndexed es lists own → lookup (is_at (nat_cmp serial)) es ≡ Some k
    → AreWithout k.footprint k.entry.serial lists less → WithoutOwn k.entry.worker k.entry.serial own less_own
    → IsIndexed (remove_entry (is_at (nat_cmp serial)) es) less less_own
indexed_without es serial k lists less own less_own h there gone gone_own =
    let place : Stands es serial k = stands 0 es serial k h.by_serial there in
    let found : IsFound 0 es place.i k = is_found 0 es place.i k h.by_serial place.at in
    let rises = rising 0 es h.by_serial in
    subst (λ n. IsIndexed (remove_entry (is_at (nat_cmp n)) es) less less_own) place.serial_is
    (record {
      by_serial = found.by_serial;
      touches = subst (λ ks. AreListsOf footprint_of ks less) (sym found.left)
          (lists-remove footprint_of (values_of es) place.i k lists less h.touches gone
          (λ o m s. touched-remove footprint_of 0 (values_of es) place.i k o m s rises place.at));
      own_entries = subst (λ ks. AreOwnOf ks less_own) (sym found.left)
          (own-remove (values_of es) place.i k own less_own rises place.at h.own_entries gone_own);
    })

-- the record with a serial, by its index
pub found_by : (es : List (ℕ × UndoRecord)) (i : ℕ) (k : UndoRecord) (serial : ℕ) → AreBySerial 0 es
    → slice_get (values_of es) i ≡ Some k → k.entry.serial ≡ serial → lookup (is_at (nat_cmp serial)) es ≡ Some k
found_by es i k serial h at is = subst (λ n. lookup (is_at (nat_cmp n)) es ≡ Some k) is (is_found 0 es i k h at).found

pub left_by : (es : List (ℕ × UndoRecord)) (i : ℕ) (k : UndoRecord) (serial : ℕ) → AreBySerial 0 es
    → slice_get (values_of es) i ≡ Some k → k.entry.serial ≡ serial
    → values_of (remove_entry (is_at (nat_cmp serial)) es) ≡ remove (values_of es) i
left_by es i k serial h at is = subst (λ n. values_of (remove_entry (is_at (nat_cmp n)) es) ≡ remove (values_of es) i)
    is (is_found 0 es i k h at).left

some_same : (a b : UndoRecord) → Some a ≡ Some b → a ≡ b
some_same a b h = cc

-- a record has each serial that a search finds, and conflicts with the footprint
pub conflicts_there : (es : List (ℕ × UndoRecord)) (lists : TouchLists) (undone : UndoRecord) (above s : ℕ)
    → AreBySerial 0 es → AreListsOf footprint_of (values_of es) lists
    → IsFirst (meets (has_touch lists) undone.footprint) above (Some s) → ConflictsAt s es undone
conflicts_there es lists undone above s h are first =
    let who = found_behind (values_of es) lists undone.footprint s are first.1 in
    let made : UndoRecord = who.who.made in (
      made,
      found_by es who.who.i made s h who.who.at who.who.serial_is,
      sym (met_is (values_of es) lists undone.footprint who.who.i made (rising 0 es h) are who.who.at)
          ∙ ap (meets (has_touch lists) undone.footprint) who.who.serial_is ∙ first.1,
    )

-- so that record is not missing
pub there_is : (es : List (ℕ × UndoRecord)) (s : ℕ) (earlier : UndoRecord) → ConflictsAt s es earlier
    → lookup (is_at (nat_cmp s)) es ≡ None → ⊥
there_is es s earlier h missing = never (sym h.1 ∙ missing)
  where
    never : {x : UndoRecord} → Some x ≡ None → ⊥
    never e = cc

pub reply_free : (es : List (ℕ × UndoRecord)) (lists : TouchLists) (i serial : ℕ) (k undone : UndoRecord)
    → AreBySerial 0 es → AreListsOf footprint_of (values_of es) lists → slice_get (values_of es) i ≡ Some k
    → k.entry.serial ≡ serial → lookup (is_at (nat_cmp serial)) es ≡ Some undone
    → IsFirst (meets (has_touch lists) undone.footprint) serial None
    → Undone serial undone.entry.line ≡ kept_reply (values_of es) i
reply_free es lists i serial k undone h are at is there first =
    let same : k ≡ undone = some_same k undone (sym (found_by es i k serial h at is) ∙ there) in
    let free : IsFirst (meets (has_touch lists) k.footprint) k.entry.serial None =
    subst (λ n. IsFirst (meets (has_touch lists) k.footprint) n None) (sym is)
    (subst (λ (x : UndoRecord). IsFirst (meets (has_touch lists) x.footprint) serial None) (sym same) first) in
    (λ j. Undone (sym is j) (sym same j).entry.line)
    ∙ reply_none (values_of es) lists i k (rising 0 es h) are at free

pub reply_refused : (es : List (ℕ × UndoRecord)) (lists : TouchLists) (i serial s : ℕ) (k undone : UndoRecord)
    (reply : UndoReply)
    → AreBySerial 0 es → AreListsOf footprint_of (values_of es) lists → slice_get (values_of es) i ≡ Some k
    → k.entry.serial ≡ serial → lookup (is_at (nat_cmp serial)) es ≡ Some undone
    → IsFirst (meets (has_touch lists) undone.footprint) serial (Some s)
    → IfSome (lookup (is_at (nat_cmp s)) es) (Refuses undone reply)
    → reply ≡ kept_reply (values_of es) i
reply_refused es lists i serial s k undone reply h are at is there first names =
    let same : k ≡ undone = some_same k undone (sym (found_by es i k serial h at is) ∙ there) in
    let who = found_behind (values_of es) lists undone.footprint s are first.1 in
    let made : UndoRecord = who.who.made in
    let met : IsFirst (meets (has_touch lists) k.footprint) k.entry.serial (Some made.entry.serial) =
    subst (λ n. IsFirst (meets (has_touch lists) k.footprint) k.entry.serial (Some n)) (sym who.who.serial_is)
    (subst (λ n. IsFirst (meets (has_touch lists) k.footprint) n (Some s)) (sym is)
    (subst (λ (x : UndoRecord). IsFirst (meets (has_touch lists) x.footprint) serial (Some s)) (sym same) first)) in
    let refuses : Refuses undone reply made =
    subst (λ o. IfSome o (Refuses undone reply)) (found_by es who.who.i made s h who.who.at who.who.serial_is) names in
    let named : reply ≡ conflict_or made.entry (conflict_of undone.footprint made.footprint)
    (Undone serial undone.entry.line) =
    refuses.2 ∙ ap (λ o. conflict_or made.entry o (Undone serial undone.entry.line)) (sym refuses.1) in
    named
    ∙ (λ j. conflict_or made.entry (conflict_of (sym same j).footprint made.footprint)
    (Undone (sym is j) (sym same j).entry.line))
    ∙ reply_some (values_of es) lists i who.who.i k made (rising 0 es h) are at who.who.at met

pub not_missing : (es : List (ℕ × UndoRecord)) (i serial : ℕ) (k : UndoRecord) → AreBySerial 0 es
    → slice_get (values_of es) i ≡ Some k → k.entry.serial ≡ serial → lookup (is_at (nat_cmp serial)) es ≡ None → ⊥
not_missing es i serial k h at is missing =
    never (sym (found_by es i k serial h at is) ∙ missing)
  where
    never : {x : UndoRecord} → Some x ≡ None → ⊥
    never e = cc

-- where no record is behind a serial, no later one conflicts
pub none_behind : (es : List (ℕ × UndoRecord)) (lists : TouchLists) (footprint : List Access) (serial : ℕ)
    → AreBySerial 0 es → AreListsOf footprint_of (values_of es) lists
    → ((t : ℕ) → serial < t → lookup (is_at (nat_cmp t)) es ≡ None)
    → IsFirst (meets (has_touch lists) footprint) serial None
none_behind es lists footprint serial h are none s behind = go (meets (has_touch lists) footprint s) refl
  where
    go : (b : Bool) → meets (has_touch lists) footprint s ≡ b → b ≡ false
    go false is = refl
    go true is =
        let who = found_behind (values_of es) lists footprint s are is in
        absurd (not_missing es who.who.i s who.who.made h who.who.at who.who.serial_is (none s behind))

-- all touches of a record that stands are of its footprint
pub only_of : (es : List (ℕ × UndoRecord)) (serial : ℕ) (k : UndoRecord) (lists : TouchLists) (own : OwnEntries)
    → IsIndexed es lists own → lookup (is_at (nat_cmp serial)) es ≡ Some k → AreOnly k.footprint k.entry.serial lists
only_of es serial k lists own h there o m is =
    let place : Stands es serial k = stands 0 es serial k h.by_serial there in
    sym (touched-at footprint_of 0 (values_of es) place.i k o m (rising 0 es h.by_serial) place.at)
    ∙ sym (h.touches o m k.entry.serial) ∙ is

-- the look-up of a serial finds the record with it
pub look-up : (low : ℕ) (es : List (ℕ × UndoRecord)) (serial : ℕ) → AreBySerial low es
    → lookup (is_at (nat_cmp serial)) es ≡ record_with serial (values_of es)
look-up low [] serial h = refl
look-up low (e ∷ es) serial h =
    (λ j. cond (same j) (Some e.1) (lookup (is_at (nat_cmp serial)) es))
    ∙ ap (cond (nat_eq e.1.entry.serial serial) (Some e.1)) (look-up e.0 es serial h.2)
  where
    same : is_at (nat_cmp serial) e.0 ≡ nat_eq e.1.entry.serial serial
    same = at_is serial e.0 ∙ ap (λ n. nat_eq n serial) h.1
