-- An entry is taken out at an index, and what is read of records.
use Rattle.std.proofs.Common.{◌≡◌, ◌≢◌, refl, sym, ◌∙◌, ap, subst, ℕ, zero, suc, ◌+◌, List, [], ◌∷◌, Some, drop, remove, slice_get, unwrap_or, arith}
use Rattle.std.specs.Prelude.{All}
use Rattle.std.proofs.lemmas.List.Elements.{All-cons, All-head, All-tail}
use Rattle.om_foot.specs.declared.footprint.Access.{Access}
use Rattle.om_undo_history.specs.declared.records.UndoRecord.{UndoRecord}
use Rattle.om_undo_history.specs.declared.reply.UndoReply.{UndoReply}
use Rattle.om_undo_history.specs.declared.reply.UndoReply.TheVariants.{Undone}
use Rattle.om_foot.specs.Footprint.{conflict_of}
use Rattle.om_undo_history.specs.Records.{conflict_or, entries_of, transition_of, transitions_of, first_kept_conflict, reply_before, kept_reply}
use Rattle.om_undo_history.specs.Records.{IsLastOf}
use Rattle.om_memory.specs.Memories.{Pasts}
use Rattle.om_undo_history.specs.Fills.{full, before, before_all, full_all}
use Rattle.om_undo_history.proofs.Logs.{NoneConflicts}
use Rattle.om_undo_history.proofs.Fills.{before_all-before, full-latest, full_all-without}

-- an entry is taken out by its index: its values are the latest of the trails, and the others stand for what they stood
-- for
pub record RemovedAt (ps : Pasts) (ks : List UndoRecord) (i : ℕ) (k : UndoRecord) : Type 0 where
  pub at : slice_get (full_all ps ks) i ≡ Some (full ps k)
  pub without : remove (full_all ps ks) i ≡ full_all (before ps k) (remove ks i)

pub same_record : (k l : UndoRecord) → Some k ≡ Some l → k ≡ l
same_record k l e = ap (λ o. unwrap_or o k) e

before_all-removed : (ks : List UndoRecord) (i : ℕ) (ps : Pasts) (k : UndoRecord) → slice_get ks i ≡ Some k
    → before_all (before ps k) (remove ks i) ≡ before_all ps ks
before_all-removed [] i ps k h = cc
before_all-removed (l ∷ ks) zero ps k h =
    subst (λ x. before_all (before ps x) ks ≡ before (before_all ps ks) l) (same_record l k h) (before_all-before ps l ks)
before_all-removed (l ∷ ks) (suc i) ps k h = ap (λ x. before x l) (before_all-removed ks i ps k h)

pub removed : (ks : List UndoRecord) (i : ℕ) (ps : Pasts) (k : UndoRecord) → slice_get ks i ≡ Some k
    → NoneConflicts k.footprint (drop (suc i) ks) → RemovedAt ps ks i k
removed [] i ps k h apart = cc
removed (l ∷ ks) zero ps k h apart =
    let same : l ≡ k = same_record l k h in
    let apart_l : NoneConflicts l.footprint ks = subst (λ (x : UndoRecord). NoneConflicts x.footprint ks) (sym same) apart in
    record {
      at = ap Some (full-latest l ks ps apart_l ∙ ap (full ps) same);
      without = sym (full_all-without l ks ps apart_l) ∙ ap (λ x. full_all (before ps x) ks) same;
    }
removed (l ∷ ks) (suc i) ps k h apart =
    let rest = removed ks i ps k h apart in
    record {
      at = rest.at;
      without = λ j. full (sym (before_all-removed ks i ps k h) j) l ∷ rest.without j;
    }

-- a worker's last record stands for its last one

full_at : (ks : List UndoRecord) (i : ℕ) (ps : Pasts) (k : UndoRecord) → slice_get ks i ≡ Some k
    → slice_get (full_all ps ks) i ≡ Some (full (before_all ps (drop (suc i) ks)) k)
full_at [] i ps k h = cc
full_at (l ∷ ks) zero ps k h = ap (λ x. Some (full (before_all ps ks) x)) (same_record l k h)
full_at (l ∷ ks) (suc i) ps k h = full_at ks i ps k h

drop_full : (j : ℕ) (ps : Pasts) (ks : List UndoRecord) → drop j (full_all ps ks) ≡ full_all ps (drop j ks)
drop_full zero ps ks = refl
drop_full (suc j) ps [] = refl
drop_full (suc j) ps (k ∷ ks) = drop_full j ps ks

pub others_full : (w : ℕ) (ps : Pasts) (ks : List UndoRecord) → All (λ (k : UndoRecord). k.entry.worker ≢ w) ks
    → All (λ (k : UndoRecord). k.entry.worker ≢ w) (full_all ps ks)
others_full w ps [] h = h
others_full w ps (k ∷ ks) h = All-cons (λ (x : UndoRecord). x.entry.worker ≢ w) (full (before_all ps ks) k)
    (full_all ps ks) (All-head (λ (x : UndoRecord). x.entry.worker ≢ w) k ks h)
    (others_full w ps ks (All-tail (λ (x : UndoRecord). x.entry.worker ≢ w) k ks h))

pub last_full : (w : ℕ) (ps : Pasts) (ks : List UndoRecord) (i : ℕ) (k : UndoRecord) → IsLastOf w ks i k
    → IsLastOf w (full_all ps ks) i (full (before_all ps (drop (suc i) ks)) k)
last_full w ps ks i k last = record {
  at = full_at ks i ps k last.at;
  own = last.own;
  none_later = subst (All (λ (x : UndoRecord). x.entry.worker ≢ w)) (sym (drop_full (i + 1) ps ks))
      (others_full w ps (drop (i + 1) ks) last.none_later);
}

-- replies, serials and cones read entries and footprints alone, which small records have in common with those that they
-- stand for

pub full_entries : (ps : Pasts) (ks : List UndoRecord) → entries_of (full_all ps ks) ≡ entries_of ks
full_entries ps [] = refl
full_entries ps (k ∷ ks) = ap (λ es. k.entry ∷ es) (full_entries ps ks)

pub full_transitions : (ps : Pasts) (ks : List UndoRecord) → transitions_of (full_all ps ks) ≡ transitions_of ks
full_transitions ps [] = refl
full_transitions ps (k ∷ ks) = ap (λ ts. transition_of k ∷ ts) (full_transitions ps ks)

full_conflict : (footprint : List Access) (ps : Pasts) (ks : List UndoRecord) (r : UndoReply)
    → first_kept_conflict footprint (full_all ps ks) r ≡ first_kept_conflict footprint ks r
full_conflict footprint ps [] r = refl
full_conflict footprint ps (k ∷ ks) r = ap (conflict_or k.entry (conflict_of footprint k.footprint)) (full_conflict footprint ps ks r)

abbrev reply_in : List UndoRecord → ℕ → UndoReply
reply_in ks i = reply_before (slice_get ks i) (drop (suc i) ks)

full_reply : (ps : Pasts) (ks : List UndoRecord) (i : ℕ) → reply_in (full_all ps ks) i ≡ reply_in ks i
full_reply ps [] i = refl
full_reply ps (k ∷ ks) zero = full_conflict k.footprint ps ks (Undone k.entry.serial k.entry.line)
full_reply ps (k ∷ ks) (suc i) = full_reply ps ks i

kept_reply-in : (ks : List UndoRecord) (i : ℕ) → kept_reply ks i ≡ reply_in ks i
kept_reply-in ks i = ap (λ n. reply_before (slice_get ks i) (drop n ks)) (let e : i + 1 ≡ suc i = omega arith in e)

pub full_kept_reply : (ps : Pasts) (ks : List UndoRecord) (i : ℕ) → kept_reply (full_all ps ks) i ≡ kept_reply ks i
full_kept_reply ps ks i = kept_reply-in (full_all ps ks) i ∙ full_reply ps ks i ∙ sym (kept_reply-in ks i)
