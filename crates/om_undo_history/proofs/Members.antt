-- The members of a cone, found by the touches of those before.
use Rattle.std.proofs.Common.{◌≡◌, refl, sym, ◌∙◌, ap, subst, Bool, true, false, cond, ◌&&◌, nat_eq, ℕ, ◌<◌}
use Rattle.std.proofs.Common.{Option, None, Some, List, [], ◌∷◌, ◌++◌, append_assoc, append-nil, ⊎_elim}
use Rattle.std.specs.Prelude.{is_some, map, reverse}
use Rattle.std.proofs.lemmas.List.{map-append, reverse-append}
use Rattle.om_foot.specs.declared.object.Obj.{Obj}
use Rattle.om_foot.specs.declared.footprint.Mode.{Mode}
use Rattle.om_foot.specs.declared.footprint.Mode.TheVariants.{Read, Write, Add}
use Rattle.om_foot.specs.declared.footprint.Access.{Access}
use Rattle.om_foot.specs.Footprint.{conflict_of}
use Rattle.om_undo_history.specs.declared.reply.Taken.{Taken}
use Rattle.om_undo_history.specs.declared.records.UndoRecord.{UndoRecord}
use Rattle.om_undo_touches.specs.declared.touches.TouchLists.{TouchLists}
use Rattle.om_undo_history.specs.Cones.{Transition, meets_one, is_member, cone_after, cone, taken_of}
use Rattle.om_undo_history.specs.Records.{transition_of, transitions_of, AreAbove}
use Rattle.om_undo_touches.specs.Touches.{names, has_touch, AreWith, meets_at, meets}
use Rattle.om_foot.specs.Firsts.{IsFirst}
use Rattle.om_undo_history.specs.Touches.{touched, AreListsOf}
use Rattle.om_undo_history.proofs.Rolls.{cond_false}
use Rattle.om_undo_touches.specs.Searches.{either_true, meets-alike, meets-none, meets-named, conflict-mutual}
use Rattle.om_undo_history.proofs.Touched.{touched-push, nat_self}
use Rattle.om_undo_history.proofs.Replies.{footprint_of}

-- two kinds of touches together

paired : (a b c d : Bool) → cond (cond a true b) true (cond c true d) ≡ cond (cond a true c) true (cond b true d)
paired true b c d = refl
paired false true true d = refl
paired false true false d = refl
paired false false true d = refl
paired false false false d = refl

abbrev together : (Mode → Bool) → (Mode → Bool) → Mode → ℕ → Bool
together p q m s = cond (p m) true (q m)

meets_at-together : (p q : Mode → Bool) (m : Mode) → meets_at (together p q) m 0
    ≡ cond (meets_at (λ k s. p k) m 0) true (meets_at (λ k s. q k) m 0)
meets_at-together p q Read = paired (p Write) (q Write) (p Add) (q Add)
meets_at-together p q Write =
    ap (cond (cond (p Read) true (q Read)) true) (paired (p Write) (q Write) (p Add) (q Add))
    ∙ paired (p Read) (q Read) (cond (p Write) true (p Add)) (cond (q Write) true (q Add))
meets_at-together p q Add = last (p Read) (q Read) (p Write) (q Write)
  where
    or_false : (x : Bool) → cond x true false ≡ x
    or_false true = refl
    or_false false = refl

    last : (a b c d : Bool)
        → cond (cond a true b) true (cond (cond c true d) true false)
        ≡ cond (cond a true (cond c true false)) true (cond b true (cond d true false))
    last a b c d = ap (cond (cond a true b) true) (or_false (cond c true d)) ∙ paired a b c d
        ∙ (λ i. cond (cond a true (sym (or_false c) i)) true (cond b true (sym (or_false d) i)))

meets-together : (p q : Obj → Mode → Bool) (footprint : List Access)
    → meets (λ o m s. cond (p o m) true (q o m)) footprint 0
    ≡ cond (meets (λ o m s. p o m) footprint 0) true (meets (λ o m s. q o m) footprint 0)
meets-together p q [] = refl
meets-together p q (a ∷ rest) =
    (λ i. cond (meets_at-together (p a.object) (q a.object) a.mode i) true (meets-together p q rest i))
    ∙ paired (meets_at (λ m s. p a.object m) a.mode 0) (meets_at (λ m s. q a.object m) a.mode 0)
    (meets (λ o m s. p o m) rest 0) (meets (λ o m s. q o m) rest 0)

-- what a footprint meets at a serial, among one entry and others
met_one : (k : UndoRecord) (ks : List UndoRecord) (footprint : List Access) (s : ℕ)
    → meets (touched footprint_of (k ∷ ks)) footprint s
    ≡ cond (nat_eq k.entry.serial s && is_some (conflict_of footprint k.footprint)) true
    (meets (touched footprint_of ks) footprint s)
met_one k ks footprint s =
    meets-alike (touched footprint_of (k ∷ ks))
    (λ o m t. cond (nat_eq k.entry.serial s && names o m k.footprint) true (touched footprint_of ks o m s)) footprint
    s s (λ o m. refl)
    ∙ go (nat_eq k.entry.serial s)
  where
    go : (e : Bool) → meets (λ o m t. cond (e && names o m k.footprint) true (touched footprint_of ks o m s)) footprint s
        ≡ cond (e && is_some (conflict_of footprint k.footprint)) true (meets (touched footprint_of ks) footprint s)
    go false = meets-alike (λ o m t. touched footprint_of ks o m s) (touched footprint_of ks) footprint s s
        (λ o m. refl)
    go true =
        meets-alike (λ o m t. cond (names o m k.footprint) true (touched footprint_of ks o m s))
        (λ o m t. cond (names o m k.footprint) true (touched footprint_of ks o m s)) footprint s 0 (λ o m. refl)
        ∙ meets-together (λ o m. names o m k.footprint) (λ o m. touched footprint_of ks o m s) footprint
        ∙ (λ i. cond (meets-named footprint k.footprint i) true
        (meets-alike (λ o m t. touched footprint_of ks o m s) (touched footprint_of ks) footprint 0 s
        (λ o m. refl) i))

abbrev conflicts_one : List Access → List UndoRecord → Bool
conflicts_one footprint [] = false
conflicts_one footprint (k ∷ ks) = cond (is_some (conflict_of footprint k.footprint)) true (conflicts_one footprint ks)

none_met : (ks : List UndoRecord) (footprint : List Access) → AreAbove 0 ks
    → ((s : ℕ) → 0 < s → meets (touched footprint_of ks) footprint s ≡ false) → conflicts_one footprint ks ≡ false
none_met [] footprint above none = refl
none_met (k ∷ ks) footprint above none =
    let here = cond_false (nat_eq k.entry.serial k.entry.serial && is_some (conflict_of footprint k.footprint))
    (meets (touched footprint_of ks) footprint k.entry.serial)
    (sym (met_one k ks footprint k.entry.serial) ∙ none k.entry.serial above.0) in
    ap (λ b. cond b true (conflicts_one footprint ks))
    (ap (λ b. b && is_some (conflict_of footprint k.footprint)) (sym (nat_self k.entry.serial)) ∙ here.0)
    ∙ none_met ks footprint above.1
    (λ s more. (cond_false (nat_eq k.entry.serial s && is_some (conflict_of footprint k.footprint))
    (meets (touched footprint_of ks) footprint s)
    (sym (met_one k ks footprint s) ∙ none s more)).1)

some_met : (ks : List UndoRecord) (footprint : List Access) (s : ℕ)
    → meets (touched footprint_of ks) footprint s ≡ true → conflicts_one footprint ks ≡ true
some_met [] footprint s h = absurd (never (sym h ∙ meets-none (touched footprint_of []) footprint s (λ o m. refl)))
  where
    never : true ≡ false → ⊥
    never e = cc
some_met (k ∷ ks) footprint s h =
    ⊎_elim (λ here. ap (λ b. cond b true (conflicts_one footprint ks)) (second (nat_eq k.entry.serial s) _ here))
    (λ rest. or_true (is_some (conflict_of footprint k.footprint)) _ (some_met ks footprint s rest))
    (either_true (nat_eq k.entry.serial s && is_some (conflict_of footprint k.footprint))
    (meets (touched footprint_of ks) footprint s) (sym (met_one k ks footprint s) ∙ h))
  where
    second : (p q : Bool) → (p && q) ≡ true → q ≡ true
    second true q e = e
    second false q e = cc

    or_true : (x y : Bool) → y ≡ true → cond x true y ≡ true
    or_true true y e = refl
    or_true false y e = e

conflicts_one-is : (ks : List UndoRecord) (k : UndoRecord) → conflicts_one k.footprint ks
    ≡ meets_one (transitions_of ks) (transition_of k)
conflicts_one-is [] k = refl
conflicts_one-is (x ∷ xs) k =
    (λ i. cond (conflict-mutual k.footprint x.footprint i) true (conflicts_one-is xs k i))

-- a search from the start finds whether a record conflicts with a member
pub meets-members : (ms : List UndoRecord) (members : TouchLists) (k : UndoRecord) (x : Option ℕ)
    → AreListsOf footprint_of ms members → AreAbove 0 ms
    → IsFirst (meets (has_touch members) k.footprint) 0 x
    → is_some x ≡ meets_one (transitions_of ms) (transition_of k)
meets-members ms members k None are above first =
    sym (none_met ms k.footprint above (λ s more. alike s ∙ first s more)) ∙ conflicts_one-is ms k
  where
    alike : (s : ℕ) → meets (touched footprint_of ms) k.footprint s ≡ meets (has_touch members) k.footprint s
    alike s = meets-alike (touched footprint_of ms) (has_touch members) k.footprint s s (λ o m. sym (are o m s))
meets-members ms members k (Some t) are above first =
    sym (some_met ms k.footprint t (alike t ∙ first.1)) ∙ conflicts_one-is ms k
  where
    alike : (s : ℕ) → meets (touched footprint_of ms) k.footprint s ≡ meets (has_touch members) k.footprint s
    alike s = meets-alike (touched footprint_of ms) (has_touch members) k.footprint s s (λ o m. sym (are o m s))

-- the lists of the entries, with one more
pub lists-push : (f : UndoRecord → List Access) (ks : List UndoRecord) (k : UndoRecord) (old new : TouchLists)
    → AreListsOf f ks old → AreWith (f k) k.entry.serial old new → AreListsOf f (ks ++ k ∷ []) new
lists-push f ks k old new are more o m s =
    more o m s
    ∙ ap (λ b. cond (nat_eq k.entry.serial s && names o m (f k)) true b) (are o m s)
    ∙ sym (touched-push f ks k o m s)

-- the members so far, and what is left to look at
pub record MembersTo (serial : ℕ) (all rest : List UndoRecord) (names : List Taken)
    (members : TouchLists) : Type 0 where
  pub ms : List UndoRecord
  pub names_are : names ≡ map taken_of (transitions_of ms)
  pub lists : AreListsOf footprint_of ms members
  pub above : AreAbove 0 ms
  pub left : AreAbove 0 rest
  pub cone_is : transitions_of ms ++ cone_after serial (transitions_of ms) (transitions_of rest)
      ≡ cone serial (transitions_of all)

above-push : (ms : List UndoRecord) (k : UndoRecord) → AreAbove 0 ms → 0 < k.entry.serial → AreAbove 0 (ms ++ k ∷ [])
above-push [] k above more = (more, tt)
above-push (x ∷ xs) k above more = (above.0, above-push xs k above.1 more)

transitions-push : (ms : List UndoRecord) (k : UndoRecord)
    → transitions_of (ms ++ k ∷ []) ≡ transitions_of ms ++ transition_of k ∷ []
transitions-push ms k = map-append transition_of ms (k ∷ [])

-- no member yet
pub members_start : (serial : ℕ) (all rest : List UndoRecord) (names : List Taken) (members : TouchLists)
    → rest ≡ all → names ≡ [] → ((o : Obj) (m : Mode) (s : ℕ) → has_touch members o m s ≡ false) → AreAbove 0 all
    → MembersTo serial all rest names members
members_start serial all rest names members is none untouched above = record {
  ms = [];
  names_are = none;
  lists = untouched;
  above = tt;
  left = subst (AreAbove 0) (sym is) above;
  cone_is = ap (λ ks. cone_after serial [] (transitions_of ks)) is;
}

pub member_with : (serial : ℕ) (all left rest : List UndoRecord) (k : UndoRecord) (names : List Taken)
    (members more : TouchLists) → left ≡ k ∷ rest
    → (x : MembersTo serial all left names members)
    → is_member serial (transitions_of x.ms) (transition_of k) ≡ true
    → AreWith k.footprint k.entry.serial members more
    → MembersTo serial all rest (names ++ taken_of (transition_of k) ∷ []) more
member_with serial all left rest k names members more step x is added =
    let t : Transition = transition_of k in
    let so_far : List Transition = transitions_of x.ms in
    let later : List Transition = transitions_of rest in
    let above : AreAbove 0 (k ∷ rest) = subst (AreAbove 0) step x.left in
    record {
      ms = x.ms ++ k ∷ [];
      names_are = ap (λ ns. ns ++ taken_of t ∷ []) x.names_are ∙ sym (map-append taken_of so_far (t ∷ []))
          ∙ ap (map taken_of) (sym (transitions-push x.ms k));
      lists = lists-push footprint_of x.ms k members more x.lists added;
      above = above-push x.ms k x.above above.0;
      left = above.1;
      cone_is =
          ap (λ ts. ts ++ cone_after serial ts later) (transitions-push x.ms k)
          ∙ append_assoc so_far (t ∷ []) (cone_after serial (so_far ++ t ∷ []) later)
          ∙ ap (λ b. so_far ++ cond b (t ∷ cone_after serial (so_far ++ t ∷ []) later) (cone_after serial so_far later))
          (sym is)
          ∙ ap (λ ks. so_far ++ cone_after serial so_far (transitions_of ks)) (sym step)
          ∙ x.cone_is;
    }

pub member_without : (serial : ℕ) (all left rest : List UndoRecord) (k : UndoRecord) (names : List Taken)
    (members : TouchLists) → left ≡ k ∷ rest
    → (x : MembersTo serial all left names members)
    → is_member serial (transitions_of x.ms) (transition_of k) ≡ false
    → MembersTo serial all rest names members
member_without serial all left rest k names members step x is =
    let t : Transition = transition_of k in
    let so_far : List Transition = transitions_of x.ms in
    let later : List Transition = transitions_of rest in
    let above : AreAbove 0 (k ∷ rest) = subst (AreAbove 0) step x.left in
    record {
      ms = x.ms;
      names_are = x.names_are;
      lists = x.lists;
      above = x.above;
      left = above.1;
      cone_is =
          ap (λ b. so_far ++ cond b (t ∷ cone_after serial (so_far ++ t ∷ []) later) (cone_after serial so_far later))
          (sym is)
          ∙ ap (λ ks. so_far ++ cone_after serial so_far (transitions_of ks)) (sym step)
          ∙ x.cone_is;
    }

pub reverse-map : (ts : List Transition) → reverse (map taken_of ts) ≡ map taken_of (reverse ts)
reverse-map [] = refl
reverse-map (t ∷ ts) =
    reverse-append (taken_of t ∷ []) (map taken_of ts)
    ∙ ap (λ xs. xs ++ taken_of t ∷ []) (reverse-map ts)
    ∙ sym (map-append taken_of (reverse ts) (t ∷ []))
    ∙ ap (map taken_of) (sym (reverse-append (t ∷ []) ts))

pub members_all : (serial : ℕ) (all : List UndoRecord) (names : List Taken) (members : TouchLists)
    → MembersTo serial all [] names members → names ≡ map taken_of (cone serial (transitions_of all))
members_all serial all names members x =
    x.names_are ∙ ap (map taken_of) (sym (append-nil (transitions_of x.ms)) ∙ x.cone_is)
