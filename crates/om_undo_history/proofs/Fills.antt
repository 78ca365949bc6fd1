-- Small records stand for the same records behind a step, and where an entry is taken out.
use Rattle.std.proofs.Common.{◌≡◌, refl, sym, ◌∙◌, ap, Bool, true, false, cond, List, [], ◌∷◌, ◌++◌, drop}
use Rattle.std.proofs.Math.Path.{fun_ext}
use Rattle.std.specs.List.{AllByRecursion}
use Rattle.om_foot.specs.declared.footprint.Mode.{Mode}
use Rattle.om_foot.specs.declared.footprint.Mode.TheVariants as mode
use Rattle.om_foot.specs.declared.footprint.Access.{Access}
use Rattle.om_foot.specs.Footprint.{obj_eq, modes_conflict}
use Rattle.om_foot.specs.Objects.{obj_eq-true, obj_eq-same}
use Rattle.om_foot.specs.Apart.{IsApart, AllApart, heads, tails, all_apart, AllApart-flip}
use Rattle.om_state.specs.declared.value.Val.{Val}
use Rattle.om_state.specs.declared.step.Entry.{Entry}
use Rattle.om_state.specs.declared.step.Update.{Update}
use Rattle.om_state.specs.declared.step.Update.TheVariants as update
use Rattle.om_state.specs.State.{State, undo_of, undo_record, state_after}
use Rattle.om_undo_history.specs.declared.records.UndoRecord.{UndoRecord}
use Rattle.om_memory.specs.Memories.{Pasts, is_trailed}
use Rattle.om_undo_history.specs.Shapes.{IsShapedAt, AreShaped}
use Rattle.om_undo_history.specs.Fills.{is_mark, marks, popped, first_put, filled_at, popped_all, filled, marked_back}
use Rattle.om_undo_history.specs.Fills.{full, before, before_all, full_all, is_put, small_at, noted, small_record, noted_all}
use Rattle.om_undo_history.proofs.Logs.{NoneConflicts}

-- changes are taken from the trails in any order

twice : (m n e f : Bool) (vs : List Val)
    → cond m (cond e (drop 1 (cond n (cond f (drop 1 vs) vs) vs)) (cond n (cond f (drop 1 vs) vs) vs)) (cond n (cond f (drop 1 vs) vs) vs)
    ≡ cond n (cond f (drop 1 (cond m (cond e (drop 1 vs) vs) vs)) (cond m (cond e (drop 1 vs) vs) vs)) (cond m (cond e (drop 1 vs) vs) vs)
twice true true true true vs = refl
twice true true true false vs = refl
twice true true false true vs = refl
twice true true false false vs = refl
twice true false true f vs = refl
twice true false false f vs = refl
twice false true e true vs = refl
twice false true e false vs = refl
twice false false e f vs = refl

popped-popped : (a b : Access) (u w : Update) (ps : Pasts) → popped a u (popped b w ps) ≡ popped b w (popped a u ps)
popped-popped a b u w ps = fun_ext λ q. twice (marks a u) (marks b w) (obj_eq a.object q) (obj_eq b.object q) (ps q)

popped-popped_all : (a : Access) (u : Update) (bs : List Access) (ws : List Update) (ps : Pasts)
    → popped a u (popped_all bs ws ps) ≡ popped_all bs ws (popped a u ps)
popped-popped_all a u [] ws ps = refl
popped-popped_all a u (b ∷ bs) [] ps = refl
popped-popped_all a u (b ∷ bs) (w ∷ ws) ps = popped-popped a b u w (popped_all bs ws ps)
    ∙ ap (popped b w) (popped-popped_all a u bs ws ps)

popped_all-popped_all : (first bs : List Access) (us ws : List Update) (ps : Pasts)
    → popped_all first us (popped_all bs ws ps) ≡ popped_all bs ws (popped_all first us ps)
popped_all-popped_all [] bs us ws ps = refl
popped_all-popped_all (a ∷ rest) bs [] ws ps = refl
popped_all-popped_all (a ∷ rest) bs (u ∷ us) ws ps = ap (popped a u) (popped_all-popped_all rest bs us ws ps)
    ∙ popped-popped_all a u bs ws (popped_all rest us ps)

pub before_all-before : (ps : Pasts) (k : UndoRecord) (ks : List UndoRecord)
    → before_all (before ps k) ks ≡ before (before_all ps ks) k
before_all-before ps k [] = refl
before_all-before ps k (l ∷ ks) = ap (λ x. before x l) (before_all-before ps k ks)
    ∙ popped_all-popped_all l.footprint k.footprint (marked_back l) (marked_back k) (before_all ps ks)

-- what is apart takes nothing from a trail that another takes from

cond_same : {A : Type 0} → (b : Bool) (x : A) → cond b x x ≡ x
cond_same true x = refl
cond_same false x = refl

at_write : (m n : Mode) (u w : Update) (t x same : Bool) (f : Update) (vs : List Val)
    → (same ≡ true → modes_conflict m n ≡ false)
    → cond (is_mark m u t) (first_put f (cond (is_mark n w x) (cond same (drop 1 vs) vs) vs)) f ≡ cond (is_mark m u t) (first_put f vs) f
at_write m n u w t x false f vs h = ap (λ l. cond (is_mark m u t) (first_put f l) f) (cond_same (is_mark n w x) vs)
at_write mode.Write mode.Write u w t x true f vs h = let k = h refl in cc
at_write mode.Write mode.Read u w t x true f vs h = refl
at_write mode.Write mode.Add u w t x true f vs h = refl
at_write mode.Read n u w t x true f vs h = refl
at_write mode.Add n u w t x true f vs h = refl

filled_at-apart : (a b : Access) (u w : Update) (ps : Pasts) → IsApart a b → filled_at a u (popped b w ps) ≡ filled_at a u ps
filled_at-apart a b u w ps h = at_write a.mode b.mode u w (is_trailed a.object) (is_trailed b.object) (obj_eq b.object a.object) u (ps a.object)
    (λ e. h (sym (obj_eq-true b.object a.object e)))

filled-one : (first : List Access) (b : Access) (us : List Update) (w : Update) (ps : Pasts)
    → AllByRecursion (λ a. IsApart a b) first → filled first us (popped b w ps) ≡ filled first us ps
filled-one [] b us w ps h = refl
filled-one (a ∷ rest) b [] w ps h = refl
filled-one (a ∷ rest) b (u ∷ us) w ps h =
    let head = ap (filled_at a u) (sym (popped-popped_all b w rest us ps)) ∙ filled_at-apart a b u w (popped_all rest us ps) h.0 in
    λ i. head i ∷ filled-one rest b us w ps h.1 i

filled-apart : (first bs : List Access) (us ws : List Update) (ps : Pasts) → AllApart first bs
    → filled first us (popped_all bs ws ps) ≡ filled first us ps
filled-apart first [] us ws ps h = refl
filled-apart first (b ∷ bs) us [] ps h = refl
filled-apart first (b ∷ bs) us (w ∷ ws) ps h = filled-one first b us w (popped_all bs ws ps) (heads first b bs h)
    ∙ filled-apart first bs us ws ps (tails first b bs h)

full-apart : (k l : UndoRecord) (ps : Pasts) → AllApart k.footprint l.footprint → full (before ps l) k ≡ full ps k
full-apart k l ps h = λ i. record {
  entry = k.entry;
  footprint = k.footprint;
  back = filled-apart k.footprint l.footprint (marked_back k) (marked_back l) ps h i;
}

-- what an entry stands for with which nothing later conflicts
pub full-latest : (k : UndoRecord) (ks : List UndoRecord) (ps : Pasts) → NoneConflicts k.footprint ks
    → full (before_all ps ks) k ≡ full ps k
full-latest k [] ps h = refl
full-latest k (l ∷ ks) ps h = full-apart k l (before_all ps ks) (all_apart k.footprint l.footprint h.0)
    ∙ full-latest k ks ps h.1

-- what later ones stand for, without it
pub full_all-without : (k : UndoRecord) (ks : List UndoRecord) (ps : Pasts) → NoneConflicts k.footprint ks
    → full_all (before ps k) ks ≡ full_all ps ks
full_all-without k [] ps h = refl
full_all-without k (l ∷ ks) ps h =
    let apart = AllApart-flip k.footprint l.footprint (all_apart k.footprint l.footprint h.0) in
    let head = ap (λ x. full x l) (before_all-before ps k ks) ∙ full-apart l k (before_all ps ks) apart in
    λ i. head i ∷ full_all-without k ks ps h.1 i

before_all-append : (ps : Pasts) (ks ls : List UndoRecord) → before_all ps (ks ++ ls) ≡ before_all (before_all ps ls) ks
before_all-append ps [] ls = refl
before_all-append ps (k ∷ ks) ls = ap (λ x. before x k) (before_all-append ps ks ls)

full_all-append : (ps : Pasts) (ks ls : List UndoRecord)
    → full_all ps (ks ++ ls) ≡ full_all (before_all ps ls) ks ++ full_all ps ls
full_all-append ps [] ls = refl
full_all-append ps (k ∷ ks) ls = λ i. full (before_all-append ps ks ls i) k ∷ full_all-append ps ks ls i

-- a step: what it notes is what it marks

pop_noted : (m : Mode) (u : Update) (t e : Bool) (v old : Val) (vs : List Val) → IsShapedAt m u t
    → cond (is_mark m (cond (is_put m u t) update.Keep (undo_of m u old)) t)
    (cond e (drop 1 (cond (is_put m u t) (cond e (v ∷ vs) vs) vs)) (cond (is_put m u t) (cond e (v ∷ vs) vs) vs))
    (cond (is_put m u t) (cond e (v ∷ vs) vs) vs)
    ≡ vs
pop_noted mode.Write (update.Put x) true true v old vs h = refl
pop_noted mode.Write (update.Put x) true false v old vs h = refl
pop_noted mode.Write (update.Put x) false e v old vs h = refl
pop_noted mode.Write update.Keep false e v old vs h = refl
pop_noted mode.Write (update.Add d) false e v old vs h = refl
pop_noted mode.Write (update.Append x) false e v old vs h = refl
pop_noted mode.Write (update.Cut n) false e v old vs h = refl
pop_noted mode.Write update.Keep true e v old vs h = absurd h
pop_noted mode.Write (update.Add d) true e v old vs h = absurd h
pop_noted mode.Write (update.Append x) true e v old vs h = absurd h
pop_noted mode.Write (update.Cut n) true e v old vs h = absurd h
pop_noted mode.Read u t e v old vs h = refl
pop_noted mode.Add u t e v old vs h = refl

popped-noted : (a : Access) (u : Update) (s : State) (ps : Pasts) → IsShapedAt a.mode u (is_trailed a.object)
    → popped a (small_at a u s) (noted a u s ps) ≡ ps
popped-noted a u s ps h = fun_ext λ q. pop_noted a.mode u (is_trailed a.object) (obj_eq a.object q) (s q) (s a.object) (ps q) h

fill_noted : (m : Mode) (u : Update) (t e : Bool) (v : Val) (vs : List Val) → IsShapedAt m u t → e ≡ true
    → cond (is_mark m (cond (is_put m u t) update.Keep (undo_of m u v)) t)
    (first_put (cond (is_put m u t) update.Keep (undo_of m u v)) (cond (is_put m u t) (cond e (v ∷ vs) vs) vs))
    (cond (is_put m u t) update.Keep (undo_of m u v))
    ≡ undo_of m u v
fill_noted mode.Write (update.Put x) true true v vs h same = refl
fill_noted mode.Write (update.Put x) true false v vs h same = cc
fill_noted mode.Write (update.Put x) false e v vs h same = refl
fill_noted mode.Write update.Keep false e v vs h same = refl
fill_noted mode.Write (update.Add d) false e v vs h same = refl
fill_noted mode.Write (update.Append x) false e v vs h same = refl
fill_noted mode.Write (update.Cut n) false e v vs h same = refl
fill_noted mode.Write update.Keep true e v vs h same = absurd h
fill_noted mode.Write (update.Add d) true e v vs h same = absurd h
fill_noted mode.Write (update.Append x) true e v vs h same = absurd h
fill_noted mode.Write (update.Cut n) true e v vs h same = absurd h
fill_noted mode.Read u t e v vs h same = refl
fill_noted mode.Add u t e v vs h same = refl

filled_at-noted : (a : Access) (u : Update) (s : State) (ps : Pasts) → IsShapedAt a.mode u (is_trailed a.object)
    → filled_at a (small_at a u s) (noted a u s ps) ≡ undo_of a.mode u (s a.object)
filled_at-noted a u s ps h = fill_noted a.mode u (is_trailed a.object) (obj_eq a.object a.object) (s a.object) (ps a.object) h (obj_eq-same a.object)

-- the trails before a step's updates are those from which it went
pub popped_all-noted : (footprint : List Access) (us : List Update) (s : State) (ps : Pasts) → AreShaped footprint us
    → popped_all footprint (small_record footprint us s) (noted_all footprint us s ps) ≡ ps
popped_all-noted [] us s ps h = refl
popped_all-noted (a ∷ rest) [] s ps h = refl
popped_all-noted (a ∷ rest) (u ∷ us) s ps h =
    ap (popped a (small_at a u s)) (popped_all-noted rest us (state_after a u s) (noted a u s ps) h.1)
    ∙ popped-noted a u s ps h.0

-- and its small record stands for what takes it back
pub filled-noted : (footprint : List Access) (us : List Update) (s : State) (ps : Pasts) → AreShaped footprint us
    → filled footprint (small_record footprint us s) (noted_all footprint us s ps) ≡ undo_record footprint us s
filled-noted [] us s ps h = refl
filled-noted (a ∷ rest) [] s ps h = refl
filled-noted (a ∷ rest) (u ∷ us) s ps h =
    let head =
    ap (filled_at a (small_at a u s)) (popped_all-noted rest us (state_after a u s) (noted a u s ps) h.1)
    ∙ filled_at-noted a u s ps h.0 in
    λ i. head i ∷ filled-noted rest us (state_after a u s) (noted a u s ps) h.1 i

-- behind a step there is its record more
pub after_a_step : (ks : List UndoRecord) (ps : Pasts) (s : State) (e : Entry) (footprint : List Access)
    (us back : List Update) → AreShaped footprint us → update.Keep ∷ back ≡ small_record footprint us s
    → full_all (noted_all footprint us s ps) (ks ++ record { entry = e; footprint = footprint; back = back } ∷ [])
    ≡ full_all ps ks ++ record { entry = e; footprint = footprint; back = undo_record footprint us s } ∷ []
after_a_step ks ps s e footprint us back h is =
    let then = noted_all footprint us s ps in
    let k : UndoRecord = record { entry = e; footprint = footprint; back = back } in
    let there : before then k ≡ ps = ap (λ vs. popped_all footprint vs then) is ∙ popped_all-noted footprint us s ps h in
    let same : filled footprint (update.Keep ∷ back) then ≡ undo_record footprint us s =
    ap (λ vs. filled footprint vs then) is ∙ filled-noted footprint us s ps h in
    full_all-append then ks (k ∷ [])
    ∙ ap (λ x. full_all x ks ++ full then k ∷ []) there
    ∙ (λ i. full_all ps ks ++ record { entry = e; footprint = footprint; back = same i } ∷ [])
