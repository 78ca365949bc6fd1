-- How far counts can get from 0.
use Rattle.std.proofs.Common.{◌≡◌, refl, sym, ◌∙◌, ap, subst, Bool, true, false, cond, List, [], ◌∷◌, ℕ, suc, Some, ◌+◌}
use Rattle.std.proofs.Common.{◌≤◌, ◌^◌, length, ℤ, pos, neg_ℤ, arith, zero-add}
use Rattle.std.proofs.lemmas.Int.{ints}
use Rattle.om_foot.specs.declared.object.Obj.{Obj}
use Rattle.om_foot.specs.declared.footprint.Mode.{Mode}
use Rattle.om_foot.specs.declared.footprint.Mode.TheVariants as mode
use Rattle.om_foot.specs.declared.footprint.Access.{Access}
use Rattle.om_foot.specs.Footprint.{obj_eq}
use Rattle.om_foot.specs.Objects.{obj_eq-true}
use Rattle.om_state.specs.declared.value.Val.{Val}
use Rattle.om_state.specs.declared.value.Val.TheVariants.{Count}
use Rattle.om_state.specs.declared.step.Tail.{Tail}
use Rattle.om_state.specs.declared.step.Tail.TheVariants as tail
use Rattle.om_state.specs.declared.step.Update.{Update}
use Rattle.om_state.specs.declared.step.Update.TheVariants as update
use Rattle.om_state.specs.declared.step.Label.{Label}
use Rattle.om_state.specs.declared.step.Outcome.TheVariants.{Updates}
use Rattle.om_state.specs.Values.{value_plus, value_with, value_cut, SumFits}
use Rattle.om_state.specs.State.{State, value_after, undo_of, value_before, state_after, updated, undo_record}
use Rattle.om_state.specs.State.{taken_back, values_read}
use Rattle.om_state.specs.Rules.{Rules, control_access, step_at, next_state}
use Rattle.om_undo_history.specs.Runs.{label_of}
use Rattle.om_undo_history.specs.declared.records.UndoRecord.{UndoRecord}
use Rattle.om_undo_history.specs.Records.{ReplaysTo}
use Rattle.om_undo_history.specs.Bounds.{IsSmall, AreSmall, is_addition, adds_to, IsSteadyAt, AreSteady, IsSteady, FitsAt}
use Rattle.om_undo_history.specs.Bounds.{FitsAll, FitsAtBack, FitsBack}
use Rattle.om_undo_history.proofs.Exchange.{Made, made}

pub IsSmall-more : (m n : ℕ) (v : Val) → m ≤ n → IsSmall m v → IsSmall n v
IsSmall-more m n (Count k) le h = (omega (arith, ints), omega (arith, ints))
IsSmall-more m n _ le h = tt

pub AreSmall-more : (m n : ℕ) (s : State) → m ≤ n → AreSmall m s → AreSmall n s
AreSmall-more m n s le h = λ q. IsSmall-more m n (s q) le (h q)

IsSmall-plus : (m : ℕ) (d : ℤ) (v : Val) → IsSmall 1 (Count d) → IsSmall m v → IsSmall (m + 1) (value_plus d v)
IsSmall-plus m d (Count k) g h = (omega (arith, ints), omega (arith, ints))
IsSmall-plus m d _ g h = tt

neg-small : (d : ℤ) → IsSmall 1 (Count d) → IsSmall 1 (Count (neg_ℤ d))
neg-small d h = (omega (arith, ints), omega (arith, ints))

IsSmall-with : (m : ℕ) (t : Tail) (v : Val) → IsSmall m v → IsSmall m (value_with t v)
IsSmall-with m (tail.Bytes bytes) (Count k) h = h
IsSmall-with m (tail.Events records) (Count k) h = h
IsSmall-with m (tail.Bytes bytes) _ h = tt
IsSmall-with m (tail.Events records) _ h = tt

IsSmall-cut : (m n : ℕ) (v : Val) → IsSmall m v → IsSmall m (value_cut n v)
IsSmall-cut m n (Count k) h = h
IsSmall-cut m n _ h = tt

zero-small : IsSmall 1 (Count (pos 0))
zero-small = (omega (arith, ints), omega (arith, ints))

SumFits-small : (m : ℕ) (d : ℤ) (v : Val) → m ≤ 2 ^ 64 → IsSmall 1 (Count d) → IsSmall m v → SumFits v d
SumFits-small m d (Count k) le g h = omega (arith, ints)
SumFits-small m d _ le g h = tt

cond_same : {X : Type 0} → (b : Bool) (x : X) → cond b x x ≡ x
cond_same true x = refl
cond_same false x = refl

-- a bound, by whether an object is one of those that are less far from 0
pick-small : (b : Bool) (m n : ℕ) (v : Val) → IsSmall m v → IsSmall n v → IsSmall (cond b m n) v
pick-small true m n v h g = h
pick-small false m n v h g = g

-- updates made: an object that is still added to is at most m from 0, any other at most one more

abbrev AreWithin : ℕ → List Access → List Update → State → Type 0
AreWithin m footprint us s = (q : Obj) → IsSmall (cond (adds_to footprint us q) m (m + 1)) (s q)

within : (m : ℕ) (footprint : List Access) (us : List Update) (s : State) → AreSmall m s → AreWithin m footprint us s
within m footprint us s h = λ q. pick-small (adds_to footprint us q) m (m + 1) (s q) (h q)
    (IsSmall-more m (m + 1) (s q) (omega arith) (h q))

after_here : (m : ℕ) (o : Mode) (u : Update) (again : Bool) (v : Val) → IsSteadyAt m o u again
    → IsSmall (cond (cond (is_addition o u) true again) m (m + 1)) v
    → IsSmall (cond again m (m + 1)) (value_after o u v)
after_here m mode.Add (update.Add d) again v g h = subst (λ b. IsSmall (cond b m (m + 1)) (value_plus d v)) (sym g.1)
    (IsSmall-plus m d v g.0 h)
after_here m mode.Write (update.Put x) again v g h =
    pick-small again m (m + 1) x g (IsSmall-more m (m + 1) x (omega arith) g)
after_here m mode.Write (update.Append t) again v g h = IsSmall-with _ t v h
after_here m _ _ again v g h = h

after_at : (m : ℕ) (o : Mode) (u : Update) (e again : Bool) (v : Val) → (e ≡ true → IsSteadyAt m o u again)
    → IsSmall (cond (cond (is_addition o u) (cond e true again) again) m (m + 1)) v
    → IsSmall (cond again m (m + 1)) (cond e (value_after o u v) v)
after_at m o u true again v g h = after_here m o u again v (g refl) h
after_at m o u false again v g h = subst (λ b. IsSmall (cond b m (m + 1)) v) (cond_same (is_addition o u) again) h

within-after : (m : ℕ) (a : Access) (u : Update) (rest : List Access) (us : List Update) (s : State)
    → IsSteadyAt m a.mode u (adds_to rest us a.object) → AreWithin m (a ∷ rest) (u ∷ us) s
    → AreWithin m rest us (state_after a u s)
within-after m a u rest us s g h = λ q.
    after_at m a.mode u (obj_eq a.object q) (adds_to rest us q) (s q)
    (λ e. subst (λ x. IsSteadyAt m a.mode u (adds_to rest us x)) (obj_eq-true a.object q e) g) (h q)

updated-within : (m : ℕ) (footprint : List Access) (us : List Update) (s : State) → AreSteady m footprint us
    → AreWithin m footprint us s → AreSmall (m + 1) (updated footprint us s)
updated-within m [] us s g h = h
updated-within m (a ∷ rest) [] s g h = h
updated-within m (a ∷ rest) (u ∷ us) s g h = updated-within m rest us (state_after a u s) g.1
    (within-after m a u rest us s g.0 h)

at_most : (b : Bool) (m : ℕ) (v : Val) → IsSmall (cond b m (m + 1)) v → IsSmall (m + 1) v
at_most true m v h = IsSmall-more m (m + 1) v (omega arith) h
at_most false m v h = h

FitsAt-small : (m : ℕ) (o : Mode) (u : Update) (again : Bool) (v : Val) → m ≤ 2 ^ 64 → IsSteadyAt m o u again
    → IsSmall m v → FitsAt o u v
FitsAt-small m mode.Add (update.Add d) again v le g h =
    (SumFits-small m (pos 0) v le zero-small h, SumFits-small m d v le g.0 h)
FitsAt-small m _ _ again v le g h = tt

IsSteadyAt-more : (m n : ℕ) (o : Mode) (u : Update) (again : Bool) → m ≤ n → IsSteadyAt m o u again
    → IsSteadyAt n o u again
IsSteadyAt-more m n mode.Write (update.Put v) again le h = IsSmall-more m n v le h
IsSteadyAt-more m n mode.Add (update.Add d) again le h = h
IsSteadyAt-more m n _ _ again le h = tt

pub AreSteady-more : (m n : ℕ) (footprint : List Access) (us : List Update) → m ≤ n → AreSteady m footprint us
    → AreSteady n footprint us
AreSteady-more m n [] us le h = tt
AreSteady-more m n (a ∷ rest) [] le h = tt
AreSteady-more m n (a ∷ rest) (u ∷ us) le h =
    (IsSteadyAt-more m n a.mode u (adds_to rest us a.object) le h.0, AreSteady-more m n rest us le h.1)

fits-within : (m : ℕ) (footprint : List Access) (us : List Update) (s : State) → m + 1 ≤ 2 ^ 64
    → AreSteady m footprint us → AreWithin m footprint us s → FitsAll footprint us s
fits-within m [] us s le g h = tt
fits-within m (a ∷ rest) [] s le g h = tt
fits-within m (a ∷ rest) (u ∷ us) s le g h = (
  FitsAt-small (m + 1) a.mode u (adds_to rest us a.object) (s a.object) le
      (IsSteadyAt-more m (m + 1) a.mode u _ (omega arith) g.0)
      (at_most (adds_to (a ∷ rest) (u ∷ us) a.object) m (s a.object) (h a.object)),
  fits-within m rest us (state_after a u s) le g.1 (within-after m a u rest us s g.0 h),
)

pub FitsAll-small : (m : ℕ) (footprint : List Access) (us : List Update) (s : State) → m + 1 ≤ 2 ^ 64
    → AreSteady m footprint us → AreSmall m s → FitsAll footprint us s
FitsAll-small m footprint us s le g h = fits-within m footprint us s le g (within m footprint us s h)

-- what takes them back

is_addition-undo_of : (o : Mode) (u : Update) (v : Val) → is_addition o (undo_of o u v) ≡ is_addition o u
is_addition-undo_of mode.Write (update.Put x) v = refl
is_addition-undo_of _ _ v = refl

adds_to-undo_record : (footprint : List Access) (us : List Update) (s : State) (q : Obj)
    → adds_to footprint (undo_record footprint us s) q ≡ adds_to footprint us q
adds_to-undo_record [] us s q = refl
adds_to-undo_record (a ∷ rest) [] s q = refl
adds_to-undo_record (a ∷ rest) (u ∷ us) s q =
    ap (λ b. cond b (cond (obj_eq a.object q) true (adds_to rest (undo_record rest us (state_after a u s)) q))
    (adds_to rest (undo_record rest us (state_after a u s)) q)) (is_addition-undo_of a.mode u (s a.object))
    ∙ ap (λ b. cond (is_addition a.mode u) (cond (obj_eq a.object q) true b) b)
    (adds_to-undo_record rest us (state_after a u s) q)

steady_back : (m : ℕ) (o : Mode) (u : Update) (again : Bool) (v : Val) → IsSmall m v → IsSteadyAt m o u again
    → IsSteadyAt m o (undo_of o u v) again
steady_back m mode.Write (update.Put x) again v h g = h
steady_back m mode.Write (update.Append t) again v h g = tt
steady_back m mode.Write (update.Cut n) again v h g = tt
steady_back m _ _ again v h g = g

back-within : (m : ℕ) (footprint : List Access) (us : List Update) (s : State) → AreSteady m footprint us
    → AreWithin m footprint us s → AreSteady (m + 1) footprint (undo_record footprint us s)
back-within m [] us s g h = tt
back-within m (a ∷ rest) [] s g h = tt
back-within m (a ∷ rest) (u ∷ us) s g h =
    let t : State = state_after a u s in
    let small : IsSmall (m + 1) (s a.object) = at_most (adds_to (a ∷ rest) (u ∷ us) a.object) m (s a.object)
    (h a.object) in
    let here : IsSteadyAt (m + 1) a.mode (undo_of a.mode u (s a.object)) (adds_to rest us a.object) =
    steady_back (m + 1) a.mode u (adds_to rest us a.object) (s a.object) small
    (IsSteadyAt-more m (m + 1) a.mode u _ (omega arith) g.0) in (
      subst (λ b. IsSteadyAt (m + 1) a.mode (undo_of a.mode u (s a.object)) b)
          (sym (adds_to-undo_record rest us t a.object)) here,
      back-within m rest us t g.1 (within-after m a u rest us s g.0 h),
    )

pub steady_record : (m : ℕ) (footprint : List Access) (us : List Update) (s : State) → AreSteady m footprint us
    → AreSmall m s → AreSteady (m + 1) footprint (undo_record footprint us s)
steady_record m footprint us s g h = back-within m footprint us s g (within m footprint us s h)

-- updates taken back: an object that was subtracted from is at most one more than n from 0

before_here : (n : ℕ) (o : Mode) (u : Update) (again : Bool) (v : Val) → IsSteadyAt n o u again
    → IsSmall (cond again (n + 1) n) v
    → IsSmall (cond (cond (is_addition o u) true again) (n + 1) n) (value_before o u v)
before_here n mode.Add (update.Add d) again v g h = IsSmall-plus n (neg_ℤ d) v (neg-small d g.0)
    (subst (λ b. IsSmall (cond b (n + 1) n) v) g.1 h)
before_here n mode.Write (update.Put x) again v g h =
    pick-small again (n + 1) n x (IsSmall-more n (n + 1) x (omega arith) g) g
before_here n mode.Write (update.Cut k) again v g h = IsSmall-cut _ k v h
before_here n _ _ again v g h = h

before_at : (n : ℕ) (o : Mode) (u : Update) (e again : Bool) (v : Val) → (e ≡ true → IsSteadyAt n o u again)
    → IsSmall (cond again (n + 1) n) v
    → IsSmall (cond (cond (is_addition o u) (cond e true again) again) (n + 1) n) (cond e (value_before o u v) v)
before_at n o u true again v g h = before_here n o u again v (g refl) h
before_at n o u false again v g h = subst (λ b. IsSmall (cond b (n + 1) n) v)
    (sym (cond_same (is_addition o u) again)) h

taken_back-small : (n : ℕ) (footprint : List Access) (us : List Update) (s : State) → AreSteady n footprint us
    → AreSmall n s → (q : Obj) → IsSmall (cond (adds_to footprint us q) (n + 1) n) (taken_back footprint us s q)
taken_back-small n [] us s g h = h
taken_back-small n (a ∷ rest) [] s g h = h
taken_back-small n (a ∷ rest) (u ∷ us) s g h = λ q.
    before_at n a.mode u (obj_eq a.object q) (adds_to rest us q) (taken_back rest us s q)
    (λ e. subst (λ x. IsSteadyAt n a.mode u (adds_to rest us x)) (obj_eq-true a.object q e) g.0)
    (taken_back-small n rest us s g.1 h q)

at_most_back : (b : Bool) (n : ℕ) (v : Val) → IsSmall (cond b (n + 1) n) v → IsSmall (n + 1) v
at_most_back true n v h = h
at_most_back false n v h = IsSmall-more n (n + 1) v (omega arith) h

FitsAtBack-small : (n : ℕ) (o : Mode) (u : Update) (again : Bool) (v : Val) → n ≤ 2 ^ 64 → IsSteadyAt n o u again
    → IsSmall n v → FitsAtBack o u v
FitsAtBack-small n mode.Add (update.Add d) again v le g h = SumFits-small n (neg_ℤ d) v le (neg-small d g.0) h
FitsAtBack-small n _ _ again v le g h = tt

pub FitsBack-small : (n : ℕ) (footprint : List Access) (us : List Update) (s : State) → n + 1 ≤ 2 ^ 64
    → AreSteady n footprint us → AreSmall n s → FitsBack footprint us s
FitsBack-small n [] us s le g h = tt
FitsBack-small n (a ∷ rest) [] s le g h = tt
FitsBack-small n (a ∷ rest) (u ∷ us) s le g h = (
  FitsAtBack-small (n + 1) a.mode u (adds_to rest us a.object) (taken_back rest us s a.object) le
      (IsSteadyAt-more n (n + 1) a.mode u _ (omega arith) g.0)
      (at_most_back (adds_to rest us a.object) n (taken_back rest us s a.object)
      (taken_back-small n rest us s g.1 h a.object)),
  FitsBack-small n rest us s le g.1 h,
)

-- steps of steady rules

pub steady_step : (r : Rules) (s : State) (l : Label) (us : List Update) → IsSteady r
    → (step_at r s l).outcome ≡ Updates us → AreSteady 0 (step_at r s l).footprint us
unfolding step_at
steady_step r s l us steady h = steady.steps l (s (control_access l).object)
    (values_read (r.further l (s (control_access l).object)) s) us h

next_state-small : (r : Rules) (m : ℕ) (s : State) (l : Label) (t : State) → IsSteady r → AreSmall m s
    → next_state r s l ≡ Some t → AreSmall (m + 1) t
next_state-small r m s l t steady h taken =
    let was : Made r s l t = made r s l t taken in
    let footprint : List Access = (step_at r s l).footprint in
    let us : AreSteady m footprint was.updates = AreSteady-more 0 m footprint was.updates (omega arith)
    (steady_step r s l was.updates steady was.outcome_is) in
    subst (AreSmall (m + 1)) was.state_is
    (updated-within m footprint was.updates s us (within m footprint was.updates s h))

-- each step moves each count by one at most
pub ReplaysTo-small : (r : Rules) (m : ℕ) (s : State) (ks : List UndoRecord) (now : State) → IsSteady r → AreSmall m s
    → ReplaysTo r s ks now → AreSmall (m + length ks) now
ReplaysTo-small r m s [] now steady h f = subst (AreSmall (m + 0)) f (AreSmall-more m (m + 0) s (omega arith) h)
ReplaysTo-small r m s (k ∷ ks) now steady h f =
    AreSmall-more ((m + 1) + length ks) (m + suc (length ks)) now (omega arith)
    (ReplaysTo-small r (m + 1) f.0 ks now steady (next_state-small r m s (label_of k.entry) f.0 steady h f.1) f.3)

-- from the start: no count is farther from 0 than there are records
pub now-small : (r : Rules) (ks : List UndoRecord) (now : State) → IsSteady r → ReplaysTo r r.start ks now
    → AreSmall (length ks) now
now-small r ks now steady h = rw zero-add at (ReplaysTo-small r 0 r.start ks now steady steady.start h)
