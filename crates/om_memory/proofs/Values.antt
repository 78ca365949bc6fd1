-- What a memory holds, by what its trails and its other values hold.
use Rattle.std.proofs.Common.{◌≡◌, refl, sym, ap, ◌∙◌, ℕ, Bool, true, false, cond, List, Some, None, map}
use Rattle.std.specs.Prelude.{is_some, unwrap_or}
use Rattle.std.proofs.Math.Path.{fun_ext}
use Rattle.om_foot.specs.declared.object.Obj.{Obj}
use Rattle.om_foot.specs.declared.object.Obj.TheVariants as obj
use Rattle.om_foot.specs.Footprint.{obj_eq}
use Rattle.om_state.specs.declared.control.Control as plain_controls
use Rattle.om_state.specs.declared.value.Val.{Val}
use Rattle.om_state.specs.declared.value.Val.TheVariants as value
use Rattle.om_state.specs.State.{State, with_value}
use Rattle.om_memory.specs.Trails.{TrailView}
use Rattle.om_memory.specs.Memories.{worker_of, is_trailed, held_by, kept_by, pasts_by, GrowTo}

-- an object that is no control

not_control : (o : Obj) (w : ℕ) → is_trailed o ≡ false → obj_eq o (obj.Control w) ≡ false
not_control (obj.Control v) w e = cc
not_control (obj.Cell a b c d) w e = refl
not_control (obj.Global a b) w e = refl
not_control (obj.Task a) w e = refl
not_control (obj.Kids a) w e = refl
not_control (obj.Pending a b) w e = refl
not_control (obj.Arrived a b) w e = refl
not_control (obj.Work a b) w e = refl
not_control (obj.Lock a) w e = refl
not_control (obj.Group a) w e = refl
not_control obj.Output w e = refl
not_control (obj.Events a) w e = refl

pub untrailed : (o : Obj) → worker_of o ≡ None → is_trailed o ≡ false
untrailed o none = ap is_some none

pub value_there : (ts : List TrailView) (s : State) (o : Obj) → is_trailed o ≡ false → held_by ts s o ≡ s o
value_there ts s (obj.Control w) e = cc
value_there ts s (obj.Cell a b c d) e = refl
value_there ts s (obj.Global a b) e = refl
value_there ts s (obj.Task a) e = refl
value_there ts s (obj.Kids a) e = refl
value_there ts s (obj.Pending a b) e = refl
value_there ts s (obj.Arrived a b) e = refl
value_there ts s (obj.Work a b) e = refl
value_there ts s (obj.Lock a) e = refl
value_there ts s (obj.Group a) e = refl
value_there ts s obj.Output e = refl
value_there ts s (obj.Events a) e = refl

pub kept_there : (ts : List TrailView) (k : Obj → Bool) (o : Obj) → is_trailed o ≡ false → kept_by ts k o ≡ k o
kept_there ts k (obj.Control w) e = cc
kept_there ts k (obj.Cell a b c d) e = refl
kept_there ts k (obj.Global a b) e = refl
kept_there ts k (obj.Task a) e = refl
kept_there ts k (obj.Kids a) e = refl
kept_there ts k (obj.Pending a b) e = refl
kept_there ts k (obj.Arrived a b) e = refl
kept_there ts k (obj.Work a b) e = refl
kept_there ts k (obj.Lock a) e = refl
kept_there ts k (obj.Group a) e = refl
kept_there ts k obj.Output e = refl
kept_there ts k (obj.Events a) e = refl

other_value : (b : Bool) (v w : Val) → b ≡ false → w ≡ cond b v w
other_value true v w e = cc
other_value false v w e = refl

value_put_at : (ts : List TrailView) (s : State) (o : Obj) (v : Val) → is_trailed o ≡ false
    → (q : Obj) → held_by ts (with_value o v s) q ≡ with_value o v (held_by ts s) q
value_put_at ts s o v e (obj.Control w) = other_value (obj_eq o (obj.Control w)) v _ (not_control o w e)
value_put_at ts s o v e (obj.Cell a b c d) = refl
value_put_at ts s o v e (obj.Global a b) = refl
value_put_at ts s o v e (obj.Task a) = refl
value_put_at ts s o v e (obj.Kids a) = refl
value_put_at ts s o v e (obj.Pending a b) = refl
value_put_at ts s o v e (obj.Arrived a b) = refl
value_put_at ts s o v e (obj.Work a b) = refl
value_put_at ts s o v e (obj.Lock a) = refl
value_put_at ts s o v e (obj.Group a) = refl
value_put_at ts s o v e obj.Output = refl
value_put_at ts s o v e (obj.Events a) = refl

-- a value that is put there
pub value_put : (ts : List TrailView) (s t : State) (o : Obj) (v : Val) → is_trailed o ≡ false → t ≡ with_value o v s
    → held_by ts t ≡ with_value o v (held_by ts s)
value_put ts s t o v e put = ap (held_by ts) put ∙ fun_ext λ q. value_put_at ts s o v e q

-- what other values are kept

pub kept_alike : (ts : List TrailView) (j k : Obj → Bool) → ((q : Obj) → k q ≡ j q)
    → (q : Obj) → kept_by ts k q ≡ kept_by ts j q
kept_alike ts j k h (obj.Control w) = refl
kept_alike ts j k h (obj.Cell a b c d) = h (obj.Cell a b c d)
kept_alike ts j k h (obj.Global a b) = h (obj.Global a b)
kept_alike ts j k h (obj.Task a) = h (obj.Task a)
kept_alike ts j k h (obj.Kids a) = h (obj.Kids a)
kept_alike ts j k h (obj.Pending a b) = h (obj.Pending a b)
kept_alike ts j k h (obj.Arrived a b) = h (obj.Arrived a b)
kept_alike ts j k h (obj.Work a b) = h (obj.Work a b)
kept_alike ts j k h (obj.Lock a) = h (obj.Lock a)
kept_alike ts j k h (obj.Group a) = h (obj.Group a)
kept_alike ts j k h obj.Output = h obj.Output
kept_alike ts j k h (obj.Events a) = h (obj.Events a)

pub kept_more : (ts : List TrailView) (j k : Obj → Bool) → ((q : Obj) → j q ≡ true → k q ≡ true)
    → (q : Obj) → kept_by ts j q ≡ true → kept_by ts k q ≡ true
kept_more ts j k h (obj.Control w) there = there
kept_more ts j k h (obj.Cell a b c d) there = h (obj.Cell a b c d) there
kept_more ts j k h (obj.Global a b) there = h (obj.Global a b) there
kept_more ts j k h (obj.Task a) there = h (obj.Task a) there
kept_more ts j k h (obj.Kids a) there = h (obj.Kids a) there
kept_more ts j k h (obj.Pending a b) there = h (obj.Pending a b) there
kept_more ts j k h (obj.Arrived a b) there = h (obj.Arrived a b) there
kept_more ts j k h (obj.Work a b) there = h (obj.Work a b) there
kept_more ts j k h (obj.Lock a) there = h (obj.Lock a) there
kept_more ts j k h (obj.Group a) there = h (obj.Group a) there
kept_more ts j k h obj.Output there = h obj.Output there
kept_more ts j k h (obj.Events a) there = h (obj.Events a) there

-- an object that is a control

same_some : (v w : ℕ) → Some v ≡ Some w → v ≡ w
same_some v w e = ap (λ o. unwrap_or o v) e

pub is_control : (o : Obj) (w : ℕ) → worker_of o ≡ Some w → o ≡ obj.Control w
is_control (obj.Control v) w e = ap obj.Control (same_some v w e)
is_control (obj.Cell a b c d) w e = cc
is_control (obj.Global a b) w e = cc
is_control (obj.Task a) w e = cc
is_control (obj.Kids a) w e = cc
is_control (obj.Pending a b) w e = cc
is_control (obj.Arrived a b) w e = cc
is_control (obj.Work a b) w e = cc
is_control (obj.Lock a) w e = cc
is_control (obj.Group a) w e = cc
is_control obj.Output w e = cc
is_control (obj.Events a) w e = cc

-- more trails, which are idle

grown_at : (ts us : List TrailView) (s : State) → GrowTo ts us → (q : Obj) → held_by us s q ≡ held_by ts s q
grown_at ts us s more (obj.Control w) = ap value.Control (more.now w)
grown_at ts us s more (obj.Cell a b c d) = refl
grown_at ts us s more (obj.Global a b) = refl
grown_at ts us s more (obj.Task a) = refl
grown_at ts us s more (obj.Kids a) = refl
grown_at ts us s more (obj.Pending a b) = refl
grown_at ts us s more (obj.Arrived a b) = refl
grown_at ts us s more (obj.Work a b) = refl
grown_at ts us s more (obj.Lock a) = refl
grown_at ts us s more (obj.Group a) = refl
grown_at ts us s more obj.Output = refl
grown_at ts us s more (obj.Events a) = refl

pub held_grown : (ts us : List TrailView) (s : State) → GrowTo ts us → held_by us s ≡ held_by ts s
held_grown ts us s more = fun_ext λ q. grown_at ts us s more q

past_grown_at : (ts us : List TrailView) → GrowTo ts us → (q : Obj) → pasts_by us q ≡ pasts_by ts q
past_grown_at ts us more (obj.Control w) = ap (map value.Control) (more.past w)
past_grown_at ts us more (obj.Cell a b c d) = refl
past_grown_at ts us more (obj.Global a b) = refl
past_grown_at ts us more (obj.Task a) = refl
past_grown_at ts us more (obj.Kids a) = refl
past_grown_at ts us more (obj.Pending a b) = refl
past_grown_at ts us more (obj.Arrived a b) = refl
past_grown_at ts us more (obj.Work a b) = refl
past_grown_at ts us more (obj.Lock a) = refl
past_grown_at ts us more (obj.Group a) = refl
past_grown_at ts us more obj.Output = refl
past_grown_at ts us more (obj.Events a) = refl

pub pasts_grown : (ts us : List TrailView) → GrowTo ts us → pasts_by us ≡ pasts_by ts
pasts_grown ts us more = fun_ext λ q. past_grown_at ts us more q

pub kept_grown : (ts us : List TrailView) (k : Obj → Bool) → GrowTo ts us
    → (q : Obj) → kept_by ts k q ≡ true → kept_by us k q ≡ true
kept_grown ts us k more (obj.Control w) there = more.kept w there
kept_grown ts us k more (obj.Cell a b c d) there = there
kept_grown ts us k more (obj.Global a b) there = there
kept_grown ts us k more (obj.Task a) there = there
kept_grown ts us k more (obj.Kids a) there = there
kept_grown ts us k more (obj.Pending a b) there = there
kept_grown ts us k more (obj.Arrived a b) there = there
kept_grown ts us k more (obj.Work a b) there = there
kept_grown ts us k more (obj.Lock a) there = there
kept_grown ts us k more (obj.Group a) there = there
kept_grown ts us k more obj.Output there = there
kept_grown ts us k more (obj.Events a) there = there

-- what each reader gives of an object that is no control
pub read_other : {X : Type 0} (f : Val → X) (x : X) (ts : List TrailView) (s : State) (o : Obj)
    → is_trailed o ≡ false → x ≡ f (s o) → x ≡ f (held_by ts s o)
read_other f x ts s o other is = is ∙ ap f (sym (value_there ts s o other))

-- and what changes its value
pub value_changed : (f : Val → Val) (ts : List TrailView) (s t : State) (o : Obj) → is_trailed o ≡ false
    → t ≡ with_value o (f (s o)) s → held_by ts t ≡ with_value o (f (held_by ts s o)) (held_by ts s)
value_changed f ts s t o other is =
    value_put ts s t o (f (s o)) other is
    ∙ ap (λ v. with_value o (f v) (held_by ts s)) (sym (value_there ts s o other))

pub kept_too : (ts : List TrailView) (k : Obj → Bool) (o : Obj) → is_trailed o ≡ false → kept_by ts k o ≡ true
    → k o ≡ true
kept_too ts k o other kept = sym (kept_there ts k o other) ∙ kept
