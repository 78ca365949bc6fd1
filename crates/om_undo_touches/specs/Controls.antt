-- For proofs: the touches of workers' controls, with and without one, apart from those of other objects.
use Rattle.std.proofs.Common.{◌≡◌, refl, sym, ◌∙◌, ap, Bool, true, false, cond, ◌&&◌, nat_eq, ℕ}
use Rattle.std.proofs.Common.{None, Some, List, [], ◌∷◌, set}
use Rattle.std.specs.Prelude.{slice_get}
use Rattle.om_foot.specs.declared.object.Obj.{Obj}
use Rattle.om_foot.specs.declared.object.Obj.TheVariants as object
use Rattle.om_foot.specs.declared.footprint.Mode.{Mode}
use Rattle.om_foot.specs.declared.footprint.Access.{Access}
use Rattle.om_foot.specs.Footprint.{obj_eq}
use Rattle.om_undo_touches.specs.declared.by_mode.Touches.{Touches}
use Rattle.om_undo_touches.specs.declared.controls.ControlTouches.{ControlTouches}
use Rattle.om_undo_touches.specs.declared.objects.ObjectTouches.{ObjectTouches}
use Rattle.om_undo_touches.specs.declared.singles.SingleTouches.{SingleTouches}
use Rattle.om_undo_touches.specs.Touches.{mode_eq, names, list_of, has_in, has_single_touch, has_control_touch, has_object_touch}
use Rattle.om_undo_touches.specs.Touches.{control_of, SameControls, SameObjects, IsSet}
use Rattle.om_foot.specs.Serials.{has}
use Rattle.om_undo_touches.specs.Workers.{kept-set, kept-unset}

-- one touch of a control there, or not there
abbrev pub ControlsSet : Bool → ℕ → Mode → ℕ → ControlTouches → ControlTouches → Type 0
ControlsSet b worker mode serial old new = (w : ℕ) (m : Mode) (s : ℕ) → has_control_touch new w m s
    ≡ cond (nat_eq serial s && (nat_eq worker w && mode_eq mode m)) b (has_control_touch old w m s)

-- one touch of an object that is no control
abbrev pub ObjectsSet : Bool → Access → ℕ → ObjectTouches → ObjectTouches → Type 0
ObjectsSet b access serial old new = (o : Obj) (m : Mode) (s : ℕ) → has_object_touch new o m s
    ≡ cond (nat_eq serial s && names o m (access ∷ [])) b (has_object_touch old o m s)

turned : (b q e n x : Bool) → cond ((q && e) && n) b x ≡ cond (e && (n && q)) b x
turned b true true true x = refl
turned b true true false x = refl
turned b true false n x = refl
turned b false true true x = refl
turned b false true false x = refl
turned b false false n x = refl

-- a change of what is kept for a worker is one of the touches of its control
pub control-set : (b : Bool) (ts : List Touches) (worker : ℕ) (mode : Mode) (serial : ℕ) (old x : Touches)
    → slice_get ts worker ≡ Some old
    → ((m : Mode) (s : ℕ) → has (list_of x m) s ≡ cond (mode_eq mode m && nat_eq serial s) b (has (list_of old m) s))
    → (w : ℕ) (m : Mode) (s : ℕ) → has_in (slice_get (set ts worker x) w) m s
    ≡ cond (nat_eq serial s && (nat_eq worker w && mode_eq mode m)) b (has_in (slice_get ts w) m s)
control-set b ts worker mode serial old x there changed w m s =
    kept-set b (mode_eq mode m && nat_eq serial s) (λ o. has_in o m s) ts worker old x there (changed m s) w
    ∙ turned b (mode_eq mode m) (nat_eq serial s) (nat_eq worker w) (has_in (slice_get ts w) m s)

-- the control of a worker that is not known has no touch to take out
pub control-unset : (ts : List Touches) (worker : ℕ) (mode : Mode) (serial : ℕ) → slice_get ts worker ≡ None
    → (w : ℕ) (m : Mode) (s : ℕ) → has_in (slice_get ts w) m s
    ≡ cond (nat_eq serial s && (nat_eq worker w && mode_eq mode m)) false (has_in (slice_get ts w) m s)
control-unset ts worker mode serial none w m s =
    kept-unset (mode_eq mode m && nat_eq serial s) (λ o. has_in o m s) ts worker none refl w
    ∙ turned false (mode_eq mode m) (nat_eq serial s) (nat_eq worker w) (has_in (slice_get ts w) m s)

-- which object is a control

control_is : (o : Obj) (w : ℕ) → Some w ≡ control_of o → o ≡ object.Control w
control_is (object.Control v) w h = let same : v ≡ w = cc in ap object.Control same
control_is _ w h = cc

no_control : (o : Obj) (w : ℕ) → None ≡ control_of o → obj_eq o (object.Control w) ≡ false
no_control (object.Control v) w h = cc
no_control _ w h = refl

named : (b e n x : Bool) → cond (e && n) b x ≡ cond (e && cond n true false) b x
named b e true x = refl
named b e false x = refl

unnamed : (b e n x : Bool) → n ≡ false → x ≡ cond (e && cond n true false) b x
unnamed b true n x h = ap (λ y. cond (cond y true false) b x) (sym h)
unnamed b false n x h = refl

-- other touches of controls alone
abbrev pub with_controls : SingleTouches → ControlTouches → SingleTouches
with_controls lists controls = record { controls = controls; objects = lists.objects }

-- other touches of the other objects alone
abbrev pub with_objects : SingleTouches → ObjectTouches → SingleTouches
with_objects lists objects = record { controls = lists.controls; objects = objects }

at_control : (b : Bool) (lists : SingleTouches) (new : ControlTouches) (worker : ℕ) (mode : Mode) (serial : ℕ)
    → ControlsSet b worker mode serial lists.controls new
    → (o : Obj) (m : Mode) (s : ℕ) → has_single_touch (with_controls lists new) o m s
    ≡ cond (nat_eq serial s && cond (obj_eq (object.Control worker) o && mode_eq mode m) true false) b
    (has_single_touch lists o m s)
at_control b lists new worker mode serial set (object.Control v) m s =
    set v m s ∙ named b (nat_eq serial s) (nat_eq worker v && mode_eq mode m) (has_control_touch lists.controls v m s)
at_control b lists new worker mode serial set o m s =
    unnamed b (nat_eq serial s) false (has_object_touch lists.objects o m s) refl

-- a change of the touches of a control is one of the lists
pub lists-control : (b : Bool) (lists : SingleTouches) (new : ControlTouches) (a : Access) (worker serial : ℕ)
    → Some worker ≡ control_of a.object → ControlsSet b worker a.mode serial lists.controls new
    → IsSet b (a ∷ []) serial (has_single_touch lists) (has_single_touch (with_controls lists new))
lists-control b lists new a worker serial is set o m s =
    at_control b lists new worker a.mode serial set o m s
    ∙ ap (λ p. cond (nat_eq serial s && cond (obj_eq p o && mode_eq a.mode m) true false) b (has_single_touch lists o m s))
    (sym (control_is a.object worker is))

-- and so is one of the touches of an object that is no control
pub lists-object : (b : Bool) (lists : SingleTouches) (new : ObjectTouches) (a : Access) (serial : ℕ)
    → None ≡ control_of a.object → ObjectsSet b a serial lists.objects new
    → IsSet b (a ∷ []) serial (has_single_touch lists) (has_single_touch (with_objects lists new))
lists-object b lists new a serial is set (object.Control v) m s =
    unnamed b (nat_eq serial s) (obj_eq a.object (object.Control v) && mode_eq a.mode m)
    (has_control_touch lists.controls v m s)
    (ap (λ e. e && mode_eq a.mode m) (no_control a.object v is))
lists-object b lists new a serial is set o m s = set o m s

-- where no touch changes, none of the lists does
pub same-controls : (lists : SingleTouches) (new : ControlTouches) → SameControls lists.controls new
    → (o : Obj) (m : Mode) (s : ℕ) → has_single_touch (with_controls lists new) o m s ≡ has_single_touch lists o m s
same-controls lists new same (object.Control v) m s = same v m s
same-controls lists new same o m s = refl

pub same-objects : (lists : SingleTouches) (new : ObjectTouches) → SameObjects lists.objects new
    → (o : Obj) (m : Mode) (s : ℕ) → has_single_touch (with_objects lists new) o m s ≡ has_single_touch lists o m s
same-objects lists new same (object.Control v) m s = refl
same-objects lists new same o m s = same o m s

-- where neither has a touch, the lists have none
pub no-touches : (lists : SingleTouches) → ((w : ℕ) (m : Mode) (s : ℕ) → has_control_touch lists.controls w m s ≡ false)
    → ((o : Obj) (m : Mode) (s : ℕ) → has_object_touch lists.objects o m s ≡ false)
    → (o : Obj) (m : Mode) (s : ℕ) → has_single_touch lists o m s ≡ false
no-touches lists none others (object.Control v) m s = none v m s
no-touches lists none others o m s = others o m s
