-- What a walk follows of a control decides its fault.
use Rattle.std.proofs.Common.{◌≡◌, refl, sym, ◌∙◌, ap, List, [], ◌∷◌, length}
use Rattle.om_state.specs.declared.control.Context.{Context}
use Rattle.om_state.specs.declared.control.Control.{Control}
use Rattle.om_state.specs.declared.control.Control.TheVariants.{Idle, Running, Faulted, Ended}
use Rattle.om_state.specs.declared.control.Stack.{Stack}
use Rattle.om_state.specs.declared.control.Edit.{Edit}
use Rattle.om_state.specs.declared.control.Edit.TheVariants as edit
use Rattle.om_state.specs.Edits.{context_ended, edited, changed_by, changed}
use Rattle.om_memory.specs.Faults.{fault_in, fault_ahead, outlook_of, below_ended, ahead, outlook_after, outlook_behind}

ended : (cs : List Context) → outlook_of (context_ended cs) ≡ below_ended (length cs)
ended [] = refl
ended (c ∷ cs) = refl

after_edited : (e : Edit) (s : Stack) → outlook_of (edited e s) ≡ ahead e (length s.below)
after_edited (edit.Go to takes pushed) s = refl
after_edited (edit.BeginFrame to takes body homes) s = refl
after_edited (edit.EndFrame value) s = refl
after_edited (edit.BeginContext context) s = refl
after_edited edit.EndContext s = ended s.below
after_edited (edit.Open construct) s = refl
after_edited edit.Close s = refl
after_edited (edit.Replace construct) s = refl
after_edited edit.CountBirth s = refl
after_edited edit.CountRegion s = refl
after_edited edit.CountPhase s = refl
after_edited (edit.Fail fault) s = refl
after_edited (edit.End value) s = refl

after_change : (e : Edit) (c : Control) → outlook_of (changed_by e c) ≡ outlook_after e (outlook_of c)
after_change e Idle = refl
after_change e (Running s) = after_edited e s
after_change e (Faulted fault s) = refl
after_change e (Ended value) = refl

behind : (es : List Edit) (c : Control) → outlook_of (changed es c) ≡ outlook_behind es (outlook_of c)
behind [] c = refl
behind (e ∷ es) c = behind es (changed_by e c) ∙ ap (outlook_behind es) (after_change e c)

same_fault : (c : Control) → fault_ahead (outlook_of c) ≡ fault_in c
same_fault Idle = refl
same_fault (Running s) = refl
same_fault (Faulted fault s) = refl
same_fault (Ended value) = refl

pub fault_behind : (es : List Edit) (c : Control) → fault_ahead (outlook_behind es (outlook_of c)) ≡ fault_in
    (changed es c)
fault_behind es c = ap fault_ahead (sym (behind es c)) ∙ same_fault (changed es c)
