use Rattle.std.proofs.Common.{◌≡◌, ◌∙◌, ap, refl, []}
use Rattle.std.proofs.Math.Path.{fun_ext}
use Rattle.om_foot.specs.declared.object.Obj.{Obj}
use Rattle.om_foot.specs.declared.object.Obj.TheVariants as obj
use Rattle.om_cells.specs.Stores as values
use Rattle.om_state.specs.Values.{default_of}
use Rattle.om_memory.specs.Memories.{state_of, pasts_of, held_by, pasts_by}
use Rattle.om_memory.proofs.memory.Memory.new.Goals as goal

idle_at : (q : Obj) → held_by [] default_of q ≡ default_of q
idle_at (obj.Control w) = refl
idle_at (obj.Cell a b c d) = refl
idle_at (obj.Global a b) = refl
idle_at (obj.Task a) = refl
idle_at (obj.Kids a) = refl
idle_at (obj.Pending a b) = refl
idle_at (obj.Arrived a b) = refl
idle_at (obj.Work a b) = refl
idle_at (obj.Lock a) = refl
idle_at (obj.Group a) = refl
idle_at obj.Output = refl
idle_at (obj.Events a) = refl

none_at : (q : Obj) → pasts_by [] q ≡ []
none_at (obj.Control w) = refl
none_at (obj.Cell a b c d) = refl
none_at (obj.Global a b) = refl
none_at (obj.Task a) = refl
none_at (obj.Kids a) = refl
none_at (obj.Pending a b) = refl
none_at (obj.Arrived a b) = refl
none_at (obj.Work a b) = refl
none_at (obj.Lock a) = refl
none_at (obj.Group a) = refl
none_at obj.Output = refl
none_at (obj.Events a) = refl

pub returns-clause-state : goal.returns-clause-state
unfolding state_of
returns-clause-state c =
    ap (λ ts. held_by ts (values.state_of c.new-2.result)) c.new.ensures.items
    ∙ ap (held_by []) c.new-2.ensures
    ∙ fun_ext λ q. idle_at q

pub returns-clause-pasts : goal.returns-clause-pasts
unfolding pasts_of
returns-clause-pasts c = ap pasts_by c.new.ensures.items ∙ fun_ext λ q. none_at q
