-- What is left can be made, and leads where all edits lead. Once an edit is made, the change has begun.
use Rattle.std.proofs.Common.{◌≡◌}
use Rattle.std.specs.Prelude.{true, not}
use Rattle.std.specs.Vec.Iter.{into_iter_items}
use Rattle.om_state.specs.Edits.{HaveRoom, changed}
use Rattle.om_memory.specs.Plain.{plain_control}
use Rattle.om_memory.specs.Trails.{CanRewind, past_of, begun}
use Rattle.om_memory.proofs.trail.edit_all.Given as goal

abbrev pub invariant-loop-edit : goal.invariant-loop-edit
invariant-loop-edit l = record {
  can_next : (goal.iterator-loop-edit).can_next l.edit-iterator;
  is_finite : (goal.iterator-loop-edit).is_finite l.edit-iterator;
  room : HaveRoom (into_iter_items l.edit-iterator) (plain_control l.control);
  changed : changed (into_iter_items l.edit-iterator) (plain_control l.control)
      ≡ changed l.fn.edits.items (plain_control l.fn.control);
  past : past_of l.inverses l.control
      ≡ begun (not l.begins) l.fn.control (past_of l.fn.inverses l.fn.control);
  same : l.begins ≡ true → plain_control l.control ≡ plain_control l.fn.control;
  can_rewind : CanRewind l.inverses l.control;
}
