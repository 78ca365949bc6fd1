use Rattle.std.proofs.Common.{ap, refl}
use Rattle.std.proofs.lemmas.Result.{on_ok_weaker, on_err_weaker}
use Rattle.om_cells.specs.Stores as values
use Rattle.om_state.specs.Values.{value_with}
use Rattle.om_memory.specs.Memories.{state_of, is_kept, pasts_of, held_by}
use Rattle.om_memory.proofs.Values.{value_changed, kept_alike, kept_too}
use Rattle.om_memory.proofs.memory.Memory.append.Goals as goal

pub append-requires : goal.append-requires
unfolding is_kept
append-requires c = kept_too c.args.self.now.trails.items (values.is_kept c.args.self.now.values) c.args.object.now
    c.requires.no_control c.requires.kept

pub returns-clause-state : goal.returns-clause-state
unfolding state_of
returns-clause-state c = on_ok_weaker c.append.result
    (value_changed (value_with c.args.tail) c.args.self.now.trails.items (values.state_of c.args.self.now.values) _
    c.args.object.now c.requires.no_control) c.append.ensures.state

pub returns-clause-same_state_on_error : goal.returns-clause-same_state_on_error
unfolding state_of
returns-clause-same_state_on_error c = on_err_weaker c.append.result
    (ap (held_by c.args.self.now.trails.items)) c.append.ensures.unchanged_on_error

pub returns-clause-pasts : goal.returns-clause-pasts
unfolding pasts_of
returns-clause-pasts c = refl

pub returns-clause-kept : goal.returns-clause-kept
unfolding is_kept
returns-clause-kept c = λ q. kept_alike c.args.self.now.trails.items (values.is_kept c.args.self.now.values)
    (values.is_kept c.append.new.self) c.append.ensures.kept q
