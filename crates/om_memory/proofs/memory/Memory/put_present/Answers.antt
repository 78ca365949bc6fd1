use Rattle.std.proofs.Common.{◌∙◌, sym, refl}
use Rattle.om_cells.specs.Stores as values
use Rattle.om_memory.specs.Memories.{state_of, is_kept, pasts_of}
use Rattle.om_memory.proofs.Values.{value_put, value_there, kept_alike, kept_too}
use Rattle.om_memory.proofs.memory.Memory.put_present.Goals as goal

pub put_present-requires : goal.put_present-requires
unfolding is_kept
put_present-requires c = kept_too c.args.self.now.trails.items (values.is_kept c.args.self.now.values) c.args.object.now
    c.requires.no_control c.requires.kept

pub returns-clause-before : goal.returns-clause-before
unfolding state_of
returns-clause-before c = c.put_present.ensures.before ∙ sym (value_there c.args.self.now.trails.items
    (values.state_of c.args.self.now.values)
    c.args.object.now c.requires.no_control)

pub returns-clause-state : goal.returns-clause-state
unfolding state_of
returns-clause-state c = value_put c.args.self.now.trails.items (values.state_of c.args.self.now.values) _
    c.args.object.now
    c.args.value c.requires.no_control c.put_present.ensures.state

pub returns-clause-pasts : goal.returns-clause-pasts
unfolding pasts_of
returns-clause-pasts c = refl

pub returns-clause-kept : goal.returns-clause-kept
unfolding is_kept
returns-clause-kept c = λ q. kept_alike c.args.self.now.trails.items (values.is_kept c.args.self.now.values)
    (values.is_kept c.put_present.new.self) c.put_present.ensures.kept q
