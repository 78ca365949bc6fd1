use Rattle.std.proofs.Common.{◌∙◌, ap, refl}
use Rattle.std.proofs.lemmas.Result.{on_ok_weaker}
use Rattle.om_cells.specs.Stores as values
use Rattle.om_memory.specs.Memories.{state_of, is_kept, pasts_of, held_by}
use Rattle.om_memory.proofs.Values.{kept_more, kept_there}
use Rattle.om_memory.proofs.memory.Memory.keep_value.Goals as goal

pub returns-clause-state : goal.returns-clause-state
unfolding state_of
returns-clause-state c = ap (held_by c.args.self.now.trails.items) c.keep.ensures.state

pub returns-clause-pasts : goal.returns-clause-pasts
unfolding pasts_of
returns-clause-pasts c = refl

pub returns-clause-kept : goal.returns-clause-kept
unfolding is_kept
returns-clause-kept c = on_ok_weaker c.keep.result
    (λ kept no. kept_there c.args.self.now.trails.items (values.is_kept c.keep.new.self) c.args.access.now.object no ∙ kept)
    c.keep.ensures.kept

pub returns-clause-others_kept : goal.returns-clause-others_kept
unfolding is_kept
returns-clause-others_kept c = λ q. kept_more c.args.self.now.trails.items
    (values.is_kept c.args.self.now.values)
    (values.is_kept c.keep.new.self) c.keep.ensures.others_kept q
