use Rattle.std.proofs.Common.{◌∙◌, sym, ap, subst, refl, rules}
use Rattle.std.specs.Prelude.{FitsSigned}
use Rattle.std.specs.Int.{w128}
use Rattle.std.proofs.lemmas.Int.{to_z-of_z}
use Rattle.om_state.specs.State.{with_value}
use Rattle.om_cells.specs.Stores as values
use Rattle.om_state.specs.Values.{value_plus, SumFits}
use Rattle.om_memory.specs.Memories.{state_of, is_kept, pasts_of}
use Rattle.om_memory.proofs.Values.{value_changed, value_there, kept_alike, kept_too}
use Rattle.om_memory.proofs.memory.Memory.add.Goals as goal

pub add-requires-clause-kept : goal.add-requires-clause-kept
unfolding is_kept
add-requires-clause-kept c = kept_too c.args.self.now.trails.items (values.is_kept c.args.self.now.values)
    c.args.object.now c.requires.no_control c.requires.kept

pub add-requires-clause-fits : goal.add-requires-clause-fits
unfolding state_of
add-requires-clause-fits c =
    let fits : FitsSigned w128 c.args.number = search rules in
    let s = (values.state_of c.args.self.now.values) in
    subst (λ n. SumFits (s c.args.object.now) n) (sym (to_z-of_z w128 c.args.number fits))
    (subst (λ v. SumFits v c.args.number) (value_there c.args.self.now.trails.items s c.args.object.now
    c.requires.no_control) c.requires.fits)

pub returns-clause-state : goal.returns-clause-state
unfolding state_of
returns-clause-state c =
    let fits : FitsSigned w128 c.args.number = search rules in
    let s = (values.state_of c.args.self.now.values) in
    value_changed (value_plus c.args.number) c.args.self.now.trails.items s _ c.args.object.now
    c.requires.no_control
    (c.add.ensures.state ∙ ap (λ n. with_value c.args.object.now (value_plus n (s c.args.object.now)) s)
    (to_z-of_z w128 c.args.number fits))

pub returns-clause-pasts : goal.returns-clause-pasts
unfolding pasts_of
returns-clause-pasts c = refl

pub returns-clause-kept : goal.returns-clause-kept
unfolding is_kept
returns-clause-kept c = λ q. kept_alike c.args.self.now.trails.items (values.is_kept c.args.self.now.values)
    (values.is_kept c.add.new.self) c.add.ensures.kept q
