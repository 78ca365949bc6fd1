use Rattle.std.proofs.Common.{◌∙◌, sym, ap, subst, refl, rules}
use Rattle.std.specs.Prelude.{FitsSigned, neg_ℤ}
use Rattle.std.specs.Int.{w128}
use Rattle.std.proofs.lemmas.Int.{to_z-of_z}
use Rattle.om_state.specs.State.{with_value}
use Rattle.om_cells.specs.Stores as values
use Rattle.om_state.specs.Values.{value_plus, SumFits}
use Rattle.om_memory.specs.Memories.{state_of, is_kept, pasts_of}
use Rattle.om_memory.proofs.Values.{value_changed, value_there, kept_alike, kept_too}
use Rattle.om_memory.proofs.memory.Memory.subtract.Goals as goal

pub subtract-requires-clause-kept : goal.subtract-requires-clause-kept
unfolding is_kept
subtract-requires-clause-kept c = kept_too c.args.self.now.trails.items (values.is_kept c.args.self.now.values)
    c.args.object.now c.requires.no_control c.requires.kept

pub subtract-requires-clause-fits : goal.subtract-requires-clause-fits
unfolding state_of
subtract-requires-clause-fits c =
    let fits : FitsSigned w128 c.args.number = search rules in
    let s = (values.state_of c.args.self.now.values) in
    subst (λ n. SumFits (s c.args.object.now) (neg_ℤ n)) (sym (to_z-of_z w128 c.args.number fits))
    (subst (λ v. SumFits v (neg_ℤ c.args.number)) (value_there c.args.self.now.trails.items s c.args.object.now
    c.requires.no_control) c.requires.fits)

pub returns-clause-state : goal.returns-clause-state
unfolding state_of
returns-clause-state c =
    let fits : FitsSigned w128 c.args.number = search rules in
    let s = (values.state_of c.args.self.now.values) in
    value_changed (value_plus (neg_ℤ c.args.number)) c.args.self.now.trails.items s _ c.args.object.now
    c.requires.no_control
    (c.subtract.ensures.state ∙ ap (λ n. with_value c.args.object.now (value_plus (neg_ℤ n) (s c.args.object.now)) s)
    (to_z-of_z w128 c.args.number fits))

pub returns-clause-pasts : goal.returns-clause-pasts
unfolding pasts_of
returns-clause-pasts c = refl

pub returns-clause-kept : goal.returns-clause-kept
unfolding is_kept
returns-clause-kept c = λ q. kept_alike c.args.self.now.trails.items (values.is_kept c.args.self.now.values)
    (values.is_kept c.subtract.new.self) c.subtract.ensures.kept q
