use Rattle.std.proofs.Common.{◌≡◌, sym, ap, subst, ◌∙◌, [], ◌∷◌, ◌++◌}
use Rattle.om_task.specs.Rules.{start_of}
use Rattle.om_undo.specs.Machines.{state_in}
use Rattle.lab_explore_states.specs.Sets.{gone_to, seen}
use Rattle.lab_explore_states.specs.Standings.{AreKept, IsStanding, standings}
use Rattle.lab_explore_states.specs.Touched.{AreBy, start_at}
use Rattle.lab_explore_states.proofs.SetLemmas.{follows_taken, kept_more, kept_taken}
use Rattle.lab_explore_states.proofs.stored.Stored.take.Goals as goal

pub walked-requires-clause-stands : goal.walked-requires-clause-stands
walked-requires-clause-stands c = ap (λ v. state_in v.at) c.self.view_is ∙ sym c.requires.stands.state

pub invariant_of-self-in_err-there : goal.invariant_of-self-in_err-there
invariant_of-self-in_err-there c =
    let start = start_of c.self.inside.of.value.program c.self.inside.of.value.workers in
    let one : start_at c.args.machine.now ≡ start =
    λ i. start_of ((c.requires.stands.program ∙ sym (ap (λ v. v.program) c.self.view_is)) i)
    ((c.requires.stands.workers ∙ sym (ap (λ v. v.workers) c.self.view_is)) i) in
    subst (λ xs. AreKept start c.walked.new.tables c.self.inside.here xs c.self.inside.rows
    (standings c.self.inside.states.items)) (sym c.in_ok-reserve.ensures.items)
    (kept_more start c.self.inside.tables c.walked.new.tables c.self.inside.here c.self.inside.past.items
    c.self.inside.rows (standings c.self.inside.states.items) c.in_err-there.ensures.extends
    (subst (λ s. AreBy s c.walked.new.tables) one c.in_err-there.ensures.by_start) c.self.invariant)

pub invariant_of-self-2 : goal.invariant_of-self-2
invariant_of-self-2 c =
    let start = start_of c.self.inside.of.value.program c.self.inside.of.value.workers in
    let one : start_at c.args.machine.now ≡ start =
    λ i. start_of ((c.requires.stands.program ∙ sym (ap (λ v. v.program) c.self.view_is)) i)
    ((c.requires.stands.workers ∙ sym (ap (λ v. v.workers) c.self.view_is)) i) in
    let here = c.self.inside.here in
    let there = c.in_ok-there.there in
    let states = standings c.self.inside.states.items in
    subst (λ x. AreKept start c.walked.new.tables x c.push_reserved.new.self.items c.self.inside.rows states)
    (sym c.replace.ensures.after)
    (subst (λ xs. AreKept start c.walked.new.tables there xs c.self.inside.rows states)
    (sym (c.push_reserved.ensures.items
    ∙ ap (λ x. c.reserve.new.self.items ++ x ∷ []) c.replace.ensures.value
    ∙ ap (λ xs. xs ++ here ∷ []) c.in_ok-reserve.ensures.items))
    (kept_taken start c.walked.new.tables here there c.self.inside.past.items c.self.inside.rows states
    (kept_more start c.self.inside.tables c.walked.new.tables here c.self.inside.past.items c.self.inside.rows states
    c.in_ok-there.ensures.extends
    (subst (λ s. AreBy s c.walked.new.tables) one c.in_ok-there.ensures.by_start) c.self.invariant)
    (subst (λ s. IsStanding s c.walked.new.tables there) one c.in_ok-there.ensures.there)))

pub returns-clause-follows : goal.returns-clause-follows
returns-clause-follows c =
    follows_taken c.self.inside.of.value.program c.self.inside.of.value.workers c.self.inside.here
    c.in_ok-there.there c.replace.new.dest c.self.inside.past.items c.push_reserved.new.self.items
    (standings c.self.inside.states.items) (state_in c.walked.new.machine) c.replace.ensures.after
    c.in_ok-there.ensures.at
    (c.push_reserved.ensures.items ∙ ap (λ x. c.reserve.new.self.items ++ x ∷ []) c.replace.ensures.value
    ∙ ap (λ xs. xs ++ c.self.inside.here ∷ []) c.in_ok-reserve.ensures.items)
    ∙ ap (λ v. gone_to (state_in c.walked.new.machine) (seen v)) c.self.view_is
