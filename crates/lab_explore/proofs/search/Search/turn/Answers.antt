use Rattle.std.proofs.Common.{◌≡◌, refl, sym, ◌∙◌, ap, subst, rules, None, Some, List, [], ◌∷◌, map, drop}
use Rattle.std.specs.Prelude.{slice_get}
use Rattle.om_undo_history.specs.Choices.{label_by}
use Rattle.lab_explore.specs.declared.search.Search.{Search}
use Rattle.lab_explore.specs.declared.todo.Todo.{Todo}
use Rattle.lab_explore.specs.declared.todo.Todo.TheVariants as todo
use Rattle.lab_explore.specs.Acts.{Act, Try, Back, act_of}
use Rattle.lab_explore.specs.Searches.{acts_of, IsSearch}
use Rattle.lab_explore.proofs.SearchLemmas.{complete}
use Rattle.lab_explore.proofs.NextLemmas.{search_but, popped, none_popped}
use Rattle.lab_explore.proofs.search.Search.turn.Goals as goal

pub back-requires : goal.back-requires
back-requires c =
    let x : Search = c.args.self.now in
    let t : Todo = todo.Back c.in-Some-Back.worker in
    let top : Some t ≡ slice_get x.todos 0 = search rules in
    let acts : acts_of x ≡ Back c.in-Some-Back.worker ∷ map act_of c.pop.new.self =
    ap (map act_of) (popped x.todos t top)
    ∙ ap (λ (ts : List Todo). Back c.in-Some-Back.worker ∷ map act_of ts) (sym c.pop.ensures.rest) in
    search_but x.machine.program x.machine.workers (Back c.in-Some-Back.worker ∷ map act_of c.pop.new.self) x
    c.pop.new.self
    (subst (λ (more : List Act). IsSearch x.machine.program x.machine.workers more x) acts c.requires.search)

pub try_step-requires-clause-search : goal.try_step-requires-clause-search
try_step-requires-clause-search c =
    let x : Search = c.args.self.now in
    let t : Todo = todo.Try c.in-Some-Try.worker c.in-Some-Try.start in
    let top : Some t ≡ slice_get x.todos 0 = search rules in
    let more : List Act =
    Try (label_by c.in-Some-Try.worker c.in-Some-Try.start) ∷ map act_of c.pop.new.self in
    let acts : acts_of x ≡ more =
    ap (map act_of) (popped x.todos t top)
    ∙ ap (λ (ts : List Todo). Try (label_by c.in-Some-Try.worker c.in-Some-Try.start) ∷ map act_of ts)
    (sym c.pop.ensures.rest) in
    search_but x.machine.program x.machine.workers more x c.pop.new.self
    (subst (λ (all : List Act). IsSearch x.machine.program x.machine.workers all x) acts c.requires.search)

pub returns-in-None-clause-goes_on : goal.returns-in-None-clause-goes_on
returns-in-None-clause-goes_on c =
    let x : Search = c.args.self.now in
    let y : Search = record x { todos = c.pop.new.self } in
    let none : acts_of x ≡ [] =
    ap (map act_of) (none_popped x.todos (sym c.in-None.is ∙ c.pop.ensures.top)) in
    complete x.machine.program x.machine.workers c.args.limits.now (acts_of x) x y c.requires.search none refl refl
    refl refl
