use Rattle.std.proofs.Common.{◌∙◌, sym, ap, ◌++◌}
use Rattle.std.proofs.lemmas.Map.Views.{All-found}
use Rattle.std.specs.Prelude.{slice_get, option_to_list}
use Rattle.std.specs.Cmp.Lexicographic.{nat_list_cmp_total}
use Rattle.om_cells.specs.ReadyEntries.{names_ready}
use Rattle.om_cells.proofs.ReadyLemmas.{next_between}
use Rattle.om_cells.proofs.named.ready_behind.Goals as goal

pub returns : goal.returns
returns c =
    let map = c.args.places.now in
    let ordered = c.range-name-items.ensures.ordered in
    next_between map.entries ordered (All-found nat_list_cmp_total map ordered) c.args.after.now _
    (ap (λ es. slice_get (names_ready es) 0) (sym c.in-None.ensures.steps.0)
    ∙ ap (λ names. slice_get names 0) c.loop-name.invariant)

pub returns-in-Some-ready_name : goal.returns-in-Some-ready_name
returns-in-Some-ready_name c =
    let map = c.args.places.now in
    let ordered = c.range-name-items.ensures.ordered in
    next_between map.entries ordered (All-found nat_list_cmp_total map ordered) c.args.after.now _
    (ap (λ o. slice_get (option_to_list o ++ names_ready c.next.new.self) 0)
    (sym c.in-Some-ready_name.is ∙ c.ready_name.ensures)
    ∙ ap (λ es. slice_get (names_ready es) 0) (sym c.in-Some.ensures.steps)
    ∙ ap (λ names. slice_get names 0) c.loop-name.invariant)
