-- The map's names ascend, and a look-up finds each of its entries.
use Rattle.std.proofs.Common.{◌∙◌, sym, ap, subst, ◌++◌, List, ℕ}
use Rattle.std.proofs.lemmas.List.{append-nil}
use Rattle.std.proofs.lemmas.Map.Views.{All-found}
use Rattle.std.specs.Cmp.Lexicographic.{nat_list_cmp_total}
use Rattle.om_state.specs.Ready.{AreAll}
use Rattle.om_cells.specs.ReadyEntries.{is_ready_in, names_ready}
use Rattle.om_cells.proofs.ReadyLemmas.{are_ready}
use Rattle.om_cells.proofs.named.ready_names.Goals as goal

pub returns : goal.returns
returns c =
    let names : List (List ℕ) = c.loop-name.names.items in
    let ordered = c.iter-name-items.ensures.ordered in
    let map = c.args.places.now in
    subst (AreAll (is_ready_in map.entries))
    (sym c.loop-name.invariant
    ∙ ap (λ es. names ++ names_ready es) c.in-None.ensures.steps.0 ∙ append-nil names)
    (are_ready map.entries ordered (All-found nat_list_cmp_total map ordered))
