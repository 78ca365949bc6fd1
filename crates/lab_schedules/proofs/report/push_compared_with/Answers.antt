use Rattle.std.specs.Prelude.{List, ℕ, ◌++◌, codes}
use Rattle.lab_schedules.specs.Reports.{of_seed}
use Rattle.lab_schedules.proofs.Texts.{appended_two}
use Rattle.lab_schedules.proofs.report.push_compared_with.Goals as goal

pub returns : goal.returns
returns c =
    let start : List ℕ = c.args.text.now.items in
    let front : List ℕ = codes "`run` came to no end: outputs were compared with " in
    let seed : List ℕ = of_seed c.args.seed in
    appended_two start _ _ (front ++ seed) (codes "\n")
    (appended_two start _ _ front seed c.in_ok-extend_from_slice.ensures.items c.in_ok-push_numbered.ensures)
    c.in_ok-extend_from_slice-2.ensures.items
