use Rattle.std.proofs.Common.{ap, ◌∙◌}
use Rattle.lab_explore_rows.specs.WordTables.{number_of}
use Rattle.lab_explore_rows.proofs.WordTableLemmas.{position_is}
use Rattle.lab_explore_rows.proofs.word_table.WordTable.number.Goals as goal

pub returns-in_err-number-clause-number : goal.returns-in_err-number-clause-number
returns-in_err-number-clause-number c =
    let words = c.args.words.now in
    let none = c.in_err-number.ensures.index ∙ position_is words c.self.inside.lists.keys
    ∙ ap (λ lists. number_of lists words) c.self.view_is in
    let result = c.from_residual.ensures in
    cc

pub returns-clause-number : goal.returns-clause-number
returns-clause-number c =
    let words = c.args.words.now in
    c.in_ok-number.ensures.index ∙ position_is words c.self.inside.lists.keys
    ∙ ap (λ lists. number_of lists words) c.self.view_is
