use Rattle.std.proofs.Common.{sym, ap, ◌∙◌, Some, ◌∷◌, []}
use Rattle.lab_explore_rows.specs.NumberFacts.{number_before, number_pushed}
use Rattle.lab_explore_rows.specs.WordTables.{number_of}
use Rattle.lab_explore_rows.proofs.tables.number_in.Goals as goal

pub returns-clause-number : goal.returns-clause-number
returns-clause-number c =
    let words = c.args.words.now in
    ap (λ lists. number_of lists words) c.in_ok-number.ensures.added
    ∙ number_pushed c.args.table.now words (sym c.in_default.ensures.number)
    ∙ ap Some (sym c.in_ok-number.ensures.number)

pub returns-clause-keeps : goal.returns-clause-keeps
returns-clause-keeps c = λ words n h.
    ap (λ lists. number_of lists words) c.in_ok-number.ensures.added
    ∙ number_before c.args.table.now (c.args.words.now ∷ []) words n h
