use Rattle.std.proofs.Common.{ap, ◌∙◌, ◌++◌, ◌∷◌, []}
use Rattle.lab_explore_rows.specs.WordTables.{lists_of, number_of}
use Rattle.lab_explore_rows.proofs.WordTableLemmas.{key_added}
use Rattle.lab_explore_rows.proofs.word_table.WordTable.add.Goals as goal

pub returns-clause-added : goal.returns-clause-added
returns-clause-added c =
    let words = c.args.words.now in
    ap lists_of c.in_ok-insert.ensures.keys
    ∙ key_added words c.self.inside.lists.keys c.in_ok-from_slice.field-0 c.in_ok-from_slice.ensures.items
    (ap (λ lists. number_of lists words) c.self.view_is ∙ c.requires)
    ∙ ap (λ lists. lists ++ words ∷ []) c.self.view_is
