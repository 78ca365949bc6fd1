use Rattle.std.specs.Prelude.{List, ℕ, ◌++◌, codes}
use Rattle.lab_judge.specs.Words.{name_words, held_by}
use Rattle.lab_judge.proofs.Texts.{appended_two}
use Rattle.lab_judge.proofs.words.push_lock.Goals as goal

pub returns : goal.returns
returns c =
    let start : List ℕ = c.args.text.now.items in
    let front : List ℕ = codes " for critical" in
    let name : List ℕ = name_words c.args.name.now in
    appended_two start _ _ (front ++ name) (held_by c.args.holder)
    (appended_two start _ _ front name c.in_ok-extend_from_slice.ensures.items c.in_ok-push_name.ensures)
    c.in_ok-push_numbered.ensures
