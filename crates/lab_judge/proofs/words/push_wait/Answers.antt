use Rattle.std.specs.Prelude.{List, ℕ, ◌++◌, codes, decimal}
use Rattle.lab_judge.specs.Words.{awaited_text, waits_in}
use Rattle.lab_judge.proofs.Texts.{appended_two}
use Rattle.lab_judge.proofs.words.push_wait.Goals as goal

pub returns : goal.returns
returns c =
    let start : List ℕ = c.args.text.now.items in
    let worker : List ℕ = codes "; worker " ++ decimal c.args.wait.now.worker in
    let line : List ℕ = waits_in c.args.wait.now.line in
    appended_two start _ _ (worker ++ line) (awaited_text c.args.wait.now.what)
    (appended_two start _ _ worker line c.in_ok-push_numbered.ensures c.in_ok-push_numbered-2.ensures)
    c.in_ok-push_awaited.ensures
