use Rattle.std.specs.Prelude.{List, ℕ, ◌++◌, codes, decimal}
use Rattle.om_code.specs.Faults.{fault_number}
use Rattle.lab_judge.specs.Words.{of_worker, in_line}
use Rattle.lab_judge.proofs.Texts.{appended_two}
use Rattle.lab_judge.proofs.words.push_fault.Goals as goal

pub returns : goal.returns
returns c =
    let front : List ℕ = codes "fault F" ++ decimal (fault_number c.args.fault) in
    let start : List ℕ = c.args.text.now.items in
    let worker : List ℕ = of_worker c.args.worker in
    appended_two start c.push_numbered-2.new.text.items c.push_numbered-3.new.text.items (front ++ worker)
    (in_line c.args.line)
    (appended_two start c.push_numbered.new.text.items c.push_numbered-2.new.text.items front worker
    (rw c.number.ensures at c.in_ok-push_numbered.ensures) c.in_ok-push_numbered-2.ensures)
    c.in_ok-push_numbered-3.ensures
