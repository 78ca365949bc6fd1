use Rattle.om_scope_tree.proofs.laws.main_there.Goals as goal

pub returns : goal.returns
returns c = λ tree whole. (whole.main.0, whole.main.1, whole.main.2, whole.main.3, whole.main.4.named)
