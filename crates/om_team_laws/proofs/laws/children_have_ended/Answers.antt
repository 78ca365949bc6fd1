use Rattle.om_team_laws.proofs.Children.{none_unfinished}
use Rattle.om_team_laws.proofs.laws.children_have_ended.Goals as goal

pub returns : goal.returns
returns c = λ program workers ls s t l stack name valid e runs choice there is child.
    none_unfinished s stack.top.task name (c.children_are_counted.ensures program workers ls s valid e)
    (c.taskwaits_wait.ensures program workers s t l stack runs choice there is) child
