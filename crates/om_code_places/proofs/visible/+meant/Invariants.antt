use Rattle.om_code_places.proofs.visible.+meant.Given as goal

abbrev pub decreases-meant : goal.decreases-meant
decreases-meant l = l.steps
