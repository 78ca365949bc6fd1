use Rattle.std.proofs.Common.{sym, subst, ◌↔◌}
use Rattle.std.specs.Prelude.{Contains}
use Rattle.lab_graph.specs.Pictures.{IsArrow}
use Rattle.lab_graph.proofs.Exactly.{exactly}
use Rattle.lab_graph.proofs.picture.picture_of.Goals as goal

pub returns-in-Ok-clause-exactly : goal.returns-in-Ok-clause-exactly
returns-in-Ok-clause-exactly c =
    λ x. subst (λ l. Contains l x ↔ IsArrow c.args.steps.now x) (sym c.in-Ok.ensures) (exactly c.args.steps.now x)
