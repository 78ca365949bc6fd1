use Rattle.om_foot.proofs.OffsetLemmas.{alone}
use Rattle.om_foot.proofs.offsets.Offsets.of.Goals as goal

pub returns : goal.returns
returns c k below = alone c.args.offset k c.requires
