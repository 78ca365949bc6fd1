use Rattle.om_lower_emit.proofs.clause.begin_reduction.Goals as goal

pub returns : goal.returns
returns c = rw (c.in-Copied.is, c.in-Reduction.is) c.in_ok-set_identity.ensures
