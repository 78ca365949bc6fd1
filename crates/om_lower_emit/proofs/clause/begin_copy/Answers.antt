use Rattle.om_lower_emit.proofs.clause.begin_copy.Goals as goal

pub returns-in_ok-set_original-in-Firstprivate : goal.returns-in_ok-set_original-in-Firstprivate
returns-in_ok-set_original-in-Firstprivate c = rw (c.in-Copied.is, c.in-Firstprivate.is)
    c.in_ok-set_original-in-Firstprivate.ensures

pub returns-in_ok-set_identity-in-Reduction : goal.returns-in_ok-set_identity-in-Reduction
returns-in_ok-set_identity-in-Reduction c = rw (c.in-Copied.is, c.in-Reduction.is)
    c.in_ok-set_identity-in-Reduction.ensures
