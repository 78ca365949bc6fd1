use Rattle.std.proofs.Common.{subst}
use Rattle.std.specs.Prelude.{◌↔◌, IsTrue}
use Rattle.om_code.specs.Search.{AreWithin}
use Rattle.om_code.proofs.Staying.{where_exits, tests_one, tests_second, tests_first, all_within}
use Rattle.om_code.proofs.validator.leads_inside.Goals as goal

pub returns-in-Next : goal.returns-in-Next
returns-in-Next c = where_exits _ _ _ _ _ c.in-Next.is (tests_one _ _)

pub returns-in-Always : goal.returns-in-Always
returns-in-Always c = where_exits _ _ _ _ _ c.in-Always.is (tests_one _ _)

pub returns-then-at-length : goal.returns-then-at-length
returns-then-at-length c = where_exits _ _ _ _ _ c.in-Either.is (tests_second _ _ _ c.if-at-length.true)

pub returns-else-at-length : goal.returns-else-at-length
returns-else-at-length c = where_exits _ _ _ _ _ c.in-Either.is (tests_first _ _ _ c.if-at-length.false)

pub returns-in-OneOf : goal.returns-in-OneOf
returns-in-OneOf c =
    let all = c.are_within.ensures in
    let within = all_within c.args.length c.targets.result.now in
    where_exits _ _ _ _ _ c.in-OneOf.is (subst (λ l. IsTrue c.are_within.result ↔ AreWithin c.args.length l)
    c.targets.ensures ((λ t. within.0 (all.0 t)), λ h. all.1 (within.1 h)))
