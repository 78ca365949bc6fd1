use Rattle.std.proofs.Common.{◌<◌, ◌+◌, ◌∷◌, [], length, sym, subst, arith}
use Rattle.om_code.specs.Search.{AreWithin}
use Rattle.om_code.proofs.Noting.{exits-are, within-head, within-tail, notes_length}
use Rattle.om_code.proofs.height.lead_on.Goals as goal

pub overflow_add-at : goal.overflow_add-at
overflow_add-at c = let h = within-head _ _ [] (exits-are _ _ _ _ _ c.in-Next.is c.requires) in omega
    (arith, h, c.args.search.now.heights.small, c.args.search.now.heights.ok)

pub reach-requires : goal.reach-requires
reach-requires c = within-head _ _ [] (exits-are _ _ _ _ _ c.in-Next.is c.requires)

pub reach-requires-in-Always : goal.reach-requires-in-Always
reach-requires-in-Always c = within-head _ _ [] (exits-are _ _ _ _ _ c.in-Always.is c.requires)

pub overflow_add-at-in-Either : goal.overflow_add-at-in-Either
overflow_add-at-in-Either c = let h = within-head _ _ (c.in-Either.target ∷ []) (exits-are _ _ _ _ _ c.in-Either.is
    c.requires) in omega (arith, h, c.args.search.now.heights.small, c.args.search.now.heights.ok)

pub reach-requires-in-Either : goal.reach-requires-in-Either
reach-requires-in-Either c = within-head _ _ (c.in-Either.target ∷ []) (exits-are _ _ _ _ _ c.in-Either.is c.requires)

pub reach-requires-in-Either-2 : goal.reach-requires-in-Either-2
reach-requires-in-Either-2 c = subst (λ n. c.in-Either.target < n)
    (sym (notes_length c.args.height ((c.args.at + 1) ∷ []) _ c.args.search.now.unfollowed.items _
    c.reach-in-Either.new.search.unfollowed.items c.in_ok-reach-in-Either.ensures.noted))
    (within-head _ _ [] (within-tail _ (c.args.at + 1) (c.in-Either.target ∷ []) (exits-are _ _ _ _ _ c.in-Either.is
    c.requires)))

pub reach_all-requires : goal.reach_all-requires
reach_all-requires c = subst (λ l. AreWithin (length c.args.search.now.heights.items) l) (sym c.targets.ensures)
    (exits-are _ _ _ _ _ c.in-OneOf.is c.requires)
