use Rattle.std.proofs.Common.{◌≡◌, subst, ℕ, nat_eq, cond, Option, Some, None, ◌++◌}
use Rattle.std.specs.Prelude.{IfSome}
use Rattle.std.specs.Option.{option_to_list}
use Rattle.om_foot.specs.Blocks.{Numbered, block_of, AreBefore, AreRising}
use Rattle.om_foot.proofs.RisingBlocks.{IsPopped, popped, rising-front}
use Rattle.om_foot.proofs.blocks.take_last.Goals as goal

-- what is so of a block that is popped
from_popped : (bs left : Numbered) (o : Option (ℕ × ℕ)) (P : ℕ × ℕ → Type 0) → bs ≡ left ++ option_to_list o → AreRising 0 bs
    → ((b : ℕ × ℕ) → IsPopped bs left b → P b) → IfSome o P
from_popped bs left None P is h all = tt
from_popped bs left (Some b) P is h all = all b (popped bs left b is h)

pub returns-clause-was : goal.returns-clause-was
returns-clause-was c =
    let old = c.args.older.now.items in
    from_popped old c.pop.new.self.items c.pop.result (λ b. block_of old b.0 ≡ Some b.1) c.pop.ensures.items c.requires
    (λ b p. p.was)

pub returns-clause-taken : goal.returns-clause-taken
returns-clause-taken c =
    let old = c.args.older.now.items in
    let new = c.pop.new.self.items in
    from_popped old new c.pop.result
    (λ b. (q : ℕ) → block_of new q ≡ cond (nat_eq b.0 q) None (block_of old q)) c.pop.ensures.items c.requires
    (λ b p. p.taken)

pub returns-clause-last : goal.returns-clause-last
returns-clause-last c =
    from_popped c.args.older.now.items c.pop.new.self.items c.pop.result (λ b. AreBefore b.0 c.pop.new.self.items)
    c.pop.ensures.items c.requires (λ b p. p.last)

pub returns-clause-rising : goal.returns-clause-rising
returns-clause-rising c = rising-front 0 c.pop.new.self.items (option_to_list c.pop.result)
    (subst (AreRising 0) c.pop.ensures.items c.requires)
