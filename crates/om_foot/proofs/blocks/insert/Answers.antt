use Rattle.std.proofs.Common.{◌≡◌, sym, subst, ℕ, nat_lt, nat_eq, cond, Some, arith, rules}
use Rattle.std.proofs.lemmas.List.Sorted.{IsPartitionPoint-from_clause}
use Rattle.om_foot.specs.Blocks.{block_of, AreRising}
use Rattle.om_foot.proofs.RisingBlocks.{IsPlace, found_place, inserted, rising-insert}
use Rattle.om_foot.proofs.blocks.insert.Goals as goal

place : (c : goal.In-Ok) → IsPlace c.args.number c.args.older.now.items c.partition_point-at.result
place c =
    let at = c.partition_point-at.result in
    found_place c.args.number c.args.older.now.items c.deref.result.now at c.deref.ensures.value c.requires.rising
    c.partition_point-at.ensures.bound
    (λ parted. IsPartitionPoint-from_clause (λ (b : ℕ × ℕ). nat_lt b.0 c.args.number) c.deref.result.now at
    c.partition_point-at.ensures.partitioned parted (λ a r q k. search rules))

pub returns-in-Ok-clause-inserted : goal.returns-in-Ok-clause-inserted
returns-in-Ok-clause-inserted c q =
    let older = c.args.older.now.items in
    let at = c.partition_point-at.result in
    subst (λ bs. block_of bs q ≡ cond (nat_eq c.args.number q) (Some c.args.offsets) (block_of older q))
    (sym c.in-Ok.ensures.items) (inserted c.args.number c.args.offsets older at q (place c))

pub returns-in-Ok-clause-rising : goal.returns-in-Ok-clause-rising
returns-in-Ok-clause-rising c =
    let older = c.args.older.now.items in
    let at = c.partition_point-at.result in
    subst (AreRising 0) (sym c.in-Ok.ensures.items)
    (rising-insert 0 c.args.number c.args.offsets older at c.requires.rising (omega arith) (place c) c.requires.new)
