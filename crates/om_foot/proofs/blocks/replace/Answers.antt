use Rattle.std.proofs.Common.{◌∙◌, sym, ap, subst, ℕ, nat_lt, nat_eq, cond, ◌<◌, length, rules}
use Rattle.std.proofs.lemmas.List.Sorted.{IsPartitionPoint-from_clause}
use Rattle.om_foot.specs.Blocks.{block_of, AreRising}
use Rattle.om_foot.proofs.RisingBlocks.{IsPlace, found_place, place-within, replaced, rising-replace, removed, rising-remove}
use Rattle.om_foot.proofs.blocks.replace.Goals as goal

place-at_set : (c : goal.After-index_mut-arg-1) → IsPlace c.args.number c.args.older.now.items c.partition_point-at.result
place-at_set c =
    let at = c.partition_point-at.result in
    found_place c.args.number c.args.older.now.items c.deref.result.now at c.deref.ensures.value c.requires.rising
    c.partition_point-at.ensures.bound
    (λ parted. IsPartitionPoint-from_clause (λ (b : ℕ × ℕ). nat_lt b.0 c.args.number) c.deref.result.now at
    c.partition_point-at.ensures.partitioned parted (λ a r q k. search rules))

pub index_mut-requires : goal.index_mut-requires
index_mut-requires c = subst (λ n. c.partition_point-at.result < n) (ap length (sym c.deref.ensures.value) ∙ c.deref.ensures.len)
    (place-within c.args.number c.args.older.now.items c.partition_point-at.result (place-at_set c) c.requires.there)

place-at_remove : (c : goal.After-remove-arg-1) → IsPlace c.args.number c.args.older.now.items c.partition_point-at.result
place-at_remove c =
    let at = c.partition_point-at.result in
    found_place c.args.number c.args.older.now.items c.deref.result.now at c.deref.ensures.value c.requires.rising
    c.partition_point-at.ensures.bound
    (λ parted. IsPartitionPoint-from_clause (λ (b : ℕ × ℕ). nat_lt b.0 c.args.number) c.deref.result.now at
    c.partition_point-at.ensures.partitioned parted (λ a r q k. search rules))

pub remove-requires : goal.remove-requires
remove-requires c = subst (λ n. c.partition_point-at.result < n) (ap length (sym c.deref.ensures.value) ∙ c.deref.ensures.len)
    (place-within c.args.number c.args.older.now.items c.partition_point-at.result (place-at_remove c) c.requires.there)

place-set : (c : goal.After-older-1) → IsPlace c.args.number c.args.older.now.items c.partition_point-at.result
place-set c =
    let at = c.partition_point-at.result in
    found_place c.args.number c.args.older.now.items c.deref.result.now at c.deref.ensures.value c.requires.rising
    c.partition_point-at.ensures.bound
    (λ parted. IsPartitionPoint-from_clause (λ (b : ℕ × ℕ). nat_lt b.0 c.args.number) c.deref.result.now at
    c.partition_point-at.ensures.partitioned parted (λ a r q k. search rules))

pub returns-in-Some-clause-replaced : goal.returns-in-Some-clause-replaced
returns-in-Some-clause-replaced c q =
    let older = c.args.older.now.items in
    replaced c.args.number c.in-Some.offsets older c.partition_point-at.result q (place-set c) c.requires.there
    ∙ ap (λ o. cond (nat_eq c.args.number q) o (block_of older q)) (sym c.in-Some.is)

pub returns-in-Some-clause-rising : goal.returns-in-Some-clause-rising
returns-in-Some-clause-rising c =
    rising-replace 0 c.args.number c.in-Some.offsets c.args.older.now.items c.partition_point-at.result c.requires.rising
    (place-set c) c.requires.there

place-removed : (c : goal.After-drop) → IsPlace c.args.number c.args.older.now.items c.partition_point-at.result
place-removed c =
    let at = c.partition_point-at.result in
    found_place c.args.number c.args.older.now.items c.deref.result.now at c.deref.ensures.value c.requires.rising
    c.partition_point-at.ensures.bound
    (λ parted. IsPartitionPoint-from_clause (λ (b : ℕ × ℕ). nat_lt b.0 c.args.number) c.deref.result.now at
    c.partition_point-at.ensures.partitioned parted (λ a r q k. search rules))

pub returns-in-None-clause-replaced : goal.returns-in-None-clause-replaced
returns-in-None-clause-replaced c q =
    let older = c.args.older.now.items in
    ap (λ bs. block_of bs q) c.remove.ensures.items
    ∙ removed c.args.number older c.partition_point-at.result q (place-removed c) c.requires.there
    ∙ ap (λ o. cond (nat_eq c.args.number q) o (block_of older q)) (sym c.in-None.is)

pub returns-in-None-clause-rising : goal.returns-in-None-clause-rising
returns-in-None-clause-rising c = subst (AreRising 0) (sym c.remove.ensures.items)
    (rising-remove 0 c.args.older.now.items c.partition_point-at.result c.requires.rising)
