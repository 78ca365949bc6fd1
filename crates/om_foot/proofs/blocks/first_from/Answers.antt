use Rattle.std.proofs.Common.{◌≡◌, refl, ℕ, nat_lt, ◌≤◌, ◌<◌, Option, Some, None, length, get_or, Bor, arith, rules}
use Rattle.std.specs.Prelude.{is_some, IfSome, IfNone}
use Rattle.std.proofs.lemmas.Option.{slice_get_past, slice_get_read}
use Rattle.om_foot.specs.Blocks.{Numbered, block_of}
use Rattle.om_foot.proofs.RisingBlocks.{IsPlace, IsFirstFrom, found_place, first-at, none-from}
use Rattle.std.proofs.lemmas.List.Sorted.{IsPartitionPoint-from_clause}
use Rattle.om_foot.proofs.blocks.first_from.Goals as goal

place : (c : goal.After-get) → IsPlace c.args.number c.args.older.now c.partition_point-at.result
place c =
    let older = c.args.older.now in
    let at = c.partition_point-at.result in
    found_place c.args.number older older at refl c.requires c.partition_point-at.ensures.bound
    (λ parted. IsPartitionPoint-from_clause (λ (b : ℕ × ℕ). nat_lt b.0 c.args.number) older at
    c.partition_point-at.ensures.partitioned parted (λ a r q k. search rules))

-- what is so of what is read at the place of a number
from_some : (number : ℕ) (bs : Numbered) (i : ℕ) (o : Option (Bor (ℕ × ℕ))) (P : Bor (ℕ × ℕ) → Type 0) → IsPlace number bs i
    → is_some o ≡ nat_lt i (length bs) → IfSome o (λ x. x.now ≡ get_or bs i x.now)
    → ((x : Bor (ℕ × ℕ)) → IsFirstFrom number bs x.now → P x) → IfSome o P
from_some number bs i None P place is read all = tt
from_some number bs i (Some x) P place is read all =
    let lt : i < length bs = grind (arith, is) in
    all x (first-at number bs i x.now place (slice_get_read bs (length bs) i x.now refl lt read))

from_none : (number : ℕ) (bs : Numbered) (i : ℕ) (o : Option (Bor (ℕ × ℕ))) → IsPlace number bs i
    → is_some o ≡ nat_lt i (length bs) → IfNone o ((q : ℕ) → number ≤ q → block_of bs q ≡ None)
from_none number bs i (Some x) place is = tt
from_none number bs i None place is =
    let past : length bs ≤ i = grind (arith, is) in
    none-from number bs i place (slice_get_past bs i past)

pub returns-clause-there : goal.returns-clause-there
returns-clause-there c = from_some c.args.number c.args.older.now c.partition_point-at.result c.get.result
    (λ x. block_of c.args.older.now x.now.0 ≡ Some x.now.1) (place c) c.get.ensures.lookup.0 c.get.ensures.lookup.1
    (λ x p. p.there)

pub returns-clause-from : goal.returns-clause-from
returns-clause-from c = from_some c.args.number c.args.older.now c.partition_point-at.result c.get.result
    (λ x. c.args.number ≤ x.now.0) (place c) c.get.ensures.lookup.0 c.get.ensures.lookup.1
    (λ x p. p.from)

pub returns-clause-first : goal.returns-clause-first
returns-clause-first c = from_some c.args.number c.args.older.now c.partition_point-at.result c.get.result
    (λ x. (q : ℕ) → c.args.number ≤ q → q < x.now.0 → block_of c.args.older.now q ≡ None) (place c)
    c.get.ensures.lookup.0 c.get.ensures.lookup.1 (λ x p. p.first)

pub returns-clause-none : goal.returns-clause-none
returns-clause-none c =
    from_none c.args.number c.args.older.now c.partition_point-at.result c.get.result (place c) c.get.ensures.lookup.0
