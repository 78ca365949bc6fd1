use Rattle.std.proofs.Common.{leb, rules}
use Rattle.std.proofs.lemmas.List.Sorted.{IsPartitionPoint-from_clause, IsPartitionedBy-leb}
use Rattle.om_scope_symbols.proofs.Landmarks.{searched-place}
use Rattle.om_scope_symbols.proofs.landmark.count_within.Goals as goal

pub returns-clause-place : goal.returns-clause-place
returns-clause-place c =
    let landmarks = c.args.landmarks.now in
    let depth = c.args.depth in
    searched-place landmarks depth c.partition_point.result
    (IsPartitionPoint-from_clause (λ l. leb l.depth depth) _ _ c.partition_point.ensures.partitioned
    (IsPartitionedBy-leb (λ l. l.depth) landmarks depth c.requires.descend) (λ a r q k. search rules))
