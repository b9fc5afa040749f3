-- `first_after` finds the point before which no start is after the time (proofs/Spots.antt).
use Rattle.std.proofs.Common.{rules, ℕ, leb}
use Rattle.std.proofs.lemmas.List.Sorted.{IsPartitionPoint-from_clause, IsPartitionedBy-leb}
use Rattle.kept.proofs.Spots.{read, starts_rise, point_spot}
use Rattle.kept.proofs.finding.Taken.first_after.Goals as goal

pub returns : goal.returns
returns c =
    let s = c.args.self.now in
    point_spot c.requires c.args.time c.partition_point.result
    (IsPartitionPoint-from_clause (λ (q : ℕ). leb (read c.args.self.now c.args.time q) c.args.time) _ _ c.partition_point.ensures.partitioned
    (IsPartitionedBy-leb (read c.args.self.now c.args.time) _ c.args.time (starts_rise c.requires c.args.time)) (λ a r f' k. search rules))
    c.partition_point.ensures.bound
