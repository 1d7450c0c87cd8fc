use Rattle.std.proofs.Common.{rules, nat_lt}
use Rattle.std.proofs.lemmas.List.Sorted.{IsPartitionPoint-from_clause}
use Rattle.cell_store.proofs.Entries.{earlier_first, parted}
use Rattle.cell_store.proofs.steps.first_from.Goals as goal

pub returns : goal.returns
returns c =
    let formers = c.args.formers.now in
    let point = IsPartitionPoint-from_clause (λ former. nat_lt former.step c.args.step) formers c.partition_point.result c.partition_point.ensures.partitioned
    (earlier_first c.requires.0 c.args.step formers c.requires.1) (λ a r q k. search rules) in
    parted c.args.step c.partition_point.result formers point
