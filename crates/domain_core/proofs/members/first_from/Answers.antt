use Rattle.std.proofs.Common.{rules}
use lib.Signed.{lt_z}
use Rattle.std.proofs.lemmas.List.Sorted.{IsPartitionPoint-from_clause}
use Rattle.domain_core.proofs.Searching.{below_comes_first, below_from_test, from_from_test}
use Rattle.domain_core.proofs.members.first_from.Goals as goal

pub returns-clause-below : goal.returns-clause-below
returns-clause-below c =
    let point = IsPartitionPoint-from_clause (λ x. lt_z x c.args.value) _ _ c.partition_point.ensures.partitioned (below_comes_first _ c.args.value c.requires) (λ a r q k. search rules) in
    below_from_test _ c.args.value _ _ point.0

pub returns-clause-from : goal.returns-clause-from
returns-clause-from c =
    let point = IsPartitionPoint-from_clause (λ x. lt_z x c.args.value) _ _ c.partition_point.ensures.partitioned (below_comes_first _ c.args.value c.requires) (λ a r q k. search rules) in
    from_from_test _ c.args.value _ _ point.1
