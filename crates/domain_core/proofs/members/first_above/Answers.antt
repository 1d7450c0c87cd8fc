use Rattle.std.proofs.Common.{rules}
use lib.Signed.{le_z}
use Rattle.std.proofs.lemmas.List.Sorted.{IsPartitionPoint-from_clause}
use Rattle.domain_core.proofs.Searching.{upto_comes_first, upto_from_test, above_from_test}
use Rattle.domain_core.proofs.members.first_above.Goals as goal

pub returns-clause-upto : goal.returns-clause-upto
returns-clause-upto c =
    let point = IsPartitionPoint-from_clause (λ x. le_z x c.args.value) _ _ c.partition_point.ensures.partitioned (upto_comes_first _ c.args.value c.requires) (λ a r q k. search rules) in
    upto_from_test _ c.args.value _ _ point.0

pub returns-clause-above : goal.returns-clause-above
returns-clause-above c =
    let point = IsPartitionPoint-from_clause (λ x. le_z x c.args.value) _ _ c.partition_point.ensures.partitioned (upto_comes_first _ c.args.value c.requires) (λ a r q k. search rules) in
    above_from_test _ c.args.value _ _ point.1
