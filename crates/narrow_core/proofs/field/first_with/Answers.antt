use Rattle.std.proofs.Common.{rules}
use lib.Signed.{lt_z}
use Rattle.std.proofs.lemmas.List.Sorted.{IsPartitionPoint-from_clause}
use Rattle.narrow_core.specs.Sides.{side_of}
use Rattle.narrow_core.proofs.Ordered.{less_comes_first, less_from_test}
use Rattle.narrow_core.proofs.field.first_with.Goals as goal

pub returns-clause-below : goal.returns-clause-below
returns-clause-below c =
    let point = IsPartitionPoint-from_clause (λ entry. lt_z (side_of entry c.args.side) c.args.value) _ _ c.partition_point.ensures.partitioned (less_comes_first _ c.args.side c.requires c.args.value) (λ a r q k. search rules) in
    less_from_test _ c.args.side c.requires c.args.value _ _ point.0
