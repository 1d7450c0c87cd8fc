use Rattle.std.specs.Prelude.{option_copied}
use Rattle.db_refusals.proofs.Told.{isnt}
use Rattle.db_edges.proofs.Pointing.{acts_merged}
use Rattle.db_edges.proofs.points.acting_for.Goals as goal

pub returns-else-is_active : goal.returns-else-is_active
returns-else-is_active c =
    acts_merged c.args.model.now c.args.decisions.now c.args.token.now (option_copied c.merged_into.result) (isnt c.if-is_active.ensures) c.merged_into.ensures
