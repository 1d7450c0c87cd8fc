use Rattle.std.proofs.Common.{◌∷◌, []}
use Rattle.std.specs.Prelude.{None}
use Rattle.nddl_env.specs.Shapes.{world_of}
use Rattle.nddl_env.proofs.Numbering.{adds_none}
use Rattle.nddl_env.proofs.types.push_none.Goals as goal

pub returns : goal.returns
returns c =
    adds_none (world_of c.args.premises.now) c.args.entry (None ∷ []) c.args.types.now c.push_none.new.self c.args.typedefs.now.numbers.items
    c.push_none-2.new.self.numbers.items c.push_none-2.result c.requires c.in_ok-push_none.ensures c.push_none-2.ensures
