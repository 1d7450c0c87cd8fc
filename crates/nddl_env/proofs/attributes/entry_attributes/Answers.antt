use Rattle.nddl_env.specs.Shapes.{world_of}
use Rattle.nddl_env.proofs.Adding.{same_attributes}
use Rattle.nddl_env.proofs.attributes.entry_attributes.Goals as goal

pub returns : goal.returns
returns c =
    same_attributes (world_of c.args.premises.now) c.args.entry c.in_ok-line.line.items c.as_slice.result.now c.attributes_along.result
    c.in_ok-line.ensures c.as_slice.ensures.value c.attributes_along.ensures
