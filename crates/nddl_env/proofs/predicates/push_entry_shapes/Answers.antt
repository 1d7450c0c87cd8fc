use Rattle.nddl_env.specs.Shapes.{world_of}
use Rattle.nddl_env.proofs.Adding.{same_shapes}
use Rattle.nddl_env.proofs.predicates.push_entry_shapes.Goals as goal

pub returns : goal.returns
returns c =
    same_shapes (world_of c.args.premises.now) c.args.entry c.class_number-class.result c.in_ok-line.line.items c.as_slice.result.now
    c.args.shapes.now c.push_shapes_along.new.shapes c.push_shapes_along.result c.class_number-class.ensures c.in_ok-line.ensures
    c.as_slice.ensures.value c.push_shapes_along.ensures
