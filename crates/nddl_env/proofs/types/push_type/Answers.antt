use Rattle.std.proofs.Common.{◌∙◌, sym}
use Rattle.nddl_env.specs.Shapes.{world_of}
use Rattle.nddl_env.proofs.Numbering.{adds_nothing}
use Rattle.nddl_env.proofs.types.push_type.Goals as goal

pub returns-else-is_first : goal.returns-else-is_first
returns-else-is_first c =
    adds_nothing (world_of c.args.premises.now) c.args.entry c.args.declared.now c.args.types.now c.args.typedefs.now.numbers.items
    c.push_none.new.self.numbers.items c.push_none.result (sym c.is_first.ensures ∙ c.if-is_first.false) c.requires c.push_none.ensures
