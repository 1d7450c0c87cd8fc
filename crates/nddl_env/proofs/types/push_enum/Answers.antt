use Rattle.std.proofs.Common.{◌∷◌, [], ◌++◌, ◌∙◌, ap}
use Rattle.std.specs.Prelude.{Some}
use Rattle.nddl_symbols.specs.declared.declared.Sort.TheVariants as sorts
use Rattle.nddl_env.specs.Lexicons.{sort_shape}
use Rattle.nddl_env.specs.Shapes.{world_of}
use Rattle.nddl_env.proofs.Numbering.{adds_none}
use Rattle.nddl_env.proofs.types.push_enum.Goals as goal

pub returns : goal.returns
returns c =
    let world = world_of c.args.premises.now in
    adds_none world c.args.entry (sort_shape world c.args.entry (sorts.Enum c.args.number) ∷ []) c.args.types.now c.push.new.self
    c.args.typedefs.now.numbers.items c.push_none.new.self.numbers.items c.push_none.result c.requires
    (c.in_ok-push.ensures ∙ ap (λ shape. c.args.types.now ++ Some shape ∷ []) c.in_ok-enum_shape.ensures) c.push_none.ensures
