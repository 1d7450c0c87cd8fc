use Rattle.std.proofs.Common.{ap}
use Rattle.eu_name.specs.declared.name.TokenName.{TokenName}
use Rattle.eu_name.specs.declared.name.VarName.TheVariants as variables
use Rattle.session_replies.proofs.Timing.{part_base, variable_put}
use Rattle.session_replies.proofs.edges.put_part.Goals as goal

pub put_variable-requires : goal.put_variable-requires
put_variable-requires c = part_base c.args.model.now c.args.token.now c.in_ok-copy.field-0 c.args.part c.in_ok-copy.ensures c.requires.there

pub returns : goal.returns
returns c =
    variable_put c.args.model.now (variables.Token c.args.token.now c.args.part) (variables.Token c.in_ok-copy.field-0 c.args.part) c.args.gap.now c.args.out.now.items c.put_variable.new.out.items c.put_variable.result c.requires.lawful
    (ap (λ (t : TokenName). variables.Token t c.args.part) c.in_ok-copy.ensures) c.put_variable.ensures
