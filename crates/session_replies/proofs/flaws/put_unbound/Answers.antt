use Rattle.std.proofs.Common.{refl}
use Rattle.session_replies.proofs.Flawing.{found_base, unbound_put}
use Rattle.session_replies.proofs.Timing.{variable_put}
use Rattle.session_replies.proofs.flaws.put_unbound.Goals as goal

pub variable_name-requires : goal.variable_name-requires
variable_name-requires g c = (c.requires.there.0, c.requires.there.1.0)

pub put_variable-requires : goal.put_variable-requires
put_variable-requires g c = found_base c.args.model.now (g.V.View.state c.args.view.now) c.args.at c.in_ok-name.name c.requires.there c.in_ok-name.ensures

pub returns : goal.returns
returns g c =
    unbound_put c.args.model.now (g.V.View.state c.args.view.now) c.args.at c.in_ok-name.name c.args.gap.now c.args.out.now.items c.put_variable.new.out.items c.put_variable.result c.in_ok-name.ensures
    (variable_put c.args.model.now c.in_ok-name.name c.in_ok-name.name c.args.gap.now c.args.out.now.items c.put_variable.new.out.items c.put_variable.result c.requires.lawful refl c.put_variable.ensures)
