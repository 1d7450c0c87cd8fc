use Rattle.model_typing.proofs.Lined.{local_lined}
use Rattle.model_typing.proofs.lines.local_line.Goals as goal

pub returns : goal.returns
returns c = local_lined c.args.model.now c.line_in.result c.args.pred c.args.rule.now c.args.locals.now c.requires c.args.number c.line_in.ensures
