use Rattle.model_typing.proofs.Upward.{under_told}
use Rattle.model_typing.proofs.classes.is_under.Goals as goal

pub returns-in-Some : goal.returns-in-Some
returns-in-Some c = under_told c.args.model.now c.args.parents.now c.requires c.args.class c.args.ancestor c.in-Some.under c.in-Some.ensures
