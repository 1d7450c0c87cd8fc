use Rattle.std.proofs.Common.{sym, ◌∙◌, reverse}
use Rattle.decision_log.proofs.Lists.{standing-lists_of}
use Rattle.decision_log.proofs.log.Log.standing.Goals as goal

pub returns : goal.returns
returns c = rw (← c.self.view_is) (c.as_slice.ensures.value ∙ sym (standing-lists_of c.self.inside.decisions.items (reverse c.self.inside.steps.items)))
