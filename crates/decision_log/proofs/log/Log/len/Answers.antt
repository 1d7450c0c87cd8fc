use Rattle.std.proofs.Common.{reverse, arith}
use Rattle.std.proofs.lemmas.List.{length-reverse}
use Rattle.decision_log.proofs.Lists.{length-lists_of}
use Rattle.decision_log.proofs.log.Log.len.Goals as goal

pub returns : goal.returns
returns c =
    let steps = c.self.inside.steps.items in
    rw (← c.self.view_is) (omega (arith, length-lists_of c.self.inside.decisions.items (reverse steps), length-reverse steps, c.len.ensures, c.self.inside.steps.ok.0))
