use Rattle.session_core.proofs.Choices.{some_below, none_past}
use Rattle.session_core.proofs.counting.has_choice.Goals as goal

pub returns-in-Ok-Some : goal.returns-in-Ok-Some
returns-in-Ok-Some g c = λ choices are.
    some_below choices c.args.number c.in-Ok-Some.choice ((rw c.in-Ok-Some.field-0-is at c.in-Ok-Some.ensures) choices are)

pub returns-in-Ok-None : goal.returns-in-Ok-None
returns-in-Ok-None g c = λ choices are. none_past choices c.args.number ((rw c.in-Ok-None.field-0-is at c.in-Ok-None.ensures) choices are)
