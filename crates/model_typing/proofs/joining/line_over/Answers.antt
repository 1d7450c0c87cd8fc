use Rattle.model_typing.proofs.joining.line_over.Goals as goal

pub returns-in-None : goal.returns-in-None
returns-in-None c = λ class. (λ both. c.in-None.ensures class both.0 both.1, λ on. absurd on)
