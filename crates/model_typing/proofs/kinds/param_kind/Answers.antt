use Rattle.model_typing.proofs.kinds.param_kind.Goals as goal

pub returns-in-None : goal.returns-in-None
returns-in-None c = λ kind. (λ all. absurd (c.in-None.ensures all.0 all.1), λ same. cc)
