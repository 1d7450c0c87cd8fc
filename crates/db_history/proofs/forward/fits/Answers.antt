use Rattle.std.proofs.Common.{sym, ◌∙◌}
use Rattle.db_history.proofs.Keeping.{leaves_rest, leaves_fallen, leaves_void}
use Rattle.db_history.proofs.forward.fits.Goals as goal

pub returns-in-Rest : goal.returns-in-Rest
returns-in-Rest c = λ model decisions keeps. leaves_rest model decisions c.args.kept.now keeps (sym c.footing.ensures ∙ c.in-Rest.is)

pub returns-in-Fallen : goal.returns-in-Fallen
returns-in-Fallen c = λ model decisions keeps. leaves_fallen model decisions c.args.kept.now keeps (sym c.footing.ensures ∙ c.in-Fallen.is)

pub returns-in-Void : goal.returns-in-Void
returns-in-Void c = λ model decisions keeps. leaves_void model decisions c.args.kept.now keeps (sym c.footing.ensures ∙ c.in-Void.is)
