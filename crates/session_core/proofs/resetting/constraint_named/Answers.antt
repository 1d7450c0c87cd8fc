use Rattle.std.proofs.Common.{List, refl, subst}
use Rattle.std.specs.Prelude.{Option}
use Rattle.model_core.specs.declared.decision.ConArg.{ConArg}
use Rattle.db_history.specs.declared.subject.Subject.TheVariants as subjects
use Rattle.script_lang.specs.Naming.{FindsArguments}
use Rattle.session_core.proofs.StandIns.{no_constraint}
use Rattle.session_core.proofs.resetting.constraint_named.Goals as goal

pub returns-in-Some : goal.returns-in-Some
returns-in-Some c =
    let found = subst (λ (f : Option (List ConArg)). FindsArguments c.args.model.now c.args.kind c.args.arguments.now f) c.in-Some.is c.in_ok-found.ensures in
    (subjects.Constraint c.args.kind found.0, ((refl, found.1.0), (refl, found.1.1)))

pub returns-in-None : goal.returns-in-None
returns-in-None c =
    no_constraint c.args.model.now c.args.kind c.args.arguments.now
    (subst (λ (f : Option (List ConArg)). FindsArguments c.args.model.now c.args.kind c.args.arguments.now f) c.in-None.is c.in_ok-found.ensures)
