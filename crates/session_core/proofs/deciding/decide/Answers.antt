use Rattle.std.proofs.Common.{inl, refl}
use Rattle.script_lang.specs.Naming.{decision_command}
use Rattle.session_core.proofs.deciding.decide.Goals as goal

pub returns-then-not-is_consistent : goal.returns-then-not-is_consistent
returns-then-not-is_consistent c = (c.if-not-is_consistent.ensures.state c.requires.ready, refl)

pub returns-in-Ok-Some : goal.returns-in-Ok-Some
returns-in-Ok-Some c =
    let found = rw c.in-Ok-Some.field-0-is at c.in-Ok-Some.ensures.found in
    c.take_decision.ensures (decision_command c.args.asked.now) found.0 found.1.0 found.1.1

pub returns-in-Ok-None : goal.returns-in-Ok-None
returns-in-Ok-None c =
    let found = rw c.in-Ok-None.field-0-is at c.in-Ok-None.ensures.found in
    (inl ((c.if-not-is_consistent.ensures.state c.requires.ready, found), refl), refl)
