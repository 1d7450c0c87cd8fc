use Rattle.plan_text.specs.Subjects.{AreTwoNames}
use Rattle.plan_text.proofs.Points.{false_never}
use Rattle.plan_resolve.proofs.Valuing.{two_names_are, no_first_name, no_two_names}
use Rattle.plan_resolve.proofs.subjects.are_two_names.Goals as goal

pub returns-then-is_name : goal.returns-then-is_name
returns-then-is_name c =
    two_names_are c.args.word.now c.in-Some.class.now c.in-Some.pred.now c.is_name-then-is_name.result c.in-Some.ensures c.if-is_name.ensures c.is_name-then-is_name.ensures

pub returns-else-is_name : goal.returns-else-is_name
returns-else-is_name c =
    no_first_name c.args.word.now c.in-Some.class.now c.in-Some.pred.now c.is_name.result c.in-Some.ensures c.is_name.ensures c.if-is_name.false

pub returns-in-None : goal.returns-in-None
returns-in-None c = false_never (AreTwoNames c.args.word.now) (no_two_names c.args.word.now c.in-None.ensures)
