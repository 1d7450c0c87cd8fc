-- Only the first number is that of the rejection.
use Rattle.std.proofs.Common.{arith}
use Rattle.model_core.specs.Tokens.{IsRejectable}
use Rattle.flaw_core.proofs.Numbering.{rejection_past, rejection_first, rejection_none, rejection_told, absent}
use Rattle.flaw_core.proofs.choosing.rejection.Goals as goal

pub returns-then-number-gt0 : goal.returns-then-number-gt0
returns-then-number-gt0 g c = λ token choices here left. rejection_past c.args.model.now (g.V.View.decisions c.args.view.now) (g.V.View.state c.args.view.now) 0 c.args.place token here choices c.args.number (omega (arith, c.if-number-gt0.true)) left

pub returns-then-may_be_rejected : goal.returns-then-may_be_rejected
returns-then-may_be_rejected g c = λ token choices here left.
    rejection_first c.args.model.now (g.V.View.decisions c.args.view.now) (g.V.View.state c.args.view.now) 0 c.args.place token here choices c.args.number (omega (arith, c.if-number-gt0.false)) (rejection_told (IsRejectable c.args.model.now) (g.V.View.state c.args.view.now) c.args.place c.in-Some.token.now token c.in-Some.ensures here c.if-may_be_rejected.ensures) left

pub returns-else-may_be_rejected : goal.returns-else-may_be_rejected
returns-else-may_be_rejected g c = λ token choices here left.
    rejection_none c.args.model.now (g.V.View.decisions c.args.view.now) (g.V.View.state c.args.view.now) 0 c.args.place token here choices c.args.number (rejection_told (λ t. IsRejectable c.args.model.now t → ⊥) (g.V.View.state c.args.view.now) c.args.place c.in-Some.token.now token c.in-Some.ensures here c.if-may_be_rejected.ensures) left

pub returns-in-None : goal.returns-in-None
returns-in-None g c = λ token choices here left. absurd (absent (g.V.View.state c.args.view.now) c.args.place token c.in-None.ensures here)
