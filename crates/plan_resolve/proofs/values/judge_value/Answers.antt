use Rattle.std.proofs.Common.{true≢false, sym, ◌∙◌, inr}
use Rattle.plan_resolve.proofs.values.judge_value.Goals as goal

pub returns-in-None : goal.returns-in-None
returns-in-None c = inr (c.is_value_word.ensures.0 c.if-is_value_word.true, c.in-None.ensures)

pub returns-in-None-2 : goal.returns-in-None-2
returns-in-None-2 c = inr (λ is. true≢false (sym (c.is_value_word.ensures.1 is) ∙ c.if-is_value_word.false))
