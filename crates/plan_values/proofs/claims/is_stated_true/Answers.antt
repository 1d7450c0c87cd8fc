use Rattle.std.proofs.Common.{Option, sym, subst}
use Rattle.std.specs.Prelude.{MatchBool}
use Rattle.model_core.specs.Tokens.{slot_token}
use Rattle.plan_defs.specs.Terms.{InRule}
use Rattle.plan_values.specs.declared.claims.Statement.{Statement}
use Rattle.plan_values.specs.Truths.{IsStatedTrue}
use Rattle.plan_values.proofs.Saying.{statement_answer}
use Rattle.plan_values.proofs.claims.is_stated_true.Goals as goal

pub returns-in-Some : goal.returns-in-Some
returns-in-Some c =
    let token = c.args.token.now in
    let asked = slot_token token c.args.rule c.args.slot in
    subst (λ (s : Option Statement). MatchBool c.are_true_of_two.result (IsStatedTrue c.args.model.now c.args.plan.now token asked s) (IsStatedTrue c.args.model.now c.args.plan.now token asked s → ⊥))
    (sym c.in-Some.is)
    (statement_answer c.args.model.now c.args.plan.now token asked (InRule token c.args.rule) c.in-Some.statement c.term_for-one.result c.term_for-other.result c.are_true_of_two.result
    (c.term_for-one.ensures token c.args.rule) (c.term_for-other.ensures token c.args.rule) c.are_true_of_two.ensures)
