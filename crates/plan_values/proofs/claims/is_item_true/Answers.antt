use Rattle.std.proofs.Common.{sym, ap, subst}
use Rattle.std.specs.Prelude.{MatchBool}
use Rattle.model_core.specs.declared.item.Item.{Item}
use Rattle.plan_defs.specs.Terms.{Context, InRule}
use Rattle.plan_values.specs.Meanings.{context_of}
use Rattle.plan_values.specs.Truths.{IsTrueWhere}
use Rattle.plan_values.proofs.claims.is_item_true.Goals as goal

pub returns-in-Rule : goal.returns-in-Rule
returns-in-Rule c =
    subst (λ (x : Context). MatchBool c.is_relation_true.result (IsTrueWhere c.args.model.now c.args.plan.now x c.args.item.now) (IsTrueWhere c.args.model.now c.args.plan.now x c.args.item.now → ⊥))
    (sym (ap context_of c.in-Rule.is))
    (subst (λ (i : Item). MatchBool c.is_relation_true.result (IsTrueWhere c.args.model.now c.args.plan.now (InRule c.in-Rule.token.now c.in-Rule.rule) i) (IsTrueWhere c.args.model.now c.args.plan.now (InRule c.in-Rule.token.now c.in-Rule.rule) i → ⊥))
    (sym c.in-Relation.is) c.is_relation_true.ensures)
