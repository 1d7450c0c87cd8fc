use Rattle.std.proofs.Common.{List, sym, subst}
use Rattle.std.specs.Prelude.{MatchBool}
use Rattle.model_core.specs.declared.item.Term.{Term}
use Rattle.plan_values.specs.Meanings.{context_of}
use Rattle.plan_values.specs.Truths.{AreTrueOf}
use Rattle.plan_values.proofs.Valuing.{few_false, many_false, three_items}
use Rattle.plan_values.proofs.claims.are_true.Goals as goal

pub returns-in-len3 : goal.returns-in-len3
returns-in-len3 c =
    subst (λ (xs : List Term). MatchBool c.are_true_of_three.result (AreTrueOf c.args.model.now c.args.plan.now (context_of c.args.at) c.args.kind xs) (AreTrueOf c.args.model.now c.args.plan.now (context_of c.args.at) c.args.kind xs → ⊥))
    (sym (three_items c.args.terms.now _ _ _ c.in-len3.len_at_least c.in-len3.len_below)) c.are_true_of_three.ensures

pub returns-in_default : goal.returns-in_default
returns-in_default c = few_false c.args.plan.now c.requires c.args.model.now (context_of c.args.at) c.args.kind c.args.terms.now c.in_default.len_below

pub returns-in_default-2 : goal.returns-in_default-2
returns-in_default-2 c = many_false c.args.plan.now c.requires c.args.model.now (context_of c.args.at) c.args.kind c.args.terms.now c.in_default.len_at_least
