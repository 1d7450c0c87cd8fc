use Rattle.std.proofs.Common.{[], ◌∷◌, refl}
use Rattle.eu_name.specs.declared.name.Part.TheVariants.{Start, End, Duration}
use Rattle.model_core.specs.declared.item.Term.TheVariants.{Here}
use Rattle.plan_defs.specs.Claims.{lasts}
use Rattle.plan_defs.specs.Terms.{InRule}
use Rattle.plan_values.proofs.Matching.{match_bool}
use Rattle.plan_values.proofs.Saying.{claim_true, true_claim}
use Rattle.plan_inventory.proofs.tokens.lasts_as_said.Goals as goal

pub returns : goal.returns
returns c =
    let token = c.args.token.now in
    let terms = Here Start ∷ Here Duration ∷ Here End ∷ [] in
    match_bool c.are_true.result _ _ _ _
    (claim_true c.args.model.now c.args.plan.now (InRule token 0) (lasts token) terms (refl, (refl, (refl, tt))))
    (λ fails holds. fails (true_claim c.args.model.now c.args.plan.now (InRule token 0) (lasts token) terms (refl, (refl, (refl, tt))) holds)) c.are_true.ensures
