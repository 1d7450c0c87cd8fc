use Rattle.std.proofs.Common.{ap, refl}
use Rattle.eu_name.specs.declared.name.VarName.TheVariants as variables
use Rattle.plan_values.specs.Keys.{key_token}
use Rattle.plan_values.specs.Meanings.{argument_of}
use Rattle.plan_values.proofs.Counting.{owner_counts}
use Rattle.plan_values.proofs.terms.Meaning.counts.Goals as goal

pub returns-in-Part : goal.returns-in-Part
returns-in-Part c =
    let owner = key_token c.in-Part.token in
    owner_counts c.args.model.now c.args.plan.now c.args.self (variables.Token owner c.in-Part.field-1) owner c.token_counts.result (ap argument_of c.in-Part.is)
    (λ token same. same) refl c.token_counts.ensures

pub returns-in-Local : goal.returns-in-Local
returns-in-Local c =
    let owner = key_token c.in-Local.token in
    owner_counts c.args.model.now c.args.plan.now c.args.self (variables.Local owner c.in-Local.rule c.in-Local.number) owner c.token_counts-in-Local.result (ap argument_of c.in-Local.is)
    (λ token same. same) refl c.token_counts-in-Local.ensures
