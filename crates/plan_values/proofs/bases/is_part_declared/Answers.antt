use Rattle.std.proofs.Common.{◌≡◌, sym, subst, w32, to_z, of_z, arith}
use Rattle.std.specs.Prelude.{MatchBool}
use Rattle.std.proofs.lemmas.Int.{ints}
use Rattle.eu_name.specs.declared.name.Part.{Part}
use Rattle.eu_name.specs.declared.name.VarName.TheVariants as variables
use Rattle.plan_defs.specs.Refusals.{IsDeclared}
use Rattle.plan_values.proofs.Declaring.{start_answer, end_answer, duration_answer, part_object_answer, param_answer}
use Rattle.plan_values.proofs.bases.is_part_declared.Goals as goal

pub returns-in-Start : goal.returns-in-Start
returns-in-Start c =
    let cast : to_z w32 (of_z w32 c.args.value) ≡ c.args.value = omega (arith, ints) in
    subst (λ (p : Part). MatchBool c.is_time.result (IsDeclared c.args.model.now (variables.Token c.args.token.now p) c.args.value) (IsDeclared c.args.model.now (variables.Token c.args.token.now p) c.args.value → ⊥))
    (sym c.in-Start.is)
    (start_answer c.args.model.now c.args.token.now c.args.pred c.requires c.args.value (to_z w32 (of_z w32 c.args.value)) cast c.is_time.result c.is_time.ensures)

pub returns-in-End : goal.returns-in-End
returns-in-End c =
    let cast : to_z w32 (of_z w32 c.args.value) ≡ c.args.value = omega (arith, ints) in
    subst (λ (p : Part). MatchBool c.is_time-in-End.result (IsDeclared c.args.model.now (variables.Token c.args.token.now p) c.args.value) (IsDeclared c.args.model.now (variables.Token c.args.token.now p) c.args.value → ⊥))
    (sym c.in-End.is)
    (end_answer c.args.model.now c.args.token.now c.args.pred c.requires c.args.value (to_z w32 (of_z w32 c.args.value)) cast c.is_time-in-End.result c.is_time-in-End.ensures)

pub returns-in-Duration : goal.returns-in-Duration
returns-in-Duration c =
    let cast : to_z w32 (of_z w32 c.args.value) ≡ c.args.value = omega (arith, ints) in
    subst (λ (p : Part). MatchBool c.is_duration.result (IsDeclared c.args.model.now (variables.Token c.args.token.now p) c.args.value) (IsDeclared c.args.model.now (variables.Token c.args.token.now p) c.args.value → ⊥))
    (sym c.in-Duration.is)
    (duration_answer c.args.model.now c.args.token.now c.args.pred c.requires c.args.value (to_z w32 (of_z w32 c.args.value)) cast c.is_duration.result c.is_duration.ensures)

pub returns-in-Object : goal.returns-in-Object
returns-in-Object c =
    let cast : to_z w32 (of_z w32 c.args.value) ≡ c.args.value = omega (arith, ints) in
    subst (λ (p : Part). MatchBool c.may_be_object.result (IsDeclared c.args.model.now (variables.Token c.args.token.now p) c.args.value) (IsDeclared c.args.model.now (variables.Token c.args.token.now p) c.args.value → ⊥))
    (sym c.in-Object.is)
    (part_object_answer c.args.model.now c.args.token.now c.args.pred c.requires c.args.value (to_z w32 (of_z w32 c.args.value)) cast c.may_be_object.result c.may_be_object.ensures)

pub returns-in-Param : goal.returns-in-Param
returns-in-Param c =
    let cast : to_z w32 (of_z w32 c.args.value) ≡ c.args.value = omega (arith, ints) in
    subst (λ (p : Part). MatchBool c.may_be_parameter.result (IsDeclared c.args.model.now (variables.Token c.args.token.now p) c.args.value) (IsDeclared c.args.model.now (variables.Token c.args.token.now p) c.args.value → ⊥))
    (sym c.in-Param.is)
    (param_answer c.args.model.now c.args.token.now c.args.pred c.requires c.args.value (to_z w32 (of_z w32 c.args.value)) cast c.in-Param.number c.may_be_parameter.result c.may_be_parameter.ensures)
