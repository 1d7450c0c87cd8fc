-- What is said of a plan.
use Rattle.model_core.specs.declared.model.Model.{Model}
use Rattle.plan_defs.specs.declared.plan.Plan.{Plan}
use Rattle.plan_defs.specs.Broken.{IsFirstBroken}
use Rattle.plan_defs.specs.Valid.{IsValid}
use Rattle.plan_check.specs.declared.verdict.Verdict.{Verdict}
use Rattle.plan_check.specs.declared.verdict.Verdict.TheVariants.{Valid, Invalid}

-- the plan is valid, or the clause is the first that it breaks, and the place the one with the least names where it does
abbrev pub IsVerdict : Model → Plan → Verdict → Type 0
IsVerdict model plan Valid = IsValid model plan
IsVerdict model plan (Invalid clause place) = IsFirstBroken model plan clause place
