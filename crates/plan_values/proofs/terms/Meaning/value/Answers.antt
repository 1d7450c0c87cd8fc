use Rattle.std.proofs.Common.{ℤ, sym, subst}
use Rattle.std.specs.Prelude.{MatchOption}
use Rattle.plan_defs.specs.Valid.{HasArgumentValue}
use Rattle.plan_values.specs.declared.terms.Meaning.{Meaning}
use Rattle.plan_values.specs.Meanings.{argument_of}
use Rattle.plan_values.proofs.terms.Meaning.value.Goals as goal

pub returns-in-Part : goal.returns-in-Part
returns-in-Part c =
    subst (λ (m : Meaning). MatchOption c.part_value.result ((value : ℤ) → HasArgumentValue c.args.plan.now (argument_of m) value → ⊥) (λ value. HasArgumentValue c.args.plan.now (argument_of m) value))
    (sym c.in-Part.is) c.part_value.ensures

pub returns-in-Local : goal.returns-in-Local
returns-in-Local c =
    subst (λ (m : Meaning). MatchOption c.local_value.result ((value : ℤ) → HasArgumentValue c.args.plan.now (argument_of m) value → ⊥) (λ value. HasArgumentValue c.args.plan.now (argument_of m) value))
    (sym c.in-Local.is) c.local_value.ensures
