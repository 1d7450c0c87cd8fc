-- What a settled list gives variables are values.
use Rattle.std.proofs.Common.{◌⊎◌, inl, inr, ℤ, pos, negsuc, List, [], ◌∷◌, ◌++◌, sym, subst, arith}
use Rattle.std.proofs.lemmas.Bool.{cases_lt}
use Rattle.std.proofs.lemmas.Int.{ints}
use Rattle.std.proofs.lemmas.List.Elements.{Contains-push_cases}
use Rattle.domain_core.specs.Domain.{IsValue}
use Rattle.domain_core.proofs.Words.{has_value}
use Rattle.eu_name.specs.declared.name.VarName.{VarName}
use Rattle.model_core.specs.declared.decision.Decision.{Decision}
use Rattle.model_core.specs.declared.decision.Decision.TheVariants.{Specify}
use Rattle.model_core.specs.declared.model.Model.{Model}
use Rattle.model_core.specs.Lawful.{IsLawful}
use Rattle.plan_defs.specs.Refusals.{IsDeclared, IsAdmissible}
use Rattle.model_core.specs.declared.refusal.Refusal.TheVariants.{NotInDomain}
use Rattle.plan_defs.specs.Settling.{SettlesAfter, IsSettled}
use Rattle.eu_name.proofs.Ordered.{contains_none}
use Rattle.model_core.proofs.Lawful.{base_lawful}
use Rattle.db_edges.specs.Adding.{AreValues}

value_or : (value : ℤ) → IsValue value ⊎ (IsValue value → ⊥)
value_or (pos n) = elim (cases_lt 1000000 n) [
  | inl long ↦ inr (λ is. omega (arith, ints, long, is.1))
  | inr few ↦ inl (omega (arith, ints, few), omega (arith, ints, few))
]
value_or (negsuc n) = elim (cases_lt n 1000000) [
  | inl few ↦ inl (omega (arith, ints, few), omega (arith, ints, few))
  | inr long ↦ inr (λ is. omega (arith, ints, long, is.0))
]

module _ (model : Model) (lawful : IsLawful model) where
  declared_value : (name : VarName) (value : ℤ) → IsDeclared model name value → IsValue value
  declared_value name value (base, has_base, has) = has_value base value (base_lawful model lawful name base has_base) has

  admissible_value : (decisions : List Decision) (name : VarName) (value : ℤ) → IsAdmissible model decisions (Specify name value) → IsValue value
  admissible_value decisions name value admissible = elim (value_or value) [
    | inl is ↦ is
    | inr none ↦ absurd (admissible.free NotInDomain (λ declared. none (declared_value name value declared)))
  ]

  values_after : (kept decisions settled : List Decision) → SettlesAfter model kept decisions settled → AreValues kept → AreValues settled
  values_after kept [] settled same are = subst AreValues (sym same) are
  values_after kept (decision ∷ decisions) settled (inl stays) are =
      values_after (kept ++ decision ∷ []) decisions settled stays.1
      (λ name value there. elim (Contains-push_cases kept decision (Specify name value) there) [
        | inl earlier ↦ are name value earlier
        | inr same ↦ admissible_value kept name value (subst (IsAdmissible model kept) same stays.0)
      ])
  values_after kept (decision ∷ decisions) settled (inr goes) are = values_after kept decisions settled goes.1 are

  -- each decision of a settled list that gives a variable a value gives it one
  pub settled_values : (decisions : List Decision) → IsSettled model decisions → AreValues decisions
  settled_values decisions settled = values_after [] decisions decisions settled (λ name value there. absurd (contains_none (Specify name value) there))
