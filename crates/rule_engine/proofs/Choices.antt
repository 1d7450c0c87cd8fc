-- What is open where two domains have a common value.
use Rattle.std.proofs.Common.{refl, sym}
use Rattle.std.specs.Prelude.{ℤ}
use Rattle.domain_core.specs.Domain.{Domain, HaveCommon, IsSingle}
use Rattle.model_core.specs.declared.rule.Guard.{Guard}
use Rattle.model_core.specs.declared.rule.Guard.TheVariants.{Equal, Differ}
use Rattle.model_core.specs.declared.rule.Side.{Side}
use Rattle.model_core.specs.declared.rule.Side.TheVariants.{Then, Otherwise}
use Rattle.rule_engine.specs.Guards.{AlwaysSelects}

module _ (one other : Domain) where
  -- two domains with a common value, one of which isn't single, leave it open
  pub open_by_first : HaveCommon one other → ((value : ℤ) → IsSingle one value → ⊥) → (guard : Guard) (side : Side) → AlwaysSelects guard side one other → ⊥
  open_by_first common many (Equal left right) Then always =
      many common.0 (record { has = common.1; only = λ v has. always v common.0 has common.2 })
  open_by_first common many (Equal left right) Otherwise always = always common.0 common.0 common.1 common.2 refl
  open_by_first common many (Differ left right) Then always = always common.0 common.0 common.1 common.2 refl
  open_by_first common many (Differ left right) Otherwise always =
      many common.0 (record { has = common.1; only = λ v has. always v common.0 has common.2 })

  pub open_by_second : HaveCommon one other → ((value : ℤ) → IsSingle other value → ⊥) → (guard : Guard) (side : Side) → AlwaysSelects guard side one other → ⊥
  open_by_second common many (Equal left right) Then always =
      many common.0 (record { has = common.2; only = λ w has. sym (always common.0 w common.1 has) })
  open_by_second common many (Equal left right) Otherwise always = always common.0 common.0 common.1 common.2 refl
  open_by_second common many (Differ left right) Then always = always common.0 common.0 common.1 common.2 refl
  open_by_second common many (Differ left right) Otherwise always =
      many common.0 (record { has = common.2; only = λ w has. sym (always common.0 w common.1 has) })
