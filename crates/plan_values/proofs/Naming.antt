-- What the line of a name says that the plan says of it.
use Rattle.std.proofs.Common.{◌≡◌, ℤ, Bool, false, List, Option, Some, None, Bor, inl, inr, refl, sym, ap, ◌∙◌, subst}
use Rattle.std.specs.Prelude.{Contains, slice_get, MatchOption}
use Rattle.eu_name.specs.declared.name.Part.{Part}
use Rattle.eu_name.specs.declared.name.Part.TheVariants.{Start}
use Rattle.eu_name.specs.declared.name.TokenName.{TokenName}
use Rattle.eu_name.specs.declared.name.VarName.{VarName}
use Rattle.eu_name.specs.declared.name.VarName.TheVariants as variables
use Rattle.plan_defs.specs.declared.plan.Line.{Line}
use Rattle.plan_defs.specs.declared.plan.Line.TheVariants as lines
use Rattle.plan_defs.specs.declared.plan.Plan.{Plan}
use Rattle.plan_defs.specs.Plans.{order_name, TakesPlaceWith, IsActivatedIn, GivesValue, place_in_values}
use Rattle.plan_defs.proofs.Saying.{one_line, own_or_merged, one_target, one_own}
use Rattle.plan_values.specs.Keys.{IsOrderly}
use Rattle.plan_values.specs.Values.{IsLineFor, HasValues}
use Rattle.plan_values.proofs.Matching.{match_option}

-- the name of a token's line
abbrev pub of_token : TokenName → VarName
of_token token = variables.Token token Start

-- ---- where a token has no line

module _ (plan : Plan) (token : TokenName) (none : (line : Line) → IsLineFor plan (of_token token) line → ⊥) where
  pub not_own : (values : List ℤ) → TakesPlaceWith plan token values → ⊥
  not_own values takes = none (lines.Token token takes.0 values) (takes.1, refl)

  pub not_merged : (target : TokenName) → Contains plan.lines (lines.Merged token target) → ⊥
  not_merged target merged = none (lines.Merged token target) (merged, refl)

  pub not_activated : IsActivatedIn plan token → ⊥
  not_activated activated = not_own activated.0 (false, activated.1)

-- ---- where it has this one

module _ (plan : Plan) (ok : IsOrderly plan) (token : TokenName) (line : Line) (is : IsLineFor plan (of_token token) line) where
  same_line : (other : Line) → Contains plan.lines other → order_name other ≡ of_token token → line ≡ other
  same_line other there named = one_line plan ok.order line other is.0 there (is.1 ∙ sym named)

  -- if it says that the token takes place
  own_there : (name : TokenName) (fact : Bool) (values : List ℤ) → line ≡ lines.Token name fact values → Contains plan.lines (lines.Token token fact values)
  own_there name fact values says =
      let named : of_token name ≡ of_token token = ap order_name (sym says) ∙ is.1 in
      let same : name ≡ token = cc in
      subst (λ (n : TokenName). Contains plan.lines (lines.Token n fact values)) same (subst (Contains plan.lines) says is.0)

  pub is_own : (values : List ℤ) → (name : TokenName) × ((fact : Bool) × (line ≡ lines.Token name fact values)) → TakesPlaceWith plan token values
  is_own values (name, (fact, says)) = (fact, own_there name fact values says)

  pub isnt_own : ((name : TokenName) (fact : Bool) (values : List ℤ) → line ≡ lines.Token name fact values → ⊥) → (values : List ℤ) → TakesPlaceWith plan token values → ⊥
  isnt_own other values takes = other token takes.0 values (same_line (lines.Token token takes.0 values) takes.1 refl)

  -- and not as a fact
  pub is_active : (name : TokenName) × ((values : List ℤ) × (line ≡ lines.Token name false values)) → IsActivatedIn plan token
  is_active (name, (values, says)) = (values, own_there name false values says)

  pub isnt_active : ((name : TokenName) (values : List ℤ) → line ≡ lines.Token name false values → ⊥) → IsActivatedIn plan token → ⊥
  isnt_active other activated = other token activated.0 (same_line (lines.Token token false activated.0) activated.1 refl)

  -- if it says that the token is another one
  pub is_merged : (target : TokenName) → (name : TokenName) × (line ≡ lines.Merged name target) → Contains plan.lines (lines.Merged token target)
  is_merged target (name, says) =
      let named : of_token name ≡ of_token token = ap order_name (sym says) ∙ is.1 in
      let same : name ≡ token = cc in
      subst (λ (n : TokenName). Contains plan.lines (lines.Merged n target)) same (subst (Contains plan.lines) says is.0)

  pub isnt_merged : ((name target : TokenName) → line ≡ lines.Merged name target → ⊥) → (target : TokenName) → Contains plan.lines (lines.Merged token target) → ⊥
  isnt_merged other target merged = other token target (same_line (lines.Merged token target) merged refl)

-- ---- the values of a token

module _ (plan : Plan) (ok : IsOrderly plan) (token : TokenName) where
  pub values_merged : (target : TokenName) (values : List ℤ) → Contains plan.lines (lines.Merged token target) → HasValues plan token values → TakesPlaceWith plan target values
  values_merged target values merged (inl takes) = absurd (own_or_merged plan ok.order token target values takes merged)
  values_merged target values merged (inr other) =
      subst (λ (n : TokenName). TakesPlaceWith plan n values) (one_target plan ok.order token other.0 target other.1 merged) other.2

  pub values_found : (target named : TokenName) (found : Option (Bor (List ℤ))) → named ≡ target → Contains plan.lines (lines.Merged token target)
      → MatchOption found ((values : List ℤ) → TakesPlaceWith plan named values → ⊥) (λ values. TakesPlaceWith plan named values.now)
      → MatchOption found ((values : List ℤ) → HasValues plan token values → ⊥) (λ values. HasValues plan token values.now)
  values_found target named found same merged is = match_option found _ _ _ _
      (λ none values has. none values (subst (λ (n : TokenName). TakesPlaceWith plan n values) (sym same) (values_merged target values merged has)))
      (λ values takes. inr (target, merged, subst (λ (n : TokenName). TakesPlaceWith plan n values.now) same takes)) is

  pub values_own : (values : List ℤ) → ((target : TokenName) → Contains plan.lines (lines.Merged token target) → ⊥) → HasValues plan token values → TakesPlaceWith plan token values
  values_own values none (inl takes) = takes
  values_own values none (inr other) = absurd (none other.0 other.1)

  pub values_once : (one other : List ℤ) → HasValues plan token one → HasValues plan token other → one ≡ other
  values_once one other (inl takes) (inl takes') = one_own plan ok.order token one other takes takes'
  values_once one other (inl takes) (inr merged) = absurd (own_or_merged plan ok.order token merged.0 one takes merged.1)
  values_once one other (inr merged) (inl takes) = absurd (own_or_merged plan ok.order token merged.0 other takes merged.1)
  values_once one other (inr merged) (inr merged') =
      one_own plan ok.order merged'.0 one other
      (subst (λ (n : TokenName). TakesPlaceWith plan n one) (one_target plan ok.order token merged.0 merged'.0 merged.1 merged'.1) merged.2) merged'.2

  pub gives_from : (part : Part) (values : List ℤ) (value : ℤ) → HasValues plan token values → slice_get values (place_in_values part) ≡ Some value → GivesValue plan (variables.Token token part) value
  gives_from part values value (inl takes) at = inl (values, takes, at)
  gives_from part values value (inr merged) at = inr (merged.0, merged.1, (values, merged.2, at))

  pub gives_into : (part : Part) (value : ℤ) → GivesValue plan (variables.Token token part) value
      → (values : List ℤ) × HasValues plan token values × (slice_get values (place_in_values part) ≡ Some value)
  gives_into part value (inl own) = (own.0, inl own.1, own.2)
  gives_into part value (inr merged) = (merged.2.0, inr (merged.0, merged.1, merged.2.1), merged.2.2)

  -- the value is that which stands among the token's values
  pub gives_there : (part : Part) (values : List ℤ) (value : ℤ) → HasValues plan token values → GivesValue plan (variables.Token token part) value
      → slice_get values (place_in_values part) ≡ Some value
  gives_there part values value has gives =
      let found = gives_into part value gives in
      subst (λ (xs : List ℤ). slice_get xs (place_in_values part) ≡ Some value) (values_once found.0 values found.1 has) found.2

  pub part_found : (part : Part) (values : List ℤ) (found : Option ℤ) → HasValues plan token values → found ≡ slice_get values (place_in_values part)
      → MatchOption found ((value : ℤ) → GivesValue plan (variables.Token token part) value → ⊥) (λ value. GivesValue plan (variables.Token token part) value)
  part_found part values None has is = λ value gives. (let there = is ∙ gives_there part values value has gives in absurd (cc))
  part_found part values (Some value) has is = gives_from part values value has (sym is)

  pub no_part : (part : Part) → ((values : List ℤ) → HasValues plan token values → ⊥) → (value : ℤ) → GivesValue plan (variables.Token token part) value → ⊥
  no_part part none value gives = let found = gives_into part value gives in none found.0 found.1

-- ---- the value of a local

module _ (plan : Plan) (ok : IsOrderly plan) (name : VarName) where
  pub is_local : (line : Line) (value : ℤ) → IsLineFor plan name line → (own : VarName) × (line ≡ lines.Local own value) → Contains plan.lines (lines.Local name value)
  is_local line value is (own, says) =
      let same : own ≡ name = ap order_name (sym says) ∙ is.1 in
      subst (λ (n : VarName). Contains plan.lines (lines.Local n value)) same (subst (Contains plan.lines) says is.0)

  pub isnt_local : (line : Line) → IsLineFor plan name line → ((own : VarName) (value : ℤ) → line ≡ lines.Local own value → ⊥) → (value : ℤ) → Contains plan.lines (lines.Local name value) → ⊥
  isnt_local line is other value there = other name value (one_line plan ok.order line (lines.Local name value) is.0 there is.1)

  pub no_local : ((line : Line) → IsLineFor plan name line → ⊥) → (value : ℤ) → Contains plan.lines (lines.Local name value) → ⊥
  no_local none value there = none (lines.Local name value) (there, refl)
