-- What can be told of a plan: which tokens take place, and what a variable is given.
use Rattle.std.proofs.Common.{◌≡◌, ℕ, inl, inr, ⊎_elim, ℤ, Bool, true, false, List, Option, Some, None, refl, sym, ap, ◌∙◌, subst}
use Rattle.std.specs.Prelude.{AllPairs, Contains, slice_get}
use Rattle.eu_name.specs.declared.name.Part.{Part}
use Rattle.eu_name.specs.declared.name.TokenName.{TokenName}
use Rattle.eu_name.specs.declared.name.VarName.{VarName}
use Rattle.eu_name.specs.declared.name.VarName.TheVariants as names
use Rattle.plan_defs.specs.declared.plan.Line as the_line
use Rattle.plan_defs.specs.declared.plan.Line.TheVariants as lines
use Rattle.plan_defs.specs.declared.plan.Plan.{Plan}
use Rattle.plan_defs.specs.Plans.{IsLineBefore, TakesPlaceWith, IsActivatedIn, IsMergedIn, IsTakenIn, HasPartValue, GivesValue, place_in_values}
use Rattle.plan_defs.proofs.Saying.{one_line, own_or_merged, one_target, one_own}
use Rattle.plan_defs.proofs.Knowing.{IsOrNot, same_token, same_name}
use Rattle.law_states.proofs.Listing.{any_or_not}

-- ---- tokens

-- the line says that the token takes place
abbrev OwnsLine : TokenName → the_line.Line → Type 0
OwnsLine token (lines.Token name fact values) = name ≡ token
OwnsLine token line = ⊥

abbrev MergesLine : TokenName → the_line.Line → Type 0
MergesLine token (lines.Merged name target) = name ≡ token
MergesLine token line = ⊥

owns : (token : TokenName) (line : the_line.Line) → IsOrNot (OwnsLine token line)
owns token (lines.Token name fact values) = same_token name token
owns token (lines.Merged name target) = inr (λ is. is)
owns token (lines.Rejected name) = inr (λ is. is)
owns token (lines.Local name value) = inr (λ is. is)

merges : (token : TokenName) (line : the_line.Line) → IsOrNot (MergesLine token line)
merges token (lines.Token name fact values) = inr (λ is. is)
merges token (lines.Merged name target) = same_token name token
merges token (lines.Rejected name) = inr (λ is. is)
merges token (lines.Local name value) = inr (λ is. is)

abbrev RejectsLine : TokenName → the_line.Line → Type 0
RejectsLine token (lines.Rejected name) = name ≡ token
RejectsLine token line = ⊥

rejects : (token : TokenName) (line : the_line.Line) → IsOrNot (RejectsLine token line)
rejects token (lines.Token name fact values) = inr (λ is. is)
rejects token (lines.Merged name target) = inr (λ is. is)
rejects token (lines.Rejected name) = same_token name token
rejects token (lines.Local name value) = inr (λ is. is)

abbrev LocalLine : VarName → the_line.Line → Type 0
LocalLine local (lines.Local name value) = name ≡ local
LocalLine local line = ⊥

local_line : (local : VarName) (line : the_line.Line) → IsOrNot (LocalLine local line)
local_line local (lines.Token name fact values) = inr (λ is. is)
local_line local (lines.Merged name target) = inr (λ is. is)
local_line local (lines.Rejected name) = inr (λ is. is)
local_line local (lines.Local name value) = same_name name local

module _ (plan : Plan) where
  pub own_or_not : (token : TokenName) → IsOrNot ((values : List ℤ) × TakesPlaceWith plan token values)
  own_or_not token = elim (any_or_not (OwnsLine token) (owns token) plan.lines) [
    | inl found ↦ inl (by_line found.0 found.1.0 found.1.1)
    | inr none ↦ inr (λ takes. none (lines.Token token takes.1.0 takes.0, (takes.1.1, refl)))
  ]
    where
      by_line : (line : the_line.Line) → Contains plan.lines line → OwnsLine token line → (values : List ℤ) × TakesPlaceWith plan token values
      by_line (lines.Token name fact values) there is = (values, (fact, subst (λ (t : TokenName). Contains plan.lines (lines.Token t fact values)) is there))
      by_line (lines.Merged name target) there is = absurd is
      by_line (lines.Rejected name) there is = absurd is
      by_line (lines.Local name value) there is = absurd is

  pub merged_or_not : (token : TokenName) → IsOrNot (IsMergedIn plan token)
  merged_or_not token = elim (any_or_not (MergesLine token) (merges token) plan.lines) [
    | inl found ↦ inl (by_line found.0 found.1.0 found.1.1)
    | inr none ↦ inr (λ merged. none (lines.Merged token merged.0, (merged.1, refl)))
  ]
    where
      by_line : (line : the_line.Line) → Contains plan.lines line → MergesLine token line → IsMergedIn plan token
      by_line (lines.Token name fact values) there is = absurd is
      by_line (lines.Merged name target) there is = (target, subst (λ (t : TokenName). Contains plan.lines (lines.Merged t target)) is there)
      by_line (lines.Rejected name) there is = absurd is
      by_line (lines.Local name value) there is = absurd is

  pub rejected_or_not : (token : TokenName) → IsOrNot (Contains plan.lines (lines.Rejected token))
  rejected_or_not token = elim (any_or_not (RejectsLine token) (rejects token) plan.lines) [
    | inl found ↦ inl (by_line found.0 found.1.0 found.1.1)
    | inr none ↦ inr (λ rejected. none (lines.Rejected token, (rejected, refl)))
  ]
    where
      by_line : (line : the_line.Line) → Contains plan.lines line → RejectsLine token line → Contains plan.lines (lines.Rejected token)
      by_line (lines.Token name fact values) there is = absurd is
      by_line (lines.Merged name target) there is = absurd is
      by_line (lines.Rejected name) there is = subst (λ (t : TokenName). Contains plan.lines (lines.Rejected t)) is there
      by_line (lines.Local name value) there is = absurd is

module _ (plan : Plan) (order : AllPairs IsLineBefore plan.lines) where
  pub activated_or_not : (token : TokenName) → IsOrNot (IsActivatedIn plan token)
  activated_or_not token = elim (own_or_not plan token) [
    | inl takes ↦ by_fact takes.0 takes.1.0 takes.1.1
    | inr none ↦ inr (λ activated. none (activated.0, (false, activated.1)))
  ]
    where
      by_fact : (values : List ℤ) (fact : Bool) → Contains plan.lines (lines.Token token fact values) → IsOrNot (IsActivatedIn plan token)
      by_fact values false there = inl (values, there)
      by_fact values true there = inr (λ activated.
          let same = one_line plan order (lines.Token token true values) (lines.Token token false activated.0) there activated.1 refl in
          absurd (cc))

  pub taken_or_not : (token : TokenName) → IsOrNot (IsTakenIn plan token)
  taken_or_not token = elim (activated_or_not token) [
    | inl activated ↦ inl (inl activated)
    | inr not ↦ elim (merged_or_not plan token) [
      | inl merged ↦ inl (inr merged)
      | inr none ↦ inr (λ taken. ⊎_elim not none taken)
    ]
  ]

  -- ---- values

  some_same : {X : Type 0} (x y : X) → Some x ≡ Some y → x ≡ y
  some_same x y same = cc

  -- a variable has one value
  pub value_once : (name : VarName) (v w : ℤ) → GivesValue plan name v → GivesValue plan name w → v ≡ w
  value_once (names.Global number) v w p q = some_same v w (sym p ∙ q)
  value_once (names.Token token part) v w (inl p) (inl q) =
      let same = one_own plan order token p.0 q.0 p.1 q.1 in
      some_same v w (sym p.2 ∙ ap (λ (l : List ℤ). slice_get l (place_in_values part)) same ∙ q.2)
  value_once (names.Token token part) v w (inl p) (inr q) = absurd (own_or_merged plan order token q.0 p.0 p.1 q.1)
  value_once (names.Token token part) v w (inr p) (inl q) = absurd (own_or_merged plan order token p.0 q.0 q.1 p.1)
  value_once (names.Token token part) v w (inr p) (inr q) =
      let target = one_target plan order token p.0 q.0 p.1 q.1 in
      let its = subst (λ (t : TokenName). HasPartValue plan t part v) target p.2 in
      let same = one_own plan order q.0 its.0 q.2.0 its.1 q.2.1 in
      some_same v w (sym its.2 ∙ ap (λ (l : List ℤ). slice_get l (place_in_values part)) same ∙ q.2.2)
  value_once (names.Local token rule number) v w p q =
      let same = one_line plan order (lines.Local (names.Local token rule number) v) (lines.Local (names.Local token rule number) w) p q refl in
      local_same _ v w same
    where
      local_same : (name : VarName) (v w : ℤ) → lines.Local name v ≡ lines.Local name w → v ≡ w
      local_same name v w same = cc

  in_list : (values : List ℤ) (place : ℕ) → IsOrNot ((value : ℤ) × (slice_get values place ≡ Some value))
  in_list values place = by_found (slice_get values place) refl
    where
      by_found : (found : Option ℤ) → slice_get values place ≡ found → IsOrNot ((value : ℤ) × (slice_get values place ≡ Some value))
      by_found (Some value) e = inl (value, e)
      by_found None e = inr (λ some. no_value some.0 (sym e ∙ some.1))
        where
          no_value : (value : ℤ) → None ≡ Some value → ⊥
          no_value value same = cc

  part_or_not : (token : TokenName) (part : Part) → IsOrNot ((value : ℤ) × HasPartValue plan token part value)
  part_or_not token part = elim (own_or_not plan token) [
    | inr none ↦ inr (λ has. none (has.1.0, has.1.1))
    | inl takes ↦ elim (in_list takes.0 (place_in_values part)) [
      | inl found ↦ inl (found.0, (takes.0, takes.1, found.1))
      | inr none ↦ inr (λ has.
          let same = one_own plan order token has.1.0 takes.0 has.1.1 takes.1 in
          none (has.0, ap (λ (l : List ℤ). slice_get l (place_in_values part)) (sym same) ∙ has.1.2))
    ]
  ]

  pub value_or_not : (name : VarName) → IsOrNot ((value : ℤ) × GivesValue plan name value)
  value_or_not (names.Global number) = in_list plan.globals number
  value_or_not (names.Token token part) = elim (part_or_not token part) [
    | inl own ↦ inl (own.0, inl own.1)
    | inr none ↦ elim (merged_or_not plan token) [
      | inr not ↦ inr (λ given. by_giving (λ merged. absurd (not merged)) none given.0 given.1)
      | inl merged ↦ elim (part_or_not merged.0 part) [
        | inl its ↦ inl (its.0, inr (merged.0, merged.1, its.1))
        | inr nothing ↦ inr (λ given. by_giving
            (λ other. λ value has. nothing (value, subst (λ (t : TokenName). HasPartValue plan t part value) (one_target plan order token other.0 merged.0 other.1 merged.1) has))
            none given.0 given.1)
      ]
    ]
  ]
    where
      by_giving : ((merged : IsMergedIn plan token) (value : ℤ) → HasPartValue plan merged.0 part value → ⊥) → (((value : ℤ) × HasPartValue plan token part value) → ⊥)
          → (value : ℤ) → GivesValue plan (names.Token token part) value → ⊥
      by_giving not none value (inl own) = none (value, own)
      by_giving not none value (inr its) = not (its.0, its.1) value its.2
  value_or_not (names.Local token rule number) = elim (any_or_not (LocalLine (names.Local token rule number)) (local_line (names.Local token rule number)) plan.lines) [
    | inl found ↦ inl (by_line found.0 found.1.0 found.1.1)
    | inr none ↦ inr (λ given. none (lines.Local (names.Local token rule number) given.0, (given.1, refl)))
  ]
    where
      by_line : (line : the_line.Line) → Contains plan.lines line → LocalLine (names.Local token rule number) line → (value : ℤ) × GivesValue plan (names.Local token rule number) value
      by_line (lines.Token name fact values) there is = absurd is
      by_line (lines.Merged name target) there is = absurd is
      by_line (lines.Rejected name) there is = absurd is
      by_line (lines.Local name value) there is = (value, subst (λ (n : VarName). Contains plan.lines (lines.Local n value)) is there)
