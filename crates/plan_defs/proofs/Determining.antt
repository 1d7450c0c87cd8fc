-- What has one value, and that what has several is a flaw.
use Rattle.std.proofs.Common.{◌≡◌, List, [], ◌∷◌, ◌++◌, ℤ, ◌+ℤ◌, ◌⊎◌, inl, inr, refl, sym, ◌∙◌, subst, arith}
use Rattle.std.specs.Prelude.{Contains}
use Rattle.std.specs.List.{AllZip}
use Rattle.std.proofs.lemmas.Int.{ints, by_lt_z}
use Rattle.domain_core.specs.Domain.{Domain, IsSingle, IsDomain, least, greatest}
use Rattle.domain_core.proofs.Words.{single_least, single_greatest, single_from_ends, tested_least, tested_greatest}
use Rattle.eu_name.specs.declared.name.Part.{Part}
use Rattle.eu_name.specs.declared.name.Part.TheVariants.{Start, End, Duration, Object, Param}
use Rattle.eu_name.specs.declared.name.TokenName.{TokenName}
use Rattle.eu_name.specs.declared.name.VarName.{VarName}
use Rattle.eu_name.specs.declared.name.VarName.TheVariants as variables
use Rattle.model_core.specs.declared.decision.Decision.{Decision}
use Rattle.domain_core.specs.declared.kind.Kind.TheVariants.{AddEq}
use Rattle.model_core.specs.declared.model.Model.{Model}
use Rattle.model_core.specs.declared.rule.Slot.{Slot}
use Rattle.model_core.specs.declared.variable.Base.{Base}
use Rattle.model_core.specs.declared.variable.Base.TheVariants.{Given}
use Rattle.domain_core.specs.Consistency.{Ends, Admits, AreConsistent}
use Rattle.domain_core.specs.Constraints.{HoldsOf}
use Rattle.model_core.specs.Decided.{IsRejected}
use Rattle.model_core.specs.State.{State, Gives, IsState, AreInOrder}
use Rattle.model_core.specs.Tokens.{HasToken}
use Rattle.model_core.specs.Variables.{HasPartBase}
use Rattle.plan_defs.specs.Claims.{lasts}
use Rattle.plan_defs.specs.Closure.{IsPropagatedState}
use Rattle.plan_defs.specs.Terms.{HasDomain}
use Rattle.plan_defs.proofs.States.{gives_same, gives_domain}
use Rattle.plan_defs.specs.Flaws.{Flaw, Undetermined, Untimed, IsFlaw, IsOfRejectedToken, IsUnbound}
use Rattle.plan_defs.specs.StatePlans.{GivesOnly}
use Rattle.plan_defs.specs.Surveying.{IsUnorderedFlaw}

pub same_number : (a b : ℤ) → (a ≡ b) ⊎ (a ≡ b → ⊥)
same_number a b =
    by_lt_z a b (λ less. inr (λ e. omega (arith, ints, less, e)))
    (λ not_less. by_lt_z b a (λ less. inr (λ e. omega (arith, ints, less, e))) (λ other. inl (omega (arith, ints, not_less, other))))

-- a domain has one value, or it has several
pub single_or_not : (domain : Domain) → IsDomain domain → ((value : ℤ) × IsSingle domain value) ⊎ ((value : ℤ) → IsSingle domain value → ⊥)
single_or_not domain ok = elim (same_number (least domain) (greatest domain)) [
  | inl same ↦ inl (least domain, single_from_ends domain ok same)
  | inr not ↦ inr (λ value single. not (single_least domain value ok single ∙ sym (single_greatest domain value ok single)))
]

pub one_value : (domain : Domain) (one other : ℤ) → IsSingle domain one → IsSingle domain other → one ≡ other
one_value domain one other p q = q.only one p.has

-- a state gives a variable one value at most
pub value_once : (state : State) → AreInOrder state → (name : VarName) (one other : ℤ) → GivesOnly state name one → GivesOnly state name other → one ≡ other
value_once state order name one other p q =
    let same = gives_same state order name q.0 p.0 q.1 p.1 in
    one_value p.0 one other p.2 (subst (λ d. IsSingle d other) same q.2)

-- ---- what a token lasts

sum_of_two : (x y : Domain) (a b value : ℤ) (left right : List ℤ) → IsDomain x → IsDomain y → IsSingle x a → IsSingle y b
    → AllZip (Admits Ends) (x ∷ y ∷ []) left → AllZip (Admits Ends) [] right → HoldsOf AddEq (left ++ value ∷ right) → value ≡ a +ℤ b
sum_of_two x y a b value [] right x_ok y_ok one other before after holds = absurd before
sum_of_two x y a b value (v ∷ []) right x_ok y_ok one other before after holds = absurd before.1
sum_of_two x y a b value (v ∷ w ∷ u ∷ left) right x_ok y_ok one other before after holds = absurd before.1.1
sum_of_two x y a b value (v ∷ w ∷ []) (u ∷ right) x_ok y_ok one other before after holds = absurd after
sum_of_two x y a b value (v ∷ w ∷ []) [] x_ok y_ok one other before after holds =
    omega (
      arith,
      ints,
      single_least x a x_ok one,
      single_greatest x a x_ok one,
      single_least y b y_ok other,
      single_greatest y b y_ok other,
      before.0.0,
      before.0.1,
      before.1.0.0,
      before.1.0.1,
      holds,
    )

-- where two of three domains have one value, so has the third
sum_single : (x y z : Domain) (a b : ℤ) → IsDomain x → IsDomain y → IsDomain z → IsSingle x a → IsSingle y b
    → AreConsistent Ends (HoldsOf AddEq) (x ∷ y ∷ z ∷ []) → IsSingle z (least z)
sum_single x y z a b x_ok y_ok z_ok one other consistent =
    let low = consistent (x ∷ y ∷ []) z [] (least z) refl (tested_least z z_ok) in
    let high = consistent (x ∷ y ∷ []) z [] (greatest z) refl (tested_greatest z z_ok) in
    let is_low = sum_of_two x y a b (least z) low.0 low.1 x_ok y_ok one other low.2 low.3 low.4 in
    let is_high = sum_of_two x y a b (greatest z) high.0 high.1 x_ok y_ok one other high.2 high.3 high.4 in
    single_from_ends z z_ok (is_low ∙ sym is_high)

module _ (model : Model) (decisions : List Decision) (state : State) (consistent : IsPropagatedState model decisions state) where
  is_state : IsState model state
  is_state = consistent.is_state

  pub domain_ok : (name : VarName) (domain : Domain) → Gives state name domain → IsDomain domain
  domain_ok name domain gives = gives_domain model state is_state name domain gives

  -- the state gives each part of its tokens a domain
  pub part_given : (token : TokenName) (slot : Slot) (part : Part) (base : Base) → Contains state.tokens token → HasToken model token slot
      → HasPartBase model slot part base → (domain : Domain) × Gives state (variables.Token token part) domain
  part_given token slot part base there has is = (is_state.variables (variables.Token token part)).0 (there, (base, (slot, has, is)))

  lasting : (token : TokenName) (start duration end : Domain) (a b : ℤ) (domains : List Domain)
      → Gives state (variables.Token token Start) start → Gives state (variables.Token token Duration) duration → Gives state (variables.Token token End) end
      → AllZip (HasDomain (Gives state)) (lasts token).arguments domains → AreConsistent Ends (HoldsOf AddEq) domains
      → IsSingle start a → IsSingle duration b → (value : ℤ) × IsSingle end value
  lasting token start duration end a b [] starts takes ends have is one other = absurd have
  lasting token start duration end a b (x ∷ []) starts takes ends have is one other = absurd have.1
  lasting token start duration end a b (x ∷ y ∷ []) starts takes ends have is one other = absurd have.1.1
  lasting token start duration end a b (x ∷ y ∷ z ∷ w ∷ more) starts takes ends have is one other = absurd have.1.1.1
  lasting token start duration end a b (x ∷ y ∷ z ∷ []) starts takes ends have is one other =
      let first = gives_same state is_state.order (variables.Token token Start) start x starts have.0 in
      let second = gives_same state is_state.order (variables.Token token Duration) duration y takes have.1.0 in
      let third = gives_same state is_state.order (variables.Token token End) z end have.1.1.0 ends in
      let single = sum_single x y z a b (domain_ok _ x have.0) (domain_ok _ y have.1.0) (domain_ok _ z have.1.1.0)
      (subst (λ d. IsSingle d a) first one) (subst (λ d. IsSingle d b) second other) is in
      (least z, subst (λ d. IsSingle d (least z)) third single)

  -- ---- what has several values

  -- a flaw of another sort than the want of an order
  abbrev pub PartFlaw : Type 0
  PartFlaw = (flaw : Flaw) × IsFlaw model decisions state flaw × (IsUnorderedFlaw flaw → ⊥)

  -- a variable of the token that has no value
  pub is_unbound : (name : VarName) (domain : Domain) → Gives state name domain → ((value : ℤ) → IsSingle domain value → ⊥)
      → (IsOfRejectedToken decisions name → ⊥) → IsUnbound decisions state name
  is_unbound name domain gives several kept = record { domain = domain; gives = gives; several = several; kept = kept }

  module _ (token : TokenName) (slot : Slot) (there : Contains state.tokens token) (has : HasToken model token slot) (kept : IsRejected decisions token → ⊥) where
    own : (part : Part) → IsOfRejectedToken decisions (variables.Token token part) → ⊥
    own part rejected = kept (subst (λ t. IsRejected decisions t) (sym rejected.1) rejected.2)

    -- a start or a duration without one value is a flaw, and so is the end of such a token
    end_flaw : (end : Domain) → Gives state (variables.Token token End) end → ((value : ℤ) → IsSingle end value → ⊥) → PartFlaw
    end_flaw end gives several =
        let start = part_given token slot Start (Given _) there has refl in
        let duration = part_given token slot Duration (Given _) there has refl in
        elim (single_or_not start.0 (domain_ok _ start.0 start.1)) [
          | inr many ↦ (Untimed (variables.Token token Start), (tt, is_unbound _ start.0 start.1 many (own Start)), λ (none : ⊥). none)
          | inl first ↦ elim (single_or_not duration.0 (domain_ok _ duration.0 duration.1)) [
            | inr many ↦ (Untimed (variables.Token token Duration), (tt, is_unbound _ duration.0 duration.1 many (own Duration)), λ (none : ⊥). none)
            | inl second ↦
                let claim = consistent.claims (lasts token) (inr (inr (inl (record { token = token; there = there; says = refl })))) in
                let single = lasting token start.0 duration.0 end first.0 second.0 claim.domains start.1 duration.1 gives claim.have claim.agree first.1 second.1 in
                absurd (several single.0 single.1)
          ]
        ]

    unbound_flaw : (part : Part) (domain : Domain) → Gives state (variables.Token token part) domain → ((value : ℤ) → IsSingle domain value → ⊥) → PartFlaw
    unbound_flaw Start domain gives several = (Untimed (variables.Token token Start), (tt, is_unbound _ domain gives several (own Start)), λ (none : ⊥). none)
    unbound_flaw End domain gives several = end_flaw domain gives several
    unbound_flaw Duration domain gives several = (Untimed (variables.Token token Duration), (tt, is_unbound _ domain gives several (own Duration)), λ (none : ⊥). none)
    unbound_flaw Object domain gives several = (Undetermined (variables.Token token Object), (tt, is_unbound _ domain gives several (own Object)), λ (none : ⊥). none)
    unbound_flaw (Param number) domain gives several =
        (Undetermined (variables.Token token (Param number)), (tt, is_unbound _ domain gives several (own (Param number))), λ (none : ⊥). none)

    -- a part of such a token that has no value
    pub part_flaw : (part : Part) (base : Base) → HasPartBase model slot part base → ((value : ℤ) → GivesOnly state (variables.Token token part) value → ⊥)
        → PartFlaw
    part_flaw part base is none =
        let given = part_given token slot part base there has is in
        unbound_flaw part given.0 given.1 (λ value single. none value (given.0, given.1, single))

    -- it has a value where there is no such flaw
    pub part_value : (part : Part) (base : Base) → HasPartBase model slot part base
        → ((flaw : Flaw) → IsFlaw model decisions state flaw → IsUnorderedFlaw flaw) → (value : ℤ) × GivesOnly state (variables.Token token part) value
    part_value part base is clear =
        let given = part_given token slot part base there has is in
        elim (single_or_not given.0 (domain_ok _ given.0 given.1)) [
          | inl one ↦ (one.0, (given.0, given.1, one.1))
          | inr many ↦ let flaw = unbound_flaw part given.0 given.1 many in absurd (flaw.2 (clear flaw.0 flaw.1))
        ]
