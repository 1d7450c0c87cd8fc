-- Each choice of the first flaw is admissible.
use Rattle.std.proofs.Common.{◌≡◌, ℕ, ◌≤◌, inl, inr, ⊎_elim, ℤ, List, [], ◌∷◌, refl, sym, ap, ◌∙◌, subst, arith}
use Rattle.std.specs.Prelude.{Contains}
use Rattle.std.proofs.lemmas.List.Elements.{Contains-append_cases, All-contains}
use Rattle.domain_core.specs.Domain.{Domain, Has}
use Rattle.eu_name.specs.declared.name.Part.TheVariants.{Object}
use Rattle.eu_name.specs.declared.name.TokenName.{TokenName}
use Rattle.eu_name.specs.declared.name.VarName.{VarName}
use Rattle.eu_name.specs.declared.name.VarName.TheVariants as names
use Rattle.model_core.specs.declared.decision.Decision.{Decision}
use Rattle.model_core.specs.declared.decision.Decision.TheVariants.{Specify, Activate, Merge, Reject, Order}
use Rattle.model_core.specs.declared.model.Model.{Model}
use Rattle.model_core.specs.declared.model.RootKind.TheVariants.{Rejectable, Fact}
use Rattle.model_core.specs.declared.variable.Base.{Base}
use Rattle.model_core.specs.declared.variable.Base.TheVariants.{Given, Void}
use Rattle.model_core.specs.Decided.{IsDecided, IsTaken, IsRejected}
use Rattle.model_core.specs.State.{State, Gives, IsBlockOf}
use Rattle.model_core.specs.Tokens.{IsFact, IsRejectable}
use Rattle.model_core.specs.Variables.{HasBase, IsInBase}
use Rattle.plan_defs.specs.Refusals.{Hinders, IsDeclared, IsAdmissible, AreActive}
use Rattle.model_core.specs.declared.refusal.Refusal.TheVariants.{Unknown, WrongType, Decided, NotInDomain, NotActive, NotSamePredicate, NotRejectable, SameToken, ActiveFull}
use Rattle.model_core.specs.declared.refusal.Refusal.{Refusal}
use Rattle.plan_defs.specs.Terms.{BelongsTo, Counts}
use Rattle.plan_defs.specs.Timelines.{IsOn}
use Rattle.eu_name.proofs.Ordered.{contains_cases, contains_none}
use Rattle.plan_defs.specs.Unordered.{AreUnordered}
use Rattle.plan_defs.proofs.Filling.{same_some}
use Rattle.plan_defs.specs.Flaws.{Flaw, Undecided, Undetermined, Unordered, Untimed, IsUnbound}
use Rattle.law_search.proofs.Mapping.{map_contains}
use Rattle.law_search.specs.Choices.{IsFlawBefore, IsActivationLeft, IsRejectionLeft, AreTokenChoices, AreValueChoices}
use Rattle.law_search.specs.SearchLaws.{IsChoiceOf}

-- ---- what the first flaw tells

-- what isn't about a token comes after each token of which nothing is decided
pub tokens_first : (token : TokenName) (flaw : Flaw) → ((other : TokenName) → flaw ≡ Undecided other → ⊥) → IsFlawBefore (Undecided token) flaw
tokens_first token (Undecided other) apart = absurd (apart other refl)
tokens_first token (Undetermined name) apart = omega arith
tokens_first token (Unordered one other) apart = omega arith
tokens_first token (Untimed name) apart = omega arith

-- the token that owns the variable
pub data HasOwner (name : VarName) : Type 0 where
  NoOwner : ((token : TokenName) → BelongsTo name token → ⊥) → HasOwner name
  Owner : (token : TokenName) → BelongsTo name token → HasOwner name

pub owner_of : (name : VarName) → HasOwner name
owner_of (names.Global number) = NoOwner (λ token belongs. belongs)
owner_of (names.Token token part) = Owner token refl
owner_of (names.Local token rule number) = Owner token refl

pub owner_same : (name : VarName) (one other : TokenName) → BelongsTo name one → BelongsTo name other → one ≡ other
owner_same (names.Global number) one other p q = absurd p
owner_same (names.Token token part) one other p q = sym p ∙ q
owner_same (names.Local token rule number) one other p q = sym p ∙ q

-- a rejectable is no fact
pub rejectable_no_fact : (model : Model) (token : TokenName) → IsRejectable model token → IsFact model token → ⊥
rejectable_no_fact model token rejectable fact =
    let roots = same_some _ _ (sym rejectable.1.1 ∙ fact.1.1) in
    let kinds : Rejectable ≡ Fact = sym rejectable.1.2 ∙ ap (λ r. r.kind) roots ∙ fact.1.2 in
    absurd (cc)

module _ (model : Model) (decisions : List Decision) (state : State) (bound : ℕ) (flaw : Flaw) (choices : List Decision)
    (is : IsChoiceOf model decisions state bound flaw choices) where
  -- the token of a variable that the state gives is there
  pub owner_there : (name : VarName) (domain : Domain) (token : TokenName) → Gives state name domain → BelongsTo name token → Contains state.tokens token
  owner_there (names.Global number) domain token gives belongs = absurd belongs
  owner_there (names.Token owner part) domain token gives belongs =
      subst (λ (t : TokenName). Contains state.tokens t) belongs ((is.least.closed.consistent.is_state.variables (names.Token owner part)).1 (domain, gives)).0
  owner_there (names.Local owner rule number) domain token gives belongs =
      let about = (is.least.closed.consistent.is_state.variables (names.Local owner rule number)).1 (domain, gives) in
      let of = All-contains (IsBlockOf model state) state.blocks about.block is.least.closed.consistent.is_state.blocks about.is_open in
      subst (λ (t : TokenName). Contains state.tokens t) (about.of_token ∙ belongs) of.0

  -- where the flaw is about no token, none is undecided
  pub none_undecided : ((other : TokenName) → flaw ≡ Undecided other → ⊥) → (token : TokenName) → Contains state.tokens token → (IsDecided model decisions token → ⊥) → ⊥
  none_undecided apart token there undecided = is.first.first (Undecided token) (there, undecided) (tokens_first token flaw apart)

  -- what is decided and may be rejected is taken, unless it is rejected
  pub taken_of : (token : TokenName) → IsRejectable model token → (IsRejected decisions token → ⊥) → IsDecided model decisions token → IsTaken decisions token
  taken_of token rejectable kept (inl fact) = absurd (rejectable_no_fact model token rejectable fact)
  taken_of token rejectable kept (inr (inl taken)) = taken
  taken_of token rejectable kept (inr (inr rejected)) = absurd (kept rejected)

  -- ---- values

  module _ (name : VarName) (apart : (other : TokenName) → flaw ≡ Undecided other → ⊥) (left : IsUnbound decisions state name) (values : AreValueChoices state name choices) where
    counted : ((Counts model (IsTaken decisions) name → ⊥) → ⊥)
    counted not = by_owner (owner_of name)
      where
        by_owner : HasOwner name → ⊥
        by_owner (NoOwner none) = not (λ token belongs rejectable. absurd (none token belongs))
        by_owner (Owner token own) =
            none_undecided apart token (owner_there name left.domain token left.gives own) (λ decided. not (λ other belongs rejectable.
            let same = owner_same name token other own belongs in
            subst (IsTaken decisions) same
            (taken_of token (subst (IsRejectable model) (sym same) rejectable) (λ rejected. left.kept (token, own, rejected)) decided)))

    declared : (value : ℤ) → Has values.domain value → IsDeclared model name value
    declared value has =
        let base = is.least.closed.consistent.in_base name values.domain values.gives in
        in_given base.0 base.1 base.2
      where
        in_given : (base : Base) → HasBase model name base → IsInBase values.domain base → IsDeclared model name value
        in_given (Given base) of inside = (base, of, inside.values value has)
        in_given Void of inside = absurd inside

    pub specify_admissible : (value : ℤ) → Has values.domain value → IsAdmissible model decisions (Specify name value)
    specify_admissible value has = record { state = state; least = is.least; free = free }
      where
        free : (reason : Refusal) → Hinders model decisions state reason (Specify name value) → ⊥
        free Unknown hinders = hinders (values.domain, values.gives)
        free WrongType hinders = hinders
        free Decided hinders = left.several hinders.0 (is.least.closed.consistent.respected (Specify name hinders.0) hinders.1 left.domain left.gives)
        free NotInDomain hinders = hinders (declared value has)
        free NotActive hinders = counted hinders
        free NotSamePredicate hinders = hinders
        free NotRejectable hinders = hinders
        free SameToken hinders = hinders
        free ActiveFull hinders = hinders

    pub value_admissible : (choice : Decision) → Contains choices choice → IsAdmissible model decisions choice
    value_admissible choice there =
        let found = map_contains (λ value. Specify name value) values.values choice (subst (λ (l : List Decision). Contains l choice) values.are there) in
        subst (IsAdmissible model decisions) found.1.1 (specify_admissible found.0 ((values.all found.0).0 found.1.0))

  -- ---- tokens

  module _ (few : bound ≤ 512) (token : TokenName) (there : Contains state.tokens token) (undecided : IsDecided model decisions token → ⊥)
      (tokens : AreTokenChoices model decisions state bound token choices) where
    merge_admissible : (target : TokenName) → Contains tokens.targets target → IsAdmissible model decisions (Merge token target)
    merge_admissible target is_target = record { state = state; least = is.least; free = free }
      where
        free : (reason : Refusal) → Hinders model decisions state reason (Merge token target) → ⊥
        free Unknown hinders = hinders (there, ((tokens.are_targets.are target).0 is_target).0)
        free WrongType hinders = hinders
        free Decided hinders = undecided hinders
        free NotInDomain hinders = hinders
        free NotActive hinders = hinders ((tokens.are_targets.are target).0 is_target).1.0
        free NotSamePredicate hinders = hinders ((tokens.are_targets.are target).0 is_target).1.1
        free NotRejectable hinders = hinders
        free SameToken hinders = hinders
        free ActiveFull hinders = hinders

    activate_admissible : (AreActive model decisions bound → ⊥) → IsAdmissible model decisions (Activate token)
    activate_admissible room = record { state = state; least = is.least; free = free }
      where
        free : (reason : Refusal) → Hinders model decisions state reason (Activate token) → ⊥
        free Unknown hinders = hinders there
        free WrongType hinders = hinders
        free Decided hinders = undecided hinders
        free NotInDomain hinders = hinders
        free NotActive hinders = hinders
        free NotSamePredicate hinders = hinders
        free NotRejectable hinders = hinders
        free SameToken hinders = hinders
        free ActiveFull hinders = room (record {
          tokens = hinders.tokens;
          distinct = hinders.distinct;
          active = hinders.active;
          enough = let enough = hinders.enough in omega (arith, enough, few);
        })

    reject_admissible : IsRejectable model token → IsAdmissible model decisions (Reject token)
    reject_admissible rejectable = record { state = state; least = is.least; free = free }
      where
        free : (reason : Refusal) → Hinders model decisions state reason (Reject token) → ⊥
        free Unknown hinders = hinders there
        free WrongType hinders = hinders
        free Decided hinders = undecided hinders
        free NotInDomain hinders = hinders
        free NotActive hinders = hinders
        free NotSamePredicate hinders = hinders
        free NotRejectable hinders = hinders rejectable
        free SameToken hinders = hinders
        free ActiveFull hinders = hinders

    by_activation : (choice : Decision) (some : List Decision) → IsActivationLeft model decisions bound token some → Contains some choice → IsAdmissible model decisions choice
    by_activation choice some (inl (room, are)) at = elim (contains_cases (Activate token) choice [] (subst (λ (l : List Decision). Contains l choice) are at)) [
      | inl same ↦ subst (IsAdmissible model decisions) same (activate_admissible room)
      | inr later ↦ absurd (contains_none choice later)
    ]
    by_activation choice some (inr (full, are)) at = absurd (contains_none choice (subst (λ (l : List Decision). Contains l choice) are at))

    by_rejection : (choice : Decision) (some : List Decision) → IsRejectionLeft model token some → Contains some choice → IsAdmissible model decisions choice
    by_rejection choice some (inl (rejectable, are)) at = elim (contains_cases (Reject token) choice [] (subst (λ (l : List Decision). Contains l choice) are at)) [
      | inl same ↦ subst (IsAdmissible model decisions) same (reject_admissible rejectable)
      | inr later ↦ absurd (contains_none choice later)
    ]
    by_rejection choice some (inr (not, are)) at = absurd (contains_none choice (subst (λ (l : List Decision). Contains l choice) are at))

    pub token_admissible : (choice : Decision) → Contains choices choice → IsAdmissible model decisions choice
    token_admissible choice at = elim (Contains-append_cases _ _ choice (subst (λ (l : List Decision). Contains l choice) tokens.are at)) [
      | inl merges ↦
          let found = map_contains (λ target. Merge token target) tokens.targets choice merges in
          subst (IsAdmissible model decisions) found.1.1 (merge_admissible found.0 found.1.0)
      | inr rest ↦ elim (Contains-append_cases _ _ choice rest) [
        | inl activation ↦ by_activation choice tokens.activation tokens.activated activation
        | inr rejection ↦ by_rejection choice tokens.rejection tokens.rejected rejection
      ]
    ]

  -- ---- orders

  module _ (one other : TokenName) (unordered : AreUnordered model decisions state one other) where
    on_there : (token : TokenName) (timeline : ℤ) → IsOn state token timeline → Contains state.tokens token
    on_there token timeline on = owner_there (names.Token token Object) on.0 token on.1 refl

    order_admissible : IsAdmissible model decisions (Order one other)
    order_admissible = record { state = state; least = is.least; free = free }
      where
        free : (reason : Refusal) → Hinders model decisions state reason (Order one other) → ⊥
        free Unknown hinders = hinders (on_there one unordered.share.timeline unordered.share.one_on, on_there other unordered.share.timeline unordered.share.other_on)
        free WrongType hinders = hinders
        free Decided hinders = unordered.no_order.not_before hinders
        free NotInDomain hinders = hinders
        free NotActive hinders = ⊎_elim (λ not. not unordered.share.one_active) (λ not. not unordered.share.other_active) hinders
        free NotSamePredicate hinders = hinders
        free NotRejectable hinders = hinders
        free SameToken hinders = unordered.share.apart hinders
        free ActiveFull hinders = hinders

    other_admissible : IsAdmissible model decisions (Order other one)
    other_admissible = record { state = state; least = is.least; free = free }
      where
        free : (reason : Refusal) → Hinders model decisions state reason (Order other one) → ⊥
        free Unknown hinders = hinders (on_there other unordered.share.timeline unordered.share.other_on, on_there one unordered.share.timeline unordered.share.one_on)
        free WrongType hinders = hinders
        free Decided hinders = unordered.no_order.not_after hinders
        free NotInDomain hinders = hinders
        free NotActive hinders = ⊎_elim (λ not. not unordered.share.other_active) (λ not. not unordered.share.one_active) hinders
        free NotSamePredicate hinders = hinders
        free NotRejectable hinders = hinders
        free SameToken hinders = unordered.share.apart (sym hinders)
        free ActiveFull hinders = hinders

    pub pair_admissible : choices ≡ Order one other ∷ Order other one ∷ [] → (choice : Decision) → Contains choices choice → IsAdmissible model decisions choice
    pair_admissible are choice at = elim (contains_cases (Order one other) choice (Order other one ∷ []) (subst (λ (l : List Decision). Contains l choice) are at)) [
      | inl same ↦ subst (IsAdmissible model decisions) same order_admissible
      | inr later ↦ elim (contains_cases (Order other one) choice [] later) [
        | inl same ↦ subst (IsAdmissible model decisions) same other_admissible
        | inr none ↦ absurd (contains_none choice none)
      ]
    ]

pub choice_admissible : (model : Model) (decisions : List Decision) (state : State) (bound : ℕ) (flaw : Flaw) (choices : List Decision) (choice : Decision) → bound ≤ 512
    → IsChoiceOf model decisions state bound flaw choices → Contains choices choice → IsAdmissible model decisions choice
choice_admissible model decisions state bound (Undecided token) choices choice few is there =
    token_admissible model decisions state bound (Undecided token) choices is few token is.first.is.0 is.first.is.1 is.are choice there
choice_admissible model decisions state bound (Undetermined name) choices choice few is there =
    value_admissible model decisions state bound (Undetermined name) choices is name (λ other same. cc) is.first.is.1 is.are choice there
choice_admissible model decisions state bound (Unordered one other) choices choice few is there =
    pair_admissible model decisions state bound (Unordered one other) choices is one other is.first.is.1 is.are choice there
choice_admissible model decisions state bound (Untimed name) choices choice few is there =
    value_admissible model decisions state bound (Untimed name) choices is name (λ other same. cc) is.first.is.1 is.are choice there
