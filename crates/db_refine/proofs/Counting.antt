-- What counts after a further decision counted before, or begins to count with it.
use Rattle.std.proofs.Common.{◌≡◌, List, [], ◌∷◌, ◌++◌, length, ◌⊎◌, inl, inr, refl, sym, ◌∙◌, subst, arith}
use Rattle.std.specs.Prelude.{All, Contains}
use Rattle.std.proofs.lemmas.Bool.{cases_lt}
use Rattle.std.proofs.lemmas.List.Elements.{All-nil, All-cons, All-head, All-tail, Contains-push_cases}
use Rattle.eu_name.specs.declared.name.Step.{Step}
use Rattle.eu_name.specs.declared.name.TokenName.{TokenName}
use Rattle.eu_name.specs.declared.name.VarName.{VarName}
use Rattle.eu_name.specs.declared.name.VarName.TheVariants.{Token, Local, Global}
use Rattle.model_core.specs.declared.decision.Decision.{Decision}
use Rattle.model_core.specs.declared.decision.Decision.TheVariants.{Activate, Merge}
use Rattle.model_core.specs.declared.item.Item.{Item}
use Rattle.model_core.specs.declared.item.Item.TheVariants.{Constraint, Relation}
use Rattle.model_core.specs.declared.item.Term.{Term}
use Rattle.model_core.specs.declared.model.Model.{Model}
use Rattle.model_core.specs.declared.model.Root.{Root}
use Rattle.model_core.specs.declared.model.RootKind.{RootKind}
use Rattle.model_core.specs.declared.model.RootKind.TheVariants.{Goal, Rejectable, Fact}
use Rattle.model_core.specs.declared.rule.Guard.{Guard}
use Rattle.model_core.specs.declared.rule.Side.{Side}
use Rattle.model_core.specs.Blocks.{TokenBlock}
use Rattle.model_core.specs.Decided.{IsActivated, IsTaken, IsActive}
use Rattle.model_core.specs.State.{State}
use Rattle.model_core.specs.Tokens.{IsRejectable}
use Rattle.plan_defs.specs.Claims.{Claim, ItemSays}
use Rattle.plan_defs.specs.Laws.{HaveToTurn}
use Rattle.plan_defs.specs.Resources.{OpensIn}
use Rattle.plan_defs.specs.Situations.{situation_of}
use Rattle.plan_defs.specs.Support.{MayBe, one_side, other_side}
use Rattle.plan_defs.specs.Terms.{Context, InProblem, InRule, Argument, Value, Variable, Means, BelongsTo, Counts, ArgumentCounts}
use Rattle.eu_name.proofs.Members.{get_below, get_within, get_same}
use Rattle.eu_name.proofs.Ordered.{contains_head, contains_later}
use Rattle.db_refine.specs.Coming.{TakesToken, BeginsToCount, ClaimBeginsToCount}
use Rattle.db_refine.specs.Progress.{GuardNames}

-- ---- whether a token is rejectable

kind_rejects : (kind : RootKind) → (kind ≡ Rejectable) ⊎ (kind ≡ Rejectable → ⊥)
kind_rejects Rejectable = inl refl
kind_rejects Goal = inr (λ e. cc)
kind_rejects Fact = inr (λ e. cc)

root_rejects : (model : Model) (token : TokenName) → token.steps ≡ [] → IsRejectable model token ⊎ (IsRejectable model token → ⊥)
root_rejects model token none = elim (cases_lt token.root (length model.problem.roots)) [
  | inl below ↦ (
      let found = get_within model.problem.roots token.root below in
      elim (kind_rejects found.0.kind) [
        | inl is ↦ inl (none, (found.0, found.1, is))
        | inr other ↦ inr (λ is.
            let same = get_same model.problem.roots token.root is.1.0 found.0 is.1.1 found.1 in
            other (subst (λ (root : Root). root.kind ≡ Rejectable) same is.1.2))
      ])
  | inr past ↦ inr (λ is. let below = get_below model.problem.roots token.root is.1.0 is.1.1 in omega (arith, past, below))
]

steps_reject : (model : Model) (token : TokenName) (steps : List Step) → token.steps ≡ steps → IsRejectable model token ⊎ (IsRejectable model token → ⊥)
steps_reject model token [] same = root_rejects model token same
steps_reject model token (step ∷ steps) same = inr (λ is. let e : [] ≡ step ∷ steps = sym is.0 ∙ same in absurd (cc))

rejectable_or_not : (model : Model) (token : TokenName) → IsRejectable model token ⊎ (IsRejectable model token → ⊥)
rejectable_or_not model token = steps_reject model token token.steps refl

module _ (decisions : List Decision) (decision : Decision) where
  activated_cases : (token : TokenName) → IsActivated (decisions ++ decision ∷ []) token → IsActivated decisions token ⊎ (decision ≡ Activate token)
  activated_cases token activated = Contains-push_cases decisions decision (Activate token) activated

  pub taken_cases : (token : TokenName) → IsTaken (decisions ++ decision ∷ []) token → IsTaken decisions token ⊎ TakesToken decision token
  taken_cases token (inl activated) = elim (activated_cases token activated) [ inl before ↦ inl (inl before) | inr is ↦ inr (inl is) ]
  taken_cases token (inr (target, merged)) = elim (Contains-push_cases decisions decision (Merge token target) merged) [
    | inl before ↦ inl (inr (target, before))
    | inr is ↦ inr (inr (target, is))
  ]

module _ (model : Model) (decisions : List Decision) (decision : Decision) where
  -- ---- arguments

  owner_cases : (name : VarName) (owner : TokenName) → BelongsTo name owner → ((token : TokenName) → BelongsTo name token → owner ≡ token)
      → Counts model (IsTaken (decisions ++ decision ∷ [])) name → Counts model (IsTaken decisions) name ⊎ BeginsToCount model decision name
  owner_cases name owner owns only counts = elim (rejectable_or_not model owner) [
    | inl rejectable ↦ elim (taken_cases decisions decision owner (counts owner owns rejectable)) [
      | inl taken ↦ inl (λ token belongs is. subst (IsTaken decisions) (only token belongs) taken)
      | inr takes ↦ inr (owner, owns, rejectable, takes)
    ]
    | inr not ↦ inl (λ token belongs rejectable. absurd (not (subst (IsRejectable model) (sym (only token belongs)) rejectable)))
  ]

  name_cases : (name : VarName) → Counts model (IsTaken (decisions ++ decision ∷ [])) name → Counts model (IsTaken decisions) name ⊎ BeginsToCount model decision name
  name_cases (Token owner part) counts = owner_cases (Token owner part) owner refl (λ token is. is) counts
  name_cases (Local owner rule number) counts = owner_cases (Local owner rule number) owner refl (λ token is. is) counts
  name_cases (Global number) counts = inl (λ token belongs. absurd belongs)

  argument_cases : (argument : Argument) → ArgumentCounts model (IsTaken (decisions ++ decision ∷ [])) argument
      → ArgumentCounts model (IsTaken decisions) argument ⊎ ((name : VarName) × (argument ≡ Variable name) × BeginsToCount model decision name)
  argument_cases (Value value) counts = inl tt
  argument_cases (Variable name) counts = elim (name_cases name counts) [ inl before ↦ inl before | inr begins ↦ inr (name, refl, begins) ]

  arguments_cases : (arguments : List Argument) → All (ArgumentCounts model (IsTaken (decisions ++ decision ∷ []))) arguments
      → All (ArgumentCounts model (IsTaken decisions)) arguments ⊎ ((name : VarName) × Contains arguments (Variable name) × BeginsToCount model decision name)
  arguments_cases [] count = inl (All-nil _)
  arguments_cases (argument ∷ arguments) count = elim (argument_cases argument (All-head (ArgumentCounts model (IsTaken (decisions ++ decision ∷ []))) argument arguments count)) [
    | inl first ↦ elim (arguments_cases arguments (All-tail (ArgumentCounts model (IsTaken (decisions ++ decision ∷ []))) argument arguments count)) [
      | inl rest ↦ inl (All-cons (ArgumentCounts model (IsTaken decisions)) argument arguments first rest)
      | inr (name, there, begins) ↦ inr (name, contains_later argument (Variable name) arguments there, begins)
    ]
    | inr (name, is, begins) ↦ inr (name, subst (Contains (argument ∷ arguments)) is (contains_head argument arguments), begins)
  ]

  -- ---- what items say, and which way guards go

  pub says_cases : (context : Context) (item : Item) (claim : Claim) → ItemSays model (IsTaken (decisions ++ decision ∷ [])) context item claim
      → ItemSays model (IsTaken decisions) context item claim ⊎ ClaimBeginsToCount model decision claim
  says_cases context (Constraint kind terms) claim says = elim (arguments_cases claim.arguments says.counts) [
    | inl before ↦ inl (record { is_kind = says.is_kind; means = says.means; counts = before })
    | inr begins ↦ inr begins
  ]
  says_cases (InRule token rule) (Relation relation slot) claim says = inl says
  says_cases InProblem (Relation relation slot) claim says = absurd says

  module _ (state : State) (context : Context) where
    term_cases : (term : Term) {domain : _} → MayBe model (situation_of (decisions ++ decision ∷ []) state) context term domain
        → MayBe model (situation_of decisions state) context term domain ⊎ ((name : VarName) × Means context term (Variable name) × BeginsToCount model decision name)
    term_cases term may = elim (argument_cases may.argument may.counts) [
      | inl before ↦ inl (record { argument = may.argument; means = may.means; counts = before; has = may.has })
      | inr (name, is, begins) ↦ inr (name, subst (Means context term) is may.means, begins)
    ]

  pub opens_cases : (state : State) (block : TokenBlock) (guard : Guard) (side : Side) → OpensIn model (decisions ++ decision ∷ []) state block guard side
      → OpensIn model decisions state block guard side
      ⊎ ((name : VarName) × GuardNames (InRule block.token block.rule) guard name × BeginsToCount model decision name)
  opens_cases state block guard side opens = elim (term_cases state (InRule block.token block.rule) (one_side guard) opens.is_one) [
    | inl one ↦ elim (term_cases state (InRule block.token block.rule) (other_side guard) opens.is_other) [
      | inl other ↦ inl (record { one = opens.one; other = opens.other; is_one = one; is_other = other; always = opens.always })
      | inr (name, means, begins) ↦ inr (name, inr means, begins)
    ]
    | inr (name, means, begins) ↦ inr (name, inl means, begins)
  ]

  -- ---- tokens that take turns

  active_cases : (token : TokenName) → IsActive model (decisions ++ decision ∷ []) token → IsActive model decisions token ⊎ (decision ≡ Activate token)
  active_cases token (inl fact) = inl (inl fact)
  active_cases token (inr activated) = elim (activated_cases decisions decision token activated) [ inl before ↦ inl (inr before) | inr is ↦ inr is ]

  pub turn_cases : (state : State) (one other : TokenName) → HaveToTurn model (decisions ++ decision ∷ []) state one other
      → HaveToTurn model decisions state one other ⊎ ((decision ≡ Activate one) ⊎ (decision ≡ Activate other))
  turn_cases state one other turn = elim (active_cases one turn.share.one_active) [
    | inl one_active ↦ elim (active_cases other turn.share.other_active) [
      | inl other_active ↦ inl (record {
        share = record {
          apart = turn.share.apart;
          one_active = one_active;
          other_active = other_active;
          timeline = turn.share.timeline;
          is_timeline = turn.share.is_timeline;
          one_on = turn.share.one_on;
          other_on = turn.share.other_on;
        };
        late = turn.late;
      })
      | inr is ↦ inr (inr is)
    ]
    | inr is ↦ inr (inl is)
  ]
