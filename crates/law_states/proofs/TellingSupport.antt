-- Whether a token or a block is supported in a propagated state can be told.
use Rattle.std.proofs.Common.{◌≡◌, ℕ, inl, inr, List, [], ◌∷◌, ◌++◌, refl, sym, ap, ◌∙◌, subst}
use Rattle.std.specs.Prelude.{Contains}
use Rattle.std.proofs.lemmas.Bool.{cases_eq}
use Rattle.std.proofs.lemmas.List.{append-nil, append_assoc}
use Rattle.eu_name.specs.declared.name.Step.{Step}
use Rattle.eu_name.specs.declared.name.TokenName.{TokenName}
use Rattle.model_core.specs.declared.decision.Decision.{Decision}
use Rattle.model_core.specs.declared.decision.Decision.TheVariants.{Specify, Activate, Merge, Reject, Order, Constrain, Relate}
use Rattle.model_core.specs.declared.model.Model.{Model}
use Rattle.model_core.specs.Blocks.{TokenBlock, Direct, OfSlot, OfLocal, OfItem, OfBranch, direct}
use Rattle.model_core.specs.Decided.{IsActivated}
use Rattle.model_core.specs.Entries.{Entries}
use Rattle.model_core.specs.Lawful.{IsToken}
use Rattle.model_core.specs.State.{State}
use Rattle.plan_defs.specs.Closure.{IsPropagatedState}
use Rattle.plan_defs.specs.Situations.{situation_of}
use Rattle.plan_defs.specs.Support.{IsOpen, AsksFor, IsSupportedToken, IsSupportedBlock, front_token}
use Rattle.plan_defs.proofs.Counting.{taken_or_not}
use Rattle.plan_defs.proofs.Knowing.{IsOrNot, given_or_not, same_token}
use Rattle.plan_defs.proofs.States.{gives_same}
use Rattle.model_core.proofs.Blocks.{block_once}
use Rattle.law_states.proofs.Seeing.{supported_slot}
use Rattle.law_states.proofs.Guards.{CanTell, open_or_not}
use Rattle.law_states.proofs.Listing.{any_or_not}

-- ---- decisions

abbrev Activates : TokenName → Decision → Type 0
Activates token (Activate other) = other ≡ token
Activates token decision = ⊥

activates : (token : TokenName) (decision : Decision) → IsOrNot (Activates token decision)
activates token (Specify name value) = inr (λ is. is)
activates token (Activate other) = same_token other token
activates token (Merge other target) = inr (λ is. is)
activates token (Reject other) = inr (λ is. is)
activates token (Order one other) = inr (λ is. is)
activates token (Constrain kind arguments) = inr (λ is. is)
activates token (Relate relation one other) = inr (λ is. is)

module _ (decisions : List Decision) where
  activated_by : (token : TokenName) (decision : Decision) → Contains decisions decision → Activates token decision → IsActivated decisions token
  activated_by token (Specify name value) there is = absurd is
  activated_by token (Activate other) there is = subst (λ (t : TokenName). Contains decisions (Activate t)) is there
  activated_by token (Merge other target) there is = absurd is
  activated_by token (Reject other) there is = absurd is
  activated_by token (Order one other) there is = absurd is
  activated_by token (Constrain kind arguments) there is = absurd is
  activated_by token (Relate relation one other) there is = absurd is

  activated_or_not : (token : TokenName) → IsOrNot (IsActivated decisions token)
  activated_or_not token = elim (any_or_not (Activates token) (activates token) decisions) [
    | inl found ↦ inl (activated_by token found.0 found.1.0 found.1.1)
    | inr none ↦ inr (λ activated. none (Activate token, (activated, refl)))
  ]

-- ---- slots

is_slot : (slot : ℕ) (what : Direct) → IsOrNot (OfSlot slot ≡ what)
is_slot slot (OfSlot other) = elim (cases_eq slot other) [ inl same ↦ inl (ap OfSlot same) | inr differ ↦ inr (λ same. differ (by_slot slot other same)) ]
  where
    by_slot : (a b : ℕ) → OfSlot a ≡ OfSlot b → a ≡ b
    by_slot a b same = cc
is_slot slot (OfLocal number) = inr (λ same. cc)
is_slot slot (OfItem item) = inr (λ same. cc)
is_slot slot (OfBranch guard then otherwise) = inr (λ same. cc)

slot_or_not : (items : List Direct) (slot : ℕ) → IsOrNot (Contains items (OfSlot slot))
slot_or_not items slot = elim (any_or_not (λ what. OfSlot slot ≡ what) (is_slot slot) items) [
  | inl found ↦ inl (subst (Contains items) (sym found.1.1) found.1.0)
  | inr none ↦ inr (λ there. none (OfSlot slot, (there, refl)))
]

-- ---- what is supported

module _ (model : Model) (decisions : List Decision) (state : State) (fit : IsPropagatedState model decisions state)
    (of_model : (token : TokenName) → IsActivated decisions token → IsToken model token) where
  tell : CanTell (situation_of decisions state)
  tell = record {
    taken = taken_or_not decisions;
    activated = activated_or_not decisions;
    gives = given_or_not state.entries;
    once = gives_same state fit.is_state.order;
  }

  opened_or_not : (block : TokenBlock) → IsOrNot ((entries : Entries) × IsOpen model (situation_of decisions state) block entries)
  opened_or_not block = open_or_not model (situation_of decisions state) tell block (of_model block.token)

  -- the block is one of the token's rule, open, and the slot stands in it
  abbrev AsksIn : TokenName → Step → TokenBlock → Type 0
  AsksIn token step block =
      (block.token ≡ token) × ((block.rule ≡ step.rule)
      × ((entries : Entries) × (IsOpen model (situation_of decisions state) block entries × Contains (direct entries) (OfSlot step.slot))))

  asks_in : (token : TokenName) (step : Step) (block : TokenBlock) → IsOrNot (AsksIn token step block)
  asks_in token step block = elim (same_token block.token token) [
    | inr other ↦ inr (λ asks. other asks.0)
    | inl tokens ↦ elim (cases_eq block.rule step.rule) [
      | inr other ↦ inr (λ asks. other asks.1.0)
      | inl rules ↦ elim (opened_or_not block) [
        | inr shut ↦ inr (λ asks. shut (asks.1.1.0, asks.1.1.1.0))
        | inl opened ↦ elim (slot_or_not (direct opened.0) step.slot) [
          | inl stands ↦ inl (tokens, (rules, (opened.0, (opened.1, stands))))
          | inr none ↦ inr (λ asks.
              let same = block_once model _ _ block asks.1.1.0 opened.0 asks.1.1.1.0.has_block opened.1.has_block in
              none (subst (λ (e : Entries). Contains (direct e) (OfSlot step.slot)) same asks.1.1.1.1))
        ]
      ]
    ]
  ]

  asks_or_not : (token : TokenName) (step : Step) → IsSupportedToken model (situation_of decisions state) token → IsOrNot (AsksFor model (situation_of decisions state) token step)
  asks_or_not token step supported = elim (any_or_not (AsksIn token step) (asks_in token step) state.blocks) [
    | inl found ↦
        let block = found.0 in
        let is : block ≡ record { token = token; rule = step.rule; path = block.path } = λ i. record { token = found.1.1.0 i; rule = found.1.1.1.0 i; path = block.path } in
        let asks = found.1.1.1.1 in
        inl (record {
          path = block.path;
          entries = asks.0;
          is_open = subst (λ (b : TokenBlock). IsOpen model (situation_of decisions state) b asks.0) is asks.1.0;
          stands = asks.1.1;
        })
    | inr none ↦ inr (λ asks.
        let block : TokenBlock = record { token = token; rule = step.rule; path = asks.path } in
        none (block, (fit.blocks block asks.entries (record { supported = supported; is_open = asks.is_open }), (refl, (refl, (asks.entries, (asks.is_open, asks.stands)))))))
  ]

  climbed : (token : TokenName) (front back : List Step) → token.steps ≡ front ++ back → IsSupportedToken model (situation_of decisions state) (front_token token front)
      → IsOrNot (IsSupportedToken model (situation_of decisions state) token)
  climbed token front [] are supported =
      inl (subst (λ (steps : List Step). IsSupportedToken model (situation_of decisions state) (front_token token steps)) (sym (append-nil front) ∙ sym are) supported)
  climbed token front (step ∷ back) are supported = elim (asks_or_not (front_token token front) step supported) [
    | inr none ↦ inr (λ whole. none (whole.asked front step back are))
    | inl asks ↦
        climbed token (front ++ step ∷ []) back (are ∙ sym (append_assoc front (step ∷ []) back))
        (supported_slot model (situation_of decisions state) (front_token token front) step supported asks)
  ]

  pub supported_or_not : (token : TokenName) → IsToken model token → IsOrNot (IsSupportedToken model (situation_of decisions state) token)
  supported_or_not token of = climbed token [] token.steps refl (record {
    root = of.1.root;
    is_root = of.1.is_root;
    asked = λ front step back are. absurd (no_split front step back are);
  })
    where
      no_split : (front : List Step) (step : Step) (back : List Step) → [] ≡ front ++ step ∷ back → ⊥
      no_split [] step back are = cc
      no_split (first ∷ front) step back are = cc

  pub supported_block_or_not : (block : TokenBlock) → IsToken model block.token → IsOrNot ((entries : Entries) × IsSupportedBlock model (situation_of decisions state) block entries)
  supported_block_or_not block of = elim (supported_or_not block.token of) [
    | inr not ↦ inr (λ is. not is.1.supported)
    | inl supported ↦ elim (opened_or_not block) [
      | inl opened ↦ inl (opened.0, record { supported = supported; is_open = opened.1 })
      | inr shut ↦ inr (λ is. shut (is.0, is.1.is_open))
    ]
  ]
