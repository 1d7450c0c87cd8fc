-- Open blocks of the plan ask for what it has, it has what they ask for, and what stands in them is true.
use Rattle.std.proofs.Common.{◌≡◌, ℕ, ℤ, false, List, [], ◌∷◌, length, Some, ◌⊎◌, inl, inr, refl, sym, ap, subst, arith}
use Rattle.std.specs.Prelude.{Contains, slice_get, ⊤}
use Rattle.std.proofs.lemmas.List.{length-append}
use Rattle.std.proofs.lemmas.Slice.Zip.{AllZip-long}
use Rattle.eu_name.specs.declared.name.Part.{Part}
use Rattle.eu_name.specs.declared.name.Step.{Step}
use Rattle.eu_name.specs.declared.name.TokenName.{TokenName}
use Rattle.eu_name.specs.declared.name.VarName.TheVariants as variables
use Rattle.eu_name.proofs.Members.{contains_from_get}
use Rattle.model_core.specs.declared.decision.Decision.{Decision}
use Rattle.model_core.specs.declared.decision.Decision.TheVariants.{Activate}
use Rattle.model_core.specs.declared.item.Item.{Item}
use Rattle.model_core.specs.declared.item.Item.TheVariants.{Constraint, Relation}
use Rattle.model_core.specs.declared.model.Model.{Model}
use Rattle.model_core.specs.Blocks.{TokenBlock, direct, OfItem, OfLocal}
use Rattle.model_core.specs.Decided.{IsTaken, IsActivated, IsRejected}
use Rattle.model_core.specs.Entries.{Entries}
use Rattle.model_core.specs.Kinds.{OfRule}
use Rattle.model_core.specs.Lawful.{IsLawfulItem}
use Rattle.model_core.specs.Numbers.{PlacedItem, IsItemOf}
use Rattle.model_core.specs.State.{State, StandsOpen}
use Rattle.model_core.specs.Tokens.{slot_token}
use Rattle.plan_defs.specs.declared.plan.Line as the_line
use Rattle.plan_defs.specs.declared.plan.Line.TheVariants as lines
use Rattle.plan_defs.specs.declared.plan.Place.{Place}
use Rattle.plan_defs.specs.declared.plan.Place.TheVariants as places
use Rattle.plan_defs.specs.declared.plan.Plan.{Plan}
use Rattle.plan_defs.specs.Claims.{Claim, ItemSays, part_of}
use Rattle.plan_defs.specs.Consistency.{IsClaimConsistent}
use Rattle.plan_defs.specs.Plans.{IsTakenIn, plan_situation}
use Rattle.plan_defs.specs.Situations.{situation_of}
use Rattle.plan_defs.specs.Support.{IsOpen, AsksFor, IsSupportedBlock, front_token}
use Rattle.plan_defs.specs.Terms.{InRule, Means}
use Rattle.plan_defs.specs.Valid.{HasDeclaredValue, IsOpenIn, AsksForLocal, IsAskedToken, IsAsked, IsClaimTrue, KeepsOpen, KeepsAsked, KeepsItems}
use Rattle.plan_defs.proofs.Lower.{HasBlock-map, Follows-map, says_further}
use Rattle.plan_defs.specs.StatePlans.{GivesOnly, IsLineIn}
use Rattle.plan_defs.proofs.Stating.{takes_not_rejected}
use Rattle.model_core.proofs.Few.{few_rule}
use Rattle.law_states.specs.Soundness.{IsFlawlessPlan}
use Rattle.law_states.proofs.Agreeing.{surely_rejectable, all_kept}
use Rattle.law_states.proofs.Deciding.{Becoming, IsAFact, IsActivatedOne, IsMergedOne, IsRejectedOne}
use Rattle.law_states.proofs.Having.{is_state, becomes_of, AreKept, claim_true}
use Rattle.law_states.proofs.Keeping.{said, declared_value, part_kept, taken_down, some_arguments, keeps_problem}
use Rattle.law_states.proofs.Relating.{of_two}
use Rattle.law_states.proofs.OpenAlike.{taken_up, open_down, open_up}
use Rattle.law_states.proofs.Seeing.{supported_slot}
use Rattle.law_states.proofs.Ways.{block_once, item_stands}

module _ (model : Model) (decisions : List Decision) (state : State) (plan : Plan) (is : IsFlawlessPlan model decisions state plan) where
  -- ---- what is open in the plan is in the state

  active_there : (token : TokenName) → IsActivated decisions token → Contains state.tokens token
  active_there token activated = is.founded.known (Activate token) activated

  supported_down : (block : TokenBlock) (entries : Entries) → IsOpen model (plan_situation plan) block entries → IsSupportedBlock model (situation_of decisions state) block entries
  supported_down block entries p =
      let down = open_down model decisions state plan is block entries p in
      record { supported = is.founded.tokens block.token (active_there block.token down.activated); is_open = down }

  pub block_there : (block : TokenBlock) (entries : Entries) → IsOpen model (plan_situation plan) block entries → Contains state.blocks block
  block_there block entries p = is.settled.consistent.blocks block entries (supported_down block entries p)

  -- ---- slots

  asks_down : (token : TokenName) (step : Step) → AsksFor model (plan_situation plan) token step → AsksFor model (situation_of decisions state) token step
  asks_down token step asks = record {
    path = asks.path;
    entries = asks.entries;
    is_open = open_down model decisions state plan is (record { token = token; rule = step.rule; path = asks.path }) asks.entries asks.is_open;
    stands = asks.stands;
  }

  slot_there : (token : TokenName) (rule slot : ℕ) → AsksFor model (plan_situation plan) token (record { rule = rule; slot = slot }) → Contains state.tokens (slot_token token rule slot)
  slot_there token rule slot asks =
      let down = asks_down token (record { rule = rule; slot = slot }) asks in
      is.settled.consistent.tokens (slot_token token rule slot)
      (supported_slot model (situation_of decisions state) token (record { rule = rule; slot = slot }) (is.founded.tokens token (active_there token down.is_open.activated)) down)

  no_root : (token : TokenName) (rule slot : ℕ) → (slot_token token rule slot).steps ≡ [] → ⊥
  no_root token rule slot none = omega (arith, ap length none, length-append token.steps (record { rule = rule; slot = slot } ∷ []))

  pub slot_not_rejected : (token : TokenName) (rule slot : ℕ) → IsRejected decisions (slot_token token rule slot) → ⊥
  slot_not_rejected token rule slot rejected =
      surely_rejectable model decisions state plan is (slot_token token rule slot) rejected (λ rejectable. no_root token rule slot rejectable.0)

  taken_slot : (token : TokenName) (rule slot : ℕ) → Becoming model decisions (slot_token token rule slot) → IsTakenIn plan (slot_token token rule slot)
  taken_slot token rule slot (IsAFact fact) = absurd (no_root token rule slot fact.0)
  taken_slot token rule slot (IsActivatedOne activated) = taken_up model decisions state plan is (slot_token token rule slot) (inl activated)
  taken_slot token rule slot (IsMergedOne target merged) = taken_up model decisions state plan is (slot_token token rule slot) (inr (target, merged))
  taken_slot token rule slot (IsRejectedOne rejected) = absurd (slot_not_rejected token rule slot rejected)

  -- ---- locals

  pub activated_kept : (token : TokenName) → IsActivated decisions token → IsRejected decisions token → ⊥
  activated_kept token activated rejected = takes_not_rejected model decisions state is.settled false token activated rejected

  local_value : (token : TokenName) (rule number : ℕ) → AsksForLocal model plan token rule number → HasDeclaredValue model plan (variables.Local token rule number)
  local_value token rule number asks =
      let block : TokenBlock = record { token = token; rule = rule; path = asks.path } in
      let down = open_down model decisions state plan is block asks.entries asks.is_open in
      let stands : StandsOpen model state token rule number = record {
        block = block;
        is_open = block_there block asks.entries asks.is_open;
        of_token = refl;
        of_rule = refl;
        entries = asks.entries;
        is_block = HasBlock-map model _ (λ guard side. ⊤) (λ guard side opens. tt) block asks.entries down.has_block;
        stands = asks.stands;
      } in
      let given = ((is_state model decisions state plan is).variables (variables.Local token rule number)).0 stands in
      declared_value model decisions state plan is (variables.Local token rule number) given.0 given.1
      (λ rejected. activated_kept token down.activated (subst (λ t. IsRejected decisions t) (sym rejected.1) rejected.2))

  pub keeps_open : (place : Place) → KeepsOpen model plan place
  keeps_open (places.Slot line rule slot) = λ token at asks. taken_slot token rule slot (becomes_of model decisions state plan is (slot_token token rule slot) (slot_there token rule slot asks))
  keeps_open (places.Local line rule number) = λ token at asks. local_value token rule number asks
  keeps_open (places.Global number) = tt
  keeps_open (places.Root number) = tt
  keeps_open (places.Line number) = tt
  keeps_open (places.Problem number) = tt
  keeps_open (places.Item line rule item) = tt
  keeps_open (places.Pair one other) = tt
  keeps_open (places.Instant object instant) = tt

  -- ---- what is there is asked for

  asked_token : (token : TokenName) → Contains state.tokens token → IsAskedToken model plan token
  asked_token token there = λ front step e.
      let asks = (is.founded.tokens token there).asked front step [] e in
      record {
        path = asks.path;
        entries = asks.entries;
        is_open = open_up model decisions state plan is (record { token = front_token token front; rule = step.rule; path = asks.path }) asks.entries asks.is_open;
        stands = asks.stands;
      }

  asked_local : (token : TokenName) (rule number : ℕ) (value : ℤ) → GivesOnly state (variables.Local token rule number) value → AsksForLocal model plan token rule number
  asked_local token rule number value has =
      let stands : StandsOpen model state token rule number = ((is_state model decisions state plan is).variables (variables.Local token rule number)).1 (has.0, has.1) in
      let ground = is.founded.blocks stands.block stands.is_open in
      let up = open_up model decisions state plan is stands.block ground.0 ground.1.is_open in
      let same = block_once model _ _ stands.block stands.entries ground.0 stands.is_block ground.1.is_open.has_block in
      let block : stands.block ≡ record { token = token; rule = rule; path = stands.block.path } = λ i. record { token = stands.of_token i; rule = stands.of_rule i; path = stands.block.path } in
      record {
        path = stands.block.path;
        entries = ground.0;
        is_open = subst (λ (b : TokenBlock). IsOpen model (plan_situation plan) b ground.0) block up;
        stands = subst (λ (e : Entries). Contains (direct e) (OfLocal number)) same stands.stands;
      }

  asked : (line : the_line.Line) → IsLineIn model decisions state line → IsAsked model plan line
  asked (lines.Token token fact values) line = asked_token token line.there
  asked (lines.Merged token target) line = asked_token token line.0
  asked (lines.Rejected token) line = asked_token token line.0
  asked (lines.Local (variables.Local token rule number) value) line = asked_local token rule number value line.1
  asked (lines.Local (variables.Token token part) value) line = tt
  asked (lines.Local (variables.Global number) value) line = tt

  pub keeps_asked : (place : Place) → KeepsAsked model plan place
  keeps_asked (places.Line number) = λ line at. asked line (said model decisions state plan is number line at)
  keeps_asked (places.Global number) = tt
  keeps_asked (places.Root number) = tt
  keeps_asked (places.Slot line rule slot) = tt
  keeps_asked (places.Local line rule number) = tt
  keeps_asked (places.Problem number) = tt
  keeps_asked (places.Item line rule item) = tt
  keeps_asked (places.Pair one other) = tt
  keeps_asked (places.Instant object instant) = tt

  -- ---- items of rules

  module _ (token : TokenName) (rule : ℕ) (placed : PlacedItem) (entries : Entries) (open_block : IsOpenIn model plan token rule placed.path entries)
      (number : ℕ) (is_item : IsItemOf open_block.has_block.rule number placed) where
    stands : slice_get (direct entries) placed.place ≡ Some (OfItem placed.item)
    stands = item_stands _ open_block.has_block.rule number placed entries is_item open_block.has_block.way

    consistent : (claim : Claim) → ItemSays model (IsTaken decisions) (InRule token rule) placed.item claim → IsClaimConsistent model state claim
    consistent claim says = is.settled.consistent.claims claim (inr (inl (record {
      block = record { token = token; rule = rule; path = placed.path };
      entries = entries;
      item = placed.item;
      is_open = block_there (record { token = token; rule = rule; path = placed.path }) entries open_block;
      has_block = HasBlock-map model _ (λ guard side. ⊤) (λ guard side opens. tt) (record { token = token; rule = rule; path = placed.path }) entries open_block.has_block;
      stands = contains_from_get (direct entries) placed.place (OfItem placed.item) stands;
      says = says;
    })))

    lawful_item : IsLawfulItem model (OfRule open_block.has_block.slot.pred open_block.has_block.rule) placed.item
    lawful_item =
        let has = open_block.has_block in
        let fine = (few_rule model has.slot.pred rule has.rule is.settled.lawful has.has_rule).lawful in
        let way = Follows-map _ (λ guard side. ⊤) (λ guard side opens. tt) has.rule.top placed.path entries has.way in
        (fine.entries placed.path placed.place (OfItem placed.item) (record { block = entries; way = way; stands = stands })).1.0

    token_activated : IsActivated decisions token
    token_activated = (open_down model decisions state plan is (record { token = token; rule = rule; path = placed.path }) entries open_block).activated

    two_true : (slot : ℕ) (claim : Claim) → IsClaimConsistent model state claim → (one other : Part)
        → (claim.arguments ≡ part_of token one ∷ part_of (slot_token token rule slot) other ∷ []) ⊎ (claim.arguments ≡ part_of (slot_token token rule slot) other ∷ part_of token one ∷ [])
        → IsClaimTrue model plan claim
    two_true slot claim has one other (inl are) =
        claim_true model decisions state plan is claim (part_of token one) (part_of (slot_token token rule slot) other ∷ []) are
        (subst (λ list. AreKept model decisions state plan is list) (sym are) (
          part_kept model decisions state plan is token one (activated_kept token token_activated),
          (part_kept model decisions state plan is (slot_token token rule slot) other (slot_not_rejected token rule slot), tt),
        )) has
    two_true slot claim has one other (inr are) =
        claim_true model decisions state plan is claim (part_of (slot_token token rule slot) other) (part_of token one ∷ []) are
        (subst (λ list. AreKept model decisions state plan is list) (sym are) (
          part_kept model decisions state plan is (slot_token token rule slot) other (slot_not_rejected token rule slot),
          (part_kept model decisions state plan is token one (activated_kept token token_activated), tt),
        )) has

    true_by : (item : Item) → IsLawfulItem model (OfRule open_block.has_block.slot.pred open_block.has_block.rule) item
        → ((claim : Claim) → ItemSays model (IsTaken decisions) (InRule token rule) item claim → IsClaimConsistent model state claim)
        → (claim : Claim) → ItemSays model (IsTakenIn plan) (InRule token rule) item claim → IsClaimTrue model plan claim
    true_by (Constraint kind terms) lawful has claim says =
        let down = says_further model (IsTakenIn plan) (IsTaken decisions) (taken_down model decisions state plan is) (InRule token rule) (Constraint kind terms) claim says in
        let some = some_arguments model (OfRule open_block.has_block.slot.pred open_block.has_block.rule) kind terms claim.arguments
        (sym (AllZip-long (Means (InRule token rule)) terms claim.arguments down.means)) lawful.0 lawful.1 in
        claim_true model decisions state plan is claim some.0 some.1.0 some.1.1
        (all_kept model decisions state plan is claim.arguments down.counts)
        (has claim down)
    true_by (Relation relation slot) lawful has claim says =
        let two = of_two relation token (slot_token token rule slot) claim says in
        two_true slot claim (has claim says) two.one two.other two.are

    true_here : (claim : Claim) → ItemSays model (IsTakenIn plan) (InRule token rule) placed.item claim → IsClaimTrue model plan claim
    true_here claim says = true_by placed.item lawful_item consistent claim says

  pub keeps_items : (place : Place) → KeepsItems model plan place
  keeps_items (places.Problem number) = λ item at. keeps_problem model decisions state plan is number item at
  keeps_items (places.Item line rule number) = λ token at placed entries open_block claim is_item says. true_here token rule placed entries open_block number is_item claim says
  keeps_items (places.Global number) = tt
  keeps_items (places.Root number) = tt
  keeps_items (places.Line number) = tt
  keeps_items (places.Slot line rule slot) = tt
  keeps_items (places.Local line rule local) = tt
  keeps_items (places.Pair one other) = tt
  keeps_items (places.Instant object instant) = tt
