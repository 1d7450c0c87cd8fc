-- A closed state without what isn't supported in it is closed too.
use Rattle.std.proofs.Common.{◌≡◌, ℕ, inl, inr, List, [], ◌∷◌, ◌++◌, refl, sym, ◌∙◌, subst}
use Rattle.std.specs.Prelude.{All, Contains, map}
use Rattle.std.specs.List.{AllZip}
use Rattle.std.proofs.lemmas.List.Elements.{All-contains, All-head, All-tail}
use Rattle.domain_core.specs.Domain.{Domain}
use Rattle.domain_core.proofs.Words.{IsWithin-refl}
use Rattle.eu_name.specs.declared.name.Part.{Part}
use Rattle.eu_name.specs.declared.name.Part.TheVariants.{Start, End, Object}
use Rattle.eu_name.specs.declared.name.Step.{Step}
use Rattle.eu_name.specs.declared.name.TokenName.{TokenName}
use Rattle.eu_name.specs.declared.name.VarName.{VarName}
use Rattle.eu_name.specs.declared.name.VarName.TheVariants as names
use Rattle.eu_name.specs.NameOrder.{IsTokenBefore}
use Rattle.eu_name.proofs.Members.{get_from_contains}
use Rattle.eu_name.proofs.Orders.{token_order}
use Rattle.model_core.specs.declared.decision.ConArg.{ConArg}
use Rattle.model_core.specs.declared.decision.ConArg.TheVariants as given
use Rattle.model_core.specs.declared.decision.Decision.{Decision}
use Rattle.model_core.specs.declared.decision.Decision.TheVariants.{Specify, Activate, Merge, Reject, Order, Constrain, Relate}
use Rattle.model_core.specs.declared.item.Item.{Item}
use Rattle.model_core.specs.declared.item.Item.TheVariants.{Constraint, Relation}
use Rattle.model_core.specs.declared.item.Term.{Term}
use Rattle.model_core.specs.declared.item.Term.TheVariants.{Lit, Here, Slot, Local, Global, Root}
use Rattle.model_core.specs.declared.model.Model.{Model}
use Rattle.model_core.specs.declared.model.Root as the_root
use Rattle.model_core.specs.declared.rule.Slot as the_slot
use Rattle.model_core.specs.Blocks.{TokenBlock, IsBlockBefore, OfSlot, OfLocal, OfItem, direct}
use Rattle.model_core.specs.Decided.{IsActivated, IsActive, IsTaken, IsRejected}
use Rattle.model_core.specs.Entries.{Entries}
use Rattle.model_core.specs.Lawful.{IsLawful, IsToken}
use Rattle.model_core.specs.Standing.{IsTermSeen, IsItemSeen, IsSeen}
use Rattle.model_core.specs.State.{State, Gives, StandsOpen, IsAbout, IsBlockOf, IsBelow}
use Rattle.model_core.specs.Tokens.{HasToken, IsRoot, root_token, slot_token}
use Rattle.plan_defs.specs.Claims.{Claim, IsClaim, ItemSays, Posts, argument_of, part_of, at_most}
use Rattle.plan_defs.specs.Closure.{IsPropagatedState, IsClosed, IsRespected}
use Rattle.plan_defs.specs.Consistency.{IsClaimConsistent}
use Rattle.plan_defs.specs.Situations.{Situation, situation_of}
use Rattle.plan_defs.specs.Support.{IsSupportedToken, IsSupportedBlock}
use Rattle.plan_defs.specs.Terms.{InProblem, InRule, Argument, Value, Variable, Means, HasDomain}
use Rattle.plan_defs.proofs.Lower.{Follows-map, HasBlock-map, asks_as_much, turn_below}
use Rattle.eu_name.proofs.Ordered.{contains_head, contains_later}
use Rattle.plan_defs.proofs.States.{gives_same, gives_domain}
use Rattle.plan_defs.proofs.Reservoirs.{reservoirs_above}
use Rattle.plan_defs.proofs.Resources.{reusables_above}
use Rattle.model_core.proofs.Blocks.{block_once}
use Rattle.model_core.proofs.Lawful.{rule_lawful}
use Rattle.law_states.proofs.Relating.{IsOfTwo, of_two}
use Rattle.law_states.proofs.Seeing.{outer_open, supported_slot}
use Rattle.law_states.proofs.Listing.{Chosen, chosen}
use Rattle.law_states.proofs.Making.{Made, MayBeState, made, about_more}
use Rattle.law_states.proofs.Paths.{block_order}
use Rattle.law_states.proofs.TellingSupport.{supported_or_not, supported_block_or_not}

-- ---- what decisions name

module _ (model : Model) (situation : Situation) where
  -- the local stands in a supported block of the token and the rule
  pub record StandsSupported (token : TokenName) (rule number : ℕ) : Type 0 where
    pub block : TokenBlock
    pub of_token : block.token ≡ token
    pub of_rule : block.rule ≡ rule
    pub entries : Entries
    pub supported : IsSupportedBlock model situation block entries
    pub stands : Contains (direct entries) (OfLocal number)

  -- the variable is one of the problem or of a supported token, or it stands in a supported block
  abbrev pub IsSupportedVariable : VarName → Type 0
  IsSupportedVariable (names.Global number) = Unit {0}
  IsSupportedVariable (names.Token token part) = IsSupportedToken model situation token
  IsSupportedVariable (names.Local token rule number) = StandsSupported token rule number

  -- if the argument is a variable, it is a supported one
  abbrev pub IsSupportedArgument : ConArg → Type 0
  IsSupportedArgument (given.Var name) = IsSupportedVariable name
  IsSupportedArgument (given.Value value) = Unit {0}

  -- the tokens that the decision names, and the variables of a constraint that it posts, are supported
  abbrev pub AreNamedSupported : Decision → Type 0
  AreNamedSupported (Specify name value) = Unit {0}
  AreNamedSupported (Activate token) = IsSupportedToken model situation token
  AreNamedSupported (Merge token target) = IsSupportedToken model situation token × IsSupportedToken model situation target
  AreNamedSupported (Reject token) = IsSupportedToken model situation token
  AreNamedSupported (Order one other) = IsSupportedToken model situation one × IsSupportedToken model situation other
  AreNamedSupported (Constrain kind arguments) = All IsSupportedArgument arguments
  AreNamedSupported (Relate relation one other) = IsSupportedToken model situation one × IsSupportedToken model situation other

-- a root is supported in any situation
pub root_supported : (model : Model) (decisions : List Decision) (state : State) (token : TokenName) (root : the_root.Root) → token.steps ≡ [] → IsRoot model token.root root
    → IsSupportedToken model (situation_of decisions state) token
root_supported model decisions state token root none is = record {
  root = root;
  is_root = is;
  asked = λ front step back are. absurd (no_split front step back (sym none ∙ are));
}
  where
    no_split : (front : List Step) (step : Step) (back : List Step) → [] ≡ front ++ step ∷ back → ⊥
    no_split [] step back are = cc
    no_split (first ∷ front) step back are = cc

module _ (model : Model) (decisions : List Decision) (state : State) (lawful : IsLawful model) (fit : IsPropagatedState model decisions state)
    (named : (decision : Decision) → Contains decisions decision → AreNamedSupported model (situation_of decisions state) decision) where
  abbrev Supported : TokenName → Type 0
  Supported token = IsSupportedToken model (situation_of decisions state) token

  abbrev SupportedBlock : TokenBlock → Type 0
  SupportedBlock block = (entries : Entries) × IsSupportedBlock model (situation_of decisions state) block entries

  token_of : (token : TokenName) → Contains state.tokens token → IsToken model token
  token_of token there = All-contains (λ token. (slot : the_slot.Slot) × HasToken model token slot) state.tokens token fit.is_state.tokens there

  of_model : (token : TokenName) → IsActivated decisions token → IsToken model token
  of_model token activated = token_of token (fit.tokens token (named (Activate token) activated))

  block_of : (block : TokenBlock) → Contains state.blocks block → IsBlockOf model state block
  block_of block there = All-contains (IsBlockOf model state) state.blocks block fit.is_state.blocks there

  some_tokens : Chosen IsTokenBefore Supported state.tokens
  some_tokens = chosen IsTokenBefore token_order Supported state.tokens (λ token there. supported_or_not model decisions state fit of_model token (token_of token there))

  some_blocks : Chosen IsBlockBefore SupportedBlock state.blocks
  some_blocks = chosen IsBlockBefore block_order SupportedBlock state.blocks
      (λ block there. supported_block_or_not model decisions state fit of_model block (token_of block.token (block_of block there).0))

  module _ (some : Chosen IsTokenBefore Supported state.tokens) (opened : Chosen IsBlockBefore SupportedBlock state.blocks) where
    may_be : MayBeState model some.list opened.list
    may_be = record {
      tokens_order = some.order;
      blocks_order = opened.order;
      are_tokens = λ token there. token_of token ((some.are token).0 there).0;
      are_blocks = λ block there. (block_of block ((opened.are block).0 there).0).1;
      owned = λ block there.
          let both = (opened.are block).0 there in
          (some.are block.token).1 ((block_of block both.0).0, both.1.1.supported);
    }

    all_made : Made model some.list opened.list (Gives state)
    all_made = made model some.list opened.list (Gives state) may_be (gives_domain model state fit.is_state)
        (λ name about. (fit.is_state.variables name).0
        (about_more model (record { tokens = some.list; blocks = opened.list; entries = [] }) state (λ token there. ((some.are token).0 there).0) (λ block there. ((opened.are block).0 there).0) name about))

    module _ (whole : Made model some.list opened.list (Gives state)) where
      abbrev pub pruned : State
      pruned = record { tokens = some.list; blocks = opened.list; entries = whole.entries }

      below : IsBelow pruned state
      below = record {
        tokens = λ token there. ((some.are token).0 there).0;
        blocks = λ block there. ((opened.are block).0 there).0;
        variables = λ name domain gives. (domain, whole.are name domain gives, IsWithin-refl domain);
      }

      -- ---- which variables stay

      abbrev Stays : VarName → Type 0
      Stays (names.Global number) = Unit {0}
      Stays (names.Token token part) = Supported token
      Stays (names.Local token rule number) = StandsOpen model pruned token rule number

      about_still : (name : VarName) → IsAbout model state name → Stays name → IsAbout model pruned name
      about_still (names.Global number) is stays = is
      about_still (names.Token token part) is stays = ((some.are token).1 (is.0, stays), is.1)
      about_still (names.Local token rule number) is stays = stays

      gives_still : (name : VarName) (domain : Domain) → Gives state name domain → Stays name → Gives pruned name domain
      gives_still name domain gives stays =
          let found = (whole.is_state.variables name).0 (about_still name ((fit.is_state.variables name).1 (domain, gives)) stays) in
          subst (Gives pruned name) (gives_same state fit.is_state.order name found.0 domain (whole.are name found.0 found.1) gives) found.1

      abbrev StaysArgument : Argument → Type 0
      StaysArgument (Value value) = Unit {0}
      StaysArgument (Variable name) = Stays name

      -- those that the state gives stay
      abbrev AllStay : List Argument → Type 0
      AllStay [] = Unit {0}
      AllStay (argument ∷ arguments) = ((domain : Domain) → HasDomain (Gives state) argument domain → StaysArgument argument) × AllStay arguments

      has_still : (argument : Argument) (domain : Domain) → HasDomain (Gives state) argument domain → StaysArgument argument → HasDomain (Gives pruned) argument domain
      has_still (Value value) domain has stays = has
      has_still (Variable name) domain has stays = gives_still name domain has stays

      have_still : (arguments : List Argument) (domains : List Domain) → AllStay arguments → AllZip (HasDomain (Gives state)) arguments domains
          → AllZip (HasDomain (Gives pruned)) arguments domains
      have_still [] [] stay have = have
      have_still [] (domain ∷ domains) stay have = absurd have
      have_still (argument ∷ arguments) [] stay have = absurd have
      have_still (argument ∷ arguments) (domain ∷ domains) stay have =
          (has_still argument domain have.0 (stay.0 domain have.0), have_still arguments domains stay.1 have.1)

      claim_still : (claim : Claim) → AllStay claim.arguments → IsClaimConsistent model state claim → IsClaimConsistent model pruned claim
      claim_still claim stay is = record { domains = is.domains; have = have_still claim.arguments is.domains stay is.have; agree = is.agree }

      -- ---- what claims are about

      parts_stay : (a b : TokenName) (p q : Part) → Supported a → Supported b → AllStay (part_of a p ∷ part_of b q ∷ [])
      parts_stay a b p q one other = (λ domain has. one, (λ domain has. other, tt))

      two_stay : (a b : TokenName) (claim : Claim) → IsOfTwo a b claim → Supported a → Supported b → AllStay claim.arguments
      two_stay a b claim is one other = elim is.are [
        | inl forth ↦ subst AllStay (sym forth) (parts_stay a b is.one is.other one other)
        | inr back ↦ subst AllStay (sym back) (parts_stay b a is.other is.one other one)
      ]

      root_stays : (number : ℕ) (part : Part) (domain : Domain) → Gives state (names.Token (root_token number) part) domain → Supported (root_token number)
      root_stays number part domain gives =
          let of = token_of (root_token number) ((fit.is_state.variables (names.Token (root_token number) part)).1 (domain, gives)).0 in
          root_supported model decisions state (root_token number) of.1.root refl of.1.is_root

      stays_as : (argument other : Argument) → argument ≡ other → ((domain : Domain) → HasDomain (Gives state) other domain → StaysArgument other)
          → (domain : Domain) → HasDomain (Gives state) argument domain → StaysArgument argument
      stays_as argument other same stays =
          subst (λ (a : Argument). (domain : Domain) → HasDomain (Gives state) a domain → StaysArgument a) (sym same) stays

      problem_stays : (term : Term) (argument : Argument) → Means InProblem term argument → (domain : Domain) → HasDomain (Gives state) argument domain → StaysArgument argument
      problem_stays (Lit value) argument means = stays_as argument (Value value) means (λ domain has. tt)
      problem_stays (Global number) argument means = stays_as argument (Variable (names.Global number)) means (λ domain has. tt)
      problem_stays (Root number part) argument means = stays_as argument (Variable (names.Token (root_token number) part)) means (λ domain has. root_stays number part domain has)
      problem_stays (Here part) argument means = absurd means
      problem_stays (Slot number part) argument means = absurd means
      problem_stays (Local number) argument means = absurd means

      problem_terms_stay : (terms : List Term) (arguments : List Argument) → AllZip (Means InProblem) terms arguments → AllStay arguments
      problem_terms_stay [] [] means = tt
      problem_terms_stay [] (argument ∷ arguments) means = absurd means
      problem_terms_stay (term ∷ terms) [] means = absurd means
      problem_terms_stay (term ∷ terms) (argument ∷ arguments) means = (problem_stays term argument means.0, problem_terms_stay terms arguments means.1)

      module _ (block : TokenBlock) (entries : Entries) (is : IsSupportedBlock model (situation_of decisions state) block entries) where
        slot_stays : (number : ℕ) → IsSeen is.is_open.has_block.rule.top block.path (OfSlot number) → Supported (slot_token block.token block.rule number)
        slot_stays number seen =
            let out = outer_open model (situation_of decisions state) block entries is.is_open (OfSlot number) seen in
            supported_slot model (situation_of decisions state) block.token (record { rule = block.rule; slot = number }) is.supported
            (record { path = seen.outer; entries = out.inside; is_open = out.is_open; stands = out.stands })

        local_stays : (number : ℕ) → IsSeen is.is_open.has_block.rule.top block.path (OfLocal number) → StandsOpen model pruned block.token block.rule number
        local_stays number seen =
            let out = outer_open model (situation_of decisions state) block entries is.is_open (OfLocal number) seen in
            let outer : TokenBlock = record { token = block.token; rule = block.rule; path = seen.outer } in
            let supported : IsSupportedBlock model (situation_of decisions state) outer out.inside = record { supported = is.supported; is_open = out.is_open } in
            record {
              block = outer;
              is_open = (opened.are outer).1 (fit.blocks outer out.inside supported, (out.inside, supported));
              of_token = refl;
              of_rule = refl;
              entries = out.inside;
              is_block = HasBlock-map model _ (λ guard side. Unit {0}) (λ guard side opens. tt) outer out.inside out.is_open.has_block;
              stands = out.stands;
            }

        term_stays : (term : Term) (argument : Argument) → IsTermSeen is.is_open.has_block.rule.top block.path term → Means (InRule block.token block.rule) term argument
            → (domain : Domain) → HasDomain (Gives state) argument domain → StaysArgument argument
        term_stays (Lit value) argument seen means = stays_as argument (Value value) means (λ domain has. tt)
        term_stays (Global number) argument seen means = stays_as argument (Variable (names.Global number)) means (λ domain has. tt)
        term_stays (Root number part) argument seen means = stays_as argument (Variable (names.Token (root_token number) part)) means (λ domain has. root_stays number part domain has)
        term_stays (Here part) argument seen means = stays_as argument (Variable (names.Token block.token part)) means (λ domain has. is.supported)
        term_stays (Slot number part) argument seen means =
            stays_as argument (Variable (names.Token (slot_token block.token block.rule number) part)) means (λ domain has. slot_stays number seen)
        term_stays (Local number) argument seen means = stays_as argument (Variable (names.Local block.token block.rule number)) means (λ domain has. local_stays number seen)

        terms_stay : (terms : List Term) (arguments : List Argument) → ((term : Term) → Contains terms term → IsTermSeen is.is_open.has_block.rule.top block.path term)
            → AllZip (Means (InRule block.token block.rule)) terms arguments → AllStay arguments
        terms_stay [] [] seen means = tt
        terms_stay [] (argument ∷ arguments) seen means = absurd means
        terms_stay (term ∷ terms) [] seen means = absurd means
        terms_stay (term ∷ terms) (argument ∷ arguments) seen means =
            (term_stays term argument (seen term (contains_head term terms)) means.0, terms_stay terms arguments (λ other there. seen other (contains_later term other terms there)) means.1)

        item_stays : (item : Item) (claim : Claim) → IsItemSeen is.is_open.has_block.rule.top block.path item → ItemSays model (IsTaken decisions) (InRule block.token block.rule) item claim
            → AllStay claim.arguments
        item_stays (Constraint kind terms) claim seen says =
            terms_stay terms claim.arguments (λ term there. All-contains (IsTermSeen is.is_open.has_block.rule.top block.path) terms term seen there) says.means
        item_stays (Relation relation slot) claim seen says =
            two_stay block.token (slot_token block.token block.rule slot) claim (of_two relation block.token (slot_token block.token block.rule slot) claim says) is.supported (slot_stays slot seen)

        -- what stands in the block is seen from it
        stood_seen : (item : Item) → Contains (direct entries) (OfItem item) → IsItemSeen is.is_open.has_block.rule.top block.path item
        stood_seen item stands =
            let has = is.is_open.has_block in
            let at = get_from_contains (direct entries) (OfItem item) stands in
            let way = Follows-map _ (λ guard side. Unit {0}) (λ guard side opens. tt) has.rule.top block.path entries has.way in
            ((rule_lawful model lawful has.slot.pred block.rule has.rule has.has_rule).entries block.path at.0 (OfItem item) (record { block = entries; way = way; stands = at.1 })).1.1

      problem_item_stays : (item : Item) (claim : Claim) → ItemSays model (IsTaken decisions) InProblem item claim → AllStay claim.arguments
      problem_item_stays (Constraint kind terms) claim says = problem_terms_stay terms claim.arguments says.means
      problem_item_stays (Relation relation slot) claim says = absurd says

      -- what is posted

      variable_stays : (name : VarName) → IsSupportedVariable model (situation_of decisions state) name → Stays name
      variable_stays (names.Global number) is = tt
      variable_stays (names.Token token part) is = is
      variable_stays (names.Local token rule number) is = record {
        block = is.block;
        is_open = (opened.are is.block).1 (fit.blocks is.block is.entries is.supported, (is.entries, is.supported));
        of_token = is.of_token;
        of_rule = is.of_rule;
        entries = is.entries;
        is_block = HasBlock-map model _ (λ guard side. Unit {0}) (λ guard side opens. tt) is.block is.entries is.supported.is_open.has_block;
        stands = is.stands;
      }

      argument_stays : (argument : ConArg) → IsSupportedArgument model (situation_of decisions state) argument → StaysArgument (argument_of argument)
      argument_stays (given.Var name) is = variable_stays name is
      argument_stays (given.Value value) is = tt

      arguments_stay : (arguments : List ConArg) → All (IsSupportedArgument model (situation_of decisions state)) arguments → AllStay (map argument_of arguments)
      arguments_stay [] are = tt
      arguments_stay (argument ∷ arguments) are = (
        λ domain has. argument_stays argument (All-head (IsSupportedArgument model (situation_of decisions state)) argument arguments are),
        arguments_stay arguments (All-tail (IsSupportedArgument model (situation_of decisions state)) argument arguments are),
      )

      posted_stays : (decision : Decision) (claim : Claim) → AreNamedSupported model (situation_of decisions state) decision → Posts decision claim → AllStay claim.arguments
      posted_stays (Specify name value) claim are posts = absurd posts
      posted_stays (Activate token) claim are posts = absurd posts
      posted_stays (Merge token target) claim are posts = absurd posts
      posted_stays (Reject token) claim are posts = absurd posts
      posted_stays (Order one other) claim are posts = absurd posts
      posted_stays (Constrain kind arguments) claim are posts = subst (λ (c : Claim). AllStay c.arguments) (sym posts) (arguments_stay arguments are)
      posted_stays (Relate relation one other) claim are posts = two_stay one other claim (of_two relation one other claim posts) are.0 are.1

      claim_stays : (claim : Claim) → IsClaim model decisions pruned claim → AllStay claim.arguments
      claim_stays claim (inl p) = problem_item_stays p.item claim p.says
      claim_stays claim (inr (inl p)) =
          let supported = ((opened.are p.block).0 p.is_open).1 in
          let same = block_once model _ _ p.block p.entries supported.0 p.has_block supported.1.is_open.has_block in
          item_stays p.block supported.0 supported.1 p.item claim
          (stood_seen p.block supported.0 supported.1 p.item (subst (λ (e : Entries). Contains (direct e) (OfItem p.item)) same p.stands)) p.says
      claim_stays claim (inr (inr (inl p))) =
          let supported = ((some.are p.token).0 p.there).1 in
          subst (λ (c : Claim). AllStay c.arguments) (sym p.says) (λ domain has. supported, (λ domain has. supported, (λ domain has. supported, tt)))
      claim_stays claim (inr (inr (inr (inl p)))) =
          let both = named (Merge p.token p.target) p.merged in
          subst (λ (c : Claim). AllStay c.arguments) (sym p.says) (parts_stay p.token p.target p.part p.part both.0 both.1)
      claim_stays claim (inr (inr (inr (inr (inl p))))) =
          let both = named (Order p.one p.other) p.ordered in
          subst (λ (c : Claim). AllStay c.arguments) (sym p.says) (parts_stay p.one p.other End Start both.0 both.1)
      claim_stays claim (inr (inr (inr (inr (inr p))))) = posted_stays p.decision claim (named p.decision p.stands) p.posts

      -- ---- it is closed

      respected : (decision : Decision) → IsRespected decision state → IsRespected decision pruned
      respected (Specify name value) is = λ domain gives. is domain (whole.are name domain gives)
      respected (Activate token) is = tt
      respected (Merge token target) is = tt
      respected (Reject token) is = tt
      respected (Order before after) is = tt
      respected (Constrain kind arguments) is = tt
      respected (Relate relation before after) is = tt

      on_supported : (token : TokenName) (domain : Domain) → Gives pruned (names.Token token Object) domain → Supported token
      on_supported token domain gives = ((some.are token).0 ((whole.is_state.variables (names.Token token Object)).1 (domain, gives)).0).1

      consistent : IsPropagatedState model decisions pruned
      consistent =
          let asks = asks_as_much model decisions pruned state below in
          record {
            is_state = whole.is_state;
            tokens = λ token supported. let is = asks.tokens token supported in (some.are token).1 (fit.tokens token is, is);
            blocks = λ block entries supported. let is = asks.blocks block entries supported in (opened.are block).1 (fit.blocks block entries is, (entries, is));
            in_base = λ name domain gives. fit.in_base name domain (whole.are name domain gives);
            respected = λ decision there. respected decision (fit.respected decision there);
            claims = λ claim is. claim_still claim (claim_stays claim is) (fit.claims claim (asks.claims claim is));
            timelines = λ before after share late.
                let turn = turn_below model decisions pruned state whole.is_state fit.is_state below before after (record { share = share; late = late }) in
                claim_still (at_most (part_of after End) (part_of before Start))
                (parts_stay after before End Start (on_supported after share.other_on.0 share.other_on.1) (on_supported before share.one_on.0 share.one_on.1))
                (fit.timelines before after turn.share turn.late);
          }

      active_stays : (token : TokenName) → IsActive model decisions token → Contains pruned.tokens token
      active_stays token (inl fact) =
          let supported = root_supported model decisions state token fact.1.0 fact.0 fact.1.1 in
          (some.are token).1 (fit.tokens token supported, supported)
      active_stays token (inr activated) =
          let supported = named (Activate token) activated in
          (some.are token).1 (fit.tokens token supported, supported)

      closed : ((token : TokenName) → IsRejected decisions token → IsTaken decisions token → ⊥) → IsClosed model decisions state → IsClosed model decisions pruned
      closed apart is = record {
        consistent = consistent;
        reusables = reusables_above model decisions pruned state whole.is_state fit.is_state below is.reusables;
        reservoirs = reservoirs_above model decisions pruned state consistent fit below (record { apart = apart; active = active_stays }) is.reservoirs;
      }

  -- a closed state that has nothing but what is supported in the state
  pub record Founded : Type 0 where
    pub low : State
    pub closed : IsClosed model decisions low
    pub tokens : (token : TokenName) → Contains low.tokens token → IsSupportedToken model (situation_of decisions state) token
    pub blocks : (block : TokenBlock) → Contains low.blocks block → (entries : Entries) × IsSupportedBlock model (situation_of decisions state) block entries

  pub founded : ((token : TokenName) → IsRejected decisions token → IsTaken decisions token → ⊥) → IsClosed model decisions state → Founded
  founded apart is = record {
    low = pruned some_tokens some_blocks (all_made some_tokens some_blocks);
    closed = closed some_tokens some_blocks (all_made some_tokens some_blocks) apart is;
    tokens = λ token there. ((some_tokens.are token).0 there).1;
    blocks = λ block there. ((some_blocks.are block).0 there).1;
  }
