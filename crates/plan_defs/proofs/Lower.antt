-- What is asked for in one situation is asked for in each that goes further.
use Rattle.std.proofs.Common.{List, [], ◌∷◌, ◌++◌, inl, inr, ℤ, ◌≤ℤ◌, subst, arith}
use Rattle.std.specs.Prelude.{Contains}
use Rattle.std.proofs.lemmas.Int.{ints}
use Rattle.std.proofs.lemmas.List.Elements.{All-weaker, Contains-append_left}
use Rattle.domain_core.specs.Domain.{Domain, IsDomain, IsWithin, Has, least, greatest}
use Rattle.domain_core.proofs.Words.{IsWithin-refl, has_least, has_greatest, between_ends}
use Rattle.eu_name.specs.declared.name.Part.TheVariants.{Start, End, Object}
use Rattle.eu_name.specs.declared.name.Step.{Step}
use Rattle.eu_name.specs.declared.name.TokenName.{TokenName}
use Rattle.eu_name.specs.declared.name.VarName.{VarName}
use Rattle.eu_name.specs.declared.name.VarName.TheVariants.{Token}
use Rattle.model_core.specs.declared.decision.Decision.{Decision}
use Rattle.model_core.specs.declared.item.Item.{Item}
use Rattle.model_core.specs.declared.item.Item.TheVariants.{Constraint, Relation}
use Rattle.model_core.specs.declared.item.Term.{Term}
use Rattle.model_core.specs.declared.model.Model.{Model}
use Rattle.model_core.specs.declared.rule.Guard.{Guard}
use Rattle.model_core.specs.declared.rule.Side.{Side}
use Rattle.model_core.specs.declared.rule.Turn.{Turn}
use Rattle.model_core.specs.Blocks.{TokenBlock, Follows, HasBlock, chosen}
use Rattle.model_core.specs.Decided.{IsActivated, IsTaken, IsActive}
use Rattle.model_core.specs.Entries.{Entries}
use Rattle.model_core.specs.State.{State, IsState, IsBelow}
use Rattle.plan_defs.specs.Claims.{Claim, IsClaim, ItemSays, IsOfProblem, IsOfBlock}
use Rattle.plan_defs.specs.Closure.{IsPropagatedState}
use Rattle.plan_defs.specs.Laws.{AsksAsMuch, HaveToTurn, HasWhatIsAsked}
use Rattle.plan_defs.specs.Situations.{Situation, situation_of}
use Rattle.plan_defs.specs.Support.{MayBe, Opens, IsOpen, AsksFor, IsSupportedToken, IsSupportedBlock, one_side, other_side}
use Rattle.plan_defs.specs.Terms.{Context, InProblem, InRule, Argument, Value, Variable, HasDomain, ArgumentCounts}
use Rattle.plan_defs.specs.Timelines.{IsOn, ShareTimeline, EndsTooLate}
use Rattle.plan_defs.proofs.States.{gives_domain}

-- within a smaller domain the ends lie between those of the larger
pub least_rises : (inner outer : Domain) → IsDomain inner → IsDomain outer → IsWithin inner outer → least outer ≤ℤ least inner
least_rises inner outer p q within = (between_ends outer (least inner) q (within.values (least inner) (has_least inner p))).0

pub greatest_falls : (inner outer : Domain) → IsDomain inner → IsDomain outer → IsWithin inner outer → greatest inner ≤ℤ greatest outer
greatest_falls inner outer p q within = (between_ends outer (greatest inner) q (within.values (greatest inner) (has_greatest inner p))).1

-- what holds of the guards on a way leads along it
pub Follows-map : (one other : Guard → Side → Type 0) → ((guard : Guard) (side : Side) → one guard side → other guard side)
    → (top : Entries) (path : List Turn) (block : Entries) → Follows one top path block → Follows other top path block
Follows-map one other to top [] block way = way
Follows-map one other to top (turn ∷ path) block way =
    (way.0, (way.1.0, way.1.1, (way.1.2.0, (to way.0 turn.side way.1.2.1.0, Follows-map one other to (chosen turn.side way.1.0 way.1.1) path block way.1.2.1.1))))

pub HasBlock-map : (model : Model) (one other : Guard → Side → Type 0) → ((guard : Guard) (side : Side) → one guard side → other guard side)
    → (block : TokenBlock) (entries : Entries) → HasBlock model one block entries → HasBlock model other block entries
HasBlock-map model one other to block entries p = record {
  slot = p.slot;
  has_token = p.has_token;
  rule = p.rule;
  has_rule = p.has_rule;
  way = Follows-map one other to p.rule.top block.path entries p.way;
}

-- the one situation goes further than the other: no fewer tokens are taken or activated, and each variable may be no more
pub record Further (from to : Situation) : Type 0 where
  pub taken : (token : TokenName) → from.taken token → to.taken token
  pub activated : (token : TokenName) → from.activated token → to.activated token
  pub gives : (name : VarName) (domain : Domain) → from.gives name domain → (smaller : Domain) × to.gives name smaller × IsWithin smaller domain

module _ (model : Model) (Before After : TokenName → Type 0) (up : (token : TokenName) → Before token → After token) where
  -- what counts goes on to count
  pub counts_further : (argument : Argument) → ArgumentCounts model Before argument → ArgumentCounts model After argument
  counts_further (Value value) counts = tt
  counts_further (Variable name) counts = λ token belongs rejectable. up token (counts token belongs rejectable)

  -- and what an item says it goes on to say
  pub says_further : (context : Context) (item : Item) (claim : Claim) → ItemSays model Before context item claim → ItemSays model After context item claim
  says_further context (Constraint kind terms) claim says = record {
    is_kind = says.is_kind;
    means = says.means;
    counts = All-weaker (ArgumentCounts model Before) (ArgumentCounts model After) counts_further claim.arguments says.counts;
  }
  says_further (InRule token rule) (Relation rel slot) claim says = says
  says_further InProblem (Relation rel slot) claim says = absurd says

  of_problem_further : (claim : Claim) → IsOfProblem model Before claim → IsOfProblem model After claim
  of_problem_further claim p = record { item = p.item; stands = p.stands; says = says_further InProblem p.item claim p.says }

  of_block_further : (Open Opened : TokenBlock → Type 0) → ((block : TokenBlock) → Open block → Opened block)
      → (claim : Claim) → IsOfBlock model Before Open claim → IsOfBlock model After Opened claim
  of_block_further Open Opened keeps claim p = record {
    block = p.block;
    entries = p.entries;
    item = p.item;
    is_open = keeps p.block p.is_open;
    has_block = p.has_block;
    stands = p.stands;
    says = says_further (InRule p.block.token p.block.rule) p.item claim p.says;
  }

module _ (model : Model) (from to : Situation) (further : Further from to) where
  -- what an argument may be has become less
  argument_further : (argument : Argument) (domain : Domain) → HasDomain from.gives argument domain
      → (smaller : Domain) × (HasDomain to.gives argument smaller × ((value : ℤ) → Has smaller value → Has domain value))
  argument_further (Value value) domain is = (domain, (is, λ v has. has))
  argument_further (Variable name) domain is = let found = further.gives name domain is in (found.0, (found.1, found.2.values))

  term_further : (context : Context) (term : Term) (domain : Domain) → MayBe model from context term domain
      → (smaller : Domain) × (MayBe model to context term smaller × ((value : ℤ) → Has smaller value → Has domain value))
  term_further context term domain is =
      let found = argument_further is.argument domain is.has in
      let counts = counts_further model from.taken to.taken further.taken is.argument is.counts in
      (found.0, (record { argument = is.argument; means = is.means; counts = counts; has = found.1.0 }, found.1.1))

  -- so a guard that opens a block goes on to open it
  pub opens_further : (context : Context) (guard : Guard) (side : Side) → Opens model from context guard side → Opens model to context guard side
  opens_further context guard side p =
      let one = term_further context (one_side guard) p.one p.is_one in
      let other = term_further context (other_side guard) p.other p.is_other in
      record {
        one = one.0;
        other = other.0;
        is_one = one.1.0;
        is_other = other.1.0;
        always = λ v w has_v has_w. p.always v w (one.1.1 v has_v) (other.1.1 w has_w);
      }

  pub open_further : (block : TokenBlock) (entries : Entries) → IsOpen model from block entries → IsOpen model to block entries
  open_further block entries p = record {
    activated = further.activated block.token p.activated;
    has_block = HasBlock-map model _ _ (opens_further (InRule block.token block.rule)) block entries p.has_block;
  }

  asks_further : (token : TokenName) (step : Step) → AsksFor model from token step → AsksFor model to token step
  asks_further token step p = record { path = p.path; entries = p.entries; is_open = open_further _ p.entries p.is_open; stands = p.stands }

  pub supported_further : (token : TokenName) → IsSupportedToken model from token → IsSupportedToken model to token
  supported_further token p = record { root = p.root; is_root = p.is_root; asked = λ front step back e. asks_further _ step (p.asked front step back e) }

  pub block_further : (block : TokenBlock) (entries : Entries) → IsSupportedBlock model from block entries → IsSupportedBlock model to block entries
  block_further block entries p = record { supported = supported_further block.token p.supported; is_open = open_further block entries p.is_open }

-- ---- further down

module _ (model : Model) (decisions : List Decision) (high low : State) (below : IsBelow high low) where
  pub further_below : Further (situation_of decisions high) (situation_of decisions low)
  further_below = record { taken = λ token taken. taken; activated = λ token activated. activated; gives = below.variables }

  claim_below : (claim : Claim) → IsClaim model decisions high claim → IsClaim model decisions low claim
  claim_below claim (inl p) = inl p
  claim_below claim (inr (inl p)) =
      inr (inl (of_block_further model (IsTaken decisions) (IsTaken decisions) (λ token taken. taken) (Contains high.blocks) (Contains low.blocks) below.blocks claim p))
  claim_below claim (inr (inr (inl p))) = inr (inr (inl (record { token = p.token; there = below.tokens p.token p.there; says = p.says })))
  claim_below claim (inr (inr (inr decided))) = inr (inr (inr decided))

  pub asks_as_much : AsksAsMuch model decisions high low
  asks_as_much = record {
    tokens = supported_further model (situation_of decisions high) (situation_of decisions low) further_below;
    blocks = block_further model (situation_of decisions high) (situation_of decisions low) further_below;
    claims = claim_below;
  }

module _ (model : Model) (decisions : List Decision) (high low : State) (high_ok : IsState model high) (low_ok : IsState model low) (below : IsBelow high low) where
  -- a token that can't end before another starts can't further down
  late_below : (one other : TokenName) → EndsTooLate high one other → EndsTooLate low one other
  late_below one other p =
      let end = below.variables (Token one End) p.end p.gives_end in
      let start = below.variables (Token other Start) p.start p.gives_start in
      let rises = least_rises end.0 p.end (gives_domain model low low_ok _ _ end.1) (gives_domain model high high_ok _ _ p.gives_end) end.2 in
      let falls = greatest_falls start.0 p.start (gives_domain model low low_ok _ _ start.1) (gives_domain model high high_ok _ _ p.gives_start) start.2 in
      let late = p.late in
      record { end = end.0; start = start.0; gives_end = end.1; gives_start = start.1; late = omega (arith, ints, late, rises, falls) }

  -- and a token that can be on one object alone is on it
  pub on_below : (token : TokenName) (object : ℤ) → IsOn high token object → IsOn low token object
  on_below token object on =
      let lower = below.variables (Token token Object) on.0 on.1 in
      let there = has_least lower.0 (gives_domain model low low_ok _ _ lower.1) in
      let same = on.2.only (least lower.0) (lower.2.values (least lower.0) there) in
      (lower.0, lower.1, record { has = subst (Has lower.0) same there; only = λ value has. on.2.only value (lower.2.values value has) })

  pub turn_below : (one other : TokenName) → HaveToTurn model decisions high one other → HaveToTurn model decisions low one other
  turn_below one other p = record {
    share = record {
      apart = p.share.apart;
      one_active = p.share.one_active;
      other_active = p.share.other_active;
      timeline = p.share.timeline;
      is_timeline = p.share.is_timeline;
      one_on = on_below one p.share.timeline p.share.one_on;
      other_on = on_below other p.share.timeline p.share.other_on;
    };
    late = late_below one other p.late;
  }

  pub has_what_is_asked : IsPropagatedState model decisions low → HasWhatIsAsked model decisions high low
  has_what_is_asked fit =
      let asks = asks_as_much model decisions high low below in
      record {
        tokens = λ token p. fit.tokens token (asks.tokens token p);
        blocks = λ block entries p. fit.blocks block entries (asks.blocks block entries p);
        claims = λ claim p. fit.claims claim (asks.claims claim p);
        orders = λ one other p. let turn = turn_below one other p in fit.timelines one other turn.share turn.late;
      }

-- ---- longer lists

module _ (model : Model) (front back : List Decision) where
  abbrev whole : List Decision
  whole = front ++ back

  activated_longer : (token : TokenName) → IsActivated front token → IsActivated whole token
  activated_longer token p = Contains-append_left front back _ p

  taken_longer : (token : TokenName) → IsTaken front token → IsTaken whole token
  taken_longer token (inl p) = inl (activated_longer token p)
  taken_longer token (inr p) = inr (p.0, Contains-append_left front back _ p.1)

  active_longer : (token : TokenName) → IsActive model front token → IsActive model whole token
  active_longer token (inl fact) = inl fact
  active_longer token (inr p) = inr (activated_longer token p)

  module _ (state : State) where
    further_longer : Further (situation_of front state) (situation_of whole state)
    further_longer = record { taken = taken_longer; activated = activated_longer; gives = λ name domain gives. (domain, gives, IsWithin-refl domain) }

    claim_longer : (claim : Claim) → IsClaim model front state claim → IsClaim model whole state claim
    claim_longer claim (inl p) = inl (of_problem_further model (IsTaken front) (IsTaken whole) taken_longer claim p)
    claim_longer claim (inr (inl p)) =
        inr (inl (of_block_further model (IsTaken front) (IsTaken whole) taken_longer (Contains state.blocks) (Contains state.blocks) (λ block there. there) claim p))
    claim_longer claim (inr (inr (inl p))) = inr (inr (inl p))
    claim_longer claim (inr (inr (inr (inl p)))) = inr (inr (inr (inl (record {
      token = p.token;
      target = p.target;
      part = p.part;
      merged = Contains-append_left front back _ p.merged;
      has_part = p.has_part;
      says = p.says;
    }))))
    claim_longer claim (inr (inr (inr (inr (inl p))))) =
        inr (inr (inr (inr (inl (record { one = p.one; other = p.other; ordered = Contains-append_left front back _ p.ordered; says = p.says })))))
    claim_longer claim (inr (inr (inr (inr (inr p))))) = inr (inr (inr (inr (inr (record {
      decision = p.decision;
      stands = Contains-append_left front back _ p.stands;
      posts = p.posts;
      counts = All-weaker (ArgumentCounts model (IsTaken front)) (ArgumentCounts model (IsTaken whole))
          (counts_further model (IsTaken front) (IsTaken whole) taken_longer) claim.arguments p.counts;
    })))))

    shares_longer : (one other : TokenName) → ShareTimeline model front state one other → ShareTimeline model whole state one other
    shares_longer one other p = record {
      apart = p.apart;
      one_active = active_longer one p.one_active;
      other_active = active_longer other p.other_active;
      timeline = p.timeline;
      is_timeline = p.is_timeline;
      one_on = p.one_on;
      other_on = p.other_on;
    }

    -- what is propagated for the list is propagated for its front
    pub front_propagated : IsPropagatedState model whole state → IsPropagatedState model front state
    front_propagated p = record {
      is_state = p.is_state;
      tokens = λ token q. p.tokens token (supported_further model (situation_of front state) (situation_of whole state) further_longer token q);
      blocks = λ block entries q. p.blocks block entries (block_further model (situation_of front state) (situation_of whole state) further_longer block entries q);
      in_base = p.in_base;
      respected = λ decision there. p.respected decision (Contains-append_left front back decision there);
      claims = λ claim q. p.claims claim (claim_longer claim q);
      timelines = λ one other share late. p.timelines one other (shares_longer one other share) late;
    }
