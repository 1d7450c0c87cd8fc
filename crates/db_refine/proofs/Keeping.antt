-- Nothing is missed at first, nor where tokens and blocks come or more is posted.
use Rattle.std.proofs.Common.{◌≡◌, ℕ, suc, zero, ◌≤◌, List, [], ◌∷◌, ◌++◌, length, Some, ◌⊎◌, inl, inr, refl, sym, ap, subst, arith}
use Rattle.std.specs.Prelude.{Contains, slice_get}
use Rattle.std.proofs.lemmas.List.{length-append}
use Rattle.std.proofs.lemmas.List.Elements.{All-contains, All-weaker, Contains-append_left}
use Rattle.domain_core.specs.Domain.{Domain, Range}
use Rattle.eu_name.specs.declared.name.Part.TheVariants.{Start, End, Object}
use Rattle.eu_name.specs.declared.name.TokenName.{TokenName}
use Rattle.eu_name.specs.declared.name.VarName.{VarName}
use Rattle.eu_name.specs.declared.name.VarName.TheVariants.{Token}
use Rattle.model_core.specs.declared.decision.ConArg.{ConArg}
use Rattle.model_core.specs.declared.decision.ConArg.TheVariants as given
use Rattle.model_core.specs.declared.decision.Decision.{Decision}
use Rattle.model_core.specs.declared.decision.Decision.TheVariants.{Specify, Activate, Merge, Reject, Order, Constrain, Relate}
use Rattle.model_core.specs.declared.item.Term.{Term}
use Rattle.model_core.specs.declared.model.Model.{Model}
use Rattle.model_core.specs.declared.model.Root.{Root}
use Rattle.model_core.specs.declared.rule.Guard.{Guard}
use Rattle.model_core.specs.declared.rule.Side.{Side}
use Rattle.model_core.specs.declared.rule.Slot as slots
use Rattle.model_core.specs.declared.rule.Turn.{Turn}
use Rattle.model_core.specs.declared.variable.Base.TheVariants.{Given}
use Rattle.model_core.specs.Blocks.{TokenBlock, IsBlock, OfBranch, block_at}
use Rattle.model_core.specs.Decided.{IsTaken}
use Rattle.model_core.specs.Entries.{Entries}
use Rattle.model_core.specs.Lawful.{IsLawful}
use Rattle.model_core.specs.Numbers.{turned}
use Rattle.model_core.specs.State.{VarDomain, Gives}
use Rattle.model_core.specs.Tokens.{HasToken, IsRoot, root_token}
use Rattle.constraint_net.specs.declared.constraint.Constraint.{Constraint}
use Rattle.plan_defs.specs.Claims.{Claim, IsOfProblem, IsOfToken, lasts}
use Rattle.plan_defs.specs.Closure.{IsRespected}
use Rattle.plan_defs.specs.Laws.{HaveToTurn}
use Rattle.plan_defs.specs.Refusals.{IsKnown, IsArgumentKnown}
use Rattle.plan_defs.specs.Resources.{OpensIn}
use Rattle.plan_defs.specs.Situations.{situation_of}
use Rattle.plan_defs.specs.Support.{MayBe, one_side, other_side}
use Rattle.plan_defs.specs.Terms.{Context, InRule, Argument, Value, Variable, Means, HasDomain}
use Rattle.plan_defs.specs.Timelines.{IsOn}
use Rattle.eu_name.proofs.Members.{get_below, get_from_contains}
use Rattle.eu_name.proofs.Ordered.{contains_none}
use Rattle.db_refine.specs.Claims.{IsPostedIn}
use Rattle.model_core.specs.Content.{Content, shown, IsContent}
use Rattle.db_refine.proofs.Showing.{is_named}
use Rattle.db_refine.specs.Coming.{VariablesCome, TokenComes, BlockComes, IsTermThere}
use Rattle.db_refine.specs.Progress.{MissesNothing, IsUnfolded, IsTurnFollowed, AreBranchesFollowed}
use Rattle.db_refine.proofs.Coming.{names_of, gives_kept, gives_old, names_kept, due_kept, token_fresh, block_fresh}
use Rattle.db_refine.proofs.Growing.{member_kept, member_cases}
use Rattle.db_refine.proofs.Mapping.{posted_kept, followed_kept, turn_followed_kept}
use Rattle.db_refine.proofs.Naming.{active_there, named_there}
use Rattle.eu_name.proofs.Places.{get_front, get_cases, no_split, last_cases}

-- ---- at first

pub first_misses : (model : Model) (posted : List Constraint) (content : Content) (due : List ℕ) → content.blocks ≡ []
    → ((number : ℕ) (root : Root) → IsRoot model number root → Contains content.tokens (root_token number))
    → ((claim : Claim) → IsOfProblem model (IsTaken []) claim → IsPostedIn content.names posted claim)
    → ((claim : Claim) → IsOfToken (shown content) claim → IsPostedIn content.names posted claim)
    → ((one other : TokenName) → HaveToTurn model [] (shown content) one other → IsTurnFollowed posted content due one other)
    → MissesNothing model [] posted content 0 due
first_misses model posted content due no_blocks roots of_problem of_tokens in_turn = record {
  known = λ decision there. absurd (contains_none decision there);
  granted = λ decision there. absurd (contains_none decision there);
  roots = roots;
  rules = λ token rule entries there activated is. absurd (contains_none (Activate token) activated);
  before = λ number block front turn at path.
      let none : slice_get [] number ≡ Some block = subst (λ list. slice_get list number ≡ Some block) no_blocks at in
      absurd (let below = get_below [] number block none in omega (arith, below));
  slots = λ block entries slot is_open is stands. absurd (let below = is_open.2 in omega (arith, below));
  branches = λ block entries is_open is place guard then otherwise side stands opens. absurd (let below = is_open.2 in omega (arith, below));
  of_problem = of_problem;
  of_blocks = λ claim p. absurd (let below = p.is_open.2 in omega (arith, below));
  of_tokens = of_tokens;
  of_merges = λ claim p. absurd (contains_none _ p.merged);
  of_orders = λ claim p. absurd (contains_none _ p.ordered);
  of_postings = λ decision there claim posts. absurd (contains_none decision there);
  in_turn = in_turn;
}

-- ---- more is posted

pub posting_misses : (model : Model) (decisions : List Decision) (posted later : List Constraint) (content : Content) (unfolded : ℕ) (due : List ℕ)
    → MissesNothing model decisions posted content unfolded due → MissesNothing model decisions (posted ++ later) content unfolded due
posting_misses model decisions posted later content unfolded due misses =
    let kept = posted_kept content.names content.names (λ k name at. at) posted (posted ++ later) (λ constraint there. Contains-append_left posted later constraint there) in
    record {
      known = misses.known;
      granted = misses.granted;
      roots = misses.roots;
      rules = misses.rules;
      before = misses.before;
      slots = misses.slots;
      branches = misses.branches;
      of_problem = λ claim p. kept claim (misses.of_problem claim p);
      of_blocks = λ claim p. kept claim (misses.of_blocks claim p);
      of_tokens = λ claim p. kept claim (misses.of_tokens claim p);
      of_merges = λ claim p. kept claim (misses.of_merges claim p);
      of_orders = λ claim p. kept claim (misses.of_orders claim p);
      of_postings = λ decision there claim posts. kept claim (misses.of_postings decision there claim posts);
      in_turn = λ one other turn. turn_followed_kept content content due due (λ name is. is) posted (posted ++ later) kept one other (misses.in_turn one other turn);
    }

-- ---- more is there

-- tokens and blocks have come behind those that are unfolded
record Enlarges (old new : Content) (unfolded : ℕ) : Type 0 where
  tokens : (token : TokenName) → Contains old.tokens token → Contains new.tokens token
  blocks : (block : TokenBlock) → Contains old.blocks block → Contains new.blocks block
  stay : (number : ℕ) (block : TokenBlock) → IsUnfolded old number block → IsUnfolded new number block
  back : (block : TokenBlock) → IsUnfolded new unfolded block → IsUnfolded old unfolded block
  before : (number : ℕ) (block : TokenBlock) (front : List Turn) (turn : Turn)
      → slice_get new.blocks number ≡ Some block → block.path ≡ front ++ turn ∷ []
      → IsUnfolded new number (block_at block.token block.rule front)

module _ (model : Model) (decisions : List Decision) (posted more : List Constraint) (added : List VarDomain) (old new : Content) (unfolded : ℕ) (due : List ℕ)
    (lawful : IsLawful model) (is : IsContent model old) (misses : MissesNothing model decisions posted old unfolded due) (come : VariablesCome model added old new)
    (fresh : (name : VarName) → Contains (names_of added) name → Contains old.names name → ⊥)
    (stays : (constraint : Constraint) → Contains posted constraint → Contains more constraint) (enlarges : Enlarges old new unfolded) where
  gave : (name : VarName) (domain : Domain) → Contains old.names name → Gives (shown new) name domain → Gives (shown old) name domain
  gave = gives_old model added old new is come fresh

  kept : (claim : Claim) → IsPostedIn old.names posted claim → IsPostedIn new.names more claim
  kept = posted_kept old.names new.names (names_kept model added old new is come) posted more stays

  -- ---- decisions

  argument_known : (argument : ConArg) → IsArgumentKnown (shown old) argument → IsArgumentKnown (shown new) argument
  argument_known (given.Var name) (domain, gives) = (domain, gives_kept model added old new is come name domain gives)
  argument_known (given.Value value) known = known

  still_known : (decision : Decision) → IsKnown (shown old) decision → IsKnown (shown new) decision
  still_known (Specify name value) (domain, gives) = (domain, gives_kept model added old new is come name domain gives)
  still_known (Activate token) there = enlarges.tokens token there
  still_known (Merge token target) (there, target_there) = (enlarges.tokens token there, enlarges.tokens target target_there)
  still_known (Reject token) there = enlarges.tokens token there
  still_known (Order one other) (one_there, other_there) = (enlarges.tokens one one_there, enlarges.tokens other other_there)
  still_known (Constrain kind arguments) known = All-weaker (IsArgumentKnown (shown old)) (IsArgumentKnown (shown new)) argument_known arguments known
  still_known (Relate relation one other) (one_there, other_there) = (enlarges.tokens one one_there, enlarges.tokens other other_there)

  still_granted : (decision : Decision) → IsKnown (shown old) decision → IsRespected decision (shown old) → IsRespected decision (shown new)
  still_granted (Specify name value) (given, there) granted = λ domain gives. granted domain (gave name domain (is_named old.names old.domains name given there) gives)
  still_granted (Activate token) known granted = tt
  still_granted (Merge token target) known granted = tt
  still_granted (Reject token) known granted = tt
  still_granted (Order one other) known granted = tt
  still_granted (Constrain kind arguments) known granted = tt
  still_granted (Relate relation one other) known granted = tt

  -- ---- guards

  argument_old : (argument : Argument) (domain : Domain) → ((name : VarName) → argument ≡ Variable name → Contains old.names name)
      → HasDomain (Gives (shown new)) argument domain → HasDomain (Gives (shown old)) argument domain
  argument_old (Value value) domain named has = has
  argument_old (Variable name) domain named has = gave name domain (named name refl) has

  term_old : (context : Context) (term : Term) (domain : Domain) → IsTermThere old context term → MayBe model (situation_of decisions (shown new)) context term domain
      → MayBe model (situation_of decisions (shown old)) context term domain
  term_old context term domain there may = record {
    argument = may.argument;
    means = may.means;
    counts = may.counts;
    has = argument_old may.argument domain (λ name is_it. there name (subst (Means context term) is_it may.means)) may.has;
  }

  opens_old : (block : TokenBlock) (guard : Guard) (side : Side) → IsTermThere old (InRule block.token block.rule) (one_side guard)
      → IsTermThere old (InRule block.token block.rule) (other_side guard)
      → OpensIn model decisions (shown new) block guard side → OpensIn model decisions (shown old) block guard side
  opens_old block guard side one_there other_there opens = record {
    one = opens.one;
    other = opens.other;
    is_one = term_old (InRule block.token block.rule) (one_side guard) opens.one one_there opens.is_one;
    is_other = term_old (InRule block.token block.rule) (other_side guard) opens.other other_there opens.is_other;
    always = opens.always;
  }

  still_followed : (block : TokenBlock) (entries : Entries) → IsUnfolded new unfolded block → IsBlock model block entries
      → AreBranchesFollowed model decisions new due block entries
  still_followed block entries is_open is_block place guard then otherwise side stands opens =
      let was = enlarges.back block is_open in
      let names = named_there model decisions posted old unfolded due lawful is misses was.0 block entries was.1 (let below = was.2 in omega (arith, below)) is_block
      (λ slot there. misses.slots block entries slot was is_block there) place (OfBranch guard then otherwise) stands in
      followed_kept old new due due (due_kept model added old new is come due) enlarges.blocks block place guard side
      (misses.branches block entries was is_block place guard then otherwise side stands (opens_old block guard side names.0 names.1 opens))

  -- ---- tokens that take turns

  object_named : (token : TokenName) → Contains old.tokens token → Contains old.names (Token token Object)
  object_named token there =
      let has = All-contains (λ t. (slot : slots.Slot) × HasToken model t slot) old.tokens token is.tokens there in
      (is.variables (Token token Object)).0 (there, (has.0.object, (has.0, has.1, refl)))

  abbrev horizon : Domain
  horizon = Range model.problem.start model.problem.end

  start_named : (token : TokenName) → Contains old.tokens token → Contains old.names (Token token Start)
  start_named token there =
      let has = All-contains (λ t. (slot : slots.Slot) × HasToken model t slot) old.tokens token is.tokens there in
      (is.variables (Token token Start)).0 (there, (Given horizon, (has.0, has.1, refl)))

  end_named : (token : TokenName) → Contains old.tokens token → Contains old.names (Token token End)
  end_named token there =
      let has = All-contains (λ t. (slot : slots.Slot) × HasToken model t slot) old.tokens token is.tokens there in
      (is.variables (Token token End)).0 (there, (Given horizon, (has.0, has.1, refl)))

  on_old : (token : TokenName) (object : _) → Contains old.tokens token → IsOn (shown new) token object → IsOn (shown old) token object
  on_old token object there (domain, gives, single) = (domain, gave (Token token Object) domain (object_named token there) gives, single)

  turn_old : (one other : TokenName) → HaveToTurn model decisions (shown new) one other → HaveToTurn model decisions (shown old) one other
  turn_old one other turn =
      let one_there = active_there model decisions posted old unfolded due misses one turn.share.one_active in
      let other_there = active_there model decisions posted old unfolded due misses other turn.share.other_active in
      record {
        share = record {
          apart = turn.share.apart;
          one_active = turn.share.one_active;
          other_active = turn.share.other_active;
          timeline = turn.share.timeline;
          is_timeline = turn.share.is_timeline;
          one_on = on_old one turn.share.timeline one_there turn.share.one_on;
          other_on = on_old other turn.share.timeline other_there turn.share.other_on;
        };
        late = record {
          end = turn.late.end;
          start = turn.late.start;
          gives_end = gave (Token one End) turn.late.end (end_named one one_there) turn.late.gives_end;
          gives_start = gave (Token other Start) turn.late.start (start_named other other_there) turn.late.gives_start;
          late = turn.late.late;
        };
      }

  enlarged_misses : ((claim : Claim) → IsOfToken (shown new) claim → IsPostedIn new.names more claim) → MissesNothing model decisions more new unfolded due
  enlarged_misses of_tokens = record {
    known = λ decision there. still_known decision (misses.known decision there);
    granted = λ decision there. still_granted decision (misses.known decision there) (misses.granted decision there);
    roots = λ number root is_root. enlarges.tokens (root_token number) (misses.roots number root is_root);
    rules = λ token rule entries there activated is_block.
        enlarges.blocks (block_at token rule []) (misses.rules token rule entries (misses.known (Activate token) activated) activated is_block);
    before = enlarges.before;
    slots = λ block entries slot is_open is_block stands. enlarges.tokens _ (misses.slots block entries slot (enlarges.back block is_open) is_block stands);
    branches = still_followed;
    of_problem = λ claim p. kept claim (misses.of_problem claim p);
    of_blocks = λ claim p. kept claim (misses.of_blocks claim (record {
      block = p.block;
      entries = p.entries;
      item = p.item;
      is_open = enlarges.back p.block p.is_open;
      has_block = p.has_block;
      stands = p.stands;
      says = p.says;
    }));
    of_tokens = of_tokens;
    of_merges = λ claim p. kept claim (misses.of_merges claim p);
    of_orders = λ claim p. kept claim (misses.of_orders claim p);
    of_postings = λ decision there claim posts. kept claim (misses.of_postings decision there claim posts);
    in_turn = λ one other turn.
        turn_followed_kept old new due due (due_kept model added old new is come due) posted more kept one other (misses.in_turn one other (turn_old one other turn));
  }

-- ---- a token

module _ (model : Model) (decisions : List Decision) (posted later : List Constraint) (old new : Content) (token : TokenName) (unfolded : ℕ) (due : List ℕ)
    (lawful : IsLawful model) (is : IsContent model old) (misses : MissesNothing model decisions posted old unfolded due)
    (none : Contains old.tokens token → ⊥) (comes : TokenComes model token old new) where
  token_enlarges : Enlarges old new unfolded
  token_enlarges =
      let back : (n : ℕ) (block : TokenBlock) → IsUnfolded new n block → IsUnfolded old n block
      = λ n block unfolds. (unfolds.0, subst (λ list. slice_get list unfolds.0 ≡ Some block) comes.blocks unfolds.1, unfolds.2) in
      let stay : (n : ℕ) (block : TokenBlock) → IsUnfolded old n block → IsUnfolded new n block
      = λ n block unfolds. (unfolds.0, subst (λ list. slice_get list unfolds.0 ≡ Some block) (sym comes.blocks) unfolds.1, unfolds.2) in
      record {
        tokens = member_kept old.tokens new.tokens token comes.tokens;
        blocks = λ block there. subst (λ list. Contains list block) (sym comes.blocks) there;
        stay = stay;
        back = back unfolded;
        before = λ number block front turn at path. stay number (block_at block.token block.rule front)
            (misses.before number block front turn (subst (λ list. slice_get list number ≡ Some block) comes.blocks at) path);
      }

  pub token_misses : IsPostedIn new.names (posted ++ later) (lasts token) → MissesNothing model decisions (posted ++ later) new unfolded due
  token_misses lasts_posted =
      let stays : (constraint : Constraint) → Contains posted constraint → Contains (posted ++ later) constraint = λ constraint there. Contains-append_left posted later constraint there in
      enlarged_misses model decisions posted (posted ++ later) comes.added old new unfolded due lawful is misses comes.variables
      (token_fresh model token old new is none comes) stays token_enlarges
      (λ claim p. elim (member_cases old.tokens new.tokens token comes.tokens p.token p.there) [
        | inl before ↦ posted_kept old.names new.names (names_kept model comes.added old new is comes.variables) posted (posted ++ later) stays claim
            (misses.of_tokens claim (record { token = p.token; there = before; says = p.says }))
        | inr same ↦ subst (IsPostedIn new.names (posted ++ later)) (sym p.says) (subst (λ (t : TokenName). IsPostedIn new.names (posted ++ later) (lasts t)) same lasts_posted)
      ])

-- ---- a block

module _ (model : Model) (decisions : List Decision) (posted : List Constraint) (old new : Content) (block : TokenBlock) (unfolded : ℕ) (due : List ℕ)
    (lawful : IsLawful model) (is : IsContent model old) (misses : MissesNothing model decisions posted old unfolded due) (within : unfolded ≤ length old.blocks)
    (none : Contains old.blocks block → ⊥) (comes : BlockComes model block old new)
    (behind : (front : List Turn) (turn : Turn) → block.path ≡ front ++ turn ∷ [] → Contains old.blocks (block_at block.token block.rule front)) where
  place_cases : (number : ℕ) (other : TokenBlock) → slice_get new.blocks number ≡ Some other
      → (slice_get old.blocks number ≡ Some other) ⊎ ((length old.blocks ≤ number) × (block ≡ other))
  place_cases number other at = elim (get_cases old.blocks (block ∷ []) number other (subst (λ list. slice_get list number ≡ Some other) comes.blocks at)) [
    | inl front ↦ inl front
    | inr (zero, place, last) ↦ inr (omega (arith, place), cc)
    | inr (suc n, place, last) ↦ absurd (cc)
  ]

  place_kept : (number : ℕ) (other : TokenBlock) → slice_get old.blocks number ≡ Some other → slice_get new.blocks number ≡ Some other
  place_kept number other at = subst (λ list. slice_get list number ≡ Some other) (sym comes.blocks) (get_front old.blocks (block ∷ []) number other at)

  stays_open : (number : ℕ) (other : TokenBlock) → IsUnfolded old number other → IsUnfolded new number other
  stays_open number other (place, at, below) = (place, place_kept place other at, below)

  was_before : (number : ℕ) (other : TokenBlock) (front : List Turn) (turn : Turn) → slice_get new.blocks number ≡ Some other → other.path ≡ front ++ turn ∷ []
      → IsUnfolded new number (block_at other.token other.rule front)
  was_before number other front turn at path = elim (place_cases number other at) [
    | inl earlier ↦ stays_open number (block_at other.token other.rule front) (misses.before number other front turn earlier path)
    | inr (last, same) ↦ (
        let there : Contains old.blocks (block_at other.token other.rule front) =
        subst (λ (b : TokenBlock). b.path ≡ front ++ turn ∷ [] → Contains old.blocks (block_at b.token b.rule front)) same (behind front turn) path in
        let place = get_from_contains old.blocks (block_at other.token other.rule front) there in
        let below = get_below old.blocks place.0 (block_at other.token other.rule front) place.1 in
        (place.0, place_kept place.0 (block_at other.token other.rule front) place.1, omega (arith, below, last)))
  ]

  block_enlarges : Enlarges old new unfolded
  block_enlarges = record {
    tokens = λ token there. subst (λ list. Contains list token) (sym comes.tokens) there;
    blocks = member_kept old.blocks new.blocks block comes.blocks;
    stay = stays_open;
    back = λ other unfolds. elim (place_cases unfolds.0 other unfolds.1) [
      | inl earlier ↦ (unfolds.0, earlier, unfolds.2)
      | inr (last, same) ↦ absurd (let below = unfolds.2 in omega (arith, below, last, within))
    ];
    before = was_before;
  }

  pub block_misses : MissesNothing model decisions posted new unfolded due
  block_misses = enlarged_misses model decisions posted posted comes.added old new unfolded due lawful is misses comes.variables
      (block_fresh model lawful block old new is none comes) (λ constraint there. there) block_enlarges
      (λ claim p. posted_kept old.names new.names (names_kept model comes.added old new is comes.variables) posted posted (λ constraint there. there) claim
      (misses.of_tokens claim (record { token = p.token; there = subst (λ list. Contains list p.token) comes.tokens p.there; says = p.says })))

-- ---- the block in which the branch of another stands

-- the first block of a rule stands in none
pub first_behind : (content : Content) (token : TokenName) (rule : ℕ) (front : List Turn) (turn : Turn) → [] ≡ front ++ turn ∷ []
    → Contains content.blocks (block_at token rule front)
first_behind content token rule front turn e = absurd (no_split front turn [] e)

-- and a block one turn further on in the one before it
pub turned_behind : (content : Content) (token : TokenName) (rule : ℕ) (path : List Turn) (place : ℕ) (side : Side) → Contains content.blocks (block_at token rule path)
    → (front : List Turn) (turn : Turn) → turned path place side ≡ front ++ turn ∷ [] → Contains content.blocks (block_at token rule front)
turned_behind content token rule path place side there front turn e =
    elim (last_cases path front (record { entry = place; side = side }) turn [] e) [
      | inl last ↦ subst (λ (p : List Turn). Contains content.blocks (block_at token rule p)) last.0 there
      | inr inner ↦ absurd (let long = ap length e in let split = ap length inner.1 in omega (
        arith,
        long,
        split,
        length-append path (record { entry = place; side = side } ∷ []),
        length-append front (turn ∷ []),
        length-append front (turn ∷ inner.0),
      ))
    ]
