-- The examples with tokens.
use Rattle.std.proofs.Common.{◌≡◌, ℕ, suc, zero, ◌+◌, List, [], ◌∷◌, ◌++◌, length, Some, ℤ, pos, ◌≤ℤ◌, ◌+ℤ◌, inl, inr, refl, sym, ap, ◌∙◌, subst, arith}
use Rattle.std.specs.Prelude.{Contains, All, AllPairs, slice_get, ⊤, ◌⊎◌}
use Rattle.std.specs.List.{AllZip}
use Rattle.std.proofs.lemmas.Int.{ints}
use Rattle.domain_core.specs.Domain.{Domain, IsTested, IsSingle, Has, least}
use Rattle.eu_name.specs.declared.name.Part.{Part}
use Rattle.eu_name.specs.declared.name.Part.TheVariants.{Start, End, Object, Param}
use Rattle.eu_name.specs.declared.name.TokenName.{TokenName}
use Rattle.eu_name.specs.declared.name.VarName.TheVariants.{Token}
use Rattle.model_core.specs.declared.class.ObjectKind.{ObjectKind}
use Rattle.model_core.specs.declared.class.ObjectKind.TheVariants as kind
use Rattle.model_core.specs.declared.class.Pred.{Pred}
use Rattle.model_core.specs.declared.class.PredKind.{PredKind}
use Rattle.model_core.specs.declared.class.PredKind.TheVariants as pred
use Rattle.model_core.specs.declared.decision.Decision.TheVariants.{Activate, Merge, Reject}
use Rattle.domain_core.specs.declared.kind.Kind.TheVariants.{Leq}
use Rattle.model_core.specs.declared.model.Root.{Root}
use Rattle.model_core.specs.declared.model.RootKind.{RootKind}
use Rattle.model_core.specs.declared.model.RootKind.TheVariants.{Goal, Rejectable, Fact}
use Rattle.model_core.specs.declared.item.Term.TheVariants as term
use Rattle.model_core.specs.declared.rule.Guard.{Guard}
use Rattle.model_core.specs.declared.rule.Guard.TheVariants.{Equal}
use Rattle.model_core.specs.declared.rule.Rule.{Rule}
use Rattle.model_core.specs.declared.rule.Side.{Side}
use Rattle.model_core.specs.declared.rule.Slot.{Slot}
use Rattle.model_core.specs.declared.rule.Side.TheVariants.{Then, Otherwise}
use Rattle.model_core.specs.declared.rule.Turn.{Turn}
use Rattle.model_core.specs.declared.variable.Base.TheVariants.{Given}
use Rattle.model_core.specs.Blocks.{TokenBlock, IsBlock, IsBlockBefore, Follows, OfBranch, direct, chosen}
use Rattle.domain_core.specs.Consistency.{Ends, Admits}
use Rattle.domain_core.specs.Constraints.{HoldsOf, AgreeOn}
use Rattle.model_core.specs.Decided.{IsActivated, IsDecided}
use Rattle.model_core.specs.Entries.{Entries, NoEntry}
use Rattle.model_core.specs.State.{State, Gives, AreInOrder}
use Rattle.model_core.specs.Tokens.{HasToken, HasRule, root_token}
use Rattle.plan_defs.specs.Claims.{part_of}
use Rattle.plan_defs.specs.Closure.{IsClosed}
use Rattle.plan_defs.specs.Consistency.{HasField}
use Rattle.plan_defs.specs.Timelines.{FitTimelines}
use Rattle.plan_defs.specs.Resources.{FitReusables, FitReservoirs, IsActor, SurelyUses, IsShare, SurelyChanges, IsHighChange, IsTokenComplete}
use Rattle.plan_defs.specs.Situations.{Situation, situation_of}
use Rattle.plan_defs.specs.Sums.{sum_of}
use Rattle.plan_defs.specs.Support.{Selects, Opens, IsSupportedToken, IsSupportedBlock}
use Rattle.plan_defs.specs.Terms.{InRule, Value, Variable, HasDomain}
use Rattle.plan_defs.specs.Timelines.{IsOn}
use Rattle.plan_defs.proofs.BlockOrder.{block_transitive}
use Rattle.eu_name.proofs.Ordered.{contains_head, contains_cases, contains_none, ordered_none, ordered_one, ordered_link}
use Rattle.plan_defs.proofs.States.{gives_same}
use Rattle.law_examples.specs.Globals.{empty_state, up_to}
use Rattle.law_examples.specs.Cases.{short, early, late, using, taking, ruled, either, two_facts, tool, battery, drained, activated, rejected}
use Rattle.law_examples.specs.Scenes.{the_object, both_objects, predicate_of, root_of, scene, Moment, exactly, tokens_of, scene_state, guarded, top_block, then_block}
use Rattle.law_examples.proofs.Casts.{only_moment, open_moment, either_moment, one_moment, two_moments, nothing_decided, one_decided, kind_of, fit_no_timelines, fit_no_reusables, fit_no_reservoirs, no_block, root_supported, no_rule, one_rule, none_activated}
use Rattle.law_examples.proofs.Closed.{IsMoment, closed, supported, slot_same, HasItsBlock}
use Rattle.law_examples.proofs.Domains.{both_not_single}
use Rattle.law_examples.proofs.Lists.{all_members, only_member, same_some}
use Rattle.law_examples.proofs.Scenes.{tokens_in_order, entries_in_order, HasPartDomain, entry_of, IsEntryOf, entry_there, IsTokenOf, token_of}

-- a state in which nothing is decided and no block is open is closed where the object is nothing special
pub undecided_closed : (object_kind : ObjectKind) (pred_kind : PredKind) (numbers : List ℕ) (rules : List Rule) (kinds : List RootKind) (moments : List Moment) → length moments ≡ length kinds
    → ((place : ℕ) (moment : Moment) → slice_get moments place ≡ Some moment → IsMoment moment)
    → ((number : ℕ) (rule : Rule) → HasRule (scene object_kind pred_kind numbers rules kinds) 0 number rule → rule ≡ guarded)
    → FitTimelines (scene object_kind pred_kind numbers rules kinds) [] (scene_state [] moments) → FitReusables (scene object_kind pred_kind numbers rules kinds) [] (scene_state [] moments)
    → FitReservoirs (scene object_kind pred_kind numbers rules kinds) [] (scene_state [] moments) → IsClosed (scene object_kind pred_kind numbers rules kinds) [] (scene_state [] moments)
undecided_closed object_kind pred_kind numbers rules kinds moments lengths are plain timelines reusables reservoirs =
    closed object_kind pred_kind numbers rules kinds [] moments lengths are plain [] nothing_decided (ordered_none IsBlockBefore)
    (all_members (HasItsBlock [] object_kind pred_kind numbers rules kinds moments) [] (λ block c. absurd (contains_none block c)))
    (no_block [] object_kind pred_kind numbers rules kinds (scene_state [] moments) [] [] none_activated) timelines reusables reservoirs

pub plain_closed : (numbers : List ℕ) (rules : List Rule) (kinds : List RootKind) (moments : List Moment) → length moments ≡ length kinds
    → ((place : ℕ) (moment : Moment) → slice_get moments place ≡ Some moment → IsMoment moment)
    → ((number : ℕ) (rule : Rule) → HasRule (scene kind.Plain pred.Plain numbers rules kinds) 0 number rule → rule ≡ guarded)
    → IsClosed (scene kind.Plain pred.Plain numbers rules kinds) [] (scene_state [] moments)
plain_closed numbers rules kinds moments lengths are plain =
    undecided_closed kind.Plain pred.Plain numbers rules kinds moments lengths are plain
    (fit_no_timelines [] kind.Plain pred.Plain numbers rules kinds [] (scene_state [] moments) (λ e. absurd (cc)))
    (fit_no_reusables [] kind.Plain pred.Plain numbers rules kinds [] (scene_state [] moments) (λ capacity e. absurd (cc)))
    (fit_no_reservoirs [] kind.Plain pred.Plain numbers rules kinds [] (scene_state [] moments) (λ initial low high e. absurd (cc)))

pub goal_closed : IsClosed (scene kind.Plain pred.Plain [] [] (Goal ∷ [])) [] (scene_state [] (short (exactly 1) ∷ []))
goal_closed =
    plain_closed [] [] (Goal ∷ []) (short (exactly 1) ∷ []) refl (one_moment (short (exactly 1)) (only_moment 0 1 1 (omega arith) (omega arith) (omega arith)))
    (no_rule [] kind.Plain pred.Plain [] (Goal ∷ []))

pub goal_is_missing : IsClosed (scene kind.Plain pred.Plain [] [] (Goal ∷ [])) [] empty_state → ⊥
goal_is_missing p = contains_none (root_token 0) (p.consistent.tokens (root_token 0) (root_supported [] kind.Plain pred.Plain [] [] (Goal ∷ []) [] empty_state 0 Goal refl))

-- ---- blocks

ruled_rule : (number : ℕ) (rule : Rule) → HasRule ruled 0 number rule → rule ≡ guarded
ruled_rule number rule p = (one_rule [] guarded kind.Plain pred.Plain (Goal ∷ []) number rule p).0

pub inactive_closed : IsClosed ruled [] (scene_state [] (short (up_to 1) ∷ []))
inactive_closed = plain_closed (0 ∷ []) (guarded ∷ []) (Goal ∷ []) (short (up_to 1) ∷ []) refl (one_moment (short (up_to 1)) open_moment) ruled_rule

-- `quantity == 1`
abbrev pub the_guard : Guard
the_guard = Equal (term.Here (Param 0)) (term.Lit (pos 1))

module _ (blocks : List TokenBlock) (quantity : Domain) where
  abbrev pub ruled_state : State
  ruled_state = scene_state blocks (short quantity ∷ [])

  -- what is so there
  abbrev pub ruled_situation : Situation
  ruled_situation = situation_of activated ruled_state

  pub gives_quantity : Gives ruled_state (Token (root_token 0) (Param 0)) quantity
  gives_quantity = entry_there 0 (short quantity ∷ []) 0 (short quantity) (Param 0) quantity refl refl

  -- the block to which this way leads
  pub at_way : (path : List Turn) (entries : Entries) → Follows (Opens ruled ruled_situation (InRule (root_token 0) 0)) guarded.top path entries
      → IsSupportedBlock ruled ruled_situation (record { token = root_token 0; rule = 0; path = path }) entries
  at_way path entries way = record {
    supported = root_supported [] kind.Plain pred.Plain (0 ∷ []) (guarded ∷ []) (Goal ∷ []) activated ruled_state 0 Goal refl;
    is_open = record {
      activated = contains_head (Activate (root_token 0)) [];
      has_block = record {
        slot = record { pred = 0; object = Given both_objects };
        has_token = record { root = root_of 0 Goal; is_root = refl; reached = refl };
        rule = guarded;
        has_rule = record { predicate = predicate_of pred.Plain (0 ∷ []); place = 0; is_predicate = refl; listed = refl; is_rule = refl };
        way = way;
      };
    };
  }

  pub has_block : (path : List Turn) (entries : Entries) → Follows (λ guard side. ⊤) guarded.top path entries → IsBlock ruled (record { token = root_token 0; rule = 0; path = path }) entries
  has_block path entries way = record {
    slot = record { pred = 0; object = Given both_objects };
    has_token = record { root = root_of 0 Goal; is_root = refl; reached = refl };
    rule = guarded;
    has_rule = record { predicate = predicate_of pred.Plain (0 ∷ []); place = 0; is_predicate = refl; listed = refl; is_rule = refl };
    way = way;
  }

-- the rule's own block is open as soon as the token is activated
pub rule_is_missing : IsClosed ruled activated (scene_state [] (short (up_to 1) ∷ [])) → ⊥
rule_is_missing p = contains_none top_block (p.consistent.blocks top_block guarded.top (at_way [] (up_to 1) [] guarded.top refl))

-- what is known of the guard of the rule
guard_terms : (blocks : List TokenBlock) (quantity : Domain) (ordered : AreInOrder (ruled_state blocks quantity)) (place : ℕ) (side : Side) (guard : Guard) (then otherwise : Entries)
    → slice_get (direct guarded.top) place ≡ Some (OfBranch guard then otherwise) → Opens ruled (ruled_situation blocks quantity) (InRule (root_token 0) 0) guard side
    → (place ≡ 0) × ((then ≡ NoEntry) × ((otherwise ≡ NoEntry) × ((v w : ℤ) → Has quantity v → Has (exactly 1) w → Selects the_guard side v w)))
guard_terms blocks quantity ordered (suc place) side guard then otherwise at opens = absurd (cc)
guard_terms blocks quantity ordered zero side guard then otherwise at opens =
    let same : the_guard ≡ guard = cc in
    let thens : then ≡ NoEntry = cc in
    let otherwises : otherwise ≡ NoEntry = cc in
    (refl, (thens, (otherwises, known (subst (λ g. Opens ruled (ruled_situation blocks quantity) (InRule (root_token 0) 0) g side) (sym same) opens))))
  where
    known : Opens ruled (ruled_situation blocks quantity) (InRule (root_token 0) 0) the_guard side → (v w : ℤ) → Has quantity v → Has (exactly 1) w → Selects the_guard side v w
    known opens v w has_v has_w =
        let one : Gives (ruled_state blocks quantity) (Token (root_token 0) (Param 0)) opens.one = subst (λ a. HasDomain (Gives (ruled_state blocks quantity)) a opens.one) opens.is_one.means opens.is_one.has in
        let other : opens.other ≡ exactly 1 = subst (λ a. HasDomain (Gives (ruled_state blocks quantity)) a opens.other) opens.is_other.means opens.is_other.has in
        let first : quantity ≡ opens.one = gives_same (ruled_state blocks quantity) ordered (Token (root_token 0) (Param 0)) quantity opens.one (gives_quantity blocks quantity) one in
        opens.always v w (subst (λ d. Has d v) first has_v) (subst (λ d. Has d w) (sym other) has_w)

module _ (blocks : List TokenBlock) (quantity : Domain) where
  abbrev pub opens_here : Guard → Side → Type 0
  opens_here guard side = Opens ruled (ruled_situation blocks quantity) (InRule (root_token 0) 0) guard side

  -- an open block is one of the rule of the goal, and the guards on the way to it open it
  block_way : (block : TokenBlock) (entries : Entries) → IsSupportedBlock ruled (ruled_situation blocks quantity) block entries
      → (block ≡ record { token = root_token 0; rule = 0; path = block.path }) × Follows opens_here guarded.top block.path entries
  block_way block entries p =
      let has = p.is_open.has_block in
      let activation = only_member (Activate (root_token 0)) (Activate block.token) p.is_open.activated in
      let token : root_token 0 ≡ block.token = cc in
      let slot = slot_same [] kind.Plain pred.Plain (0 ∷ []) (guarded ∷ []) (Goal ∷ []) 0 has.slot (subst (λ t. HasToken ruled t has.slot) (sym token) has.has_token) in
      let found = one_rule [] guarded kind.Plain pred.Plain (Goal ∷ []) block.rule has.rule (subst (λ (s : Slot). HasRule ruled s.pred block.rule has.rule) slot has.has_rule) in
      let by_rule = subst (λ (r : Rule). Follows (Opens ruled (ruled_situation blocks quantity) (InRule block.token block.rule)) r.top block.path entries) found.0 has.way in
      let by_number = subst (λ n. Follows (Opens ruled (ruled_situation blocks quantity) (InRule block.token n)) guarded.top block.path entries) found.1 by_rule in (
        (λ i. record { token = sym token i; rule = found.1 i; path = block.path }),
        subst (λ t. Follows (Opens ruled (ruled_situation blocks quantity) (InRule t 0)) guarded.top block.path entries) (sym token) by_number,
      )

  -- the way ends at once, or goes to a side that the guard chooses
  abbrev pub GoesTo : List Turn → Type 0
  GoesTo path = (path ≡ []) ⊎ ((side : Side) × ((path ≡ record { entry = 0; side = side } ∷ []) × ((v w : ℤ) → Has quantity v → Has (exactly 1) w → Selects the_guard side v w)))

  goes_to : AreInOrder (ruled_state blocks quantity) → (path : List Turn) (entries : Entries) → Follows opens_here guarded.top path entries → GoesTo path
  goes_to ordered [] entries way = inl refl
  goes_to ordered (turn ∷ path) entries way =
      let known = guard_terms blocks quantity ordered turn.entry turn.side way.0 way.1.0 way.1.1 way.1.2.0 way.1.2.1.0 in
      let none = ends_there turn.side way.1.0 way.1.1 path entries known.1.0 known.1.1.0 way.1.2.1.1 in
      inr (turn.side, ((λ i. record { entry = known.0 i; side = turn.side } ∷ none i), known.1.1.1))
    where
      no_turn : (path : List Turn) (entries : Entries) → Follows opens_here NoEntry path entries → path ≡ []
      no_turn [] entries way = refl
      no_turn (turn ∷ path) entries way = let at = way.1.2.0 in absurd (cc)

      ends_there : (side : Side) (then otherwise : Entries) (path : List Turn) (entries : Entries) → then ≡ NoEntry → otherwise ≡ NoEntry → Follows opens_here (chosen side then otherwise) path entries → path ≡ []
      ends_there Then then otherwise path entries p q way = no_turn path entries (subst (λ e. Follows opens_here e path entries) p way)
      ends_there Otherwise then otherwise path entries p q way = no_turn path entries (subst (λ e. Follows opens_here e path entries) q way)

  -- with these blocks the state is closed, if all open ones are among them
  pub ruled_closed : IsMoment (short quantity) → AllPairs IsBlockBefore blocks → All (HasItsBlock [] kind.Plain pred.Plain (0 ∷ []) (guarded ∷ []) (Goal ∷ []) (short quantity ∷ [])) blocks
      → ((path : List Turn) → GoesTo path → Contains blocks (record { token = root_token 0; rule = 0; path = path })) → AreInOrder (ruled_state blocks quantity)
      → IsClosed ruled activated (ruled_state blocks quantity)
  ruled_closed ok ordered have complete in_order =
      closed kind.Plain pred.Plain (0 ∷ []) (guarded ∷ []) (Goal ∷ []) blocks (short quantity ∷ []) refl (one_moment (short quantity) ok) ruled_rule activated
      (one_decided (Activate (root_token 0)) tt) ordered have
      (λ block entries p. let way = block_way block entries p in subst (Contains blocks) (sym way.0) (complete block.path (goes_to in_order block.path entries way.1)))
      (fit_no_timelines [] kind.Plain pred.Plain (0 ∷ []) (guarded ∷ []) (Goal ∷ []) activated (ruled_state blocks quantity) (λ e. absurd (cc)))
      (fit_no_reusables [] kind.Plain pred.Plain (0 ∷ []) (guarded ∷ []) (Goal ∷ []) activated (ruled_state blocks quantity) (λ capacity e. absurd (cc)))
      (fit_no_reservoirs [] kind.Plain pred.Plain (0 ∷ []) (guarded ∷ []) (Goal ∷ []) activated (ruled_state blocks quantity) (λ initial low high e. absurd (cc)))

pub in_order : (blocks : List TokenBlock) (moments : List Moment) → AllPairs IsBlockBefore blocks → AreInOrder (scene_state blocks moments)
in_order blocks moments ordered = record { tokens = tokens_in_order 0 moments; blocks = ordered; entries = entries_in_order 0 moments }

pub has_top : (quantity : Domain) → HasItsBlock [] kind.Plain pred.Plain (0 ∷ []) (guarded ∷ []) (Goal ∷ []) (short quantity ∷ []) top_block
has_top quantity = (contains_head (root_token 0) [], (guarded.top, has_block [] quantity [] guarded.top refl))

has_then : (quantity : Domain) → HasItsBlock [] kind.Plain pred.Plain (0 ∷ []) (guarded ∷ []) (Goal ∷ []) (short quantity ∷ []) then_block
has_then quantity = (contains_head (root_token 0) [], (NoEntry, has_block [] quantity then_block.path NoEntry (the_guard, (NoEntry, NoEntry, (refl, (tt, refl))))))

-- as long as the quantity may be 0 or 1 neither block of the guard is open
pub guard_undecided : IsClosed ruled activated (scene_state (top_block ∷ []) (short (up_to 1) ∷ []))
guard_undecided =
    let ordered = ordered_one IsBlockBefore top_block in
    ruled_closed (top_block ∷ []) (up_to 1) open_moment ordered
    (all_members (HasItsBlock [] kind.Plain pred.Plain (0 ∷ []) (guarded ∷ []) (Goal ∷ []) (short (up_to 1) ∷ [])) (top_block ∷ [])
    (λ block c. subst (HasItsBlock [] kind.Plain pred.Plain (0 ∷ []) (guarded ∷ []) (Goal ∷ []) (short (up_to 1) ∷ [])) (only_member top_block block c) (has_top (up_to 1))))
    complete (in_order (top_block ∷ []) (short (up_to 1) ∷ []) ordered)
  where
    neither : (side : Side) → ((v w : ℤ) → Has (up_to 1) v → Has (exactly 1) w → Selects the_guard side v w) → ⊥
    neither Then chooses = let e = chooses (pos 0) (pos 1) (omega (arith, ints), omega (arith, ints)) (omega (arith, ints), omega (arith, ints)) in omega (arith, ints, e)
    neither Otherwise chooses = chooses (pos 1) (pos 1) (omega (arith, ints), omega (arith, ints)) (omega (arith, ints), omega (arith, ints)) refl

    complete : (path : List Turn) → GoesTo (top_block ∷ []) (up_to 1) path → Contains (top_block ∷ []) (record { token = root_token 0; rule = 0; path = path })
    complete path (inl e) = (0, omega arith, ap (λ p. record { token = root_token 0; rule = 0; path = p }) (sym e))
    complete path (inr goes) = absurd (neither goes.0 goes.1.1)

opens_then : (blocks : List TokenBlock) → opens_here blocks (exactly 1) the_guard Then
opens_then blocks = record {
  one = exactly 1;
  other = exactly 1;
  is_one = record {
    argument = Variable (Token (root_token 0) (Param 0));
    means = refl;
    counts = λ token belongs rejectable. inl (subst (IsActivated activated) belongs (contains_head (Activate (root_token 0)) []));
    has = gives_quantity blocks (exactly 1);
  };
  is_other = record { argument = Value (pos 1); means = refl; counts = tt; has = refl };
  always = λ v w has_v has_w. omega (arith, ints, has_v.0, has_v.1, has_w.0, has_w.1);
}

-- once it is 1 the block of the guard is asked for
pub then_is_missing : IsClosed ruled activated (scene_state (top_block ∷ []) (short (exactly 1) ∷ [])) → ⊥
then_is_missing p =
    let there = p.consistent.blocks then_block NoEntry (at_way (top_block ∷ []) (exactly 1) then_block.path NoEntry (the_guard, (NoEntry, NoEntry, (refl, (opens_then (top_block ∷ []), refl))))) in
    let same = only_member top_block then_block there in
    let paths = ap (λ (block : TokenBlock). length block.path) same in
    omega (arith, paths)

pub then_opened : IsClosed ruled activated (scene_state (top_block ∷ then_block ∷ []) (short (exactly 1) ∷ []))
then_opened =
    let ordered = ordered_link IsBlockBefore block_transitive top_block then_block [] (inr (refl, inr (refl, tt))) (ordered_one IsBlockBefore then_block) in
    ruled_closed (top_block ∷ then_block ∷ []) (exactly 1) (only_moment 0 1 1 (omega arith) (omega arith) (omega arith)) ordered
    (all_members (HasItsBlock [] kind.Plain pred.Plain (0 ∷ []) (guarded ∷ []) (Goal ∷ []) (short (exactly 1) ∷ [])) (top_block ∷ then_block ∷ []) have)
    complete (in_order (top_block ∷ then_block ∷ []) (short (exactly 1) ∷ []) ordered)
  where
    have : (block : TokenBlock) → Contains (top_block ∷ then_block ∷ []) block → HasItsBlock [] kind.Plain pred.Plain (0 ∷ []) (guarded ∷ []) (Goal ∷ []) (short (exactly 1) ∷ []) block
    have block c = elim (contains_cases top_block block (then_block ∷ []) c) [
      | inl same ↦ subst (HasItsBlock [] kind.Plain pred.Plain (0 ∷ []) (guarded ∷ []) (Goal ∷ []) (short (exactly 1) ∷ [])) same (has_top (exactly 1))
      | inr later ↦ subst (HasItsBlock [] kind.Plain pred.Plain (0 ∷ []) (guarded ∷ []) (Goal ∷ []) (short (exactly 1) ∷ [])) (only_member then_block block later) (has_then (exactly 1))
    ]

    at_side : (side : Side) (path : List Turn) → path ≡ record { entry = 0; side = side } ∷ [] → ((v w : ℤ) → Has (exactly 1) v → Has (exactly 1) w → Selects the_guard side v w)
        → Contains (top_block ∷ then_block ∷ []) (record { token = root_token 0; rule = 0; path = path })
    at_side Then path e chooses = (1, omega arith, ap (λ p. record { token = root_token 0; rule = 0; path = p }) (sym e))
    at_side Otherwise path e chooses = absurd (chooses (pos 1) (pos 1) (omega (arith, ints), omega (arith, ints)) (omega (arith, ints), omega (arith, ints)) refl)

    complete : (path : List Turn) → GoesTo (top_block ∷ then_block ∷ []) (exactly 1) path → Contains (top_block ∷ then_block ∷ []) (record { token = root_token 0; rule = 0; path = path })
    complete path (inl e) = (0, omega arith, ap (λ p. record { token = root_token 0; rule = 0; path = p }) (sym e))
    complete path (inr goes) = at_side goes.0 path goes.1.0 goes.1.1

-- ---- timelines

two_are : (place : ℕ) (moment : Moment) → slice_get (early ∷ late ∷ []) place ≡ Some moment → IsMoment moment
two_are = two_moments early late (only_moment 0 5 0 (omega arith) (omega arith) (omega arith)) (only_moment 4 3 0 (omega arith) (omega arith) (omega arith))

pub overlap_closed : IsClosed (scene kind.Plain pred.Plain [] [] (Fact ∷ Fact ∷ [])) [] (scene_state [] (early ∷ late ∷ []))
overlap_closed = plain_closed [] [] (Fact ∷ Fact ∷ []) (early ∷ late ∷ []) refl two_are (no_rule [] kind.Plain pred.Plain [] (Fact ∷ Fact ∷ []))

-- a token of a state has one domain for each part
module _ (moments : List Moment) where
  abbrev pub calm : State
  calm = scene_state [] moments

  pub part_there : (place : ℕ) (moment : Moment) (part : Part) (domain : Domain) → slice_get moments place ≡ Some moment → HasPartDomain moment part domain → Gives calm (Token (root_token place) part) domain
  part_there place moment part domain at is =
      subst (λ n. Gives calm (Token (root_token n) part) domain) (let e : 0 + place ≡ place = omega arith in e) (entry_there 0 moments place moment part domain at is)

  pub part_is : (place : ℕ) (moment : Moment) (part : Part) (domain other : Domain) → slice_get moments place ≡ Some moment → HasPartDomain moment part domain → Gives calm (Token (root_token place) part) other → domain ≡ other
  part_is place moment part domain other at is gives = gives_same calm (in_order [] moments (ordered_none IsBlockBefore)) (Token (root_token place) part) domain other (part_there place moment part domain at is) gives

  pub is_on : (place : ℕ) (moment : Moment) → slice_get moments place ≡ Some moment → the_object ≡ moment.object → IsOn calm (root_token place) (pos 0)
  is_on place moment at on = (the_object, part_there place moment Object the_object at on, record { has = contains_head (pos 0) []; only = λ v c. sym (only_member (pos 0) v c) })

-- what ends at 7 doesn't end by 0
seven_is_late : (domains : List Domain) → AllZip (HasDomain (Gives (scene_state [] (early ∷ late ∷ [])))) (part_of (root_token 1) End ∷ part_of (root_token 0) Start ∷ []) domains
    → AgreeOn (HasField (scene kind.Timeline pred.Plain [] [] (Fact ∷ Fact ∷ []))) Leq domains → ⊥
seven_is_late [] have agree = have
seven_is_late (one ∷ []) have agree = have.1
seven_is_late (one ∷ other ∷ more ∷ rest) have agree = have.1.1
seven_is_late (one ∷ other ∷ []) have agree =
    let end = part_is (early ∷ late ∷ []) 1 late End (exactly 7) one refl refl have.0 in
    let start = part_is (early ∷ late ∷ []) 0 early Start (exactly 0) other refl refl have.1.0 in
    let supported = agree [] one (other ∷ []) (pos 7) refl (subst (λ d. IsTested d (pos 7)) end (inl refl)) in
    no_tuple supported.0 supported.1 supported.2 (subst (λ d. AllZip (Admits Ends) (d ∷ []) supported.1) (sym start) supported.3) supported.4
  where
    no_tuple : (left right : List ℤ) → AllZip (Admits Ends) [] left → AllZip (Admits Ends) (exactly 0 ∷ []) right → HoldsOf Leq (left ++ pos 7 ∷ right) → ⊥
    no_tuple (v ∷ left) right before after holds = before
    no_tuple [] [] before after holds = after
    no_tuple [] (w ∷ more ∷ right) before after holds = after.1
    no_tuple [] (w ∷ []) before after holds = omega (arith, ints, after.0.1, holds)

pub overlap_collides : IsClosed (scene kind.Timeline pred.Plain [] [] (Fact ∷ Fact ∷ [])) [] (scene_state [] (early ∷ late ∷ [])) → ⊥
overlap_collides p =
    let moments = early ∷ late ∷ [] in
    let consistent = p.consistent.timelines (root_token 0) (root_token 1) (record {
      apart = λ same. let roots = ap (λ (t : TokenName). t.root) same in omega (arith, roots);
      one_active = inl (refl, (root_of 0 Fact, refl, refl));
      other_active = inl (refl, (root_of 1 Fact, refl, refl));
      timeline = pos 0;
      is_timeline = (_, (0, refl, refl), refl);
      one_on = is_on moments 0 early refl refl;
      other_on = is_on moments 1 late refl refl;
    })
    (record {
      end = exactly 5;
      start = exactly 4;
      gives_end = part_there moments 0 early End (exactly 5) refl refl;
      gives_start = part_there moments 1 late Start (exactly 4) refl refl;
      late = omega (arith, ints);
    }) in
    seven_is_late consistent.domains consistent.have consistent.agree

-- ---- reusables

using_are : (place : ℕ) (moment : Moment) → slice_get (using ∷ []) place ≡ Some moment → IsMoment moment
using_are = one_moment using (only_moment 0 5 2 (omega arith) (omega arith) (omega arith))

pub enough_closed : IsClosed (tool 2) [] (scene_state [] (using ∷ []))
enough_closed =
    undecided_closed (kind.Reusable (pos 2)) pred.Uses [] [] (Fact ∷ []) (using ∷ []) refl using_are (no_rule [] (kind.Reusable (pos 2)) pred.Uses [] (Fact ∷ []))
    (fit_no_timelines [] (kind.Reusable (pos 2)) pred.Uses [] [] (Fact ∷ []) [] (scene_state [] (using ∷ [])) (λ e. absurd (cc)))
    fits
    (fit_no_reservoirs [] (kind.Reusable (pos 2)) pred.Uses [] [] (Fact ∷ []) [] (scene_state [] (using ∷ [])) (λ initial low high e. absurd (cc)))
  where
    fits : FitReusables (tool 2) [] (scene_state [] (using ∷ []))
    fits value object capacity instant is kind_is inside =
        let same : kind.Reusable (pos 2) ≡ kind.Reusable capacity = sym (kind_of [] (kind.Reusable (pos 2)) pred.Uses [] [] (Fact ∷ []) value object is) ∙ kind_is in
        let two : pos 2 ≡ capacity = cc in record {
          shares = pos 2 ∷ [];
          are_shares = (
            record {
              none = omega (arith, ints);
              enough = λ quantity uses.
                  let domain = part_is (using ∷ []) 0 using (Param 0) (exactly 2) uses.least.0 refl refl uses.least.1 in
                  let least_is : uses.least.0 ≡ exactly 2 = sym domain in
                  let quantity_is : quantity ≡ pos 2 = uses.least.2 ∙ ap least least_is in
                  omega (arith, ints, quantity_is);
            },
            tt,
          );
          enough = omega (arith, ints, two);
        }

-- the fact surely uses 2 at once
surely_uses : (capacity : ℕ) → SurelyUses (tool capacity) [] (scene_state [] (using ∷ [])) (pos 0) (pos 0) (root_token 0) (pos 2)
surely_uses capacity = record {
  actor = record {
    active = inl (refl, (root_of 0 Fact, refl, refl));
    slot = record { pred = 0; object = Given both_objects };
    has_token = record { root = root_of 0 Fact; is_root = refl; reached = refl };
    predicate = predicate_of pred.Uses [];
    is_predicate = refl;
    is_kind = refl;
  };
  on = is_on (using ∷ []) 0 using refl refl;
  started = (exactly 0, part_there (using ∷ []) 0 using Start (exactly 0) refl refl, omega (arith, ints));
  not_ended = (exactly 5, part_there (using ∷ []) 0 using End (exactly 5) refl refl, omega (arith, ints));
  least = (exactly 2, part_there (using ∷ []) 0 using (Param 0) (exactly 2) refl refl, refl);
}

two_is_more : (shares : List ℤ) → AllZip (IsShare (tool 1) [] (scene_state [] (using ∷ [])) (pos 0) (pos 0)) (root_token 0 ∷ []) shares → sum_of shares ≤ℤ pos 1 → ⊥
two_is_more [] are sum = are
two_is_more (share ∷ more ∷ shares) are sum = are.1
two_is_more (share ∷ []) are sum = let enough = are.0.enough (pos 2) (surely_uses 1) in omega (arith, ints, enough, sum)

pub too_little : IsClosed (tool 1) [] (scene_state [] (using ∷ [])) → ⊥
too_little p =
    let found = p.reusables (pos 0) _ (pos 1) (pos 0) (0, refl, refl) refl (omega (arith, ints), omega (arith, ints)) in
    two_is_more found.shares found.are_shares found.enough

-- what may be on either tool surely uses neither
pub either_tool_closed : IsClosed (tool 1) [] (scene_state [] (either using ∷ []))
either_tool_closed =
    undecided_closed (kind.Reusable (pos 1)) pred.Uses [] [] (Fact ∷ []) (either using ∷ []) refl (one_moment (either using) (either_moment using (only_moment 0 5 2 (omega arith) (omega arith) (omega arith))))
    (no_rule [] (kind.Reusable (pos 1)) pred.Uses [] (Fact ∷ []))
    (fit_no_timelines [] (kind.Reusable (pos 1)) pred.Uses [] [] (Fact ∷ []) [] (scene_state [] (either using ∷ [])) (λ e. absurd (cc)))
    fits
    (fit_no_reservoirs [] (kind.Reusable (pos 1)) pred.Uses [] [] (Fact ∷ []) [] (scene_state [] (either using ∷ [])) (λ initial low high e. absurd (cc)))
  where
    fits : FitReusables (tool 1) [] (scene_state [] (either using ∷ []))
    fits value object capacity instant is kind_is inside =
        let same : kind.Reusable (pos 1) ≡ kind.Reusable capacity = sym (kind_of [] (kind.Reusable (pos 1)) pred.Uses [] [] (Fact ∷ []) value object is) ∙ kind_is in
        let one : pos 1 ≡ capacity = cc in record {
          shares = pos 0 ∷ [];
          are_shares = (
            record {
              none = omega (arith, ints);
              enough = λ quantity uses. absurd (both_not_single value
                  (subst (λ d. IsSingle d value) (sym (part_is (either using ∷ []) 0 (either using) Object both_objects uses.on.0 refl refl uses.on.1)) uses.on.2));
            },
            tt,
          );
          enough = omega (arith, ints, one);
        }

-- what may be on either timeline overlaps nothing
pub either_timeline_closed : IsClosed (two_facts kind.Timeline) [] (scene_state [] (either early ∷ late ∷ []))
either_timeline_closed =
    undecided_closed kind.Timeline pred.Plain [] [] (Fact ∷ Fact ∷ []) (either early ∷ late ∷ []) refl
    (two_moments (either early) late (either_moment early (only_moment 0 5 0 (omega arith) (omega arith) (omega arith))) (only_moment 4 3 0 (omega arith) (omega arith) (omega arith)))
    (no_rule [] kind.Timeline pred.Plain [] (Fact ∷ Fact ∷ [])) fits
    (fit_no_reusables [] kind.Timeline pred.Plain [] [] (Fact ∷ Fact ∷ []) [] (scene_state [] (either early ∷ late ∷ [])) (λ capacity e. absurd (cc)))
    (fit_no_reservoirs [] kind.Timeline pred.Plain [] [] (Fact ∷ Fact ∷ []) [] (scene_state [] (either early ∷ late ∷ [])) (λ initial low high e. absurd (cc)))
  where
    -- so what is on one timeline alone is the second token
    is_second : (token : TokenName) (value : ℤ) → IsOn (scene_state [] (either early ∷ late ∷ [])) token value → token ≡ root_token 1
    is_second token value on = at (entry_of 0 (either early ∷ late ∷ []) (Token token Object) on.0 on.1)
      where
        at_place : (place : ℕ) (moment : Moment) → slice_get (either early ∷ late ∷ []) place ≡ Some moment → token ≡ root_token (0 + place) → token ≡ root_token 1
        at_place zero moment at named =
            let gives = subst (λ t. Gives (scene_state [] (either early ∷ late ∷ [])) (Token t Object) on.0) named on.1 in
            absurd (both_not_single value (subst (λ d. IsSingle d value) (sym (part_is (either early ∷ late ∷ []) 0 (either early) Object both_objects on.0 refl refl gives)) on.2))
        at_place (suc zero) moment at named = named
        at_place (suc (suc place)) moment at named = absurd (cc)

        at : IsEntryOf 0 (either early ∷ late ∷ []) (Token token Object) on.0 → token ≡ root_token 1
        at is = let e = is.named in let named : token ≡ root_token (0 + is.place) = cc in at_place is.place is.moment is.at named

    fits : FitTimelines (two_facts kind.Timeline) [] (scene_state [] (either early ∷ late ∷ []))
    fits one other share late_end = absurd (share.apart (is_second one share.timeline share.one_on ∙ sym (is_second other share.timeline share.other_on)))

-- ---- reservoirs

drained_are : (place : ℕ) (moment : Moment) → slice_get (taking ∷ late ∷ []) place ≡ Some moment → IsMoment moment
drained_are = two_moments taking late (only_moment 0 5 6 (omega arith) (omega arith) (omega arith)) (only_moment 4 3 0 (omega arith) (omega arith) (omega arith))

pub undecided_drained_closed : IsClosed battery [] drained
undecided_drained_closed =
    undecided_closed (kind.Reservoir (pos 5) (pos 0) (pos 10)) pred.Consume [] [] (Fact ∷ Rejectable ∷ []) (taking ∷ late ∷ []) refl drained_are
    (no_rule [] (kind.Reservoir (pos 5) (pos 0) (pos 10)) pred.Consume [] (Fact ∷ Rejectable ∷ []))
    (fit_no_timelines [] (kind.Reservoir (pos 5) (pos 0) (pos 10)) pred.Consume [] [] (Fact ∷ Rejectable ∷ []) [] drained (λ e. absurd (cc)))
    (fit_no_reusables [] (kind.Reservoir (pos 5) (pos 0) (pos 10)) pred.Consume [] [] (Fact ∷ Rejectable ∷ []) [] drained (λ capacity e. absurd (cc)))
    (λ complete value object initial low high instant is kind_is inside.
    absurd (undecided (complete.tokens (root_token 1) (root_supported [] (kind.Reservoir (pos 5) (pos 0) (pos 10)) pred.Consume [] [] (Fact ∷ Rejectable ∷ []) [] drained 1 Rejectable refl))))
  where
    undecided : IsDecided battery [] (root_token 1) → ⊥
    undecided (inl fact) =
        let root = same_some (root_of 1 Rejectable) fact.1.0 fact.1.1 in
        let same : Rejectable ≡ Fact = ap (λ (r : Root). r.kind) root ∙ fact.1.2 in
        absurd (cc)
    undecided (inr (inl (inl activated))) = contains_none (Activate (root_token 1)) activated
    undecided (inr (inl (inr merged))) = contains_none (Merge (root_token 1) merged.0) merged.1
    undecided (inr (inr rejected)) = contains_none (Reject (root_token 1)) rejected

-- once the second token is rejected no further one can come
drained_complete : IsTokenComplete battery rejected drained
drained_complete = record {
  tokens = λ token p. decided token (token_of 0 (taking ∷ late ∷ []) token (supported_root token p));
  guards = λ block entries guard then otherwise p stands. let same = only_member (Reject (root_token 1)) (Activate block.token) p.is_open.activated in absurd (cc);
}
  where
    supported_root : (token : TokenName) → IsSupportedToken battery (situation_of rejected drained) token → Contains (tokens_of 0 (taking ∷ late ∷ [])) token
    supported_root token p =
        supported [] (kind.Reservoir (pos 5) (pos 0) (pos 10)) pred.Consume [] [] (Fact ∷ Rejectable ∷ []) [] (taking ∷ late ∷ []) refl drained_are
        (no_rule [] (kind.Reservoir (pos 5) (pos 0) (pos 10)) pred.Consume [] (Fact ∷ Rejectable ∷ [])) rejected token p

    at_place : (place : ℕ) (moment : Moment) → slice_get (taking ∷ late ∷ []) place ≡ Some moment → IsDecided battery rejected (root_token (0 + place))
    at_place zero moment at = inl (refl, (root_of 0 Fact, refl, refl))
    at_place (suc zero) moment at = inr (inr (contains_head (Reject (root_token 1)) []))
    at_place (suc (suc place)) moment at = absurd (cc)

    decided : (token : TokenName) → IsTokenOf 0 (taking ∷ late ∷ []) token → IsDecided battery rejected token
    decided token is = subst (IsDecided battery rejected) (sym is.named) (at_place is.place is.moment is.at)

surely_takes : SurelyChanges battery rejected drained (pos 0) (pos 0) pred.Consume (root_token 0) (pos 6)
surely_takes = record {
  actor = record {
    active = inl (refl, (root_of 0 Fact, refl, refl));
    slot = record { pred = 0; object = Given both_objects };
    has_token = record { root = root_of 0 Fact; is_root = refl; reached = refl };
    predicate = predicate_of pred.Consume [];
    is_predicate = refl;
    is_kind = refl;
  };
  on = is_on (taking ∷ late ∷ []) 0 taking refl refl;
  started = (exactly 0, part_there (taking ∷ late ∷ []) 0 taking Start (exactly 0) refl refl, omega (arith, ints));
  least = (exactly 6, part_there (taking ∷ late ∷ []) 0 taking (Param 0) (exactly 6) refl refl, refl);
}

-- nothing is produced
adds_nothing : (token : TokenName) (change : ℤ) → IsHighChange battery rejected drained (pos 0) (pos 0) token change → change ≤ℤ pos 0
adds_nothing token change high = elim high.adds [
  | inl low ↦ low
  | inr may ↦ absurd (no_producer may.1.actor)
]
  where
    one_predicate : (number : ℕ) (predicate : Pred) → slice_get (predicate_of pred.Consume [] ∷ []) number ≡ Some predicate → predicate_of pred.Consume [] ≡ predicate
    one_predicate zero predicate at = same_some (predicate_of pred.Consume []) predicate at
    one_predicate (suc number) predicate at = absurd (cc)

    no_producer : IsActor battery rejected pred.Produce token → ⊥
    no_producer actor = let found = one_predicate actor.slot.pred actor.predicate actor.is_predicate in let same : pred.Consume ≡ pred.Produce = ap (λ (p : Pred). p.kind) found ∙ actor.is_kind in absurd (cc)

level_is_low : (rises : List ℤ) → AllZip (IsHighChange battery rejected drained (pos 0) (pos 0)) (root_token 0 ∷ root_token 1 ∷ []) rises → pos 0 ≤ℤ (pos 5 +ℤ sum_of rises) → ⊥
level_is_low [] are high = are
level_is_low (one ∷ []) are high = are.1
level_is_low (one ∷ other ∷ more ∷ rises) are high = are.1.1
level_is_low (one ∷ other ∷ []) are high =
    let takes = are.0.takes (pos 6) surely_takes in
    let nothing_more = adds_nothing (root_token 1) other are.1.0 in
    omega (arith, ints, takes, nothing_more, high)

pub drained_too_low : IsClosed battery rejected drained → ⊥
drained_too_low p =
    let stays = p.reservoirs drained_complete (pos 0) _ (pos 5) (pos 0) (pos 10) (pos 0) (0, refl, refl) refl (omega (arith, ints), omega (arith, ints)) in
    level_is_low stays.rises stays.are_rises stays.high_enough
