-- What states leave open, and what can be decided of it.
use Rattle.std.proofs.Common.{◌≡◌, ℕ, zero, suc, ◌≤◌, List, [], ◌∷◌, ◌++◌, get_or, Some, ℤ, pos, ◌<ℤ◌, inl, inr, refl, sym, ap, ◌∙◌, subst, arith}
use Rattle.std.specs.Prelude.{Contains, AllPairs, slice_get, ◌≢◌, ◌↔◌, map}
use Rattle.std.proofs.lemmas.Int.{ints}
use Rattle.domain_core.specs.Domain.{Domain, IsSingle, least, greatest}
use Rattle.eu_name.specs.declared.name.Part.{Part}
use Rattle.eu_name.specs.declared.name.Part.TheVariants.{Start, End, Duration, Object, Param}
use Rattle.eu_name.specs.declared.name.TokenName.{TokenName}
use Rattle.eu_name.specs.declared.name.VarName.{VarName}
use Rattle.eu_name.specs.declared.name.VarName.TheVariants.{Token, Global}
use Rattle.eu_name.specs.NameOrder.{IsTokenBefore}
use Rattle.eu_name.proofs.Orders.{token_order}
use Rattle.eu_name.proofs.Ordered.{contains_head, contains_none, ordered_none, ordered_one}
use Rattle.model_core.specs.declared.class.ObjectKind.TheVariants as kind
use Rattle.model_core.specs.declared.class.PredKind.TheVariants as pred
use Rattle.model_core.specs.declared.decision.Decision.{Decision}
use Rattle.model_core.specs.declared.decision.Decision.TheVariants.{Specify, Activate, Merge, Reject, Order}
use Rattle.model_core.specs.declared.model.Model.{Model}
use Rattle.model_core.specs.declared.model.Root.{Root}
use Rattle.model_core.specs.declared.model.RootKind.{RootKind}
use Rattle.model_core.specs.declared.model.RootKind.TheVariants.{Goal, Rejectable, Fact}
use Rattle.model_core.specs.Blocks.{IsBlockBefore}
use Rattle.model_core.specs.Decided.{IsActive}
use Rattle.model_core.specs.State.{State, VarDomain, Gives, AreInOrder}
use Rattle.model_core.specs.Tokens.{IsRejectable}
use Rattle.plan_defs.specs.Flaws.{Flaw, Undecided, Undetermined, Unordered, Untimed, IsFlaw, HasFlaw, IsUnbound, IsOfRejectedToken}
use Rattle.plan_defs.specs.Refusals.{HaveSamePredicate, AreActive}
use Rattle.plan_defs.specs.Timelines.{IsOn}
use Rattle.plan_defs.specs.Unordered.{MayOverrun}
use Rattle.law_search.specs.Choices.{IsFlawBefore, IsFirstFlaw, IsActivationLeft, IsRejectionLeft, AreTokenChoices, AreValueChoices, AreChoices, IsLeftOut}
use Rattle.law_search.proofs.Once.{choices_once}
use Rattle.law_examples.specs.Cases.{short, moment, lone_goal, two_facts, goal_and_fact, activated, ordered}
use Rattle.law_examples.specs.Flaws.{loose_pair, starting, start_is, HasChoices}
use Rattle.law_examples.specs.Globals.{free_x, with_x, up_to}
use Rattle.law_examples.specs.Refused.{one_token, two_tokens, reject_it, alone, two_goals, mixed}
use Rattle.law_examples.specs.Scenes.{the_object, Moment, exactly, scene, scene_state, root_of, both_objects, label_of}
use Rattle.law_examples.specs.Swaps.{g, gg}
use Rattle.law_examples.specs.Worlds.{between, x_is}
use Rattle.law_examples.proofs.Casts.{kind_of}
use Rattle.law_examples.proofs.Examples.{in_order, part_there, part_is}
use Rattle.law_examples.proofs.Halving.{upward, in_upward, upward_in, upward_ascends}
use Rattle.law_examples.proofs.Lists.{same_some, only_member, get_root}
use Rattle.law_examples.proofs.Planned.{of_one, of_two}
use Rattle.law_examples.proofs.Reasons.{differ, is_kind, kind_is, undecided, no_goal, no_rejectable, one_there, second_there, same_predicate}
use Rattle.law_examples.proofs.Scenes.{HasPartDomain, entry_of}
use Rattle.law_examples.proofs.Variables.{by_name, gives_x, is_x}

-- ---- tokens

pub goal_undecided : IsFlaw lone_goal [] one_token (Undecided g)
goal_undecided = (one_there, undecided [] (Goal ∷ []) 0 Goal refl no_goal)

pub goal_decided : IsFlaw lone_goal activated one_token (Undecided g) → ⊥
goal_decided flaw = flaw.1 (inr (inl (inl (contains_head (Activate g) []))))

pub fact_decided : IsFlaw (alone Fact) [] one_token (Undecided g) → ⊥
fact_decided flaw = flaw.1 (inl (is_kind [] (Fact ∷ []) 0 Fact refl))

-- ---- values

-- what is from 0 to a greater number is no single value
not_single : (number : ℕ) → 1 ≤ number → (value : ℤ) → IsSingle (up_to number) value → ⊥
not_single number some value single =
    let low = single.only (pos 0) (omega (arith, ints), omega (arith, ints)) in
    let high = single.only (pos number) (omega (arith, ints), omega (arith, ints)) in
    omega (arith, ints, low, high, some)

one_value : (number : ℕ) → IsSingle (exactly number) (pos number)
one_value number = record { has = (omega (arith, ints), omega (arith, ints)); only = λ v has. omega (arith, ints, has.0, has.1) }

pub x_several : IsFlaw free_x [] (with_x (up_to 2)) (Undetermined (Global 0))
x_several = (tt, record { domain = up_to 2; gives = gives_x (up_to 2); several = not_single 2 (omega arith); kept = λ rejected. rejected.1 })

pub x_single : IsFlaw free_x [] (with_x (up_to 0)) (Undetermined (Global 0)) → ⊥
x_single flaw = flaw.1.several (pos 0) (subst (λ d. IsSingle d (pos 0)) (is_x (up_to 0) (Global 0) flaw.1.domain flaw.1.gives).1 (one_value 0))

abbrev open_quantity : List Moment
open_quantity = short (up_to 1) ∷ []

quantity_open : (decisions : List Decision) → (IsOfRejectedToken decisions (Token g (Param 0)) → ⊥) → IsUnbound decisions (scene_state [] open_quantity) (Token g (Param 0))
quantity_open decisions kept = record {
  domain = up_to 1;
  gives = part_there open_quantity 0 (short (up_to 1)) (Param 0) (up_to 1) refl refl;
  several = not_single 1 (omega arith);
  kept = kept;
}

pub rejectable_open : IsFlaw (alone Rejectable) [] (scene_state [] open_quantity) (Undetermined (Token g (Param 0)))
rejectable_open = (tt, quantity_open [] (λ rejected. contains_none (Reject rejected.0) rejected.2))

pub rejected_closed : IsFlaw (alone Rejectable) (reject_it ∷ []) (scene_state [] open_quantity) (Undetermined (Token g (Param 0))) → ⊥
rejected_closed flaw = flaw.1.kept (g, refl, contains_head reject_it [])

-- ---- orders

g_first : IsTokenBefore g gg
g_first = inr (refl, inl (omega arith))

on_first : (token : TokenName) → Gives loose_pair (Token token Object) the_object → IsOn loose_pair token (pos 0)
on_first token gives = (the_object, gives, record { has = contains_head (pos 0) []; only = λ v c. sym (only_member (pos 0) v c) })

may_overrun : (one other : TokenName) → Gives loose_pair (Token one End) (between 1 3) → Gives loose_pair (Token other Start) (up_to 2) → MayOverrun loose_pair one other
may_overrun one other ends starts = let less : pos 0 <ℤ pos 3 = omega (arith, ints) in record { end = between 1 3; start = up_to 2; gives_end = ends; gives_start = starts; late = less }

pub facts_unordered : IsFlaw (two_facts kind.Timeline) [] loose_pair (Unordered g gg)
facts_unordered = (
  g_first,
  record {
    share = record {
      apart = λ same. omega (arith, ap (λ (t : TokenName). t.root) same);
      one_active = inl (refl, (root_of 0 Fact, refl, refl));
      other_active = inl (refl, (root_of 1 Fact, refl, refl));
      timeline = pos 0;
      is_timeline = (_, (0, refl, refl), refl);
      one_on = on_first g (0, omega arith, refl);
      other_on = on_first gg (5, omega arith, refl);
    };
    no_order = record {
      not_before = contains_none (Order g gg);
      not_after = contains_none (Order gg g);
      overruns = may_overrun g gg (2, omega arith, refl) (6, omega arith, refl);
      overrun = may_overrun gg g (7, omega arith, refl) (1, omega arith, refl);
    };
  },
)

pub facts_ordered : IsFlaw (two_facts kind.Timeline) ordered loose_pair (Unordered g gg) → ⊥
facts_ordered flaw = flaw.1.no_order.not_before (contains_head (Order g gg) [])

abbrev turns : List Moment
turns = moment 0 5 0 ∷ moment 5 3 0 ∷ []

pub facts_take_turns : IsFlaw (two_facts kind.Timeline) [] (scene_state [] turns) (Unordered g gg) → ⊥
facts_take_turns flaw =
    let over = flaw.1.no_order.overruns in
    let ends : pos 5 ≡ greatest over.end = ap greatest (part_is turns 0 (moment 0 5 0) End (exactly 5) over.end refl refl over.gives_end) in
    let starts : pos 5 ≡ least over.start = ap least (part_is turns 1 (moment 5 3 0) Start (exactly 5) over.start refl refl over.gives_start) in
    omega (arith, ints, ends, starts, over.late)

pub facts_on_no_timeline : IsFlaw (two_facts kind.Plain) [] loose_pair (Unordered g gg) → ⊥
facts_on_no_timeline flaw =
    let is = flaw.1.share.is_timeline in
    let same : kind.Plain ≡ kind.Timeline = sym (kind_of [] kind.Plain pred.Plain [] [] (Fact ∷ Fact ∷ []) flaw.1.share.timeline is.0 is.1) ∙ is.2 in
    cc

pub facts_turned : IsFlaw (two_facts kind.Timeline) [] loose_pair (Unordered gg g) → ⊥
facts_turned flaw = token_order.irreflexive g (token_order.transitive g gg g g_first flaw.0)

-- ---- times

pub start_open : IsFlaw lone_goal activated (starting (up_to 2)) (Untimed (Token g Start))
start_open = (
  tt,
  record {
    domain = up_to 2;
    gives = contains_head (record { name = Token g Start; domain = up_to 2 }) [];
    several = not_single 2 (omega arith);
    kept = λ rejected. let same = only_member (Activate g) (Reject rejected.0) rejected.2 in cc;
  },
)

pub start_fixed : IsFlaw lone_goal activated (starting (exactly 1)) (Untimed (Token g Start)) → ⊥
start_fixed flaw =
    let same = only_member (record { name = Token g Start; domain = exactly 1 }) (record { name = Token g Start; domain = flaw.1.domain }) flaw.1.gives in
    flaw.1.several (pos 1) (subst (λ d. IsSingle d (pos 1)) (ap (λ (e : VarDomain). e.domain) same) (one_value 1))

pub end_closed : IsFlaw lone_goal activated (starting (up_to 2)) (Untimed (Token g End)) → ⊥
end_closed flaw = flaw.0

-- ---- no flaw

only_one : (domain : Domain) (value : ℤ) → IsSingle domain value → (other : Domain) → other ≡ domain → ((v : ℤ) → IsSingle other v → ⊥) → ⊥
only_one domain value single other same several = several value (subst (λ d. IsSingle d value) (sym same) single)

-- the token has one value for each part
bound_at : (place : ℕ) (found : Moment) → slice_get (moment 0 1 1 ∷ []) place ≡ Some found → (part : Part) (domain : Domain) → HasPartDomain found part domain → ((v : ℤ) → IsSingle domain v → ⊥) → ⊥
bound_at = of_one (λ place found. (part : Part) (domain : Domain) → HasPartDomain found part domain → ((v : ℤ) → IsSingle domain v → ⊥) → ⊥) (moment 0 1 1) bound
  where
    bound : (part : Part) (domain : Domain) → HasPartDomain (moment 0 1 1) part domain → ((v : ℤ) → IsSingle domain v → ⊥) → ⊥
    bound Object domain is several = only_one the_object (pos 0) (record { has = contains_head (pos 0) []; only = λ v c. sym (only_member (pos 0) v c) }) domain is several
    bound Start domain is several = only_one (exactly 0) (pos 0) (one_value 0) domain is several
    bound End domain is several = only_one (exactly 1) (pos 1) (one_value 1) domain is several
    bound Duration domain is several = only_one (exactly 1) (pos 1) (one_value 1) domain is several
    bound (Param zero) domain is several = only_one (exactly 1) (pos 1) (one_value 1) domain is several
    bound (Param (suc number)) domain is several = is

pub goal_flawless : HasFlaw lone_goal activated one_token → ⊥
goal_flawless (flaw, is) = none flaw is
  where
    bound : (name : VarName) → IsUnbound activated one_token name → ⊥
    bound name unbound =
        let entry = entry_of 0 (moment 0 1 1 ∷ []) name unbound.domain unbound.gives in
        bound_at entry.place entry.moment entry.at entry.part unbound.domain entry.is unbound.several

    none : (flaw : Flaw) → IsFlaw lone_goal activated one_token flaw → ⊥
    none (Undecided token) is = is.1 (inr (inl (inl (subst (λ t. Contains activated (Activate t)) (only_member g token is.0) (contains_head (Activate g) [])))))
    none (Undetermined name) is = bound name is.1
    none (Unordered one other) is =
        let timeline = is.1.share.is_timeline in
        let same : kind.Plain ≡ kind.Timeline = sym (kind_of [] kind.Plain pred.Plain [] [] (Goal ∷ []) is.1.share.timeline timeline.0 timeline.1) ∙ timeline.2 in
        cc
    none (Untimed name) is = bound name is.1

pub goal_flawed : HasFlaw lone_goal [] one_token
goal_flawed = (Undecided g, goal_undecided)

-- ---- the first flaw

token_open : IsFlaw lone_goal [] (scene_state [] open_quantity) (Undecided g)
token_open = (contains_head g [], undecided [] (Goal ∷ []) 0 Goal refl no_goal)

pub token_first : IsFirstFlaw lone_goal [] (scene_state [] open_quantity) (Undecided g)
token_first = record { is = token_open; first = first }
  where
    first : (other : Flaw) → IsFlaw lone_goal [] (scene_state [] open_quantity) other → IsFlawBefore other (Undecided g) → ⊥
    first (Undecided token) is before = token_order.irreflexive g (subst (λ t. IsTokenBefore t g) (sym (only_member g token is.0)) before)
    first (Undetermined name) is before = omega (arith, before)
    first (Unordered one behind) is before = omega (arith, before)
    first (Untimed name) is before = omega (arith, before)

pub quantity_later : IsFirstFlaw lone_goal [] (scene_state [] open_quantity) (Undetermined (Token g (Param 0))) → ⊥
quantity_later p = p.first (Undecided g) token_open (omega arith)

-- ---- choices

-- a flaw has no other choices than these
just : (model : Model) (decisions : List Decision) (state : State) → AreInOrder state → (bound : ℕ) (flaw : Flaw) (choices : List Decision)
    → AreChoices model decisions state bound flaw choices → HasChoices model decisions state bound flaw choices
just model decisions state order bound flaw choices are found =
    (λ other. choices_once model decisions state order bound flaw found choices other are, λ same. subst (AreChoices model decisions state bound flaw) (sym same) are)

module _ (kinds : List RootKind) where
  abbrev posing : Model
  posing = scene kind.Plain pred.Plain [] [] kinds

  -- while nothing is decided what is active is a fact
  active_fact : (token : TokenName) → IsActive posing [] token → (slice_get kinds token.root ≡ Some Fact) × (token.steps ≡ [])
  active_fact token (inl fact) =
      let found = get_root 0 kinds token.root fact.1.0 fact.1.1 in
      (found.1.0 ∙ ap Some (ap (λ (r : Root). r.kind) found.1.1 ∙ fact.1.2), fact.0)
  active_fact token (inr activation) = absurd (contains_none (Activate token) activation)

  -- where there is no fact nothing is active
  module _ (no_fact : (number : ℕ) → slice_get kinds number ≡ Some Fact → ⊥) where
    none_active : (token : TokenName) → IsActive posing [] token → ⊥
    none_active token active = no_fact token.root (active_fact token active).0

    below_bound : AreActive posing [] 512 → ⊥
    below_bound full = none_active (get_or full.tokens 0 g) (full.active 0 g (omega (arith, full.enough)))

    -- so a token is activated, and rejected if it is a rejectable
    by_itself : (state : State) (rejection : List Decision) → IsRejectionLeft posing g rejection → AreTokenChoices posing [] state 512 g (Activate g ∷ rejection)
    by_itself state rejection left = record {
      targets = [];
      are_targets = record { order = ordered_none IsTokenBefore; are = λ target. (λ c. absurd (contains_none target c), λ is. absurd (none_active target is.1.0)) };
      activation = Activate g ∷ [];
      activated = inl (below_bound, refl);
      rejection = rejection;
      rejected = left;
      are = refl;
    }

no_fact_alone : (root_kind : RootKind) → (root_kind ≡ Fact → ⊥) → (number : ℕ) → slice_get (root_kind ∷ []) number ≡ Some Fact → ⊥
no_fact_alone root_kind differs number at = differs (sym (of_one (λ place found. found ≡ root_kind) root_kind refl number Fact at))

no_fact_in_two : (number : ℕ) → slice_get (Goal ∷ Goal ∷ []) number ≡ Some Fact → ⊥
no_fact_in_two number at = no_goal (sym (of_two (λ place found. found ≡ Goal) Goal Goal refl refl number Fact at))

goal_kept : (kinds : List RootKind) → slice_get kinds 0 ≡ Some Goal → IsRejectionLeft (scene kind.Plain pred.Plain [] [] kinds) g []
goal_kept kinds at = inr ((λ is. let same = kind_is [] kinds 0 Goal Rejectable at is in cc), refl)

one_in_order : AreInOrder one_token
one_in_order = in_order [] (moment 0 1 1 ∷ []) (ordered_none IsBlockBefore)

two_in_order : AreInOrder two_tokens
two_in_order = in_order [] (moment 0 1 1 ∷ moment 0 1 1 ∷ []) (ordered_none IsBlockBefore)

pub goal_choices : HasChoices lone_goal [] one_token 512 (Undecided g) (Activate g ∷ [])
goal_choices = just lone_goal [] one_token one_in_order 512 (Undecided g) (Activate g ∷ []) (by_itself (Goal ∷ []) (no_fact_alone Goal no_goal) one_token [] (goal_kept (Goal ∷ []) refl))

pub rejectable_choices : HasChoices (alone Rejectable) [] one_token 512 (Undecided g) (Activate g ∷ Reject g ∷ [])
rejectable_choices =
    just (alone Rejectable) [] one_token one_in_order 512 (Undecided g) (Activate g ∷ Reject g ∷ [])
    (by_itself (Rejectable ∷ []) (no_fact_alone Rejectable no_rejectable) one_token (Reject g ∷ []) (inl (is_kind [] (Rejectable ∷ []) 0 Rejectable refl, refl)))

pub choices_beside_goal : HasChoices two_goals [] two_tokens 512 (Undecided g) (Activate g ∷ [])
choices_beside_goal =
    just two_goals [] two_tokens two_in_order 512 (Undecided g) (Activate g ∷ []) (by_itself (Goal ∷ Goal ∷ []) no_fact_in_two two_tokens [] (goal_kept (Goal ∷ Goal ∷ []) refl))

-- ---- beside a fact

abbrev with_fact : List RootKind
with_fact = Goal ∷ Fact ∷ []

is_fact : IsActive goal_and_fact [] gg
is_fact = inl (is_kind [] with_fact 1 Fact refl)

-- nothing else is active
only_fact : (token : TokenName) → IsActive goal_and_fact [] token → gg ≡ token
only_fact token active =
    let is = active_fact with_fact token active in
    let root : token.root ≡ 1 = of_two (λ place found. found ≡ Fact → place ≡ 1) Goal Fact (λ e. absurd (no_goal e)) (λ e. refl) token.root Fact is.0 refl in
    let steps = is.1 in
    let same : token ≡ gg = (λ i. record { root = root i; steps = steps i }) in
    sym same

one_is_active : AreActive goal_and_fact [] 1
one_is_active = record {
  tokens = gg ∷ [];
  distinct = ordered_one (λ (one other : TokenName). one ≢ other) gg;
  active = λ k d within. let at : 0 ≡ k = omega (arith, within) in subst (λ n. IsActive goal_and_fact [] (get_or (gg ∷ []) n d)) at is_fact;
  enough = omega arith;
}

-- where nothing but gg is active no two tokens are
not_two : (model : Model) → ((token : TokenName) → IsActive model [] token → gg ≡ token) → (bound : ℕ) → 2 ≤ bound → AreActive model [] bound → ⊥
not_two model only bound two full =
    let first = only (get_or full.tokens 0 g) (full.active 0 g (omega (arith, full.enough, two))) in
    let second = only (get_or full.tokens 1 g) (full.active 1 g (omega (arith, full.enough, two))) in
    full.distinct 0 1 g (omega arith) (omega (arith, full.enough, two)) (sym first ∙ second)

beside_fact : (bound : ℕ) (activation : List Decision) → IsActivationLeft goal_and_fact [] bound g activation → AreTokenChoices goal_and_fact [] two_tokens bound g (Merge g gg ∷ (activation ++ []))
beside_fact bound activation left = record {
  targets = gg ∷ [];
  are_targets = record { order = ordered_one IsTokenBefore gg; are = targets };
  activation = activation;
  activated = left;
  rejection = [];
  rejected = goal_kept with_fact refl;
  are = refl;
}
  where
    targets : (target : TokenName) → Contains (gg ∷ []) target ↔ (Contains two_tokens.tokens target × (IsActive goal_and_fact [] target × HaveSamePredicate goal_and_fact g target))
    targets target = (
      λ c. subst (λ t. Contains two_tokens.tokens t × (IsActive goal_and_fact [] t × HaveSamePredicate goal_and_fact g t)) (only_member gg target c) (second_there, (is_fact, same_predicate)),
      λ is. subst (Contains (gg ∷ [])) (only_fact target is.1.0) (contains_head gg []),
    )

pub choices_beside_fact : HasChoices goal_and_fact [] two_tokens 512 (Undecided g) (Merge g gg ∷ Activate g ∷ [])
choices_beside_fact = just goal_and_fact [] two_tokens two_in_order 512 (Undecided g) (Merge g gg ∷ Activate g ∷ []) (beside_fact 512 (Activate g ∷ []) (inl (not_two goal_and_fact only_fact 512 (omega arith), refl)))

pub choices_at_bound : HasChoices goal_and_fact [] two_tokens 1 (Undecided g) (Merge g gg ∷ [])
choices_at_bound = just goal_and_fact [] two_tokens two_in_order 1 (Undecided g) (Merge g gg ∷ []) (beside_fact 1 [] (inr (one_is_active, refl)))

pub activation_left_out : IsLeftOut goal_and_fact [] two_tokens 1 (Undecided g)
activation_left_out = one_is_active

pub activation_not_left_out : IsLeftOut goal_and_fact [] two_tokens 2 (Undecided g) → ⊥
activation_not_left_out full = not_two goal_and_fact only_fact 2 (omega arith) full

-- ---- beside a fact of another predicate

only_mixed : (token : TokenName) → IsActive mixed [] token → gg ≡ token
only_mixed token (inl fact) =
    let root : token.root ≡ 1 =
    of_two (λ (place : ℕ) (found : Root). found.kind ≡ Fact → place ≡ 1) (root_of 0 Goal) (record { label = label_of 1; kind = Fact; pred = 1; object = both_objects })
    (λ e. absurd (no_goal e)) (λ e. refl) token.root fact.1.0 fact.1.1 fact.1.2 in
    let steps = fact.0 in
    let same : token ≡ gg = (λ i. record { root = root i; steps = steps i }) in
    sym same
only_mixed token (inr activation) = absurd (contains_none (Activate token) activation)

mixed_kept : IsRejectable mixed g → ⊥
mixed_kept is =
    let root = same_some (root_of 0 Goal) is.1.0 is.1.1 in
    let same : Goal ≡ Rejectable = ap (λ (r : Root). r.kind) root ∙ is.1.2 in
    cc

mixed_alone : AreTokenChoices mixed [] two_tokens 512 g (Activate g ∷ [])
mixed_alone = record {
  targets = [];
  are_targets = record {
    order = ordered_none IsTokenBefore;
    are = λ target. (
      λ c. absurd (contains_none target c),
      λ is. absurd (differ (subst (HaveSamePredicate mixed g) (sym (only_mixed target is.1.0)) is.1.1)),
    );
  };
  activation = Activate g ∷ [];
  activated = inl (not_two mixed only_mixed 512 (omega arith), refl);
  rejection = [];
  rejected = inr (mixed_kept, refl);
  are = refl;
}

pub choices_beside_other_predicate : HasChoices mixed [] two_tokens 512 (Undecided g) (Activate g ∷ [])
choices_beside_other_predicate = just mixed [] two_tokens two_in_order 512 (Undecided g) (Activate g ∷ []) mixed_alone

-- ---- of other flaws

-- what is from 0 to a number has its numbers as choices
value_choices : (state : State) (name : VarName) (number : ℕ) → Gives state name (up_to number) → AreValueChoices state name (map (λ value. Specify name value) (upward 0 (suc number)))
value_choices state name number gives = record {
  domain = up_to number;
  gives = gives;
  values = upward 0 (suc number);
  ascending = upward_ascends 0 (suc number);
  all = λ value. (
    λ c. (let has = upward_in 0 (suc number) value c in (has.0, omega (arith, ints, has.1))),
    λ has. in_upward 0 (suc number) value has.0 (omega (arith, ints, has.1)),
  );
  are = refl;
}

-- a state with one variable is in order
one_variable : (tokens : List TokenName) → AllPairs IsTokenBefore tokens → (entry : VarDomain) → AreInOrder (record { tokens = tokens; blocks = []; entries = entry ∷ [] })
one_variable tokens ordered entry = record { tokens = ordered; blocks = ordered_none IsBlockBefore; entries = ordered_one by_name entry }

pub variable_choices : HasChoices free_x [] (with_x (up_to 2)) 512 (Undetermined (Global 0)) (x_is 0 ∷ x_is 1 ∷ x_is 2 ∷ [])
variable_choices =
    just free_x [] (with_x (up_to 2)) (one_variable [] (ordered_none IsTokenBefore) (record { name = Global 0; domain = up_to 2 })) 512 (Undetermined (Global 0)) (x_is 0 ∷ x_is 1 ∷ x_is 2 ∷ [])
    (value_choices (with_x (up_to 2)) (Global 0) 2 (gives_x (up_to 2)))

pub pair_choices : HasChoices (two_facts kind.Timeline) [] loose_pair 512 (Unordered g gg) (Order g gg ∷ Order gg g ∷ [])
pair_choices found = (λ same. same, λ same. same)

pub start_choices : HasChoices lone_goal activated (starting (up_to 2)) 512 (Untimed (Token g Start)) (start_is 0 ∷ start_is 1 ∷ start_is 2 ∷ [])
start_choices =
    just lone_goal activated (starting (up_to 2)) (one_variable (g ∷ []) (ordered_one IsTokenBefore g) (record { name = Token g Start; domain = up_to 2 })) 512 (Untimed (Token g Start))
    (start_is 0 ∷ start_is 1 ∷ start_is 2 ∷ [])
    (value_choices (starting (up_to 2)) (Token g Start) 2 (contains_head (record { name = Token g Start; domain = up_to 2 }) []))
