-- The examples of `else`, and of decisions on tokens.
use Rattle.std.proofs.Common.{◌≡◌, ℕ, ◌+◌, ◌≤◌, List, [], ◌∷◌, length, Some, ℤ, pos, inl, inr, refl, sym, ap, ◌∙◌, subst, arith}
use Rattle.std.specs.Prelude.{Contains, All, slice_get}
use Rattle.std.proofs.lemmas.Int.{ints}
use Rattle.domain_core.specs.Domain.{Domain, Has}
use Rattle.eu_name.specs.declared.name.Part.{Part}
use Rattle.eu_name.specs.declared.name.Part.TheVariants.{Start, End, Param}
use Rattle.eu_name.specs.declared.name.VarName.TheVariants.{Token}
use Rattle.model_core.specs.declared.class.ObjectKind.TheVariants as kind
use Rattle.model_core.specs.declared.class.PredKind.TheVariants as pred
use Rattle.domain_core.specs.declared.kind.Kind.TheVariants.{Leq}
use Rattle.model_core.specs.declared.model.Root.{Root}
use Rattle.model_core.specs.declared.model.RootKind.{RootKind}
use Rattle.model_core.specs.declared.model.RootKind.TheVariants.{Goal, Rejectable, Fact}
use Rattle.model_core.specs.declared.item.Term.TheVariants as term
use Rattle.model_core.specs.declared.rule.Side.{Side}
use Rattle.model_core.specs.declared.rule.Slot.{Slot}
use Rattle.model_core.specs.declared.rule.Side.TheVariants.{Then, Otherwise}
use Rattle.model_core.specs.declared.rule.Turn.{Turn}
use Rattle.model_core.specs.declared.variable.Base.TheVariants.{Given}
use Rattle.model_core.specs.Blocks.{TokenBlock, IsBlockBefore}
use Rattle.model_core.specs.Entries.{Entries, NoEntry}
use Rattle.model_core.specs.State.{State, Gives, AreInOrder}
use Rattle.plan_defs.specs.Situations.{situation_of}
use Rattle.plan_defs.specs.Support.{Selects, IsSupportedBlock}
use Rattle.plan_defs.proofs.BlockOrder.{block_transitive}
use Rattle.eu_name.proofs.Ordered.{contains_head, contains_cases, contains_none, ordered_none, ordered_one, ordered_link}
use Rattle.model_core.specs.declared.decision.Decision.{Decision}
use Rattle.model_core.specs.declared.decision.Decision.TheVariants.{Activate, Merge, Order}
use Rattle.model_core.specs.declared.item.Item.{Item}
use Rattle.domain_core.specs.declared.kind.Kind.TheVariants.{Eq}
use Rattle.model_core.specs.declared.model.Model.{Model}
use Rattle.model_core.specs.declared.variable.Base.{Base}
use Rattle.model_core.specs.Decided.{IsActivated, IsTaken}
use Rattle.model_core.specs.Tokens.{HasToken, HasRule, IsRejectable, root_token}
use Rattle.model_core.specs.Variables.{HasPartBase}
use Rattle.plan_defs.specs.Claims.{Claim, IsOfMerge, HasPart, part_of, equal, at_most, Posts}
use Rattle.plan_defs.specs.Closure.{IsClosed, IsRespected}
use Rattle.plan_defs.specs.Consistency.{IsClaimConsistent}
use Rattle.plan_defs.specs.Terms.{Argument, Value, Variable, ArgumentCounts}
use Rattle.law_examples.specs.Cases.{short, ruled, two_facts, activated, moment, goal_and_fact, merged, ordered, at_most_one, limited}
use Rattle.law_examples.specs.Scenes.{both_objects, predicate_of, root_of, scene_with, Moment, exactly, scene_state, guarded, top_block, then_block, otherwise_block}
use Rattle.law_examples.proofs.Casts.{only_moment, one_moment, two_moments, nothing_decided, one_decided, fit_no_timelines, fit_no_reusables, fit_no_reservoirs, no_rule, nothing_listed}
use Rattle.law_examples.proofs.Closed.{IsMoment, IsPlain, Grants, closed_with, plain_grants, supported, slot_same, part_domain, part_is_domain, HasItsBlock}
use Rattle.law_examples.proofs.Examples.{plain_closed, the_guard, gives_quantity, at_way, has_block, opens_here, GoesTo, ruled_closed, in_order, has_top, part_there}
use Rattle.law_examples.proofs.Lists.{all_members, only_member, same_some}
use Rattle.law_examples.proofs.Pairs.{same_consistent, agreeing, at_most_holds, at_most_says, equal_says, only_claim}
use Rattle.law_examples.proofs.Scenes.{HasPartDomain, token_of}

-- ---- else

has_else : (quantity : Domain) → HasItsBlock [] kind.Plain pred.Plain (0 ∷ []) (guarded ∷ []) (Goal ∷ []) (short quantity ∷ []) otherwise_block
has_else quantity = (contains_head (root_token 0) [], (NoEntry, has_block [] quantity otherwise_block.path NoEntry (the_guard, (NoEntry, NoEntry, (refl, (tt, refl))))))

opens_else : (blocks : List TokenBlock) → opens_here blocks (exactly 2) the_guard Otherwise
opens_else blocks = record {
  one = exactly 2;
  other = exactly 1;
  is_one = record {
    argument = Variable (Token (root_token 0) (Param 0));
    means = refl;
    counts = λ token belongs rejectable. inl (subst (IsActivated activated) belongs (contains_head (Activate (root_token 0)) []));
    has = gives_quantity blocks (exactly 2);
  };
  is_other = record { argument = Value (pos 1); means = refl; counts = tt; has = refl };
  always = λ v w has_v has_w same. omega (arith, ints, has_v.0, has_v.1, has_w.0, has_w.1, same);
}

-- it is asked for once the quantity is 2
else_there : (blocks : List TokenBlock) → IsClosed ruled activated (scene_state blocks (short (exactly 2) ∷ [])) → Contains blocks otherwise_block
else_there blocks p = p.consistent.blocks otherwise_block NoEntry (at_way blocks (exactly 2) otherwise_block.path NoEntry (the_guard, (NoEntry, NoEntry, (refl, (opens_else blocks, refl)))))

pub else_is_missing : IsClosed ruled activated (scene_state (top_block ∷ []) (short (exactly 2) ∷ [])) → ⊥
else_is_missing p =
    let paths = ap (λ (block : TokenBlock). length block.path) (only_member top_block otherwise_block (else_there (top_block ∷ []) p)) in
    omega (arith, paths)

abbrev number_of : Side → ℕ
number_of Then = 1
number_of Otherwise = 2

abbrev side_number : List Turn → ℕ
side_number [] = 0
side_number (turn ∷ path) = number_of turn.side

pub then_is_no_else : IsClosed ruled activated (scene_state (top_block ∷ then_block ∷ []) (short (exactly 2) ∷ [])) → ⊥
then_is_no_else p = elim (contains_cases top_block otherwise_block (then_block ∷ []) (else_there (top_block ∷ then_block ∷ []) p)) [
  | inl same ↦ (let sides = ap (λ (block : TokenBlock). side_number block.path) same in omega (arith, sides))
  | inr later ↦ (let sides = ap (λ (block : TokenBlock). side_number block.path) (only_member then_block otherwise_block later) in omega (arith, sides))
]

pub else_opened : IsClosed ruled activated (scene_state (top_block ∷ otherwise_block ∷ []) (short (exactly 2) ∷ []))
else_opened =
    let ordered = ordered_link IsBlockBefore block_transitive top_block otherwise_block [] (inr (refl, inr (refl, tt))) (ordered_one IsBlockBefore otherwise_block) in
    ruled_closed (top_block ∷ otherwise_block ∷ []) (exactly 2) (only_moment 0 1 2 (omega arith) (omega arith) (omega arith)) ordered
    (all_members (HasItsBlock [] kind.Plain pred.Plain (0 ∷ []) (guarded ∷ []) (Goal ∷ []) (short (exactly 2) ∷ [])) (top_block ∷ otherwise_block ∷ []) have)
    complete (in_order (top_block ∷ otherwise_block ∷ []) (short (exactly 2) ∷ []) ordered)
  where
    have : (block : TokenBlock) → Contains (top_block ∷ otherwise_block ∷ []) block → HasItsBlock [] kind.Plain pred.Plain (0 ∷ []) (guarded ∷ []) (Goal ∷ []) (short (exactly 2) ∷ []) block
    have block c = elim (contains_cases top_block block (otherwise_block ∷ []) c) [
      | inl same ↦ subst (HasItsBlock [] kind.Plain pred.Plain (0 ∷ []) (guarded ∷ []) (Goal ∷ []) (short (exactly 2) ∷ [])) same (has_top (exactly 2))
      | inr later ↦ subst (HasItsBlock [] kind.Plain pred.Plain (0 ∷ []) (guarded ∷ []) (Goal ∷ []) (short (exactly 2) ∷ [])) (only_member otherwise_block block later) (has_else (exactly 2))
    ]

    at_side : (side : Side) (path : List Turn) → path ≡ record { entry = 0; side = side } ∷ [] → ((v w : ℤ) → Has (exactly 2) v → Has (exactly 1) w → Selects the_guard side v w)
        → Contains (top_block ∷ otherwise_block ∷ []) (record { token = root_token 0; rule = 0; path = path })
    at_side Otherwise path e chooses = (1, omega arith, ap (λ p. record { token = root_token 0; rule = 0; path = p }) (sym e))
    at_side Then path e chooses =
        let same = chooses (pos 2) (pos 1) (omega (arith, ints), omega (arith, ints)) (omega (arith, ints), omega (arith, ints)) in absurd (omega (arith, ints, same))

    complete : (path : List Turn) → GoesTo (top_block ∷ otherwise_block ∷ []) (exactly 2) path → Contains (top_block ∷ otherwise_block ∷ []) (record { token = root_token 0; rule = 0; path = path })
    complete path (inl e) = (0, omega arith, ap (λ p. record { token = root_token 0; rule = 0; path = p }) (sym e))
    complete path (inr goes) = at_side goes.0 path goes.1.0 goes.1.1

-- ---- scenes without rules on an object that is nothing special

module _ (items : List Item) (kinds : List RootKind) (moments : List Moment) (lengths : length moments ≡ length kinds) (are : (place : ℕ) (moment : Moment) → slice_get moments place ≡ Some moment → IsMoment moment) where
  abbrev still : Model
  still = scene_with items kind.Plain pred.Plain [] [] kinds

  abbrev rests : State
  rests = scene_state [] moments

  -- whatever is activated, there are no blocks
  no_blocks : (decisions : List Decision) (block : TokenBlock) (entries : Entries) → IsSupportedBlock still (situation_of decisions rests) block entries → Contains [] block
  no_blocks decisions block entries p =
      let is = token_of 0 moments block.token (supported items kind.Plain pred.Plain [] [] kinds [] moments lengths are (no_rule items kind.Plain pred.Plain [] kinds) decisions block.token p.supported) in
      let has = p.is_open.has_block in
      let slot = slot_same items kind.Plain pred.Plain [] [] kinds (0 + is.place) has.slot (subst (λ t. HasToken still t has.slot) is.named has.has_token) in
      absurd (nothing_listed items kind.Plain pred.Plain [] kinds block.rule has.rule (subst (λ (s : Slot). HasRule still s.pred block.rule has.rule) slot has.has_rule))

  pub still_closed : (decisions : List Decision) → Grants items kind.Plain pred.Plain [] [] kinds [] moments lengths are (no_rule items kind.Plain pred.Plain [] kinds) decisions → IsClosed still decisions rests
  still_closed decisions granted =
      closed_with items kind.Plain pred.Plain [] [] kinds [] moments lengths are (no_rule items kind.Plain pred.Plain [] kinds) decisions granted
      (ordered_none IsBlockBefore) (all_members (HasItsBlock items kind.Plain pred.Plain [] [] kinds moments) [] (λ block c. absurd (contains_none block c))) (no_blocks decisions)
      (fit_no_timelines items kind.Plain pred.Plain [] [] kinds decisions rests (λ e. absurd (cc)))
      (fit_no_reusables items kind.Plain pred.Plain [] [] kinds decisions rests (λ capacity e. absurd (cc)))
      (fit_no_reservoirs items kind.Plain pred.Plain [] [] kinds decisions rests (λ initial low high e. absurd (cc)))

pub orders : (moments : List Moment) → AreInOrder (scene_state [] moments)
orders moments = in_order [] moments (ordered_none IsBlockBefore)

-- ---- merges

five : IsMoment (moment 0 5 2)
five = only_moment 0 5 2 (omega arith) (omega arith) (omega arith)

abbrev goal_fact : List RootKind
goal_fact = Goal ∷ Fact ∷ []

abbrev twins : List Moment
twins = moment 0 5 2 ∷ moment 0 5 2 ∷ []

pub merged_closed : IsClosed goal_and_fact merged (scene_state [] (moment 0 5 2 ∷ moment 0 5 2 ∷ []))
merged_closed =
    still_closed [] goal_fact twins refl (two_moments (moment 0 5 2) (moment 0 5 2) five five) merged (record {
      respected = λ decision c. subst (λ d. IsRespected d (scene_state [] twins)) (only_member (Merge (root_token 0) (root_token 1)) decision c) tt;
      said = λ claim p. absurd (contains_none p.item p.stands);
      merged = alike;
      ordered = λ claim p. let same = only_member (Merge (root_token 0) (root_token 1)) (Order p.one p.other) p.ordered in absurd (cc);
      posted = λ claim p. absurd (subst (λ d. Posts d claim) (sym (only_member (Merge (root_token 0) (root_token 1)) p.decision p.stands)) p.posts);
    })
  where
    at_part : (part : Part) → HasPart goal_and_fact (root_token 0) part → IsClaimConsistent goal_and_fact (scene_state [] twins) (equal (part_of (root_token 0) part) (part_of (root_token 1) part))
    at_part part has =
        let slot = slot_same [] kind.Plain pred.Plain [] [] goal_fact 0 has.0 has.1 in
        let base = has.2.0 in
        let found = part_domain [] kind.Plain pred.Plain [] [] goal_fact (moment 0 5 2) part base (subst (λ s. HasPartBase goal_and_fact s part base) slot has.2.1) in
        agreeing goal_and_fact (scene_state [] twins) (orders twins) (part_of (root_token 0) part) (part_of (root_token 1) part) Eq found.0 found.0
        (part_there twins 0 (moment 0 5 2) part found.0 refl found.1) (part_there twins 1 (moment 0 5 2) part found.0 refl found.1)
        (same_consistent found.0 (part_is_domain [] kind.Plain pred.Plain [] [] goal_fact (moment 0 5 2) part found.0 five found.1))

    alike : (claim : Claim) → IsOfMerge goal_and_fact merged claim → IsClaimConsistent goal_and_fact (scene_state [] twins) claim
    alike claim p =
        let same = only_member (Merge (root_token 0) (root_token 1)) (Merge p.token p.target) p.merged in
        let token : root_token 0 ≡ p.token = cc in
        let target : root_token 1 ≡ p.target = cc in
        let has = subst (λ t. HasPart goal_and_fact t p.part) (sym token) p.has_part in
        let says : claim ≡ equal (part_of (root_token 0) p.part) (part_of (root_token 1) p.part) = subst (λ t. claim ≡ equal (part_of t p.part) (part_of (root_token 1) p.part)) (sym token) (subst (λ t. claim ≡ equal (part_of p.token p.part) (part_of t p.part)) (sym target) p.says) in
        subst (IsClaimConsistent goal_and_fact (scene_state [] twins)) (sym says) (at_part p.part has)

-- parts of one number each are equal
module _ (one other : Moment) where
  abbrev pair_state : State
  pair_state = scene_state [] (one ∷ other ∷ [])

  merged_same : (part : Part) (base : Base) (x y : ℕ) → HasPartBase goal_and_fact (record { pred = 0; object = Given both_objects }) part base → HasPartDomain one part (exactly x) → HasPartDomain other part (exactly y)
      → IsClosed goal_and_fact merged pair_state → x ≡ y
  merged_same part base x y has is_x is_y p =
      equal_says goal_and_fact pair_state (orders (one ∷ other ∷ [])) (part_of (root_token 0) part) (part_of (root_token 1) part) x y
      (part_there (one ∷ other ∷ []) 0 one part (exactly x) refl is_x) (part_there (one ∷ other ∷ []) 1 other part (exactly y) refl is_y)
      (p.consistent.claims (equal (part_of (root_token 0) part) (part_of (root_token 1) part)) (inr (inr (inr (inl (record {
        token = root_token 0;
        target = root_token 1;
        part = part;
        merged = contains_head (Merge (root_token 0) (root_token 1)) [];
        has_part = (record { pred = 0; object = Given both_objects }, record { root = root_of 0 Goal; is_root = refl; reached = refl }, (base, has));
        says = refl;
      }))))))

pub merged_later : IsClosed goal_and_fact merged (scene_state [] (moment 1 5 2 ∷ moment 0 5 2 ∷ [])) → ⊥
merged_later p = let same = merged_same (moment 1 5 2) (moment 0 5 2) Start _ 1 0 refl refl refl p in omega (arith, same)

pub merged_shorter : IsClosed goal_and_fact merged (scene_state [] (moment 0 4 2 ∷ moment 0 5 2 ∷ [])) → ⊥
merged_shorter p = let same = merged_same (moment 0 4 2) (moment 0 5 2) End _ 4 5 refl refl refl p in omega (arith, same)

pub merged_more : IsClosed goal_and_fact merged (scene_state [] (moment 0 5 3 ∷ moment 0 5 2 ∷ [])) → ⊥
merged_more p =
    let same = merged_same (moment 0 5 3) (moment 0 5 2) (Param 0) _ 3 2 (_, record { predicate = predicate_of pred.Plain []; is_predicate = refl; declared = refl }, refl) refl refl p in
    omega (arith, same)

pub unmerged_closed : IsClosed goal_and_fact [] (scene_state [] (moment 0 5 3 ∷ moment 0 5 2 ∷ []))
unmerged_closed =
    plain_closed [] [] (Goal ∷ Fact ∷ []) (moment 0 5 3 ∷ moment 0 5 2 ∷ []) refl
    (two_moments (moment 0 5 3) (moment 0 5 2) (only_moment 0 5 3 (omega arith) (omega arith) (omega arith)) five) (no_rule [] kind.Plain pred.Plain [] (Goal ∷ Fact ∷ []))

-- ---- orders

abbrev facts : Model
facts = two_facts kind.Plain

module _ (one other : Moment) where
  abbrev follows : State
  follows = scene_state [] (one ∷ other ∷ [])

  first_end : Gives follows (Token (root_token 0) End) (exactly (one.start + one.duration))
  first_end = part_there (one ∷ other ∷ []) 0 one End (exactly (one.start + one.duration)) refl refl

  second_start : Gives follows (Token (root_token 1) Start) (exactly other.start)
  second_start = part_there (one ∷ other ∷ []) 1 other Start (exactly other.start) refl refl

  follows_says : IsClosed facts ordered follows → one.start + one.duration ≤ other.start
  follows_says p =
      at_most_says facts follows (orders (one ∷ other ∷ [])) (part_of (root_token 0) End) (part_of (root_token 1) Start) (one.start + one.duration) other.start first_end second_start
      (p.consistent.claims (at_most (part_of (root_token 0) End) (part_of (root_token 1) Start))
      (inr (inr (inr (inr (inl (record { one = root_token 0; other = root_token 1; ordered = contains_head (Order (root_token 0) (root_token 1)) []; says = refl })))))))

  follows_closed : IsMoment one → IsMoment other → one.start + one.duration ≤ other.start → IsClosed facts ordered follows
  follows_closed ok ok' less =
      still_closed [] (Fact ∷ Fact ∷ []) (one ∷ other ∷ []) refl (two_moments one other ok ok') ordered (record {
        respected = λ decision c. subst (λ d. IsRespected d follows) (only_member (Order (root_token 0) (root_token 1)) decision c) tt;
        said = λ claim p. absurd (contains_none p.item p.stands);
        merged = λ claim p. let same = only_member (Order (root_token 0) (root_token 1)) (Merge p.token p.target) p.merged in absurd (cc);
        ordered = λ claim p.
            let same = only_member (Order (root_token 0) (root_token 1)) (Order p.one p.other) p.ordered in
            let first : root_token 0 ≡ p.one = cc in
            let second : root_token 1 ≡ p.other = cc in
            let says : claim ≡ at_most (part_of (root_token 0) End) (part_of (root_token 1) Start) = p.says ∙ sym (λ i. at_most (part_of (first i) End) (part_of (second i) Start)) in
            subst (IsClaimConsistent facts follows) (sym says)
            (at_most_holds facts follows (orders (one ∷ other ∷ [])) (part_of (root_token 0) End) (part_of (root_token 1) Start) (one.start + one.duration) other.start first_end second_start less);
        posted = λ claim p. absurd (subst (λ d. Posts d claim) (sym (only_member (Order (root_token 0) (root_token 1)) p.decision p.stands)) p.posts);
      })

pub ordered_closed : IsClosed facts ordered (scene_state [] (moment 0 5 0 ∷ moment 5 3 0 ∷ []))
ordered_closed =
    follows_closed (moment 0 5 0) (moment 5 3 0) (only_moment 0 5 0 (omega arith) (omega arith) (omega arith)) (only_moment 5 3 0 (omega arith) (omega arith) (omega arith)) (omega arith)

pub ordered_overlap : IsClosed facts ordered (scene_state [] (moment 0 5 0 ∷ moment 4 3 0 ∷ [])) → ⊥
ordered_overlap p = let less = follows_says (moment 0 5 0) (moment 4 3 0) p in omega (arith, less)

pub ordered_turned : IsClosed facts ordered (scene_state [] (moment 5 3 0 ∷ moment 0 5 0 ∷ [])) → ⊥
ordered_turned p = let less = follows_says (moment 5 3 0) (moment 0 5 0) p in omega (arith, less)

pub unordered_closed : IsClosed facts [] (scene_state [] (moment 5 3 0 ∷ moment 0 5 0 ∷ []))
unordered_closed =
    plain_closed [] [] (Fact ∷ Fact ∷ []) (moment 5 3 0 ∷ moment 0 5 0 ∷ []) refl
    (two_moments (moment 5 3 0) (moment 0 5 0) (only_moment 5 3 0 (omega arith) (omega arith) (omega arith)) (only_moment 0 5 0 (omega arith) (omega arith) (omega arith))) (no_rule [] kind.Plain pred.Plain [] (Fact ∷ Fact ∷ []))

-- ---- rejectables

abbrev the_quantity : Argument
the_quantity = Variable (Token (root_token 0) (Param 0))

module _ (root_kind : RootKind) (number : ℕ) where
  abbrev alone : State
  alone = scene_state [] (moment 0 1 number ∷ [])

  has_quantity : Gives alone (Token (root_token 0) (Param 0)) (exactly number)
  has_quantity = part_there (moment 0 1 number ∷ []) 0 (moment 0 1 number) (Param 0) (exactly number) refl refl

  limited_says : (decisions : List Decision) → (IsRejectable (limited root_kind) (root_token 0) → IsTaken decisions (root_token 0)) → IsClosed (limited root_kind) decisions alone → number ≤ 1
  limited_says decisions taken p =
      at_most_says (limited root_kind) alone (orders (moment 0 1 number ∷ [])) the_quantity (Value (pos 1)) number 1 has_quantity refl
      (p.consistent.claims (at_most the_quantity (Value (pos 1))) (inl (record {
        item = at_most_one;
        stands = contains_head at_most_one [];
        says = record { is_kind = refl; means = (refl, (refl, tt)); counts = all_members (ArgumentCounts (limited root_kind) (IsTaken decisions)) (the_quantity ∷ Value (pos 1) ∷ []) counts };
      })))
    where
      counts : (a : Argument) → Contains (the_quantity ∷ Value (pos 1) ∷ []) a → ArgumentCounts (limited root_kind) (IsTaken decisions) a
      counts a c = elim (contains_cases the_quantity a (Value (pos 1) ∷ []) c) [
        | inl same ↦ subst (ArgumentCounts (limited root_kind) (IsTaken decisions)) same
            (λ token belongs rejectable. subst (IsTaken decisions) belongs (taken (subst (IsRejectable (limited root_kind)) (sym belongs) rejectable)))
        | inr later ↦ subst (ArgumentCounts (limited root_kind) (IsTaken decisions)) (only_member (Value (pos 1)) a later) tt
      ]

  limited_closed : number ≤ 10 → (decisions : List Decision) → ((decision : Decision) → Contains decisions decision → IsPlain decision)
      → (All (ArgumentCounts (limited root_kind) (IsTaken decisions)) (the_quantity ∷ Value (pos 1) ∷ []) → number ≤ 1) → IsClosed (limited root_kind) decisions alone
  limited_closed few decisions quiet low =
      let are = one_moment (moment 0 1 number) (only_moment 0 1 number (omega arith) (omega arith) few) in
      let no_rules = no_rule (at_most_one ∷ []) kind.Plain pred.Plain [] (root_kind ∷ []) in
      still_closed (at_most_one ∷ []) (root_kind ∷ []) (moment 0 1 number ∷ []) refl are decisions
      (plain_grants (at_most_one ∷ []) kind.Plain pred.Plain [] [] (root_kind ∷ []) [] (moment 0 1 number ∷ []) refl are no_rules decisions quiet
      (λ claim p.
      let is = only_claim (limited root_kind) (IsTaken decisions) Leq (term.Root 0 (Param 0)) (term.Lit (pos 1)) the_quantity (Value (pos 1)) refl (λ x e. e) (λ x e. e) claim p in
      subst (IsClaimConsistent (limited root_kind) alone) (sym is.0)
      (at_most_holds (limited root_kind) alone (orders (moment 0 1 number ∷ [])) the_quantity (Value (pos 1)) number 1 has_quantity refl (low is.1))))

pub untaken_closed : IsClosed (limited Rejectable) [] (scene_state [] (moment 0 1 2 ∷ []))
untaken_closed = limited_closed Rejectable 2 (omega arith) [] nothing_decided (λ counts. absurd (untaken (counts 0 the_quantity (omega arith) (root_token 0) refl (refl, (root_of 0 Rejectable, refl, refl)))))
  where
    untaken : IsTaken [] (root_token 0) → ⊥
    untaken (inl activation) = contains_none (Activate (root_token 0)) activation
    untaken (inr merge) = contains_none (Merge (root_token 0) merge.0) merge.1

pub taken_is_high : IsClosed (limited Rejectable) activated (scene_state [] (moment 0 1 2 ∷ [])) → ⊥
taken_is_high p = let low = limited_says Rejectable 2 activated (λ rejectable. inl (contains_head (Activate (root_token 0)) [])) p in omega (arith, low)

pub taken_closed : IsClosed (limited Rejectable) activated (scene_state [] (moment 0 1 1 ∷ []))
taken_closed = limited_closed Rejectable 1 (omega arith) activated (one_decided (Activate (root_token 0)) tt) (λ counts. omega arith)

pub fact_is_high : IsClosed (limited Fact) [] (scene_state [] (moment 0 1 2 ∷ [])) → ⊥
fact_is_high p = let low = limited_says Fact 2 [] (λ rejectable. absurd (not_rejectable rejectable)) p in omega (arith, low)
  where
    not_rejectable : IsRejectable (limited Fact) (root_token 0) → ⊥
    not_rejectable is =
        let root = same_some (root_of 0 Fact) is.1.0 is.1.1 in
        let same : Fact ≡ Rejectable = ap (λ (r : Root). r.kind) root ∙ is.1.2 in
        absurd (cc)
