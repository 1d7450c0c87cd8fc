-- When the states of scenes are closed, but for what depends on the object.
use Rattle.std.proofs.Common.{◌≡◌, ℕ, suc, zero, ◌+◌, ◌≤◌, List, [], ◌∷◌, length, Some, ℤ, pos, ◌+ℤ◌, inl, inr, refl, sym, ap, ◌∙◌, subst, arith}
use Rattle.std.specs.Prelude.{Contains, All, AllPairs, slice_get, ⊤, ◌⊎◌, ◌↔◌}
use Rattle.std.proofs.lemmas.Int.{ints}
use Rattle.std.proofs.lemmas.List.Elements.{All-contains}
use Rattle.domain_core.specs.Domain.{Domain, Range, IsDomain, IsWithin, IsTested, IsBetweenEnds}
use Rattle.eu_name.specs.declared.name.Part.{Part}
use Rattle.eu_name.specs.declared.name.Part.TheVariants.{Start, End, Duration, Object, Param}
use Rattle.eu_name.specs.declared.name.Step.{Step}
use Rattle.eu_name.specs.declared.name.TokenName.{TokenName}
use Rattle.eu_name.specs.declared.name.VarName.{VarName}
use Rattle.eu_name.specs.declared.name.VarName.TheVariants.{Token, Local, Global}
use Rattle.model_core.specs.declared.class.ObjectKind.{ObjectKind}
use Rattle.model_core.specs.declared.class.Pred.{Pred}
use Rattle.model_core.specs.declared.class.PredKind.{PredKind}
use Rattle.model_core.specs.declared.decision.Decision.{Decision}
use Rattle.model_core.specs.declared.decision.Decision.TheVariants.{Specify, Activate, Merge, Reject, Order, Constrain, Relate}
use Rattle.model_core.specs.declared.item.Item.{Item}
use Rattle.domain_core.specs.declared.kind.Kind.TheVariants.{AddEq}
use Rattle.model_core.specs.declared.model.Model.{Model}
use Rattle.model_core.specs.declared.model.RootKind.{RootKind}
use Rattle.model_core.specs.declared.rule.Guard.{Guard}
use Rattle.model_core.specs.declared.rule.Rule.{Rule}
use Rattle.model_core.specs.declared.rule.Side.{Side}
use Rattle.model_core.specs.declared.rule.Side.TheVariants.{Then, Otherwise}
use Rattle.model_core.specs.declared.rule.Slot.{Slot}
use Rattle.model_core.specs.declared.rule.Turn.{Turn}
use Rattle.model_core.specs.declared.variable.Base.{Base}
use Rattle.model_core.specs.declared.variable.Base.TheVariants.{Given}
use Rattle.model_core.specs.Blocks.{TokenBlock, Follows, HasBlock, IsBlock, IsBlockBefore, Direct, OfSlot, OfLocal, OfItem, OfBranch, direct, chosen}
use Rattle.domain_core.specs.Consistency.{Ends}
use Rattle.domain_core.specs.Constraints.{HoldsOf}
use Rattle.model_core.specs.Entries.{Entries, NoEntry}
use Rattle.model_core.specs.State.{State, VarDomain, Gives, IsAbout, IsState}
use Rattle.model_core.specs.Tokens.{HasToken, HasRule, root_token, slot_of}
use Rattle.model_core.specs.Variables.{HasBase, HasPartBase, IsInBase}
use Rattle.model_core.specs.Decided.{IsTaken}
use Rattle.plan_defs.specs.Claims.{Claim, IsClaim, IsOfProblem, IsOfMerge, IsOfOrder, IsOfPosting, Posts, lasts}
use Rattle.plan_defs.specs.Closure.{IsClosed, AreInBase, IsRespected}
use Rattle.plan_defs.specs.Consistency.{IsClaimConsistent}
use Rattle.plan_defs.specs.Resources.{FitReusables, FitReservoirs}
use Rattle.plan_defs.specs.Situations.{situation_of}
use Rattle.plan_defs.specs.Support.{Opens, IsSupportedToken, IsSupportedBlock}
use Rattle.plan_defs.specs.Terms.{InRule}
use Rattle.plan_defs.specs.Timelines.{FitTimelines}
use Rattle.eu_name.proofs.Ordered.{contains_none}
use Rattle.law_examples.specs.Scenes.{both_objects, predicate_of, root_of, scene, scene_with, Moment, exactly, tokens_of, scene_entries, scene_state, guarded}
use Rattle.law_examples.proofs.Lists.{all_members, only_member, same_some, get_root, root_get, get_alike}
use Rattle.law_examples.proofs.Scenes.{tokens_in_order, entries_in_order, HasPartDomain, entry_of, entry_there, token_of, token_there}
use Rattle.law_examples.proofs.Tuples.{three_consistent}

-- the times are those that tokens can have, and the quantity is one
pub record IsMoment (moment : Moment) : Type 0 where
  pub some : 1 ≤ moment.duration
  pub ends : moment.start + moment.duration ≤ 10
  pub quantity : IsDomain moment.quantity
  pub within : IsWithin moment.quantity (Range (pos 0) (pos 1000000))
  pub object : IsDomain moment.object
  pub object_within : IsWithin moment.object both_objects

-- neither a value is specified, nor are tokens merged or put in order
abbrev pub IsPlain : Decision → Type 0
IsPlain (Activate token) = ⊤
IsPlain (Reject token) = ⊤
IsPlain decision = ⊥

-- ---- what stands in the one rule

pub nothing_follows : (Allows : Guard → Side → Type 0) (path : List Turn) (entries : Entries) → Follows Allows NoEntry path entries → entries ≡ NoEntry
nothing_follows Allows [] entries way = way
nothing_follows Allows (turn ∷ path) entries way = let at = way.1.2.0 in absurd (cc)

-- the ways through the rule lead to its own block, or to one without entries
pub guarded_follows : (Allows : Guard → Side → Type 0) (path : List Turn) (entries : Entries) → Follows Allows guarded.top path entries → (entries ≡ guarded.top) ⊎ (entries ≡ NoEntry)
guarded_follows Allows [] entries way = inl way
guarded_follows Allows (turn ∷ path) entries way = inr (behind turn.entry turn.side way.0 way.1.0 way.1.1 way.1.2.0 way.1.2.1.1)
  where
    behind : (place : ℕ) (side : Side) (guard : Guard) (then otherwise : Entries) → slice_get (direct guarded.top) place ≡ Some (OfBranch guard then otherwise)
        → Follows Allows (chosen side then otherwise) path entries → entries ≡ NoEntry
    behind (suc place) side guard then otherwise at way = absurd (cc)
    behind zero Then guard then otherwise at way = let is : then ≡ NoEntry = cc in nothing_follows Allows path entries (subst (λ e. Follows Allows e path entries) is way)
    behind zero Otherwise guard then otherwise at way = let is : otherwise ≡ NoEntry = cc in nothing_follows Allows path entries (subst (λ e. Follows Allows e path entries) is way)

-- so nothing but a guard stands anywhere in it
only_guards : (entries : Entries) (item : Direct) → (entries ≡ guarded.top) ⊎ (entries ≡ NoEntry) → Contains (direct entries) item → (guard : Guard) × ((then otherwise : Entries) × (item ≡ OfBranch guard then otherwise))
only_guards entries item (inl top) c =
    let same = only_member (OfBranch _ NoEntry NoEntry) item (subst (λ e. Contains (direct e) item) top c) in
    (_, (NoEntry, NoEntry, sym same))
only_guards entries item (inr none) c = absurd (contains_none item (subst (λ e. Contains (direct e) item) none c))

module _ (items : List Item) (object_kind : ObjectKind) (pred_kind : PredKind) (numbers : List ℕ) (rules : List Rule) (kinds : List RootKind) where
  abbrev model : Model
  model = scene_with items object_kind pred_kind numbers rules kinds

  abbrev pub the_slot : Slot
  the_slot = record { pred = 0; object = Given both_objects }

  -- what a token of the scene is, is always the same
  pub slot_same : (number : ℕ) (slot : Slot) → HasToken model (root_token number) slot → slot ≡ the_slot
  slot_same number slot p =
      let found = get_root 0 kinds number p.root p.is_root in
      p.reached ∙ ap slot_of (sym found.1.1)

  pub has_token : (number : ℕ) (kind : RootKind) → slice_get kinds number ≡ Some kind → HasToken model (root_token number) the_slot
  has_token number kind at = record { root = root_of (0 + number) kind; is_root = root_get 0 kinds number kind at; reached = refl }

  -- parts of tokens, and the bases of those that there are
  abbrev pub part_base : Part → Base
  part_base Object = Given both_objects
  part_base Start = Given (Range (pos 0) (pos 10))
  part_base End = Given (Range (pos 0) (pos 10))
  part_base Duration = Given (Range (pos 1) (pos 10))
  part_base (Param number) = Given (Range (pos 0) (pos 1000000))

  has_part_base : (moment : Moment) (part : Part) (domain : Domain) → HasPartDomain moment part domain → HasPartBase model the_slot part (part_base part)
  has_part_base moment Object domain is = refl
  has_part_base moment Start domain is = refl
  has_part_base moment End domain is = refl
  has_part_base moment Duration domain is = refl
  has_part_base moment (Param zero) domain is = (_, record { predicate = predicate_of pred_kind numbers; is_predicate = refl; declared = refl }, refl)
  has_part_base moment (Param (suc number)) domain is = absurd is

  -- a part that has a base has a domain at each moment
  pub part_domain : (moment : Moment) (part : Part) (base : Base) → HasPartBase model the_slot part base → (domain : Domain) × HasPartDomain moment part domain
  part_domain moment Object base is = (moment.object, refl)
  part_domain moment Start base is = (exactly moment.start, refl)
  part_domain moment End base is = (exactly (moment.start + moment.duration), refl)
  part_domain moment Duration base is = (exactly moment.duration, refl)
  part_domain moment (Param zero) base is = (moment.quantity, refl)
  part_domain moment (Param (suc number)) base (variable, has, e) =
      let predicate : predicate_of pred_kind numbers ≡ has.predicate = same_some (predicate_of pred_kind numbers) has.predicate has.is_predicate in
      let declared : slice_get (predicate_of pred_kind numbers).params (suc number) ≡ Some variable = subst (λ (p : Pred). slice_get p.params (suc number) ≡ Some variable) (sym predicate) has.declared in
      absurd (cc)

  only_within : (value lo hi : ℕ) → lo ≤ value → value ≤ hi → IsWithin (exactly value) (Range (pos lo) (pos hi))
  only_within value lo hi low high = record { kind = tt; values = λ v has. (omega (arith, ints, has.0), omega (arith, ints, has.1)) }

  part_within : (moment : Moment) (part : Part) (domain : Domain) → IsMoment moment → HasPartDomain moment part domain → IsInBase domain (part_base part)
  part_within moment Object domain ok is = subst (λ d. IsWithin d both_objects) (sym is) ok.object_within
  part_within moment Start domain ok is = subst (λ d. IsWithin d (Range (pos 0) (pos 10))) (sym is) (only_within moment.start 0 10 (omega arith) (omega (arith, ok.ends)))
  part_within moment End domain ok is = subst (λ d. IsWithin d (Range (pos 0) (pos 10))) (sym is) (only_within (moment.start + moment.duration) 0 10 (omega arith) (omega (arith, ok.ends)))
  part_within moment Duration domain ok is = subst (λ d. IsWithin d (Range (pos 1) (pos 10))) (sym is) (only_within moment.duration 1 10 (omega (arith, ok.some)) (omega (arith, ok.ends)))
  part_within moment (Param zero) domain ok is = subst (λ d. IsWithin d (Range (pos 0) (pos 1000000))) (sym is) ok.within
  part_within moment (Param (suc number)) domain ok is = absurd is

  pub only_domain : (value : ℕ) → value ≤ 10 → IsDomain (exactly value)
  only_domain value low = ((omega (arith, ints), omega (arith, ints)), (omega (arith, ints), omega (arith, ints)), omega (arith, ints))

  pub part_is_domain : (moment : Moment) (part : Part) (domain : Domain) → IsMoment moment → HasPartDomain moment part domain → IsDomain domain
  part_is_domain moment Object domain ok is = subst IsDomain (sym is) ok.object
  part_is_domain moment Start domain ok is = subst IsDomain (sym is) (only_domain moment.start (omega (arith, ok.ends)))
  part_is_domain moment End domain ok is = subst IsDomain (sym is) (only_domain (moment.start + moment.duration) (omega (arith, ok.ends)))
  part_is_domain moment Duration domain ok is = subst IsDomain (sym is) (only_domain moment.duration (omega (arith, ok.ends)))
  part_is_domain moment (Param zero) domain ok is = subst IsDomain (sym is) ok.quantity
  part_is_domain moment (Param (suc number)) domain ok is = absurd is

  -- the block is one of a token of the state
  abbrev pub HasItsBlock : List Moment → TokenBlock → Type 0
  HasItsBlock moments block = Contains (tokens_of 0 moments) block.token × ((entries : Entries) × IsBlock model block entries)

  -- ---- a state with as many moments as there are roots

  module _ (blocks : List TokenBlock) (moments : List Moment) (lengths : length moments ≡ length kinds) (are : (place : ℕ) (moment : Moment) → slice_get moments place ≡ Some moment → IsMoment moment) where
    abbrev state : State
    state = scene_state blocks moments

    no_shift : (number : ℕ) → 0 + number ≡ number
    no_shift number = omega arith

    -- the variables of the state are those that it is about
    pub gives_part : (token : TokenName) (part : Part) → IsAbout model state (Token token part) → (domain : Domain) × Gives state (Token token part) domain
    gives_part token part about =
        let is = token_of 0 moments token about.0 in
        let base = about.1.0 in
        let named : token ≡ root_token is.place = is.named ∙ ap root_token (no_shift is.place) in
        let slot = slot_same is.place about.1.1.0 (subst (λ t. HasToken model t about.1.1.0) named about.1.1.1) in
        let found = part_domain is.moment part base (subst (λ (s : Slot). HasPartBase model s part base) slot about.1.1.2) in
        (found.0, subst (λ t. Gives state (Token t part) found.0) (sym is.named) (entry_there 0 moments is.place is.moment part found.0 is.at found.1))

    pub about_part : (name : VarName) (domain : Domain) → Gives state name domain → IsAbout model state name
    about_part name domain gives =
        let is = entry_of 0 moments name domain gives in
        let kind = get_alike moments kinds is.place is.moment lengths is.at in
        let named : name ≡ Token (root_token is.place) is.part = is.named ∙ ap (λ n. Token (root_token n) is.part) (no_shift is.place) in
        let there = subst (λ n. Contains (tokens_of 0 moments) (root_token n)) (no_shift is.place) (token_there 0 moments is.place is.moment is.at) in
        subst (IsAbout model state) (sym named)
        (there, (part_base is.part, (the_slot, has_token is.place kind.0 kind.1, has_part_base is.moment is.part domain is.is)))

    pub in_base : AreInBase model state
    in_base name domain gives =
        let is = entry_of 0 moments name domain gives in
        let about = about_part name domain gives in
        let named : name ≡ Token (root_token is.place) is.part = is.named ∙ ap (λ n. Token (root_token n) is.part) (no_shift is.place) in
        let kind = get_alike moments kinds is.place is.moment lengths is.at in (
          part_base is.part,
          subst (λ n. HasBase model n (part_base is.part)) (sym named) (the_slot, has_token is.place kind.0 kind.1, has_part_base is.moment is.part domain is.is),
          part_within is.moment is.part domain (are is.place is.moment is.at) is.is,
        )

    -- a token ends its duration after its start
    pub lasts_at : (number : ℕ) (moment : Moment) → slice_get moments number ≡ Some moment → IsClaimConsistent model state (lasts (root_token number))
    lasts_at number moment at =
        let gives : (part : Part) (domain : Domain) → HasPartDomain moment part domain → Gives state (Token (root_token number) part) domain
        = λ part domain is. subst (λ n. Gives state (Token (root_token n) part) domain) (no_shift number) (entry_there 0 moments number moment part domain at is) in
        let start = exactly moment.start in
        let duration = exactly moment.duration in
        let end = exactly (moment.start + moment.duration) in
        let sum : (pos moment.start +ℤ pos moment.duration) ≡ pos (moment.start + moment.duration) = omega (arith, ints) in
        let in_start = (let b : IsBetweenEnds start (pos moment.start) = (omega (arith, ints), omega (arith, ints)) in b) in
        let in_duration = (let b : IsBetweenEnds duration (pos moment.duration) = (omega (arith, ints), omega (arith, ints)) in b) in
        let in_end = (let b : IsBetweenEnds end (pos (moment.start + moment.duration)) = (omega (arith, ints), omega (arith, ints)) in b) in record {
          domains = start ∷ duration ∷ end ∷ [];
          have = (gives Start start refl, (gives Duration duration refl, (gives End end refl, tt)));
          agree = three_consistent Ends (HoldsOf AddEq) start duration end
              (λ v tested. ([], pos moment.duration ∷ pos (moment.start + moment.duration) ∷ [], tt, (in_duration, (in_end, tt)), one_value moment.start v tested (λ w. (w +ℤ pos moment.duration) ≡ pos (moment.start + moment.duration)) sum))
              (λ v tested. (pos moment.start ∷ [], pos (moment.start + moment.duration) ∷ [], (in_start, tt), (in_end, tt), one_value moment.duration v tested (λ w. (pos moment.start +ℤ w) ≡ pos (moment.start + moment.duration)) sum))
              (λ v tested. (pos moment.start ∷ pos moment.duration ∷ [], [], (in_start, (in_duration, tt)), tt, one_value (moment.start + moment.duration) v tested (λ w. (pos moment.start +ℤ pos moment.duration) ≡ w) sum));
        }
      where
        one_value : (number : ℕ) (v : ℤ) → IsTested (exactly number) v → (P : ℤ → Type 0) → P (pos number) → P v
        one_value number v (inl e) P p = subst P (sym e) p
        one_value number v (inr e) P p = subst P (sym e) p

    module _ (plain : (number : ℕ) (rule : Rule) → HasRule model 0 number rule → rule ≡ guarded) where
      stands_in : (Allows : Guard → Side → Type 0) (block : TokenBlock) (entries : Entries) (number : ℕ) → block.token ≡ root_token number → HasBlock model Allows block entries → (entries ≡ guarded.top) ⊎ (entries ≡ NoEntry)
      stands_in Allows block entries number named p =
          let slot = slot_same number p.slot (subst (λ t. HasToken model t p.slot) named p.has_token) in
          let rule = plain block.rule p.rule (subst (λ (s : Slot). HasRule model s.pred block.rule p.rule) slot p.has_rule) in
          guarded_follows Allows block.path entries (subst (λ (r : Rule). Follows Allows r.top block.path entries) rule p.way)

      no_locals : (token : TokenName) (rule number : ℕ) → All (HasItsBlock moments) blocks → IsAbout model state (Local token rule number) → ⊥
      no_locals token rule number blocks_ok about =
          let block : TokenBlock = about.block in
          let entries : Entries = about.entries in
          let place : HasItsBlock moments block = All-contains (HasItsBlock moments) blocks block blocks_ok about.is_open in
          let is = token_of 0 moments block.token place.0 in
          let none = only_guards entries (OfLocal number) (stands_in (λ guard side. ⊤) block entries is.place (is.named ∙ ap root_token (no_shift is.place)) about.is_block) about.stands in
          let e = none.1.2 in absurd (cc)

      variables_of : All (HasItsBlock moments) blocks → (name : VarName) → IsAbout model state name ↔ ((domain : Domain) × Gives state name domain)
      variables_of blocks_ok (Global number) = (λ about. absurd (omega (arith, about)), λ found. about_part (Global number) found.0 found.1)
      variables_of blocks_ok (Token token part) = (gives_part token part, λ found. about_part (Token token part) found.0 found.1)
      variables_of blocks_ok (Local token rule number) = (λ about. absurd (no_locals token rule number blocks_ok about), λ found. about_part (Local token rule number) found.0 found.1)

      is_state : AllPairs IsBlockBefore blocks → All (HasItsBlock moments) blocks → IsState model state
      is_state ordered blocks_ok = record {
        order = record { tokens = tokens_in_order 0 moments; blocks = ordered; entries = entries_in_order 0 moments };
        tokens = all_members (λ token. (slot : Slot) × HasToken model token slot) (tokens_of 0 moments) (λ token c.
            let is = token_of 0 moments token c in
            let kind = get_alike moments kinds is.place is.moment lengths is.at in
            (the_slot, subst (λ t. HasToken model t the_slot) (sym (is.named ∙ ap root_token (no_shift is.place))) (has_token is.place kind.0 kind.1)));
        blocks = blocks_ok;
        variables = variables_of blocks_ok;
        domains = all_members (λ (entry : VarDomain). IsDomain entry.domain) (scene_entries 0 moments) (λ entry c.
            let is = entry_of 0 moments entry.name entry.domain c in
            part_is_domain is.moment is.part entry.domain (are is.place is.moment is.at) is.is);
      }

      -- a supported token is a root
      supported_at : (decisions : List Decision) (number : ℕ) (steps : List Step) → IsSupportedToken model (situation_of decisions state) (record { root = number; steps = steps }) → Contains (tokens_of 0 moments) (record { root = number; steps = steps })
      supported_at decisions number [] p =
          let kind = get_root 0 kinds number p.root p.is_root in
          let moment = get_alike kinds moments number kind.0 (sym lengths) kind.1.0 in
          subst (λ n. Contains (tokens_of 0 moments) (root_token n)) (no_shift number) (token_there 0 moments number moment.0 moment.1)
      supported_at decisions number (step ∷ steps) p =
          let asks = p.asked [] step steps refl in
          let none = only_guards asks.entries (OfSlot step.slot) (stands_in (Opens model (situation_of decisions state) (InRule (root_token number) step.rule)) (record { token = root_token number; rule = step.rule; path = asks.path }) asks.entries number refl asks.is_open.has_block) asks.stands in
          let e = none.1.2 in absurd (cc)

      pub supported : (decisions : List Decision) (token : TokenName) → IsSupportedToken model (situation_of decisions state) token → Contains (tokens_of 0 moments) token
      supported decisions token p = supported_at decisions token.root token.steps p

      -- what else the decisions and the problem ask for: the values that are specified, and what constraints, merges, orders and postings say
      pub record Grants (decisions : List Decision) : Type 0 where
        pub respected : (decision : Decision) → Contains decisions decision → IsRespected decision state
        pub said : (claim : Claim) → IsOfProblem model (IsTaken decisions) claim → IsClaimConsistent model state claim
        pub merged : (claim : Claim) → IsOfMerge model decisions claim → IsClaimConsistent model state claim
        pub ordered : (claim : Claim) → IsOfOrder decisions claim → IsClaimConsistent model state claim
        pub posted : (claim : Claim) → IsOfPosting model decisions claim → IsClaimConsistent model state claim

      claims : (decisions : List Decision) → Grants decisions → All (HasItsBlock moments) blocks → (claim : Claim) → IsClaim model decisions state claim → IsClaimConsistent model state claim
      claims decisions granted blocks_ok claim (inl p) = granted.said claim p
      claims decisions granted blocks_ok claim (inr (inl p)) =
          let place : HasItsBlock moments p.block = All-contains (HasItsBlock moments) blocks p.block blocks_ok p.is_open in
          let is = token_of 0 moments p.block.token place.0 in
          let none = only_guards p.entries (OfItem p.item) (stands_in (λ guard side. ⊤) p.block p.entries is.place (is.named ∙ ap root_token (no_shift is.place)) p.has_block) p.stands in
          let e = none.1.2 in absurd (cc)
      claims decisions granted blocks_ok claim (inr (inr (inl p))) =
          let is = token_of 0 moments p.token p.there in
          subst (IsClaimConsistent model state) (sym (p.says ∙ ap lasts (is.named ∙ ap root_token (no_shift is.place)))) (lasts_at is.place is.moment is.at)
      claims decisions granted blocks_ok claim (inr (inr (inr (inl p)))) = granted.merged claim p
      claims decisions granted blocks_ok claim (inr (inr (inr (inr (inl p))))) = granted.ordered claim p
      claims decisions granted blocks_ok claim (inr (inr (inr (inr (inr p))))) = granted.posted claim p

      -- so the state is closed where timelines and resources fit, and no block is missing
      pub closed_with : (decisions : List Decision) → Grants decisions → AllPairs IsBlockBefore blocks → All (HasItsBlock moments) blocks
          → ((block : TokenBlock) (entries : Entries) → IsSupportedBlock model (situation_of decisions state) block entries → Contains blocks block)
          → FitTimelines model decisions state → FitReusables model decisions state → FitReservoirs model decisions state → IsClosed model decisions state
      closed_with decisions granted ordered blocks_ok complete timelines reusables reservoirs = record {
        consistent = record {
          is_state = is_state ordered blocks_ok;
          tokens = supported decisions;
          blocks = complete;
          in_base = in_base;
          respected = granted.respected;
          claims = claims decisions granted blocks_ok;
          timelines = timelines;
        };
        reusables = reusables;
        reservoirs = reservoirs;
      }

      respected_of : (decision : Decision) → IsPlain decision → IsRespected decision state
      respected_of (Activate token) plain = tt
      respected_of (Reject token) plain = tt
      respected_of (Specify name value) plain = absurd plain
      respected_of (Merge token target) plain = tt
      respected_of (Order one other) plain = tt
      respected_of (Constrain kind arguments) plain = tt
      respected_of (Relate relation one other) plain = tt

      posts_nothing : (decision : Decision) (claim : Claim) → IsPlain decision → Posts decision claim → ⊥
      posts_nothing (Activate token) claim plain posts = posts
      posts_nothing (Reject token) claim plain posts = posts
      posts_nothing (Specify name value) claim plain posts = plain
      posts_nothing (Merge token target) claim plain posts = plain
      posts_nothing (Order one other) claim plain posts = plain
      posts_nothing (Constrain kind arguments) claim plain posts = plain
      posts_nothing (Relate relation one other) claim plain posts = plain

      -- plain decisions ask for nothing else
      pub plain_grants : (decisions : List Decision) → ((decision : Decision) → Contains decisions decision → IsPlain decision)
          → ((claim : Claim) → IsOfProblem model (IsTaken decisions) claim → IsClaimConsistent model state claim) → Grants decisions
      plain_grants decisions quiet said = record {
        respected = λ decision there. respected_of decision (quiet decision there);
        said = said;
        merged = λ claim p. absurd (quiet (Merge p.token p.target) p.merged);
        ordered = λ claim p. absurd (quiet (Order p.one p.other) p.ordered);
        posted = λ claim p. absurd (posts_nothing p.decision claim (quiet p.decision p.stands) p.posts);
      }

-- where the problem has no constraints either nothing else is asked for
module _ (object_kind : ObjectKind) (pred_kind : PredKind) (numbers : List ℕ) (rules : List Rule) (kinds : List RootKind)
    (blocks : List TokenBlock) (moments : List Moment) (lengths : length moments ≡ length kinds) (are : (place : ℕ) (moment : Moment) → slice_get moments place ≡ Some moment → IsMoment moment)
    (plain : (number : ℕ) (rule : Rule) → HasRule (scene object_kind pred_kind numbers rules kinds) 0 number rule → rule ≡ guarded) (decisions : List Decision) where
  pub closed : ((decision : Decision) → Contains decisions decision → IsPlain decision) → AllPairs IsBlockBefore blocks → All (HasItsBlock [] object_kind pred_kind numbers rules kinds moments) blocks
      → ((block : TokenBlock) (entries : Entries) → IsSupportedBlock (scene object_kind pred_kind numbers rules kinds) (situation_of decisions (scene_state blocks moments)) block entries → Contains blocks block)
      → FitTimelines (scene object_kind pred_kind numbers rules kinds) decisions (scene_state blocks moments) → FitReusables (scene object_kind pred_kind numbers rules kinds) decisions (scene_state blocks moments)
      → FitReservoirs (scene object_kind pred_kind numbers rules kinds) decisions (scene_state blocks moments) → IsClosed (scene object_kind pred_kind numbers rules kinds) decisions (scene_state blocks moments)
  closed quiet =
      closed_with [] object_kind pred_kind numbers rules kinds blocks moments lengths are plain decisions
      (plain_grants [] object_kind pred_kind numbers rules kinds blocks moments lengths are plain decisions quiet (λ claim p. absurd (contains_none p.item p.stands)))
