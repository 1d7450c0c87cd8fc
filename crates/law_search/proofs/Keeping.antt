-- Where two tokens have changed places in a valid plan, each clause but those on resources is kept.
use Rattle.std.proofs.Common.{◌≡◌, ℕ, ◌<◌, ◌⊎◌, inl, inr, ⊎_elim, ℤ, Bool, true, false, List, [], refl, sym, ap, ◌∙◌, subst, arith}
use Rattle.std.specs.Prelude.{Contains}
use Rattle.std.proofs.lemmas.Bool.{cases_lt, cases_eq}
use Rattle.eu_name.proofs.Orders.{var_order}
use Rattle.eu_name.specs.NameOrder.{IsVarBefore}
use Rattle.eu_name.specs.declared.name.Part.TheVariants.{Start, End, Object}
use Rattle.eu_name.specs.declared.name.Step.{Step}
use Rattle.eu_name.specs.declared.name.TokenName.{TokenName}
use Rattle.eu_name.specs.declared.name.VarName.TheVariants as names
use Rattle.model_core.specs.declared.model.Model.{Model}
use Rattle.model_core.specs.declared.model.RootKind.{RootKind}
use Rattle.model_core.specs.declared.model.RootKind.TheVariants.{Goal, Rejectable, Fact}
use Rattle.model_core.specs.Tokens.{root_token, slot_token}
use Rattle.plan_defs.specs.declared.plan.Clause.TheVariants.{V1, V2, V3, V4, V5, V6, V7, V8}
use Rattle.plan_defs.specs.declared.plan.Line as the_line
use Rattle.plan_defs.specs.declared.plan.Line.TheVariants as lines
use Rattle.plan_defs.specs.declared.plan.Place.{Place}
use Rattle.plan_defs.specs.declared.plan.Place.TheVariants as places
use Rattle.plan_defs.specs.declared.plan.Plan.{Plan}
use Rattle.plan_defs.specs.Claims.{ItemSays}
use Rattle.plan_defs.specs.Plans.{IsLineBefore, IsTakenIn, plan_situation}
use Rattle.plan_defs.specs.Support.{AsksFor, front_token}
use Rattle.plan_defs.specs.Terms.{InProblem, InRule}
use Rattle.plan_defs.specs.Valid.{IsValid, IsLineAt, Becomes, IsLineOfSort, SuitsToken, SuitsMerge, SuitsIfToken, SuitsIfMerged, HasDeclaredValue, HasDeclaredParts, IsActivatedAt, TakesPlaceAt, IsAskedToken, IsAsked, IsOpenIn, IsTrueInRule, TakeTurns, EndsBy, KeepsGlobals, KeepsRoots, KeepsTokens, KeepsMerges, KeepsOpen, KeepsAsked, KeepsItems, KeepsTimelines}
use Rattle.eu_name.proofs.Members.{get_from_contains, get_same, contains_from_get}
use Rattle.plan_defs.proofs.Saying.{own_or_merged, own_or_rejected, merged_or_rejected, fact_or_not}
use Rattle.law_search.specs.Swapping.{swapped_token, swapped_line}
use Rattle.law_search.proofs.Renaming.{swapped_twice, step_token, step_swapped}
use Rattle.law_search.proofs.Mapping.{get_pair}
use Rattle.law_search.proofs.Trees.{one_or_keeps}
use Rattle.law_search.proofs.Having.{HaveSwapped, flipped, one_becomes, other_becomes, moved, came, values_moved, part_moved, root_stands, taken_root, taken_moved, activated_moved, one_taken, other_taken}
use Rattle.law_search.proofs.Meaning.{open_moved, asks_moved, asks_local_moved}
use Rattle.law_search.proofs.Claims.{lasts_moved, at_most_moved, item_moved}
use Rattle.law_search.proofs.Declaring.{parts_moved, parts_kept, local_moved, predicates_moved}

-- the token is asked for by each token from which a step leads to it
abbrev pub IsAskedBy : Model → Plan → TokenName → Type 0
IsAskedBy model plan token = (above : TokenName) (step : Step) → step_token above step ≡ token → AsksFor model (plan_situation plan) above step

asked_by : (model : Model) (plan : Plan) (token : TokenName) → IsAskedToken model plan token → IsAskedBy model plan token
asked_by model plan token asked above step is =
    let own : front_token token above.steps ≡ above = λ i. record { root = ap (λ (t : TokenName). t.root) (sym is) i; steps = above.steps } in
    subst (λ (t : TokenName). AsksFor model (plan_situation plan) t step) own (asked above.steps step (ap (λ (t : TokenName). t.steps) (sym is)))

by_asked : (model : Model) (plan : Plan) (token : TokenName) → IsAskedBy model plan token → IsAskedToken model plan token
by_asked model plan token asked front step are =
    asked (front_token token front) step (λ i. record { root = token.root; steps = sym are i })

module _ (model : Model) (old new : Plan) (one other : TokenName) (has : HaveSwapped model old new one other) (valid : IsValid model old) where
  -- ---- lines

  at : (line : the_line.Line) → Contains old.lines line → (number : ℕ) × IsLineAt old number line
  at line there = get_from_contains old.lines line there

  -- what is said of each line of the old plan is said of each of the new one
  each_line : (Said : the_line.Line → Type 0) → ((line : the_line.Line) → Contains old.lines line → Said (swapped_line one other line))
      → (number : ℕ) (line : the_line.Line) → IsLineAt new number line → Said line
  each_line Said each number line there =
      let was = came model old new one other has line (contains_from_get new.lines number line there) in
      subst Said was.1.1 (each was.0 was.1.0)

  suits_old : (token : TokenName) (fact : Bool) (values : List ℤ) → Contains old.lines (lines.Token token fact values) → SuitsToken model old token
  suits_old token fact values there = let place = at (lines.Token token fact values) there in valid V3 (places.Line place.0) (lines.Token token fact values) place.1

  merges_old : (token target : TokenName) → Contains old.lines (lines.Merged token target) → SuitsMerge model old token target
  merges_old token target there = let place = at (lines.Merged token target) there in valid V4 (places.Line place.0) (lines.Merged token target) place.1

  -- ---- globals and roots

  pub globals_kept : (place : Place) → KeepsGlobals model new place
  globals_kept (places.Global number) = λ below.
      let found = valid V1 (places.Global number) below in
      (found.0, values_moved model old new one other has (names.Global number) found.0 found.1, found.2)
  globals_kept (places.Root number) = tt
  globals_kept (places.Line number) = tt
  globals_kept (places.Slot line rule slot) = tt
  globals_kept (places.Local line rule number) = tt
  globals_kept (places.Problem number) = tt
  globals_kept (places.Item line rule number) = tt
  globals_kept (places.Pair first second) = tt
  globals_kept (places.Instant number instant) = tt

  becomes_moved : (kind : RootKind) (token : TokenName) → token.steps ≡ [] → Becomes old kind token → Becomes new kind token
  becomes_moved Fact token none is = elim (root_stands model old new one other has token none) [
    | inl stays ↦ (is.0, subst (λ (t : TokenName). Contains new.lines (lines.Token t true is.0)) stays (moved model old new one other has (lines.Token token true is.0) is.1))
    | inr (inl same) ↦ absurd (own_or_merged old has.order one other is.0 (true, subst (λ (t : TokenName). Contains old.lines (lines.Token t true is.0)) same is.1) has.merged)
    | inr (inr same) ↦ absurd (fact_or_not old has.order other is.0 has.values (subst (λ (t : TokenName). Contains old.lines (lines.Token t true is.0)) same is.1) has.takes)
  ]
  becomes_moved Goal token none is = taken_root model old new one other has token token (inr refl) none (λ same. is)
  becomes_moved Rejectable token none (inl taken) = inl (taken_root model old new one other has token token (inr refl) none (λ same. taken))
  becomes_moved Rejectable token none (inr rejected) = elim (root_stands model old new one other has token none) [
    | inl stays ↦ inr (subst (λ (t : TokenName). Contains new.lines (lines.Rejected t)) stays (moved model old new one other has (lines.Rejected token) rejected))
    | inr (inl same) ↦ absurd (merged_or_rejected old has.order one other has.merged (subst (λ (t : TokenName). Contains old.lines (lines.Rejected t)) same rejected))
    | inr (inr same) ↦ absurd (own_or_rejected old has.order other has.values (false, has.takes) (subst (λ (t : TokenName). Contains old.lines (lines.Rejected t)) same rejected))
  ]

  no_steps_moved : (token : TokenName) → token.steps ≡ [] → (token ≡ one → ⊥) → (token ≡ other → ⊥) → (swapped_token one other token).steps ≡ []
  no_steps_moved token none not_one not_other = elim (root_stands model old new one other has token none) [
    | inl stays ↦ ap (λ (t : TokenName). t.steps) stays ∙ none
    | inr (inl same) ↦ absurd (not_one same)
    | inr (inr same) ↦ absurd (not_other same)
  ]

  sort_moved : (line : the_line.Line) → Contains old.lines line → IsLineOfSort (swapped_line one other line)
  sort_moved (lines.Token token true values) there =
      let line = lines.Token token true values in
      let place = at line there in
      no_steps_moved token (valid V2 (places.Line place.0) line place.1)
      (λ same. own_or_merged old has.order one other values (true, subst (λ (t : TokenName). Contains old.lines (lines.Token t true values)) same there) has.merged)
      (λ same. fact_or_not old has.order other values has.values (subst (λ (t : TokenName). Contains old.lines (lines.Token t true values)) same there) has.takes)
  sort_moved (lines.Token token false values) there = tt
  sort_moved (lines.Merged token target) there = tt
  sort_moved (lines.Rejected token) there =
      let line = lines.Rejected token in
      let place = at line there in
      no_steps_moved token (valid V2 (places.Line place.0) line place.1)
      (λ same. merged_or_rejected old has.order one other has.merged (subst (λ (t : TokenName). Contains old.lines (lines.Rejected t)) same there))
      (λ same. own_or_rejected old has.order other has.values (false, has.takes) (subst (λ (t : TokenName). Contains old.lines (lines.Rejected t)) same there))
  sort_moved (lines.Local name value) there = tt

  pub roots_kept : (place : Place) → KeepsRoots model new place
  roots_kept (places.Root number) = λ root is. becomes_moved root.kind (root_token number) refl (valid V2 (places.Root number) root is)
  roots_kept (places.Line number) = λ line there. each_line IsLineOfSort sort_moved number line there
  roots_kept (places.Global number) = tt
  roots_kept (places.Slot line rule slot) = tt
  roots_kept (places.Local line rule number) = tt
  roots_kept (places.Problem number) = tt
  roots_kept (places.Item line rule number) = tt
  roots_kept (places.Pair first second) = tt
  roots_kept (places.Instant number instant) = tt

  -- ---- tokens that take place, and merged ones

  suits_moved : (token : TokenName) (fact : Bool) (values : List ℤ) → Contains old.lines (lines.Token token fact values) → SuitsToken model new (swapped_token one other token)
  suits_moved token fact values there = elim (one_or_keeps model one other has.apart has.same token) [
    | inl same ↦ absurd (own_or_merged old has.order one other values (fact, subst (λ (t : TokenName). Contains old.lines (lines.Token t fact values)) same there) has.merged)
    | inr (inl same) ↦
        let becomes : one ≡ swapped_token one other token = sym (other_becomes one other has.apart) ∙ ap (swapped_token one other) (sym same) in
        record {
          parts = subst (λ (t : TokenName). HasDeclaredParts model new t) becomes (parts_kept model old new one other has one (inl refl) (merges_old one other has.merged).parts);
          lasts = lasts_moved model old new one other has token (suits_old token fact values there).lasts;
        }
    | inr (inr keeps) ↦
        let suits = suits_old token fact values there in
        record {
          parts = parts_moved model old new one other has token keeps suits.parts;
          lasts = lasts_moved model old new one other has token suits.lasts;
        }
  ]

  token_suits : (line : the_line.Line) → Contains old.lines line → SuitsIfToken model new (swapped_line one other line)
  token_suits (lines.Token token fact values) there = suits_moved token fact values there
  token_suits (lines.Merged token target) there = tt
  token_suits (lines.Rejected token) there = tt
  token_suits (lines.Local name value) there = tt

  pub tokens_kept : (place : Place) → KeepsTokens model new place
  tokens_kept (places.Line number) = λ line there. each_line (SuitsIfToken model new) token_suits number line there
  tokens_kept (places.Global number) = tt
  tokens_kept (places.Root number) = tt
  tokens_kept (places.Slot line rule slot) = tt
  tokens_kept (places.Local line rule number) = tt
  tokens_kept (places.Problem number) = tt
  tokens_kept (places.Item line rule number) = tt
  tokens_kept (places.Pair first second) = tt
  tokens_kept (places.Instant number instant) = tt

  merged_parts : (token target : TokenName) → Contains old.lines (lines.Merged token target) → HasDeclaredParts model new (swapped_token one other token)
  merged_parts token target there = elim (one_or_keeps model one other has.apart has.same token) [
    | inl same ↦
        let becomes : other ≡ swapped_token one other token = sym (one_becomes one other has.apart) ∙ ap (swapped_token one other) (sym same) in
        subst (λ (t : TokenName). HasDeclaredParts model new t) becomes (parts_kept model old new one other has other (inr refl) (suits_old other false has.values has.takes).parts)
    | inr (inl same) ↦ absurd (own_or_merged old has.order other target has.values (false, has.takes) (subst (λ (t : TokenName). Contains old.lines (lines.Merged t target)) same there))
    | inr (inr keeps) ↦ parts_moved model old new one other has token keeps (merges_old token target there).parts
  ]

  merge_suits : (line : the_line.Line) → Contains old.lines line → SuitsIfMerged model new (swapped_line one other line)
  merge_suits (lines.Merged token target) there =
      let suits = merges_old token target there in
      let takes = suits.there in
      record {
        there = (takes.0, (takes.1.0, moved model old new one other has (lines.Token target takes.1.0 takes.0) takes.1.1));
        apart = λ same. suits.apart
            (sym (swapped_twice one other has.apart target) ∙ ap (swapped_token other one) same ∙ swapped_twice one other has.apart token);
        same = predicates_moved model old new one other has token target suits.same;
        parts = merged_parts token target there;
      }
  merge_suits (lines.Token token fact values) there = tt
  merge_suits (lines.Rejected token) there = tt
  merge_suits (lines.Local name value) there = tt

  pub merges_kept : (place : Place) → KeepsMerges model new place
  merges_kept (places.Line number) = λ line there. each_line (SuitsIfMerged model new) merge_suits number line there
  merges_kept (places.Global number) = tt
  merges_kept (places.Root number) = tt
  merges_kept (places.Slot line rule slot) = tt
  merges_kept (places.Local line rule number) = tt
  merges_kept (places.Problem number) = tt
  merges_kept (places.Item line rule number) = tt
  merges_kept (places.Pair first second) = tt
  merges_kept (places.Instant number instant) = tt

  -- ---- open blocks

  -- a token that is activated in the new plan was, under its name then
  was_activated : (line : ℕ) (token : TokenName) → IsActivatedAt new line token → (number : ℕ) × IsActivatedAt old number (swapped_token other one token)
  was_activated line token there =
      let activated = activated_moved model new old other one (flipped model old new one other has) token
      (there.0, contains_from_get new.lines line (lines.Token token false there.0) there.1) in
      let place = at (lines.Token (swapped_token other one token) false activated.0) activated.1 in
      (place.0, (activated.0, place.1))

  back_again : (token : TokenName) → swapped_token one other (swapped_token other one token) ≡ token
  back_again token = swapped_twice other one (flipped model old new one other has).apart token

  slot_taken : (token : TokenName) (rule slot : ℕ) → IsTakenIn old (slot_token token rule slot) → IsTakenIn new (slot_token (swapped_token one other token) rule slot)
  slot_taken token rule slot taken = elim (step_swapped one other has.apart token (record { rule = rule; slot = slot })) [
    | inl same ↦ subst (λ (t : TokenName). IsTakenIn new t) same (taken_moved model old new one other has (slot_token token rule slot) taken)
    | inr (stays, inl is) ↦ subst (λ (t : TokenName). IsTakenIn new t) (sym is ∙ ap (λ (t : TokenName). slot_token t rule slot) (sym stays)) (one_taken model old new one other has)
    | inr (stays, inr is) ↦ subst (λ (t : TokenName). IsTakenIn new t) (sym is ∙ ap (λ (t : TokenName). slot_token t rule slot) (sym stays)) (other_taken model old new one other has)
  ]

  pub open_kept : (place : Place) → KeepsOpen model new place
  open_kept (places.Slot line rule slot) = λ token there asks.
      let was = was_activated line token there in
      let before = swapped_token other one token in
      let taken = valid V5 (places.Slot was.0 rule slot) before was.1
      (asks_moved model new old other one (flipped model old new one other has) token (record { rule = rule; slot = slot }) asks) in
      subst (λ (t : TokenName). IsTakenIn new (slot_token t rule slot)) (back_again token) (slot_taken before rule slot taken)
  open_kept (places.Local line rule number) = λ token there asks.
      let was = was_activated line token there in
      let before = swapped_token other one token in
      let value = valid V5 (places.Local was.0 rule number) before was.1
      (asks_local_moved model new old other one (flipped model old new one other has) token rule number asks) in
      subst (λ (t : TokenName). HasDeclaredValue model new (names.Local t rule number)) (back_again token) (local_moved model old new one other has before rule number value)
  open_kept (places.Global number) = tt
  open_kept (places.Root number) = tt
  open_kept (places.Line number) = tt
  open_kept (places.Problem number) = tt
  open_kept (places.Item line rule number) = tt
  open_kept (places.Pair first second) = tt
  open_kept (places.Instant number instant) = tt

  -- ---- what is asked for

  asked_old : (line : the_line.Line) → Contains old.lines line → IsAsked model old line
  asked_old line there = let place = at line there in valid V6 (places.Line place.0) line place.1

  token_asked : (token : TokenName) → IsAskedToken model old token → IsAskedToken model new (swapped_token one other token)
  token_asked token asked = by_asked model new (swapped_token one other token) (λ above step is.
      let before = swapped_token other one above in
      let again = back_again above in
      let moved_on : AsksFor model (plan_situation old) before step → AsksFor model (plan_situation new) above step =
      λ asks. subst (λ (t : TokenName). AsksFor model (plan_situation new) t step) again (asks_moved model old new one other has before step asks) in
      elim (step_swapped one other has.apart before step) [
        | inl same ↦
            let own : step_token before step ≡ token =
            sym (swapped_twice one other has.apart (step_token before step))
            ∙ ap (swapped_token other one) (same ∙ ap (λ (t : TokenName). step_token t step) again ∙ is)
            ∙ swapped_twice one other has.apart token in
            moved_on (asked_by model old token asked before step own)
        | inr (stays, inl leads) ↦ moved_on (asked_by model old one (asked_old (lines.Merged one other) has.merged) before step leads)
        | inr (stays, inr leads) ↦ moved_on (asked_by model old other (asked_old (lines.Token other false has.values) has.takes) before step leads)
      ])

  line_asked : (line : the_line.Line) → Contains old.lines line → IsAsked model new (swapped_line one other line)
  line_asked (lines.Token token fact values) there = token_asked token (asked_old (lines.Token token fact values) there)
  line_asked (lines.Merged token target) there = token_asked token (asked_old (lines.Merged token target) there)
  line_asked (lines.Rejected token) there = token_asked token (asked_old (lines.Rejected token) there)
  line_asked (lines.Local (names.Global number) value) there = tt
  line_asked (lines.Local (names.Token token part) value) there = tt
  line_asked (lines.Local (names.Local token rule number) value) there =
      asks_local_moved model old new one other has token rule number (asked_old (lines.Local (names.Local token rule number) value) there)

  pub asked_kept : (place : Place) → KeepsAsked model new place
  asked_kept (places.Line number) = λ line there. each_line (IsAsked model new) line_asked number line there
  asked_kept (places.Global number) = tt
  asked_kept (places.Root number) = tt
  asked_kept (places.Slot line rule slot) = tt
  asked_kept (places.Local line rule number) = tt
  asked_kept (places.Problem number) = tt
  asked_kept (places.Item line rule number) = tt
  asked_kept (places.Pair first second) = tt
  asked_kept (places.Instant number instant) = tt

  -- ---- items

  true_in_rule : (token : TokenName) (line rule number : ℕ) → IsActivatedAt old line (swapped_token other one token) → IsTrueInRule model new token rule number
  unfolding open_moved
  true_in_rule token line rule number activated placed entries opened claim is says =
      let before = swapped_token other one token in
      let own : IsOpenIn model old before rule placed.path entries = open_moved model new old other one (flipped model old new one other has) token rule placed.path entries opened in
      item_moved model old new one other has (InRule before rule) placed.item
      (λ was said. valid V7 (places.Item line rule number) before activated placed entries own was is said) claim
      (subst (λ (t : TokenName). ItemSays model (IsTakenIn new) (InRule t rule) placed.item claim) (sym (back_again token)) says)

  pub items_kept : (place : Place) → KeepsItems model new place
  items_kept (places.Problem number) = λ item is claim says.
      item_moved model old new one other has InProblem item (λ before said. valid V7 (places.Problem number) item is before said) claim says
  items_kept (places.Item line rule number) = λ token there.
      let was = was_activated line token there in true_in_rule token was.0 rule number was.1
  items_kept (places.Global number) = tt
  items_kept (places.Root number) = tt
  items_kept (places.Line number) = tt
  items_kept (places.Slot line rule slot) = tt
  items_kept (places.Local line rule number) = tt
  items_kept (places.Pair first second) = tt
  items_kept (places.Instant number instant) = tt

  -- ---- timelines

  takes_old : (line : ℕ) (token : TokenName) → TakesPlaceAt new line token
      → (number : ℕ) × TakesPlaceAt old number (swapped_token other one token)
  takes_old line token there =
      let contains = moved model new old other one (flipped model old new one other has) (lines.Token token there.0 there.1.0)
      (contains_from_get new.lines line (lines.Token token there.0 there.1.0) there.1.1) in
      let place = at (lines.Token (swapped_token other one token) there.0 there.1.0) contains in
      (place.0, (there.0, (there.1.0, place.1)))

  ends_moved : (a b : TokenName) → EndsBy model old (swapped_token other one a) (swapped_token other one b) → EndsBy model new a b
  ends_moved a b ends =
      subst (λ (t : TokenName). EndsBy model new t b) (back_again a)
      (subst (λ (t : TokenName). EndsBy model new (swapped_token one other (swapped_token other one a)) t) (back_again b)
      (at_most_moved model old new one other has (swapped_token other one a) (swapped_token other one b) End Start ends))

  -- in the old plan the two take turns, as they are two
  turn_old : (p q : ℕ) (a b : TokenName) → TakesPlaceAt old p a → TakesPlaceAt old q b → (a ≡ b → ⊥) → TakeTurns model old a b
  turn_old p q a b first second apart = elim (cases_lt p q) [
    | inl less ↦ valid V8 (places.Pair p q) less a b first second
    | inr not_less ↦ elim (cases_eq p q) [
      | inl same ↦ absurd (apart (one_token p a b first (subst (λ n. TakesPlaceAt old n b) (sym same) second)))
      | inr other_way ↦ λ on. swap_sides (valid V8 (places.Pair q p) (omega (arith, not_less, other_way)) b a second first
          (record { timeline = on.timeline; is_timeline = on.is_timeline; one_on = on.other_on; other_on = on.one_on }))
    ]
  ]
    where
      one_token : (p : ℕ) (a b : TokenName) → TakesPlaceAt old p a → TakesPlaceAt old p b → a ≡ b
      one_token p a b first second =
          let same = get_same old.lines p (lines.Token a first.0 first.1.0) (lines.Token b second.0 second.1.0) first.1.1 second.1.1 in
          cc

      swap_sides : {A B : Type 0} → A ⊎ B → B ⊎ A
      swap_sides (inl a) = inr a
      swap_sides (inr b) = inl b

  -- two places of the new plan have lines of two tokens
  two_tokens : (first second : ℕ) (a b : TokenName) → first < second → TakesPlaceAt new first a → TakesPlaceAt new second b → a ≡ b → ⊥
  two_tokens first second a b less one_at other_at same =
      let before = get_pair IsLineBefore new.lines first second (lines.Token a one_at.0 one_at.1.0) (lines.Token b other_at.0 other_at.1.0) has.swap.order less one_at.1.1 other_at.1.1 in
      var_order.irreflexive (names.Token b Start) (subst (λ (t : TokenName). IsVarBefore (names.Token t Start) (names.Token b Start)) same before)

  pub timelines_kept : (place : Place) → KeepsTimelines model new place
  timelines_kept (places.Pair first second) = λ less a b one_at other_at on.
      let was = takes_old first a one_at in
      let met = takes_old second b other_at in
      let back = flipped model old new one other has in
      let before = swapped_token other one a in
      let behind = swapped_token other one b in
      let turns = turn_old was.0 met.0 before behind was.1 met.1
      (λ same. two_tokens first second a b less one_at other_at (sym (back_again a) ∙ ap (swapped_token one other) same ∙ back_again b))
      (record {
        timeline = on.timeline;
        is_timeline = on.is_timeline;
        one_on = part_moved model new old other one back a Object on.timeline on.one_on;
        other_on = part_moved model new old other one back b Object on.timeline on.other_on;
      }) in
      ⊎_elim (λ ends. inl (ends_moved a b ends)) (λ ends. inr (ends_moved b a ends)) turns
  timelines_kept (places.Global number) = tt
  timelines_kept (places.Root number) = tt
  timelines_kept (places.Line number) = tt
  timelines_kept (places.Slot line rule slot) = tt
  timelines_kept (places.Local line rule number) = tt
  timelines_kept (places.Problem number) = tt
  timelines_kept (places.Item line rule number) = tt
  timelines_kept (places.Instant number instant) = tt
