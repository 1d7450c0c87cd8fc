-- A plan of two goals, and the one in which they have changed places.
use Rattle.std.proofs.Common.{◌≡◌, ℕ, zero, suc, ◌<◌, inl, inr, ℤ, pos, false, List, [], ◌∷◌, ◌++◌, length, Some, refl, sym, ap, ◌∙◌, subst, arith}
use Rattle.std.specs.Prelude.{Contains, slice_get}
use Rattle.std.proofs.lemmas.Int.{ints}
use Rattle.std.proofs.lemmas.List.{length-append}
use Rattle.domain_core.specs.Domain.{Range}
use Rattle.eu_name.specs.declared.name.Part.{Part}
use Rattle.eu_name.specs.declared.name.Part.TheVariants.{Start, End, Duration, Object, Param}
use Rattle.eu_name.specs.declared.name.Step.{Step}
use Rattle.eu_name.specs.declared.name.TokenName.{TokenName}
use Rattle.eu_name.specs.declared.name.VarName.TheVariants as variables
use Rattle.model_core.specs.declared.class.Object as classes
use Rattle.model_core.specs.declared.class.ObjectKind.TheVariants as kind
use Rattle.model_core.specs.declared.class.PredKind.TheVariants as pred
use Rattle.model_core.specs.declared.decision.Decision.TheVariants.{Specify, Activate, Merge, Reject, Order, Constrain, Relate}
use Rattle.model_core.specs.declared.model.Root.{Root}
use Rattle.model_core.specs.declared.model.RootKind.{RootKind}
use Rattle.model_core.specs.declared.model.RootKind.TheVariants.{Goal, Rejectable, Fact}
use Rattle.model_core.specs.declared.rule.Rule.{Rule}
use Rattle.model_core.specs.declared.rule.Slot.{Slot}
use Rattle.model_core.specs.declared.variable.Base.TheVariants.{Given}
use Rattle.model_core.specs.Blocks.{TokenBlock}
use Rattle.model_core.specs.Decided.{IsActive, IsDecided}
use Rattle.model_core.specs.Entries.{Entries}
use Rattle.model_core.specs.Kinds.{IsObject}
use Rattle.model_core.specs.Tokens.{HasToken, HasRule, IsRoot, IsRootOfKind, root_token}
use Rattle.model_core.specs.Variables.{HasPartBase}
use Rattle.plan_defs.specs.declared.plan.Clause.TheVariants.{V1, V2, V3, V4, V5, V6, V7, V8, V9, V10}
use Rattle.plan_defs.specs.declared.plan.Line.{Line}
use Rattle.plan_defs.specs.declared.plan.Line.TheVariants as lines
use Rattle.plan_defs.specs.declared.plan.Place.{Place}
use Rattle.plan_defs.specs.declared.plan.Place.TheVariants as places
use Rattle.plan_defs.specs.Broken.{AgreesWith}
use Rattle.plan_defs.specs.Plans.{IsLineBefore, IsPlanOf, IsLineOf, GivesValue, TakesPlaceWith, place_in_values}
use Rattle.model_core.specs.declared.refusal.Refusal.TheVariants.{NotActive, NotRejectable}
use Rattle.plan_defs.specs.Situations.{Situation}
use Rattle.plan_defs.specs.Support.{IsOpen}
use Rattle.plan_defs.specs.Timelines.{IsTimeline}
use Rattle.plan_defs.specs.Valid.{HasDeclaredParts, IsLineOfSort, SuitsIfToken, SuitsIfMerged, IsAsked, IsAskedToken, Becomes, KeepsGlobals, KeepsRoots, KeepsTokens, KeepsMerges, KeepsOpen, KeepsAsked, KeepsItems, KeepsTimelines, KeepsReusables, KeepsReservoirs, IsValid}
use Rattle.plan_defs.proofs.Members.{all_from_get}
use Rattle.eu_name.proofs.Ordered.{contains_head, contains_later, contains_cases, contains_none, ordered_cons, ordered_one}
use Rattle.law_examples.specs.Cases.{moment}
use Rattle.law_examples.specs.Refused.{two_goals}
use Rattle.law_examples.specs.Scenes.{both_objects, predicate_of, root_of}
use Rattle.law_examples.proofs.Casts.{kind_of, nothing_listed}
use Rattle.law_examples.proofs.Closed.{slot_same, has_token, part_domain}
use Rattle.law_examples.proofs.Lists.{only_member, same_some}
use Rattle.law_search.specs.SwapLaws.{MayChangePlaces, SwapsWell}
use Rattle.law_search.specs.Swapping.{IsSwap}
use Rattle.law_search.proofs.Agreeing.{swaps_well}
use Rattle.law_examples.specs.Swaps.{g, gg, values, old, new, IsOnlyChoice}

-- ---- the model

abbrev kinds : List RootKind
kinds = Goal ∷ Goal ∷ []

-- what each token is
abbrev the_slot : Slot
the_slot = record { pred = 0; object = Given both_objects }

-- both roots are goals
all_goals : (number : ℕ) (root : Root) → IsRoot two_goals number root → root.kind ≡ Goal
all_goals zero root at = sym (ap (λ (r : Root). r.kind) (same_some (root_of 0 Goal) root at))
all_goals (suc zero) root at = sym (ap (λ (r : Root). r.kind) (same_some (root_of 1 Goal) root at))
all_goals (suc (suc number)) root at = absurd (cc)

no_fact : (token : TokenName) → IsRootOfKind two_goals Fact token → ⊥
no_fact token fact = let e : Goal ≡ Fact = sym (all_goals token.root fact.1.0 fact.1.1) ∙ fact.1.2 in absurd (cc)

no_rejectable : (token : TokenName) → IsRootOfKind two_goals Rejectable token → ⊥
no_rejectable token is = let e : Goal ≡ Rejectable = sym (all_goals token.root is.1.0 is.1.1) ∙ is.1.2 in absurd (cc)

the_token : (number : ℕ) → number < 2 → HasToken two_goals (root_token number) the_slot
the_token zero less = has_token [] kind.Plain pred.Plain [] [] kinds 0 Goal refl
the_token (suc zero) less = has_token [] kind.Plain pred.Plain [] [] kinds 1 Goal refl
the_token (suc (suc number)) less = absurd (omega (arith, less))

-- no predicate has a rule, so no block is open
no_rule : (number rule : ℕ) (found : Rule) → HasRule two_goals number rule found → ⊥
no_rule zero rule found has = nothing_listed [] kind.Plain pred.Plain [] kinds rule found has
no_rule (suc number) rule found has = let at = has.is_predicate in absurd (cc)

no_block : (situation : Situation) (block : TokenBlock) (entries : Entries) → IsOpen two_goals situation block entries → ⊥
no_block situation block entries is = no_rule is.has_block.slot.pred block.rule is.has_block.rule is.has_block.has_rule

-- no steps lead to a root
no_step : (front : List Step) (step : Step) (back : List Step) → [] ≡ front ++ step ∷ back → ⊥
no_step front step back e = omega (arith, ap length e, length-append front (step ∷ back))

-- both objects are plain ones
plain_object : (value : ℤ) (object : classes.Object) → IsObject two_goals value object → object.kind ≡ kind.Plain
plain_object = kind_of [] kind.Plain pred.Plain [] [] kinds

no_timeline : {X : Type 0} (value : ℤ) → IsTimeline two_goals value → X
no_timeline value (object, is, timeline) = let same : kind.Plain ≡ kind.Timeline = sym (plain_object value object is) ∙ timeline in absurd (cc)

-- ---- what can be decided

inactive : (token : TokenName) → IsActive two_goals [] token → ⊥
inactive token (inl fact) = no_fact token fact
inactive token (inr activation) = contains_none (Activate token) activation

undecided : (token : TokenName) → IsDecided two_goals [] token → ⊥
undecided token (inl fact) = no_fact token fact
undecided token (inr (inl (inl activation))) = contains_none (Activate token) activation
undecided token (inr (inl (inr merge))) = contains_none (Merge token merge.0) merge.1
undecided token (inr (inr rejection)) = contains_none (Reject token) rejection

pub only_activation : IsOnlyChoice g (Activate g)
only_activation (Specify name value) about admissible = absurd about
only_activation (Activate token) about admissible = ap Activate about
only_activation (Merge token target) about admissible = absurd (admissible.free NotActive (inactive target))
only_activation (Reject token) about admissible = absurd (admissible.free NotRejectable (no_rejectable token))
only_activation (Order one other) about admissible = absurd about
only_activation (Constrain kind arguments) about admissible = absurd about
only_activation (Relate relation one other) about admissible = absurd about

-- ---- the lines of the old plan

abbrev merge : Line
merge = lines.Merged g gg

abbrev token : Line
token = lines.Token gg false values

stands : Contains old.lines token
stands = contains_later merge token (token ∷ []) (contains_head token [])

there : TakesPlaceWith old gg values
there = (false, stands)

-- what holds of both lines holds of the one at each place
each_line : (P : Line → Type 0) → P merge → P token → (number : ℕ) (line : Line) → slice_get old.lines number ≡ Some line → P line
each_line P first second zero line at = subst P (same_some merge line at) first
each_line P first second (suc zero) line at = subst P (same_some token line at) second
each_line P first second (suc (suc number)) line at = absurd (cc)

-- both tokens have the values
abbrev HasValue : TokenName → Part → ℤ → Type 0
HasValue owner part value = slice_get values (place_in_values part) ≡ Some value → GivesValue old (variables.Token owner part) value

gg_has : (part : Part) (value : ℤ) → HasValue gg part value
gg_has part value at = inl (values, there, at)

g_has : (part : Part) (value : ℤ) → HasValue g part value
g_has part value at = inr (gg, contains_head merge (token ∷ []), (values, there, at))

-- they are declared with them
declared : (number : ℕ) → number < 2 → ((part : Part) (value : ℤ) → HasValue (root_token number) part value) → HasDeclaredParts two_goals old (root_token number)
declared number less has Start part =
    (pos 0, has Start (pos 0) refl, (Range (pos 0) (pos 10), (the_slot, the_token number less, refl), (omega (arith, ints), omega (arith, ints))))
declared number less has End part =
    (pos 1, has End (pos 1) refl, (Range (pos 0) (pos 10), (the_slot, the_token number less, refl), (omega (arith, ints), omega (arith, ints))))
declared number less has Duration part =
    (pos 1, has Duration (pos 1) refl, (Range (pos 1) (pos 10), (the_slot, the_token number less, refl), (omega (arith, ints), omega (arith, ints))))
declared number less has Object part =
    (pos 0, has Object (pos 0) refl, (both_objects, (the_slot, the_token number less, refl), contains_head (pos 0) (pos 1 ∷ [])))
declared number less has (Param zero) part = (
  pos 1,
  has (Param 0) (pos 1) refl,
  (
    Range (pos 0) (pos 1000000),
    (the_slot, the_token number less, (_, record { predicate = predicate_of pred.Plain []; is_predicate = refl; declared = refl }, refl)),
    (omega (arith, ints), omega (arith, ints)),
  ),
)
declared number less has (Param (suc place)) part =
    let same = slot_same [] kind.Plain pred.Plain [] [] kinds number part.0 part.1 in
    let base = subst (λ (s : Slot). HasPartBase two_goals s (Param (suc place)) part.2.0) same part.2.1 in
    absurd (part_domain [] kind.Plain pred.Plain [] [] kinds (moment 0 1 1) (Param (suc place)) part.2.0 base).1

-- ---- clause by clause

keeps_globals : (place : Place) → KeepsGlobals two_goals old place
keeps_globals (places.Global number) = λ less. absurd (omega (arith, less))
keeps_globals place = tt

becomes : (number : ℕ) (root : Root) → IsRoot two_goals number root → Becomes old root.kind (root_token number)
becomes zero root at = subst (λ (r : Root). Becomes old r.kind g) (same_some (root_of 0 Goal) root at) (inr (gg, contains_head merge (token ∷ [])))
becomes (suc zero) root at = subst (λ (r : Root). Becomes old r.kind gg) (same_some (root_of 1 Goal) root at) (inl (values, stands))
becomes (suc (suc number)) root at = absurd (cc)

keeps_roots : (place : Place) → KeepsRoots two_goals old place
keeps_roots (places.Root number) = becomes number
keeps_roots (places.Line number) = each_line IsLineOfSort tt tt number
keeps_roots place = tt

keeps_tokens : (place : Place) → KeepsTokens two_goals old place
keeps_tokens (places.Line number) =
    each_line (SuitsIfToken two_goals old) tt
    (record {
      parts = declared 1 (omega arith) gg_has;
      lasts = record {
        values = pos 0 ∷ pos 1 ∷ pos 1 ∷ [];
        have = (gg_has Start (pos 0) refl, (gg_has Duration (pos 1) refl, (gg_has End (pos 1) refl, tt)));
        holds = refl;
      };
    })
    number
keeps_tokens place = tt

keeps_merges : (place : Place) → KeepsMerges two_goals old place
keeps_merges (places.Line number) =
    each_line (SuitsIfMerged two_goals old)
    (record {
      there = (values, there);
      apart = λ same. omega (arith, ap (λ (t : TokenName). t.root) same);
      same = record { slot = the_slot; other_slot = the_slot; has_one = the_token 0 (omega arith); has_other = the_token 1 (omega arith); same = refl };
      parts = declared 0 (omega arith) g_has;
    })
    tt number
keeps_merges place = tt

keeps_open : (place : Place) → KeepsOpen two_goals old place
keeps_open (places.Slot line rule slot) = λ owner at asks. absurd (no_block _ _ _ asks.is_open)
keeps_open (places.Local line rule number) = λ owner at asks. absurd (no_block _ _ _ asks.is_open)
keeps_open place = tt

asked : (number : ℕ) → IsAskedToken two_goals old (root_token number)
asked number front step e = absurd (no_step front step [] e)

keeps_asked : (place : Place) → KeepsAsked two_goals old place
keeps_asked (places.Line number) = each_line (IsAsked two_goals old) (asked 0) (asked 1) number
keeps_asked place = tt

keeps_items : (place : Place) → KeepsItems two_goals old place
keeps_items (places.Problem number) = λ item at. absurd (cc)
keeps_items (places.Item line rule number) = λ owner at placed entries is_open claim item says. absurd (no_block _ _ _ is_open)
keeps_items place = tt

keeps_timelines : (place : Place) → KeepsTimelines two_goals old place
keeps_timelines (places.Pair first second) = λ less one other takes takes' on. no_timeline on.timeline on.is_timeline
keeps_timelines place = tt

keeps_reusables : (place : Place) → KeepsReusables two_goals old place
keeps_reusables (places.Instant number instant) = λ object capacity at is inside.
    let same : kind.Plain ≡ kind.Reusable capacity = sym (plain_object (pos number) object (number, refl, at)) ∙ is in
    absurd (cc)
keeps_reusables place = tt

keeps_reservoirs : (place : Place) → KeepsReservoirs two_goals old place
keeps_reservoirs (places.Instant number instant) = λ object initial low high at is inside.
    let same : kind.Plain ≡ kind.Reservoir initial low high = sym (plain_object (pos number) object (number, refl, at)) ∙ is in
    absurd (cc)
keeps_reservoirs place = tt

pub old_valid : IsValid two_goals old
old_valid V1 place = keeps_globals place
old_valid V2 place = keeps_roots place
old_valid V3 place = keeps_tokens place
old_valid V4 place = keeps_merges place
old_valid V5 place = keeps_open place
old_valid V6 place = keeps_asked place
old_valid V7 place = keeps_items place
old_valid V8 place = keeps_timelines place
old_valid V9 place = keeps_reusables place
old_valid V10 place = keeps_reservoirs place

-- ---- the old plan

is_token_line : IsLineOf two_goals token
is_token_line = (
  the_slot,
  the_token 1 (omega arith),
  (
    predicate_of pred.Plain [],
    refl,
    (
      (omega (arith, ints), omega (arith, ints)),
      (
        (omega (arith, ints), omega (arith, ints)),
        (
          (omega (arith, ints), omega (arith, ints)),
          (
            (_, (0, refl, refl)),
            (
              (omega (arith, ints), omega (arith, ints)),
              tt,
            ),
          ),
        ),
      ),
    ),
  ),
)

-- a line of the one token comes before one of the other
before : (one other : Line) → IsLineBefore one other → (line : Line) → Contains (other ∷ []) line → IsLineBefore one line
before one other first line c = subst (IsLineBefore one) (only_member other line c) first

pub old_is : IsPlanOf two_goals old
old_is = record {
  few_globals = omega arith;
  globals = λ number value variable at is. absurd (cc);
  few_lines = omega arith;
  lines = all_from_get (IsLineOf two_goals) old.lines
      (each_line (IsLineOf two_goals) ((the_slot, the_token 0 (omega arith)), (the_slot, the_token 1 (omega arith))) is_token_line);
  order = ordered_cons IsLineBefore merge (token ∷ []) (before merge token (inl (inr (refl, inl (omega arith))))) (ordered_one IsLineBefore token);
}

pub not_activated : AgreesWith two_goals old (Activate g ∷ []) → ⊥
not_activated agrees =
    let is = agrees (Activate g) (contains_head (Activate g) []) in
    elim (contains_cases merge (lines.Token g false is.0) (token ∷ []) is.1) [
      | inl same ↦ absurd (cc)
      | inr later ↦ (let same = only_member token (lines.Token g false is.0) later in
          let tokens : gg ≡ g = cc in
          omega (arith, ap (λ (t : TokenName). t.root) tokens))
    ]

-- ---- the new plan

pub may_change : MayChangePlaces two_goals [] old g gg
may_change = record {
  is_plan = old_is;
  valid = old_valid;
  agrees = λ decision c. absurd (contains_none decision c);
  grounded = λ decision c. absurd (contains_none decision c);
  under = λ front step back e. absurd (no_step front step back e);
  undecided = undecided g;
  inactive = inactive gg;
  merged = contains_head merge (token ∷ []);
}

pub is_swap : IsSwap g gg old new
is_swap = record {
  globals = refl;
  lines = record { moves = (0, 1) ∷ []; below = (omega arith, omega arith, tt); is = refl };
  order = ordered_cons IsLineBefore (lines.Token g false values) (lines.Merged gg g ∷ [])
      (before (lines.Token g false values) (lines.Merged gg g) (inl (inr (refl, inl (omega arith)))))
      (ordered_one IsLineBefore (lines.Merged gg g));
}

pub new_goes_well : SwapsWell two_goals [] old new g gg
new_goes_well = swaps_well two_goals [] old g gg may_change new is_swap
