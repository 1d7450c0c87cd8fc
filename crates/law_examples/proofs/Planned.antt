-- Plans of small problems, clause by clause.
use Rattle.std.proofs.Common.{◌≡◌, ℕ, zero, suc, ◌+◌, ◌≤◌, List, [], ◌∷◌, length, Some, ℤ, pos, ◌+ℤ◌, Bool, inl, inr, refl, sym, ap, ◌∙◌, subst, arith}
use Rattle.std.specs.Prelude.{AllPairs, ◌^◌, Contains, slice_get}
use Rattle.std.proofs.lemmas.Int.{ints}
use Rattle.std.proofs.lemmas.List.{length-append}
use Rattle.domain_core.specs.Domain.{Range}
use Rattle.eu_name.specs.declared.name.Part.{Part}
use Rattle.eu_name.specs.declared.name.Part.TheVariants.{Start, End, Duration, Object, Param}
use Rattle.eu_name.specs.declared.name.VarName.TheVariants as variables
use Rattle.model_core.specs.declared.class.ObjectKind.{ObjectKind}
use Rattle.model_core.specs.declared.class.ObjectKind.TheVariants as kind
use Rattle.model_core.specs.declared.class.Pred.{Pred}
use Rattle.model_core.specs.declared.class.PredKind.{PredKind}
use Rattle.model_core.specs.declared.item.Item.{Item}
use Rattle.model_core.specs.declared.model.Model.{Model}
use Rattle.model_core.specs.declared.model.Root.{Root}
use Rattle.model_core.specs.declared.model.RootKind.{RootKind}
use Rattle.model_core.specs.declared.rule.Rule.{Rule}
use Rattle.model_core.specs.declared.rule.Slot.{Slot}
use Rattle.model_core.specs.declared.variable.Base.TheVariants.{Given}
use Rattle.model_core.specs.Blocks.{TokenBlock}
use Rattle.model_core.specs.Entries.{Entries}
use Rattle.model_core.specs.Tokens.{HasToken, HasRule, root_token}
use Rattle.model_core.specs.Variables.{HasPartBase}
use Rattle.plan_defs.specs.declared.plan.Line.{Line}
use Rattle.plan_defs.specs.declared.plan.Line.TheVariants as lines
use Rattle.plan_defs.specs.declared.plan.Place.{Place}
use Rattle.plan_defs.specs.declared.plan.Place.TheVariants as places
use Rattle.plan_defs.specs.declared.plan.Plan.{Plan}
use Rattle.plan_defs.specs.Plans.{IsLineOf, IsLineBefore, IsPlanOf, GivesValue, place_in_values}
use Rattle.plan_defs.specs.Situations.{Situation}
use Rattle.plan_defs.specs.Support.{IsOpen}
use Rattle.plan_defs.specs.Valid.{HasDeclaredParts, IsTrueItem, IsLineOfSort, SuitsToken, SuitsIfToken, SuitsIfMerged, IsAsked, IsAskedToken, Becomes, KeepsGlobals, KeepsRoots, KeepsTokens, KeepsMerges, KeepsOpen, KeepsAsked, KeepsItems, KeepsTimelines, KeepsReusables, KeepsReservoirs}
use Rattle.eu_name.proofs.Ordered.{contains_head, ordered_none, ordered_one, ordered_cons}
use Rattle.eu_name.specs.NameOrder.{IsTokenBefore}
use Rattle.model_core.specs.Lawful.{IsToken}
use Rattle.plan_defs.proofs.Members.{all_from_get}
use Rattle.law_examples.specs.Cases.{moment}
use Rattle.law_examples.specs.Plans.{lines_alone, values_of}
use Rattle.law_examples.specs.Scenes.{both_objects, predicate_of, scene, scene_with}
use Rattle.law_examples.proofs.Casts.{kind_of, nothing_listed}
use Rattle.law_examples.proofs.Closed.{slot_same, has_token, part_domain}
use Rattle.law_examples.proofs.Lists.{only_member, same_some, get_root}

-- ---- lists of one item and of two, place by place

pub of_none : {X : Type 0} (P : ℕ → X → Type 0) (number : ℕ) (found : X) → slice_get [] number ≡ Some found → P number found
of_none P number found at = absurd (cc)

pub of_one : {X : Type 0} (P : ℕ → X → Type 0) (x : X) → P 0 x → (number : ℕ) (found : X) → slice_get (x ∷ []) number ≡ Some found → P number found
of_one P x p zero found at = subst (P 0) (same_some x found at) p
of_one P x p (suc number) found at = absurd (cc)

pub of_two : {X : Type 0} (P : ℕ → X → Type 0) (x y : X) → P 0 x → P 1 y → (number : ℕ) (found : X) → slice_get (x ∷ y ∷ []) number ≡ Some found → P number found
of_two P x y p q zero found at = subst (P 0) (same_some x found at) p
of_two P x y p q (suc zero) found at = subst (P 1) (same_some y found at) q
of_two P x y p q (suc (suc number)) found at = absurd (cc)

-- ---- plans of a scene

module _ (items : List Item) (object_kind : ObjectKind) (pred_kind : PredKind) (numbers : List ℕ) (rules : List Rule) (kinds : List RootKind) (plan : Plan) where
  abbrev model : Model
  model = scene_with items object_kind pred_kind numbers rules kinds

  -- each line of the plan is such
  abbrev pub EachLine : (Line → Type 0) → Type 0
  EachLine P = (number : ℕ) (line : Line) → slice_get plan.lines number ≡ Some line → P line

  -- there are no globals
  pub globals_kept : (place : Place) → KeepsGlobals model plan place
  globals_kept (places.Global number) = λ less. absurd (omega (arith, less))
  globals_kept place = tt

  pub roots_kept : ((number : ℕ) (root_kind : RootKind) → slice_get kinds number ≡ Some root_kind → Becomes plan root_kind (root_token number)) → EachLine IsLineOfSort
      → (place : Place) → KeepsRoots model plan place
  roots_kept becomes sorts (places.Root number) = λ root at.
      let found = get_root 0 kinds number root at in
      subst (λ (r : Root). Becomes plan r.kind (root_token number)) found.1.1 (becomes number found.0 found.1.0)
  roots_kept becomes sorts (places.Line number) = sorts number
  roots_kept becomes sorts place = tt

  pub tokens_kept : EachLine (SuitsIfToken model plan) → (place : Place) → KeepsTokens model plan place
  tokens_kept each (places.Line number) = each number
  tokens_kept each place = tt

  pub merges_kept : EachLine (SuitsIfMerged model plan) → (place : Place) → KeepsMerges model plan place
  merges_kept each (places.Line number) = each number
  merges_kept each place = tt

  pub asked_kept : EachLine (IsAsked model plan) → (place : Place) → KeepsAsked model plan place
  asked_kept each (places.Line number) = each number
  asked_kept each place = tt

  -- roots are asked for
  pub asked_root : (number : ℕ) → IsAskedToken model plan (root_token number)
  asked_root number front step e = absurd (omega (arith, ap length e, length-append front (step ∷ [])))

  -- objects of another kind than is asked about

  pub timelines_kept : (object_kind ≡ kind.Timeline → ⊥) → (place : Place) → KeepsTimelines model plan place
  timelines_kept none (places.Pair first second) = λ less one other takes takes' on.
      let is = on.is_timeline in
      absurd (none (sym (kind_of items object_kind pred_kind numbers rules kinds on.timeline is.0 is.1) ∙ is.2))
  timelines_kept none place = tt

  pub reusables_kept : ((capacity : ℤ) → object_kind ≡ kind.Reusable capacity → ⊥) → (place : Place) → KeepsReusables model plan place
  reusables_kept none (places.Instant number instant) = λ object capacity at is inside.
      absurd (none capacity (sym (kind_of items object_kind pred_kind numbers rules kinds (pos number) object (number, refl, at)) ∙ is))
  reusables_kept none place = tt

  pub reservoirs_kept : ((initial low high : ℤ) → object_kind ≡ kind.Reservoir initial low high → ⊥) → (place : Place) → KeepsReservoirs model plan place
  reservoirs_kept none (places.Instant number instant) = λ object initial low high at is inside.
      absurd (none initial low high (sym (kind_of items object_kind pred_kind numbers rules kinds (pos number) object (number, refl, at)) ∙ is))
  reservoirs_kept none place = tt

  -- the predicate is of its kind
  pub kind_of_predicate : (number : ℕ) (predicate : Pred) → slice_get model.preds number ≡ Some predicate → pred_kind ≡ predicate.kind
  kind_of_predicate zero predicate at = ap (λ (p : Pred). p.kind) (same_some (predicate_of pred_kind numbers) predicate at)
  kind_of_predicate (suc number) predicate at = absurd (cc)

  -- a root that has these values in the plan is declared with them, and lasts as long as it says
  module _ (number : ℕ) (root_kind : RootKind) (is_root : slice_get kinds number ≡ Some root_kind) (start end duration quantity : ℕ)
      (has : (part : Part) (value : ℤ) → slice_get (values_of start end duration quantity) (place_in_values part) ≡ Some value → GivesValue plan (variables.Token (root_token number) part) value) where
    abbrev root_slot : Slot
    root_slot = record { pred = 0; object = Given both_objects }

    the_token : HasToken model (root_token number) root_slot
    the_token = has_token items object_kind pred_kind numbers rules kinds number root_kind is_root

    pub declared : 1 ≤ duration → duration ≤ 10 → end ≤ 10 → start ≤ 10 → quantity ≤ 10 → HasDeclaredParts model plan (root_token number)
    declared some long late early few Start part = (pos start, has Start (pos start) refl, (Range (pos 0) (pos 10), (root_slot, the_token, refl), (omega (arith, ints), omega (arith, ints, early))))
    declared some long late early few End part = (pos end, has End (pos end) refl, (Range (pos 0) (pos 10), (root_slot, the_token, refl), (omega (arith, ints), omega (arith, ints, late))))
    declared some long late early few Duration part =
        (pos duration, has Duration (pos duration) refl, (Range (pos 1) (pos 10), (root_slot, the_token, refl), (omega (arith, ints, some), omega (arith, ints, long))))
    declared some long late early few Object part =
        (pos 0, has Object (pos 0) refl, (both_objects, (root_slot, the_token, refl), contains_head (pos 0) (pos 1 ∷ [])))
    declared some long late early few (Param zero) part = (
      pos quantity,
      has (Param 0) (pos quantity) refl,
      (
        Range (pos 0) (pos 1000000),
        (root_slot, the_token, (_, record { predicate = predicate_of pred_kind numbers; is_predicate = refl; declared = refl }, refl)),
        (omega (arith, ints), omega (arith, ints, few)),
      ),
    )
    declared some long late early few (Param (suc place)) part =
        let same = slot_same items object_kind pred_kind numbers rules kinds number part.0 part.1 in
        let base = subst (λ (s : Slot). HasPartBase model s (Param (suc place)) part.2.0) same part.2.1 in
        absurd (part_domain items object_kind pred_kind numbers rules kinds (moment 0 1 1) (Param (suc place)) part.2.0 base).1

    pub suits : start + duration ≡ end → 1 ≤ duration → end ≤ 10 → quantity ≤ 10 → SuitsToken model plan (root_token number)
    suits sum some late few = let sums : (pos start +ℤ pos duration) ≡ pos end = omega (arith, ints, sum) in record {
      parts = declared some (omega (arith, sum, late)) late (omega (arith, sum, late)) few;
      lasts = record {
        values = pos start ∷ pos duration ∷ pos end ∷ [];
        have = (has Start (pos start) refl, (has Duration (pos duration) refl, (has End (pos end) refl, tt)));
        holds = sums;
      };
    }

  -- what stands in a line has its values
  pub own_values : (number : ℕ) (fact : Bool) (values : List ℤ) → Contains plan.lines (lines.Token (root_token number) fact values)
      → (part : Part) (value : ℤ) → slice_get values (place_in_values part) ≡ Some value → GivesValue plan (variables.Token (root_token number) part) value
  own_values number fact values there part value at = inl (values, (fact, there), at)

-- ---- where the predicate has no rule no block is open

module _ (items : List Item) (object_kind : ObjectKind) (pred_kind : PredKind) (kinds : List RootKind) (plan : Plan) where
  abbrev rooted : Model
  rooted = scene_with items object_kind pred_kind [] [] kinds

  no_rule_of : (number rule : ℕ) (found : Rule) → HasRule rooted number rule found → ⊥
  no_rule_of zero rule found has = nothing_listed items object_kind pred_kind [] kinds rule found has
  no_rule_of (suc number) rule found has = let at = has.is_predicate in absurd (cc)

  no_open_block : (situation : Situation) (block : TokenBlock) (entries : Entries) → IsOpen rooted situation block entries → ⊥
  no_open_block situation block entries is = no_rule_of is.has_block.slot.pred block.rule is.has_block.rule is.has_block.has_rule

  pub open_kept : (place : Place) → KeepsOpen rooted plan place
  open_kept (places.Slot line rule slot) = λ owner at asks. absurd (no_open_block _ _ _ asks.is_open)
  open_kept (places.Local line rule number) = λ owner at asks. absurd (no_open_block _ _ _ asks.is_open)
  open_kept place = tt

  -- what is left are the items of the problem
  pub problem_kept : ((number : ℕ) (item : Item) → slice_get items number ≡ Some item → IsTrueItem rooted plan item) → (place : Place) → KeepsItems rooted plan place
  problem_kept each (places.Problem number) = each number
  problem_kept each (places.Item line rule number) = λ owner at placed entries is_open claim item says. absurd (no_open_block _ _ _ is_open)
  problem_kept each place = tt

pub items_kept : (object_kind : ObjectKind) (pred_kind : PredKind) (kinds : List RootKind) (plan : Plan) (place : Place) → KeepsItems (scene object_kind pred_kind [] [] kinds) plan place
items_kept object_kind pred_kind kinds plan place = problem_kept [] object_kind pred_kind kinds plan (λ number item at. absurd (cc)) place

-- ---- plans of a model

plan_of_lines : (model : Model) (list : List Line) → length list ≤ 2 → ((number : ℕ) (line : Line) → slice_get list number ≡ Some line → IsLineOf model line) → AllPairs IsLineBefore list → IsPlanOf model (lines_alone list)
plan_of_lines model list few each ordered = record {
  few_globals = omega arith;
  globals = λ number value variable at is. absurd (cc);
  few_lines = (let e : 2 ^ 32 ≡ 4294967296 = refl in omega (arith, few, e));
  lines = all_from_get (IsLineOf model) list each;
  order = ordered;
}

pub no_line_plan : (model : Model) → IsPlanOf model (lines_alone [])
no_line_plan model = plan_of_lines model [] (omega arith) (of_none (λ number line. IsLineOf model line)) (ordered_none IsLineBefore)

pub one_line_plan : (model : Model) (line : Line) → IsLineOf model line → IsPlanOf model (lines_alone (line ∷ []))
one_line_plan model line is = plan_of_lines model (line ∷ []) (omega arith) (of_one (λ number found. IsLineOf model found) line is) (ordered_one IsLineBefore line)

pub two_line_plan : (model : Model) (one other : Line) → IsLineOf model one → IsLineOf model other → IsLineBefore one other → IsPlanOf model (lines_alone (one ∷ other ∷ []))
two_line_plan model one other is_one is_other before =
    plan_of_lines model (one ∷ other ∷ []) (omega arith) (of_two (λ number found. IsLineOf model found) one other is_one is_other)
    (ordered_cons IsLineBefore one (other ∷ []) (λ line c. subst (IsLineBefore one) (only_member other line c) before) (ordered_one IsLineBefore other))

-- the first root comes before the second
pub roots_before : IsTokenBefore (root_token 0) (root_token 1)
roots_before = inr (refl, inl (omega arith))

module _ (items : List Item) (object_kind : ObjectKind) (pred_kind : PredKind) (numbers : List ℕ) (rules : List Rule) (kinds : List RootKind) (number : ℕ) (root_kind : RootKind)
    (is_root : slice_get kinds number ≡ Some root_kind) where
  pub root_there : IsToken (scene_with items object_kind pred_kind numbers rules kinds) (root_token number)
  root_there = (record { pred = 0; object = Given both_objects }, has_token items object_kind pred_kind numbers rules kinds number root_kind is_root)

  -- a line of a root with small values is one of the model
  pub token_line : (fact : Bool) (start end duration quantity : ℕ) → start ≤ 100 → end ≤ 100 → duration ≤ 100 → quantity ≤ 100
      → IsLineOf (scene_with items object_kind pred_kind numbers rules kinds) (lines.Token (root_token number) fact (values_of start end duration quantity))
  token_line fact start end duration quantity early late long few = (
    record { pred = 0; object = Given both_objects },
    has_token items object_kind pred_kind numbers rules kinds number root_kind is_root,
    (
      predicate_of pred_kind numbers,
      refl,
      (
        (omega (arith, ints), omega (arith, ints, early)),
        (
          (omega (arith, ints), omega (arith, ints, late)),
          ((omega (arith, ints), omega (arith, ints, long)), ((_, (0, refl, refl)), ((omega (arith, ints), omega (arith, ints, few)), tt))),
        ),
      ),
    ),
  )
