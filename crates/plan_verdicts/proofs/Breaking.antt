-- A plan is valid, or there are a clause that it breaks first and a place with the least names where it does.
use Rattle.std.proofs.Common.{◌≡◌, ℕ, zero, suc, ◌+◌, ◌-◌, ◌<◌, ◌≤◌, ◌⊎◌, inl, inr, ℤ, pos, ◌+ℤ◌, ◌≤ℤ◌, ◌<ℤ◌, List, length, Some, slice_get, refl, sym, ap, subst, arith}
use Rattle.std.proofs.lemmas.Bool.{cases_lt}
use Rattle.std.proofs.lemmas.Int.{ints, by_lt_z}
use Rattle.std.proofs.lemmas.Option.{slice_get_within}
use borrow.Author.Differences.{up, down}
use Rattle.eu_name.specs.declared.name.TokenName.{TokenName}
use Rattle.eu_name.specs.declared.name.VarName.TheVariants as variables
use Rattle.eu_name.specs.NameOrder.{ByNumber}
use Rattle.law_states.specs.Undeniable.{Undeniable}
use Rattle.law_states.proofs.Denying.{is_or_not}
use Rattle.model_core.specs.declared.model.Model.{Model}
use Rattle.model_core.specs.declared.model.Root.{Root}
use Rattle.model_core.specs.declared.rule.Rule.{Rule}
use Rattle.model_core.specs.declared.rule.Slot.{Slot}
use Rattle.model_core.specs.Lawful.{IsLawful}
use Rattle.model_core.specs.Numbers.{rule_items}
use Rattle.model_core.specs.Tokens.{HasToken, root_token, slot_token}
use Rattle.plan_check.specs.declared.verdict.Verdict.{Verdict}
use Rattle.plan_check.specs.declared.verdict.Verdict.TheVariants.{Valid, Invalid}
use Rattle.plan_check.specs.Judged.{IsVerdict}
use Rattle.plan_defs.specs.declared.plan.Clause.{Clause}
use Rattle.plan_defs.specs.declared.plan.Clause.TheVariants.{V1, V2, V3, V4, V5, V6, V7, V8, V9, V10}
use Rattle.plan_defs.specs.declared.plan.Place.{Place}
use Rattle.plan_defs.specs.declared.plan.Place.TheVariants as places
use Rattle.plan_defs.specs.declared.plan.Plan.{Plan}
use Rattle.plan_defs.specs.Broken.{clauses_before, AreLesserNames, IsLeastBroken}
use Rattle.plan_defs.specs.Plans.{IsTakenIn, plan_situation}
use Rattle.plan_defs.specs.Resources.{IsInstant}
use Rattle.plan_defs.specs.Support.{AsksFor}
use Rattle.plan_defs.specs.Valid.{IsActivatedAt, AsksForLocal, Becomes, HasDeclaredValue, IsAsked, IsClauseKept, IsLineOfSort, IsTrueInRule, IsTrueItem, SuitsIfMerged, SuitsIfToken}
use Rattle.plan_defs.proofs.Kinding.{pred_of_slot}
use Rattle.plan_values.specs.Walks.{HasRuleOf}
use Rattle.plan_values.proofs.Ruling.{one_rule}
use Rattle.plan_inventory.proofs.Suiting.{asks_stands, local_stands}
use Rattle.plan_inventory.proofs.Sweeping.{slot_below, local_below, rule_below}
use Rattle.plan_report.proofs.Placing.{same_activated}
use Rattle.plan_verdicts.specs.Verdicts.{PlansHaveVerdicts}
use Rattle.plan_verdicts.proofs.Firsts.{FirstOf, FirstPair, IsBounded, first_below, first_of, first_not, first_pair}

-- nothing stands behind the end of a list
past_end : {X : Type 0} (xs : List X) (place : ℕ) (x : X) → length xs ≤ place → slice_get xs place ≡ Some x → ⊥
past_end xs place x past is = absurd (omega (arith, past, slice_get_within xs place x is))

-- ---- what is asked for in the rules of a token

module _ (model : Model) (lawful : IsLawful model) (token : TokenName) (size : Rule → ℕ) (Holds : ℕ → ℕ → Type 0)
    (unless : (rule number : ℕ) → ((found : Rule) → HasRuleOf model token rule found → number < size found → ⊥) → Holds rule number) where
  none_there : ((slot : Slot) → HasToken model token slot → ⊥) → IsBounded Holds
  none_there none = record {
    bound = 0;
    later = λ rule number past. unless rule number (λ found of less. none of.slot of.has_token);
    each = λ rule missing. missing (0, λ number past. unless rule number (λ found of less. none of.slot of.has_token));
  }

  rule_bounded : (rule : ℕ) → Undeniable ((most : ℕ) × ((number : ℕ) → most ≤ number → Holds rule number))
  rule_bounded rule none = is_or_not ((found : Rule) × HasRuleOf model token rule found) (λ which. elim which [
    | inl is ↦ none (
      size is.0,
      λ number past. unless rule number (λ found of less.
          let same : size found ≡ size is.0 = ap size (one_rule model token rule found is.0 of is.1) in
          absurd (omega (arith, less, past, same))),
    )
    | inr not ↦ none (0, λ number past. unless rule number (λ found of less. not (found, of)))
  ])

  of_slot : (slot : Slot) → HasToken model token slot → IsBounded Holds
  of_slot slot has =
      let pred = pred_of_slot model token slot lawful has in
      record {
        bound = length pred.0.rules;
        later = λ rule number past. unless rule number (λ found of less.
            let within : rule < length pred.0.rules = rule_below model token slot.pred (slot, has, refl) pred.0 pred.1 rule found of in
            absurd (omega (arith, past, within)));
        each = rule_bounded;
      }

  token_bounded : Undeniable (IsBounded Holds)
  token_bounded none = is_or_not ((slot : Slot) × HasToken model token slot) (λ which. elim which [
    | inl is ↦ none (of_slot is.0 is.1)
    | inr not ↦ none (none_there (λ slot has. not (slot, has)))
  ])

-- ---- what is so of each item of a list

module _ {X : Type 0} (xs : List X) (Holds : ℕ → X → Type 0) where
  abbrev AtPlace : ℕ → Type 0
  AtPlace number = (x : X) → slice_get xs number ≡ Some x → Holds number x

  -- it is so of all of them, or there is a first of which it isn't
  places_judged : Undeniable (((number : ℕ) → AtPlace number) ⊎ FirstOf AtPlace (λ number. AtPlace number → ⊥))
  places_judged none = first_not AtPlace (length xs) (λ number past x at. absurd (past_end xs number x past at)) none

-- ---- integers from a least one on

-- how far they lie from it
steps_to : (least value : ℤ) → least ≤ℤ value → (step : ℕ) × (value ≡ (least +ℤ pos step))
steps_to least value from = ((up value + down least) - (up least + down value), omega (arith, ints, from))

-- so many lie up to the greatest one
abbrev steps_within : ℤ → ℤ → ℕ
steps_within least greatest = (up greatest + down least + 1) - (up least + down greatest)

too_far : (least greatest : ℤ) (step : ℕ) → steps_within least greatest ≤ step → (least +ℤ pos step) ≤ℤ greatest → ⊥
too_far least greatest step past within = absurd (omega (arith, ints, past, within))

module _ (model : Model) (plan : Plan) where
  abbrev Kept : Clause → Place → Type 0
  Kept clause place = IsClauseKept model plan clause place

  -- the clause is kept everywhere, or there is a place with the least names where it is broken
  abbrev IsJudged : Clause → Type 0
  IsJudged clause = ((place : Place) → Kept clause place) ⊎ ((place : Place) × IsLeastBroken model plan clause place)

  -- ---- globals

  module _ (all : (number : ℕ) → Kept V1 (places.Global number)) where
    kept_v1 : (place : Place) → Kept V1 place
    kept_v1 (places.Global number) = all number
    kept_v1 place = tt

  module _ (number : ℕ) (before : (other : ℕ) → other < number → Kept V1 (places.Global other)) where
    least_v1 : (other : Place) → AreLesserNames other (places.Global number) → Kept V1 other
    least_v1 (places.Global other) lesser = before other lesser
    least_v1 other lesser = tt

  judged_v1 : Undeniable (IsJudged V1)
  judged_v1 none = first_not (λ number. Kept V1 (places.Global number)) (length model.problem.globals)
      (λ number past within. absurd (omega (arith, past, within))) (λ found. elim found [
        | inl all ↦ none (inl (kept_v1 all))
        | inr first ↦ none (inr (places.Global first.0, record { broken = first.1.0; least = least_v1 first.0 first.1.1 }))
      ])

  -- ---- roots

  module _ (roots : (number : ℕ) → Kept V2 (places.Root number)) where
    module _ (all : (number : ℕ) → Kept V2 (places.Line number)) where
      kept_v2 : (place : Place) → Kept V2 place
      kept_v2 (places.Root number) = roots number
      kept_v2 (places.Line number) = all number
      kept_v2 place = tt

    module _ (number : ℕ) (before : (other : ℕ) → other < number → Kept V2 (places.Line other)) where
      least_line_v2 : (other : Place) → AreLesserNames other (places.Line number) → Kept V2 other
      least_line_v2 (places.Root other) lesser = roots other
      least_line_v2 (places.Line other) lesser = before other lesser
      least_line_v2 other lesser = tt

    lines_v2 : Undeniable (IsJudged V2)
    lines_v2 none = places_judged plan.lines (λ number line. IsLineOfSort line) (λ found. elim found [
      | inl all ↦ none (inl (kept_v2 all))
      | inr first ↦ none (inr (places.Line first.0, record { broken = first.1.0; least = least_line_v2 first.0 first.1.1 }))
    ])

  module _ (number : ℕ) (before : (other : ℕ) → other < number → Kept V2 (places.Root other)) where
    least_root_v2 : (other : Place) → AreLesserNames other (places.Root number) → Kept V2 other
    least_root_v2 (places.Root other) lesser = before other lesser
    least_root_v2 (places.Line other) lesser = absurd lesser
    least_root_v2 other lesser = tt

  judged_v2 : Undeniable (IsJudged V2)
  judged_v2 none = places_judged model.problem.roots (λ number (root : Root). Becomes plan root.kind (root_token number)) (λ found. elim found [
    | inl roots ↦ lines_v2 roots none
    | inr first ↦ none (inr (places.Root first.0, record { broken = first.1.0; least = least_root_v2 first.0 first.1.1 }))
  ])

  -- ---- tokens that take place

  module _ (all : (number : ℕ) → Kept V3 (places.Line number)) where
    kept_v3 : (place : Place) → Kept V3 place
    kept_v3 (places.Line number) = all number
    kept_v3 place = tt

  module _ (number : ℕ) (before : (other : ℕ) → other < number → Kept V3 (places.Line other)) where
    least_v3 : (other : Place) → AreLesserNames other (places.Line number) → Kept V3 other
    least_v3 (places.Line other) lesser = before other lesser
    least_v3 other lesser = tt

  judged_v3 : Undeniable (IsJudged V3)
  judged_v3 none = places_judged plan.lines (λ number line. SuitsIfToken model plan line) (λ found. elim found [
    | inl all ↦ none (inl (kept_v3 all))
    | inr first ↦ none (inr (places.Line first.0, record { broken = first.1.0; least = least_v3 first.0 first.1.1 }))
  ])

  -- ---- merged ones

  module _ (all : (number : ℕ) → Kept V4 (places.Line number)) where
    kept_v4 : (place : Place) → Kept V4 place
    kept_v4 (places.Line number) = all number
    kept_v4 place = tt

  module _ (number : ℕ) (before : (other : ℕ) → other < number → Kept V4 (places.Line other)) where
    least_v4 : (other : Place) → AreLesserNames other (places.Line number) → Kept V4 other
    least_v4 (places.Line other) lesser = before other lesser
    least_v4 other lesser = tt

  judged_v4 : Undeniable (IsJudged V4)
  judged_v4 none = places_judged plan.lines (λ number line. SuitsIfMerged model plan line) (λ found. elim found [
    | inl all ↦ none (inl (kept_v4 all))
    | inr first ↦ none (inr (places.Line first.0, record { broken = first.1.0; least = least_v4 first.0 first.1.1 }))
  ])

  -- ---- what is asked for

  module _ (all : (number : ℕ) → Kept V6 (places.Line number)) where
    kept_v6 : (place : Place) → Kept V6 place
    kept_v6 (places.Line number) = all number
    kept_v6 place = tt

  module _ (number : ℕ) (before : (other : ℕ) → other < number → Kept V6 (places.Line other)) where
    least_v6 : (other : Place) → AreLesserNames other (places.Line number) → Kept V6 other
    least_v6 (places.Line other) lesser = before other lesser
    least_v6 other lesser = tt

  judged_v6 : Undeniable (IsJudged V6)
  judged_v6 none = places_judged plan.lines (λ number line. IsAsked model plan line) (λ found. elim found [
    | inl all ↦ none (inl (kept_v6 all))
    | inr first ↦ none (inr (places.Line first.0, record { broken = first.1.0; least = least_v6 first.0 first.1.1 }))
  ])

  -- ---- timelines

  module _ (all : (one other : ℕ) → Kept V8 (places.Pair one other)) where
    kept_v8 : (place : Place) → Kept V8 place
    kept_v8 (places.Pair one other) = all one other
    kept_v8 place = tt

  module _ (first : FirstPair (λ one other. Kept V8 (places.Pair one other))) where
    least_v8 : (other : Place) → AreLesserNames other (places.Pair first.one first.other) → Kept V8 other
    least_v8 (places.Pair less second) lesser = first.before less second lesser
    least_v8 other lesser = tt

  pairs_bounded : IsBounded (λ one other. Kept V8 (places.Pair one other))
  pairs_bounded = record {
    bound = length plan.lines;
    later = λ one other past less first second at at'. absurd (past_end plan.lines one _ past at.1.1);
    each = λ one missing. missing (length plan.lines, λ other past less first second at at'. absurd (past_end plan.lines other _ past at'.1.1));
  }

  judged_v8 : Undeniable (IsJudged V8)
  judged_v8 none = first_pair (λ one other. Kept V8 (places.Pair one other)) pairs_bounded (λ found. elim found [
    | inl all ↦ none (inl (kept_v8 all))
    | inr first ↦ none (inr (places.Pair first.one first.other, record { broken = first.fails; least = least_v8 first }))
  ])

  -- ---- instants

  -- whatever is asked of an object at an instant
  module _ (Asks : ℕ → ℤ → Type 0) (outside : (number : ℕ) (at : ℤ) → (IsInstant model at → ⊥) → Asks number at)
      (past_objects : (number : ℕ) (at : ℤ) → length model.objects ≤ number → Asks number at) where
    abbrev AtStep : ℕ → ℕ → Type 0
    AtStep number step = Asks number (model.problem.start +ℤ pos step)

    steps_bounded : IsBounded AtStep
    steps_bounded = record {
      bound = length model.objects;
      later = λ number step past. past_objects number (model.problem.start +ℤ pos step) past;
      each = λ number missing. missing (
        steps_within model.problem.start model.problem.end,
        λ step past. outside number (model.problem.start +ℤ pos step) (λ within. too_far model.problem.start model.problem.end step past within.1),
      );
    }

    -- what is so of all steps is so of all instants
    each_instant : (number : ℕ) → ((step : ℕ) → AtStep number step) → (at : ℤ) → Asks number at
    each_instant number all at = by_lt_z at model.problem.start
        (λ early. outside number at (λ within. absurd (omega (arith, ints, early, within.0))))
        (λ since. let found = steps_to model.problem.start at since in subst (Asks number) (sym found.1) (all found.0))

    -- and so it is of those before a step
    earlier_instant : (number step : ℕ) → ((other : ℕ) → other < step → AtStep number other) → (at : ℤ) → at <ℤ (model.problem.start +ℤ pos step) → Asks number at
    earlier_instant number step before at less = by_lt_z at model.problem.start
        (λ early. outside number at (λ within. absurd (omega (arith, ints, early, within.0))))
        (λ since.
        let found = steps_to model.problem.start at since in
        let same = found.1 in
        subst (Asks number) (sym found.1) (before found.0 (omega (arith, ints, less, same))))

    before_instant : (first : FirstPair AtStep) (number : ℕ) (at : ℤ) → ByNumber number first.one (at <ℤ (model.problem.start +ℤ pos first.other)) → Asks number at
    before_instant first number at (inl earlier) = each_instant number (λ step. first.before number step (inl earlier)) at
    before_instant first number at (inr same) =
        earlier_instant number first.other (λ step less. first.before number step (inr (same.0, less))) at same.1

    instants_judged : Undeniable (((number : ℕ) (at : ℤ) → Asks number at) ⊎ FirstPair AtStep)
    instants_judged none = first_pair AtStep steps_bounded (λ found. elim found [
      | inl all ↦ none (inl (λ number at. each_instant number (all number) at))
      | inr first ↦ none (inr first)
    ])

  -- ---- reusables

  abbrev Reused : ℕ → ℤ → Type 0
  Reused number at = Kept V9 (places.Instant number at)

  outside_v9 : (number : ℕ) (at : ℤ) → (IsInstant model at → ⊥) → Reused number at
  outside_v9 number at never object capacity there kind within = absurd (never within)

  past_v9 : (number : ℕ) (at : ℤ) → length model.objects ≤ number → Reused number at
  past_v9 number at past object capacity there kind within = absurd (past_end model.objects number object past there)

  module _ (all : (number : ℕ) (at : ℤ) → Reused number at) where
    kept_v9 : (place : Place) → Kept V9 place
    kept_v9 (places.Instant number at) = all number at
    kept_v9 place = tt

  module _ (first : FirstPair (λ number step. Reused number (model.problem.start +ℤ pos step))) where
    least_v9 : (other : Place) → AreLesserNames other (places.Instant first.one (model.problem.start +ℤ pos first.other)) → Kept V9 other
    least_v9 (places.Instant number at) lesser = before_instant Reused outside_v9 past_v9 first number at lesser
    least_v9 other lesser = tt

  judged_v9 : Undeniable (IsJudged V9)
  judged_v9 none = instants_judged Reused outside_v9 past_v9 (λ found. elim found [
    | inl all ↦ none (inl (kept_v9 all))
    | inr first ↦ none (inr (places.Instant first.one (model.problem.start +ℤ pos first.other), record { broken = first.fails; least = least_v9 first }))
  ])

  -- ---- reservoirs

  abbrev Levelled : ℕ → ℤ → Type 0
  Levelled number at = Kept V10 (places.Instant number at)

  outside_v10 : (number : ℕ) (at : ℤ) → (IsInstant model at → ⊥) → Levelled number at
  outside_v10 number at never object initial low high there kind within = absurd (never within)

  past_v10 : (number : ℕ) (at : ℤ) → length model.objects ≤ number → Levelled number at
  past_v10 number at past object initial low high there kind within = absurd (past_end model.objects number object past there)

  module _ (all : (number : ℕ) (at : ℤ) → Levelled number at) where
    kept_v10 : (place : Place) → Kept V10 place
    kept_v10 (places.Instant number at) = all number at
    kept_v10 place = tt

  module _ (first : FirstPair (λ number step. Levelled number (model.problem.start +ℤ pos step))) where
    least_v10 : (other : Place) → AreLesserNames other (places.Instant first.one (model.problem.start +ℤ pos first.other)) → Kept V10 other
    least_v10 (places.Instant number at) lesser = before_instant Levelled outside_v10 past_v10 first number at lesser
    least_v10 other lesser = tt

  judged_v10 : Undeniable (IsJudged V10)
  judged_v10 none = instants_judged Levelled outside_v10 past_v10 (λ found. elim found [
    | inl all ↦ none (inl (kept_v10 all))
    | inr first ↦ none (inr (places.Instant first.one (model.problem.start +ℤ pos first.other), record { broken = first.fails; least = least_v10 first }))
  ])

-- ---- what stands in the rules of the tokens of lines

module _ (model : Model) (plan : Plan) (lawful : IsLawful model) where
  -- what is asked in a rule of the token that takes place by a line
  module _ (size : Rule → ℕ) (Asks : TokenName → ℕ → ℕ → Type 0)
      (unless : (token : TokenName) (rule number : ℕ) → ((found : Rule) → HasRuleOf model token rule found → number < size found → ⊥) → Asks token rule number) where
    abbrev InRules : ℕ → ℕ → ℕ → Type 0
    InRules line rule number = (token : TokenName) → IsActivatedAt plan line token → Asks token rule number

    line_bounded : (line : ℕ) → Undeniable (IsBounded (InRules line))
    line_bounded line none = is_or_not ((token : TokenName) × IsActivatedAt plan line token) (λ which. elim which [
      | inl act ↦ token_bounded model lawful act.0 size (InRules line)
          (λ rule number never token at. unless token rule number (λ found of less.
          never found (subst (λ (t : TokenName). HasRuleOf model t rule found) (same_activated plan line token act.0 at act.1) of) less)) none
      | inr not ↦ none (record {
        bound = 0;
        later = λ rule number past token at. absurd (not (token, at));
        each = λ rule missing. missing (0, λ number past token at. absurd (not (token, at)));
      })
    ])

    rules_judged : (line : ℕ) → Undeniable (((rule number : ℕ) → InRules line rule number) ⊎ FirstPair (InRules line))
    rules_judged line none = line_bounded line (λ bounded. first_pair (InRules line) bounded none)

    past_lines : (line : ℕ) → length plan.lines ≤ line → (rule number : ℕ) → InRules line rule number
    past_lines line past rule number token at = absurd (past_end plan.lines line _ past at.1)

  -- ---- slots and locals

  abbrev AsksSlot : TokenName → ℕ → ℕ → Type 0
  AsksSlot token rule slot = AsksFor model (plan_situation plan) token (record { rule = rule; slot = slot }) → IsTakenIn plan (slot_token token rule slot)

  slot_unless : (token : TokenName) (rule slot : ℕ) → ((found : Rule) → HasRuleOf model token rule found → slot < length found.slots → ⊥) → AsksSlot token rule slot
  slot_unless token rule slot never asks =
      let block = asks.is_open.has_block in
      let of : HasRuleOf model token rule block.rule = record { slot = block.slot; has_token = block.has_token; has_rule = block.has_rule } in
      absurd (never block.rule of (slot_below model lawful token rule block.rule of plan slot (asks_stands model plan token (record { rule = rule; slot = slot }) asks)))

  abbrev AsksLocal : TokenName → ℕ → ℕ → Type 0
  AsksLocal token rule number = AsksForLocal model plan token rule number → HasDeclaredValue model plan (variables.Local token rule number)

  local_unless : (token : TokenName) (rule number : ℕ) → ((found : Rule) → HasRuleOf model token rule found → number < length found.locals → ⊥) → AsksLocal token rule number
  local_unless token rule number never asks =
      let block = asks.is_open.has_block in
      let of : HasRuleOf model token rule block.rule = record { slot = block.slot; has_token = block.has_token; has_rule = block.has_rule } in
      absurd (never block.rule of (local_below model lawful token rule block.rule of plan number (local_stands model plan token rule number asks)))

  abbrev KeptSlot : ℕ → ℕ → ℕ → Type 0
  KeptSlot line rule slot = Kept model plan V5 (places.Slot line rule slot)

  abbrev KeptLocal : ℕ → ℕ → ℕ → Type 0
  KeptLocal line rule number = Kept model plan V5 (places.Local line rule number)

  -- all slots and locals of the line's token
  abbrev LineKept : ℕ → Type 0
  LineKept line = ((rule slot : ℕ) → KeptSlot line rule slot) × ((rule number : ℕ) → KeptLocal line rule number)

  abbrev LineBroken : ℕ → Type 0
  LineBroken line = FirstPair (KeptSlot line) ⊎ (((rule slot : ℕ) → KeptSlot line rule slot) × FirstPair (KeptLocal line))

  locals_judged : (line : ℕ) → ((rule slot : ℕ) → KeptSlot line rule slot) → Undeniable (LineKept line ⊎ LineBroken line)
  locals_judged line slots none = rules_judged (λ rule. length rule.locals) AsksLocal local_unless line (λ found. elim found [
    | inl locals ↦ none (inl (slots, locals))
    | inr first ↦ none (inr (inr (slots, first)))
  ])

  line_judged : (line : ℕ) → Undeniable (LineKept line ⊎ LineBroken line)
  line_judged line none = rules_judged (λ rule. length rule.slots) AsksSlot slot_unless line (λ found. elim found [
    | inl slots ↦ locals_judged line slots none
    | inr first ↦ none (inr (inl first))
  ])

  past_v5 : (line : ℕ) → length plan.lines ≤ line → LineKept line
  past_v5 line past = (
    past_lines (λ rule. length rule.slots) AsksSlot slot_unless line past,
    past_lines (λ rule. length rule.locals) AsksLocal local_unless line past,
  )

  module _ (all : (line : ℕ) → LineKept line) where
    kept_v5 : (place : Place) → Kept model plan V5 place
    kept_v5 (places.Slot line rule slot) = (all line).0 rule slot
    kept_v5 (places.Local line rule number) = (all line).1 rule number
    kept_v5 place = tt

  module _ (line : ℕ) (before : (other : ℕ) → other < line → LineKept other) where
    module _ (first : FirstPair (KeptSlot line)) where
      slot_lesser : (other rule slot : ℕ) → ByNumber other line (ByNumber rule first.one (slot < first.other)) → KeptSlot other rule slot
      slot_lesser other rule slot (inl earlier) = (before other earlier).0 rule slot
      slot_lesser other rule slot (inr same) = let P : ℕ → Type 0 = λ n. KeptSlot n rule slot in subst P (sym same.0) (first.before rule slot same.1)

      least_slot : (other : Place) → AreLesserNames other (places.Slot line first.one first.other) → Kept model plan V5 other
      least_slot (places.Slot other rule slot) lesser = slot_lesser other rule slot lesser
      least_slot (places.Local other rule number) lesser = (before other lesser).1 rule number
      least_slot other lesser = tt

    module _ (slots : (rule slot : ℕ) → KeptSlot line rule slot) (first : FirstPair (KeptLocal line)) where
      local_lesser : (other rule number : ℕ) → ByNumber other line (ByNumber rule first.one (number < first.other)) → KeptLocal other rule number
      local_lesser other rule number (inl earlier) = (before other earlier).1 rule number
      local_lesser other rule number (inr same) = let P : ℕ → Type 0 = λ n. KeptLocal n rule number in subst P (sym same.0) (first.before rule number same.1)

      slots_lesser : (other rule slot : ℕ) → other ≤ line → KeptSlot other rule slot
      slots_lesser other rule slot most = elim (cases_lt other line) [
        | inl earlier ↦ (before other earlier).0 rule slot
        | inr past ↦ (
            let same : line ≡ other = omega (arith, most, past) in
            let P : ℕ → Type 0 = λ n. KeptSlot n rule slot in
            subst P same (slots rule slot)
            )
      ]

      least_local : (other : Place) → AreLesserNames other (places.Local line first.one first.other) → Kept model plan V5 other
      least_local (places.Slot other rule slot) lesser = slots_lesser other rule slot lesser
      least_local (places.Local other rule number) lesser = local_lesser other rule number lesser
      least_local other lesser = tt

    broken_v5 : LineBroken line → IsJudged model plan V5
    broken_v5 (inl first) = inr (places.Slot line first.one first.other, record { broken = first.fails; least = least_slot first })
    broken_v5 (inr first) = inr (places.Local line first.1.one first.1.other, record { broken = first.1.fails; least = least_local first.0 first.1 })

  judged_v5 : Undeniable (IsJudged model plan V5)
  judged_v5 none = first_of LineKept LineBroken (length plan.lines) (λ line less missing. line_judged line missing) past_v5 (λ found. elim found [
    | inl all ↦ none (inl (kept_v5 all))
    | inr first ↦ none (broken_v5 first.0 first.1.1 first.1.0)
  ])

  -- ---- items

  item_unless : (token : TokenName) (rule number : ℕ) → ((found : Rule) → HasRuleOf model token rule found → number < length (rule_items found) → ⊥)
      → IsTrueInRule model plan token rule number
  item_unless token rule number never placed entries open_block claim is_item says =
      let block = open_block.has_block in
      let of : HasRuleOf model token rule block.rule = record { slot = block.slot; has_token = block.has_token; has_rule = block.has_rule } in
      absurd (never block.rule of (slice_get_within (rule_items block.rule) number placed is_item))

  abbrev KeptItem : ℕ → ℕ → ℕ → Type 0
  KeptItem line rule number = Kept model plan V7 (places.Item line rule number)

  module _ (problem : (number : ℕ) → Kept model plan V7 (places.Problem number)) where
    module _ (all : (line rule number : ℕ) → KeptItem line rule number) where
      kept_v7 : (place : Place) → Kept model plan V7 place
      kept_v7 (places.Problem number) = problem number
      kept_v7 (places.Item line rule number) = all line rule number
      kept_v7 place = tt

    module _ (line : ℕ) (before : (other : ℕ) → other < line → (rule number : ℕ) → KeptItem other rule number) (first : FirstPair (KeptItem line)) where
      item_lesser : (other rule number : ℕ) → ByNumber other line (ByNumber rule first.one (number < first.other)) → KeptItem other rule number
      item_lesser other rule number (inl earlier) = before other earlier rule number
      item_lesser other rule number (inr same) = let P : ℕ → Type 0 = λ n. KeptItem n rule number in subst P (sym same.0) (first.before rule number same.1)

      least_item : (other : Place) → AreLesserNames other (places.Item line first.one first.other) → Kept model plan V7 other
      least_item (places.Problem number) lesser = problem number
      least_item (places.Item other rule number) lesser = item_lesser other rule number lesser
      least_item other lesser = tt

    items_judged : Undeniable (IsJudged model plan V7)
    items_judged none =
        first_of (λ line. (rule number : ℕ) → KeptItem line rule number) (λ line. FirstPair (KeptItem line)) (length plan.lines)
        (λ line less missing. rules_judged (λ rule. length (rule_items rule)) (IsTrueInRule model plan) item_unless line missing)
        (λ line past. past_lines (λ rule. length (rule_items rule)) (IsTrueInRule model plan) item_unless line past)
        (λ found. elim found [
          | inl all ↦ none (inl (kept_v7 all))
          | inr first ↦ none (inr (
            places.Item first.0 first.1.0.one first.1.0.other,
            record { broken = first.1.0.fails; least = least_item first.0 first.1.1 first.1.0 },
          ))
        ])

  module _ (number : ℕ) (before : (other : ℕ) → other < number → Kept model plan V7 (places.Problem other)) where
    least_problem : (other : Place) → AreLesserNames other (places.Problem number) → Kept model plan V7 other
    least_problem (places.Problem other) lesser = before other lesser
    least_problem (places.Item line rule item) lesser = absurd lesser
    least_problem other lesser = tt

  judged_v7 : Undeniable (IsJudged model plan V7)
  judged_v7 none = places_judged model.problem.items (λ number item. IsTrueItem model plan item) (λ found. elim found [
    | inl problem ↦ items_judged problem none
    | inr first ↦ none (inr (places.Problem first.0, record { broken = first.1.0; least = least_problem first.0 first.1.1 }))
  ])

  -- ---- all clauses

  judged : (clause : Clause) → Undeniable (IsJudged model plan clause)
  judged V1 none = judged_v1 model plan none
  judged V2 none = judged_v2 model plan none
  judged V3 none = judged_v3 model plan none
  judged V4 none = judged_v4 model plan none
  judged V5 none = judged_v5 none
  judged V6 none = judged_v6 model plan none
  judged V7 none = judged_v7 none
  judged V8 none = judged_v8 model plan none
  judged V9 none = judged_v9 model plan none
  judged V10 none = judged_v10 model plan none

-- the clause before which so many come
abbrev clause_at : ℕ → Clause
clause_at zero = V1
clause_at (suc zero) = V2
clause_at (suc (suc zero)) = V3
clause_at (suc (suc (suc zero))) = V4
clause_at (suc (suc (suc (suc zero)))) = V5
clause_at (suc (suc (suc (suc (suc zero))))) = V6
clause_at (suc (suc (suc (suc (suc (suc zero)))))) = V7
clause_at (suc (suc (suc (suc (suc (suc (suc zero))))))) = V8
clause_at (suc (suc (suc (suc (suc (suc (suc (suc zero)))))))) = V9
clause_at (suc (suc (suc (suc (suc (suc (suc (suc (suc number))))))))) = V10

at_most_before : (number : ℕ) → clauses_before (clause_at number) ≤ number
at_most_before zero = omega arith
at_most_before (suc zero) = omega arith
at_most_before (suc (suc zero)) = omega arith
at_most_before (suc (suc (suc zero))) = omega arith
at_most_before (suc (suc (suc (suc zero)))) = omega arith
at_most_before (suc (suc (suc (suc (suc zero))))) = omega arith
at_most_before (suc (suc (suc (suc (suc (suc zero)))))) = omega arith
at_most_before (suc (suc (suc (suc (suc (suc (suc zero))))))) = omega arith
at_most_before (suc (suc (suc (suc (suc (suc (suc (suc zero)))))))) = omega arith
at_most_before (suc (suc (suc (suc (suc (suc (suc (suc (suc number))))))))) = omega arith

-- a clause with its number
record IsNumbered (clause : Clause) : Type 0 where
  small : clauses_before clause < 10
  same : clause_at (clauses_before clause) ≡ clause

numbered : (clause : Clause) → IsNumbered clause
numbered V1 = record { small = omega arith; same = refl }
numbered V2 = record { small = omega arith; same = refl }
numbered V3 = record { small = omega arith; same = refl }
numbered V4 = record { small = omega arith; same = refl }
numbered V5 = record { small = omega arith; same = refl }
numbered V6 = record { small = omega arith; same = refl }
numbered V7 = record { small = omega arith; same = refl }
numbered V8 = record { small = omega arith; same = refl }
numbered V9 = record { small = omega arith; same = refl }
numbered V10 = record { small = omega arith; same = refl }

module _ (model : Model) (plan : Plan) where
  -- the clause before which so many come is kept everywhere, or broken at a place with the least names
  abbrev KeptAt : ℕ → Type 0
  KeptAt number = (place : Place) → IsClauseKept model plan (clause_at number) place

  abbrev BrokenAt : ℕ → Type 0
  BrokenAt number = (place : Place) × IsLeastBroken model plan (clause_at number) place

  kept_clause : (clause : Clause) → KeptAt (clauses_before clause) → (place : Place) → IsClauseKept model plan clause place
  kept_clause clause kept place =
      let P : Clause → Type 0 = λ c. IsClauseKept model plan c place in subst P (numbered clause).same (kept place)

  verdict_by : (((number : ℕ) → number < 10 → KeptAt number) ⊎ FirstOf KeptAt BrokenAt) → (verdict : Verdict) × IsVerdict model plan verdict
  verdict_by (inl all) = (Valid, λ clause place. kept_clause clause (all (clauses_before clause) (numbered clause).small) place)
  verdict_by (inr (number, ((place, broken), before))) = (
    Invalid (clause_at number) place,
    record {
      here = broken;
      first = λ earlier other less.
          kept_clause earlier (before (clauses_before earlier) (omega (arith, less, at_most_before number))) other;
    },
  )

pub plans_have_verdicts : PlansHaveVerdicts
plans_have_verdicts model plan lawful none =
    first_below (KeptAt model plan) (BrokenAt model plan) 10 (λ number less missing. judged model plan lawful (clause_at number) missing) (λ found.
    none (verdict_by model plan found))
