-- Items of the problem, and of open blocks line by line.
use Rattle.std.proofs.Common.{ℕ, ◌≤◌, ◌∙◌, length, inl, inr, refl, sym, subst, arith}
use Rattle.std.proofs.lemmas.Bool.{cases_lt}
use Rattle.eu_name.specs.declared.name.TokenName.{TokenName}
use Rattle.model_core.specs.declared.model.Model.{Model}
use Rattle.plan_defs.specs.declared.plan.Clause.TheVariants.{V7}
use Rattle.plan_defs.specs.declared.plan.Place.{Place}
use Rattle.plan_defs.specs.declared.plan.Place.TheVariants as places
use Rattle.plan_defs.specs.declared.plan.Plan.{Plan}
use Rattle.plan_defs.specs.Broken.{AreLesserNames, IsLeastBroken}
use Rattle.plan_defs.specs.Valid.{IsActivatedAt, IsTrueInRule, KeepsItems}
use Rattle.plan_inventory.specs.Asking.{IsOnLine, IsLeastOnLine}
use Rattle.plan_inventory.specs.Breaks.{IsFirstNumber, IsFirstInRules}
use Rattle.plan_inventory.proofs.Sweeping.{one_activated, past, Upto}
use Rattle.plan_check.specs.Items.{IsProblemItemTrue}

-- ---- the items of one line

module _ (model : Model) (plan : Plan) (line : ℕ) (token : TokenName) (activated : IsActivatedAt plan line token) where
  item_keeps : (rule item : ℕ) → IsTrueInRule model plan token rule item → KeepsItems model plan (places.Item line rule item)
  item_keeps rule item holds other at = subst (λ (t : TokenName). IsTrueInRule model plan t rule item) (one_activated plan line token other activated at) holds

  items_before : (rule item : ℕ) → IsFirstInRules (IsTrueInRule model plan token) rule item → (other : Place) → IsOnLine line other → AreLesserNames other (places.Item line rule item)
      → KeepsItems model plan other
  items_before rule item first (places.Item own r i) same (inl below) = absurd (omega (arith, below, same))
  items_before rule item first (places.Item own r i) same (inr (tied, by)) =
      subst (λ (l : ℕ). KeepsItems model plan (places.Item l r i)) (sym same) (item_keeps r i (first.before r i by))
  items_before rule item first (places.Problem number) same less = absurd same
  items_before rule item first other same less = tt

  pub item_least : (rule item : ℕ) → IsFirstInRules (IsTrueInRule model plan token) rule item → IsLeastOnLine model plan V7 line (places.Item line rule item)
  item_least rule item first = record { on_line = refl; broken = λ keeps. first.fails (keeps token activated); least = items_before rule item first }

  pub items_kept : ((r i : ℕ) → IsTrueInRule model plan token r i) → (place : Place) → IsOnLine line place → KeepsItems model plan place
  items_kept holds (places.Item own r i) same = subst (λ (l : ℕ). KeepsItems model plan (places.Item l r i)) (sym same) (item_keeps r i (holds r i))
  items_kept holds (places.Problem number) same = absurd same
  items_kept holds other same = tt

-- a line by which no token takes place breaks none
module _ (model : Model) (plan : Plan) (line : ℕ) (none : (token : TokenName) → IsActivatedAt plan line token → ⊥) where
  pub items_idle : (place : Place) → IsOnLine line place → KeepsItems model plan place
  items_idle (places.Item own r i) same = λ token at. absurd (none token (subst (λ (l : ℕ). IsActivatedAt plan l token) same at))
  items_idle (places.Problem number) same = absurd same
  items_idle other same = tt

-- ---- line by line

module _ (model : Model) (plan : Plan) where
  module _ (problem : (number : ℕ) → IsProblemItemTrue model plan number) where
    items_below : (line : ℕ) (found : Place) → Upto model plan V7 line → IsLeastOnLine model plan V7 line found → (other : Place) → AreLesserNames other found → KeepsItems model plan other
    items_below line (places.Item own r i) before least (places.Item own' r' i') (inl below) = before own' (omega (arith, below, least.on_line)) (places.Item own' r' i') refl
    items_below line (places.Item own r i) before least (places.Item own' r' i') (inr tied) = least.least (places.Item own' r' i') (tied.0 ∙ least.on_line) (inr tied)
    items_below line (places.Item own r i) before least (places.Problem number) less = problem number
    items_below line found before least (places.Problem number) less = problem number
    items_below line (places.Slot own r s) before least (places.Item own' r' i') less = absurd less
    items_below line (places.Local own r m) before least (places.Item own' r' i') less = absurd less
    items_below line (places.Global n) before least other less = absurd least.on_line
    items_below line (places.Root n) before least other less = absurd least.on_line
    items_below line (places.Line n) before least other less = absurd least.on_line
    items_below line (places.Problem n) before least other less = absurd least.on_line
    items_below line (places.Pair n m) before least other less = absurd least.on_line
    items_below line (places.Instant n m) before least other less = absurd least.on_line
    items_below line found before least other less = tt

    pub item_found : (line : ℕ) (found : Place) → Upto model plan V7 line → IsLeastOnLine model plan V7 line found → IsLeastBroken model plan V7 found
    item_found line found before least = record { broken = least.broken; least = items_below line found before least }

    all_items : (count : ℕ) → length plan.lines ≤ count → Upto model plan V7 count → (line : ℕ) (place : Place) → IsOnLine line place → KeepsItems model plan place
    all_items count all before line place on = elim (cases_lt line count) [
      | inl less ↦ before line less place on
      | inr not_less ↦ items_idle model plan line (past model plan line (omega (arith, all, not_less))) place on
    ]

    pub all_items_kept : (count : ℕ) → length plan.lines ≤ count → Upto model plan V7 count → (place : Place) → KeepsItems model plan place
    all_items_kept count all before (places.Item own r i) = all_items count all before own (places.Item own r i) refl
    all_items_kept count all before (places.Problem number) = problem number
    all_items_kept count all before other = tt

  problem_below : (number : ℕ) → IsFirstNumber (IsProblemItemTrue model plan) number → (other : Place) → AreLesserNames other (places.Problem number) → KeepsItems model plan other
  problem_below number first (places.Problem earlier) less = first.before earlier less
  problem_below number first (places.Item own r i) less = absurd less
  problem_below number first other less = tt

  pub problem_least : (number : ℕ) → IsFirstNumber (IsProblemItemTrue model plan) number → IsLeastBroken model plan V7 (places.Problem number)
  problem_least number first = record { broken = first.fails; least = problem_below number first }
