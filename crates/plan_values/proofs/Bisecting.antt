-- Bisection of the lines of a plan.
use Rattle.std.proofs.Common.{◌≡◌, ℕ, ◌+◌, ◌<◌, ◌≤◌, List, length, get_or, Some, inl, inr, sym, ap, ◌∙◌, subst, arith}
use Rattle.std.specs.Prelude.{slice_get}
use Rattle.std.proofs.lemmas.Bool.{cases_lt}
use Rattle.eu_name.specs.declared.name.VarName.{VarName}
use Rattle.eu_name.specs.NameOrder.{IsVarBefore}
use Rattle.eu_name.proofs.Members.{get_same, get_below, get_from_contains}
use Rattle.eu_name.proofs.Orders.{var_order}
use Rattle.model_core.proofs.Items.{item_at, item_is}
use Rattle.plan_defs.specs.declared.plan.Line.{Line}
use Rattle.plan_defs.specs.declared.plan.Plan.{Plan}
use Rattle.plan_defs.specs.Plans.{order_name, IsLineBefore}
use Rattle.plan_defs.specs.Valid.{IsLineAt}
use Rattle.plan_values.specs.Keys.{IsOrderly}
use Rattle.plan_values.specs.Values.{IsLineFor}

-- the line that was read there
pub read_line : (plan : Plan) (listed : List Line) (place : ℕ) (line : Line) → listed ≡ plan.lines → place < length listed → line ≡ get_or listed place line → IsLineAt plan place line
read_line plan listed place line same within is =
    subst (λ (xs : List Line). slice_get xs place ≡ Some line) same (item_at listed place line within ∙ ap (λ (l : Line). Some l) (sym is))

module _ (plan : Plan) (ok : IsOrderly plan) where
  -- of two lines the one at the lower place comes first
  pub line_order : (m n : ℕ) (one other : Line) → m < n → IsLineAt plan m one → IsLineAt plan n other → IsLineBefore one other
  line_order m n one other below p q =
      subst (λ (l : Line). IsLineBefore l other) (item_is plan.lines m other one p)
      (subst (λ (l : Line). IsLineBefore (get_or plan.lines m other) l) (item_is plan.lines n other other q)
      (ok.order m n other below (get_below plan.lines n other q)))

  module _ (name : VarName) (middle : ℕ) (line : Line) (at : IsLineAt plan middle line) where
    -- where the name comes before the line, it comes before the later ones
    pub all_later : IsVarBefore name (order_name line) → (place : ℕ) (other : Line) → middle ≤ place → IsLineAt plan place other → IsVarBefore name (order_name other)
    all_later before place other from there = elim (cases_lt middle place) [
      | inl above ↦ var_order.transitive name (order_name line) (order_name other) before (line_order middle place line other above at there)
      | inr not_above ↦ (
          let same : place ≡ middle = omega arith in
          subst (λ (l : Line). IsVarBefore name (order_name l)) (get_same plan.lines middle line other at (subst (λ (k : ℕ). IsLineAt plan k other) same there)) before)
    ]

    -- where it comes behind the line, it comes behind the earlier ones
    pub all_earlier : IsVarBefore (order_name line) name → (place : ℕ) (other : Line) → place < middle + 1 → IsLineAt plan place other → IsVarBefore (order_name other) name
    all_earlier before place other upto there = elim (cases_lt place middle) [
      | inl below ↦ var_order.transitive (order_name other) (order_name line) name (line_order place middle other line below there at) before
      | inr not_below ↦ (
          let same : place ≡ middle = omega arith in
          subst (λ (l : Line). IsVarBefore (order_name l) name) (get_same plan.lines middle line other at (subst (λ (k : ℕ). IsLineAt plan k other) same there)) before)
    ]

  -- where the lines below one place come before the name, and those from it on behind it, none has it
  pub none_named : (name : VarName) (low high : ℕ) → high ≤ low → ((place : ℕ) (line : Line) → place < low → IsLineAt plan place line → IsVarBefore (order_name line) name)
      → ((place : ℕ) (line : Line) → high ≤ place → IsLineAt plan place line → IsVarBefore name (order_name line))
      → (line : Line) → IsLineFor plan name line → ⊥
  none_named name low high met lower upper line is =
      let at = get_from_contains plan.lines line is.0 in
      elim (cases_lt at.0 low) [
        | inl below ↦ var_order.irreflexive name (subst (λ (v : VarName). IsVarBefore v name) is.1 (lower at.0 line below at.1))
        | inr above ↦ var_order.irreflexive name (subst (λ (v : VarName). IsVarBefore name v) is.1 (upper at.0 line (omega (arith, met, above)) at.1))
      ]
