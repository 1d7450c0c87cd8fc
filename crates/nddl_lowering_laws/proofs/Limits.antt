-- Where no limit is passed, the rules of each predicate are few.
use Rattle.std.proofs.Common.{◌≡◌, ℕ, ◌+◌, ◌-◌, ◌^◌, ◌<◌, ◌≤◌, ◌==◌, ◌⊎◌, inl, inr, min, Bool, true, false, List, [], ◌∷◌, ◌++◌, length, sum_by, refl, sym, ◌∙◌, ap, subst, arith, eq-eqb, ne_eqb}
use Rattle.std.specs.Prelude.{All, nat_le, nat_lt, if◌then◌else◌}
use Rattle.std.proofs.lemmas.Bool.{and_cases, cases_eq, cases_lt, leb-false, ltb-false}
use Rattle.std.proofs.lemmas.List.Elements.{All-cons, All-nil}
use Rattle.std.proofs.lemmas.List.Sums.{sum_by-cons}
use Rattle.model_core.specs.declared.class.Object.{Object}
use Rattle.model_core.specs.declared.rule.Rule.{Rule}
use Rattle.model_core.specs.Lawful.{AreFew, guard_count, item_count}
use Rattle.nddl_ast.specs.declared.kind.TextKind.{TextKind}
use Rattle.nddl_ast.specs.declared.kind.TextKind.TheVariants as faults
use Rattle.nddl_symbols.specs.declared.place.Place.{Place}
use Rattle.nddl_symbols.specs.Scope.{fault_if}
use Rattle.nddl_laws.proofs.Nothing.{none_first, none_second}
use Rattle.nddl_laws.proofs.Values.{no_fault, not_so}
use Rattle.nddl_terms.specs.PlainTree.{PlainTree}
use Rattle.nddl_terms.specs.declared.lexicon.Lexicon.{Lexicon}
use Rattle.nddl_unroll.specs.declared.amounts.Amounts.{Amounts}
use Rattle.nddl_unroll.specs.declared.limits.Tally.{Tally}
use Rattle.nddl_unroll.specs.Amounts.{plus}
use Rattle.nddl_unroll.specs.Counting.{tree_amounts}
use Rattle.nddl_unroll.specs.Enough.{HasEnough}
use Rattle.nddl_unroll.specs.Limits.{limit_faults, limits_passed, no_rules, passes, rule_limits, tally_of, with_rule}
use Rattle.nddl_unroll.specs.Rules.{tree_rule}
use Rattle.nddl_unroll.specs.Weighing.{tree_limits, weighed_trees}
use Rattle.nddl_unroll.proofs.Trees.{trees_counted}
use Rattle.nddl_lowering_laws.specs.Few.{RulesAreFew, pred_rules}
use Rattle.nddl_lowering_laws.proofs.EachTree.{GoByPred, trees_go}
use Rattle.nddl_lowering_laws.proofs.OfPred.{rules_other, rules_own}

-- ---- one limit

-- what doesn't pass a limit stays within it
not_passed : (limit before after : ℕ) → before ≤ limit → passes limit before after ≡ false → after ≤ limit
not_passed limit before after low none = by (and_cases (nat_le before limit) (nat_lt limit after) none)
  where
    by : (nat_le before limit ≡ false) ⊎ (nat_lt limit after ≡ false) → after ≤ limit
    by (inl over) = absurd (omega (arith, low, leb-false before limit over))
    by (inr within) = ltb-false limit after within

limit_kept : (place : Place) (kind : TextKind) (limit before after : ℕ) → before ≤ limit → limit_faults place kind limit before after ≡ []
    → after ≤ limit
limit_kept place kind limit before after low none =
    let so = passes limit before after in
    not_passed limit before after low (not_so so kind (no_fault place.decl place.at (fault_if so kind) none))

-- ---- all limits

-- what a predicate has is within the limits
record IsWithin (tally : Tally) : Type 0 where
  rules : tally.rules ≤ 1024
  guards : tally.amounts.guards ≤ 1024
  slots : tally.amounts.slots ≤ 128
  locals : tally.amounts.locals ≤ 128
  items : tally.amounts.items ≤ 1024

none_within : IsWithin no_rules
none_within = record { rules = omega arith; guards = omega arith; slots = omega arith; locals = omega arith; items = omega arith }

chosen_within : (so : Bool) (tally : Tally) → IsWithin tally → IsWithin (if so then tally else no_rules)
chosen_within true tally within = within
chosen_within false tally within = none_within

rule_within : (place : Place) (before after : Tally) → IsWithin before → rule_limits place before after ≡ [] → IsWithin after
rule_within place before after within none =
    let one = limit_faults place faults.LimitRules 1024 before.rules after.rules in
    let two = limit_faults place faults.LimitGuards 1024 before.amounts.guards after.amounts.guards in
    let three = limit_faults place faults.LimitSlots 128 before.amounts.slots after.amounts.slots in
    let four = limit_faults place faults.LimitLocals 128 before.amounts.locals after.amounts.locals in
    let five = limit_faults place faults.LimitItems 1024 before.amounts.items after.amounts.items in
    let six = limit_faults place faults.LimitTurns 65536 before.amounts.turns after.amounts.turns in
    let behind_one = none_second one (two ++ (three ++ (four ++ (five ++ six)))) none in
    let behind_two = none_second two (three ++ (four ++ (five ++ six))) behind_one in
    let behind_three = none_second three (four ++ (five ++ six)) behind_two in
    let behind_four = none_second four (five ++ six) behind_three in
    record {
      rules = limit_kept place faults.LimitRules 1024 before.rules after.rules within.rules
          (none_first one (two ++ (three ++ (four ++ (five ++ six)))) none);
      guards = limit_kept place faults.LimitGuards 1024 before.amounts.guards after.amounts.guards within.guards
          (none_first two (three ++ (four ++ (five ++ six))) behind_one);
      slots = limit_kept place faults.LimitSlots 128 before.amounts.slots after.amounts.slots within.slots
          (none_first three (four ++ (five ++ six)) behind_two);
      locals = limit_kept place faults.LimitLocals 128 before.amounts.locals after.amounts.locals within.locals
          (none_first four (five ++ six) behind_three);
      items = limit_kept place faults.LimitItems 1024 before.amounts.items after.amounts.items within.items
          (none_first five six behind_four);
    }

-- ---- rules of a predicate

-- together with what a predicate has before, the rules are within the limits
record FitBehind (tally : Tally) (some : List Rule) : Type 0 where
  rules : tally.rules + length some ≤ 1024
  guards : tally.amounts.guards + sum_by (λ rule. guard_count rule.top) some ≤ 1024
  slots : tally.amounts.slots + sum_by (λ rule. length rule.slots) some ≤ 128
  locals : tally.amounts.locals + sum_by (λ rule. length rule.locals) some ≤ 128
  items : tally.amounts.items + sum_by (λ rule. item_count rule.top) some ≤ 1024

none_fit : (tally : Tally) → IsWithin tally → FitBehind tally []
none_fit tally within = record {
  rules = omega (arith, within.rules);
  guards = omega (arith, within.guards);
  slots = omega (arith, within.slots);
  locals = omega (arith, within.locals);
  items = omega (arith, within.items);
}

one_more : (before one rest limit amount : ℕ) → min one (2 ^ 64 - 1) ≤ amount → plus before amount + rest ≤ limit → limit ≤ 1024
    → before + (one + rest) ≤ limit
one_more before one rest limit amount enough fits small = omega (arith, enough, fits, small)

fit_more : (before : Tally) (amounts : Amounts) (rule : Rule) (some : List Rule) → HasEnough rule amounts
    → FitBehind (with_rule before amounts) some → FitBehind before (rule ∷ some)
fit_more before amounts rule some enough fit =
    let guards_of : Rule → ℕ = λ r. guard_count r.top in
    let slots_of : Rule → ℕ = λ r. length r.slots in
    let locals_of : Rule → ℕ = λ r. length r.locals in
    let items_of : Rule → ℕ = λ r. item_count r.top in
    let guards = one_more before.amounts.guards (guards_of rule) (sum_by guards_of some) 1024 amounts.guards enough.guards fit.guards (omega arith) in
    let slots = one_more before.amounts.slots (slots_of rule) (sum_by slots_of some) 128 amounts.slots enough.slots fit.slots (omega arith) in
    let locals = one_more before.amounts.locals (locals_of rule) (sum_by locals_of some) 128 amounts.locals enough.locals fit.locals (omega arith) in
    let items = one_more before.amounts.items (items_of rule) (sum_by items_of some) 1024 amounts.items enough.items fit.items (omega arith) in
    let counted = fit.rules in
    record {
      rules = omega (arith, counted);
      guards = omega (arith, guards, sum_by-cons guards_of rule some);
      slots = omega (arith, slots, sum_by-cons slots_of rule some);
      locals = omega (arith, locals, sum_by-cons locals_of rule some);
      items = omega (arith, items, sum_by-cons items_of rule some);
    }

-- a rule alone is within the limits
pub record IsSmallRule (rule : Rule) : Type 0 where
  pub guards : guard_count rule.top ≤ 1024
  pub slots : length rule.slots ≤ 128
  pub locals : length rule.locals ≤ 128
  pub items : item_count rule.top ≤ 1024

one_alone : (before one limit amount : ℕ) → min one (2 ^ 64 - 1) ≤ amount → plus before amount ≤ limit → limit ≤ 1024 → one ≤ limit
one_alone before one limit amount enough fits small = omega (arith, enough, fits, small)

small_alone : (before : Tally) (amounts : Amounts) (rule : Rule) → HasEnough rule amounts → IsWithin (with_rule before amounts) → IsSmallRule rule
small_alone before amounts rule enough within = record {
  guards = one_alone before.amounts.guards (guard_count rule.top) 1024 amounts.guards enough.guards within.guards (omega arith);
  slots = one_alone before.amounts.slots (length rule.slots) 128 amounts.slots enough.slots within.slots (omega arith);
  locals = one_alone before.amounts.locals (length rule.locals) 128 amounts.locals enough.locals within.locals (omega arith);
  items = one_alone before.amounts.items (item_count rule.top) 1024 amounts.items enough.items within.items (omega arith);
}

below : (one other : ℕ) → one ≤ other → (one ≡ other → ⊥) → one < other
below one other low differ = by (cases_lt one other)
  where
    by : (one < other) ⊎ (other ≤ one) → one < other
    by (inl less) = less
    by (inr more) = absurd (differ (omega (arith, low, more)))

module _ (lexicon : Lexicon) (objects : List Object) where
  -- no earlier predicate has rules among these
  none_earlier : (least : ℕ) (trees : List PlainTree) (pred : ℕ) → GoByPred least trees → pred < least → pred_rules lexicon objects trees pred ≡ []
  none_earlier least [] pred go less = refl
  none_earlier least (tree ∷ more) pred go less =
      let later : least ≤ tree.pred = go.0 in
      rules_other lexicon objects pred tree more (λ same. omega (arith, later, less, same))
      ∙ none_earlier tree.pred more pred go.1 (omega (arith, later, less))

  -- a rule of the predicate comes before others of it
  own_fit : (pred : ℕ) (tally : Tally) (tree : PlainTree) (more : List PlainTree) (other : ℕ) → other ≡ tree.pred
      → FitBehind (tally_of other tree.pred (with_rule (tally_of tree.pred pred tally) (tree_amounts lexicon tree))) (pred_rules lexicon objects more other)
      → FitBehind (tally_of other pred tally) (pred_rules lexicon objects (tree ∷ more) other)
  own_fit pred tally tree more other same rest =
      let before = tally_of tree.pred pred tally in
      let after = with_rule before (tree_amounts lexicon tree) in
      let those = pred_rules lexicon objects more other in
      let whole : tally_of other tree.pred after ≡ after =
      ap (λ (so : Bool). if so then after else no_rules) (eq-eqb other tree.pred same) in
      let begun : before ≡ tally_of other pred tally = ap (λ (n : ℕ). tally_of n pred tally) (sym same) in
      let fit = fit_more before (tree_amounts lexicon tree) (tree_rule lexicon objects tree) those (trees_counted lexicon objects tree)
      (subst (λ (t : Tally). FitBehind t those) whole rest) in
      subst (λ (t : Tally). FitBehind t (pred_rules lexicon objects (tree ∷ more) other)) begun
      (subst (FitBehind before) (sym (rules_own lexicon objects other tree more (sym same))) fit)

  -- a rule of another predicate does, so the one has all its rules before, or none
  other_fit : (pred : ℕ) (tally : Tally) (tree : PlainTree) (more : List PlainTree) (other : ℕ) → IsWithin tally → pred ≤ tree.pred
      → GoByPred tree.pred more → (other ≡ tree.pred → ⊥) → (after : Tally)
      → FitBehind (tally_of other tree.pred after) (pred_rules lexicon objects more other) → (other ≡ pred) ⊎ (other ≡ pred → ⊥)
      → FitBehind (tally_of other pred tally) (pred_rules lexicon objects (tree ∷ more) other)
  other_fit pred tally tree more other within least go differ after rest (inl same) =
      let none = rules_other lexicon objects other tree more (λ is. differ (sym is))
      ∙ none_earlier tree.pred more other go (below other tree.pred (omega (arith, least, same)) differ) in
      subst (FitBehind (tally_of other pred tally)) (sym none)
      (none_fit (tally_of other pred tally) (chosen_within (other == pred) tally within))
  other_fit pred tally tree more other within least go differ after rest (inr away) =
      let those = pred_rules lexicon objects (tree ∷ more) other in
      let here : tally_of other tree.pred after ≡ no_rules =
      ap (λ (so : Bool). if so then after else no_rules) (ne_eqb other tree.pred differ) in
      let there : tally_of other pred tally ≡ no_rules = ap (λ (so : Bool). if so then tally else no_rules) (ne_eqb other pred away) in
      subst (λ (t : Tally). FitBehind t those) (sym there)
      (subst (FitBehind no_rules) (sym (rules_other lexicon objects other tree more (λ is. differ (sym is))))
      (subst (λ (t : Tally). FitBehind t (pred_rules lexicon objects more other)) here rest))

  all_fit : (trees : List PlainTree) (pred : ℕ) (tally : Tally) → GoByPred pred trees → IsWithin tally
      → limits_passed pred tally (weighed_trees lexicon trees) ≡ [] → (other : ℕ)
      → FitBehind (tally_of other pred tally) (pred_rules lexicon objects trees other)
  all_fit [] pred tally go within none other = none_fit (tally_of other pred tally) (chosen_within (other == pred) tally within)
  all_fit (tree ∷ more) pred tally go within none other =
      let before = tally_of tree.pred pred tally in
      let after = with_rule before (tree_amounts lexicon tree) in
      let here = rule_limits tree.place before after in
      let behind = limits_passed tree.pred after (weighed_trees lexicon more) in
      let within_before : IsWithin before = chosen_within (tree.pred == pred) tally within in
      let within_after = rule_within tree.place before after within_before (none_first here behind none) in
      let rest = all_fit more tree.pred after go.1 within_after (none_second here behind none) other in
      by rest (cases_eq other tree.pred)
    where
      by : FitBehind (tally_of other tree.pred (with_rule (tally_of tree.pred pred tally) (tree_amounts lexicon tree))) (pred_rules lexicon objects more other)
          → (other ≡ tree.pred) ⊎ (other ≡ tree.pred → ⊥) → FitBehind (tally_of other pred tally) (pred_rules lexicon objects (tree ∷ more) other)
      by rest (inl same) = own_fit pred tally tree more other same rest
      by rest (inr differ) =
          other_fit pred tally tree more other within go.0 go.1 differ (with_rule (tally_of tree.pred pred tally) (tree_amounts lexicon tree)) rest
          (cases_eq other pred)

  each_small : (trees : List PlainTree) (pred : ℕ) (tally : Tally) → IsWithin tally
      → limits_passed pred tally (weighed_trees lexicon trees) ≡ [] → All (λ tree. IsSmallRule (tree_rule lexicon objects tree)) trees
  each_small [] pred tally within none = All-nil (λ (tree : PlainTree). IsSmallRule (tree_rule lexicon objects tree))
  each_small (tree ∷ more) pred tally within none =
      let before = tally_of tree.pred pred tally in
      let after = with_rule before (tree_amounts lexicon tree) in
      let here = rule_limits tree.place before after in
      let behind = limits_passed tree.pred after (weighed_trees lexicon more) in
      let within_before : IsWithin before = chosen_within (tree.pred == pred) tally within in
      let within_after = rule_within tree.place before after within_before (none_first here behind none) in
      All-cons (λ (tree : PlainTree). IsSmallRule (tree_rule lexicon objects tree)) tree more
      (small_alone before (tree_amounts lexicon tree) (tree_rule lexicon objects tree) (trees_counted lexicon objects tree) within_after)
      (each_small more tree.pred after within_after (none_second here behind none))

same_tally : (so : Bool) → (if so then no_rules else no_rules) ≡ no_rules
same_tally true = refl
same_tally false = refl

few_from : (some : List Rule) → FitBehind no_rules some → AreFew some
few_from some fit = record {
  rules = omega (arith, fit.rules);
  slots = omega (arith, fit.slots);
  locals = omega (arith, fit.locals);
  items = omega (arith, fit.items);
  guards = omega (arith, fit.guards);
}

pub rules_few : RulesAreFew
rules_few table files trees lexicon objects are none pred =
    few_from (pred_rules lexicon objects trees pred)
    (subst (λ (t : Tally). FitBehind t (pred_rules lexicon objects trees pred)) (same_tally (pred == 0))
    (all_fit lexicon objects trees 0 no_rules (trees_go table files trees are) none_within none pred))

pub rules_small : (lexicon : Lexicon) (objects : List Object) (trees : List PlainTree) → tree_limits lexicon trees ≡ []
    → All (λ tree. IsSmallRule (tree_rule lexicon objects tree)) trees
rules_small lexicon objects trees none = each_small lexicon objects trees 0 no_rules none_within none
