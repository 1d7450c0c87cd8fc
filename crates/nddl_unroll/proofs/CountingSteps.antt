-- Arguments and rules that are counted one after another.
use Rattle.std.proofs.Common.{◌≡◌, ℕ, ◌+◌, ◌-◌, ◌<◌, List, [], ◌∷◌, length, drop, get_or, sym, ◌∙◌, ap, arith}
use Rattle.std.specs.Prelude.{Option}
use Rattle.std.proofs.lemmas.List.{drop_more, length-drop}
use Rattle.nddl_ast.specs.declared.expression.Expr.{Expr}
use Rattle.nddl_symbols.specs.declared.fault.Fault.{Fault}
use Rattle.nddl_symbols.specs.Finding.{earliest_fault}
use Rattle.nddl_symbols.proofs.Earliest.{earliest_append}
use Rattle.nddl_unroll.specs.declared.limits.Tally.{Tally}
use Rattle.nddl_unroll.specs.declared.limits.Weighed.{Weighed}
use Rattle.nddl_unroll.specs.Amounts.{plus}
use Rattle.nddl_unroll.specs.Counting.{pairs_of}
use Rattle.nddl_unroll.specs.Limits.{limits_passed, rule_limits, tally_of, with_rule}

-- an argument more has been paired with those behind it
pub pairs_step : (exprs : List Expr) (place old new whole : ℕ) → place < length exprs → new ≡ plus old (length exprs - place - 1)
    → pairs_of (drop place exprs) old ≡ whole → pairs_of (drop (place + 1) exprs) new ≡ whole
pairs_step [] place old new whole within new_is so_far = absurd (omega (arith, within))
pairs_step (first ∷ more) place old new whole within new_is so_far =
    let split = drop_more (first ∷ more) place first within in
    let count : length (drop (place + 1) (first ∷ more)) ≡ length (first ∷ more) - place - 1 =
    omega (arith, length-drop (place + 1) (first ∷ more)) in
    ap (pairs_of (drop (place + 1) (first ∷ more))) (new_is ∙ ap (plus old) (sym count))
    ∙ (sym (ap (λ left. pairs_of left old) split) ∙ so_far)

-- a rule more has been held against the limits
pub limits_step : (rules : List Weighed) (i : ℕ) (d : Weighed) (pred : ℕ) (tally before after : Tally) (old new whole : Option Fault)
    → i < length rules → before ≡ tally_of (get_or rules i d).pred pred tally → after ≡ with_rule before (get_or rules i d).amounts
    → new ≡ earliest_fault old (rule_limits (get_or rules i d).place before after)
    → earliest_fault old (limits_passed pred tally (drop i rules)) ≡ whole
    → earliest_fault new (limits_passed (get_or rules i d).pred after (drop (i + 1) rules)) ≡ whole
limits_step rules i d pred tally before after old new whole within before_is after_is new_is so_far =
    let weighed = get_or rules i d in
    let start = tally_of weighed.pred pred tally in
    let end = with_rule start weighed.amounts in
    let rest = limits_passed weighed.pred end (drop (i + 1) rules) in
    let after_end : after ≡ end = after_is ∙ ap (λ b. with_rule b weighed.amounts) before_is in
    let noted : new ≡ earliest_fault old (rule_limits weighed.place start end) =
    new_is ∙ (λ k. earliest_fault old (rule_limits weighed.place (before_is k) (after_end k))) in
    ap (λ a. earliest_fault new (limits_passed weighed.pred a (drop (i + 1) rules))) after_end
    ∙ (ap (λ f. earliest_fault f rest) noted
    ∙ (sym (earliest_append old (rule_limits weighed.place start end) rest)
    ∙ (sym (ap (λ left. earliest_fault old (limits_passed pred tally left)) (drop_more rules i d within)) ∙ so_far)))
