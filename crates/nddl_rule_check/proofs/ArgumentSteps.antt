-- Faults that are noted one after another.
use Rattle.std.proofs.Common.{◌≡◌, ℕ, ◌+◌, ◌<◌, List, ◌∷◌, length, drop, get_or, sym, ◌∙◌, ap}
use Rattle.std.specs.Prelude.{Option, Bool, true, false, ◌&&◌, ◌||◌}
use Rattle.std.proofs.lemmas.List.{drop_more}
use Rattle.domain_core.specs.declared.kind.Kind.{Kind}
use Rattle.nddl_ast.specs.declared.expression.Expr.{Expr}
use Rattle.nddl_symbols.specs.declared.fault.Fault.{Fault}
use Rattle.nddl_symbols.specs.Finding.{earliest_fault}
use Rattle.nddl_symbols.proofs.Earliest.{earliest_append}
use Rattle.nddl_typeexpr.specs.declared.kind.TypeKind.{TypeKind}
use Rattle.nddl_hierarchy.specs.Facts.{Facts}
use Rattle.nddl_resolve.specs.declared.denoted.Denoted.{Denoted}
use Rattle.nddl_ast.specs.declared.name.Name.{Name}
use Rattle.nddl_ast.specs.declared.name.Path.{Path}
use Rattle.nddl_resolve.specs.Paths.{Surroundings, path_denoted}
use Rattle.nddl_resolve.specs.Following.{Understood}
use Rattle.nddl_rule_check.specs.Calls.{no_act_faults}
use Rattle.nddl_rule_check.specs.declared.asked.Asked.{Asked}
use Rattle.nddl_rule_check.specs.Arguments.{are_decimals, argument_faults, arguments_faults, meant_by}
use Rattle.nddl_rule_check.specs.Constraints.{is_compared_at}
use Rattle.nddl_rule_check.specs.Values.{compared_with, is_decimal}

-- the item that is read, and those behind it
dropped : {X : Type 0} (xs : List X) (i : ℕ) (x : X) → i < length xs → x ≡ get_or xs i x → x ∷ drop (i + 1) xs ≡ drop i xs
dropped xs i x within is = ap (λ y. y ∷ drop (i + 1) xs) is ∙ sym (drop_more xs i x within)

-- one argument more has been dealt with
pub arguments_step : (facts : Facts) (around : Surroundings) (decl : ℕ) (asking : ℕ → Asked) (exprs : List Expr) (i : ℕ) (expr : Expr)
    (asks : Asked) (meant : Denoted) (compared next : Option TypeKind) (old new whole : Option Fault)
    → i < length exprs → expr ≡ get_or exprs i expr → asks ≡ asking i → meant ≡ meant_by facts around expr
    → next ≡ compared_with asks compared meant → new ≡ earliest_fault old (argument_faults facts around decl asks compared expr)
    → earliest_fault old (arguments_faults facts around decl asking i compared (drop i exprs)) ≡ whole
    → earliest_fault new (arguments_faults facts around decl asking (i + 1) next (drop (i + 1) exprs)) ≡ whole
arguments_step facts around decl asking exprs i expr asks meant compared next old new whole within is asks_is meant_is next_is noted so_far =
    let behind = λ (more : Option TypeKind). arguments_faults facts around decl asking (i + 1) more (drop (i + 1) exprs) in
    let further = compared_with (asking i) compared (meant_by facts around expr) in
    ap (λ more. earliest_fault new (behind more))
    (next_is ∙ (ap (λ m. compared_with asks compared m) meant_is ∙ ap (λ a. compared_with a compared (meant_by facts around expr)) asks_is))
    ∙ (ap (λ o. earliest_fault o (behind further))
    (noted ∙ ap (λ a. earliest_fault old (argument_faults facts around decl a compared expr)) asks_is)
    ∙ (sym (earliest_append old (argument_faults facts around decl (asking i) compared expr) (behind further))
    ∙ (ap (λ left. earliest_fault old (arguments_faults facts around decl asking i compared left)) (dropped exprs i expr within is) ∙ so_far)))

-- one argument more isn't compared, or no decimal
pub decimals_step : (facts : Facts) (around : Surroundings) (kind : Kind) (exprs : List Expr) (i : ℕ) (expr : Expr) (whole : Bool)
    → i < length exprs → expr ≡ get_or exprs i expr → (is_compared_at kind i && is_decimal (meant_by facts around expr)) ≡ false
    → are_decimals facts around kind i (drop i exprs) ≡ whole → are_decimals facts around kind (i + 1) (drop (i + 1) exprs) ≡ whole
decimals_step facts around kind exprs i expr whole within is none so_far =
    sym (ap (λ b. b || are_decimals facts around kind (i + 1) (drop (i + 1) exprs)) none)
    ∙ (ap (are_decimals facts around kind i) (dropped exprs i expr within is) ∙ so_far)

-- it is a decimal that is compared
pub decimals_found : (facts : Facts) (around : Surroundings) (kind : Kind) (exprs : List Expr) (i : ℕ) (expr : Expr) (whole : Bool)
    → i < length exprs → expr ≡ get_or exprs i expr → (is_compared_at kind i && is_decimal (meant_by facts around expr)) ≡ true
    → are_decimals facts around kind i (drop i exprs) ≡ whole → true ≡ whole
decimals_found facts around kind exprs i expr whole within is one so_far =
    sym (ap (λ b. b || are_decimals facts around kind (i + 1) (drop (i + 1) exprs)) one)
    ∙ (ap (are_decimals facts around kind i) (dropped exprs i expr within is) ∙ so_far)

-- an act has been dealt with, behind what stands before it
pub acted : (facts : Facts) (around : Surroundings) (decl : ℕ) (act : Name) (front path : Path) (found : Understood) (old new : Option Fault)
    → new ≡ earliest_fault old (no_act_faults decl act found) → found ≡ path_denoted facts around front → front ≡ path
    → new ≡ earliest_fault old (no_act_faults decl act (path_denoted facts around path))
acted facts around decl act front path found old new noted found_is front_is =
    noted ∙ ap (λ f. earliest_fault old (no_act_faults decl act f)) (found_is ∙ ap (path_denoted facts around) front_is)
