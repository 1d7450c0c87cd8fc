-- Faults that are noted one after another.
use Rattle.std.proofs.Common.{◌≡◌, ℕ, ◌+◌, ◌<◌, List, ◌∷◌, ◌++◌, length, drop, get_or, map, Bor, sym, ◌∙◌, ap}
use Rattle.std.specs.Prelude.{Option, None}
use Rattle.std.proofs.lemmas.List.{drop_more}
use Rattle.nddl_ast.specs.declared.declaration.Decl.{Decl}
use Rattle.nddl_symbols.specs.declared.fault.Fault.{Fault}
use Rattle.nddl_symbols.specs.Finding.{earliest_fault}
use Rattle.nddl_symbols.specs.Scope.{second_name_faults}
use Rattle.nddl_symbols.proofs.Earliest.{earliest_append}
use Rattle.nddl_hierarchy.specs.Facts.{Facts}
use Rattle.nddl_hierarchy.specs.Lines.{circle_faults}
use Rattle.nddl_declarations.specs.Faults.{all_faults, decl_faults, decls_faults}

dropped : {X : Type 0} (xs : List X) (i : ℕ) (x : X) → i < length xs → x ≡ get_or xs i x → x ∷ drop (i + 1) xs ≡ drop i xs
dropped xs i x within is = ap (λ y. y ∷ drop (i + 1) xs) is ∙ sym (drop_more xs i x within)

-- one declaration more has been dealt with
pub decls_step : (facts : Facts) (decls : List (Bor Decl)) (i : ℕ) (decl : Bor Decl) (old new whole : Option Fault)
    → i < length decls → decl ≡ get_or decls i decl → new ≡ earliest_fault old (decl_faults facts i decl.now)
    → earliest_fault old (decls_faults facts i (map (λ one. one.now) (drop i decls))) ≡ whole
    → earliest_fault new (decls_faults facts (i + 1) (map (λ one. one.now) (drop (i + 1) decls))) ≡ whole
decls_step facts decls i decl old new whole within is noted so_far =
    let rest = decls_faults facts (i + 1) (map (λ (one : Bor Decl). one.now) (drop (i + 1) decls)) in
    ap (λ o. earliest_fault o rest) noted
    ∙ (sym (earliest_append old (decl_faults facts i decl.now) rest)
    ∙ (ap (λ left. earliest_fault old (decls_faults facts i (map (λ (one : Bor Decl). one.now) left))) (dropped decls i decl within is) ∙ so_far))

-- names, circles and declarations have been dealt with
pub all_step : (facts : Facts) (one two three : Option Fault)
    → one ≡ earliest_fault None (second_name_faults facts.names 0 facts.names)
    → two ≡ earliest_fault one (circle_faults facts.names facts.marked 0 facts.names)
    → three ≡ earliest_fault two (decls_faults facts 0 facts.program)
    → three ≡ earliest_fault None (all_faults facts)
all_step facts one two three one_is two_is three_is =
    let names = second_name_faults facts.names 0 facts.names in
    let circles = circle_faults facts.names facts.marked 0 facts.names in
    let decls = decls_faults facts 0 facts.program in
    three_is
    ∙ (ap (λ o. earliest_fault o decls) (two_is ∙ ap (λ o. earliest_fault o circles) one_is)
    ∙ (sym (earliest_append (earliest_fault None names) circles decls) ∙ sym (earliest_append None names (circles ++ decls))))
