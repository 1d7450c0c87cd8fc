-- Faults of numbered things that are noted one after another.
use Rattle.std.proofs.Common.{◌≡◌, ℕ, ◌+◌, ◌<◌, List, ◌∷◌, ◌++◌, length, drop, get_or, sym, ◌∙◌, ap}
use Rattle.std.specs.Prelude.{Option}
use Rattle.std.proofs.lemmas.List.{drop_more}
use Rattle.nddl_symbols.specs.declared.fault.Fault.{Fault}
use Rattle.nddl_symbols.specs.Finding.{earliest_fault}
use Rattle.nddl_symbols.proofs.Earliest.{earliest_append}

-- one thing more has been dealt with
pub numbered_step : {X : Type 0} (f : ℕ → X → List Fault) (all : ℕ → List X → List Fault)
    → ((n : ℕ) (x : X) (xs : List X) → all n (x ∷ xs) ≡ f n x ++ all (n + 1) xs)
    → (xs : List X) (i : ℕ) (x : X) (old new whole : Option Fault)
    → i < length xs → x ≡ get_or xs i x → new ≡ earliest_fault old (f i x)
    → earliest_fault old (all i (drop i xs)) ≡ whole → earliest_fault new (all (i + 1) (drop (i + 1) xs)) ≡ whole
numbered_step f all goes_on xs i x old new whole within is noted so_far =
    let rest = all (i + 1) (drop (i + 1) xs) in
    ap (λ o. earliest_fault o rest) noted
    ∙ (sym (earliest_append old (f i x) rest)
    ∙ (ap (earliest_fault old) (sym (goes_on i x (drop (i + 1) xs)))
    ∙ (ap (λ some. earliest_fault old (all i some)) (ap (λ y. y ∷ drop (i + 1) xs) is ∙ sym (drop_more xs i x within)) ∙ so_far)))
