-- Numbered things that are dealt with one after another, each from where the one before has led.
use Rattle.std.proofs.Common.{◌≡◌, ℕ, ◌+◌, ◌<◌, List, ◌∷◌, length, drop, get_or, sym, ◌∙◌, ap}
use Rattle.std.proofs.lemmas.List.{drop_more}

-- one thing more has been dealt with
pub going_step : {X P : Type 0} (f : ℕ → X → P → P) (all : ℕ → List X → P → P)
    → ((n : ℕ) (x : X) (xs : List X) (p : P) → all n (x ∷ xs) p ≡ all (n + 1) xs (f n x p))
    → (xs : List X) (i : ℕ) (x : X) (old new whole : P)
    → i < length xs → x ≡ get_or xs i x → new ≡ f i x old
    → all i (drop i xs) old ≡ whole → all (i + 1) (drop (i + 1) xs) new ≡ whole
going_step f all goes_on xs i x old new whole within is made so_far =
    ap (λ p. all (i + 1) (drop (i + 1) xs) p) made
    ∙ (sym (goes_on i x (drop (i + 1) xs) old)
    ∙ (ap (λ some. all i some old) (ap (λ y. y ∷ drop (i + 1) xs) is ∙ sym (drop_more xs i x within)) ∙ so_far))
