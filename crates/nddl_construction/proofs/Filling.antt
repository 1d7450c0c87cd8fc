-- Lists that are made of numbered things, one after another.
use Rattle.std.proofs.Common.{◌≡◌, ℕ, ◌+◌, ◌<◌, List, [], ◌∷◌, ◌++◌, length, drop, get_or, sym, ◌∙◌, ap, append_assoc}
use Rattle.std.proofs.lemmas.List.{drop_more}

-- one thing more has been dealt with
pub numbered_fill : {X Y : Type 0} (f : ℕ → X → Y) (all : ℕ → List X → List Y)
    → ((n : ℕ) (x : X) (xs : List X) → all n (x ∷ xs) ≡ f n x ∷ all (n + 1) xs)
    → (xs : List X) (i : ℕ) (x : X) (old new whole : List Y) (y : Y)
    → i < length xs → x ≡ get_or xs i x → y ≡ f i x → new ≡ old ++ y ∷ []
    → old ++ all i (drop i xs) ≡ whole → new ++ all (i + 1) (drop (i + 1) xs) ≡ whole
numbered_fill f all goes_on xs i x old new whole y within is made pushed so_far =
    let rest = all (i + 1) (drop (i + 1) xs) in
    ap (λ some. some ++ rest) pushed
    ∙ (append_assoc old (y ∷ []) rest
    ∙ (ap (λ z. old ++ z ∷ rest) made
    ∙ (ap (λ some. old ++ some) (sym (goes_on i x (drop (i + 1) xs)))
    ∙ (ap (λ some. old ++ all i some) (ap (λ z. z ∷ drop (i + 1) xs) is ∙ sym (drop_more xs i x within)) ∙ so_far))))
