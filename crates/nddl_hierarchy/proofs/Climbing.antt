-- Lines, one thing after another.
use Rattle.std.proofs.Common.{◌≡◌, ℕ, zero, suc, ◌+◌, ◌-◌, ◌<◌, ◌≤◌, List, [], ◌∷◌, ◌++◌, refl, sym, ◌∙◌, ap, arith, append_assoc}
use Rattle.std.specs.Prelude.{Option, Some, None}
use Rattle.std.proofs.lemmas.List.{append-nil}
use Rattle.eu_forest.specs.Ancestors.{line_from, parent_in}

line_here : (levels : ℕ) (parents : List (Option ℕ)) (here : ℕ) → 0 < levels
    → line_from levels parents (Some here) ≡ here ∷ line_from (levels - 1) parents (parent_in parents here)
line_here zero parents here some = absurd (let never : ⊥ = omega arith in never)
line_here (suc levels) parents here some =
    let less : levels ≡ suc levels - 1 = omega arith in
    ap (λ n. here ∷ line_from n parents (parent_in parents here)) less

-- one thing more
pub line_step : (parents : List (Option ℕ)) (levels counter here : ℕ) (line out whole : List ℕ) → counter < levels
    → line ++ line_from (levels - counter) parents (Some here) ≡ whole → out ≡ line ++ here ∷ []
    → out ++ line_from (levels - (counter + 1)) parents (parent_in parents here) ≡ whole
line_step parents levels counter here line out whole below so_far is =
    let rest = line_from (levels - (counter + 1)) parents (parent_in parents here) in
    let less : levels - counter - 1 ≡ levels - (counter + 1) = omega arith in
    ap (λ o. o ++ rest) is
    ∙ (append_assoc line (here ∷ []) rest
    ∙ (ap (λ r. line ++ r)
    (sym (line_here (levels - counter) parents here (omega arith)
    ∙ ap (λ n. here ∷ line_from n parents (parent_in parents here)) less))
    ∙ so_far))

none_left : (levels : ℕ) (parents : List (Option ℕ)) → line_from levels parents None ≡ []
none_left zero parents = refl
none_left (suc levels) parents = refl

-- nothing goes on
pub line_none : (parents : List (Option ℕ)) (levels : ℕ) (line whole : List ℕ)
    → line ++ line_from levels parents None ≡ whole → line ≡ whole
line_none parents levels line whole so_far =
    sym (append-nil line) ∙ (ap (λ r. line ++ r) (sym (none_left levels parents)) ∙ so_far)

-- no levels are left
pub line_end : (parents : List (Option ℕ)) (levels counter : ℕ) (next : Option ℕ) (line whole : List ℕ) → levels ≤ counter
    → line ++ line_from (levels - counter) parents next ≡ whole → line ≡ whole
line_end parents levels counter next line whole past so_far =
    let none : 0 ≡ levels - counter = omega arith in
    sym (append-nil line) ∙ (ap (λ n. line ++ line_from n parents next) none ∙ so_far)
