use Rattle.std.proofs.Common.{◌≡◌, ℕ, suc, ◌+◌, List, ◌++◌, ap, ◌∙◌, append_assoc, arith}
use Rattle.problem_gen.specs.Generated.{goal_text, goals_before}

-- a further goal stands behind what there is of the text
pub next_goal : (count number : ℕ) (frame old goal new : List ℕ) → old ≡ frame ++ goals_before count number
    → goal ≡ goal_text count number → new ≡ old ++ goal → new ≡ frame ++ goals_before count (number + 1)
next_goal count number frame old goal new before is put =
    let next : suc number ≡ number + 1 = omega arith in
    put ∙ ap (λ text. text ++ goal) before ∙ ap (λ text. (frame ++ goals_before count number) ++ text) is
    ∙ append_assoc frame (goals_before count number) (goal_text count number)
    ∙ ap (λ below. frame ++ goals_before count below) next
