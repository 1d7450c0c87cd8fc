use Rattle.std.proofs.Common.{◌≡◌, ℕ, ◌<◌, List, Bor, get_or, map}
use Rattle.eu_name.proofs.word.is_among.Given as goal

-- the words before this one are others
abbrev pub invariant-loop-other : goal.invariant-loop-other
invariant-loop-other l = (k : ℕ) → k < l.other-index → (get_or (map (λ (other : Bor (List ℕ)). other.now) l.words) k l.word ≡ l.word → ⊥)
