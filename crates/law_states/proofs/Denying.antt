-- What can't be denied: that something is so or isn't, also of each of finitely many things.
use Rattle.std.proofs.Common.{inl, inr, List, [], ◌∷◌, subst}
use Rattle.std.specs.Prelude.{Contains}
use Rattle.eu_name.proofs.Ordered.{contains_cases, contains_none}
use Rattle.plan_defs.proofs.Knowing.{IsOrNot}
use Rattle.law_states.specs.Undeniable.{Undeniable}

-- something is so, or it isn't
pub is_or_not : (P : Type 0) → Undeniable (IsOrNot P)
is_or_not P none = none (inr (λ is. none (inl is)))

told_more : {X : Type 0} (P : X → Type 0) (first : X) (xs : List X) → IsOrNot (P first) → ((x : X) → Contains xs x → IsOrNot (P x))
    → (x : X) → Contains (first ∷ xs) x → IsOrNot (P x)
told_more P first xs head rest x there = elim (contains_cases first x xs there) [
  | inl same ↦ subst (λ z. IsOrNot (P z)) same head
  | inr later ↦ rest x later
]

-- it is so of each item of a list, or it isn't
pub each_is_or_not : {X : Type 0} (P : X → Type 0) (xs : List X) → Undeniable ((x : X) → Contains xs x → IsOrNot (P x))
each_is_or_not P [] none = none (λ x there. absurd (contains_none x there))
each_is_or_not P (first ∷ xs) none =
    is_or_not (P first) (λ head. each_is_or_not P xs (λ rest. none (told_more P first xs head rest)))
