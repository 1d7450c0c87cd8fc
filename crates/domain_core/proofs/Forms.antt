-- What a call on one form of a domain leaves is what it leaves of the domain.
use Rattle.std.proofs.Common.{◌≡◌, ℤ, ◌≤ℤ◌, Bool, subst}
use Rattle.std.specs.Prelude.{IsTrue, ◌↔◌}
use Rattle.domain_core.specs.Domain.{Domain, Has, HaveCommon, IsTested}
use Rattle.domain_core.specs.Narrowing.{Keeps}
use Rattle.domain_core.specs.declared.Change.{Change}

pub keeps_same : (passes : ℤ → Type 0) (old new old_domain new_domain : Domain) (change answer : Change)
    → old ≡ old_domain → change ≡ answer → new ≡ new_domain → Keeps passes old change new → Keeps passes old_domain answer new_domain
keeps_same passes old new old_domain new_domain change answer p q r keeps =
    subst (λ d. Keeps passes d answer new_domain) p (subst (λ a. Keeps passes old a new_domain) q (subst (λ d. Keeps passes old change d) r keeps))

-- the same where the code has cast the numbers
pub between_same : (low high lo hi : ℤ) (old new : Domain) (change : Change) → low ≡ lo → high ≡ hi
    → Keeps (λ value. (low ≤ℤ value) × (value ≤ℤ high)) old change new → Keeps (λ value. (lo ≤ℤ value) × (value ≤ℤ hi)) old change new
between_same low high lo hi old new change p q keeps =
    subst (λ l. Keeps (λ value. (l ≤ℤ value) × (value ≤ℤ hi)) old change new) p (subst (λ h. Keeps (λ value. (low ≤ℤ value) × (value ≤ℤ h)) old change new) q keeps)

pub without_same : (x value : ℤ) (old new : Domain) (change : Change) → x ≡ value → Keeps (λ other. other ≡ x → ⊥) old change new → Keeps (λ other. other ≡ value → ⊥) old change new
without_same x value old new change p keeps = subst (λ v. Keeps (λ other. other ≡ v → ⊥) old change new) p keeps

-- the same where the other domain is known in another form
pub common_same : (one other old new : Domain) (change : Change) → one ≡ other → Keeps (Has one) old change new → Keeps (Has other) old change new
common_same one other old new change p keeps = subst (λ d. Keeps (Has d) old change new) p keeps

-- and what it answers of one form it answers of the domain
pub decided_same : (answer : Bool) (one other this that : Domain) → one ≡ this → other ≡ that → IsTrue answer ↔ HaveCommon one other → IsTrue answer ↔ HaveCommon this that
decided_same answer one other this that p q decided = subst (λ d. IsTrue answer ↔ HaveCommon this d) q (subst (λ d. IsTrue answer ↔ HaveCommon d other) p decided)

-- the same of whether the one's tested values are the other's
pub lies_same : (test : Type 0) (one other first second : Domain) → one ≡ first → other ≡ second
    → test ↔ ((value : ℤ) → IsTested one value → Has other value) → test ↔ ((value : ℤ) → IsTested first value → Has second value)
lies_same test one other first second is also decides =
    subst (λ domain. test ↔ ((value : ℤ) → IsTested first value → Has domain value)) also
    (subst (λ domain. test ↔ ((value : ℤ) → IsTested domain value → Has other value)) is decides)
