-- What the first argument of a test says of it.
use Rattle.std.specs.Prelude.{◌≡◌, ℤ, pos, Bool, IsTrue, IsFalse}
use Rattle.domain_core.specs.Domain.{Domain, Has, IsSingle}
use Rattle.narrow_core.specs.declared.tested.Verdict.{Verdict}
use Rattle.narrow_core.specs.declared.tested.Verdict.TheVariants.{Holds, Fails, Open}

-- it has a value that isn't 1
abbrev pub HasBesideOne : Domain → Type 0
HasBesideOne domain = (value : ℤ) × Has domain value × (value ≡ pos 1 → ⊥)

-- the domain, of which it is known whether it admits 1, says this of the test
abbrev pub SaysOf : Domain → Bool → Verdict → Type 0
SaysOf domain admits Holds = IsSingle domain (pos 1)
SaysOf domain admits Fails = IsFalse admits
SaysOf domain admits Open = IsTrue admits × HasBesideOne domain

-- 1 passes where the test may come true, and all else where it may come false
abbrev pub PassesTest : Bool → Bool → ℤ → Type 0
PassesTest may_hold may_fail value = (value ≡ pos 1 → IsTrue may_hold) × ((value ≡ pos 1 → ⊥) → IsTrue may_fail)
