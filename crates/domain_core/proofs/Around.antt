-- A range that is met with a set: the least range around the members between its ends.
use Rattle.std.proofs.Common.{◌≡◌, ℕ, ◌-◌, ◌<◌, List, get_or, ℤ, pos, ◌≤ℤ◌, ⊎_elim, inl, inr, sym, subst, arith}
use Rattle.std.specs.Prelude.{Contains}
use Rattle.std.proofs.lemmas.Bool.{cases_lt}
use Rattle.std.proofs.lemmas.Int.{ints}
use Rattle.std.proofs.lemmas.List.Elements.{Contains-get_or}
use Rattle.domain_core.specs.Domain.{Domain, Range, Set, Has, IsDomain, IsTested, AreAscending}
use Rattle.domain_core.specs.Narrowing.{IsLeft, Keeps}
use Rattle.domain_core.specs.declared.Change.{Change}
use Rattle.domain_core.specs.declared.Change.TheVariants.{Same, Smaller, Empty}
use Rattle.domain_core.proofs.Ascending.{ascending_le, stands_at}
use Rattle.domain_core.proofs.Parts.{Bounds}

-- a range that is met with the first and the last of its values that pass is the least range around those
pub met_around : (passes : ℤ → Type 0) (lo hi first last : ℤ) (change : Change) (new : Domain)
    → lo ≤ℤ first → last ≤ℤ hi → first ≤ℤ last → passes first → passes last
    → ((value : ℤ) → Has (Range lo hi) value → passes value → (first ≤ℤ value) × (value ≤ℤ last))
    → IsDomain new → Keeps (λ value. (first ≤ℤ value) × (value ≤ℤ last)) (Range lo hi) change new → Keeps passes (Range lo hi) change new
met_around passes lo hi first last Same new p q ordered at_first at_last outside is_domain keeps = (keeps.0, tested)
  where
    tested : (value : ℤ) → IsTested (Range lo hi) value → passes value
    tested value (inl at_lo) =
        let ends = keeps.1 value (inl at_lo) in
        let same : first ≡ value = omega (arith, ints, p, at_lo, ends.0) in
        subst passes same at_first
    tested value (inr at_hi) =
        let ends = keeps.1 value (inr at_hi) in
        let same : last ≡ value = omega (arith, ints, q, at_hi, ends.1) in
        subst passes same at_last
met_around passes lo hi first last Smaller new p q ordered at_first at_last outside is_domain keeps = (
  record {
    within = keeps.0.within;
    kept = λ value has pass. keeps.0.kept value has (outside value has pass);
    tested = tested new is_domain keeps.0;
  },
  keeps.1,
)
  where
    tested : (new : Domain) → IsDomain new → IsLeft (λ value. (first ≤ℤ value) × (value ≤ℤ last)) (Range lo hi) new → (value : ℤ) → IsTested new value → passes value
    tested (Range new_lo new_hi) ok left value (inl at_lo) =
        let ends = left.tested value (inl at_lo) in
        let lower = left.kept first (omega (arith, ints), omega (arith, ints)) (omega (arith, ints), ordered) in
        let same : first ≡ value = omega (arith, ints, at_lo, ends.0, lower.0) in
        subst passes same at_first
    tested (Range new_lo new_hi) ok left value (inr at_hi) =
        let ends = left.tested value (inr at_hi) in
        let upper = left.kept last (omega (arith, ints), omega (arith, ints)) (ordered, omega (arith, ints)) in
        let same : last ≡ value = omega (arith, ints, at_hi, ends.1, upper.1) in
        subst passes same at_last
    tested (Set members) ok left value at = absurd left.within.kind
met_around passes lo hi first last Empty new p q ordered at_first at_last outside is_domain keeps =
    absurd (keeps.1 first (omega (arith, ints), omega (arith, ints)) (omega (arith, ints), ordered))

-- the first and the last member between the ends are such values
pub around_members : (members : List ℤ) (lo hi first last : ℤ) (from end : ℕ) (change : Change) (new : Domain)
    → AreAscending members → Bounds members lo hi from end → from < end
    → first ≡ get_or members from (pos 0) → last ≡ get_or members (end - 1) (pos 0)
    → IsDomain new → Keeps (λ value. (first ≤ℤ value) × (value ≤ℤ last)) (Range lo hi) change new → Keeps (Contains members) (Range lo hi) change new
around_members members lo hi first last from end change new ascending bounds some first_is last_is is_domain keeps =
    let low = bounds.above_lo from (pos 0) (omega arith) (omega (arith, bounds.bound)) in
    let high = bounds.upto (end - 1) (pos 0) (omega arith) (omega arith) in
    let rise = ascending_le members ascending from (end - 1) (pos 0) (omega arith) (omega (arith, bounds.bound)) in
    met_around (Contains members) lo hi first last change new (omega (arith, ints, low, first_is)) (omega (arith, ints, high, last_is)) (omega (arith, ints, rise, first_is, last_is))
    (subst (Contains members) (sym first_is) (Contains-get_or members from (pos 0) (omega (arith, bounds.bound))))
    (subst (Contains members) (sym last_is) (Contains-get_or members (end - 1) (pos 0) (omega (arith, bounds.bound))))
    outside is_domain keeps
  where
    outside : (value : ℤ) → Has (Range lo hi) value → Contains members value → (first ≤ℤ value) × (value ≤ℤ last)
    outside value has member =
        let at = stands_at members value member (pos 0) in
        ⊎_elim
        (λ before. let less = bounds.below member.0 value (omega arith) before in absurd (omega (arith, ints, less, member.2, has.0)))
        (λ after.
        ⊎_elim
        (λ inside.
        let up = ascending_le members ascending from member.0 (pos 0) after member.1 in
        let down = ascending_le members ascending member.0 (end - 1) (pos 0) (omega arith) (omega (arith, bounds.bound)) in
        (omega (arith, ints, up, at, first_is), omega (arith, ints, down, at, last_is)))
        (λ past. let more = bounds.above member.0 value past member.1 in absurd (omega (arith, ints, more, member.2, has.1)))
        (cases_lt member.0 end))
        (cases_lt member.0 from)
