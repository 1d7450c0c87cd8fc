-- Laws of the words on domains, for whoever doesn't look at how a domain is kept.
use Rattle.std.proofs.Common.{◌≡◌, ℕ, zero, suc, ◌+◌, ◌-◌, ◌<◌, ◌≤◌, length, get_or, ℤ, pos, ◌<ℤ◌, inl, inr, refl, sym, ap, arith}
use Rattle.std.proofs.lemmas.Int.{ints}
use Rattle.std.proofs.lemmas.List.Elements.{All-contains, Contains-get_or}
use borrow.Author.Differences.{up, down}
use Rattle.domain_core.specs.Domain.{Domain, Range, Set, IsDomain, IsValue, Has, least, greatest, IsSameKind, IsTested, IsBetweenEnds, IsWithin, IsSingle, slack, count_of, IsNth}
use Rattle.domain_core.proofs.Ascending.{ascending_le, stands_at, fewer, all_of_them, same_ascending}

-- ---- the ends

pub has_least : (domain : Domain) → IsDomain domain → Has domain (least domain)
has_least (Range lo hi) ok = (omega (arith, ints), ok.2)
has_least (Set members) ok = Contains-get_or members 0 (pos 0) ok.some

pub has_greatest : (domain : Domain) → IsDomain domain → Has domain (greatest domain)
has_greatest (Range lo hi) ok = (ok.2, omega (arith, ints))
has_greatest (Set members) ok = Contains-get_or members (length members - 1) (pos 0) (omega (arith, ok.some))

pub between_ends : (domain : Domain) (value : ℤ) → IsDomain domain → Has domain value → IsBetweenEnds domain value
between_ends (Range lo hi) value ok has = has
between_ends (Set members) value ok has =
    let at = stands_at members value has (pos 0) in
    let above = ascending_le members ok.ascending 0 has.0 (pos 0) (omega arith) has.1 in
    let below = ascending_le members ok.ascending has.0 (length members - 1) (pos 0) (omega (arith, has.1)) (omega (arith, has.1)) in
    (omega (arith, ints, above, at), omega (arith, ints, below, at))

-- each value of a domain is one of all values
pub has_value : (domain : Domain) (value : ℤ) → IsDomain domain → Has domain value → IsValue value
has_value (Range lo hi) value ok has = (omega (arith, ints, ok.0.0, has.0), omega (arith, ints, ok.1.1, has.1))
has_value (Set members) value ok has = All-contains IsValue members value ok.values has

pub least_is_value : (domain : Domain) → IsDomain domain → IsValue (least domain)
least_is_value domain ok = has_value domain (least domain) ok (has_least domain ok)

pub greatest_is_value : (domain : Domain) → IsDomain domain → IsValue (greatest domain)
greatest_is_value domain ok = has_value domain (greatest domain) ok (has_greatest domain ok)

-- the ends are tested
pub tested_least : (domain : Domain) → IsDomain domain → IsTested domain (least domain)
tested_least (Range lo hi) ok = inl refl
tested_least (Set members) ok = has_least (Set members) ok

pub tested_greatest : (domain : Domain) → IsDomain domain → IsTested domain (greatest domain)
tested_greatest (Range lo hi) ok = inr refl
tested_greatest (Set members) ok = has_greatest (Set members) ok

-- what is tested is a value of the domain
pub has_tested : (domain : Domain) (value : ℤ) → IsDomain domain → IsTested domain value → Has domain value
has_tested (Range lo hi) value ok (inl at_lo) = (omega (arith, ints), omega (arith, ints, ok.2))
has_tested (Range lo hi) value ok (inr at_hi) = (omega (arith, ints, ok.2), omega (arith, ints))
has_tested (Set members) value ok tested = tested

-- ---- within

pub IsSameKind-refl : (domain : Domain) → IsSameKind domain domain
IsSameKind-refl (Range lo hi) = tt
IsSameKind-refl (Set members) = tt

pub IsSameKind-sym : (one other : Domain) → IsSameKind one other → IsSameKind other one
IsSameKind-sym (Range lo hi) (Range low high) same = tt
IsSameKind-sym (Set members) (Set others) same = tt
IsSameKind-sym (Range lo hi) (Set others) same = absurd same
IsSameKind-sym (Set members) (Range low high) same = absurd same

pub IsSameKind-trans : (one other third : Domain) → IsSameKind one other → IsSameKind other third → IsSameKind one third
IsSameKind-trans (Range lo hi) (Range low high) third p q = q
IsSameKind-trans (Set members) (Set others) third p q = q
IsSameKind-trans (Range lo hi) (Set others) third p q = absurd p
IsSameKind-trans (Set members) (Range low high) third p q = absurd p

pub IsWithin-refl : (domain : Domain) → IsWithin domain domain
IsWithin-refl domain = record { kind = IsSameKind-refl domain; values = λ value has. has }

pub IsWithin-trans : (inner middle outer : Domain) → IsWithin inner middle → IsWithin middle outer → IsWithin inner outer
IsWithin-trans inner middle outer p q = record {
  kind = IsSameKind-trans inner middle outer p.kind q.kind;
  values = λ value has. q.values value (p.values value has);
}

-- domains within each other are equal
pub IsWithin-antisym : (a b : Domain) → IsDomain a → IsDomain b → IsWithin a b → IsWithin b a → a ≡ b
IsWithin-antisym (Range a_lo a_hi) (Range b_lo b_hi) a_ok b_ok p q =
    let a_in_b = p.values a_lo (has_least (Range a_lo a_hi) a_ok) in
    let a_in_b' = p.values a_hi (has_greatest (Range a_lo a_hi) a_ok) in
    let b_in_a = q.values b_lo (has_least (Range b_lo b_hi) b_ok) in
    let b_in_a' = q.values b_hi (has_greatest (Range b_lo b_hi) b_ok) in
    let same_lo : a_lo ≡ b_lo = omega (arith, ints, a_in_b.0, b_in_a.0) in
    let same_hi : a_hi ≡ b_hi = omega (arith, ints, a_in_b'.1, b_in_a'.1) in
    (λ i. Range (same_lo i) (same_hi i))
IsWithin-antisym (Set a) (Set b) a_ok b_ok p q = ap Set (same_ascending a b a_ok.ascending b_ok.ascending p.values q.values)
IsWithin-antisym (Range a_lo a_hi) (Set b) a_ok b_ok p q = absurd p.kind
IsWithin-antisym (Set a) (Range b_lo b_hi) a_ok b_ok p q = absurd p.kind

-- ---- slack

pub slack_within : (inner outer : Domain) → IsDomain inner → IsDomain outer → IsWithin inner outer → slack inner ≤ slack outer
slack_within (Range a_lo a_hi) (Range b_lo b_hi) a_ok b_ok p =
    let lower = p.values a_lo (has_least (Range a_lo a_hi) a_ok) in
    let upper = p.values a_hi (has_greatest (Range a_lo a_hi) a_ok) in
    omega (arith, ints, lower.0, upper.1)
slack_within (Set a) (Set b) a_ok b_ok p = omega (arith, fewer a b a_ok.ascending b_ok.ascending p.values)
slack_within (Range a_lo a_hi) (Set b) a_ok b_ok p = absurd p.kind
slack_within (Set a) (Range b_lo b_hi) a_ok b_ok p = absurd p.kind

-- no value has gone where the slack is as before
pub same_slack : (inner outer : Domain) → IsDomain inner → IsDomain outer → IsWithin inner outer → slack outer ≤ slack inner → inner ≡ outer
same_slack (Range a_lo a_hi) (Range b_lo b_hi) a_ok b_ok p le =
    let lower = p.values a_lo (has_least (Range a_lo a_hi) a_ok) in
    let upper = p.values a_hi (has_greatest (Range a_lo a_hi) a_ok) in
    let same_lo : a_lo ≡ b_lo = omega (arith, ints, lower.0, upper.1, le, a_ok.2, b_ok.2) in
    let same_hi : a_hi ≡ b_hi = omega (arith, ints, lower.0, upper.1, le, a_ok.2, b_ok.2) in
    (λ i. Range (same_lo i) (same_hi i))
same_slack (Set a) (Set b) a_ok b_ok p le = ap Set (all_of_them a b a_ok.ascending b_ok.ascending p.values (omega (arith, le, a_ok.some, b_ok.some)))
same_slack (Range a_lo a_hi) (Set b) a_ok b_ok p le = absurd p.kind
same_slack (Set a) (Range b_lo b_hi) a_ok b_ok p le = absurd p.kind

-- ---- single values

pub single_least : (domain : Domain) (value : ℤ) → IsDomain domain → IsSingle domain value → least domain ≡ value
single_least domain value ok single = single.only (least domain) (has_least domain ok)

pub single_greatest : (domain : Domain) (value : ℤ) → IsDomain domain → IsSingle domain value → greatest domain ≡ value
single_greatest domain value ok single = single.only (greatest domain) (has_greatest domain ok)

-- where the ends are equal, there is no other value
pub single_from_ends : (domain : Domain) → IsDomain domain → least domain ≡ greatest domain → IsSingle domain (least domain)
single_from_ends domain ok same = record {
  has = has_least domain ok;
  only = λ other has. let ends = between_ends domain other ok has in omega (arith, ints, ends.0, ends.1, same);
}

-- no slack is a single value
pub ends_from_slack : (domain : Domain) → IsDomain domain → slack domain ≡ 0 → least domain ≡ greatest domain
ends_from_slack (Range lo hi) ok none = omega (arith, ints, ok.2, none)
ends_from_slack (Set members) ok none = ap (λ k. get_or members k (pos 0)) (sym none)

pub slack_from_ends : (domain : Domain) → IsDomain domain → least domain ≡ greatest domain → slack domain ≡ 0
slack_from_ends (Range lo hi) ok same = omega (arith, ints, same)
slack_from_ends (Set members) ok same = from_places (length members - 1) refl
  where
    from_places : (last : ℕ) → last ≡ length members - 1 → last ≡ 0
    from_places zero e = refl
    from_places (suc k) e =
        let less = ok.ascending 0 (suc k) (pos 0) (omega arith) (omega (arith, e, ok.some)) in
        let top = ap (λ place. get_or members place (pos 0)) e in
        absurd (omega (arith, ints, less, same, top))

-- ---- places

-- each value has its place
pub place_of : (domain : Domain) (value : ℤ) → IsDomain domain → Has domain value → (place : ℕ) × (place < count_of domain) × IsNth domain place value
place_of (Range lo hi) value ok has = ((up value + down lo) - (up lo + down value), omega (arith, ints, has.0, has.1), (omega (arith, ints, has.0), has.1))
place_of (Set members) value ok has = (has.0, omega (arith, has.1), (has.1, has.2))

-- and each place a value
pub at_place : (domain : Domain) (place : ℕ) (value : ℤ) → IsDomain domain → IsNth domain place value → Has domain value × (place < count_of domain)
at_place (Range lo hi) place value ok nth = ((omega (arith, ints, nth.0), nth.1), omega (arith, ints, nth.0, nth.1))
at_place (Set members) place value ok nth = ((place, nth.0, nth.1), omega (arith, nth.0))

-- values ascend with their places
pub places_rise : (domain : Domain) (place later : ℕ) (value other : ℤ) → IsDomain domain → place < later → IsNth domain place value → IsNth domain later other → value <ℤ other
places_rise (Range lo hi) place later value other ok before p q = omega (arith, ints, p.0, q.0)
places_rise (Set members) place later value other ok before p q =
    let less = ok.ascending place later (pos 0) before q.0 in
    let here = stands_at members value (place, p.0, p.1) (pos 0) in
    let there = stands_at members other (later, q.0, q.1) (pos 0) in
    omega (arith, ints, less, here, there)
