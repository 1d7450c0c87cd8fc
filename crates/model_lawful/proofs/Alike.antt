-- When domains are one.
use Rattle.std.proofs.Common.{◌≡◌, ℤ, inl, inr, refl, subst, arith}
use Rattle.std.proofs.lemmas.Int.{ints}
use Rattle.domain_core.specs.Domain.{Domain, Range, Set, IsDomain, IsRange, IsSameKind, IsTested, IsWithin, Has}
use Rattle.domain_core.proofs.Words.{IsSameKind-refl, IsSameKind-sym, IsWithin-antisym, has_tested}
use Rattle.model_lawful.specs.Alike.{LieInEachOther}

pub range_form : (one other : Domain) → IsRange one → IsRange other → IsSameKind one other
range_form (Range lo hi) (Range low high) one two = tt
range_form (Range lo hi) (Set members) one two = absurd two
range_form (Set members) other one two = absurd one

pub form_range : (one other : Domain) → IsRange one → IsSameKind one other → IsRange other
form_range (Range lo hi) (Range low high) one same = tt
form_range (Range lo hi) (Set members) one same = absurd same
form_range (Set members) other one same = absurd one

pub set_form : (one other : Domain) → (IsRange one → ⊥) → (IsRange other → ⊥) → IsSameKind one other
set_form (Range lo hi) other one two = absurd (one tt)
set_form (Set members) (Range low high) one two = absurd (two tt)
set_form (Set members) (Set others) one two = tt

pub form_set : (one other : Domain) → (IsRange one → ⊥) → IsSameKind one other → IsRange other → ⊥
form_set (Range lo hi) other one same two = absurd (one tt)
form_set (Set members) (Range low high) one same two = absurd same
form_set (Set members) (Set others) one same two = two

within_tested : (one other : Domain) → IsSameKind one other → ((value : ℤ) → IsTested one value → Has other value) → IsWithin one other
within_tested (Range lo hi) (Range low high) same tested = record {
  kind = tt;
  values = λ value has. (let first = tested lo (inl refl) in let last = tested hi (inr refl) in (omega (arith, ints, first, has), omega (arith, ints, last, has)));
}
within_tested (Range lo hi) (Set members) same tested = absurd same
within_tested (Set members) (Range low high) same tested = absurd same
within_tested (Set members) (Set others) same tested = record { kind = tt; values = tested }

pub alike_same : (one other : Domain) → IsDomain one → IsDomain other → LieInEachOther one other → one ≡ other
alike_same one other lawful lawful' alike =
    IsWithin-antisym one other lawful lawful' (within_tested one other alike.form alike.inside) (within_tested other one (IsSameKind-sym one other alike.form) alike.outside)

pub same_alike : (one other : Domain) → IsDomain one → one ≡ other → LieInEachOther one other
same_alike one other lawful same = subst (LieInEachOther one) same (record {
  form = IsSameKind-refl one;
  inside = λ value tested. has_tested one value lawful tested;
  outside = λ value tested. has_tested one value lawful tested;
})
