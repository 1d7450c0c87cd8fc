-- Where a constraint is consistent in single values, it holds of them.
use Rattle.std.proofs.Common.{◌≡◌, ℤ, List, [], ◌∷◌, ◌++◌, inl, refl, subst, arith}
use Rattle.std.proofs.lemmas.Int.{ints}
use Rattle.std.specs.List.{AllZip}
use Rattle.domain_core.specs.Domain.{Domain, Range, Has, IsDomain, IsSingle, IsTested, least, greatest}
use Rattle.domain_core.proofs.Words.{single_least, single_greatest, tested_least}
use Rattle.domain_core.specs.Consistency.{Reach, Values, Ends, Admits, AreConsistent}

-- the domain has this value alone
pub record IsPinned (domain : Domain) (value : ℤ) : Type 0 where
  pub only : (other : ℤ) → Has domain other → other ≡ value
  pub low : least domain ≡ value
  pub high : greatest domain ≡ value
  pub tested : IsTested domain value

pub pinned_value : (value : ℤ) → IsPinned (Range value value) value
pinned_value value = record { only = λ other has. omega (arith, ints, has.0, has.1); low = refl; high = refl; tested = inl refl }

pub pinned_domain : (domain : Domain) (value : ℤ) → IsDomain domain → IsSingle domain value → IsPinned domain value
pinned_domain domain value ok single =
    let low = single_least domain value ok single in
    record {
      only = single.only;
      low = low;
      high = single_greatest domain value ok single;
      tested = subst (λ v. IsTested domain v) low (tested_least domain ok);
    }

admitted : (reach : Reach) (domain : Domain) (value other : ℤ) → IsPinned domain value → Admits reach domain other → other ≡ value
admitted Values domain value other pinned is = pinned.only other is
admitted Ends domain value other pinned is = omega (arith, ints, pinned.low, pinned.high, is.0, is.1)

all_admitted : (reach : Reach) (domains : List Domain) (values others : List ℤ) → AllZip IsPinned domains values → AllZip (Admits reach) domains others → others ≡ values
all_admitted reach [] [] [] pinned is = refl
all_admitted reach [] [] (other ∷ others) pinned is = absurd is
all_admitted reach [] (value ∷ values) others pinned is = absurd pinned
all_admitted reach (domain ∷ domains) [] others pinned is = absurd pinned
all_admitted reach (domain ∷ domains) (value ∷ values) [] pinned is = absurd is
all_admitted reach (domain ∷ domains) (value ∷ values) (other ∷ others) pinned is =
    let head : other ≡ value = admitted reach domain value other pinned.0 is.0 in
    let tail : others ≡ values = all_admitted reach domains values others pinned.1 is.1 in
    cc

none_left : (reach : Reach) (left : List ℤ) → AllZip (Admits reach) [] left → left ≡ []
none_left reach [] is = refl
none_left reach (value ∷ left) is = absurd is

pub pinned_holds : (reach : Reach) (holds : List ℤ → Type 0) (domain : Domain) (domains : List Domain) (value : ℤ) (values : List ℤ)
    → IsPinned domain value → AllZip IsPinned domains values → AreConsistent reach holds (domain ∷ domains) → holds (value ∷ values)
pinned_holds reach holds domain domains value values first rest consistent =
    let found = consistent [] domain domains value refl first.tested in
    let left = none_left reach found.0 found.2 in
    let right = all_admitted reach domains values found.1 rest found.3 in
    subst (λ (list : List ℤ). holds (list ++ value ∷ values)) left (subst (λ (list : List ℤ). holds (found.0 ++ value ∷ list)) right found.4)
