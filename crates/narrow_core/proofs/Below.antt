-- Lists of domains that lie in each other, and what they support.
use Rattle.std.proofs.Common.{◌≡◌, ℤ, List, [], ◌∷◌, ◌++◌, refl, sym, ap, ◌∙◌, subst, arith}
use Rattle.std.specs.Prelude.{All}
use Rattle.std.specs.List.{AllZip}
use Rattle.std.proofs.lemmas.List.Elements.{All-head, All-tail}
use Rattle.std.proofs.lemmas.Int.{ints}
use Rattle.domain_core.specs.Domain.{Domain, IsDomain, IsWithin, IsSingle, least, greatest}
use Rattle.domain_core.specs.Consistency.{Reach, Values, Ends, Admits, IsSupported, AreConsistent}
use Rattle.narrow_core.specs.Laws.{LieWithin}
use Rattle.domain_core.proofs.Words.{has_least, has_greatest, has_tested, between_ends, IsWithin-refl}

-- each of the domains is one; for inductions over the list
abbrev pub AreDomains : List Domain → Type 0
AreDomains [] = Unit {0}
AreDomains (domain ∷ domains) = IsDomain domain × AreDomains domains

pub are_domains : (domains : List Domain) → All IsDomain domains → AreDomains domains
are_domains [] all = tt
are_domains (domain ∷ domains) all = (All-head IsDomain domain domains all, are_domains domains (All-tail IsDomain domain domains all))

pub domains_push : (domains : List Domain) (last : Domain) → AreDomains domains → IsDomain last → AreDomains (domains ++ last ∷ [])
domains_push [] last are ok = (ok, tt)
domains_push (domain ∷ domains) last are ok = (are.0, domains_push domains last are.1 ok)

pub within_refl : (domains : List Domain) → LieWithin domains domains
within_refl [] = tt
within_refl (domain ∷ domains) = (IsWithin-refl domain, within_refl domains)

pub within_push : (inner outer : List Domain) (last wide : Domain) → LieWithin inner outer → IsWithin last wide → LieWithin (inner ++ last ∷ []) (outer ++ wide ∷ [])
within_push [] [] last wide within last_within = (last_within, tt)
within_push [] (o ∷ outer) last wide within last_within = absurd within
within_push (i ∷ inner) [] last wide within last_within = absurd within
within_push (i ∷ inner) (o ∷ outer) last wide within last_within = (within.0, within_push inner outer last wide within.1 last_within)

-- ---- what a domain admits, a larger one admits

pub admits_along : (reach : Reach) (inner outer : Domain) (value : ℤ) → IsDomain inner → IsDomain outer → IsWithin inner outer → Admits reach inner value → Admits reach outer value
admits_along Values inner outer value ok wide_ok within has = within.values value has
admits_along Ends inner outer value ok wide_ok within between =
    let low = between_ends outer (least inner) wide_ok (within.values (least inner) (has_least inner ok)) in
    let high = between_ends outer (greatest inner) wide_ok (within.values (greatest inner) (has_greatest inner ok)) in
    (omega (arith, ints, low.0, between.0), omega (arith, ints, high.1, between.1))

all_admit_along : (reach : Reach) (inner outer : List Domain) (values : List ℤ) → AreDomains inner → AreDomains outer → LieWithin inner outer → AllZip (Admits reach) inner values → AllZip (Admits reach) outer values
all_admit_along reach [] [] values ok wide_ok within admit = admit
all_admit_along reach [] (o ∷ outer) values ok wide_ok within admit = absurd within
all_admit_along reach (i ∷ inner) [] values ok wide_ok within admit = absurd within
all_admit_along reach (i ∷ inner) (o ∷ outer) [] ok wide_ok within admit = absurd admit
all_admit_along reach (i ∷ inner) (o ∷ outer) (value ∷ values) ok wide_ok within admit =
    (admits_along reach i o value ok.0 wide_ok.0 within.0 admit.0, all_admit_along reach inner outer values ok.1 wide_ok.1 within.1 admit.1)

pub supported_along : (reach : Reach) (holds : List ℤ → Type 0) (before wide_before after wide_after : List Domain) (value : ℤ)
    → AreDomains before → AreDomains wide_before → AreDomains after → AreDomains wide_after → LieWithin before wide_before → LieWithin after wide_after
    → IsSupported reach holds before value after → IsSupported reach holds wide_before value wide_after
supported_along reach holds before wide_before after wide_after value before_ok wide_before_ok after_ok wide_after_ok before_within after_within supported = (
  supported.0,
  supported.1,
  all_admit_along reach before wide_before supported.0 before_ok wide_before_ok before_within supported.2,
  all_admit_along reach after wide_after supported.1 after_ok wide_after_ok after_within supported.3,
  supported.4,
)

-- ---- domains of single values

-- a list of single values splits where its domains do
pub record SplitAt (before : List Domain) (domain : Domain) (after : List Domain) (values : List ℤ) : Type 0 where
  pub left : List ℤ
  pub value : ℤ
  pub right : List ℤ
  pub values_are : values ≡ left ++ value ∷ right
  pub before_single : AllZip IsSingle before left
  pub single : IsSingle domain value
  pub after_single : AllZip IsSingle after right

pub split_single : (before : List Domain) (domain : Domain) (after : List Domain) (values : List ℤ) → AllZip IsSingle (before ++ domain ∷ after) values → SplitAt before domain after values
split_single [] domain after [] single = absurd single
split_single [] domain after (value ∷ values) single = record { left = []; value = value; right = values; values_are = refl; before_single = tt; single = single.0; after_single = single.1 }
split_single (b ∷ before) domain after [] single = absurd single
split_single (b ∷ before) domain after (value ∷ values) single =
    let rest = split_single before domain after values single.1 in
    record {
      left = value ∷ rest.left;
      value = rest.value;
      right = rest.right;
      values_are = ap (λ list. value ∷ list) rest.values_are;
      before_single = (single.0, rest.before_single);
      single = rest.single;
      after_single = rest.after_single;
    }

pub domains_before : (before : List Domain) (domain : Domain) (after : List Domain) → AreDomains (before ++ domain ∷ after) → AreDomains before × IsDomain domain × AreDomains after
domains_before [] domain after are = (tt, are.0, are.1)
domains_before (b ∷ before) domain after are = let rest = domains_before before domain after are.1 in ((are.0, rest.0), rest.1, rest.2)

-- what a domain of a single value admits is that value
pub admits_single : (reach : Reach) (domain : Domain) (value : ℤ) → IsDomain domain → IsSingle domain value → Admits reach domain value
admits_single Values domain value ok single = single.has
admits_single Ends domain value ok single = between_ends domain value ok single.has

pub admitted_single : (reach : Reach) (domain : Domain) (value other : ℤ) → IsDomain domain → IsSingle domain value → Admits reach domain other → other ≡ value
admitted_single Values domain value other ok single has = single.only other has
admitted_single Ends domain value other ok single between =
    let low = single.only (least domain) (has_least domain ok) in
    let high = single.only (greatest domain) (has_greatest domain ok) in
    omega (arith, ints, between.0, between.1, low, high)

pub all_admit_single : (reach : Reach) (domains : List Domain) (values : List ℤ) → AreDomains domains → AllZip IsSingle domains values → AllZip (Admits reach) domains values
all_admit_single reach [] [] are single = tt
all_admit_single reach [] (value ∷ values) are single = absurd single
all_admit_single reach (domain ∷ domains) [] are single = absurd single
all_admit_single reach (domain ∷ domains) (value ∷ values) are single = (admits_single reach domain value are.0 single.0, all_admit_single reach domains values are.1 single.1)

pub all_admitted_single : (reach : Reach) (domains : List Domain) (values others : List ℤ) → AreDomains domains → AllZip IsSingle domains values → AllZip (Admits reach) domains others → others ≡ values
all_admitted_single reach [] [] [] are single admit = refl
all_admitted_single reach [] [] (other ∷ others) are single admit = absurd admit
all_admitted_single reach [] (value ∷ values) others are single admit = absurd single
all_admitted_single reach (domain ∷ domains) [] others are single admit = absurd single
all_admitted_single reach (domain ∷ domains) (value ∷ values) [] are single admit = absurd admit
all_admitted_single reach (domain ∷ domains) (value ∷ values) (other ∷ others) are single admit =
    let head = admitted_single reach domain value other are.0 single.0 admit.0 in
    let tail = all_admitted_single reach domains values others are.1 single.1 admit.1 in
    (λ i. head i ∷ tail i)

-- single values that the constraint holds of are consistent
pub consistent_single : (reach : Reach) (holds : List ℤ → Type 0) (domains : List Domain) (values : List ℤ) → AreDomains domains → AllZip IsSingle domains values → holds values → AreConsistent reach holds domains
consistent_single reach holds domains values are single holding before domain after value split tested =
    let parts = domains_before before domain after (subst AreDomains split are) in
    let at = split_single before domain after values (subst (λ list. AllZip IsSingle list values) split single) in
    let same = at.single.only value (has_tested domain value parts.1 tested) in (
      at.left,
      at.right,
      all_admit_single reach before at.left parts.0 at.before_single,
      all_admit_single reach after at.right parts.2 at.after_single,
      subst holds (at.values_are ∙ ap (λ v. at.left ++ v ∷ at.right) (sym same)) holding,
    )
