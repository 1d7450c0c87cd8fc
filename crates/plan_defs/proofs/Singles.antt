-- Single values that a constraint holds of are consistent.
use Rattle.std.proofs.Common.{◌≡◌, ℤ, List, [], ◌∷◌, ◌++◌, ⊎_elim, refl, sym, ap, ◌∙◌, subst, arith}
use Rattle.std.proofs.lemmas.Int.{ints}
use Rattle.std.specs.List.{AllZip}
use Rattle.domain_core.specs.Domain.{Domain, Range, IsDomain, IsSingle, IsTested, IsBetweenEnds}
use Rattle.domain_core.proofs.Words.{has_tested, between_ends}
use Rattle.domain_core.specs.Consistency.{Reach, Values, Ends, Admits, AreConsistent}

-- the domain has this value alone
pub record IsJust (domain : Domain) (value : ℤ) : Type 0 where
  pub single : IsSingle domain value
  pub between : IsBetweenEnds domain value
  pub tested : (other : ℤ) → IsTested domain other → other ≡ value

-- a value by itself
pub just_value : (value : ℤ) → IsJust (Range value value) value
just_value value = record {
  single = record { has = (omega (arith, ints), omega (arith, ints)); only = λ other has. omega (arith, ints, has.0, has.1) };
  between = (omega (arith, ints), omega (arith, ints));
  tested = λ other is. ⊎_elim (λ e. e) (λ e. e) is;
}

-- a domain of one value
pub just_domain : (domain : Domain) (value : ℤ) → IsDomain domain → IsSingle domain value → IsJust domain value
just_domain domain value ok single = record {
  single = single;
  between = between_ends domain value ok single.has;
  tested = λ other is. single.only other (has_tested domain other ok is);
}

-- a list of single values, split where its domains are
record Split (before : List Domain) (domain : Domain) (after : List Domain) (values : List ℤ) : Type 0 where
  left : List ℤ
  value : ℤ
  right : List ℤ
  values_are : values ≡ left ++ value ∷ right
  befores : AllZip IsJust before left
  here : IsJust domain value
  afters : AllZip IsJust after right

split : (before : List Domain) (domain : Domain) (after : List Domain) (values : List ℤ) → AllZip IsJust (before ++ domain ∷ after) values → Split before domain after values
split [] domain after [] just = absurd just
split [] domain after (value ∷ values) just =
    record { left = []; value = value; right = values; values_are = refl; befores = tt; here = just.0; afters = just.1 }
split (b ∷ before) domain after [] just = absurd just
split (b ∷ before) domain after (value ∷ values) just =
    let rest = split before domain after values just.1 in
    record {
      left = value ∷ rest.left;
      value = rest.value;
      right = rest.right;
      values_are = ap (λ list. value ∷ list) rest.values_are;
      befores = (just.0, rest.befores);
      here = rest.here;
      afters = rest.afters;
    }

admits : (reach : Reach) (domain : Domain) (value : ℤ) → IsJust domain value → Admits reach domain value
admits Values domain value just = just.single.has
admits Ends domain value just = just.between

all_admit : (reach : Reach) (domains : List Domain) (values : List ℤ) → AllZip IsJust domains values → AllZip (Admits reach) domains values
all_admit reach [] [] just = tt
all_admit reach [] (value ∷ values) just = absurd just
all_admit reach (domain ∷ domains) [] just = absurd just
all_admit reach (domain ∷ domains) (value ∷ values) just = (admits reach domain value just.0, all_admit reach domains values just.1)

pub just_consistent : (reach : Reach) (holds : List ℤ → Type 0) (domains : List Domain) (values : List ℤ) → AllZip IsJust domains values → holds values → AreConsistent reach holds domains
just_consistent reach holds domains values just holding before domain after value are tested =
    let at = split before domain after values (subst (λ (list : List Domain). AllZip IsJust list values) are just) in
    let same = at.here.tested value tested in (
      at.left,
      at.right,
      all_admit reach before at.left at.befores,
      all_admit reach after at.right at.afters,
      subst holds (at.values_are ∙ ap (λ v. at.left ++ v ∷ at.right) (sym same)) holding,
    )
