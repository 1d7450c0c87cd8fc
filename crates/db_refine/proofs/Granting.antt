-- Limited to the value that is specified, a variable has no other.
use Rattle.std.proofs.Common.{◌≡◌, ℕ, ℤ, List, Some, refl, sym, subst, arith}
use Rattle.std.specs.Prelude.{slice_get, slice_set}
use Rattle.std.proofs.lemmas.Int.{ints}
use Rattle.std.proofs.lemmas.List.Elements.{All-set}
use Rattle.std.proofs.lemmas.Option.{get_or_from_slice_get}
use Rattle.domain_core.specs.Domain.{Domain, Range, Has, IsDomain, IsSingle, IsTested, IsWithin, least, greatest}
use Rattle.domain_core.specs.Narrowing.{Keeps}
use Rattle.domain_core.specs.declared.Change.{Change}
use Rattle.domain_core.specs.declared.Change.TheVariants.{Same, Smaller, Empty}
use Rattle.domain_core.proofs.Words.{IsWithin-refl, tested_least, tested_greatest, single_from_ends}
use Rattle.eu_name.specs.declared.name.VarName.{VarName}
use Rattle.model_core.specs.declared.model.Model.{Model}
use Rattle.model_core.specs.State.{Gives}
use Rattle.constraint_net.specs.Arguments.{domain_of}
use Rattle.constraint_net.specs.Limits.{LimitsAt}
use Rattle.constraint_net.specs.declared.constraint.NetArg.TheVariants.{Var}
use Rattle.eu_name.proofs.Members.{get_below, get_within, get_same}
use Rattle.model_core.specs.Content.{Content, shown, IsContent}
use Rattle.db_refine.specs.GrowthLaws.{with_domains}
use Rattle.db_refine.proofs.Showing.{stands_from, number_once}
use Rattle.db_refine.specs.ProgressLaws.{IsLimited}
use Rattle.eu_name.proofs.Places.{zip_set, set_there}

-- a domain whose tested values are all this one has no other
single_tested : (domain : Domain) (value : ℤ) → IsDomain domain → ((tested : ℤ) → IsTested domain tested → Has (Range value value) tested) → IsSingle domain value
single_tested domain value is passes =
    let low = passes (least domain) (tested_least domain is) in
    let high = passes (greatest domain) (tested_greatest domain is) in
    let ends : least domain ≡ greatest domain = omega (arith, ints, low.0, low.1, high.0, high.1) in
    let same : least domain ≡ value = omega (arith, ints, low.0, low.1) in
    subst (IsSingle domain) same (single_from_ends domain is ends)

left_single : (value : ℤ) (old left : Domain) (change : Change) → IsDomain left → Keeps (Has (Range value value)) old change left → (change ≡ Empty → ⊥) → IsSingle left value
left_single value old left Same is kept some = single_tested left value is (subst (λ d. (tested : ℤ) → IsTested d tested → Has (Range value value) tested) (sym kept.0) kept.1)
left_single value old left Smaller is kept some = single_tested left value is kept.0.tested
left_single value old left Empty is kept some = absurd (some refl)

left_within : (value : ℤ) (old left : Domain) (change : Change) → Keeps (Has (Range value value)) old change left → IsWithin left old
left_within value old left Same kept = subst (λ d. IsWithin d old) (sym kept.0) (IsWithin-refl old)
left_within value old left Smaller kept = kept.0.within
left_within value old left Empty kept = subst (λ d. IsWithin d old) (sym kept.0) (IsWithin-refl old)

module _ (model : Model) (content : Content) (name : VarName) (value : ℤ) (number : ℕ) (is : IsContent model content) (named : slice_get content.names number ≡ Some name) where
  stood : (domain : Domain) × (slice_get content.domains number ≡ Some domain)
  stood = get_within content.domains number (let long = is.count in let below = get_below content.names number name named in omega (arith, long, below))

  given_left : (left domain : Domain) → Gives (shown (with_domains content (slice_set content.domains number left))) name domain → left ≡ domain
  given_left left domain gives =
      let at = stands_from content.names (slice_set content.domains number left) name domain gives in
      let here = number_once content.names is.names_once at.number number name at.named named in
      get_same (slice_set content.domains number left) number left domain (set_there content.domains number stood.0 left stood.1)
      (subst (λ (n : ℕ). slice_get (slice_set content.domains number left) n ≡ Some domain) here at.given)

  pub limited : (change : Change) (domains : List Domain) → LimitsAt content.domains number (Range value value) change domains → (change ≡ Empty → ⊥)
      → IsLimited content name value domains
  limited change domains limits some =
      let is_stood : domain_of content.domains (Var number) ≡ stood.0 = get_or_from_slice_get content.domains number stood.0 _ stood.1 in
      let kept = subst (λ d. Keeps (Has (Range value value)) d change limits.left) is_stood limits.kept in
      let single = left_single value stood.0 limits.left change limits.is kept some in
      subst (IsLimited content name value) (sym limits.others) (record {
        are = All-set IsDomain content.domains number limits.left limits.is is.domains;
        within = zip_set IsWithin IsWithin-refl content.domains number stood.0 limits.left stood.1 (left_within value stood.0 limits.left change kept);
        granted = λ domain gives. subst (λ d. IsSingle d value) (given_left limits.left domain gives) single;
      })
