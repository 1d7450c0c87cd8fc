-- The domains of objects.
use Rattle.std.proofs.Common.{[], ◌∷◌, ℤ, pos, inl, inr, subst, arith}
use Rattle.std.specs.Prelude.{Contains, AllPairs, ◌<ℤ◌}
use Rattle.std.proofs.lemmas.Int.{ints}
use Rattle.domain_core.specs.Domain.{IsDomain, IsValue, IsWithin, IsSingle}
use Rattle.eu_name.proofs.Ordered.{contains_head, contains_later, contains_cases, ordered_one, ordered_link}
use Rattle.law_examples.specs.Scenes.{the_object, both_objects}
use Rattle.law_examples.proofs.Lists.{all_members, only_member}

pub object_domain : IsDomain the_object
object_domain = record {
  ascending = λ i j d less within. absurd (omega arith);
  values = all_members IsValue (pos 0 ∷ []) (λ x c. let same = only_member (pos 0) x c in (omega (arith, ints, same), omega (arith, ints, same)));
  some = omega arith;
  few = omega arith;
}

pub both_domain : IsDomain both_objects
both_domain = record {
  ascending = λ i j d less within. pair i j d less within;
  values = all_members IsValue (pos 0 ∷ pos 1 ∷ []) (λ x c. elim (contains_cases (pos 0) x (pos 1 ∷ []) c) [
    | inl same ↦ (omega (arith, ints, same), omega (arith, ints, same))
    | inr later ↦ (let same = only_member (pos 1) x later in (omega (arith, ints, same), omega (arith, ints, same)))
  ]);
  some = omega arith;
  few = omega arith;
}
  where
    pair : AllPairs (λ (one later : ℤ). one <ℤ later) (pos 0 ∷ pos 1 ∷ [])
    pair = ordered_link (λ (one later : ℤ). one <ℤ later) (λ x y z less more. omega (arith, ints, less, more)) (pos 0) (pos 1) [] (omega (arith, ints)) (ordered_one (λ (one later : ℤ). one <ℤ later) (pos 1))

pub object_within : IsWithin the_object both_objects
object_within = record { kind = tt; values = λ v c. subst (Contains (pos 0 ∷ pos 1 ∷ [])) (only_member (pos 0) v c) (contains_head (pos 0) (pos 1 ∷ [])) }

-- what may be both is none alone
pub both_not_single : (value : ℤ) → IsSingle both_objects value → ⊥
both_not_single value single =
    let zero_is = single.only (pos 0) (contains_head (pos 0) (pos 1 ∷ [])) in
    let one_is = single.only (pos 1) (contains_later (pos 0) (pos 1) (pos 1 ∷ []) (contains_head (pos 1) [])) in
    omega (arith, ints, zero_is, one_is)
