-- What is marked.
use Rattle.std.proofs.Common.{◌≡◌, ℕ, zero, suc, ◌+◌, ◌||◌, ◌⊎◌, inl, inr, Bool, true, false, List, [], ◌∷◌, ◌++◌, map, refl, sym, ◌∙◌, ap, arith, eq-eqb, eqb-true}
use Rattle.std.specs.Prelude.{Option, Some, None, slice_get, if◌then◌else◌}
use Rattle.std.specs.Option.{option_map, option_map_or}
use Rattle.std.proofs.lemmas.Option.{slice_get-map}
use Rattle.eu_forest.specs.Members.{are_marked, is_owner, is_marked, marked_from, numbers_marked}

either_true : (one other : Bool) → (one || other) ≡ true → (one ≡ true) ⊎ (other ≡ true)
either_true true other is = inl refl
either_true false other is = inr is

first_true : (one other : Bool) → one ≡ true → (one || other) ≡ true
first_true true other is = refl
first_true false other is = absurd (cc)

-- what is marked in the one or the other is so in one of the two
from_either : (one other : List Bool) (from number : ℕ) → is_marked (marked_from from one other) number ≡ true
    → (is_marked one number ≡ true) ⊎ ((place : ℕ) × (place ≡ from + number) × (is_marked other place ≡ true))
from_either [] other from number is = absurd (let e : false ≡ true = is in cc)
from_either (mark ∷ one) other from zero is = elim (either_true mark (is_marked other from) is) [
  | inl here ↦ inl here
  | inr there ↦ inr (from, omega arith, there)
]
from_either (mark ∷ one) other from (suc number) is = elim (from_either one other (from + 1) number is) [
  | inl here ↦ inl here
  | inr there ↦ inr (there.0, (let at : there.0 ≡ from + 1 + number = there.1 in omega (arith, at)), there.2)
]

pub either_marked : (one other : List Bool) (number : ℕ) → is_marked (are_marked one other) number ≡ true
    → (is_marked one number ≡ true) ⊎ (is_marked other number ≡ true)
either_marked one other number is = elim (from_either one other 0 number is) [
  | inl here ↦ inl here
  | inr there ↦ inr (ap (is_marked other) (let at : there.0 ≡ 0 + number = there.1 in let e : number ≡ there.0 = omega (arith, at) in e) ∙ there.2)
]

-- what is marked in the one is so in both together
first_kept : (one other : List Bool) (from number : ℕ) → is_marked one number ≡ true → is_marked (marked_from from one other) number ≡ true
first_kept [] other from number is = is
first_kept (mark ∷ one) other from zero is = first_true mark (is_marked other from) is
first_kept (mark ∷ one) other from (suc number) is = first_kept one other (from + 1) number is

pub one_marked : (one other : List Bool) (number : ℕ) → is_marked one number ≡ true → is_marked (are_marked one other) number ≡ true
one_marked one other number is = first_kept one other 0 number is

owner_is : (thing : ℕ) (owner : Option ℕ) → is_owner thing owner ≡ true → owner ≡ Some thing
owner_is thing None is = absurd (let e : false ≡ true = is in cc)
owner_is thing (Some owner) is = ap (λ n. Some n) (eqb-true owner thing is)

-- the own members of a thing are those that it owns
pub own_is : (thing : ℕ) (owners : List (Option ℕ)) (number : ℕ) → is_marked (map (is_owner thing) owners) number ≡ true
    → slice_get owners number ≡ Some (Some thing)
own_is thing [] number is = absurd (let e : false ≡ true = is in cc)
own_is thing (owner ∷ owners) zero is = ap (λ o. Some o) (owner_is thing owner is)
own_is thing (owner ∷ owners) (suc number) is = own_is thing owners number is

pub is_own : (thing : ℕ) (owners : List (Option ℕ)) (number : ℕ) → slice_get owners number ≡ Some (Some thing)
    → is_marked (map (is_owner thing) owners) number ≡ true
is_own thing owners number is =
    ap (λ o. option_map_or (λ mark. mark) o false) (slice_get-map (is_owner thing) owners number ∙ ap (option_map (is_owner thing)) is)
    ∙ eq-eqb thing thing refl

-- the same numbers are marked where the same is marked
none_numbers : (marks : List Bool) (from : ℕ) → ((number : ℕ) → false ≡ is_marked marks number) → [] ≡ numbers_marked from marks
none_numbers [] from same = refl
none_numbers (mark ∷ marks) from same =
    none_numbers marks (from + 1) (λ number. same (suc number))
    ∙ ap (λ b. (if b then from ∷ [] else []) ++ numbers_marked (from + 1) marks) (same zero)

pub same_numbers : (one other : List Bool) (from : ℕ) → ((number : ℕ) → is_marked one number ≡ is_marked other number)
    → numbers_marked from one ≡ numbers_marked from other
same_numbers [] other from same = none_numbers other from same
same_numbers (mark ∷ one) [] from same =
    sym (none_numbers (mark ∷ one) from (λ number. sym (same number)))
same_numbers (mark ∷ one) (second ∷ other) from same =
    ap (λ b. (if b then from ∷ [] else []) ++ numbers_marked (from + 1) one) (same zero)
    ∙ ap (λ rest. (if second then from ∷ [] else []) ++ rest) (same_numbers one other (from + 1) (λ number. same (suc number)))
