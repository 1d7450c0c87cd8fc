-- The rules that predicates list, and quantities.
use Rattle.std.proofs.Common.{◌≡◌, ℕ, zero, suc, ◌+◌, ◌<◌, pos, List, [], ◌∷◌, ◌++◌, length, get_or, take, map, slice_get, Some, refl, sym, ap, ◌∙◌, subst, arith}
use Rattle.eu_name.proofs.Members.{get_same}
use Rattle.domain_core.specs.Domain.{Domain, Range, Set}
use Rattle.model_core.specs.declared.model.Model.{Model}
use Rattle.model_core.specs.declared.rule.Rule.{Rule}
use Rattle.model_lawful.specs.Preds.{AreRules, HasQuantityEnds}

-- ---- rules by their numbers

module _ (model : Model) where
  -- the numbers have one list of rules
  pub rules_once : (places : List ℕ) (one other : List Rule) → AreRules model places one → AreRules model places other → one ≡ other
  rules_once [] [] [] a b = refl
  rules_once [] [] (rule ∷ other) a b = absurd b
  rules_once [] (rule ∷ one) other a b = absurd a
  rules_once (place ∷ places) [] other a b = absurd a
  rules_once (place ∷ places) (rule ∷ one) [] a b = absurd b
  rules_once (place ∷ places) (rule ∷ one) (rule' ∷ other) a b =
      ap (λ r. r ∷ one) (get_same model.rules place rule rule' a.0 b.0) ∙ ap (λ l. rule' ∷ l) (rules_once places one other a.1 b.1)

  pub rules_more : (places : List ℕ) (rules : List Rule) (place : ℕ) (rule : Rule) → AreRules model places rules → slice_get model.rules place ≡ Some rule
      → AreRules model (places ++ place ∷ []) (rules ++ rule ∷ [])
  rules_more [] [] place rule are at = (at, tt)
  rules_more [] (other ∷ rules) place rule are at = absurd are
  rules_more (first ∷ places) [] place rule are at = absurd are
  rules_more (first ∷ places) (other ∷ rules) place rule are at = (are.0, rules_more places rules place rule are.1 at)

  pub no_rules : (places : List ℕ) (i d : ℕ) → i < length places → ((rule : Rule) → slice_get model.rules (get_or places i d) ≡ Some rule → ⊥) → (rules : List Rule) → AreRules model places rules → ⊥
  no_rules [] i d below none rules are = omega (arith, below)
  no_rules (place ∷ places) i d below none [] are = are
  no_rules (place ∷ places) zero d below none (rule ∷ rules) are = none rule are.0
  no_rules (place ∷ places) (suc i) d below none (rule ∷ rules) are = no_rules places i d (omega (arith, below)) none rules are.1

take_next : {X : Type 0} (xs : List X) (i : ℕ) (d : X) → i < length xs → take (suc i) xs ≡ take i xs ++ get_or xs i d ∷ []
take_next [] i d below = absurd (omega arith)
take_next (y ∷ xs) zero d below = refl
take_next (y ∷ xs) (suc i) d below = ap (λ ys. y ∷ ys) (take_next xs i d (omega arith))

map-append : {X Y : Type 0} (f : X → Y) (xs ys : List X) → map f (xs ++ ys) ≡ map f xs ++ map f ys
map-append f [] ys = refl
map-append f (x ∷ xs) ys = ap (λ l. f x ∷ l) (map-append f xs ys)

-- with one rule more
pub rules_step : {B : Type 0} (now : B → Rule) (model : Model) (places : List ℕ) (i d : ℕ) (rules new : List B) (rule : B) → i < length places
    → AreRules model (take i places) (map now rules) → slice_get model.rules (get_or places i d) ≡ Some (now rule) → new ≡ rules ++ rule ∷ []
    → AreRules model (take (i + 1) places) (map now new)
rules_step now model places i d rules new rule below are at same =
    let on : i + 1 ≡ suc i = omega arith in
    let more : take (i + 1) places ≡ take i places ++ get_or places i d ∷ [] = ap (λ n. take n places) on ∙ take_next places i d below in
    subst (λ (l : List ℕ). AreRules model l (map now new)) (sym more)
    (subst (AreRules model (take i places ++ get_or places i d ∷ [])) (sym (ap (map now) same ∙ map-append now rules (rule ∷ [])))
    (rules_more model (take i places) (map now rules) (get_or places i d) (now rule) are at))

-- ---- quantities

pub quantity_ends : (domain : Domain) → HasQuantityEnds domain → domain ≡ Range (pos 0) (pos 1000000)
quantity_ends (Range lo hi) (range, first, last) = λ i. Range (first i) (last i)
quantity_ends (Set members) (range, first, last) = absurd range

pub ends_quantity : (domain : Domain) → domain ≡ Range (pos 0) (pos 1000000) → HasQuantityEnds domain
ends_quantity domain same = subst HasQuantityEnds (sym same) (tt, refl, refl)
