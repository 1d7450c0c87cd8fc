-- A variable has one value in a plan, a term means one thing, and so what is said of terms is true of one list of values.
use Rattle.std.proofs.Common.{◌≡◌, ℕ, ◌<◌, ◌≤◌, ℤ, Bool, List, [], ◌∷◌, length, get_or, ◌⊎◌, ⊎_elim, inl, inr, refl, sym, ◌∙◌, subst, arith}
use Rattle.std.specs.Prelude.{MatchBool}
use Rattle.std.specs.List.{AllZip}
use Rattle.eu_name.specs.declared.name.VarName.{VarName}
use Rattle.eu_name.specs.declared.name.VarName.TheVariants.{Token, Local, Global}
use Rattle.domain_core.specs.declared.kind.Kind.{Kind}
use Rattle.domain_core.specs.declared.kind.Kind.TheVariants as kinds
use Rattle.model_core.specs.declared.item.Term.{Term}
use Rattle.model_core.specs.declared.item.Term.TheVariants as terms
use Rattle.model_core.specs.declared.model.Model.{Model}
use Rattle.domain_core.specs.Constraints.{Holds}
use Rattle.plan_defs.specs.declared.plan.Line.TheVariants as lines
use Rattle.plan_defs.specs.declared.plan.Plan.{Plan}
use Rattle.plan_defs.specs.Consistency.{HasField}
use Rattle.plan_defs.specs.Plans.{GivesValue}
use Rattle.plan_defs.specs.Terms.{Context, InProblem, InRule, Argument, Value, Variable, Means}
use Rattle.plan_defs.specs.Valid.{HasArgumentValue}
use Rattle.plan_defs.proofs.Meanings.{means_once}
use Rattle.plan_defs.proofs.Saying.{one_line}
use Rattle.plan_values.specs.Keys.{IsOrderly}
use Rattle.plan_values.specs.Meanings.{HasTermValue}
use Rattle.plan_values.specs.Truths.{AreTrueOf}
use Rattle.plan_values.proofs.Matching.{match_bool}
use Rattle.plan_values.proofs.Naming.{gives_into, gives_there}

-- constraints hold of two values, or of three
arity_is : (field : ℕ → ℤ → ℤ → Type 0) (kind : Kind) (values : List ℤ) → Holds field kind values → (length values ≡ 2) ⊎ (length values ≡ 3)
arity_is field kinds.Eq (x ∷ y ∷ []) holds = inl refl
arity_is field kinds.Eq values holds = absurd holds
arity_is field kinds.Neq (x ∷ y ∷ []) holds = inl refl
arity_is field kinds.Neq values holds = absurd holds
arity_is field kinds.Lt (x ∷ y ∷ []) holds = inl refl
arity_is field kinds.Lt values holds = absurd holds
arity_is field kinds.Leq (x ∷ y ∷ []) holds = inl refl
arity_is field kinds.Leq values holds = absurd holds
arity_is field kinds.AddEq (x ∷ y ∷ z ∷ []) holds = inr refl
arity_is field kinds.AddEq values holds = absurd holds
arity_is field kinds.MulEq (x ∷ y ∷ z ∷ []) holds = inr refl
arity_is field kinds.MulEq values holds = absurd holds
arity_is field kinds.TestEq (x ∷ y ∷ z ∷ []) holds = inr refl
arity_is field kinds.TestEq values holds = absurd holds
arity_is field kinds.TestLeq (x ∷ y ∷ z ∷ []) holds = inr refl
arity_is field kinds.TestLeq values holds = absurd holds
arity_is field kinds.AllDiff values holds = absurd holds
arity_is field (kinds.Field number) (x ∷ y ∷ []) holds = inl refl
arity_is field (kinds.Field number) values holds = absurd holds

pub zip_length : {A B : Type 0} (P : A → B → Type 0) (xs : List A) (ys : List B) → AllZip P xs ys → length xs ≡ length ys
zip_length P [] [] zip = refl
zip_length P [] (y ∷ ys) zip = absurd zip
zip_length P (x ∷ xs) [] zip = absurd zip
zip_length P (x ∷ xs) (y ∷ ys) zip = omega (arith, zip_length P xs ys zip.1)

-- three items are those at the first three places
pub three_items : {A : Type 0} (xs : List A) (d e f : A) → 3 ≤ length xs → length xs < 4 → xs ≡ get_or xs 0 d ∷ get_or xs 1 e ∷ get_or xs 2 f ∷ []
three_items [] d e f some few = absurd (omega arith)
three_items (x ∷ []) d e f some few = absurd (omega arith)
three_items (x ∷ y ∷ []) d e f some few = absurd (omega arith)
three_items (x ∷ y ∷ z ∷ []) d e f some few = refl
three_items (x ∷ y ∷ z ∷ u ∷ xs) d e f some few = absurd (omega arith)

module _ (plan : Plan) (ok : IsOrderly plan) where
  -- a variable has one value
  pub gives_once : (name : VarName) (one other : ℤ) → GivesValue plan name one → GivesValue plan name other → one ≡ other
  gives_once (Global number) one other p q = let e = sym p ∙ q in cc
  gives_once (Token token part) one other p q =
      let has = gives_into plan ok token part one p in
      let e = sym has.2 ∙ gives_there plan ok token part has.0 other has.1 q in
      cc
  gives_once (Local token rule number) one other p q =
      let e = one_line plan ok.order (lines.Local (Local token rule number) one) (lines.Local (Local token rule number) other) p q refl in
      cc

  argument_once : (argument : Argument) (one other : ℤ) → HasArgumentValue plan argument one → HasArgumentValue plan argument other → one ≡ other
  argument_once (Value value) one other p q = p ∙ sym q
  argument_once (Variable name) one other p q = gives_once name one other p q

  pub value_once : (context : Context) (term : Term) (one other : ℤ) → HasTermValue plan context term one → HasTermValue plan context term other → one ≡ other
  value_once context term one other (a, means, has) (b, means', has') =
      argument_once b one other (subst (λ (x : Argument). HasArgumentValue plan x one) (means_once context term a b means means') has) has'

  pub values_once : (context : Context) (compared : List Term) (one other : List ℤ) → AllZip (HasTermValue plan context) compared one → AllZip (HasTermValue plan context) compared other → one ≡ other
  values_once context [] [] [] p q = refl
  values_once context [] (v ∷ one) other p q = absurd p
  values_once context [] [] (w ∷ other) p q = absurd q
  values_once context (term ∷ compared) [] other p q = absurd p
  values_once context (term ∷ compared) (v ∷ one) [] p q = absurd q
  values_once context (term ∷ compared) (v ∷ one) (w ∷ other) p q =
      let first = value_once context term v w p.0 q.0 in
      let rest = values_once context compared one other p.1 q.1 in
      (λ i. first i ∷ rest i)

  module _ (model : Model) (context : Context) (kind : Kind) where
    -- that the constraint holds of the values of the terms is all that there is to it
    pub true_of : (compared : List Term) (values : List ℤ) (answer : Bool) → AllZip (HasTermValue plan context) compared values
        → MatchBool answer (Holds (HasField model) kind values) (Holds (HasField model) kind values → ⊥)
        → MatchBool answer (AreTrueOf model plan context kind compared) (AreTrueOf model plan context kind compared → ⊥)
    true_of compared values answer have is = match_bool answer _ _ _ _
        (λ holds. (values, have, holds))
        (λ fails are. fails (subst (Holds (HasField model) kind) (values_once context compared are.0 values are.1 have) are.2)) is

    -- by numbers that are the values
    pub true_of_two : (x y : Term) (v w v' w' : ℤ) (answer : Bool) → v' ≡ v → w' ≡ w → HasTermValue plan context x v → HasTermValue plan context y w
        → MatchBool answer (Holds (HasField model) kind (v' ∷ w' ∷ [])) (Holds (HasField model) kind (v' ∷ w' ∷ []) → ⊥)
        → MatchBool answer (AreTrueOf model plan context kind (x ∷ y ∷ [])) (AreTrueOf model plan context kind (x ∷ y ∷ []) → ⊥)
    true_of_two x y v w v' w' answer same same' has has' is =
        true_of (x ∷ y ∷ []) (v' ∷ w' ∷ []) answer
        (subst (HasTermValue plan context x) (sym same) has, (subst (HasTermValue plan context y) (sym same') has', tt)) is

    pub true_of_three : (x y z : Term) (v w u v' w' u' : ℤ) (answer : Bool) → v' ≡ v → w' ≡ w → u' ≡ u
        → HasTermValue plan context x v → HasTermValue plan context y w → HasTermValue plan context z u
        → MatchBool answer (Holds (HasField model) kind (v' ∷ w' ∷ u' ∷ [])) (Holds (HasField model) kind (v' ∷ w' ∷ u' ∷ []) → ⊥)
        → MatchBool answer (AreTrueOf model plan context kind (x ∷ y ∷ z ∷ [])) (AreTrueOf model plan context kind (x ∷ y ∷ z ∷ []) → ⊥)
    true_of_three x y z v w u v' w' u' answer same same' same'' has has' has'' is =
        true_of (x ∷ y ∷ z ∷ []) (v' ∷ w' ∷ u' ∷ []) answer (
          subst (HasTermValue plan context x) (sym same) has,
          (subst (HasTermValue plan context y) (sym same') has', (subst (HasTermValue plan context z) (sym same'') has'', tt)),
        ) is

    -- a term without a value
    pub first_lacks : (x : Term) (others : List Term) → ((value : ℤ) → HasTermValue plan context x value → ⊥) → AreTrueOf model plan context kind (x ∷ others) → ⊥
    first_lacks x others none ([], have, holds) = absurd have
    first_lacks x others none (v ∷ values, have, holds) = none v have.0

    pub second_lacks : (x y : Term) (others : List Term) → ((value : ℤ) → HasTermValue plan context y value → ⊥) → AreTrueOf model plan context kind (x ∷ y ∷ others) → ⊥
    second_lacks x y others none ([], have, holds) = absurd have
    second_lacks x y others none (v ∷ [], have, holds) = absurd have.1
    second_lacks x y others none (v ∷ w ∷ values, have, holds) = none w have.1.0

    pub third_lacks : (x y z : Term) (others : List Term) → ((value : ℤ) → HasTermValue plan context z value → ⊥) → AreTrueOf model plan context kind (x ∷ y ∷ z ∷ others) → ⊥
    third_lacks x y z others none ([], have, holds) = absurd have
    third_lacks x y z others none (v ∷ [], have, holds) = absurd have.1
    third_lacks x y z others none (v ∷ w ∷ [], have, holds) = absurd have.1.1
    third_lacks x y z others none (v ∷ w ∷ u ∷ values, have, holds) = none u have.1.1.0

    -- another number of terms than two or three
    pub few_false : (compared : List Term) → length compared < 2 → AreTrueOf model plan context kind compared → ⊥
    few_false compared few (values, have, holds) =
        ⊎_elim (λ (e : length values ≡ 2). omega (arith, e, few, zip_length (HasTermValue plan context) compared values have))
        (λ (e : length values ≡ 3). omega (arith, e, few, zip_length (HasTermValue plan context) compared values have)) (arity_is (HasField model) kind values holds)

    pub many_false : (compared : List Term) → 4 ≤ length compared → AreTrueOf model plan context kind compared → ⊥
    many_false compared many (values, have, holds) =
        ⊎_elim (λ (e : length values ≡ 2). omega (arith, e, many, zip_length (HasTermValue plan context) compared values have))
        (λ (e : length values ≡ 3). omega (arith, e, many, zip_length (HasTermValue plan context) compared values have)) (arity_is (HasField model) kind values holds)
