-- Constraints and guards with which nothing is wrong have lawful arguments.
use Rattle.std.proofs.Common.{◌≡◌, ℕ, ◌+◌, ◌==◌, Bool, true, false, not, ◌&&◌, ◌||◌, List, [], ◌∷◌, ◌++◌, length, map, pos, inr, refl, sym, ◌∙◌, ap, subst, arith, eqb-true}
use Rattle.std.specs.Prelude.{⊤, Option, Some, None, if◌then◌else◌}
use Rattle.std.specs.List.{AllByRecursion}
use Rattle.std.proofs.lemmas.List.Elements.{All-from_recursion}
use Rattle.std.proofs.lemmas.Option.{none-some}
use Rattle.domain_core.specs.declared.kind.Kind.{Kind}
use Rattle.domain_core.specs.declared.kind.Kind.TheVariants as constraints
use Rattle.model_core.specs.declared.item.Item.{Item}
use Rattle.model_core.specs.declared.item.Item.TheVariants.{Constraint, Relation}
use Rattle.model_core.specs.declared.item.Term.{Term}
use Rattle.model_core.specs.declared.item.Term.TheVariants as terms
use Rattle.model_core.specs.declared.model.Model.{Model}
use Rattle.model_core.specs.declared.rule.Rule.{Rule}
use Rattle.model_core.specs.declared.variable.ValueKind.{ValueKind}
use Rattle.model_core.specs.declared.variable.ValueKind.TheVariants as value_kinds
use Rattle.model_core.specs.Kinds.{AreArguments, AreComparable, AreNumbers, IsNumeric, IsOfKind, OfRule}
use Rattle.nddl_ast.specs.declared.declaration.FileDecls.{FileDecls}
use Rattle.nddl_ast.specs.declared.expression.Expr.{Expr}
use Rattle.nddl_ast.specs.declared.kind.TextKind.TheVariants as faults
use Rattle.nddl_symbols.specs.declared.scope.Meaning.{Meaning}
use Rattle.nddl_symbols.specs.Scope.{fault_if}
use Rattle.nddl_typeexpr.specs.declared.kind.TypeKind.{TypeKind}
use Rattle.nddl_typeexpr.specs.declared.kind.TypeKind.TheVariants as kinds
use Rattle.nddl_declarations.specs.Domains.{value_kind}
use Rattle.nddl_resolve.specs.declared.denoted.TokenSort.{TokenSort}
use Rattle.nddl_resolve.specs.Paths.{Surroundings}
use Rattle.nddl_rule_check.specs.declared.asked.Asked.{Asked}
use Rattle.nddl_rule_check.specs.declared.asked.Asked.TheVariants as asked
use Rattle.nddl_rule_check.specs.Arguments.{are_decimals, meant_by}
use Rattle.nddl_rule_check.specs.Constraints.{asked_among, asked_at, is_compared_at, takes}
use Rattle.nddl_rule_check.specs.Values.{is_decimal, is_factor, unfit_value_fault}
use Rattle.nddl_terms.specs.declared.stands.Stand.{Stand}
use Rattle.nddl_terms.specs.Readings.{Readings}
use Rattle.nddl_lower.specs.Arguments.{all_differ, constraint_items, differ}
use Rattle.nddl_lower.specs.Compared.{compared_term, compared_terms, constraint_terms, has_decimal, is_decimal_stand, stand_term}
use Rattle.nddl_laws.specs.Scoping.{RuleGround}
use Rattle.nddl_rule_laws.proofs.Rising.{AreOnce}
use Rattle.nddl_rule_laws.proofs.Sights.{IsSetting}
use Rattle.nddl_lowering_laws.specs.Fitting.{HasThings, IsNoAccess}
use Rattle.nddl_lowering_laws.proofs.Held.{IsHeld, IsThingIn}
use Rattle.nddl_lowering_laws.proofs.Suited.{AllSuited, AreAnswered, AreAsked, Suited, all_asked, all_of_kind, all_same, decimal_same, factor_written, is_float, wanted_kind}

-- ---- items

-- the arguments of the constraint are lawful in the rule of the predicate, unless it is that something is in a field
abbrev pub IsFitItem : Model → ℕ → Rule → Item → Type 0
IsFitItem model pred rule (Constraint kind some) = IsNoAccess kind → AreArguments model (OfRule pred rule) kind some
IsFitItem model pred rule (Relation relation slot) = ⊤

abbrev pub EachFit : Model → ℕ → Rule → List Item → Type 0
EachFit model pred rule [] = ⊤
EachFit model pred rule (item ∷ more) = IsFitItem model pred rule item × EachFit model pred rule more

each_both : (model : Model) (pred : ℕ) (rule : Rule) (one other : List Item) → EachFit model pred rule one
    → EachFit model pred rule other → EachFit model pred rule (one ++ other)
each_both model pred rule [] other first second = second
each_both model pred rule (item ∷ one) other first second = (first.0, each_both model pred rule one other first.1 second)

-- what is of one kind can be compared two by two
differ_fit : (model : Model) (pred : ℕ) (rule : Rule) (kind : ValueKind) (one : Term) (some : List Term) → IsOfKind model
    (OfRule pred rule) kind one → AllByRecursion (IsOfKind model (OfRule pred rule) kind) some → EachFit model pred rule
    (map (differ one) some)
differ_fit model pred rule kind one [] first are = tt
differ_fit model pred rule kind one (other ∷ more) first are = (
  λ plain. (kind, All-from_recursion (IsOfKind model (OfRule pred rule) kind) (one ∷ other ∷ []) (first, (are.0, tt))),
  differ_fit model pred rule kind one more first are.1,
)

differing_fit : (model : Model) (pred : ℕ) (rule : Rule) (kind : ValueKind) (some : List Term)
    → AllByRecursion (IsOfKind model (OfRule pred rule) kind) some → EachFit model pred rule (all_differ some)
differing_fit model pred rule kind [] are = tt
differing_fit model pred rule kind (one ∷ more) are =
    each_both model pred rule (map (differ one) more) (all_differ more) (differ_fit model pred rule kind one more are.0 are.1)
    (differing_fit model pred rule kind more are.1)

module _ (IsFor : Meaning → ℕ → Type 0) (IsPredFor : TokenSort → ℕ → Type 0) (files : List FileDecls) (ground : RuleGround)
    (reading : Readings) (model : Model) (things : HasThings model reading.lexicon reading.objects) (rule : Rule)
    (setting : IsSetting IsFor IsPredFor (IsThingIn reading.lexicon) (IsHeld model reading.pred rule) files ground reading)
    (once : AreOnce reading.places) where
  abbrev Kindly : ValueKind → List Term → Type 0
  Kindly kind some = AllByRecursion (IsOfKind model (OfRule reading.pred rule) kind) some

  abbrev Comparable : List Term → Type 0
  Comparable some = AreComparable model (OfRule reading.pred rule) some

  abbrev Numbers : List Term → Type 0
  Numbers some = AreNumbers model (OfRule reading.pred rule) some

  abbrev IsSuited : Surroundings → Expr → Stand → Type 0
  IsSuited = Suited IsFor IsPredFor files ground reading model things rule setting once

  abbrev AreSuited : Surroundings → List Expr → List Stand → Type 0
  AreSuited = AllSuited IsFor IsPredFor files ground reading model things rule setting once

  abbrev Answered : Surroundings → (ℕ → Asked) → ℕ → Option TypeKind → List Expr → Type 0
  Answered = AreAnswered IsFor IsPredFor files ground reading model things rule setting once

  abbrev Asking : (ℕ → Asked) → Asked → ℕ → List Expr → Type 0
  Asking = AreAsked IsFor IsPredFor files ground reading model things rule setting once

  of_kind : (wanted : TypeKind) (around : Surroundings) (asks : ℕ → Asked) (place : ℕ) (compared : Option TypeKind)
      (some : List Expr) (given : List Stand) → Asking asks (asked.Of wanted) place some → Answered around asks place compared
      some → AreSuited around some given → Kindly (value_kind wanted) (map (compared_term (is_float wanted)) given)
  of_kind = all_of_kind IsFor IsPredFor files ground reading model things rule setting once

  comparable : (kind : ValueKind) (some : List Term) → Kindly kind some → Comparable some
  comparable kind some are = (kind, All-from_recursion (IsOfKind model (OfRule reading.pred rule) kind) some are)

  numbers : (kind : ValueKind) (some : List Term) → IsNumeric kind → Kindly kind some → Numbers some
  numbers kind some numeric are = (kind, numeric, All-from_recursion (IsOfKind model (OfRule reading.pred rule) kind) some are)

  one_decimal : (around : Surroundings) (expr : Expr) (stand : Stand) (suited : IsSuited around expr stand)
      → is_decimal (meant_by ground.facts around expr) ≡ is_decimal_stand stand
  one_decimal around expr stand suited =
      ap is_decimal suited.is
      ∙ decimal_same IsFor IsPredFor files ground reading model things rule setting once suited.meant stand suited.fits

  -- one is a decimal if and only if one denotes one, where all are compared
  decimals_same : (kind : Kind) → ((place : ℕ) → is_compared_at kind place ≡ true) → (around : Surroundings) (place : ℕ)
      (some : List Expr) (given : List Stand) → AreSuited around some given → are_decimals ground.facts around kind place
      some ≡ has_decimal given
  decimals_same kind each around place [] [] suited = refl
  decimals_same kind each around place [] (stand ∷ given) suited = absurd suited
  decimals_same kind each around place (expr ∷ more) [] suited = absurd suited
  decimals_same kind each around place (expr ∷ more) (stand ∷ given) suited = λ i.
      (each place i && one_decimal around expr stand suited.0 i) || decimals_same kind each around (place + 1) more given
      suited.1 i

  -- ---- what is compared

  -- what is asked where all are compared
  asks_float : (kind : Kind) → ((place : ℕ) → is_compared_at kind place ≡ true) → (place : ℕ) → asked_among true kind
      place ≡ asked.Of kinds.Float
  asks_float kind each place = ap (λ (so : Bool). if so then asked.Of kinds.Float else asked_at kind place) (each place)

  -- where all are compared and the first gives the kind
  pub all_comparable : (kind : Kind) → ((place : ℕ) → is_compared_at kind place ≡ true)
      → ((place : ℕ) → asked_at kind place ≡ asked.Compared) → (around : Surroundings) (some : List Expr) (given : List Stand)
      (decimal : Bool) → are_decimals ground.facts around kind 0 some ≡ decimal → Answered around (asked_among decimal kind) 0
      None some → AreSuited around some given → (own : ValueKind) × Kindly own (compared_terms given)
  all_comparable kind each asks around some given true are answered suited =
      let has : has_decimal given ≡ true = sym (decimals_same kind each around 0 some given suited) ∙ are in (
        value_kinds.Float,
        subst (λ (d : Bool). Kindly value_kinds.Float (map (compared_term d) given)) (sym has)
            (of_kind kinds.Float around (asked_among true kind) 0 None some given
            (all_asked IsFor IsPredFor files ground reading model things rule setting once (asked_among true kind)
            (asked.Of kinds.Float) (asks_float kind each) 0 some) answered suited),
      )
  all_comparable kind each asks around some given false are answered suited =
      let has : has_decimal given ≡ false = sym (decimals_same kind each around 0 some given suited) ∙ are in
      let it = all_same IsFor IsPredFor files ground reading model things rule setting once around (asked_among false kind) 0
      None some given refl (all_asked IsFor IsPredFor files ground reading model things rule setting once
      (asked_among false kind) asked.Compared asks 0 some) answered suited has in
      (it.0, subst (λ (d : Bool). Kindly it.0 (map (compared_term d) given)) (sym has) it.1)

  -- where all are compared and numbers are asked for
  all_numbers : (kind : Kind) → ((place : ℕ) → is_compared_at kind place ≡ true)
      → ((place : ℕ) → asked_at kind place ≡ asked.Of kinds.Int) → (around : Surroundings) (some : List Expr)
      (given : List Stand) (decimal : Bool) → are_decimals ground.facts around kind 0 some ≡ decimal
      → Answered around (asked_among decimal kind) 0 None some → AreSuited around some given → Numbers (compared_terms given)
  all_numbers kind each asks around some given true are answered suited =
      let has : has_decimal given ≡ true = sym (decimals_same kind each around 0 some given suited) ∙ are in
      subst (λ (d : Bool). Numbers (map (compared_term d) given)) (sym has)
      (numbers value_kinds.Float (map (compared_term true) given) tt
      (of_kind kinds.Float around (asked_among true kind) 0 None some given
      (all_asked IsFor IsPredFor files ground reading model things rule setting once (asked_among true kind)
      (asked.Of kinds.Float) (asks_float kind each) 0 some) answered suited))
  all_numbers kind each asks around some given false are answered suited =
      let has : has_decimal given ≡ false = sym (decimals_same kind each around 0 some given suited) ∙ are in
      subst (λ (d : Bool). Numbers (map (compared_term d) given)) (sym has)
      (numbers value_kinds.Int (map (compared_term false) given) tt
      (of_kind kinds.Int around (asked_among false kind) 0 None some given
      (all_asked IsFor IsPredFor files ground reading model things rule setting once (asked_among false kind)
      (asked.Of kinds.Int) asks 0 some) answered suited))

  -- ---- tests

  -- the truth that tells of a comparison
  truth_kind : (around : Surroundings) (expr : Expr) (stand : Stand) → IsSuited around expr stand
      → unfit_value_fault (Some kinds.Bool) expr (meant_by ground.facts around expr) ≡ None
      → IsOfKind model (OfRule reading.pred rule) value_kinds.Bool (stand_term stand)
  truth_kind around expr stand suited none =
      wanted_kind IsFor IsPredFor files ground reading model things rule setting once kinds.Bool around expr stand suited none

  abbrev two_decimals : Stand → Stand → Bool
  two_decimals one other = has_decimal (one ∷ other ∷ [])

  both_same : (around : Surroundings) (one other : Expr) (x y : Stand) → IsSuited around one x → IsSuited around other y
      → (is_decimal (meant_by ground.facts around one) || (is_decimal
      (meant_by ground.facts around other) || false)) ≡ two_decimals x y
  both_same around one other x y first second =
      λ i. one_decimal around one x first i || (one_decimal around other y second i || false)

  tested_equal : (around : Surroundings) (a b c : Expr) (x y z : Stand) (decimal : Bool)
      → (is_decimal (meant_by ground.facts around b) || (is_decimal (meant_by ground.facts around c) || false)) ≡ decimal
      → Answered around (asked_among decimal constraints.TestEq) 0 None (a ∷ b ∷ c ∷ []) → AreSuited around (a ∷ b ∷ c ∷ [])
      (x ∷ y ∷ z ∷ []) → AreArguments model (OfRule reading.pred rule) constraints.TestEq
      (stand_term x ∷ compared_terms (y ∷ z ∷ []))
  tested_equal around a b c x y z true are answered suited =
      let has : two_decimals y z ≡ true = sym (both_same around b c y z suited.1.0 suited.1.1.0) ∙ are in (
        truth_kind around a x suited.0 answered.0,
        subst (λ (d : Bool). Comparable (map (compared_term d) (y ∷ z ∷ []))) (sym has)
            (comparable value_kinds.Float (map (compared_term true) (y ∷ z ∷ []))
            (of_kind kinds.Float around (asked_among true constraints.TestEq) 1 None (b ∷ c ∷ []) (y ∷ z ∷ []) (refl, (refl, tt))
            answered.1 suited.1)),
      )
  tested_equal around a b c x y z false are answered suited =
      let has : two_decimals y z ≡ false = sym (both_same around b c y z suited.1.0 suited.1.1.0) ∙ are in
      let it = all_same IsFor IsPredFor files ground reading model things rule setting once around
      (asked_among false constraints.TestEq) 1 None (b ∷ c ∷ []) (y ∷ z ∷ []) refl (refl, (refl, tt)) answered.1 suited.1
      has in (
        truth_kind around a x suited.0 answered.0,
        subst (λ (d : Bool). Comparable (map (compared_term d) (y ∷ z ∷ []))) (sym has)
            (comparable it.0 (map (compared_term false) (y ∷ z ∷ [])) it.1),
      )

  tested_ordered : (around : Surroundings) (a b c : Expr) (x y z : Stand) (decimal : Bool)
      → (is_decimal (meant_by ground.facts around b) || (is_decimal (meant_by ground.facts around c) || false)) ≡ decimal
      → Answered around (asked_among decimal constraints.TestLeq) 0 None (a ∷ b ∷ c ∷ []) → AreSuited around (a ∷ b ∷ c ∷ [])
      (x ∷ y ∷ z ∷ []) → AreArguments model (OfRule reading.pred rule) constraints.TestLeq
      (stand_term x ∷ compared_terms (y ∷ z ∷ []))
  tested_ordered around a b c x y z true are answered suited =
      let has : two_decimals y z ≡ true = sym (both_same around b c y z suited.1.0 suited.1.1.0) ∙ are in (
        truth_kind around a x suited.0 answered.0,
        subst (λ (d : Bool). Numbers (map (compared_term d) (y ∷ z ∷ []))) (sym has)
            (numbers value_kinds.Float (map (compared_term true) (y ∷ z ∷ [])) tt
            (of_kind kinds.Float around (asked_among true constraints.TestLeq) 1 None (b ∷ c ∷ []) (y ∷ z ∷ [])
            (refl, (refl, tt)) answered.1 suited.1)),
      )
  tested_ordered around a b c x y z false are answered suited =
      let has : two_decimals y z ≡ false = sym (both_same around b c y z suited.1.0 suited.1.1.0) ∙ are in (
        truth_kind around a x suited.0 answered.0,
        subst (λ (d : Bool). Numbers (map (compared_term d) (y ∷ z ∷ []))) (sym has)
            (numbers value_kinds.Int (map (compared_term false) (y ∷ z ∷ [])) tt
            (of_kind kinds.Int around (asked_among false constraints.TestLeq) 1 None (b ∷ c ∷ []) (y ∷ z ∷ []) (refl, (refl, tt))
            answered.1 suited.1)),
      )

  -- ---- products

  -- a factor is a number that is written out, other than 0
  factor_fits : (around : Surroundings) (expr : Expr) (stand : Stand) (first product : Term) → IsSuited around expr stand
      → fault_if (not (is_factor expr)) faults.WrongType ≡ None → Numbers (first ∷ product ∷ [])
      → AreArguments model (OfRule reading.pred rule) constraints.MulEq (first ∷ stand_term stand ∷ product ∷ [])
  factor_fits around expr stand first product suited none are =
      let it = factor_written expr (by (is_factor expr) none) in
      let own = suited.written it.number it.written in
      subst (λ (s : Stand). AreArguments model (OfRule reading.pred rule) constraints.MulEq
      (first ∷ stand_term s ∷ product ∷ [])) (sym own.0) (are, own.1, it.some)
    where
      by : (b : Bool) → fault_if (not b) faults.WrongType ≡ None → b ≡ true
      by true told = refl
      by false told = absurd (none-some faults.WrongType (sym told))

  multiplied : (around : Surroundings) (a b c : Expr) (x y z : Stand) (decimal : Bool)
      → (is_decimal (meant_by ground.facts around a) || (is_decimal (meant_by ground.facts around c) || false)) ≡ decimal
      → Answered around (asked_among decimal constraints.MulEq) 0 None (a ∷ b ∷ c ∷ []) → AreSuited around (a ∷ b ∷ c ∷ [])
      (x ∷ y ∷ z ∷ []) → AreArguments model (OfRule reading.pred rule) constraints.MulEq
      (compared_term (two_decimals x z) x ∷ stand_term y ∷ compared_term (two_decimals x z) z ∷ [])
  multiplied around a b c x y z true are answered suited =
      let has : two_decimals x z ≡ true = sym (both_same around a c x z suited.0 suited.1.1.0) ∙ are in
      let kind = wanted_kind IsFor IsPredFor files ground reading model things rule setting once kinds.Float around in
      factor_fits around b y (compared_term (two_decimals x z) x) (compared_term (two_decimals x z) z) suited.1.0 answered.1.0
      (subst (λ (d : Bool). Numbers (compared_term d x ∷ compared_term d z ∷ [])) (sym has)
      (numbers value_kinds.Float (compared_term true x ∷ compared_term true z ∷ []) tt
      (kind a x suited.0 answered.0, (kind c z suited.1.1.0 answered.1.1.0, tt))))
  multiplied around a b c x y z false are answered suited =
      let has : two_decimals x z ≡ false = sym (both_same around a c x z suited.0 suited.1.1.0) ∙ are in
      let kind = wanted_kind IsFor IsPredFor files ground reading model things rule setting once kinds.Int around in
      factor_fits around b y (compared_term (two_decimals x z) x) (compared_term (two_decimals x z) z) suited.1.0 answered.1.0
      (subst (λ (d : Bool). Numbers (compared_term d x ∷ compared_term d z ∷ [])) (sym has)
      (numbers value_kinds.Int (compared_term false x ∷ compared_term false z ∷ []) tt
      (kind a x suited.0 answered.0, (kind c z suited.1.1.0 answered.1.1.0, tt))))

  -- ---- constraints

  abbrev Fit : List Item → Type 0
  Fit some = EachFit model reading.pred rule some

  three : (some : List Expr) → (length some == 3) ≡ true → (a b c : Expr) × (some ≡ a ∷ b ∷ c ∷ [])
  three [] is = absurd (let never : false ≡ true = is in cc)
  three (a ∷ []) is = absurd (let never : false ≡ true = is in cc)
  three (a ∷ b ∷ []) is = absurd (let never : false ≡ true = is in cc)
  three (a ∷ b ∷ c ∷ []) is = (a, b, c, refl)
  three (a ∷ b ∷ c ∷ d ∷ more) is =
      absurd (let long : length (a ∷ b ∷ c ∷ d ∷ more) ≡ 3 = eqb-true (length (a ∷ b ∷ c ∷ d ∷ more)) 3 is in omega (arith, long))

  -- three arguments, in both lists
  abbrev OfThree : (Kind) → Type 0
  OfThree kind =
      (around : Surroundings) (a b c : Expr) (x y z : Stand) → Answered around
      (asked_among (are_decimals ground.facts around kind 0 (a ∷ b ∷ c ∷ [])) kind) 0 None (a ∷ b ∷ c ∷ [])
      → AreSuited around (a ∷ b ∷ c ∷ []) (x ∷ y ∷ z ∷ []) → Fit (constraint_items kind (constraint_terms kind (x ∷ y ∷ z ∷ [])))

  of_three : (kind : Kind) → OfThree kind → (around : Surroundings) (some : List Expr) (given : List Stand)
      → (length some == 3) ≡ true → Answered around (asked_among (are_decimals ground.facts around kind 0 some) kind) 0 None some
      → AreSuited around some given → Fit (constraint_items kind (constraint_terms kind given))
  of_three kind so around some given long answered suited = by (three some long)
    where
      matched : (a b c : Expr) (given : List Stand)
          → Answered around (asked_among (are_decimals ground.facts around kind 0 (a ∷ b ∷ c ∷ [])) kind) 0 None (a ∷ b ∷ c ∷ [])
          → AreSuited around (a ∷ b ∷ c ∷ []) given → Fit (constraint_items kind (constraint_terms kind given))
      matched a b c [] told suits = absurd suits
      matched a b c (x ∷ []) told suits = absurd suits.1
      matched a b c (x ∷ y ∷ []) told suits = absurd suits.1.1
      matched a b c (x ∷ y ∷ z ∷ []) told suits = so around a b c x y z told suits
      matched a b c (x ∷ y ∷ z ∷ w ∷ more) told suits = absurd suits.1.1.1

      by : (a b c : Expr) × (some ≡ a ∷ b ∷ c ∷ []) → Fit (constraint_items kind (constraint_terms kind given))
      by it =
          matched it.0 it.1 it.2 given
          (subst (λ (list : List Expr). Answered around (asked_among (are_decimals ground.facts around kind 0 list) kind) 0 None
          list) it.3 answered) (subst (λ (list : List Expr). AreSuited around list given) it.3 suited)

  -- a constraint with which nothing is wrong
  pub constraint_fits : (around : Surroundings) (kind : Kind) (some : List Expr) (given : List Stand)
      → takes kind (length some) ≡ true → Answered around (asked_among (are_decimals ground.facts around kind 0 some) kind) 0
      None some → AreSuited around some given → Fit (constraint_items kind (constraint_terms kind given))
  constraint_fits around constraints.Eq some given taken answered suited =
      let it = all_comparable constraints.Eq (λ place. refl) (λ place. refl) around some given
      (are_decimals ground.facts around constraints.Eq 0 some) refl answered suited in
      (λ plain. comparable it.0 (compared_terms given) it.1, tt)
  constraint_fits around constraints.Neq some given taken answered suited =
      let it = all_comparable constraints.Neq (λ place. refl) (λ place. refl) around some given
      (are_decimals ground.facts around constraints.Neq 0 some) refl answered suited in
      (λ plain. comparable it.0 (compared_terms given) it.1, tt)
  constraint_fits around constraints.AllDiff some given taken answered suited =
      let it = all_comparable constraints.AllDiff (λ place. refl) (λ place. refl) around some given
      (are_decimals ground.facts around constraints.AllDiff 0 some) refl answered suited in differing_fit model reading.pred
      rule it.0 (compared_terms given) it.1
  constraint_fits around constraints.Lt some given taken answered suited = (
    λ plain. all_numbers constraints.Lt (λ place. refl) (λ place. refl) around some given
        (are_decimals ground.facts around constraints.Lt 0 some) refl answered suited,
    tt,
  )
  constraint_fits around constraints.Leq some given taken answered suited = (
    λ plain. all_numbers constraints.Leq (λ place. refl) (λ place. refl) around some given
        (are_decimals ground.facts around constraints.Leq 0 some) refl answered suited,
    tt,
  )
  constraint_fits around constraints.AddEq some given taken answered suited = (
    λ plain. all_numbers constraints.AddEq (λ place. refl) (λ place. refl) around some given
        (are_decimals ground.facts around constraints.AddEq 0 some) refl answered suited,
    tt,
  )
  constraint_fits around constraints.MulEq some given taken answered suited =
      of_three constraints.MulEq (λ around a b c x y z told suits. (
        λ plain. multiplied around a b c x y z (are_decimals ground.facts around constraints.MulEq 0 (a ∷ b ∷ c ∷ [])) refl told
            suits,
        tt,
      )) around some given
      taken answered suited
  constraint_fits around constraints.TestEq some given taken answered suited =
      of_three constraints.TestEq (λ around a b c x y z told suits. (
        λ plain. tested_equal around a b c x y z (are_decimals ground.facts around constraints.TestEq 0 (a ∷ b ∷ c ∷ [])) refl
            told suits,
        tt,
      )) around some
      given taken answered suited
  constraint_fits around constraints.TestLeq some given taken answered suited =
      of_three constraints.TestLeq (λ around a b c x y z told suits. (
        λ plain. tested_ordered around a b c x y z (are_decimals ground.facts around constraints.TestLeq 0 (a ∷ b ∷ c ∷ [])) refl
            told suits,
        tt,
      )) around some
      given taken answered suited
  constraint_fits around (constraints.Field number) some given taken answered suited =
      absurd (let never : false ≡ true = taken in cc)

  -- ---- two that are compared

  -- both are of one kind, if nothing is wrong with them as they are compared
  pub both_fit : (around : Surroundings) (one other : Expr) (x y : Stand) (decimal : Bool)
      → (is_decimal (meant_by ground.facts around one) || is_decimal (meant_by ground.facts around other)) ≡ decimal
      → Answered around (λ place. if decimal then asked.Of kinds.Float else asked.Compared) 0 None (one ∷ other ∷ [])
      → IsSuited around one x → IsSuited around other y → Comparable (compared_terms (x ∷ y ∷ []))
  both_fit around one other x y true are answered first second =
      let has : two_decimals x y ≡ true = sym (both_same around one other x y first second)
      ∙ (or_false (is_decimal (meant_by ground.facts around one)) (is_decimal (meant_by ground.facts around other)) ∙ are) in
      subst (λ (d : Bool). Comparable (map (compared_term d) (x ∷ y ∷ []))) (sym has)
      (comparable value_kinds.Float (map (compared_term true) (x ∷ y ∷ []))
      (of_kind kinds.Float around (λ place. asked.Of kinds.Float) 0 None (one ∷ other ∷ []) (x ∷ y ∷ []) (refl, (refl, tt))
      answered (first, (second, tt))))
    where
      or_false : (a b : Bool) → (a || (b || false)) ≡ (a || b)
      or_false true b = refl
      or_false false true = refl
      or_false false false = refl
  both_fit around one other x y false are answered first second =
      let has : two_decimals x y ≡ false = sym (both_same around one other x y first second)
      ∙ (or_false (is_decimal (meant_by ground.facts around one)) (is_decimal (meant_by ground.facts around other)) ∙ are) in
      let it = all_same IsFor IsPredFor files ground reading model things rule setting once around (λ place. asked.Compared) 0
      None (one ∷ other ∷ []) (x ∷ y ∷ []) refl (refl, (refl, tt)) answered (first, (second, tt)) has in
      subst (λ (d : Bool). Comparable (map (compared_term d) (x ∷ y ∷ []))) (sym has)
      (comparable it.0 (map (compared_term false) (x ∷ y ∷ [])) it.1)
    where
      or_false : (a b : Bool) → (a || (b || false)) ≡ (a || b)
      or_false true b = refl
      or_false false true = refl
      or_false false false = refl

  -- a truth is of the kind of 1
  pub truth_fits : (around : Surroundings) (expr : Expr) (stand : Stand) → IsSuited around expr stand
      → unfit_value_fault (Some kinds.Bool) expr (meant_by ground.facts around expr) ≡ None
      → Comparable (stand_term stand ∷ terms.Lit (pos 1) ∷ [])
  truth_fits around expr stand suited none =
      comparable value_kinds.Bool (stand_term stand ∷ terms.Lit (pos 1) ∷ []) (
        truth_kind around expr stand suited none,
        (inr refl, tt),
      )
