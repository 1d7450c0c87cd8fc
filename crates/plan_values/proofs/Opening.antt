-- Which side of a guard is open by the values of a plan.
use Rattle.std.proofs.Common.{◌≡◌, ◌≢◌, ℤ, Bool, true, false, not, refl, sym, ap, subst, arith}
use Rattle.std.specs.Prelude.{MatchBool, ◌↔◌}
use Rattle.std.proofs.lemmas.Int.{ints}
use Rattle.domain_core.specs.Domain.{Domain, Range, Has}
use Rattle.model_core.specs.declared.item.Term.{Term}
use Rattle.model_core.specs.declared.model.Model.{Model}
use Rattle.model_core.specs.declared.rule.Guard.{Guard}
use Rattle.model_core.specs.declared.rule.Guard.TheVariants.{Equal, Differ}
use Rattle.model_core.specs.declared.rule.Side.{Side}
use Rattle.model_core.specs.declared.rule.Side.TheVariants.{Then, Otherwise}
use Rattle.plan_defs.specs.declared.plan.Plan.{Plan}
use Rattle.plan_defs.specs.Plans.{plan_situation}
use Rattle.plan_defs.specs.Support.{Opens, MayBe, Selects, one_side, other_side, side_when}
use Rattle.plan_defs.specs.Terms.{Context, Argument, Value, Variable, HasDomain}
use Rattle.plan_defs.specs.Valid.{HasArgumentValue}
use Rattle.plan_values.specs.Keys.{IsOrderly}
use Rattle.plan_values.specs.Openings.{IsRead, AreRead}
use Rattle.plan_defs.proofs.Meanings.{means_once}
use Rattle.plan_values.proofs.Valuing.{value_once}

-- with two values a guard opens one side
selects_once : (guard : Guard) (side found : Side) (v w : ℤ) → Selects guard side v w → Selects guard found v w → side ≡ found
selects_once (Equal one other) Then Then v w p q = refl
selects_once (Equal one other) Then Otherwise v w p q = absurd (q p)
selects_once (Equal one other) Otherwise Then v w p q = absurd (p q)
selects_once (Equal one other) Otherwise Otherwise v w p q = refl
selects_once (Differ one other) Then Then v w p q = refl
selects_once (Differ one other) Then Otherwise v w p q = absurd (p q)
selects_once (Differ one other) Otherwise Then v w p q = absurd (q p)
selects_once (Differ one other) Otherwise Otherwise v w p q = refl

has_itself : (v : ℤ) → Has (Range v v) v
has_itself v = (omega (arith, ints), omega (arith, ints))

only_itself : (v w : ℤ) → Has (Range v v) w → v ≡ w
only_itself v w has = omega (arith, ints, has.0, has.1)

module _ (plan : Plan) where
  -- what an argument may be in the situation of a plan is its value
  domain_value : (argument : Argument) (domain : Domain) → HasDomain ((plan_situation plan).gives) argument domain
      → (value : ℤ) × HasArgumentValue plan argument value × (domain ≡ Range value value)
  domain_value (Value value) domain has = (value, refl, has)
  domain_value (Variable name) domain has = has

  value_domain : (argument : Argument) (value : ℤ) → HasArgumentValue plan argument value → HasDomain ((plan_situation plan).gives) argument (Range value value)
  value_domain (Value value) other has = ap (λ (v : ℤ). Range v v) has
  value_domain (Variable name) value has = (value, has, refl)

module _ (model : Model) (plan : Plan) (ok : IsOrderly plan) (context : Context) where
  reads : (term : Term) (domain : Domain) → MayBe model (plan_situation plan) context term domain → (value : ℤ) × IsRead model plan context term value × Has domain value
  reads term domain may =
      let found = domain_value plan may.argument domain may.has in (
        found.0,
        ((may.argument, may.means, may.counts), (may.argument, may.means, found.1)),
        subst (λ (d : Domain). Has d found.0) (sym found.2) (has_itself found.0),
      )

  may_be : (term : Term) (value : ℤ) → IsRead model plan context term value → MayBe model (plan_situation plan) context term (Range value value)
  may_be term value read = record {
    argument = read.0.0;
    means = read.0.1;
    counts = read.0.2;
    has = value_domain plan read.0.0 value
        (subst (λ (a : Argument). HasArgumentValue plan a value) (means_once context term read.1.0 read.0.0 read.1.1 read.0.1) read.1.2);
  }

  -- an open side is selected by the values that are read
  opens_reads : (guard : Guard) (side : Side) → Opens model (plan_situation plan) context guard side
      → (v w : ℤ) × (AreRead model plan context (one_side guard) (other_side guard) v w × Selects guard side v w)
  opens_reads guard side opens =
      let first = reads (one_side guard) opens.one opens.is_one in
      let second = reads (other_side guard) opens.other opens.is_other in
      (first.0, second.0, ((first.1, second.1), opens.always first.0 second.0 first.2 second.2))

  reads_opens : (guard : Guard) (side : Side) (v w : ℤ) → AreRead model plan context (one_side guard) (other_side guard) v w → Selects guard side v w
      → Opens model (plan_situation plan) context guard side
  reads_opens guard side v w read selects = record {
    one = Range v v;
    other = Range w w;
    is_one = may_be (one_side guard) v read.0;
    is_other = may_be (other_side guard) w read.1;
    always = λ v' w' has has'.
        subst (λ (x : ℤ). Selects guard side x w') (only_itself v v' has)
        (subst (λ (y : ℤ). Selects guard side v y) (only_itself w w' has') selects);
  }

  opened_is : (guard : Guard) (found : Side) (v w : ℤ) → AreRead model plan context (one_side guard) (other_side guard) v w → Selects guard found v w
      → (side : Side) → Opens model (plan_situation plan) context guard side ↔ (side ≡ found)
  opened_is guard found v w read selects side = (
    λ opens. (
        let other = opens_reads guard side opens in
        let one = value_once plan ok context (one_side guard) other.0 v other.2.0.0.1 read.0.1 in
        let two = value_once plan ok context (other_side guard) other.1 w other.2.0.1.1 read.1.1 in
        selects_once guard side found v w
        (subst (λ (x : ℤ). Selects guard side x w) one (subst (λ (y : ℤ). Selects guard side other.0 y) two other.2.1)) selects),
    λ same. reads_opens guard side v w read (subst (λ (s : Side). Selects guard s v w) (sym same) selects),
  )

  abbrev Found : Guard → Side → Type 0
  Found guard found = (side : Side) → Opens model (plan_situation plan) context guard side ↔ (side ≡ found)

  -- the two terms are read, and this says whether their values are one
  abbrev Compared : Term → Term → Bool → Type 0
  Compared one other same = (v w : ℤ) × (AreRead model plan context one other v w × MatchBool same (v ≡ w) (v ≢ w))

  equal_is : (one other : Term) (same : Bool) → Compared one other same → Found (Equal one other) (side_when same)
  equal_is one other true (v, w, (read, is)) = opened_is (Equal one other) Then v w read is
  equal_is one other false (v, w, (read, isnt)) = opened_is (Equal one other) Otherwise v w read isnt

  differ_is : (one other : Term) (same : Bool) → Compared one other same → Found (Differ one other) (side_when (not same))
  differ_is one other true (v, w, (read, is)) = opened_is (Differ one other) Otherwise v w read is
  differ_is one other false (v, w, (read, isnt)) = opened_is (Differ one other) Then v w read isnt

  pub opened_equal : (guard : Guard) (one other : Term) (same : Bool) (found : Side) → guard ≡ Equal one other → found ≡ side_when same → Compared one other same → Found guard found
  opened_equal guard one other same found is side compared =
      subst (λ (g : Guard). Found g found) (sym is) (subst (Found (Equal one other)) (sym side) (equal_is one other same compared))

  pub opened_differ : (guard : Guard) (one other : Term) (same : Bool) (found : Side) → guard ≡ Differ one other → found ≡ side_when (not same) → Compared one other same → Found guard found
  opened_differ guard one other same found is side compared =
      subst (λ (g : Guard). Found g found) (sym is) (subst (Found (Differ one other)) (sym side) (differ_is one other same compared))

  pub none_opened : (guard : Guard) (one other : Term) → one_side guard ≡ one → other_side guard ≡ other → ((v w : ℤ) → AreRead model plan context one other v w → ⊥)
      → (side : Side) → Opens model (plan_situation plan) context guard side → ⊥
  none_opened guard one other first second none side opens =
      let read = opens_reads guard side opens in
      none read.0 read.1
      (subst (λ (x : Term). AreRead model plan context x other read.0 read.1) first
      (subst (λ (y : Term). AreRead model plan context (one_side guard) y read.0 read.1) second read.2.0))

  pub same_answer : (one other : Term) (v w v' w' : ℤ) (answer : Bool) → v' ≡ v → w' ≡ w → IsRead model plan context one v → IsRead model plan context other w
      → MatchBool answer (v' ≡ w') (v' ≢ w') → (x y : ℤ) × (AreRead model plan context one other x y × MatchBool answer (x ≡ y) (x ≢ y))
  same_answer one other v w v' w' answer first second read read' is =
      (v, w, ((read, read'), subst (λ (x : ℤ). MatchBool answer (x ≡ w) (x ≢ w)) first (subst (λ (y : ℤ). MatchBool answer (v' ≡ y) (v' ≢ y)) second is)))
