-- A list makes one set, or there is one reason that it makes none.
use Rattle.std.proofs.Common.{◌≡◌, ℤ, pos, List, [], length, get_or, Ok, Err, refl, sym, ap, ◌∙◌, subst, arith}
use Rattle.std.specs.Prelude.{Contains, All}
use Rattle.std.specs.List.{Any}
use Rattle.std.proofs.lemmas.List.Elements.{All-contains, Contains-get_or}
use Rattle.domain_core.specs.Domain.{Set, IsValue}
use Rattle.domain_core.specs.Lists.{AreMembersOf, HasTooMany}
use Rattle.domain_core.specs.Laws.{MakesOne}
use Rattle.domain_core.specs.declared.SetFault.TheVariants.{Empty, OutOfRange, TooMany, Memory}
use Rattle.domain_core.proofs.Ascending.{contains_none, fewer, same_ascending}

-- each reason excludes a set and the other reasons

set_not_empty : (values members : List ℤ) → AreMembersOf values members → values ≡ [] → ⊥
set_not_empty values members are none =
    let has = (are.same (get_or members 0 (pos 0))).0 (Contains-get_or members 0 (pos 0) are.are.some) in
    contains_none _ (subst (λ list. Contains list (get_or members 0 (pos 0))) none has)

set_in_range : (values members : List ℤ) → AreMembersOf values members → Any (λ value. IsValue value → ⊥) values → ⊥
set_in_range values members are out = out.4 (All-contains IsValue members out.1 are.are.values ((are.same out.1).1 (out.0, out.2, out.3)))

set_not_many : (values members : List ℤ) → AreMembersOf values members → HasTooMany values → ⊥
set_not_many values members are many =
    let le = fewer many.distinct members many.ascending are.are.ascending (λ v has. (are.same v).1 (All-contains (Contains values) many.distinct v many.among has)) in
    omega (arith, le, many.many, are.are.few)

empty_in_range : (values : List ℤ) → values ≡ [] → Any (λ value. IsValue value → ⊥) values → ⊥
empty_in_range values none out = omega (arith, out.2, ap length none)

empty_not_many : (values : List ℤ) → values ≡ [] → HasTooMany values → ⊥
empty_not_many values none many =
    let first = many.among 0 (pos 0) (omega (arith, many.many)) in
    omega (arith, first.1, ap length none)

range_not_many : (values : List ℤ) → All IsValue values → Any (λ value. IsValue value → ⊥) values → ⊥
range_not_many values all out = out.4 (All-contains IsValue values out.1 all (out.0, out.2, out.3))

pub makes_one : MakesOne
makes_one values (Ok one) (Ok other) p q one_said other_said =
    let members = same_ascending p.0 q.0 p.2.are.ascending q.2.are.ascending (λ v has. (q.2.same v).1 ((p.2.same v).0 has)) (λ v has. (p.2.same v).1 ((q.2.same v).0 has)) in
    ap Ok (p.1 ∙ ap Set members ∙ sym q.1)
makes_one values (Ok one) (Err Empty) p q one_said other_said = absurd (set_not_empty values p.0 p.2 q)
makes_one values (Ok one) (Err OutOfRange) p q one_said other_said = absurd (set_in_range values p.0 p.2 q)
makes_one values (Ok one) (Err TooMany) p q one_said other_said = absurd (set_not_many values p.0 p.2 q.1)
makes_one values (Ok one) (Err Memory) p q one_said other_said = absurd (other_said refl)
makes_one values (Err Empty) (Ok other) p q one_said other_said = absurd (set_not_empty values q.0 q.2 p)
makes_one values (Err Empty) (Err Empty) p q one_said other_said = refl
makes_one values (Err Empty) (Err OutOfRange) p q one_said other_said = absurd (empty_in_range values p q)
makes_one values (Err Empty) (Err TooMany) p q one_said other_said = absurd (empty_not_many values p q.1)
makes_one values (Err Empty) (Err Memory) p q one_said other_said = absurd (other_said refl)
makes_one values (Err OutOfRange) (Ok other) p q one_said other_said = absurd (set_in_range values q.0 q.2 p)
makes_one values (Err OutOfRange) (Err Empty) p q one_said other_said = absurd (empty_in_range values q p)
makes_one values (Err OutOfRange) (Err OutOfRange) p q one_said other_said = refl
makes_one values (Err OutOfRange) (Err TooMany) p q one_said other_said = absurd (range_not_many values q.0 p)
makes_one values (Err OutOfRange) (Err Memory) p q one_said other_said = absurd (other_said refl)
makes_one values (Err TooMany) (Ok other) p q one_said other_said = absurd (set_not_many values q.0 q.2 p.1)
makes_one values (Err TooMany) (Err Empty) p q one_said other_said = absurd (empty_not_many values q p.1)
makes_one values (Err TooMany) (Err OutOfRange) p q one_said other_said = absurd (range_not_many values p.0 q)
makes_one values (Err TooMany) (Err TooMany) p q one_said other_said = refl
makes_one values (Err TooMany) (Err Memory) p q one_said other_said = absurd (other_said refl)
makes_one values (Err Memory) other p q one_said other_said = absurd (one_said refl)
