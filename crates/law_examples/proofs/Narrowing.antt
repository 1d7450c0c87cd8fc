-- A constraint that is posted narrows: where x is 1 and at most y, y isn't 0.
use Rattle.std.proofs.Common.{◌≡◌, ℕ, ◌≤◌, List, [], ◌∷◌, ◌++◌, ℤ, pos, ◌≤ℤ◌, inl, inr, subst, refl, arith}
use Rattle.std.specs.Prelude.{Contains}
use Rattle.std.specs.List.{AllZip}
use Rattle.std.proofs.lemmas.Int.{ints}
use Rattle.domain_core.specs.Consistency.{Ends, Admits}
use Rattle.domain_core.specs.Constraints.{HoldsOf, AgreeOn}
use Rattle.domain_core.specs.Domain.{Domain, Range, Set, IsWithin, IsSingle, IsTested, Has}
use Rattle.domain_core.specs.declared.kind.Kind.TheVariants.{Leq}
use Rattle.eu_name.specs.declared.name.VarName.TheVariants.{Global}
use Rattle.eu_name.proofs.Ordered.{contains_head, contains_later, contains_cases, contains_none}
use Rattle.model_core.specs.declared.decision.Decision.{Decision}
use Rattle.model_core.specs.Decided.{IsTaken}
use Rattle.model_core.specs.State.{State, Gives, IsBelow, GivesWithin}
use Rattle.plan_defs.specs.Claims.{at_most}
use Rattle.plan_defs.specs.Closure.{IsClosed, IsLeast}
use Rattle.plan_defs.specs.Consistency.{IsClaimConsistent, HasField}
use Rattle.plan_defs.specs.Terms.{Argument, Variable, ArgumentCounts}
use Rattle.law_examples.specs.Globals.{declared_x, with_two, up_to}
use Rattle.law_examples.specs.Posted.{the_x, the_y, leq}
use Rattle.law_examples.specs.Worlds.{declared_y, free_two, between, x_is}
use Rattle.law_examples.proofs.Lists.{only_member}
use Rattle.law_examples.proofs.Pairs.{is_about, agreeing}
use Rattle.law_examples.proofs.Posted.{both, global_counts}
use Rattle.law_examples.proofs.Settling.{range_within, x_within, y_within}
use Rattle.law_examples.proofs.Tuples.{two_consistent}
use Rattle.law_examples.proofs.TwoVariables.{gives_first, gives_second, one_of_two, two_closed, two_ordered}
use Rattle.law_examples.proofs.Variables.{IsGranted, no_item, no_object}

abbrev x_argument : Argument
x_argument = Variable (Global 0)

abbrev y_argument : Argument
y_argument = Variable (Global 1)

-- x is 1, and at most y
abbrev posting : List Decision
posting = x_is 1 ∷ leq the_x the_y ∷ []

one_there : Contains posting (x_is 1)
one_there = contains_head (x_is 1) (leq the_x the_y ∷ [])

leq_there : Contains posting (leq the_x the_y)
leq_there = contains_later (x_is 1) (leq the_x the_y) (leq the_x the_y ∷ []) (contains_head (leq the_x the_y) [])

-- ---- states in which x is 1

module _ (low : ℕ) (few : low ≤ 2) where
  -- y is this number or more
  abbrev from_low : State
  from_low = with_two (between 1 1) (between low 2)

  x_is_one : IsGranted free_two from_low (x_is 1)
  x_is_one domain gives = elim (one_of_two (between 1 1) (between low 2) (Global 0) domain gives) [
    | inl is ↦ subst (λ d. IsSingle d (pos 1)) is.1 (record { has = (omega (arith, ints), omega (arith, ints)); only = λ v has. omega (arith, ints, has.0, has.1) })
    | inr is ↦ (let none = is.0 in absurd (cc))
  ]

  from_low_closed : (decisions : List Decision) → ((decision : Decision) → Contains decisions decision → IsGranted free_two from_low decision)
      → IsClosed free_two decisions from_low
  from_low_closed decisions granted =
      two_closed [] [] declared_x declared_y [] decisions (between 1 1) (between low 2) (up_to 2) (up_to 2) (no_object (declared_x ∷ declared_y ∷ []) []) refl refl
      ((omega (arith, ints), omega (arith, ints)), (omega (arith, ints), omega (arith, ints)), omega (arith, ints))
      ((omega (arith, ints), omega (arith, ints, few)), (omega (arith, ints), omega (arith, ints)), omega (arith, ints, few))
      (record { kind = tt; values = λ v has. (omega (arith, ints, has.0), omega (arith, ints, has.1)) })
      (record { kind = tt; values = λ v has. (omega (arith, ints, has.0), omega (arith, ints, has.1)) })
      granted (no_item free_two decisions from_low refl)

pub unposted_closed : IsClosed free_two (x_is 1 ∷ []) (with_two (between 1 1) (up_to 2))
unposted_closed =
    from_low_closed 0 (omega arith) (x_is 1 ∷ []) (λ decision c.
    subst (IsGranted free_two (from_low 0 (omega arith))) (only_member (x_is 1) decision c) (x_is_one 0 (omega arith)))

-- ---- with the constraint

x_below_y : IsClaimConsistent free_two (with_two (between 1 1) (between 1 2)) (at_most x_argument y_argument)
x_below_y =
    agreeing free_two (with_two (between 1 1) (between 1 2)) (two_ordered (between 1 1) (between 1 2)) x_argument y_argument Leq (between 1 1) (between 1 2)
    (gives_first (between 1 1) (between 1 2)) (gives_second (between 1 1) (between 1 2))
    (two_consistent Ends (HoldsOf Leq) (between 1 1) (between 1 2)
    (λ v tested. ([], pos 2 ∷ [], tt, ((omega (arith, ints), omega (arith, ints)), tt), below_2 v tested))
    (λ v tested. (pos 1 ∷ [], [], ((omega (arith, ints), omega (arith, ints)), tt), tt, above_1 v tested)))
  where
    below_2 : (v : ℤ) → IsTested (between 1 1) v → v ≤ℤ pos 2
    below_2 v (inl e) = omega (arith, ints, e)
    below_2 v (inr e) = omega (arith, ints, e)

    above_1 : (v : ℤ) → IsTested (between 1 2) v → pos 1 ≤ℤ v
    above_1 v (inl e) = omega (arith, ints, e)
    above_1 v (inr e) = omega (arith, ints, e)

abbrev granted : Decision → Type 0
granted = IsGranted free_two (with_two (between 1 1) (between 1 2))

posted_closed : IsClosed free_two posting (with_two (between 1 1) (between 1 2))
posted_closed =
    from_low_closed 1 (omega arith) posting (λ decision c. elim (contains_cases (x_is 1) decision (leq the_x the_y ∷ []) c) [
      | inl same ↦ subst granted same (x_is_one 1 (omega arith))
      | inr later ↦ subst granted (only_member (leq the_x the_y) decision later) x_below_y
    ])

-- in each closed state y is 1 or more
module _ (other : State) (p : IsClosed free_two posting other) where
  x_one : (domain : Domain) → Gives other (Global 0) domain → (v : ℤ) → Has domain v → v ≡ pos 1
  x_one domain gives v has = (p.consistent.respected (x_is 1) one_there domain gives).only v has

  y_high : (domain : Domain) → Gives other (Global 1) domain → (v : ℤ) → Has domain v → pos 1 ≤ℤ v
  y_high domain gives v has =
      let one = (p.consistent.is_state.variables (Global 0)).0 (omega arith) in
      high one.0 domain (x_within [] posting other p one.0 one.1) (y_within [] posting other p domain gives) (x_one one.0 one.1) (agree one.0 one.1) has
    where
      agree : (one : Domain) → Gives other (Global 0) one → AgreeOn (HasField free_two) Leq (one ∷ domain ∷ [])
      agree one given =
          is_about free_two other p.consistent.is_state.order x_argument y_argument Leq one domain given gives
          (p.consistent.claims (at_most x_argument y_argument) (inr (inr (inr (inr (inr (record {
            decision = leq the_x the_y;
            stands = leq_there;
            posts = refl;
            counts = both (ArgumentCounts free_two (IsTaken posting)) x_argument y_argument (global_counts free_two posting 0) (global_counts free_two posting 1);
          })))))))

      no_less : (lo hi least : ℤ) → ((w : ℤ) → Has (Range lo hi) w → w ≡ pos 1) → (left right : List ℤ) → AllZip (Admits Ends) (Range lo hi ∷ []) left
          → AllZip (Admits Ends) [] right → HoldsOf Leq (left ++ least ∷ right) → pos 1 ≤ℤ least
      no_less lo hi least only [] right before after h = absurd before
      no_less lo hi least only (w ∷ more ∷ left) right before after h = absurd before.1
      no_less lo hi least only (w ∷ []) (u ∷ right) before after h = absurd after
      no_less lo hi least only (w ∷ []) [] before after h = let same = only w before.0 in omega (arith, ints, same, h)

      high : (one two : Domain) → IsWithin one (up_to 2) → IsWithin two (up_to 2) → ((w : ℤ) → Has one w → w ≡ pos 1)
          → AgreeOn (HasField free_two) Leq (one ∷ two ∷ []) → Has two v → pos 1 ≤ℤ v
      high (Set members) two within within' only agree has = absurd within.kind
      high (Range lo hi) (Set members) within within' only agree has = absurd within'.kind
      high (Range lo hi) (Range low top) within within' only agree has =
          let found = agree (Range lo hi ∷ []) (Range low top) [] low refl (inl refl) in
          let more = no_less lo hi low only found.0 found.1 found.2 found.3 found.4 in
          omega (arith, ints, has.0, more)

pub posted_least : IsLeast free_two (x_is 1 ∷ leq the_x the_y ∷ []) (with_two (between 1 1) (between 1 2))
posted_least = record { closed = posted_closed; below = below }
  where
    below : (other : State) → IsClosed free_two posting other → IsBelow (with_two (between 1 1) (between 1 2)) other
    below other p = record {
      tokens = λ token c. absurd (contains_none token c);
      blocks = λ block c. absurd (contains_none block c);
      variables = λ name domain gives. elim (one_of_two (between 1 1) (between 1 2) name domain gives) [
        | inl is ↦ (let found = (p.consistent.is_state.variables (Global 0)).0 (omega arith) in
            subst (λ n. GivesWithin other n domain) is.0 (subst (GivesWithin other (Global 0)) is.1 (
              found.0,
              found.1,
              range_within found.0 (pos 0) (pos 2) (pos 1) (pos 1) (x_within [] posting other p found.0 found.1)
                  (λ v has. let same = x_one other p found.0 found.1 v has in (omega (arith, ints, same), omega (arith, ints, same))),
            )))
        | inr is ↦ (let found = (p.consistent.is_state.variables (Global 1)).0 (omega arith) in
            subst (λ n. GivesWithin other n domain) is.0 (subst (GivesWithin other (Global 1)) is.1 (
              found.0,
              found.1,
              range_within found.0 (pos 0) (pos 2) (pos 1) (pos 2) (y_within [] posting other p found.0 found.1)
                  (λ v has. (y_high other p found.0 found.1 v has, ((y_within [] posting other p found.0 found.1).values v has).1)),
            )))
      ];
    }

pub posted_wide : IsClosed free_two (x_is 1 ∷ leq the_x the_y ∷ []) (with_two (between 1 1) (up_to 2)) → ⊥
posted_wide p =
    let more = y_high (with_two (between 1 1) (up_to 2)) p (up_to 2) (gives_second (between 1 1) (up_to 2)) (pos 0) (omega (arith, ints), omega (arith, ints)) in
    omega (arith, ints, more)
