-- Plans with timelines, reusables and reservoirs that are valid, and ones that break the clause of these alone.
use Rattle.std.proofs.Common.{◌≡◌, ℕ, zero, suc, ◌+◌, ◌<◌, ◌≤◌, List, [], ◌∷◌, Some, ℤ, pos, ◌+ℤ◌, ◌≤ℤ◌, ◌<ℤ◌, true, inl, inr, refl, sym, ap, ◌∙◌, subst, arith}
use Rattle.std.specs.Prelude.{negsuc, Contains, slice_get, ◌⊎◌}
use Rattle.std.specs.List.{AllZip}
use Rattle.std.proofs.lemmas.Int.{ints, by_lt_z}
use Rattle.domain_core.specs.Constraints.{HoldsOf}
use Rattle.domain_core.specs.declared.kind.Kind.TheVariants.{Leq}
use Rattle.eu_name.specs.declared.name.Part.{Part}
use Rattle.eu_name.specs.declared.name.Part.TheVariants.{Start, End}
use Rattle.eu_name.specs.declared.name.TokenName.{TokenName}
use Rattle.eu_name.specs.declared.name.VarName.TheVariants as variables
use Rattle.model_core.specs.declared.class.Object as classes
use Rattle.model_core.specs.declared.class.ObjectKind.{ObjectKind}
use Rattle.model_core.specs.declared.class.ObjectKind.TheVariants as kind
use Rattle.model_core.specs.declared.class.PredKind.{PredKind}
use Rattle.model_core.specs.declared.class.PredKind.TheVariants as pred
use Rattle.model_core.specs.declared.model.Model.{Model}
use Rattle.model_core.specs.declared.model.RootKind.{RootKind}
use Rattle.model_core.specs.declared.model.RootKind.TheVariants.{Rejectable, Fact}
use Rattle.model_core.specs.declared.variable.Base.TheVariants.{Given}
use Rattle.model_core.specs.Tokens.{root_token}
use Rattle.plan_defs.specs.declared.plan.Clause.{Clause}
use Rattle.plan_defs.specs.declared.plan.Clause.TheVariants.{V1, V2, V3, V4, V5, V6, V7, V8, V9, V10}
use Rattle.plan_defs.specs.declared.plan.Line.{Line}
use Rattle.plan_defs.specs.declared.plan.Line.TheVariants as lines
use Rattle.plan_defs.specs.declared.plan.Place.{Place}
use Rattle.plan_defs.specs.declared.plan.Place.TheVariants as places
use Rattle.plan_defs.specs.declared.plan.Plan.{Plan}
use Rattle.plan_defs.specs.Broken.{IsBroken}
use Rattle.plan_defs.specs.Claims.{part_of}
use Rattle.plan_defs.specs.Plans.{IsPlanOf, GivesValue, place_in_values}
use Rattle.plan_defs.specs.Sums.{sum_of}
use Rattle.plan_defs.specs.Valid.{HasArgumentValue, IsLineOfSort, SuitsIfToken, SuitsIfMerged, IsAsked, Becomes, TakesPlaceAt, TakeTurns, EndsBy, HasActed, IsActing, IsUsed, IsRise, IsWithinCapacity, IsLevelWithin, KeepsTimelines, KeepsReusables, KeepsReservoirs, IsClauseKept, IsValid}
use Rattle.eu_name.proofs.Ordered.{contains_head, contains_later, contains_cases}
use Rattle.law_examples.specs.Cases.{two_facts, tool, battery}
use Rattle.law_examples.specs.Plans.{BreaksOnly, values_of, first_fact, fact_from, facts_with, using_fact, use_of, taking_out}
use Rattle.law_examples.specs.Scenes.{both_objects, predicate_of, root_of}
use Rattle.law_examples.specs.Swaps.{g, gg}
use Rattle.law_examples.proofs.Casts.{kind_of}
use Rattle.law_examples.proofs.Lists.{only_member, same_some}
use Rattle.law_examples.proofs.Planned.{of_one, of_two, globals_kept, roots_kept, tokens_kept, merges_kept, asked_kept, asked_root, timelines_kept, reusables_kept, reservoirs_kept, kind_of_predicate, suits, own_values, open_kept, items_kept, root_there, token_line, one_line_plan, two_line_plan, roots_before}

-- ---- two facts

abbrev facts : List RootKind
facts = Fact ∷ Fact ∷ []

abbrev first_values : List ℤ
first_values = values_of 0 5 5 0

abbrev second_values : ℕ → List ℤ
second_values start = values_of start (start + 3) 3 0

module _ (start : ℕ) where
  first_stands : Contains (facts_with start).lines first_fact
  first_stands = contains_head first_fact (fact_from start ∷ [])

  second_stands : Contains (facts_with start).lines (fact_from start)
  second_stands = contains_later first_fact (fact_from start) (fact_from start ∷ []) (contains_head (fact_from start) [])

  first_has : (part : Part) (value : ℤ) → slice_get first_values (place_in_values part) ≡ Some value → GivesValue (facts_with start) (variables.Token g part) value
  first_has part value at = inl (first_values, (true, first_stands), at)

  second_has : (part : Part) (value : ℤ) → slice_get (second_values start) (place_in_values part) ≡ Some value → GivesValue (facts_with start) (variables.Token gg part) value
  second_has part value at = inl (second_values start, (true, second_stands), at)

  -- and nothing else is said of them
  first_says : (part : Part) (value : ℤ) → GivesValue (facts_with start) (variables.Token g part) value → slice_get first_values (place_in_values part) ≡ Some value
  first_says part value (inl has) = elim (contains_cases first_fact (lines.Token g has.1.0 has.0) (fact_from start ∷ []) has.1.1) [
    | inl same ↦ (let list : first_values ≡ has.0 = cc in subst (λ (values : List ℤ). slice_get values (place_in_values part) ≡ Some value) (sym list) has.2)
    | inr later ↦ (let same = only_member (fact_from start) (lines.Token g has.1.0 has.0) later in
        let tokens : gg ≡ g = cc in
        absurd (omega (arith, ap (λ (t : TokenName). t.root) tokens)))
  ]
  first_says part value (inr has) = elim (contains_cases first_fact (lines.Merged g has.0) (fact_from start ∷ []) has.1) [
    | inl same ↦ absurd (cc)
    | inr later ↦ (let same = only_member (fact_from start) (lines.Merged g has.0) later in absurd (cc))
  ]

  second_says : (part : Part) (value : ℤ) → GivesValue (facts_with start) (variables.Token gg part) value → slice_get (second_values start) (place_in_values part) ≡ Some value
  second_says part value (inl has) = elim (contains_cases first_fact (lines.Token gg has.1.0 has.0) (fact_from start ∷ []) has.1.1) [
    | inl same ↦ (let tokens : g ≡ gg = cc in absurd (omega (arith, ap (λ (t : TokenName). t.root) tokens)))
    | inr later ↦ (let same = only_member (fact_from start) (lines.Token gg has.1.0 has.0) later in
        let list : second_values start ≡ has.0 = cc in
        subst (λ (values : List ℤ). slice_get values (place_in_values part) ≡ Some value) (sym list) has.2)
  ]
  second_says part value (inr has) = elim (contains_cases first_fact (lines.Merged gg has.0) (fact_from start ∷ []) has.1) [
    | inl same ↦ absurd (cc)
    | inr later ↦ (let same = only_member (fact_from start) (lines.Merged gg has.0) later in absurd (cc))
  ]

  each_fact : (P : Line → Type 0) → P first_fact → P (fact_from start) → (number : ℕ) (line : Line) → slice_get (first_fact ∷ fact_from start ∷ []) number ≡ Some line → P line
  each_fact P first second = of_two (λ number line. P line) first_fact (fact_from start) first second

  -- the first ends by the start of the second exactly where that is 5 or later, and never the other way round

  pub first_ends : (model : Model) → 5 ≤ start → EndsBy model (facts_with start) g gg
  first_ends model late =
      let less : pos 5 ≤ℤ pos start = omega (arith, ints, late) in
      record { values = pos 5 ∷ pos start ∷ []; have = (first_has End (pos 5) refl, (second_has Start (pos start) refl, tt)); holds = less }

  ends_late : (values : List ℤ) → AllZip (HasArgumentValue (facts_with start)) (part_of g End ∷ part_of gg Start ∷ []) values → HoldsOf Leq values → 5 ≤ start
  ends_late [] have holds = absurd have
  ends_late (v ∷ []) have holds = absurd have.1
  ends_late (v ∷ w ∷ more ∷ rest) have holds = absurd have.1.1
  ends_late (v ∷ w ∷ []) have holds =
      let ends = same_some (pos 5) v (first_says End v have.0) in
      let starts = same_some (pos start) w (second_says Start w have.1.0) in
      omega (arith, ints, ends, starts, holds)

  pub first_is_early : (model : Model) → EndsBy model (facts_with start) g gg → 5 ≤ start
  first_is_early model ends = ends_late ends.values ends.have ends.holds

  ends_early : (values : List ℤ) → AllZip (HasArgumentValue (facts_with start)) (part_of gg End ∷ part_of g Start ∷ []) values → HoldsOf Leq values → ⊥
  ends_early [] have holds = have
  ends_early (v ∷ []) have holds = have.1
  ends_early (v ∷ w ∷ more ∷ rest) have holds = have.1.1
  ends_early (v ∷ w ∷ []) have holds =
      let ends = same_some (pos (start + 3)) v (second_says End v have.0) in
      let starts = same_some (pos 0) w (first_says Start w have.1.0) in
      omega (arith, ints, ends, starts, holds)

  pub second_is_late : (model : Model) → EndsBy model (facts_with start) gg g → ⊥
  second_is_late model ends = ends_early ends.values ends.have ends.holds

-- what the two facts keep on objects that are no resources
module _ (object_kind : ObjectKind) (no_tool : (capacity : ℤ) → object_kind ≡ kind.Reusable capacity → ⊥) (no_store : (initial low high : ℤ) → object_kind ≡ kind.Reservoir initial low high → ⊥)
    (start : ℕ) (early : start ≤ 7) where
  facts_keep : (clause : Clause) (place : Place) → (clause ≡ V8 → ⊥) → IsClauseKept (two_facts object_kind) (facts_with start) clause place
  facts_keep V1 place apart = globals_kept [] object_kind pred.Plain [] [] facts (facts_with start) place
  facts_keep V2 place apart =
      roots_kept [] object_kind pred.Plain [] [] facts (facts_with start)
      (of_two (λ number root_kind. Becomes (facts_with start) root_kind (root_token number)) Fact Fact (first_values, first_stands start) (second_values start, second_stands start))
      (each_fact start IsLineOfSort refl refl) place
  facts_keep V3 place apart =
      tokens_kept [] object_kind pred.Plain [] [] facts (facts_with start)
      (each_fact start (SuitsIfToken (two_facts object_kind) (facts_with start))
      (suits [] object_kind pred.Plain [] [] facts (facts_with start) 0 Fact refl 0 5 5 0 (first_has start) refl (omega arith) (omega arith) (omega arith))
      (suits [] object_kind pred.Plain [] [] facts (facts_with start) 1 Fact refl start (start + 3) 3 0 (second_has start) refl (omega arith) (omega (arith, early)) (omega arith)))
      place
  facts_keep V4 place apart = merges_kept [] object_kind pred.Plain [] [] facts (facts_with start) (each_fact start (SuitsIfMerged (two_facts object_kind) (facts_with start)) tt tt) place
  facts_keep V5 place apart = open_kept [] object_kind pred.Plain facts (facts_with start) place
  facts_keep V6 place apart =
      asked_kept [] object_kind pred.Plain [] [] facts (facts_with start)
      (each_fact start (IsAsked (two_facts object_kind) (facts_with start)) (asked_root [] object_kind pred.Plain [] [] facts (facts_with start) 0) (asked_root [] object_kind pred.Plain [] [] facts (facts_with start) 1)) place
  facts_keep V7 place apart = items_kept object_kind pred.Plain facts (facts_with start) place
  facts_keep V8 place apart = absurd (apart refl)
  facts_keep V9 place apart = reusables_kept [] object_kind pred.Plain [] [] facts (facts_with start) no_tool place
  facts_keep V10 place apart = reservoirs_kept [] object_kind pred.Plain [] [] facts (facts_with start) no_store place

pub facts_plan : (object_kind : ObjectKind) (start : ℕ) → start ≤ 10 → IsPlanOf (two_facts object_kind) (facts_with start)
facts_plan object_kind start early =
    two_line_plan (two_facts object_kind) first_fact (fact_from start)
    (token_line [] object_kind pred.Plain [] [] facts 0 Fact refl true 0 5 5 0 (omega arith) (omega arith) (omega arith) (omega arith))
    (token_line [] object_kind pred.Plain [] [] facts 1 Fact refl true start (start + 3) 3 0 (omega (arith, early)) (omega (arith, early)) (omega arith) (omega arith)) (inl roots_before)

pub facts_overlap_elsewhere : IsValid (two_facts kind.Plain) (facts_with 4)
facts_overlap_elsewhere V8 place = timelines_kept [] kind.Plain pred.Plain [] [] facts (facts_with 4) (λ e. cc) place
facts_overlap_elsewhere clause place = facts_keep kind.Plain (λ capacity e. cc) (λ initial low high e. cc) 4 (omega arith) clause place (λ e. cc)

pub facts_in_turn : IsValid (two_facts kind.Timeline) (facts_with 5)
facts_in_turn V8 place = kept place
  where
    turns : (first second : ℕ) → first < second → (one other : TokenName) → TakesPlaceAt (facts_with 5) first one → TakesPlaceAt (facts_with 5) second other → TakeTurns (two_facts kind.Timeline) (facts_with 5) one other
    turns first zero less one other takes takes' = absurd (omega (arith, less))
    turns zero (suc zero) less one other takes takes' =
        let first_same = same_some first_fact (lines.Token one takes.0 takes.1.0) takes.1.1 in
        let is_one : g ≡ one = cc in
        let second_same = same_some (fact_from 5) (lines.Token other takes'.0 takes'.1.0) takes'.1.1 in
        let is_other : gg ≡ other = cc in
        λ on. inl (subst (λ t. EndsBy (two_facts kind.Timeline) (facts_with 5) t other) is_one
        (subst (λ t. EndsBy (two_facts kind.Timeline) (facts_with 5) g t) is_other (first_ends 5 (two_facts kind.Timeline) (omega arith))))
    turns (suc first) (suc zero) less one other takes takes' = absurd (omega (arith, less))
    turns first (suc (suc second)) less one other takes takes' = let none = takes'.1.1 in absurd (cc)

    kept : (place : Place) → KeepsTimelines (two_facts kind.Timeline) (facts_with 5) place
    kept (places.Pair first second) = turns first second
    kept place = tt
facts_in_turn clause place = facts_keep kind.Timeline (λ capacity e. cc) (λ initial low high e. cc) 5 (omega arith) clause place (λ e. cc)

pub facts_overlap : BreaksOnly (two_facts kind.Timeline) (facts_with 4) V8 (places.Pair 0 1)
facts_overlap = record {
  is_plan = facts_plan kind.Timeline 4 (omega arith);
  broken = broken;
  others = facts_keep kind.Timeline (λ capacity e. cc) (λ initial low high e. cc) 4 (omega arith);
}
  where
    neither : EndsBy (two_facts kind.Timeline) (facts_with 4) g gg ⊎ EndsBy (two_facts kind.Timeline) (facts_with 4) gg g → ⊥
    neither (inl ends) = omega (arith, first_is_early 4 (two_facts kind.Timeline) ends)
    neither (inr ends) = second_is_late 4 (two_facts kind.Timeline) ends

    broken : IsBroken (two_facts kind.Timeline) (facts_with 4) V8 (places.Pair 0 1)
    broken kept = neither (kept (omega arith) g gg (true, (first_values, refl)) (true, (second_values 4, refl)) (record {
      timeline = pos 0;
      is_timeline = (_, (0, refl, refl), refl);
      one_on = (first_values, (true, first_stands 4), refl);
      other_on = (second_values 4, (true, second_stands 4), refl);
    }))

-- ---- a reusable

abbrev one_fact : List RootKind
one_fact = Fact ∷ []

abbrev two_of_it : ObjectKind
two_of_it = kind.Reusable (pos 2)

module _ (quantity : ℕ) where
  abbrev using : Line
  using = using_fact quantity

  abbrev using_values : List ℤ
  using_values = values_of 0 5 5 quantity

  using_has : (part : Part) (value : ℤ) → slice_get using_values (place_in_values part) ≡ Some value → GivesValue (use_of quantity) (variables.Token g part) value
  using_has part value at = inl (using_values, (true, contains_head using []), at)

  use_keeps : quantity ≤ 10 → (clause : Clause) (place : Place) → (clause ≡ V9 → ⊥) → IsClauseKept (tool 2) (use_of quantity) clause place
  use_keeps few V1 place apart = globals_kept [] two_of_it pred.Uses [] [] one_fact (use_of quantity) place
  use_keeps few V2 place apart =
      roots_kept [] two_of_it pred.Uses [] [] one_fact (use_of quantity)
      (of_one (λ number root_kind. Becomes (use_of quantity) root_kind (root_token number)) Fact (using_values, contains_head using []))
      (of_one (λ number line. IsLineOfSort line) using refl) place
  use_keeps few V3 place apart =
      tokens_kept [] two_of_it pred.Uses [] [] one_fact (use_of quantity)
      (of_one (λ number line. SuitsIfToken (tool 2) (use_of quantity) line) using
      (suits [] two_of_it pred.Uses [] [] one_fact (use_of quantity) 0 Fact refl 0 5 5 quantity using_has refl (omega arith) (omega arith) few))
      place
  use_keeps few V4 place apart = merges_kept [] two_of_it pred.Uses [] [] one_fact (use_of quantity) (of_one (λ number line. SuitsIfMerged (tool 2) (use_of quantity) line) using tt) place
  use_keeps few V5 place apart = open_kept [] two_of_it pred.Uses one_fact (use_of quantity) place
  use_keeps few V6 place apart =
      asked_kept [] two_of_it pred.Uses [] [] one_fact (use_of quantity)
      (of_one (λ number line. IsAsked (tool 2) (use_of quantity) line) using (asked_root [] two_of_it pred.Uses [] [] one_fact (use_of quantity) 0)) place
  use_keeps few V7 place apart = items_kept two_of_it pred.Uses one_fact (use_of quantity) place
  use_keeps few V8 place apart = timelines_kept [] two_of_it pred.Uses [] [] one_fact (use_of quantity) (λ e. cc) place
  use_keeps few V9 place apart = absurd (apart refl)
  use_keeps few V10 place apart = reservoirs_kept [] two_of_it pred.Uses [] [] one_fact (use_of quantity) (λ initial low high e. cc) place

  -- from 0 until 5 it is in use
  in_use : (instant : ℤ) → pos 0 ≤ℤ instant → instant <ℤ pos 5 → IsActing (tool 2) (pos 0) instant pred.Uses g using_values (pos quantity)
  in_use instant begun less = record {
    acted = record {
      sort = record {
        slot = record { pred = 0; object = Given both_objects };
        has_token = record { root = root_of 0 Fact; is_root = refl; reached = refl };
        predicate = predicate_of pred.Uses [];
        is_predicate = refl;
        is_kind = refl;
      };
      on = refl;
      start = pos 0;
      starts = refl;
      started = begun;
      has_quantity = refl;
    };
    end = pos 5;
    ends = refl;
    not_ended = less;
  }

pub use_plan : (quantity : ℕ) → quantity ≤ 10 → IsPlanOf (tool 2) (use_of quantity)
use_plan quantity few = one_line_plan (tool 2) (using_fact quantity) (token_line [] two_of_it pred.Uses [] [] one_fact 0 Fact refl true 0 5 5 quantity (omega arith) (omega arith) (omega arith) (omega (arith, few)))

pub use_within : IsValid (tool 2) (use_of 2)
use_within V9 place = kept place
  where
    not_then : (instant : ℤ) → pos 5 ≤ℤ instant → (quantity : ℤ) → IsActing (tool 2) (pos 0) instant pred.Uses g (values_of 0 5 5 2) quantity → ⊥
    not_then instant late quantity acting = let ends = same_some (pos 5) acting.end acting.ends in omega (arith, ints, ends, acting.not_ended, late)

    not_there : (instant quantity : ℤ) → IsActing (tool 2) (pos 1) instant pred.Uses g (values_of 0 5 5 2) quantity → ⊥
    not_there instant quantity acting = let on = same_some (pos 0) (pos 1) acting.acted.on in omega (arith, ints, on)

    is_within : (number : ℕ) (object : classes.Object) (instant : ℤ) → slice_get (tool 2).objects number ≡ Some object → pos 0 ≤ℤ instant → IsWithinCapacity (tool 2) (pos number) instant (use_of 2) (pos 2)
    is_within zero object instant at begun =
        by_lt_z instant (pos 5)
        (λ less. record { amounts = pos 2 ∷ []; are_used = (inl (in_use 2 instant begun less), tt); enough = omega (arith, ints) })
        (λ late. record { amounts = pos 0 ∷ []; are_used = (inr (not_then instant late, refl), tt); enough = omega (arith, ints) })
    is_within (suc zero) object instant at begun = record { amounts = pos 0 ∷ []; are_used = (inr (not_there instant, refl), tt); enough = omega (arith, ints) }
    is_within (suc (suc number)) object instant at begun = absurd (cc)

    kept : (place : Place) → KeepsReusables (tool 2) (use_of 2) place
    kept (places.Instant number instant) = λ object capacity at is inside.
        let same : two_of_it ≡ kind.Reusable capacity = sym (kind_of [] two_of_it pred.Uses [] [] one_fact (pos number) object (number, refl, at)) ∙ is in
        let two : pos 2 ≡ capacity = cc in
        subst (λ most. IsWithinCapacity (tool 2) (pos number) instant (use_of 2) most) two (is_within number object instant at inside.0)
    kept place = tt
use_within clause place = use_keeps 2 (omega arith) clause place (λ e. cc)

pub use_beyond : BreaksOnly (tool 2) (use_of 3) V9 (places.Instant 0 (pos 0))
use_beyond = record { is_plan = use_plan 3 (omega arith); broken = λ kept. too_much (kept _ (pos 2) refl refl (omega (arith, ints), omega (arith, ints))); others = use_keeps 3 (omega arith) }
  where
    used : (amount : ℤ) → IsUsed (tool 2) (pos 0) (pos 0) (using_fact 3) amount → pos 3 ≡ amount
    used amount (inl acting) = same_some (pos 3) amount acting.acted.has_quantity
    used amount (inr none) = absurd (none.0 (pos 3) (in_use 3 (pos 0) (omega (arith, ints)) (omega (arith, ints))))

    sum_is_more : (amounts : List ℤ) → AllZip (IsUsed (tool 2) (pos 0) (pos 0)) (using_fact 3 ∷ []) amounts → sum_of amounts ≤ℤ pos 2 → ⊥
    sum_is_more [] are enough = are
    sum_is_more (amount ∷ more ∷ rest) are enough = are.1
    sum_is_more (amount ∷ []) are enough = let three = used amount are.0 in omega (arith, ints, three, enough)

    too_much : IsWithinCapacity (tool 2) (pos 0) (pos 0) (use_of 3) (pos 2) → ⊥
    too_much within = sum_is_more within.amounts within.are_used within.enough

-- ---- a reservoir

abbrev five_in_it : ObjectKind
five_in_it = kind.Reservoir (pos 5) (pos 0) (pos 10)

abbrev fact_and_rejectable : List RootKind
fact_and_rejectable = Fact ∷ Rejectable ∷ []

module _ (quantity : ℕ) where
  abbrev plan : Plan
  plan = taking_out quantity

  abbrev taking : Line
  taking = using_fact quantity

  abbrev not_taken : Line
  not_taken = lines.Rejected gg

  taking_stands : Contains plan.lines taking
  taking_stands = contains_head taking (not_taken ∷ [])

  each_line : (P : Line → Type 0) → P taking → P not_taken → (number : ℕ) (line : Line) → slice_get (taking ∷ not_taken ∷ []) number ≡ Some line → P line
  each_line P first second = of_two (λ number line. P line) taking not_taken first second

  taking_keeps : quantity ≤ 10 → (clause : Clause) (place : Place) → (clause ≡ V10 → ⊥) → IsClauseKept battery plan clause place
  taking_keeps few V1 place apart = globals_kept [] five_in_it pred.Consume [] [] fact_and_rejectable plan place
  taking_keeps few V2 place apart =
      roots_kept [] five_in_it pred.Consume [] [] fact_and_rejectable plan
      (of_two (λ number root_kind. Becomes plan root_kind (root_token number)) Fact Rejectable (values_of 0 5 5 quantity, taking_stands)
      (inr (contains_later taking not_taken (not_taken ∷ []) (contains_head not_taken []))))
      (each_line IsLineOfSort refl refl) place
  taking_keeps few V3 place apart =
      tokens_kept [] five_in_it pred.Consume [] [] fact_and_rejectable plan
      (each_line (SuitsIfToken battery plan)
      (suits [] five_in_it pred.Consume [] [] fact_and_rejectable plan 0 Fact refl 0 5 5 quantity
      (own_values [] five_in_it pred.Consume [] [] fact_and_rejectable plan 0 true (values_of 0 5 5 quantity) taking_stands) refl (omega arith) (omega arith) few) tt)
      place
  taking_keeps few V4 place apart = merges_kept [] five_in_it pred.Consume [] [] fact_and_rejectable plan (each_line (SuitsIfMerged battery plan) tt tt) place
  taking_keeps few V5 place apart = open_kept [] five_in_it pred.Consume fact_and_rejectable plan place
  taking_keeps few V6 place apart =
      asked_kept [] five_in_it pred.Consume [] [] fact_and_rejectable plan
      (each_line (IsAsked battery plan) (asked_root [] five_in_it pred.Consume [] [] fact_and_rejectable plan 0) (asked_root [] five_in_it pred.Consume [] [] fact_and_rejectable plan 1)) place
  taking_keeps few V7 place apart = items_kept five_in_it pred.Consume fact_and_rejectable plan place
  taking_keeps few V8 place apart = timelines_kept [] five_in_it pred.Consume [] [] fact_and_rejectable plan (λ e. cc) place
  taking_keeps few V9 place apart = reusables_kept [] five_in_it pred.Consume [] [] fact_and_rejectable plan (λ capacity e. cc) place
  taking_keeps few V10 place apart = absurd (apart refl)

  -- from 0 on it is taken out of the first battery
  taken : (instant : ℤ) → pos 0 ≤ℤ instant → HasActed battery (pos 0) instant pred.Consume g (values_of 0 5 5 quantity) (pos quantity)
  taken instant begun = record {
    sort = record {
      slot = record { pred = 0; object = Given both_objects };
      has_token = record { root = root_of 0 Fact; is_root = refl; reached = refl };
      predicate = predicate_of pred.Consume [];
      is_predicate = refl;
      is_kind = refl;
    };
    on = refl;
    start = pos 0;
    starts = refl;
    started = begun;
    has_quantity = refl;
  }

-- a line of a rejected token changes no level
rejected_rise : (object instant : ℤ) → IsRise battery object instant (lines.Rejected gg) (pos 0)
rejected_rise object instant = inr (inr (record { adds_none = λ quantity adds. adds; takes_none = λ quantity takes. takes }, refl))

pub taking_plan : (quantity : ℕ) → quantity ≤ 10 → IsPlanOf battery (taking_out quantity)
taking_plan quantity few =
    two_line_plan battery (using_fact quantity) (lines.Rejected gg)
    (token_line [] five_in_it pred.Consume [] [] fact_and_rejectable 0 Fact refl true 0 5 5 quantity (omega arith) (omega arith) (omega arith) (omega (arith, few)))
    (root_there [] five_in_it pred.Consume [] [] fact_and_rejectable 1 Rejectable refl) (inl roots_before)

pub not_below : IsValid battery (taking_out 5)
not_below V10 place = kept place
  where
    not_there : (instant : ℤ) (sort : PredKind) (quantity : ℤ) → HasActed battery (pos 1) instant sort g (values_of 0 5 5 5) quantity → ⊥
    not_there instant sort quantity acted = let on = same_some (pos 0) (pos 1) acted.on in omega (arith, ints, on)

    high : (number : ℕ) (object : classes.Object) (instant : ℤ) → slice_get battery.objects number ≡ Some object → pos 0 ≤ℤ instant → IsLevelWithin battery (pos number) instant (taking_out 5) (pos 5) (pos 0) (pos 10)
    high zero object instant at begun = let back : (negsuc 4 +ℤ pos 5) ≡ pos 0 = omega (arith, ints) in record {
      rises = negsuc 4 ∷ pos 0 ∷ [];
      are_rises = (inr (inl (pos 5, taken 5 instant begun, back)), (rejected_rise (pos 0) instant, tt));
      high_enough = omega (arith, ints);
      low_enough = omega (arith, ints);
    }
    high (suc zero) object instant at begun = record {
      rises = pos 0 ∷ pos 0 ∷ [];
      are_rises = (inr (inr (record { adds_none = not_there instant pred.Produce; takes_none = not_there instant pred.Consume }, refl)), (rejected_rise (pos 1) instant, tt));
      high_enough = omega (arith, ints);
      low_enough = omega (arith, ints);
    }
    high (suc (suc number)) object instant at begun = absurd (cc)

    kept : (place : Place) → KeepsReservoirs battery (taking_out 5) place
    kept (places.Instant number instant) = λ object initial low top at is inside.
        let same : five_in_it ≡ kind.Reservoir initial low top = sym (kind_of [] five_in_it pred.Consume [] [] fact_and_rejectable (pos number) object (number, refl, at)) ∙ is in
        let initials : pos 5 ≡ initial = cc in
        let lows : pos 0 ≡ low = cc in
        let tops : pos 10 ≡ top = cc in
        subst (λ n. IsLevelWithin battery (pos number) instant (taking_out 5) n low top) initials
        (subst (λ n. IsLevelWithin battery (pos number) instant (taking_out 5) (pos 5) n top) lows
        (subst (λ n. IsLevelWithin battery (pos number) instant (taking_out 5) (pos 5) (pos 0) n) tops (high number object instant at inside.0)))
    kept place = tt
not_below clause place = taking_keeps 5 (omega arith) clause place (λ e. cc)

pub below : BreaksOnly battery (taking_out 6) V10 (places.Instant 0 (pos 0))
below = record { is_plan = taking_plan 6 (omega arith); broken = λ kept. too_low (kept _ (pos 5) (pos 0) (pos 10) refl refl (omega (arith, ints), omega (arith, ints))); others = taking_keeps 6 (omega arith) }
  where
    -- the predicate produces nothing
    adds_none : (quantity : ℤ) → HasActed battery (pos 0) (pos 0) pred.Produce g (values_of 0 5 5 6) quantity → ⊥
    adds_none quantity acted =
        let sort = acted.sort in
        let same : pred.Consume ≡ pred.Produce = kind_of_predicate [] five_in_it pred.Consume [] [] fact_and_rejectable (taking_out 6) sort.slot.pred sort.predicate sort.is_predicate ∙ sort.is_kind in
        cc

    falls : (rise : ℤ) → IsRise battery (pos 0) (pos 0) (using_fact 6) rise → (rise +ℤ pos 6) ≡ pos 0
    falls rise (inl adds) = absurd (adds_none rise adds)
    falls rise (inr (inl takes)) =
        let six = same_some (pos 6) takes.0 takes.1.has_quantity in
        omega (arith, ints, six, takes.2)
    falls rise (inr (inr leaves)) = absurd (leaves.0.takes_none (pos 6) (taken 6 (pos 0) (omega (arith, ints))))

    stays : (rise : ℤ) → IsRise battery (pos 0) (pos 0) (lines.Rejected gg) rise → rise ≡ pos 0
    stays rise (inl adds) = absurd adds
    stays rise (inr (inl takes)) = absurd takes.1
    stays rise (inr (inr leaves)) = leaves.1

    level_is_low : (rises : List ℤ) → AllZip (IsRise battery (pos 0) (pos 0)) (using_fact 6 ∷ lines.Rejected gg ∷ []) rises → pos 0 ≤ℤ (pos 5 +ℤ sum_of rises) → ⊥
    level_is_low [] are high = are
    level_is_low (one ∷ []) are high = are.1
    level_is_low (one ∷ other ∷ more ∷ rest) are high = are.1.1
    level_is_low (one ∷ other ∷ []) are high =
        let first = falls one are.0 in
        let second = stays other are.1.0 in
        omega (arith, ints, first, second, high)

    too_low : IsLevelWithin battery (pos 0) (pos 0) (taking_out 6) (pos 5) (pos 0) (pos 10) → ⊥
    too_low within = level_is_low within.rises within.are_rises within.high_enough
