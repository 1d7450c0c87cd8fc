-- The search from a settled list has an outcome: each visit takes a unit.
use Rattle.std.proofs.Common.{◌≡◌, ℕ, zero, suc, ◌≤◌, ◌⊎◌, inl, inr, Bool, false, ◌||◌, List, [], ◌∷◌, ◌++◌, refl, arith}
use Rattle.std.specs.Prelude.{Contains}
use Rattle.eu_name.proofs.Ordered.{contains_head, contains_later}
use Rattle.model_core.specs.declared.decision.Decision.{Decision}
use Rattle.model_core.specs.declared.model.Model.{Model}
use Rattle.model_core.specs.Lawful.{IsLawful}
use Rattle.model_core.specs.State.{State}
use Rattle.plan_defs.specs.Closure.{IsLeast, IsCollapsed}
use Rattle.plan_defs.specs.Flaws.{Flaw, HasFlaw}
use Rattle.plan_defs.specs.Settling.{IsSettled}
use Rattle.law_states.specs.Undeniable.{Undeniable}
use Rattle.law_states.proofs.Topping.{collapse_or_least}
use Rattle.law_search.specs.Choices.{IsFirstFlaw}
use Rattle.law_search.specs.Outcomes.{SearchesHaveOutcomes}
use Rattle.law_search.specs.Search.{SearchEnding, Finds, Fails, Stops, SearchOutcome, VisitsEach, IsVisitOf, also_left_out}
use Rattle.law_search.proofs.Choosing.{flaws_have_choices, tells_left_out}
use Rattle.law_search.proofs.Firsts.{first_flaw_or_none}
use Rattle.law_search.proofs.Searching.{finds_not_fails, stops_not_fails, choices_settled}

fails_or_not : (ending : SearchEnding) → (ending ≡ Fails) ⊎ (ending ≡ Fails → ⊥)
fails_or_not (Finds found) = inr (finds_not_fails found)
fails_or_not Fails = inl refl
fails_or_not Stops = inr stops_not_fails

no_more_than : (a b c : ℕ) → a ≤ b → b ≤ c → a ≤ c
no_more_than a b c first second = omega (arith, first, second)

fails_not_stops : {P : Type 0} → Fails ≡ Stops → P
fails_not_stops same = absurd (let apart : ⊥ = cc in apart)

finds_not_stops : {P : Type 0} (found : List Decision) → Finds found ≡ Stops → P
finds_not_stops found same = absurd (let apart : ⊥ = cc in apart)

-- an outcome so, that leaves no more than these units, and none where it stops
record Leaves (Is : SearchOutcome → Type 0) (units : ℕ) : Type 0 where
  outcome : SearchOutcome
  is : Is outcome
  few : outcome.left ≤ units
  spent : outcome.ending ≡ Stops → outcome.left ≡ 0

module _ (model : Model) (lawful : IsLawful model) (bound : ℕ) (few_tokens : bound ≤ 512) where
  -- a visit of a settled list with no more units than the limit has an outcome
  abbrev HasVisits : (ℕ → List Decision → SearchOutcome → Type 0) → ℕ → Type 0
  HasVisits Visit limit = (units : ℕ) (decisions : List Decision) → units ≤ limit → IsSettled model decisions → Undeniable (Leaves (Visit units decisions) units)

  module _ (Visit : ℕ → List Decision → SearchOutcome → Type 0) (limit : ℕ) (inner : HasVisits Visit limit) (decisions : List Decision) where
    visited : (choice : Decision) (choices : List Decision) (units : ℕ) (out : Bool) (first : Leaves (Visit units (decisions ++ choice ∷ [])) units)
        → (first.outcome.ending ≡ Fails → Undeniable (Leaves (VisitsEach Visit decisions choices first.outcome.left (out || first.outcome.left_out)) first.outcome.left))
        → Undeniable (Leaves (VisitsEach Visit decisions (choice ∷ choices) units out) units)
    visited choice choices units out first later none = elim (fails_or_not first.outcome.ending) [
      | inl failed ↦ later failed (λ rest. none (record {
        outcome = rest.outcome;
        is = (first.outcome, first.is, inl (failed, rest.is));
        few = no_more_than rest.outcome.left first.outcome.left units rest.few first.few;
        spent = rest.spent;
      }))
      | inr ended ↦ none (record {
        outcome = also_left_out out first.outcome;
        is = (first.outcome, first.is, inr (ended, refl));
        few = first.few;
        spent = first.spent;
      })
    ]

    each_visited : (choices : List Decision) (units : ℕ) (out : Bool) → units ≤ limit
        → ((choice : Decision) → Contains choices choice → IsSettled model (decisions ++ choice ∷ []))
        → Undeniable (Leaves (VisitsEach Visit decisions choices units out) units)
    each_visited [] units out few settled none =
        none (record { outcome = record { ending = Fails; left = units; left_out = out }; is = refl; few = omega arith; spent = λ same. fails_not_stops same })
    each_visited (choice ∷ choices) units out few settled none =
        inner units (decisions ++ choice ∷ []) few (settled choice (contains_head choice choices)) (λ first.
        visited choice choices units out first
        (λ failed. each_visited choices first.outcome.left (out || first.outcome.left_out) (no_more_than first.outcome.left units limit first.few few)
        (λ other there. settled other (contains_later choice other choices there))) none)

  module _ (depth units : ℕ) (few : units ≤ depth) (inner : HasVisits (IsVisitOf model bound depth) depth) (decisions : List Decision) (settled : IsSettled model decisions)
      (none : Leaves (IsVisitOf model bound (suc depth) (suc units) decisions) (suc units) → ⊥) where
    at_flaw : (state : State) → IsLeast model decisions state → (flaw : Flaw) → IsFirstFlaw model decisions state flaw → ⊥
    at_flaw state least flaw first =
        flaws_have_choices model decisions state bound flaw least.closed.consistent.is_state first.is (λ choices.
        tells_left_out model decisions bound flaw (λ out.
        each_visited (IsVisitOf model bound depth) depth inner decisions choices.0 units out.0 few
        (choices_settled model lawful bound few_tokens decisions state flaw choices.0 settled least first choices.1)
        (λ rest. none (record {
          outcome = rest.outcome;
          is = inr (record {
            state = state;
            least = least;
            looks = inr (record { flaw = flaw; is_first = first; choices = choices.0; are = choices.1; out = out.0; tells = out.1; visits = rest.is });
          });
          few = let fewer = rest.few in omega (arith, fewer);
          spent = rest.spent;
        }))))

    at_state : (state : State) → IsLeast model decisions state → ((HasFlaw model decisions state → ⊥) ⊎ ((flaw : Flaw) × IsFirstFlaw model decisions state flaw)) → ⊥
    at_state state least (inl flawless) = none (record {
      outcome = record { ending = Finds decisions; left = units; left_out = false };
      is = inr (record { state = state; least = least; looks = inl (flawless, refl) });
      few = omega arith;
      spent = λ same. finds_not_stops decisions same;
    })
    at_state state least (inr flaw) = at_flaw state least flaw.0 flaw.1

    at_list : IsCollapsed model decisions ⊎ ((state : State) × IsLeast model decisions state) → ⊥
    at_list (inl collapsed) = none (record {
      outcome = record { ending = Fails; left = units; left_out = false };
      is = inl (collapsed, refl);
      few = omega arith;
      spent = λ same. fails_not_stops same;
    })
    at_list (inr least) = first_flaw_or_none model decisions least.0 least.1.closed.consistent.is_state (at_state least.0 least.1)

  visits : (depth : ℕ) → HasVisits (IsVisitOf model bound depth) depth
  visits depth zero decisions few settled none =
      none (record { outcome = record { ending = Stops; left = 0; left_out = false }; is = refl; few = omega arith; spent = λ same. refl })
  visits zero (suc units) decisions few settled none = absurd (omega (arith, few))
  visits (suc depth) (suc units) decisions few settled none =
      collapse_or_least model decisions lawful settled (at_list depth units (omega (arith, few)) (visits depth) decisions settled none)

pub searches_have_outcomes : SearchesHaveOutcomes
searches_have_outcomes model bound units decisions lawful few settled none =
    visits model lawful bound few units units decisions (omega arith) settled (λ found. none (record { outcome = found.outcome; searches = found.is; few = found.few; spent = found.spent }))
