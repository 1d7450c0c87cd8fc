-- Each search from a sound database ends in some way, and something is told of that.
use Rattle.std.proofs.Common.{◌≡◌, ℕ, ◌-◌, ◌≤◌, List, [], ◌++◌, count_by, refl, sym, ap, ◌∙◌, subst, codes, arith}
use Rattle.std.specs.Fmt.{decimal}
use Rattle.law_states.specs.Undeniable.{Undeniable}
use Rattle.law_states.proofs.Founding.{plan_is_valid}
use Rattle.law_states.proofs.Planning.{flawless_states_have_plans}
use Rattle.law_states.proofs.Splitting.{settles_behind}
use Rattle.law_search.specs.Outcomes.{HasOutcome}
use Rattle.law_search.specs.Search.{SearchEnding, Finds, Fails, Stops}
use Rattle.law_search.specs.SearchLaws.{IsFoundList}
use Rattle.law_search.proofs.Outcoming.{searches_have_outcomes}
use Rattle.law_search.proofs.Searching.{found_by}
use Rattle.model_core.specs.declared.decision.Decision.{Decision}
use Rattle.model_core.specs.History.{standing}
use Rattle.plan_db.specs.Database.{Database, taken_in, IsSound}
use Rattle.plan_defs.specs.declared.plan.Plan.{Plan}
use Rattle.plan_defs.specs.Settling.{SettlesAfter, IsSettled}
use Rattle.plan_defs.proofs.Histories.{standing_settled}
use Rattle.plan_report.specs.declared.counting.Counts.{Counts}
use Rattle.plan_report.specs.Counting.{is_active, is_merged}
use Rattle.flaw_core.specs.declared.ending.SearchEnd.{SearchEnd}
use Rattle.flaw_core.specs.declared.ending.SearchEnd.TheVariants.{Found, Exhausted, Budget}
use Rattle.session_replies.specs.Texts.{printed_line, bound_text, IsFlawlessEnd, TellsSearch}
use Rattle.session_core.proofs.ExistingLines.{taken_on, left_and_spent, all_spent}
use Rattle.session_core.proofs.PlanTexts.{flawless_states_have_plan_texts}
use Rattle.run_commands.specs.Searching.{SearchesTo, EndOutput, SearchOutput, end_of}
use Rattle.run_commands.specs.Trying.{TellsTrial, found_text}
use Rattle.europa_outputs.specs.Outputs.{HasOutput}

-- ---- searches

module _ (old : Database) (sound : IsSound old) (bound steps : ℕ) (few : bound ≤ 512) where
  abbrev stood : List Decision
  stood = standing old.history

  settled : IsSettled old.model stood
  settled = standing_settled old.model old.history sound.history

  -- the search ends so, in a sound database, and what it finds has no flaw
  abbrev EndsSo : Type 0
  EndsSo = (ending : SearchEnd) × ((new : Database) × (SearchesTo bound steps old ending new × IsSound new × IsFlawlessEnd ending new))

  module _ (has : HasOutcome old.model bound steps stood) where
    abbrev visits : ℕ
    visits = steps - has.outcome.left

    found_so : (found : List Decision) → has.outcome.ending ≡ Finds found → IsFoundList old.model stood found → EndsSo
    found_so found ends is =
        let on = taken_on old.model old.history is.more sound.history
        (settles_behind old.model stood is.more (stood ++ is.more) settled (subst (λ (l : List Decision). SettlesAfter old.model [] l l) is.longer is.settled)) in
        let same : found ≡ standing on.history = is.longer ∙ sym on.stands in (
          Found visits,
          (
            taken_in old.model on.history,
            (
              (has.outcome, (has.searches, (left_and_spent has.outcome.left steps has.few, ends ∙ ap Finds same, refl, (on.count, on.takes)))),
              record { lawful = sound.lawful; history = on.is },
              (stood, subst (λ (l : List Decision). IsFoundList old.model stood l) same is),
            ),
          ),
        )

    by_ending : (ending : SearchEnding) → has.outcome.ending ≡ ending → EndsSo
    by_ending (Finds found) ends = found_so found ends (found_by old.model sound.lawful bound few steps steps stood found has.outcome settled has.searches ends)
    by_ending Fails ends = (
      Exhausted visits has.outcome.left_out,
      (old, ((has.outcome, (has.searches, (left_and_spent has.outcome.left steps has.few, ends, refl, refl))), sound, tt)),
    )
    by_ending Stops ends = (
      Budget visits,
      (
        old,
        (
          (has.outcome, (has.searches, (left_and_spent has.outcome.left steps has.few, ends, all_spent has.outcome.left steps (has.spent ends), refl))),
          sound,
          tt,
        ),
      ),
    )

  search_ends : Undeniable EndsSo
  search_ends none = searches_have_outcomes old.model bound steps stood sound.lawful few settled (λ has. none (by_ending has has.outcome.ending refl))

  -- ---- what is told

  -- of each end in a sound database something can be told
  abbrev CanTell : (SearchEnd → Database → List ℕ → Type 0) → Type 0
  CanTell Tells = (ending : SearchEnd) (new : Database) → IsSound new → IsFlawlessEnd ending new → Undeniable ((text : List ℕ) × Tells ending new text)

  end_some : (Tells : SearchEnd → Database → List ℕ → Type 0) → CanTell Tells → Undeniable (HasOutput (EndOutput bound steps Tells old))
  end_some Tells tells none = search_ends (λ found. tells found.0 found.1.0 found.1.1.1 found.1.1.2 (λ told.
      none (told.0, (end_of found.0, (found.0, (found.1.0, (found.1.1.0, told.1, refl)))))))

search_told : (ending : SearchEnd) (new : Database) → IsSound new → IsFlawlessEnd ending new → Undeniable ((text : List ℕ) × TellsSearch ending new text)
search_told (Found visits) new sound (decisions, is) none =
    flawless_states_have_plan_texts new.model (standing new.history) is.state sound.lawful is.settled is.least is.flawless (λ shown. none (
      printed_line (codes "found " ++ decimal visits) ++ shown.1.0,
      (shown.1.0, ((is.state, shown.0, (is.least, shown.1.1.0, shown.1.1.1)), refl)),
    ))
search_told (Exhausted visits left_out) new sound tells none = none (printed_line (codes "exhausted " ++ (decimal visits ++ bound_text left_out)), refl)
search_told (Budget visits) new sound tells none = none (printed_line (codes "budget " ++ decimal visits), refl)

pub search_some : (old : Database) → IsSound old → (bound steps : ℕ) → bound ≤ 512 → Undeniable (HasOutput (SearchOutput bound steps old))
search_some old sound bound steps few none = end_some old sound bound steps few TellsSearch search_told none

-- ---- trials

abbrev counts_of : Plan → Counts
counts_of plan = record { active = count_by is_active plan.lines; merged = count_by is_merged plan.lines }

trial_told : (ending : SearchEnd) (new : Database) → IsSound new → IsFlawlessEnd ending new → Undeniable ((text : List ℕ) × TellsTrial ending new text)
trial_told (Found visits) new sound (decisions, is) none =
    flawless_states_have_plans new.model (standing new.history) is.state
    (record { lawful = sound.lawful; settled = is.settled; consistent = is.least.closed.consistent }) is.flawless (λ found.
    let valid = plan_is_valid new.model (standing new.history) is.state found.0 sound.lawful is.settled is.least is.flawless found.1 in
    none (
      found_text visits (counts_of found.0) (codes "valid\n"),
      (is.state, (is.least, (found.0, (found.1, valid.0, (counts_of found.0, ((refl, refl), refl)))))),
    ))
trial_told (Exhausted visits left_out) new sound tells none = none (printed_line (codes "exhausted " ++ (decimal visits ++ bound_text left_out)), refl)
trial_told (Budget visits) new sound tells none = none (printed_line (codes "budget " ++ decimal visits), refl)

pub trial_some : (old : Database) → IsSound old → (steps : ℕ) → Undeniable (HasOutput (EndOutput 512 steps TellsTrial old))
trial_some old sound steps none = end_some old sound 512 steps (omega arith) TellsTrial trial_told none
