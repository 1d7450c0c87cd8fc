-- Searches have replies, each line has an answer, and lines have a session.
use Rattle.std.proofs.Common.{◌≡◌, ℕ, zero, suc, ◌+◌, ◌-◌, ◌≤◌, inl, inr, List, [], ◌∷◌, ◌++◌, length, Ok, Err, refl, sym, ap, ◌∙◌, subst, append_assoc, arith}
use Rattle.std.specs.Prelude.{codes, true, ⊤}
use Rattle.std.specs.Fmt.{decimal}
use Rattle.std.proofs.lemmas.Bool.{cases_lt}
use Rattle.std.proofs.lemmas.List.{append-nil}
use Rattle.session_loop.specs.declared.reply.Answer.{Answer}
use Rattle.session_loop.proofs.Existing.{some_session}
use Rattle.model_core.specs.declared.decision.Decision.{Decision}
use Rattle.model_core.specs.declared.model.Model.{Model}
use Rattle.model_core.specs.History.{History, standing, accepted}
use Rattle.plan_db.specs.Database.{Database, taken_in, IsSound}
use Rattle.plan_db.specs.Rewinding.{TakesMore}
use Rattle.plan_db.specs.declared.fault.Outcome.TheVariants as outcomes
use Rattle.plan_defs.specs.History.{IsHistory}
use Rattle.plan_defs.specs.Settling.{SettlesAfter, IsSettled}
use Rattle.plan_defs.proofs.Histories.{accepted_is, standing_settled}
use Rattle.law_states.specs.Undeniable.{Undeniable}
use Rattle.law_states.proofs.Denying.{is_or_not}
use Rattle.law_states.proofs.Leaving.{next_stays}
use Rattle.law_states.proofs.Splitting.{settles_behind}
use Rattle.law_search.specs.Outcomes.{HasOutcome}
use Rattle.law_search.specs.Search.{SearchEnding, Finds, Fails, Stops}
use Rattle.law_search.specs.SearchLaws.{IsFoundList}
use Rattle.law_search.proofs.Outcoming.{searches_have_outcomes}
use Rattle.law_search.proofs.Searching.{found_by}
use Rattle.flaw_core.specs.declared.ending.SearchEnd.TheVariants.{Found, Exhausted, Budget}
use Rattle.script_lang.specs.declared.command.Command.{Command}
use Rattle.script_lang.specs.declared.command.Command.TheVariants as commands
use Rattle.script_lang.specs.declared.command.LineFault.TheVariants as faults
use Rattle.script_lang.specs.Line.{IsCommand}
use Rattle.script_lang.specs.Words.{words_of}
use Rattle.session_replies.specs.Texts.{printed_line, bound_text}
use Rattle.session_core.specs.declared.reason.RefusalReason.TheVariants as reason
use Rattle.session_core.specs.Existence.{HasReply, SearchesHaveReplies, LinesHaveAnswers, LinesHaveSessions}
use Rattle.session_core.specs.LineReplies.{goes_on_behind, AnswersLine}
use Rattle.session_core.specs.Reasons.{refusal, outcome_text}
use Rattle.session_core.specs.Replies.{RepliesSearch, RepliesSolve}
use Rattle.session_core.proofs.PlanTexts.{flawless_states_have_plan_texts}
use Rattle.session_core.proofs.Existing.{collapsed_or_least, unless_full, plain_reply}

-- ---- what is found

-- a history with these decisions taken too, one after another
pub record IsTakenOn (model : Model) (old : History) (more : List Decision) : Type 0 where
  pub history : History
  pub is : IsHistory model history
  pub count : ℕ
  pub takes : TakesMore count old history
  pub stands : standing history ≡ standing old ++ more

-- one more before the others
takes_before : (count : ℕ) (old new : History) (decision : Decision) → TakesMore count (accepted old decision) new → TakesMore (suc count) old new
takes_before zero old new decision same = (old, (decision, (refl, same)))
takes_before (suc count) old new decision (before, (last, (takes, same))) = (before, (last, (takes_before count old before decision takes, same)))

pub taken_on : (model : Model) (old : History) (more : List Decision) → IsHistory model old → SettlesAfter model (standing old) more (standing old ++ more) → IsTakenOn model old more
taken_on model old [] is settles = record { history = old; is = is; count = 0; takes = refl; stands = sym (append-nil (standing old)) }
taken_on model old (decision ∷ more) is settles =
    let next = next_stays model (standing old) decision more settles in
    let rest = taken_on model (accepted old decision) more (accepted_is model old decision is next.0) next.1 in
    record {
      history = rest.history;
      is = rest.is;
      count = suc rest.count;
      takes = takes_before rest.count old rest.history decision rest.takes;
      stands = rest.stands ∙ append_assoc (standing old) (decision ∷ []) more;
    }

pub left_and_spent : (left units : ℕ) → left ≤ units → (units - left) + left ≡ units
left_and_spent left units few = omega (arith, few)

pub all_spent : (left units : ℕ) → left ≡ 0 → units - left ≡ units
all_spent left units none = omega (arith, none)

module _ (old : Database) (sound : IsSound old) (steps tokens : ℕ) (few : tokens ≤ 512) where
  abbrev stood : List Decision
  stood = standing old.history

  settled : IsSettled old.model stood
  settled = standing_settled old.model old.history sound.history

  abbrev HasSearch : Type 0
  HasSearch = (reply : List ℕ) × ((new : Database) × (RepliesSearch tokens steps old reply new × IsSound new))

  module _ (has : HasOutcome old.model tokens steps stood) where
    abbrev visits : ℕ
    visits = steps - has.outcome.left

    found_at : (history : History) → IsHistory old.model history → (count : ℕ) → TakesMore count old.history history → has.outcome.ending ≡ Finds (standing history)
        → IsFoundList old.model stood (standing history) → Undeniable HasSearch
    found_at history is_history count takes ends is none =
        flawless_states_have_plan_texts old.model (standing history) is.state sound.lawful is.settled is.least is.flawless (λ shown. none (
          printed_line (codes "found " ++ decimal visits) ++ shown.1.0,
          (
            taken_in old.model history,
            (
              (
                has.outcome,
                Found visits,
                (
                  has.searches,
                  (left_and_spent has.outcome.left steps has.few, ends, refl, (count, takes)),
                  (shown.1.0, ((is.state, shown.0, (is.least, shown.1.1.0, shown.1.1.1)), refl)),
                ),
              ),
              record { lawful = sound.lawful; history = is_history },
            ),
          ),
        ))

    found_told : (found : List Decision) → has.outcome.ending ≡ Finds found → IsFoundList old.model stood found → Undeniable HasSearch
    found_told found ends is none =
        let on = taken_on old.model old.history is.more sound.history
        (settles_behind old.model stood is.more (stood ++ is.more) settled (subst (λ (l : List Decision). SettlesAfter old.model [] l l) is.longer is.settled)) in
        let same : found ≡ standing on.history = is.longer ∙ sym on.stands in
        found_at on.history on.is on.count on.takes (ends ∙ ap Finds same) (subst (λ (l : List Decision). IsFoundList old.model stood l) same is) none

    by_ending : (ending : SearchEnding) → has.outcome.ending ≡ ending → Undeniable HasSearch
    by_ending (Finds found) ends none =
        found_told found ends (found_by old.model sound.lawful tokens few steps steps stood found has.outcome settled has.searches ends) none
    by_ending Fails ends none = none (
      printed_line (codes "exhausted " ++ (decimal visits ++ bound_text has.outcome.left_out)),
      (
        old,
        (
          (
            has.outcome,
            Exhausted visits has.outcome.left_out,
            (has.searches, (left_and_spent has.outcome.left steps has.few, ends, refl, refl), refl),
          ),
          sound,
        ),
      ),
    )
    by_ending Stops ends none = none (
      printed_line (codes "budget " ++ decimal visits),
      (
        old,
        (
          (
            has.outcome,
            Budget visits,
            (has.searches, (left_and_spent has.outcome.left steps has.few, ends, all_spent has.outcome.left steps (has.spent ends), refl), refl),
          ),
          sound,
        ),
      ),
    )

  searched : Undeniable HasSearch
  searched none = searches_have_outcomes old.model tokens steps stood sound.lawful few settled (λ has. by_ending has has.outcome.ending refl none)

  solved : Undeniable ((reply : List ℕ) × ((new : Database) × (RepliesSolve steps tokens old reply new × IsSound new)))
  solved none = collapsed_or_least old sound (λ which. elim which [
    | inl collapsed ↦ none (outcome_text outcomes.Inconsistent, (old, (inl (collapsed, refl, refl), sound)))
    | inr least ↦ searched (λ found. none (found.0, (found.1.0, (inr (least, found.1.1.0), found.1.1.1))))
  ])

  search_reply : Undeniable (HasReply old (commands.Solve steps tokens))
  search_reply none = unless_full old sound (RepliesSolve steps tokens old) solved none

pub searches_have_replies : SearchesHaveReplies
searches_have_replies old steps tokens sound few none = search_reply old sound steps tokens few none

-- ---- lines

-- a search is asked for under a bound of 512 at most
abbrev IsBounded : Command → Type 0
IsBounded (commands.Solve steps tokens) = tokens ≤ 512
IsBounded command = ⊤

bounded : (words : List (List ℕ)) (command : Command) → IsCommand words command → IsBounded command
bounded words (commands.Solve steps tokens) is = is.3
bounded words command is = tt

any_reply : (old : Database) → IsSound old → (command : Command) → IsBounded command → Undeniable (HasReply old command)
any_reply old sound (commands.Solve steps tokens) few none = search_reply old sound steps tokens few none
any_reply old sound command few none = plain_reply old sound command tt none

abbrev HasAnswer : Database → List ℕ → Type 0
HasAnswer old text = (answer : Answer) × ((new : Database) × (AnswersLine old text answer new × IsSound new))

read_answer : (old : Database) (text : List ℕ) → IsSound old → length text ≤ 4096 → (command : Command) → IsCommand (words_of text) command → Undeniable (HasAnswer old text)
read_answer old text sound short command is none = any_reply old sound command (bounded (words_of text) command is) (λ told. none (
  record { reply = told.0; goes_on = goes_on_behind command },
  (told.1.0, ((sound, (Ok command, ((short, is), (told.1.1.0, refl)))), told.1.1.1)),
))

short_answer : (old : Database) (text : List ℕ) → IsSound old → length text ≤ 4096 → Undeniable (HasAnswer old text)
short_answer old text sound short none = is_or_not ((command : Command) × IsCommand (words_of text) command) (λ which. elim which [
  | inl found ↦ read_answer old text sound short found.0 found.1 none
  | inr not ↦ none (
    record { reply = refusal reason.Syntax; goes_on = true },
    (old, ((sound, (Err faults.Syntax, ((short, (λ command is. not (command, is))), (refl, refl, refl)))), sound)),
  )
])

some_answer : (old : Database) (text : List ℕ) → IsSound old → Undeniable (HasAnswer old text)
some_answer old text sound none = elim (cases_lt 4096 (length text)) [
  | inl long ↦ none (
    record { reply = refusal reason.Long; goes_on = true },
    (old, ((sound, (Err faults.TooLong, (long, (refl, refl, refl)))), sound)),
  )
  | inr short ↦ short_answer old text sound short none
]

pub lines_have_answers : LinesHaveAnswers
lines_have_answers old text sound none = some_answer old text sound none

pub lines_have_sessions : LinesHaveSessions
lines_have_sessions start texts sound none =
    some_session AnswersLine IsSound some_answer start texts sound none
