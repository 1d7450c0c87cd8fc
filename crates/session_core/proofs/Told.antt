-- What is told of a database.
use Rattle.std.proofs.Common.{◌≡◌, ℕ, List, Result, Ok, Err, inl, inr, refl, subst}
use Rattle.std.specs.Prelude.{IfOk}
use Rattle.std.specs.declared.alloc.AllocError.{AllocError}
use Rattle.domain_core.specs.Domain.{Domain}
use Rattle.eu_name.specs.declared.name.VarName.{VarName}
use Rattle.eu_name.specs.declared.name_text.NameText.{NameText}
use Rattle.model_core.specs.declared.decision.Decision.{Decision}
use Rattle.model_core.specs.declared.model.Model.{Model}
use Rattle.model_core.specs.History.{standing}
use Rattle.model_core.specs.Lawful.{IsLawful}
use Rattle.model_core.specs.Names.{NamesVariable}
use Rattle.model_core.specs.State.{State, Gives}
use Rattle.model_core.proofs.Naming.{names_one_variable}
use Rattle.plan_db.specs.Answers.{Held, AnswersDomain, AnswersNothing, IsSeen, IsUnseen}
use Rattle.plan_db.specs.Database.{Database, HasLeast, HasCollapsed}
use Rattle.plan_db.specs.declared.fault.Outcome.TheVariants.{Inconsistent}
use Rattle.plan_db.specs.declared.fault.QueryFault.{QueryFault}
use Rattle.plan_db.specs.declared.fault.QueryFault.TheVariants as query
use Rattle.db_refusals.specs.Seeing.{Seen, seen_state}
use Rattle.session_replies.specs.Lines.{with_line_feed, IsDomainLine}
use Rattle.session_core.specs.Telling.{SaysUntold, TellsVariable}
use Rattle.model_core.specs.declared.refusal.Refusal.TheVariants.{Unknown}
use Rattle.session_core.specs.declared.reason.RefusalReason.TheVariants as reason
use Rattle.session_core.specs.Reasons.{outcome_text, refusal}
use Rattle.session_core.specs.Replies.{Keeping, TellsState, TellsDomain}
use Rattle.session_core.specs.Steps.{Answers}

-- nothing changes where something is only told
pub kept_answers : (old : Database) (Tells : Database → List ℕ → Type 0) (result : Result (List ℕ) AllocError)
    → IfOk result (Tells old) → Answers (Keeping Tells old) old result old
kept_answers old Tells (Ok reply) tells = (tells, refl)
kept_answers old Tells (Err none) tells = inl refl

-- ---- views

-- what a view tells is told of the least state
pub seen_told : (held : Held) (view : Seen) → IsSeen held view → (model : Model) → model ≡ held.database.model
    → (Tells : Model → List Decision → State → List ℕ → Type 0) (result : Result (List ℕ) AllocError)
    → IfOk result (Tells model view.decisions (seen_state view.stored))
    → IfOk result (TellsState (Tells held.database.model (standing held.database.history)) held.database)
seen_told held view sees model same Tells (Ok reply) told =
    let state = seen_state view.stored in
    inr (
      state,
      (
        sees.least,
        subst (λ (l : List Decision). Tells held.database.model l state reply) sees.decisions
            (subst (λ (m : Model). Tells m view.decisions state reply) same told),
      ),
    )
seen_told held view sees model same Tells (Err none) told = tt

pub unseen_told : (held : Held) (why : QueryFault) → IsUnseen held why → (Tells : State → List ℕ → Type 0) (result : Result (List ℕ) AllocError)
    → IfOk result (SaysUntold why) → IfOk result (TellsState Tells held.database)
unseen_told held query.Inconsistent unseen Tells (Ok reply) says = inl (unseen.1, says)
unseen_told held query.Unknown unseen Tells (Ok reply) says = absurd unseen
unseen_told held query.Behind unseen Tells (Ok reply) says = absurd says
unseen_told held why unseen Tells (Err none) says = tt

-- ---- variables

pub variable_told : (held : Held) (name : VarName) (domain : Domain) → AnswersDomain held name domain → (model : Model) → model ≡ held.database.model
    → (result : Result (List ℕ) AllocError)
    → IfOk result (λ reply. (line : List ℕ) × (IsDomainLine model name domain line × (reply ≡ with_line_feed line)))
    → IfOk result (TellsState (TellsVariable held.database.model name) held.database)
variable_told held name domain answers model same (Ok reply) (line, (is, says)) =
    inr (
      answers.1.0,
      (
        answers.1.1,
        inl (domain, line, (answers.1.2, subst (λ (m : Model). IsDomainLine m name domain line) same is, says)),
      ),
    )
variable_told held name domain answers model same (Err none) told = tt

pub variable_untold : (held : Held) (name : VarName) (why : QueryFault) → AnswersNothing held name why → (result : Result (List ℕ) AllocError)
    → IfOk result (SaysUntold why) → IfOk result (TellsState (TellsVariable held.database.model name) held.database)
variable_untold held name query.Inconsistent answers (Ok reply) says = inl (answers.1, says)
variable_untold held name query.Unknown answers (Ok reply) says = inr (answers.1.0, (answers.1.1, inr (answers.1.2, says)))
variable_untold held name query.Behind answers (Ok reply) says = absurd says
variable_untold held name why answers (Err none) says = tt

module _ (database : Database) (text : NameText) where
  -- of the variable that a text names
  named_told : (lawful : IsLawful database.model) (name : VarName) → NamesVariable database.model text name → (reply : List ℕ)
      → TellsState (TellsVariable database.model name) database reply → TellsState (TellsDomain database.model text) database reply
  named_told lawful name names reply (inl collapsed) = inl collapsed
  named_told lawful name names reply (inr (state, (least, inl (domain, line, (gives, is, says))))) =
      inr (state, (least, inl (name, domain, line, (names, gives, is, says))))
  named_told lawful name names reply (inr (state, (least, inr (none, says)))) =
      inr (
        state,
        (
          least,
          inr (
            λ other domain is gives.
                none domain
                (subst (λ (n : VarName). Gives state n domain) (names_one_variable database.model text other name lawful is names) gives),
            says,
          ),
        ),
      )

  pub domain_told : (lawful : IsLawful database.model) (name : VarName) → NamesVariable database.model text name → (result : Result (List ℕ) AllocError)
      → IfOk result (TellsState (TellsVariable database.model name) database) → IfOk result (TellsState (TellsDomain database.model text) database)
  domain_told lawful name names (Ok reply) told = named_told lawful name names reply told
  domain_told lawful name names (Err none) told = tt

  -- of none
  pub domain_unknown : ((state : State) × HasLeast database state) → ((name : VarName) → NamesVariable database.model text name → ⊥)
      → (result : Result (List ℕ) AllocError) → IfOk result (λ reply. reply ≡ refusal (reason.Decision Unknown)) → IfOk result (TellsState (TellsDomain database.model text) database)
  domain_unknown least none (Ok reply) says = inr (least.0, (least.1, inr (λ name domain names gives. none name names, says)))
  domain_unknown least none (Err fault) says = tt

  pub domain_collapsed : HasCollapsed database → (result : Result (List ℕ) AllocError) → IfOk result (λ reply. reply ≡ outcome_text Inconsistent)
      → IfOk result (TellsState (TellsDomain database.model text) database)
  domain_collapsed collapsed (Ok reply) says = inl (collapsed, says)
  domain_collapsed collapsed (Err fault) says = tt
