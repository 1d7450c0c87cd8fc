-- A subject that stands for another one is that one, where a decision on either of the two stands.
use Rattle.std.proofs.Common.{◌≡◌, ◌⊎◌, ℕ, List, ◌∷◌, Result, Ok, Err, inl, inr, refl, sym, subst}
use Rattle.std.specs.Prelude.{Contains}
use Rattle.std.proofs.lemmas.List.Elements.{Contains-append_right}
use Rattle.domain_core.specs.declared.kind.Kind.{Kind}
use Rattle.db_history.specs.declared.subject.Subject.{Subject}
use Rattle.db_history.specs.declared.subject.Subject.TheVariants as subjects
use Rattle.db_history.specs.Subjects.{IsOfSubject}
use Rattle.eu_name.proofs.Ordered.{contains_head}
use Rattle.model_core.specs.declared.decision.ConArg.{ConArg}
use Rattle.model_core.specs.declared.decision.Decision.{Decision}
use Rattle.model_core.specs.declared.decision.Decision.TheVariants as decisions
use Rattle.model_core.specs.declared.model.Model.{Model}
use Rattle.model_core.specs.History.{standing}
use Rattle.plan_db.specs.Database.{Database, IsSound, Resets, HasDecisionOn}
use Rattle.plan_db.specs.declared.fault.Outcome.{Outcome}
use Rattle.plan_defs.proofs.Histories.{standing_settled}
use Rattle.script_lang.specs.declared.command.Command.TheVariants.{Withdraw}
use Rattle.script_lang.specs.Naming.{SayArguments}
use Rattle.script_lang.proofs.Sharing.{stands_itself, standing_is_asked}
use Rattle.session_core.specs.declared.reason.RefusalReason.TheVariants as reason
use Rattle.session_core.specs.declared.reason.StepStop.{StepStop}
use Rattle.session_core.specs.declared.reason.StepStop.TheVariants.{Refused, Memory}
use Rattle.session_core.specs.Steps.{ResetsOn, AsksNoSubject, StandsForSubject}

-- each subject stands for itself
pub same_subject : (subject : Subject) → StandsForSubject subject subject
same_subject (subjects.Constraint kind given) = stands_itself (decisions.Constrain kind given)
same_subject (subjects.Var name) = refl
same_subject (subjects.Token token) = refl
same_subject (subjects.Order first second) = refl
same_subject (subjects.Relation relation first second) = refl

-- where a decision on the subject is taken out, one stands
pub stood_on : (old new : Database) (subject : Subject) (found : Outcome) → Resets old subject (Ok found) new → HasDecisionOn old subject
stood_on old new subject found resets =
    let out = resets.2 in
    let there = Contains-append_right out.front (out.decision ∷ out.back) out.decision (contains_head out.decision out.back) in
    (out.decision, subst (λ (list : List Decision). Contains list out.decision) (sym out.parts) there, out.on)

module _ (old : Database) (sound : IsSound old) where
  -- a decision on a constraint is that which posts it
  posted_stands : (kind other : Kind) (given found : List ConArg) → Contains (standing old.history) (decisions.Constrain other found)
      → IsOfSubject (subjects.Constraint kind given) (decisions.Constrain other found) → Contains (standing old.history) (decisions.Constrain kind given)
  posted_stands kind other given found there on =
      subst (λ (list : List ConArg). Contains (standing old.history) (decisions.Constrain kind list)) on.1
      (subst (λ (k : Kind). Contains (standing old.history) (decisions.Constrain k found)) on.0 there)

  same_constraint : (kind other : Kind) (given asked : List ConArg) → decisions.Constrain kind given ≡ decisions.Constrain other asked → subjects.Constraint kind given ≡ subjects.Constraint other asked
  same_constraint kind other given asked same =
      let kinds : kind ≡ other = cc in
      let lists : given ≡ asked = cc in
      λ i. subjects.Constraint (kinds i) (lists i)

  subject_is_asked : (subject asked : Subject) (decision : Decision) → StandsForSubject subject asked → Contains (standing old.history) decision
      → IsOfSubject subject decision ⊎ IsOfSubject asked decision → subject ≡ asked
  subject_is_asked (subjects.Constraint kind given) (subjects.Constraint other asked) (decisions.Constrain kind' given') stands there on =
      let settled = standing_settled old.model old.history sound.history in
      same_constraint kind other given asked
      (standing_is_asked old.model (standing old.history) sound.lawful settled (decisions.Constrain kind given) (decisions.Constrain other asked) stands (elim on [
        | inl one ↦ inl (posted_stands kind kind' given given' there one)
        | inr two ↦ inr (posted_stands other kind' asked given' there two)
      ]))
  subject_is_asked (subjects.Constraint kind given) (subjects.Constraint other asked) decision stands there (inl one) = absurd one
  subject_is_asked (subjects.Constraint kind given) (subjects.Constraint other asked) decision stands there (inr two) = absurd two
  subject_is_asked subject asked decision stands there on = stands

  -- so what is answered of the one is so of the other
  pub reset_for : (new : Database) (subject asked : Subject) → StandsForSubject subject asked → (step : Result Outcome StepStop) → ResetsOn old subject step new → ResetsOn old asked step new
  reset_for new subject asked stands (Ok outcome) resets =
      let has = stood_on old new subject outcome resets in
      subst (λ (s : Subject). Resets old s (Ok outcome) new) (subject_is_asked subject asked has.0 stands has.1 (inl has.2)) resets
  reset_for new subject asked stands (Err (Refused reason.NoDecision)) resets =
      (λ has. resets.0 (subst (HasDecisionOn old) (sym (subject_is_asked subject asked has.0 stands has.1 (inr has.2))) has), resets.1)
  reset_for new subject asked stands (Err (Refused why)) resets = absurd resets
  reset_for new subject asked stands (Err Memory) resets = resets

-- words that say no arguments name no constraint
pub no_constraint : (model : Model) (kind : Kind) (words : List (List ℕ)) → ((asked : List ConArg) → SayArguments model kind words asked → ⊥) → AsksNoSubject model (Withdraw kind words)
no_constraint model kind words none (subjects.Constraint other given) asks = none given asks.1
no_constraint model kind words none subject asks = asks
