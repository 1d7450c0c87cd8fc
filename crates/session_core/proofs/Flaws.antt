-- Flaws and decisions that are told.
use Rattle.std.proofs.Common.{◌≡◌, ℕ, List, length, Some, Result, Ok, Err, inl, inr, refl, sym, subst}
use Rattle.std.specs.Prelude.{IfOk, codes}
use Rattle.std.specs.declared.alloc.AllocError.{AllocError}
use Rattle.model_core.specs.declared.decision.Decision.{Decision}
use Rattle.model_core.specs.declared.model.Model.{Model}
use Rattle.model_core.specs.History.{standing}
use Rattle.model_core.specs.State.{State}
use Rattle.flaw_core.specs.declared.flaw.Flaw.{Flaw}
use Rattle.flaw_core.specs.Places.{IsFlawAt}
use Rattle.flaw_core.specs.Rules.{IsFirstAt, AreChoicesAt}
use Rattle.plan_db.specs.Database.{Database}
use Rattle.plan_defs.specs.Flaws as named
use Rattle.script_lang.specs.declared.command.Command.TheVariants as commands
use Rattle.session_replies.specs.Lines.{with_line_feed, IsFlawLine}
use Rattle.session_core.specs.Replies.{TellsDecisions, TellsFlaw}
use Rattle.session_core.specs.Steps.{AnswersCommand}

pub decisions_told : (database : Database) (result : Result (List ℕ) AllocError)
    → IfOk result (TellsDecisions database.model (codes "decisions") (standing database.history)) → AnswersCommand database commands.Decisions result database
decisions_told database (Ok reply) told = (told, refl)
decisions_told database (Err none) told = inl refl

-- the first flaw is told
module _ (model : Model) (decisions : List Decision) (state : State) (found : Flaw) (count : ℕ) (first : IsFirstAt model decisions state (Some found)) where
  pub flaw_told : (result : Result (List ℕ) AllocError)
      → IfOk result (λ reply. (subject : named.Flaw) → IsFlawAt state found subject
      → (line : List ℕ) × (IsFlawLine model subject count line × (reply ≡ with_line_feed line)))
      → ((choices : List Decision) → AreChoicesAt model decisions state 512 found choices → length choices ≡ count)
      → IfOk result (λ reply. (choices : List Decision) → AreChoicesAt model decisions state 512 found choices → TellsFlaw model decisions state reply)
  flaw_told (Ok reply) told counted = λ choices are.
      let written = told first.0 first.1 in
      inr (
        first.0,
        choices,
        written.0,
        (
          first.2,
          are first.0 first.1,
          subst (λ (n : ℕ). IsFlawLine model first.0 n written.0) (sym (counted choices are)) written.1.0,
          written.1.1,
        ),
      )
  flaw_told (Err none) told counted = tt
