-- What a run does step by step.
use Rattle.std.proofs.Common.{◌≡◌, ℕ, List, Option, Some, Result, Ok, Err, inl, inr, refl, sym, ◌∙◌, subst}
use Rattle.run_words.specs.declared.request.Request.{Request}
use Rattle.run_words.specs.Requests.{Asks, AreNoCommand}
use Rattle.run_words.proofs.Asking.{asks_once}
use Rattle.eu_io.specs.declared.shelf.FileEntry.{FileEntry}
use Rattle.session_loop.specs.declared.fault.SessionFault.{SessionFault}
use Rattle.plan_db.specs.Answers.{Held}
use Rattle.run_commands.specs.declared.lines.Printed.{Printed}
use Rattle.run_commands.specs.declared.status.RunEnd.{RunEnd}
use Rattle.run_commands.specs.declared.status.RunFault.{RunFault}
use Rattle.run_commands.specs.declared.status.RunFault.TheVariants.{Read, Write, Memory}
use Rattle.run_commands.specs.Printed.{Prints}
use Rattle.europa_run.specs.declared.answering.Answer.TheVariants as answer
use Rattle.europa_run.specs.declared.stopping.Halt.{Halt}
use Rattle.europa_run.specs.Halts.{outside, in_session}
use Rattle.europa_run.specs.Output.{given_by, RequestOutput}
use Rattle.europa_run.specs.Pieces.{Comes}
use Rattle.europa_run.specs.Steps.{Told, UsagePrints, AskedPrints, Streams, EditTells, RunsAsked, RunsInSteps}

-- whatever words ask for the same ask for it alone
pub asked_steps : (words : List (List ℕ)) (request : Request (List ℕ)) (old new : Told) (ended : Result RunEnd Halt) → Asks words request
    → ((files : List FileEntry) → old.files ≡ Some files → RunsAsked request files old new ended) → RunsInSteps words old new ended
asked_steps words request old new ended asks runs = record {
  usage = λ none. absurd (none request asks);
  asked = λ other files also told.
      subst (λ (r : Request (List ℕ)). RunsAsked r files old new ended) (asks_once words request other asks also) (runs files told);
}

-- words that are no command line ask for nothing
pub usage_steps : (words : List (List ℕ)) (old new : Told) (done : Result RunEnd RunFault) → new.left ≡ old.left → AreNoCommand words
    → UsagePrints old.written new.written done → RunsInSteps words old new (outside done)
usage_steps words old new done unread none prints = record {
  usage = λ no. (unread, (done, (refl, prints)));
  asked = λ request files asks told. absurd (none request asks);
}

-- without memory to read the words nothing is done
pub unread_steps : (words : List (List ℕ)) (old : Told) → RunsInSteps words old old (outside (Err Memory))
unread_steps words old = record {
  usage = λ no. (refl, (Err Memory, (refl, refl)));
  asked = λ request files asks told. inl (refl, (Err Memory, (refl, refl)));
}

module _ (request : Request (List ℕ)) (files : List FileEntry) where
  printed_asked : (old new : Option (List ℕ)) (printed : Printed) (ended : Result RunEnd RunFault)
      → Comes files request (Ok (answer.Printed printed)) → Prints printed old new ended → AskedPrints request files old new ended
  printed_asked old new printed (Ok end) comes p = (
    printed.text,
    (
      λ input. subst (λ (e : RunEnd). RequestOutput request (given_by files input) printed.text e) (sym p.1) (comes.0 input),
      (p.0, λ done. comes.1 (sym p.1 ∙ done)),
    ),
  )
  printed_asked old new printed (Err Read) comes p = absurd p
  printed_asked old new printed (Err Write) comes p = (
    p.0,
    p.1,
    (
      printed.end,
      (p.2, λ input. subst (λ (text : List ℕ). RequestOutput request (given_by files input) text printed.end) p.3 (comes.0 input)),
    ),
  )
  printed_asked old new printed (Err Memory) comes p = absurd p

  -- what was asked for is printed
  pub printed_steps : (old new : Told) (printed : Printed) (ended : Result RunEnd RunFault) → new.left ≡ old.left
      → Comes files request (Ok (answer.Printed printed)) → Prints printed old.written new.written ended
      → RunsAsked request files old new (outside ended)
  printed_steps old new printed ended unread comes prints =
      inl (unread, (ended, (refl, printed_asked old.written new.written printed ended comes prints)))

  stopped_asked : (old : Option (List ℕ)) (fault : RunFault) → Comes files request (Err fault) → AskedPrints request files old old (Err fault)
  stopped_asked old Read comes = refl
  stopped_asked old Write comes = absurd comes
  stopped_asked old Memory comes = refl

  -- nothing is, after a failed read or for want of memory
  pub stopped_steps : (old new : Told) (fault : RunFault) → new.left ≡ old.left → new.written ≡ old.written → Comes files request (Err fault)
      → RunsAsked request files old new (outside (Err fault))
  stopped_steps old new fault unread unwritten comes =
      inl (
        unread,
        (
          Err fault,
          (
            refl,
            subst (λ (w : Option (List ℕ)). AskedPrints request files old.written w (Err fault)) (sym unwritten)
                (stopped_asked old.written fault comes),
          ),
        ),
      )

  -- the lines of a session are answered
  pub talked_steps : (old new : Told) (held : Held) (ended : Result RunEnd SessionFault) → Comes files request (Ok (answer.Session held))
      → EditTells held.database (record { left = old.left; written = old.written }) (record { left = new.left; written = new.written }) ended
      → RunsAsked request files old new (in_session ended)
  talked_steps old new held ended comes tells =
      inr (ended, (refl, (comes.0, (held.database, (comes.1.0, (comes.1.1, tells))))))
