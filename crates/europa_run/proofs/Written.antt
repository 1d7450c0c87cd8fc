-- What is printed is the output of the words, or a front of it.
use Rattle.std.proofs.Common.{◌≡◌, ℕ, true, false, List, [], ◌++◌, Option, Some, None, Result, Ok, Err, refl, sym, ap, ◌∙◌, subst, inl, inr, append-nil}
use Rattle.std.specs.Io.KnownBytes.{Appends}
use Rattle.run_words.specs.declared.request.Request.{Request}
use Rattle.run_words.specs.declared.request.Request.TheVariants.{Script}
use Rattle.run_words.specs.Requests.{Asks, AreNoCommand}
use Rattle.run_words.proofs.Asking.{asks_once}
use Rattle.eu_io.specs.declared.shelf.FileEntry.{FileEntry}
use Rattle.run_commands.specs.declared.lines.Printed.{Printed}
use Rattle.run_commands.specs.declared.status.RunEnd.{RunEnd}
use Rattle.run_commands.specs.declared.status.RunEnd.TheVariants.{Done, Usage}
use Rattle.run_commands.specs.declared.status.RunFault.{RunFault}
use Rattle.run_commands.specs.declared.status.RunFault.TheVariants.{Read, Write, Memory}
use Rattle.run_commands.specs.Printed.{Prints}
use Rattle.europa_run.specs.declared.answering.Answer.TheVariants as answer
use Rattle.europa_run.specs.Output.{given_by, is_script, RequestOutput, Output}
use Rattle.europa_run.specs.Pieces.{Comes, RunsRequest}
use Rattle.europa_run.specs.declared.stopping.Halt.TheVariants.{Outside}
use Rattle.europa_run.specs.Halts.{outside}
use Rattle.europa_run.specs.Runs.{LeavesNoInput, RunsTo}
use Rattle.europa_run.specs.Steps.{Told, UsagePrints}

-- what is appended to what is told is told
pub appended : (old new : Option (List ℕ)) (before bytes : List ℕ) → old ≡ Some before → Appends old new bytes → new ≡ Some (before ++ bytes)
appended None new before bytes is appends = absurd (let no : ⊥ = cc in no)
appended (Some text) None before bytes is appends = absurd appends
appended (Some text) (Some more) before bytes is appends =
    let same : text ≡ before = cc in
    ap Some (appends ∙ ap (λ l. l ++ bytes) same)

done_usage : Done ≡ Usage → ⊥
done_usage same = cc

-- words that ask for what is no script ask for none
no_script : (words : List (List ℕ)) (request : Request (List ℕ)) → Asks words request → is_script request ≡ false → (file : List ℕ) → Asks words (Script file) → ⊥
no_script words request asks not file script =
    let is : true ≡ false = ap is_script (asks_once words (Script file) request script asks) ∙ not in cc

module _ (words : List (List ℕ)) (old new : Told) (unread : new.left ≡ old.left) where
  -- nothing was written
  pub read_runs : new.written ≡ old.written → RunsTo words old new (Err (Outside Read))
  read_runs same = λ files input before told_files told_left told_written.
      (record { left = input; out = [] }, (unread ∙ told_left, same ∙ told_written ∙ ap Some (sym (append-nil before)), (refl, refl)))

  pub memory_runs : new.written ≡ old.written → RunsTo words old new (Err (Outside Memory))
  memory_runs same = λ files input before told_files told_left told_written.
      (record { left = input; out = [] }, (unread ∙ told_left, same ∙ told_written ∙ ap Some (sym (append-nil before)), (refl, refl)))

  -- all of the output was written
  whole_runs : (text : List ℕ) (end : RunEnd) → Appends old.written new.written text
      → ((files : List FileEntry) (input : List ℕ) → old.files ≡ Some files → Output words (given_by files input) text end)
      → ((files : List FileEntry) (input : List ℕ) → old.files ≡ Some files → end ≡ Done → LeavesNoInput words (given_by files input) (record { left = input; out = text }))
      → RunsTo words old new (Ok end)
  whole_runs text end appends gives done = λ files input before told_files told_left told_written. (
    record { left = input; out = text },
    (
      unread ∙ told_left,
      appended old.written new.written before text told_written appends,
      (gives files input told_files, done files input told_files),
    ),
  )

  -- a front of it was
  front_runs : (front lost : List ℕ) (end : RunEnd) → Appends old.written new.written front
      → ((files : List FileEntry) (input : List ℕ) → old.files ≡ Some files → Output words (given_by files input) (front ++ lost) end) → RunsTo words old new (Err (Outside Write))
  front_runs front lost end appends gives = λ files input before told_files told_left told_written. (
    record { left = input; out = front },
    (
      unread ∙ told_left,
      appended old.written new.written before front told_written appends,
      (lost, (end, gives files input told_files)),
    ),
  )

  -- the usage
  pub usage_runs : (ended : Result RunEnd RunFault) → AreNoCommand words → UsagePrints old.written new.written ended → RunsTo words old new (outside ended)
  usage_runs (Ok end) none p =
      whole_runs p.0 end p.1.0 (λ files input told. inl (none, p.1.1))
      (λ files input told done. absurd (done_usage (sym done ∙ p.1.1.1)))
  usage_runs (Err Read) none p = absurd p
  usage_runs (Err Write) none p = front_runs p.0 p.1 p.2.0 p.2.1.0 (λ files input told. inl (none, p.2.1.1))
  usage_runs (Err Memory) none p = memory_runs p

-- what a request comes to is printed
module _ (request : Request (List ℕ)) (old new : Told) (unread : new.left ≡ old.left) where
  pub printed_runs : (printed : Printed) (ended : Result RunEnd RunFault)
      → ((files : List FileEntry) → old.files ≡ Some files → Comes files request (Ok (answer.Printed printed)))
      → Prints printed old.written new.written ended → RunsRequest request old new (outside ended)
  printed_runs printed (Ok end) comes p = λ words asks.
      whole_runs words old new unread printed.text end p.0
      (λ files input told. inr (request, (asks, subst (λ (e : RunEnd). RequestOutput request (given_by files input) printed.text e) (sym p.1) ((comes files told).0 input))))
      (λ files input told done file asked. absurd (no_script words request asks ((comes files told).1 (sym p.1 ∙ done)) file asked))
  printed_runs printed (Err Read) comes p = absurd p
  printed_runs printed (Err Write) comes p = λ words asks.
      front_runs words old new unread p.0 p.1 printed.end p.2
      (λ files input told. inr (request, (asks, subst (λ (text : List ℕ). RequestOutput request (given_by files input) text printed.end) p.3 ((comes files told).0 input))))
  printed_runs printed (Err Memory) comes p = absurd p

  -- nothing is, for want of memory or after a failed read
  pub unanswered_runs : (fault : RunFault) → ((files : List FileEntry) → old.files ≡ Some files → Comes files request (Err fault)) → new.written ≡ old.written
      → RunsRequest request old new (Err (Outside fault))
  unanswered_runs Read comes same = λ words asks. read_runs words old new unread same
  unanswered_runs Write comes same = λ words asks files input before told_files told_left told_written. absurd (comes files told_files)
  unanswered_runs Memory comes same = λ words asks. memory_runs words old new unread same
