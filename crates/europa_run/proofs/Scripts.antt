-- What the session of a script leaves is what the run of the words leaves.
use Rattle.std.proofs.Common.{◌≡◌, ℕ, List, [], ◌++◌, Some, Result, Ok, Err, inl, inr, refl, sym, ap, ◌∙◌, subst, append-nil}
use Rattle.std.proofs.KnownBytes.{Appends-nil}
use Rattle.run_words.specs.declared.request.Request.{Request}
use Rattle.run_words.specs.declared.request.Request.TheVariants.{Script}
use Rattle.run_words.specs.Requests.{Asks}
use Rattle.eu_io.specs.declared.shelf.FileEntry.{FileEntry}
use Rattle.session_loop.specs.declared.fault.SessionFault.{SessionFault}
use Rattle.session_loop.specs.declared.fault.SessionFault.TheVariants as fault
use Rattle.session_loop.specs.declared.talk.SessionEnd.{SessionEnd}
use Rattle.session_loop.specs.declared.talk.SessionEnd.TheVariants.{OfInput, ByAnswer}
use Rattle.session_loop.specs.Ends.{Passage, input_of, course_of, begun, Ends}
use Rattle.session_loop.specs.Lines.{lines_of}
use Rattle.session_loop.specs.Sessions.{Ending, AtEnd, AtAnswer, AtLimit, Session}
use Rattle.plan_db.specs.Answers.{Held}
use Rattle.plan_db.specs.Database.{Database}
use Rattle.run_commands.specs.declared.status.RunEnd.{RunEnd}
use Rattle.run_commands.specs.declared.status.RunEnd.TheVariants.{Done, LinesSpent}
use Rattle.session_core.specs.LineReplies.{AnswersLine}
use Rattle.europa_run.specs.declared.answering.Answer.TheVariants as answer
use Rattle.europa_run.specs.Output.{Given, given_by, end_of, Output}
use Rattle.europa_run.specs.Pieces.{Comes, RunsRequest}
use Rattle.europa_run.specs.Halts.{in_session}
use Rattle.europa_run.specs.Runs.{HoldsSession, StopsScript, RunLeaves}
use Rattle.europa_run.specs.Steps.{Told, ended_by, Streams, EditTells}
use Rattle.europa_run.proofs.Written.{appended}

-- where there was no memory to begin with, nothing was taken and nothing written
pub session_unbegun : (start : Database) (streams : Streams) → EditTells start streams streams (ended_by (Err fault.Memory))
session_unbegun start streams = (
  start,
  (
    Err fault.Memory,
    (
      refl,
      λ input told_left. (
        record { taken = []; left = input; out = []; last = begun start },
        refl,
        told_left,
        Appends-nil streams.written,
        refl,
        inl (record { answered = []; later = lines_of input; split = refl; session = refl }),
      ),
    ),
  ),
)

spent_done : LinesSpent ≡ Done → ⊥
spent_done same = cc

module _ (words : List (List ℕ)) (given : Given) (file : List ℕ) (database : Database) (holds : HoldsSession words given file database) where
  -- the session came to an end of its own
  session_output : (passage : Passage Database) (ending : Ending) → Session AnswersLine (begun database) (lines_of given.input) (course_of passage ending)
      → Output words given passage.out (end_of ending)
  session_output passage ending session = inr (Script file, (holds.asks, inr (database, (holds.posed, (course_of passage ending, (session, refl, refl))))))

  stops : (passage : Passage Database) (end : SessionFault) → given.input ≡ input_of passage → Ends AnswersLine (begun database) passage (Err end)
      → StopsScript words given (record { left = passage.left; out = passage.out }) end
  stops passage end is ends = record {
    file = file;
    database = database;
    holds = holds;
    passage = passage;
    input = is;
    left = refl;
    out = refl;
    ends = ends;
  }

  session_leaves : (passage : Passage Database) (end : Result SessionEnd SessionFault) → given.input ≡ input_of passage → Ends AnswersLine (begun database) passage end
      → RunLeaves words given (record { left = passage.left; out = passage.out }) (in_session (ended_by end))
  session_leaves passage (Ok OfInput) is ends =
      let whole : passage.taken ≡ given.input = sym (is ∙ (ap (λ l. passage.taken ++ l) ends.0 ∙ append-nil passage.taken)) in (
        session_output passage AtEnd (subst (λ l. Session AnswersLine (begun database) (lines_of l) (course_of passage AtEnd)) whole ends.1),
        λ done name asked. inl ends.0,
      )
  session_leaves passage (Ok ByAnswer) is ends =
      let session = subst (λ l. Session AnswersLine (begun database) (lines_of l) (course_of passage AtAnswer)) (sym is) ends in (
        session_output passage AtAnswer session,
        λ done name asked. inr (record {
          file = file;
          database = database;
          holds = holds;
          course = course_of passage AtAnswer;
          session = session;
          quits = refl;
        }),
      )
  session_leaves passage (Err fault.LinesSpent) is ends = (
    session_output passage AtLimit (subst (λ l. Session AnswersLine (begun database) (lines_of l) (course_of passage AtLimit)) (sym is) ends),
    λ done. absurd (spent_done done),
  )
  session_leaves passage (Err fault.ReadFault) is ends = stops passage fault.ReadFault is ends
  session_leaves passage (Err fault.WriteFault) is ends = stops passage fault.WriteFault is ends
  session_leaves passage (Err fault.Memory) is ends = stops passage fault.Memory is ends

-- what is told of the session is what the run leaves
pub session_runs : (request : Request (List ℕ)) (old new : Told) (held : Held) (ended : Result RunEnd SessionFault)
    → ((files : List FileEntry) → old.files ≡ Some files → Comes files request (Ok (answer.Session held)))
    → EditTells held.database (record { left = old.left; written = old.written }) (record { left = new.left; written = new.written }) ended
    → RunsRequest request old new (in_session ended)
session_runs request old new held ended comes (last, (end, (is, tells))) = λ words asks files input before told_files told_left told_written.
    let script = comes files told_files in
    let p = tells input told_left in
    let passage = p.0 in
    let holds : HoldsSession words (given_by files input) script.0 held.database =
    record { asks = subst (λ (r : Request (List ℕ)). Asks words r) script.1.0 asks; posed = script.1.1 } in (
      record { left = passage.left; out = passage.out },
      (
        p.2,
        appended old.written new.written before passage.out told_written p.3,
        subst (λ (e : Result RunEnd SessionFault). RunLeaves words (given_by files input) (record { left = passage.left; out = passage.out }) (in_session e)) (sym is)
            (session_leaves words (given_by files input) script.0 held.database holds passage end p.1 p.5),
      ),
    )
