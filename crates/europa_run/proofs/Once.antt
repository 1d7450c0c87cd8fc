-- Words have one output, and what was written before a fault comes first in it.
use Rattle.std.proofs.Common.{◌≡◌, ℕ, List, [], ◌++◌, inl, inr, sym, ap, ◌∙◌, subst}
use Rattle.run_words.specs.declared.request.Request.TheVariants.{Script}
use Rattle.session_loop.specs.declared.fault.SessionFault.{SessionFault}
use Rattle.session_loop.specs.Ends.{begun}
use Rattle.session_loop.specs.Laws.{HasOneReply, IsFront}
use Rattle.session_loop.specs.Lines.{lines_of}
use Rattle.session_loop.specs.Sessions.{Session}
use Rattle.session_loop.proofs.LawLemmas.{fault_writes_front}
use Rattle.law_states.specs.Soundness.{StatesHaveOnePlan}
use Rattle.plan_report.specs.Laws.{TextsAreCheckedOnce}
use Rattle.run_load.specs.Laws.{IsPosedOnce, PosedIsSound}
use Rattle.run_commands.specs.declared.status.RunEnd.{RunEnd}
use Rattle.run_commands.specs.declared.status.RunFault.TheVariants.{Read, Write, Memory}
use Rattle.session_core.specs.LineReplies.{AnswersLine}
use Rattle.europa_run.specs.declared.stopping.Halt.TheVariants.{Outside, InSession}
use Rattle.europa_run.specs.Laws.{HasOneOutput, FaultLeavesFront}
use Rattle.europa_run.specs.Output.{Given, SessionOutput, Output}
use Rattle.europa_run.specs.Runs.{Leavings, StopsScript}
use Rattle.europa_run.proofs.Printing.{posed_output}
use Rattle.europa_run.proofs.Ranging.{asked_in_range}
use Rattle.europa_run.proofs.Requests.{only_output, request_one}

pub output_once : IsPosedOnce → PosedIsSound → HasOneReply AnswersLine → TextsAreCheckedOnce → StatesHaveOnePlan → HasOneOutput
output_once posed_once sound one_reply checked_once one_plan words given out other end last (inl p) (inl q) = (q.1.0 ∙ sym p.1.0, q.1.1 ∙ sym p.1.1)
output_once posed_once sound one_reply checked_once one_plan words given out other end last (inl p) (inr q) = absurd (p.0 q.0 q.1.0)
output_once posed_once sound one_reply checked_once one_plan words given out other end last (inr p) q =
    request_one posed_once sound one_reply checked_once one_plan p.0 given (asked_in_range words p.0 p.1.0) out other end last p.1.1
    (only_output words p.0 given other last p.1.0 q)

-- ---- faults

-- where nothing was written
none_front : (out whole : List ℕ) → out ≡ [] → IsFront out whole
none_front out whole none = (whole, ap (λ l. l ++ whole) (sym none))

module _ (posed_once : IsPosedOnce) (one_reply : HasOneReply AnswersLine) (once : HasOneOutput) where
  -- the output of the words is that of the script that they ask for
  stopped_output : (words : List (List ℕ)) (given : Given) (leavings : Leavings) (end : SessionFault) (whole : List ℕ) (last : RunEnd) → (stops : StopsScript words given leavings end)
      → Output words given whole last → SessionOutput given.input stops.database whole last
  stopped_output words given leavings end whole last stops output =
      posed_output posed_once given.files stops.file (SessionOutput given.input) stops.database whole last stops.holds.posed
      (only_output words (Script stops.file) given whole last stops.holds.asks output)

  -- what a session wrote before a fault
  stopped_front : (words : List (List ℕ)) (given : Given) (leavings : Leavings) (end : SessionFault) → StopsScript words given leavings end
      → (whole : List ℕ) (last : RunEnd) → Output words given whole last → IsFront leavings.out whole
  stopped_front words given leavings end stops whole last output =
      let script = stopped_output words given leavings end whole last stops output in
      let front = fault_writes_front AnswersLine one_reply (begun stops.database) stops.passage end script.0 stops.ends
      (subst (λ l. Session AnswersLine (begun stops.database) (lines_of l) script.0) stops.input script.1.0) in
      (front.0, script.1.1 ∙ (front.1 ∙ ap (λ l. l ++ front.0) (sym stops.out)))

  pub fault_front : FaultLeavesFront
  fault_front words given leavings (Outside Read) nothing whole end output = none_front leavings.out whole nothing.0
  fault_front words given leavings (Outside Write) loses whole end output =
      (loses.0, (once words given (leavings.out ++ loses.0) whole loses.1.0 end loses.1.1 output).0)
  fault_front words given leavings (Outside Memory) nothing whole end output = none_front leavings.out whole nothing.0
  fault_front words given leavings (InSession fault) stops whole end output = stopped_front words given leavings fault stops whole end output
