-- What a request comes to, from what its command answers.
use Rattle.std.proofs.Common.{◌≡◌, ℕ, false, List, [], Option, Result, Ok, Err, refl, sym, ◌∙◌, subst, inl}
use Rattle.run_words.specs.declared.request.Request.{Request}
use Rattle.run_words.specs.declared.request.Request.TheVariants.{Plan, Script, Check, Show, Try}
use Rattle.eu_io.specs.Files.{file_named}
use Rattle.eu_io.specs.declared.shelf.FileEntry.{FileEntry}
use Rattle.run_load.specs.declared.fault.PoseFault.{PoseFault}
use Rattle.run_load.specs.declared.fault.PoseFault.TheVariants as pose
use Rattle.run_load.specs.Pieces.{TellsPosed, fault_at}
use Rattle.run_load.specs.Posing.{PosedFault, Poses}
use Rattle.run_commands.specs.Checking.{CheckOutput}
use Rattle.run_commands.specs.Planning.{PlanOutput}
use Rattle.run_commands.specs.Posing.{IsUnposed}
use Rattle.run_commands.specs.Showing.{ShowOutput}
use Rattle.run_commands.specs.declared.lines.Printed.{Printed}
use Rattle.run_commands.specs.declared.status.RunEnd.TheVariants.{Done, Text}
use Rattle.run_commands.specs.declared.status.RunFault.{RunFault}
use Rattle.run_commands.specs.declared.status.RunFault.TheVariants.{Read, Write, Memory}
use Rattle.run_commands.specs.Printed.{AnswersAs, FaultOutput}
use Rattle.run_commands.specs.Trying.{TryOutput}
use Rattle.europa_run.specs.Output.{given_by, is_script, RequestOutput}
use Rattle.europa_run.specs.Pieces.{Comes, told_answer}

-- what a request that asks for no script is answered is what it comes to
answered_comes : (files : List FileEntry) (request : Request (List ℕ)) → is_script request ≡ false → (answer : Result Printed RunFault)
    → ((input : List ℕ) → AnswersAs (RequestOutput request (given_by files input)) answer) → Comes files request (told_answer answer)
answered_comes files request not (Ok printed) answers = (answers, λ done. not)
answered_comes files request not (Err Read) answers = tt
answered_comes files request not (Err Write) answers = absurd (answers [])
answered_comes files request not (Err Memory) answers = tt

-- the commands that print what they come to
module _ (files : List FileEntry) (request : Request (List ℕ)) (answer : Result Printed RunFault) where
  -- the request is one that asks for no script, and the answer is of its output
  printed_comes : (asked : Request (List ℕ)) → request ≡ asked → is_script asked ≡ false
      → ((input : List ℕ) → AnswersAs (RequestOutput asked (given_by files input)) answer) → Comes files request (told_answer answer)
  printed_comes asked is not answers = subst (λ (r : Request (List ℕ)). Comes files r (told_answer answer)) (sym is) (answered_comes files asked not answer answers)

  pub plan_comes : (file : List ℕ) (steps : Option ℕ) (tokens : ℕ) → request ≡ Plan file steps tokens → AnswersAs (PlanOutput files file steps tokens) answer
      → Comes files request (told_answer answer)
  plan_comes file steps tokens is answers = printed_comes (Plan file steps tokens) is refl (λ input. answers)

  pub check_comes : (file plan : List ℕ) → request ≡ Check file plan → AnswersAs (CheckOutput files file plan) answer → Comes files request (told_answer answer)
  check_comes file plan is answers = printed_comes (Check file plan) is refl (λ input. answers)

  pub show_comes : (file : List ℕ) → request ≡ Show file → AnswersAs (ShowOutput file (file_named file files)) answer → Comes files request (told_answer answer)
  show_comes file is answers = printed_comes (Show file) is refl (λ input. answers)

  pub try_comes : (number : ℕ) → request ≡ Try number → AnswersAs (TryOutput number) answer → Comes files request (told_answer answer)
  try_comes number is answers = printed_comes (Try number) is refl (λ input. answers)

-- ---- scripts

text_done : Text ≡ Done → ⊥
text_done same = cc

-- what is wrong with its file is what a script comes to
fault_comes : (files : List FileEntry) (file : List ℕ) (fault : PosedFault) → Poses files file (Err fault) → (answer : Result Printed RunFault)
    → AnswersAs (FaultOutput fault.kind fault.file fault.at) answer → Comes files (Script file) (told_answer answer)
fault_comes files file fault posed (Ok printed) is = ((λ input. inl (fault, (posed, is))), λ done. absurd (text_done (sym is.1 ∙ done)))
fault_comes files file fault posed (Err Read) is = tt
fault_comes files file fault posed (Err Write) is = absurd is
fault_comes files file fault posed (Err Memory) is = tt

-- a script whose file poses no database
pub unposed_comes : (files : List FileEntry) (file : List ℕ) (fault : PoseFault) (answer : Result Printed RunFault) → TellsPosed (Poses files file) (Err fault)
    → IsUnposed fault answer → Comes files (Script file) (told_answer answer)
unposed_comes files file (pose.Text kind name at) answer posed unposed = fault_comes files file (fault_at kind name at) posed answer unposed
unposed_comes files file pose.Read answer posed unposed = subst (λ (a : Result Printed RunFault). Comes files (Script file) (told_answer a)) (sym unposed) tt
unposed_comes files file pose.Memory answer posed unposed = subst (λ (a : Result Printed RunFault). Comes files (Script file) (told_answer a)) (sym unposed) tt
