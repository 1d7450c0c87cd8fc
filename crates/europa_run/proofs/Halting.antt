-- What the end of a run says of the calls that failed.
use Rattle.std.proofs.Common.{◌≡◌, ℕ, Bool, true, false, List, Result, Ok, Err, refl, sym, ◌∙◌}
use Rattle.eu_io.specs.Faults.{counted}
use Rattle.run_words.specs.declared.request.Request.{Request}
use Rattle.run_words.specs.declared.request.Request.TheVariants.{Plan, Script, Check, Show, Generate, Try}
use Rattle.session_loop.specs.declared.fault.SessionFault.{SessionFault}
use Rattle.session_loop.specs.declared.fault.SessionFault.TheVariants as session
use Rattle.session_loop.specs.Ends.{is_read_fault, is_write_fault}
use Rattle.run_commands.specs.declared.status.RunEnd.{RunEnd}
use Rattle.run_commands.specs.declared.status.RunEnd.TheVariants as end
use Rattle.run_commands.specs.declared.status.RunFault.{RunFault}
use Rattle.run_commands.specs.declared.status.RunFault.TheVariants.{Read, Write, Memory}
use Rattle.run_commands.specs.Statuses.{is_read, is_write, is_read_status}
use Rattle.europa_run.specs.declared.stopping.Halt.{Halt}
use Rattle.europa_run.specs.declared.stopping.Halt.TheVariants.{Outside, InSession}
use Rattle.europa_run.specs.Halts.{halted_status, is_file_fault, is_input_fault, is_output_fault}
use Rattle.europa_run.specs.Output.{is_script, asks_files, AsksNoFile, AsksNoScript}

-- what holds where a call failed holds where the count rose
pub where_raised : {P : Type 0} → (failed : Bool) (old new : ℕ) → new ≡ counted failed old → (failed ≡ true → P) → (new ≡ old → ⊥) → P
where_raised true old new is holds rose = holds refl
where_raised false old new is holds rose = absurd (rose is)

-- where no read stopped the run, its status says so
pub no_read_status : (ended : Result RunEnd Halt) → is_file_fault ended ≡ false → is_input_fault ended ≡ false
    → is_read_status (halted_status ended) ≡ false
no_read_status (Ok end.Done) no_file no_input = refl
no_read_status (Ok end.Usage) no_file no_input = refl
no_read_status (Ok end.Text) no_file no_input = refl
no_read_status (Ok end.NotAPlan) no_file no_input = refl
no_read_status (Ok end.LinesSpent) no_file no_input = refl
no_read_status (Ok end.Exhausted) no_file no_input = refl
no_read_status (Ok end.Budget) no_file no_input = refl
no_read_status (Err (Outside Read)) no_file no_input = absurd (let no : true ≡ false = no_file in cc)
no_read_status (Err (Outside Write)) no_file no_input = refl
no_read_status (Err (Outside Memory)) no_file no_input = refl
no_read_status (Err (InSession session.ReadFault)) no_file no_input = absurd (let no : true ≡ false = no_input in cc)
no_read_status (Err (InSession session.WriteFault)) no_file no_input = refl
no_read_status (Err (InSession session.LinesSpent)) no_file no_input = refl
no_read_status (Err (InSession session.Memory)) no_file no_input = refl

-- a script asks for a file
script_asks : (request : Request (List ℕ)) → asks_files request ≡ false → is_script request ≡ false
script_asks (Plan file steps tokens) none = refl
script_asks (Script file) none = absurd (let no : true ≡ false = none in cc)
script_asks (Check file plan) none = refl
script_asks (Show file) none = refl
script_asks (Generate number) none = refl
script_asks (Try number) none = refl

pub no_script_asked : (words : List (List ℕ)) → AsksNoFile words → AsksNoScript words
no_script_asked words none request asks = script_asks request (none request asks)

-- what is no fault of a file isn't one
pub no_file : {P : Type 0} → (failed : Bool) → failed ≡ false → failed ≡ true → P
no_file failed none is = absurd (let no : true ≡ false = sym is ∙ none in let bad : ⊥ = cc in bad)

-- ---- faults in no session, and in one

pub file_outside : (fault : RunFault) → is_file_fault (Err (Outside fault)) ≡ is_read {T = RunEnd} (Err fault)
file_outside Read = refl
file_outside Write = refl
file_outside Memory = refl

pub input_outside : (fault : RunFault) → is_input_fault (Err (Outside fault)) ≡ false
input_outside Read = refl
input_outside Write = refl
input_outside Memory = refl

pub output_outside : (fault : RunFault) → is_output_fault (Err (Outside fault)) ≡ is_write {T = RunEnd} (Err fault)
output_outside Read = refl
output_outside Write = refl
output_outside Memory = refl

pub file_in_session : (fault : SessionFault) → is_file_fault (Err (InSession fault)) ≡ false
file_in_session session.ReadFault = refl
file_in_session session.WriteFault = refl
file_in_session session.LinesSpent = refl
file_in_session session.Memory = refl

pub input_in_session : (fault : SessionFault) → is_input_fault (Err (InSession fault)) ≡ is_read_fault {T = RunEnd} (Err fault)
input_in_session session.ReadFault = refl
input_in_session session.WriteFault = refl
input_in_session session.LinesSpent = refl
input_in_session session.Memory = refl

pub output_in_session : (fault : SessionFault) → is_output_fault (Err (InSession fault)) ≡ is_write_fault {T = RunEnd} (Err fault)
output_in_session session.ReadFault = refl
output_in_session session.WriteFault = refl
output_in_session session.LinesSpent = refl
output_in_session session.Memory = refl
