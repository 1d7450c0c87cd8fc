-- What the output of words that ask for a script proves.
use Rattle.std.proofs.Common.{ℕ, List}
use Rattle.run_words.specs.declared.request.Request.TheVariants.{Script}
use Rattle.session_loop.specs.Ends.{begun}
use Rattle.session_loop.specs.Lines.{lines_of}
use Rattle.run_load.specs.Laws.{IsPosedOnce}
use Rattle.session_core.specs.Laws.{SolvedEndsProve}
use Rattle.europa_run.specs.Laws.{ScriptedEndsProve}
use Rattle.europa_run.specs.Output.{SessionOutput}
use Rattle.europa_run.proofs.Printing.{posed_output}
use Rattle.europa_run.proofs.Requests.{only_output}

pub scripted_proves : IsPosedOnce → SolvedEndsProve → ScriptedEndsProve
scripted_proves posed_once solved words given file database asks posed out end output =
    let script : SessionOutput given.input database out end =
    posed_output posed_once given.files file (SessionOutput given.input) database out end posed (only_output words (Script file) given out end asks output) in
    (script.0, script.1.1, script.1.0, solved (begun database) (lines_of given.input) script.0 script.1.0)
