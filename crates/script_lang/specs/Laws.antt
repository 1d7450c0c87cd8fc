-- Laws of the lines of a script.
use Rattle.std.specs.Prelude.{◌≡◌, ℕ, List, take, Result, Ok, Err}
use Rattle.script_lang.specs.declared.command.Command.{Command}
use Rattle.script_lang.specs.declared.command.LineFault.{LineFault}
use Rattle.script_lang.specs.declared.command.LineFault.TheVariants.{Memory}
use Rattle.script_lang.specs.Line.{IsCommand, ReadsLine}

-- words ask for one command at most
abbrev pub WordsAskOnce : Type 0
WordsAskOnce = (words : List (List ℕ)) (one other : Command) → IsCommand words one → IsCommand words other → one ≡ other

-- so a line is read as one command at most
abbrev pub LinesAskOnce : Type 0
LinesAskOnce = (line : List ℕ) (one other : Command) → ReadsLine line (Ok one) → ReadsLine line (Ok other) → one ≡ other

-- and has one answer, where memory doesn't run out
abbrev pub LinesHaveOneAnswer : Type 0
LinesHaveOneAnswer =
    (line : List ℕ) (one other : Result Command LineFault) → ReadsLine line one → ReadsLine line other
    → (one ≡ Err Memory → ⊥) → (other ≡ Err Memory → ⊥) → one ≡ other

-- what the first 4,097 bytes of a line are read as is what the line is read as
abbrev pub FrontDecides : Type 0
FrontDecides =
    (line : List ℕ) (result : Result Command LineFault) → ReadsLine (take 4097 line) result → ReadsLine line result
