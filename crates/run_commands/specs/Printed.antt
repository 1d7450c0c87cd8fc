-- What is printed, and the lines that the program prints of its own.
use Rattle.std.specs.Prelude.{◌≡◌, ℕ, ⊤, List, ◌++◌, codes, Option, Result, Ok, Err}
use Rattle.std.specs.Fmt.{decimal}
use Rattle.std.specs.Io.KnownBytes.{Appends}
use Rattle.nddl_ast.specs.declared.kind.TextKind.{TextKind}
use Rattle.nddl_ast.specs.Kinds.{kind_word}
use Rattle.nddl_parser.specs.Limits.{most_bytes}
use Rattle.run_commands.specs.declared.lines.Printed.{Printed}
use Rattle.run_commands.specs.declared.status.RunEnd.{RunEnd}
use Rattle.run_commands.specs.declared.status.RunEnd.TheVariants.{Text, Usage}
use Rattle.run_commands.specs.declared.status.RunFault.{RunFault}
use Rattle.run_commands.specs.declared.status.RunFault.TheVariants.{Read, Write, Memory}

-- ---- lines

-- what is printed where the words are no command line
abbrev pub usage_line : List ℕ
usage_line =
    codes "usage: europa plan FILE [--steps N] [--tokens N] | script FILE | check FILE PLAN | show FILE | gen N | try N\n"

-- the line that says what is wrong with a file, and at which byte of it
abbrev pub fault_line : TextKind → List ℕ → ℕ → List ℕ
fault_line kind file place =
    codes "text " ++ (kind_word kind ++ (codes " " ++ (file ++ (codes " " ++ (decimal place ++ codes "\n")))))

-- the most bytes that a file may have
abbrev pub file_limit : ℕ
file_limit = most_bytes

-- ---- outputs

-- the usage is printed
abbrev pub UsageOutput : List ℕ → RunEnd → Type 0
UsageOutput out end = (out ≡ usage_line) × (end ≡ Usage)

-- what is wrong with the file is printed
abbrev pub FaultOutput : TextKind → List ℕ → ℕ → List ℕ → RunEnd → Type 0
FaultOutput kind file place out end = (out ≡ fault_line kind file place) × (end ≡ Text)

-- what is printed and how the run ends are such, unless a read failed or memory ran out
abbrev pub AnswersAs : (List ℕ → RunEnd → Type 0) → Result Printed RunFault → Type 0
AnswersAs IsPrinted (Ok printed) = IsPrinted printed.text printed.end
AnswersAs IsPrinted (Err Read) = ⊤
AnswersAs IsPrinted (Err Write) = ⊥
AnswersAs IsPrinted (Err Memory) = ⊤

-- the text was appended, or where a write failed a front of it
abbrev pub Prints : Printed → Option (List ℕ) → Option (List ℕ) → Result RunEnd RunFault → Type 0
Prints printed old new (Ok end) = Appends old new printed.text × (end ≡ printed.end)
Prints printed old new (Err Read) = ⊥
Prints printed old new (Err Write) = (front lost : List ℕ) × Appends old new front × (printed.text ≡ front ++ lost)
Prints printed old new (Err Memory) = ⊥
