-- The content of a single file, and what is printed where there is none that is taken.
use Rattle.std.specs.Prelude.{◌≡◌, ℕ, ◌<◌, ◌≤◌, ⊤, List, ◌⊎◌, length, Option, Some, None, Result, Ok, Err}
use Rattle.nddl_ast.specs.declared.kind.TextKind.TheVariants as kinds
use Rattle.run_commands.specs.declared.lines.Printed.{Printed}
use Rattle.run_commands.specs.declared.status.RunEnd.{RunEnd}
use Rattle.run_commands.specs.declared.status.RunFault.{RunFault}
use Rattle.run_commands.specs.declared.status.RunFault.TheVariants.{Read, Write, Memory}
use Rattle.run_commands.specs.Printed.{FaultOutput, file_limit}
use Rattle.run_commands.specs.declared.content.Content.{Content}
use Rattle.run_commands.specs.declared.content.Content.TheVariants.{Bytes, Faulty}

-- there is no such file or it is too long, and this is printed
abbrev pub IsFaulty : List ℕ → Option (List ℕ) → List ℕ → RunEnd → Type 0
IsFaulty file content out end =
    ((content ≡ None) × FaultOutput kinds.Absent file 0 out end)
    ⊎ ((bytes : List ℕ) × ((content ≡ Some bytes) × (file_limit < length bytes) × FaultOutput kinds.LimitBytes file 0 out end))

-- there are bytes, and not too many
abbrev pub HasBytes : Option (List ℕ) → List ℕ → Type 0
HasBytes content bytes = (content ≡ Some bytes) × (length bytes ≤ file_limit)

-- what is wrong with a file of this content is printed, and else what is printed of its bytes
abbrev pub ContentOutput : List ℕ → Option (List ℕ) → (List ℕ → List ℕ → RunEnd → Type 0)
    → List ℕ → RunEnd → Type 0
ContentOutput file content BytesOutput out end =
    IsFaulty file content out end ⊎ ((bytes : List ℕ) × (HasBytes content bytes × BytesOutput bytes out end))

-- what is read of a file of this content, unless a read failed or memory ran out
abbrev pub IsContent : List ℕ → Option (List ℕ) → Result Content RunFault → Type 0
IsContent file content (Ok (Bytes bytes)) = HasBytes content bytes
IsContent file content (Ok (Faulty printed)) = IsFaulty file content printed.text printed.end
IsContent file content (Err Read) = ⊤
IsContent file content (Err Write) = ⊥
IsContent file content (Err Memory) = ⊤

-- no more bytes are read than a file may have
abbrev pub IsShort : Content → Type 0
IsShort (Bytes bytes) = length bytes ≤ file_limit
IsShort (Faulty printed) = ⊤

-- what is printed of the file
abbrev pub told_content : Result Printed RunFault → Result Content RunFault
told_content (Ok printed) = Ok (Faulty printed)
told_content (Err fault) = Err fault
