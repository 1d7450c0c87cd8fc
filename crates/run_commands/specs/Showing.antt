-- What `show` prints: a file in the canonical spelling, or what is wrong with it first.
use Rattle.std.specs.Prelude.{◌≡◌, ℕ, List, Option, Some, Result, Ok, Err}
use Rattle.nddl_ast.specs.declared.declaration.Decl.{Decl}
use Rattle.nddl_ast.specs.declared.kind.TextKind.{TextKind}
use Rattle.nddl_parser.specs.declared.fault.TextFail.{TextFail}
use Rattle.nddl_parser.specs.Faults.{fail_kind, fail_place}
use Rattle.nddl_parser.specs.Language.{ReadsAs}
use Rattle.nddl_print.specs.Canonical.{spelling_of}
use Rattle.run_commands.specs.declared.status.RunEnd.{RunEnd}
use Rattle.run_commands.specs.declared.status.RunEnd.TheVariants.{Done}
use Rattle.run_commands.specs.Printed.{FaultOutput}
use Rattle.run_commands.specs.Contents.{ContentOutput}

-- the spelling of the tree is printed
abbrev pub TreeOutput : List Decl → List ℕ → RunEnd → Type 0
TreeOutput tree out end = (out ≡ spelling_of tree) × (end ≡ Done)

-- the kind of what is wrong in a text is printed, with its place
abbrev pub FailOutput : TextFail → List ℕ → List ℕ → RunEnd → Type 0
FailOutput fail file out end =
    (kind : TextKind) × ((place : ℕ) × ((fail_kind fail ≡ Some kind) × (fail_place fail ≡ Some place)
    × FaultOutput kind file place out end))

-- what is printed of a text that is read so: the spelling of its tree, or what is wrong in it first
abbrev pub ReadingOutput : List ℕ → Result (List Decl) TextFail → List ℕ → RunEnd → Type 0
ReadingOutput file (Ok tree) out end = TreeOutput tree out end
ReadingOutput file (Err fail) out end = FailOutput fail file out end

-- what the text is read as is printed
abbrev pub TextOutput : List ℕ → List ℕ → List ℕ → RunEnd → Type 0
TextOutput file bytes out end =
    (reading : Result (List Decl) TextFail) × (ReadsAs bytes reading × ReadingOutput file reading out end)

-- what a file with this content gives: a fault where it is absent or too long, and else what its text is read as
abbrev pub ShowOutput : List ℕ → Option (List ℕ) → List ℕ → RunEnd → Type 0
ShowOutput file content out end = ContentOutput file content (TextOutput file) out end
