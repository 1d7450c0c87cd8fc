-- What answers say that may also come for want of memory or from a shelf that failed.
use Rattle.std.specs.Prelude.{◌≡◌, ℕ, Bool, true, List, Result, Ok, Err, IsSome, ⊤}
use Rattle.eu_io.specs.Faults.{raised}
use Rattle.nddl_ast.specs.declared.declaration.Decl.{Decl}
use Rattle.nddl_ast.specs.declared.declaration.FileDecls.{FileDecls}
use Rattle.nddl_parser.specs.declared.fault.TextFail.{TextFail}
use Rattle.nddl_parser.specs.Faults.{fail_kind}
use Rattle.nddl_parser.specs.declared.fault.ReadAllFault.{ReadAllFault}
use Rattle.nddl_parser.specs.declared.fault.ReadAllFault.TheVariants as all

-- what one text is read as: its declarations, or what is wrong in it first
abbrev pub Reading : Type 1
Reading = List ℕ → Result (List Decl) TextFail → Type 0

-- the text was read so, unless there was no memory
abbrev pub ReadsText : Reading → List ℕ → Result (List Decl) TextFail → Type 0
ReadsText reads bytes (Ok decls) = reads bytes (Ok decls)
ReadsText reads bytes (Err fail) = IsSome (fail_kind fail) → reads bytes (Err fail)

-- the files that were read, in their order, or why not
abbrev pub FilesOutcome : Type 0
FilesOutcome = Result (List FileDecls) ReadAllFault

-- the answer is one of these, unless there was no memory or a call of the shelf failed
abbrev pub TellsOutcome : (FilesOutcome → Type 0) → FilesOutcome → Type 0
TellsOutcome Is (Ok files) = Is (Ok files)
TellsOutcome Is (Err (all.Absent file at)) = Is (Err (all.Absent file at))
TellsOutcome Is (Err (all.TooLong file at)) = Is (Err (all.TooLong file at))
TellsOutcome Is (Err (all.TooManyFiles file at)) = Is (Err (all.TooManyFiles file at))
TellsOutcome Is (Err (all.TooDeep file at)) = Is (Err (all.TooDeep file at))
TellsOutcome Is (Err (all.Lex file fault)) = Is (Err (all.Lex file fault))
TellsOutcome Is (Err (all.Parse file fault)) = Is (Err (all.Parse file fault))
TellsOutcome Is (Err all.ReadFault) = ⊤
TellsOutcome Is (Err all.Memory) = ⊤

-- the count of faults is one more where a call of the shelf failed, and otherwise is what it was
abbrev pub CountsReads : {T : Type 0} → Result T ReadAllFault → ℕ → ℕ → Type 0
CountsReads (Err all.ReadFault) old new = new ≡ raised old
CountsReads other old new = new ≡ old

-- where a call of the shelf failed it was the last one
abbrev pub NoReadAfter : {T : Type 0} → Result T ReadAllFault → Bool → Type 0
NoReadAfter (Err all.ReadFault) last = last ≡ true
NoReadAfter other last = ⊤
