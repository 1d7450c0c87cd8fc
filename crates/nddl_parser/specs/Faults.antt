-- What is answered where a text has a fault, or a file isn't read: its kind, its file and its place.
use Rattle.std.specs.Prelude.{ℕ, List, Option, Some, None, is_some, if◌then◌else◌}
use Rattle.nddl_ast.specs.declared.kind.TextKind.{TextKind}
use Rattle.nddl_ast.specs.declared.kind.TextKind.TheVariants as kinds
use Rattle.nddl_lexer.specs.Faults.{lex_kind, lex_place}
use Rattle.nddl_parser.specs.GrammarFaults.{parse_kind, parse_place}
use Rattle.nddl_parser.specs.declared.fault.TextFail.{TextFail}
use Rattle.nddl_parser.specs.declared.fault.TextFail.TheVariants as text
use Rattle.nddl_parser.specs.declared.fault.Refusal.{Refusal}
use Rattle.nddl_parser.specs.declared.fault.Refusal.TheVariants as refused
use Rattle.nddl_parser.specs.declared.fault.ReadAllFault.{ReadAllFault}
use Rattle.nddl_parser.specs.declared.fault.ReadAllFault.TheVariants as all
use Rattle.nddl_parser.specs.declared.include.Ask.{Ask}

-- what kind of fault of a text it is; want of memory is none
abbrev pub fail_kind : TextFail → Option TextKind
fail_kind (text.Lex fault) = lex_kind fault
fail_kind (text.Parse fault) = parse_kind fault

-- the byte at which it is
abbrev pub fail_place : TextFail → Option ℕ
fail_place (text.Lex fault) = lex_place fault
fail_place (text.Parse fault) = parse_place fault

-- the fault of the file whose text has it
abbrev pub faulty : List ℕ → TextFail → ReadAllFault
faulty file (text.Lex fault) = all.Lex file fault
faulty file (text.Parse fault) = all.Parse file fault

-- the same, or want of memory
abbrev pub fail_in : TextFail → List ℕ → ReadAllFault
fail_in fail file = if is_some (fail_kind fail) then faulty file fail else all.Memory

-- the refusal stands where the file was asked for
abbrev pub fault_at : Refusal → Ask → ReadAllFault
fault_at refused.Absent ask = all.Absent ask.file ask.at
fault_at refused.TooLong ask = all.TooLong ask.file ask.at
fault_at refused.TooManyFiles ask = all.TooManyFiles ask.file ask.at
fault_at refused.TooDeep ask = all.TooDeep ask.file ask.at

-- what kind of fault it is; a call that failed and want of memory are none
abbrev pub fault_kind : ReadAllFault → Option TextKind
fault_kind (all.Absent file at) = Some kinds.Absent
fault_kind (all.TooLong file at) = Some kinds.LimitBytes
fault_kind (all.TooManyFiles file at) = Some kinds.LimitFiles
fault_kind (all.TooDeep file at) = Some kinds.LimitDepth
fault_kind (all.Lex file fault) = lex_kind fault
fault_kind (all.Parse file fault) = parse_kind fault
fault_kind all.ReadFault = None
fault_kind all.Memory = None

-- the byte of its file at which it is
abbrev pub fault_place : ReadAllFault → Option ℕ
fault_place (all.Absent file at) = Some at
fault_place (all.TooLong file at) = Some at
fault_place (all.TooManyFiles file at) = Some at
fault_place (all.TooDeep file at) = Some at
fault_place (all.Lex file fault) = lex_place fault
fault_place (all.Parse file fault) = parse_place fault
fault_place all.ReadFault = None
fault_place all.Memory = None

-- its file
abbrev pub fault_file : ReadAllFault → Option (List ℕ)
fault_file (all.Absent file at) = Some file
fault_file (all.TooLong file at) = Some file
fault_file (all.TooManyFiles file at) = Some file
fault_file (all.TooDeep file at) = Some file
fault_file (all.Lex file fault) = Some file
fault_file (all.Parse file fault) = Some file
fault_file all.ReadFault = None
fault_file all.Memory = None
