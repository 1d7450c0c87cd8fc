-- The words for what is wrong with a text, and which of two faults at one place comes first.
use Rattle.std.specs.Prelude.{ℕ, List, codes}
use Rattle.nddl_ast.specs.declared.kind.TextKind.{TextKind}
use Rattle.nddl_ast.specs.declared.kind.TextKind.TheVariants as kinds

-- the word for the kind
abbrev pub kind_word : TextKind → List ℕ
kind_word kinds.BadByte = codes "BadByte"
kind_word kinds.OpenComment = codes "OpenComment"
kind_word kinds.OutOfRange = codes "OutOfRange"
kind_word kinds.Syntax = codes "Syntax"
kind_word kinds.Absent = codes "Absent"
kind_word kinds.LimitBytes = codes "Limit:bytes"
kind_word kinds.LimitFiles = codes "Limit:files"
kind_word kinds.LimitDepth = codes "Limit:depth"
kind_word kinds.LimitNesting = codes "Limit:nesting"
kind_word kinds.Unknown = codes "Unknown"
kind_word kinds.Twice = codes "Twice"
kind_word kinds.WrongType = codes "WrongType"
kind_word kinds.WrongCount = codes "WrongCount"
kind_word kinds.NotInDomain = codes "NotInDomain"
kind_word kinds.Closed = codes "Closed"
kind_word kinds.LimitRules = codes "Limit:rules"
kind_word kinds.LimitGuards = codes "Limit:guards"
kind_word kinds.LimitSlots = codes "Limit:slots"
kind_word kinds.LimitLocals = codes "Limit:locals"
kind_word kinds.LimitItems = codes "Limit:items"
kind_word kinds.LimitTurns = codes "Limit:turns"
kind_word kinds.LimitParameters = codes "Limit:parameters"
kind_word kinds.LimitObjects = codes "Limit:objects"
kind_word kinds.LimitRoots = codes "Limit:roots"
kind_word kinds.LimitGlobals = codes "Limit:globals"
kind_word kinds.LimitFacts = codes "Limit:facts"
kind_word kinds.LimitMembers = codes "Limit:members"
kind_word kinds.LimitNew = codes "Limit:new"
kind_word kinds.NotAdmissible = codes "NotAdmissible"
kind_word kinds.AfterConflict = codes "AfterConflict"

-- its place in the order of the kinds
abbrev pub kind_rank : TextKind → ℕ
kind_rank kinds.BadByte = 0
kind_rank kinds.OpenComment = 1
kind_rank kinds.OutOfRange = 2
kind_rank kinds.Syntax = 3
kind_rank kinds.Absent = 4
kind_rank kinds.LimitBytes = 5
kind_rank kinds.LimitFiles = 6
kind_rank kinds.LimitDepth = 7
kind_rank kinds.LimitNesting = 8
kind_rank kinds.Unknown = 9
kind_rank kinds.Twice = 10
kind_rank kinds.WrongType = 11
kind_rank kinds.WrongCount = 12
kind_rank kinds.NotInDomain = 13
kind_rank kinds.Closed = 14
kind_rank kinds.LimitRules = 15
kind_rank kinds.LimitGuards = 16
kind_rank kinds.LimitSlots = 17
kind_rank kinds.LimitLocals = 18
kind_rank kinds.LimitItems = 19
kind_rank kinds.LimitTurns = 20
kind_rank kinds.LimitParameters = 21
kind_rank kinds.LimitObjects = 22
kind_rank kinds.LimitRoots = 23
kind_rank kinds.LimitGlobals = 24
kind_rank kinds.LimitFacts = 25
kind_rank kinds.LimitMembers = 26
kind_rank kinds.LimitNew = 27
kind_rank kinds.NotAdmissible = 28
kind_rank kinds.AfterConflict = 29
