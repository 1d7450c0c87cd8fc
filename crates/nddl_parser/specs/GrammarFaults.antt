-- The kind and the place of what is wrong with the grammar of a text.
use Rattle.std.specs.Prelude.{ℕ, Option, Some, None}
use Rattle.nddl_ast.specs.declared.kind.TextKind.{TextKind}
use Rattle.nddl_ast.specs.declared.kind.TextKind.TheVariants as texts
use Rattle.nddl_parser.specs.declared.parsing.ParseFault.{ParseFault}
use Rattle.nddl_parser.specs.declared.parsing.ParseFault.TheVariants as parser

-- what kind of fault it is; want of memory is none
abbrev pub parse_kind : ParseFault → Option TextKind
parse_kind (parser.Syntax at) = Some texts.Syntax
parse_kind (parser.TooDeep at) = Some texts.LimitNesting
parse_kind parser.Memory = None

-- the byte at which it is
abbrev pub parse_place : ParseFault → Option ℕ
parse_place (parser.Syntax at) = Some at
parse_place (parser.TooDeep at) = Some at
parse_place parser.Memory = None
