-- The code of plain statements, by which proofs tell trees apart.
use Rattle.std.proofs.Common.{ap}
use base.Stored.{Coded}
use Rattle.nddl_ast.specs.Code.{braces_code}
use Rattle.nddl_ast.specs.Tree.{Statements, Braces}

-- statements as a block at no place
abbrev braced : Statements → Braces
braced statements = record { at = 0; statements = statements }

abbrev pub statements_code : Coded Statements
statements_code = record {
  code = λ statements. braces_code.code (braced statements);
  inj = λ one other p. ap (λ (block : Braces). block.statements) (braces_code.inj (braced one) (braced other) p);
}
