use Rattle.std.proofs.Common.{◌-◌, ◌≤◌, length}
use Rattle.nddl_lexer.proofs.Walks.{HasRead}
use Rattle.nddl_lexer.proofs.lexing.lex.Given as goal

abbrev pub invariant-loop-at : goal.invariant-loop-at
invariant-loop-at l = record {
  read : HasRead l.text l.lexemes l.at;
  within : l.at ≤ length l.text;
}

abbrev pub decreases-loop-at : goal.decreases-loop-at
decreases-loop-at l = length l.text - l.at
