use Rattle.std.proofs.Common.{◌≡◌, ◌≤◌, take}
use Rattle.std.specs.Char.{is_ascii_digit}
use Rattle.std.specs.Str.Parse.{digits_value}
use Rattle.nddl_lexer.specs.Bytes.{AllPassing}
use Rattle.nddl_lexer.proofs.numbers.size_up_to.Given as goal

abbrev pub invariant-loop-digit : goal.invariant-loop-digit
invariant-loop-digit l = record {
  passes : AllPassing is_ascii_digit (take l.digit-index l.digits);
  value : l.size ≡ digits_value 10 (take l.digit-index l.digits);
  within : l.size ≤ l.most;
}
