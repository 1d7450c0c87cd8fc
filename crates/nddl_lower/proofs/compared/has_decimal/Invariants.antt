use Rattle.std.proofs.Common.{◌≡◌, drop}
use Rattle.nddl_lower.specs.Compared.{has_decimal}
use Rattle.nddl_lower.proofs.compared.has_decimal.Given as goal

-- there is one among those that are left where there is one among all
abbrev pub invariant-loop-stand : goal.invariant-loop-stand
invariant-loop-stand l = has_decimal (drop l.stand-index l.stands) ≡ has_decimal l.stands
