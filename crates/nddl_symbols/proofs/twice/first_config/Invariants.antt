use Rattle.std.proofs.Common.{◌≡◌, drop}
use Rattle.std.specs.List.{position_from}
use Rattle.nddl_symbols.specs.Names.{is_config_sort}
use Rattle.nddl_symbols.specs.Scope.{config_number}
use Rattle.nddl_symbols.proofs.twice.first_config.Given as goal

-- the first of those that are left is the first of all
abbrev pub invariant-loop-number : goal.invariant-loop-number
invariant-loop-number l =
    position_from (λ declared. is_config_sort declared.sort) l.number (drop l.number l.names) ≡ config_number l.names
