use Rattle.std.proofs.Common.{◌≡◌, ◌++◌, drop}
use Rattle.nddl_rules.specs.Written.{none_written}
use Rattle.nddl_rules.proofs.written.none_written.Given as goal

-- none for those so far, and for those that are left
abbrev pub invariant-loop : goal.invariant-loop
invariant-loop l = l.written.items ++ none_written (drop l.index l.preds) ≡ none_written l.preds
