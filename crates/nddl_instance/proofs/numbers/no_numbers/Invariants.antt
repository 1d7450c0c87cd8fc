use Rattle.std.proofs.Common.{◌≡◌, ◌++◌, [], drop, map}
use Rattle.nddl_instance.proofs.numbers.no_numbers.Given as goal

-- none for those so far, and for those that are left
abbrev pub invariant-loop : goal.invariant-loop
invariant-loop l = l.lists.items ++ map (λ pred. []) (drop l.index l.preds) ≡ map (λ pred. []) l.preds
