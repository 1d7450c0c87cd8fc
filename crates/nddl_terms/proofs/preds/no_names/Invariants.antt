use Rattle.std.proofs.Common.{◌≡◌, []}
use Rattle.std.specs.Prelude.{All}
use Rattle.nddl_terms.proofs.preds.no_names.Given as goal

-- those so far have no names
abbrev pub invariant-loop : goal.invariant-loop
invariant-loop l = All (λ noted. noted ≡ []) l.named.items
