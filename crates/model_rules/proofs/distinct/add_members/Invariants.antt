use Rattle.std.specs.Prelude.{◌≡◌, ◌≢◌, ◌++◌, take, AllPairs}
use Rattle.std.specs.List.{flat_map}
use Rattle.model_rules.proofs.distinct.add_members.Given as goal

-- the members of the enums so far are behind those that were there
abbrev pub invariant-loop-found : goal.invariant-loop-found
invariant-loop-found l = record {
  are : l.names ≡ l.initial.names ++ flat_map (λ found. found.members) (take l.found-index l.enums);
  apart : AllPairs ◌≢◌ l.names;
}
