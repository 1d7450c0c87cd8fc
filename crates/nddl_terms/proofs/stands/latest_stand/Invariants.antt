use Rattle.std.proofs.Common.{◌≡◌, drop}
use Rattle.std.specs.Option.{option_or}
use Rattle.nddl_terms.specs.Stands.{latest_stand}
use Rattle.nddl_terms.proofs.stands.latest_stand.Given as goal

-- the latest of those that are left, or else that found so far, is the latest of all
abbrev pub invariant-loop-one : goal.invariant-loop-one
invariant-loop-one l = option_or (latest_stand l.at (drop l.one-index l.made)) l.found ≡ latest_stand l.at l.made
