use Rattle.std.proofs.Common.{◌≡◌, ◌+◌, ◌++◌, drop, map}
use Rattle.nddl_env.specs.Listing.{behind_builtin}
use Rattle.nddl_env.proofs.listing.places_behind.Given as goal

-- those so far and those that are left are all
abbrev pub invariant-loop-place : goal.invariant-loop-place
invariant-loop-place l = l.all.items ++ map (λ place. 4 + place) (drop l.place-index l.places) ≡ behind_builtin l.places
