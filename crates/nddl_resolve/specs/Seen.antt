-- Names that are seen where a path stands.
use Rattle.std.specs.Prelude.{ℕ, List, [], Option, Some, None, map}
use Rattle.std.specs.Borrow.{Bor}
use Rattle.eu_index.specs.Hiding.{Meant}
use Rattle.nddl_resolve.specs.declared.denoted.Denoted.{Denoted}
use Rattle.nddl_resolve.specs.declared.denoted.Seen.{Seen}

-- the name with what it means
abbrev pub seen_as : List ℕ → Denoted → Seen
seen_as name meant = record { name = name; denoted = meant }

abbrev pub all_seen : Meant Denoted → List Seen
all_seen names = map (λ seen. seen_as seen.0 seen.1) names

-- those of a list, if there is one
abbrev pub seen_in : Option (Bor (List Seen)) → List Seen
seen_in None = []
seen_in (Some names) = names.now
