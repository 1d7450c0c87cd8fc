-- What the names in a rule mean, by their places.
use Rattle.std.specs.Prelude.{ℕ, ◌<◌, ◌==◌, List, [], ◌∷◌, Option, Some, None, AllPairs, if◌then◌else◌}
use Rattle.nddl_terms.specs.declared.tree.Meaning.{Meaning}
use Rattle.nddl_terms.specs.declared.tree.ReadName.{ReadName}

-- each is read before those behind it
abbrev pub AreReadInOrder : List ReadName → Type 0
AreReadInOrder names = AllPairs (λ one other. one.at < other.at) names

-- what the name means that is read there
abbrev pub name_read_at : ℕ → List ReadName → Option Meaning
name_read_at at [] = None
name_read_at at (read ∷ more) = if read.at == at then Some read.meaning else name_read_at at more
