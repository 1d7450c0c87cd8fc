-- Edges by their places.
use Rattle.std.specs.Prelude.{ℕ, List, [], ◌∷◌, ◌++◌, slice_get, option_to_list}
use Rattle.db_edges.specs.declared.edge.NamedEdge.{NamedEdge}

-- the edges at these places of the list, in the order of the places
abbrev pub walk_at : List NamedEdge → List ℕ → List NamedEdge
walk_at edges [] = []
walk_at edges (place ∷ places) = option_to_list (slice_get edges place) ++ walk_at edges places
