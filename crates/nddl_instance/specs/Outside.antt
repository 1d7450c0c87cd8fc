-- What paths outside of rules stand for.
use Rattle.std.specs.Prelude.{ℕ, List, slice_get}
use Rattle.std.specs.Option.{option_map_or}
use Rattle.nddl_ast.specs.declared.name.Path.{Path}
use Rattle.eu_index.specs.Index.{Noted, noted_number}
use Rattle.nddl_symbols.specs.Scope.{builtin_number}
use Rattle.nddl_terms.specs.declared.growth.Growth.{Growth}
use Rattle.nddl_terms.specs.declared.stands.Stand.{Stand}
use Rattle.nddl_terms.specs.declared.stands.Stand.TheVariants.{Class, Nothing}
use Rattle.nddl_terms.specs.Paths.{Reached, rest_stand}
use Rattle.nddl_terms.specs.Readings.{Readings, readings_of}
use Rattle.nddl_terms.specs.Stands.{stand_or_nothing}
use Rattle.nddl_instance.specs.declared.outside.Outside as code

-- what is known outside of rules: classes, predicates, what the names of the files stand for, and the objects; and these
-- names, each with its place in the scope
pub record Outsides : Type 0 where
  pub reading : Readings
  pub scope : Noted

abbrev pub outsides_of : code.Outside → Outsides
outsides_of outside = record { reading = readings_of outside.reading; scope = outside.scope.now }

-- what the name of the files stands for
abbrev pub scoped_stand : Outsides → List ℕ → Stand
scoped_stand outside name =
    option_map_or (λ place. stand_or_nothing (slice_get outside.reading.lexicon.scope place)) (noted_number outside.scope name)
    Nothing

-- what the name stands for at the front of a path: a built-in class, or what the files declare under it
abbrev pub front_stand : Outsides → List ℕ → Stand
front_stand outside name = option_map_or Class (builtin_number name) (scoped_stand outside name)

-- what the path stands for, and what there is then
abbrev pub outer_path : Outsides → Path → Growth → Reached
outer_path outside path growth = rest_stand outside.reading (front_stand outside path.first.text) path.rest growth
