-- What names stand for in a rule.
use Rattle.std.specs.Prelude.{ℕ, ◌==◌, List, [], ◌∷◌, Option, Some, None, slice_get, if◌then◌else◌}
use Rattle.std.specs.Option.{option_and_then, option_or}
use Rattle.eu_name.specs.declared.name.Part.{Part}
use Rattle.model_core.specs.declared.item.Term.TheVariants as terms
use Rattle.nddl_terms.specs.declared.tree.Meaning.{Meaning}
use Rattle.nddl_terms.specs.declared.tree.Meaning.TheVariants as meanings
use Rattle.nddl_terms.specs.declared.growth.Growth.{Growth}
use Rattle.nddl_terms.specs.declared.lexicon.Lexicon.{Lexicon}
use Rattle.nddl_terms.specs.declared.stands.Made.{Made}
use Rattle.nddl_terms.specs.declared.stands.Stand.{Stand}
use Rattle.nddl_terms.specs.declared.stands.Stand.TheVariants.{Value, Class, Nothing}
use Rattle.nddl_terms.specs.Lexicon.{part_class, part_kind}
use Rattle.nddl_terms.specs.Names.{name_read_at}
use Rattle.nddl_terms.specs.Readings.{Readings}

-- what was made, if it is of what the text declares there
abbrev pub stand_if_at : ℕ → Made → Option Stand
stand_if_at at made = if made.at == at then Some made.stand else None

-- the latest that was made of what the text declares there
abbrev pub latest_stand : ℕ → List Made → Option Stand
latest_stand at [] = None
latest_stand at (made ∷ more) = option_or (latest_stand at more) (stand_if_at at made)

-- the latest that was made of the declaration of this number, where the declarations stand at these places
abbrev pub declared_stand : List ℕ → ℕ → List Made → Option Stand
declared_stand places number made = option_and_then (λ at. latest_stand at made) (slice_get places number)

-- what the name of the files stands for that has this place in the scope
abbrev pub file_stand : Lexicon → ℕ → Option Stand
file_stand lexicon place = slice_get lexicon.scope place

-- a part of the token whose rule it is
abbrev pub own_stand : Readings → Part → Stand
own_stand reading part =
    Value (terms.Here part) (part_kind reading.lexicon reading.pred part) (part_class reading.lexicon reading.pred part)

-- What stands for what a name means, in these turns and with what was made so far: an object for a variable of `foreach`,
-- and for a local or a slot of the text the latest one that was made of it.
abbrev pub meaning_stand : Readings → List Made → Growth → Meaning → Option Stand
meaning_stand reading turns growth (meanings.Turn number) = declared_stand reading.places.turns number turns
meaning_stand reading turns growth (meanings.Local number) = declared_stand reading.places.locals number growth.named
meaning_stand reading turns growth (meanings.Slot number) = declared_stand reading.places.slots number growth.asked
meaning_stand reading turns growth (meanings.Here part) = Some (own_stand reading part)
meaning_stand reading turns growth (meanings.Scope place) = file_stand reading.lexicon place
meaning_stand reading turns growth (meanings.BuiltIn class) = Some (Class class)

-- the same, where something may be missing
abbrev pub stand_or_nothing : Option Stand → Stand
stand_or_nothing (Some stand) = stand
stand_or_nothing None = Nothing

-- what the name stands for that is read there
abbrev pub first_stand : Readings → List Made → Growth → ℕ → Stand
first_stand reading turns growth at =
    stand_or_nothing (option_and_then (meaning_stand reading turns growth) (name_read_at at reading.names))
