-- The numbers of the settings of a search.
use Rattle.std.specs.Prelude.{ℕ, ℤ, pos, negsuc, List, Option, Some}
use Rattle.nddl_construction.specs.declared.made.Datum.{Datum}
use Rattle.nddl_construction.specs.declared.made.Datum.TheVariants as datums
use Rattle.nddl_construction.specs.Reading.{datum_at}

-- the number that a setting is, or another where there are no settings
abbrev pub number_or : ℤ → Option Datum → ℤ
number_or otherwise (Some (datums.Number number)) = number
number_or otherwise datum = otherwise

-- the setting of this number, or another number where there are no settings
abbrev pub setting_or : ℤ → List (Option Datum) → ℕ → ℤ
setting_or otherwise settings number = number_or otherwise (datum_at settings number)

-- a number that isn't less than 0
abbrev pub natural_number : ℤ → ℕ
natural_number (pos number) = number
natural_number (negsuc number) = 0
