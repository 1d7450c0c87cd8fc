-- Where tokens are posted and globals are declared.
use Rattle.std.specs.Prelude.{ℕ, ◌+◌, List, [], ◌∷◌, ◌++◌, codes, if◌then◌else◌}
use Rattle.std.specs.Str.{bytes_eq}
use Rattle.nddl_ast.specs.declared.declaration.Decl.{Decl}
use Rattle.nddl_ast.specs.declared.declaration.Decl.TheVariants as decls
use Rattle.nddl_symbols.specs.declared.place.Place.{Place}
use Rattle.nddl_symbols.specs.Names.{is_posting_word, sort_of_variable, is_global_sort}

-- that byte of the declaration of this number
abbrev pub place_here : ℕ → ℕ → Place
place_here decl at = record { decl = decl; at = at }

-- the word that posts a token, if the declaration does
abbrev pub posting_place : ℕ → Decl → List Place
posting_place decl (decls.Ask ask) = if is_posting_word ask.word.text then place_here decl ask.word.at ∷ [] else []
posting_place decl other = []

-- those of declarations, of which the first has this number
abbrev pub posting_places : ℕ → List Decl → List Place
posting_places number [] = []
posting_places number (decl ∷ more) = posting_place number decl ++ posting_places (number + 1) more

-- the word that posts a fact, if the declaration does
abbrev pub fact_place : ℕ → Decl → List Place
fact_place decl (decls.Ask ask) = if bytes_eq ask.word.text (codes "fact") then place_here decl ask.word.at ∷ [] else []
fact_place decl other = []

abbrev pub fact_places : ℕ → List Decl → List Place
fact_places number [] = []
fact_places number (decl ∷ more) = fact_place number decl ++ fact_places (number + 1) more

-- the name of a global, if the declaration declares one
abbrev pub global_place : ℕ → Decl → List Place
global_place decl (decls.Variable variable) =
    if is_global_sort (sort_of_variable variable) then place_here decl variable.name.at ∷ [] else []
global_place decl other = []

abbrev pub global_places : ℕ → List Decl → List Place
global_places number [] = []
global_places number (decl ∷ more) = global_place number decl ++ global_places (number + 1) more
