-- Which names a model may have, and which of them have to differ.
use Rattle.std.specs.Prelude.{◌≡◌, ℕ, ◌<◌, ◌==◌, ◌⊎◌, Bool, List, [], ◌∷◌, ◌++◌, length, map, All, Contains, codes}
use Rattle.std.specs.Fmt.{decimal}
use Rattle.std.specs.List.{flat_map, join_with_byte, slice_split}
use Rattle.eu_name.specs.Word.{IsName}
use Rattle.model_core.specs.declared.model.Model.{Model}
use Rattle.model_core.specs.declared.variable.VarDecl.{VarDecl}

-- the names that the language gives to classes of its own; no file may declare them
abbrev pub builtin_names : List (List ℕ)
builtin_names =
    codes "Object" ∷ codes "Timeline" ∷ codes "Reusable" ∷ codes "Reservoir" ∷ codes "PlannerConfig" ∷ []

-- the names of variables, in order
abbrev pub names_of : List VarDecl → List (List ℕ)
names_of variables = map (λ variable. variable.name) variables

-- the names of the global variables, by number
abbrev pub global_names : Model → List (List ℕ)
global_names model = names_of model.problem.globals

-- the labels of the roots, by number
abbrev pub labels : Model → List (List ℕ)
labels model = map (λ root. root.label) model.problem.roots

-- the names that a file declares beside those of classes: globals, roots, objects, enums and their members
abbrev pub declared_names : Model → List (List ℕ)
declared_names model =
    global_names model ++ (labels model ++ (map (λ object. object.name) model.objects
    ++ (map (λ found. found.name) model.enums ++ flat_map (λ found. found.members) model.enums)))

-- all that stand in the scope of the file
abbrev pub file_names : Model → List (List ℕ)
file_names model = declared_names model ++ map (λ class. class.name) model.classes

-- the global of this number has a name, or stands for a field and is called `!` and its number
abbrev pub IsGlobalName : ℕ → List ℕ → Type 0
IsGlobalName number name = IsName name ⊎ (name ≡ codes "!" ++ decimal number)

-- an object has a name, or the name of an object and one of a field with a point between them, as `r.f`
abbrev pub IsObjectName : List ℕ → Type 0
IsObjectName name = (names : List (List ℕ)) × (0 < length names) × All IsName names × (name ≡ join_with_byte 46 names)

-- a name with that of what it stands in before it, as `r.f`
abbrev pub full_name : List ℕ → List ℕ → List ℕ
full_name outer name = (outer ++ codes ".") ++ name

-- a point
abbrev pub is_point : ℕ → Bool
is_point byte = byte == 46

-- what stands between the points are names
abbrev pub IsPath : List ℕ → Type 0
IsPath text = All IsName (slice_split is_point text)

-- the words for the parts that every token has
abbrev pub token_part_words : List (List ℕ)
token_part_words = codes "start" ∷ codes "end" ∷ codes "duration" ∷ codes "object" ∷ []

-- a predicate's parameter isn't called like a part that every token has
abbrev pub IsParameterName : List ℕ → Type 0
IsParameterName name = IsName name × (Contains token_part_words name → ⊥)
