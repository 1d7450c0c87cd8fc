-- The names that the language gives to classes of its own.
use Rattle.std.specs.Prelude.{ℕ, Bool, List, [], ◌∷◌, codes}
use Rattle.std.specs.List.{list_any}
use Rattle.std.specs.Str.{bytes_eq}
use Rattle.model_core.specs.Naming.{builtin_names}

-- the names of the built-in classes, in their order
abbrev pub builtin_class_names : List (List ℕ)
builtin_class_names = codes "Object" ∷ codes "Timeline" ∷ codes "Reusable" ∷ codes "Reservoir" ∷ []

-- the name is that of the settings of a search
abbrev pub is_config_name : List ℕ → Bool
is_config_name name = bytes_eq name (codes "PlannerConfig")

-- no file may declare the name
abbrev pub is_builtin_name : List ℕ → Bool
is_builtin_name name = list_any (λ word. bytes_eq name word) builtin_names
