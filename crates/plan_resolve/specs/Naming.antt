-- What a word names.
use Rattle.std.specs.Prelude.{ℕ, ⊤, List, Option, Some, None, Contains}
use Rattle.eu_name.specs.declared.name.VarName.{VarName}
use Rattle.eu_name.specs.declared.name.VarName.TheVariants.{Local}
use Rattle.model_core.specs.declared.model.Model.{Model}
use Rattle.plan_text.specs.declared.fault.Wrong.{Wrong}
use Rattle.plan_text.specs.declared.fault.Wrong.TheVariants.{Syntax, Twice}
use Rattle.plan_text.specs.Subjects.{IsNameOf, IsNameWord}

-- the word names this, or has the form of a name and names nothing that a line can be about
abbrev pub SaysSubject : Model → Option VarName → List ℕ → Type 0
SaysSubject model (Some name) word = IsNameOf model name word
SaysSubject model None word = IsNameWord word × ((name : VarName) → IsNameOf model name word → ⊥)

-- it hasn't the form of a name
abbrev pub IsNoName : Wrong → List ℕ → Type 0
IsNoName Syntax word = IsNameWord word → ⊥
IsNoName wrong word = ⊥

-- the same, where what is named is none of these
abbrev pub SaysFresh : Model → List VarName → Option VarName → List ℕ → Type 0
SaysFresh model names (Some name) word = IsNameOf model name word × (Contains names name → ⊥)
SaysFresh model names None word = IsNameWord word × ((name : VarName) → IsNameOf model name word → ⊥)

-- it hasn't the form of a name, or names one of these
abbrev pub IsNoFresh : Model → List VarName → Wrong → List ℕ → Type 0
IsNoFresh model names Syntax word = IsNameWord word → ⊥
IsNoFresh model names Twice word = (name : VarName) × (IsNameOf model name word × Contains names name)
IsNoFresh model names wrong word = ⊥

-- the name is that of a local
abbrev pub IsLocalName : VarName → Type 0
IsLocalName (Local token rule number) = ⊤
IsLocalName name = ⊥
