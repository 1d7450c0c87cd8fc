-- Parts of which small models are made.
use Rattle.std.specs.Prelude.{ℕ, pos, List, [], ◌∷◌, None}
use Rattle.domain_core.specs.Domain.{Domain, Range, Set}
use Rattle.model_core.specs.declared.class.Class.{Class}
use Rattle.model_core.specs.declared.class.Object.{Object}
use Rattle.model_core.specs.declared.class.ObjectKind.{ObjectKind}
use Rattle.model_core.specs.declared.model.Root.{Root}
use Rattle.model_core.specs.declared.model.RootKind.{RootKind}
use Rattle.model_core.specs.declared.variable.Base.TheVariants.{Given}
use Rattle.model_core.specs.declared.variable.ValueKind.{ValueKind}
use Rattle.model_core.specs.declared.variable.ValueKind.TheVariants as kinds
use Rattle.model_core.specs.declared.variable.VarDecl.{VarDecl}

-- the value of this number alone
abbrev pub alone_on : ℕ → Domain
alone_on number = Set (pos number ∷ [])

-- a variable with a range from 0
abbrev pub span_variable : List ℕ → ℕ → VarDecl
span_variable name greatest = record { name = name; kind = kinds.Int; base = Given (Range (pos 0) (pos greatest)) }

-- a variable of a kind whose values are listed: it may be the first of them alone
abbrev pub listed_variable : List ℕ → ValueKind → VarDecl
listed_variable name kind = record { name = name; kind = kind; base = Given (alone_on 0) }

-- a class without fields
abbrev pub bare_class : List ℕ → Class
bare_class name = record { name = name; parent = None; fields = [] }

-- an object of it
abbrev pub bare_object : List ℕ → ℕ → ObjectKind → Object
bare_object name class kind = record { name = name; class = class; fields = []; kind = kind }

-- a root on the object of this number
abbrev pub root_on : List ℕ → RootKind → ℕ → ℕ → Root
root_on label kind pred object = record { label = label; kind = kind; pred = pred; object = alone_on object }
