-- The values of the objects of a compiled model.
use Rattle.std.specs.Prelude.{◌≡◌, Some, All, slice_get}
use Rattle.std.specs.List.{AllZip}
use Rattle.model_core.specs.declared.class.Class.{Class}
use Rattle.model_core.specs.declared.class.Object.{Object}
use Rattle.model_core.specs.declared.model.Model.{Model}
use Rattle.model_core.specs.Kinds.{IsValueOf}
use Rattle.nddl_problem.specs.Compiled.{compiled_model}
use Rattle.nddl_problem.specs.Known.{Known}
use Rattle.nddl_model_laws.specs.Faultless.{IsFaultless}

-- the object has one value for each field of its class, of the field's kind
abbrev pub HasFieldValues : Model → Object → Type 0
HasFieldValues model object =
    (class : Class) → slice_get model.classes object.class ≡ Some class
    → AllZip (λ variable value. IsValueOf model variable.kind value) class.fields object.fields

-- it is so of each object
abbrev pub HasValuedObjects : Type 0
HasValuedObjects = (known : Known) → IsFaultless known → All (HasFieldValues (compiled_model known)) (compiled_model known).objects
