-- Problems without tokens: variables that are objects, fields of objects, and two variables with decisions on them.
use Rattle.std.specs.Prelude.{ℕ, ℤ, pos, List, [], ◌∷◌, None, codes}
use Rattle.domain_core.specs.Domain.{Domain, Range}
use Rattle.eu_name.specs.declared.name.VarName.TheVariants.{Global}
use Rattle.model_core.specs.declared.class.Class.{Class}
use Rattle.model_core.specs.declared.class.Object as classes
use Rattle.model_core.specs.declared.class.ObjectKind.TheVariants.{Plain}
use Rattle.model_core.specs.declared.decision.Decision.{Decision}
use Rattle.model_core.specs.declared.decision.Decision.TheVariants.{Specify}
use Rattle.model_core.specs.declared.item.Item.{Item}
use Rattle.model_core.specs.declared.item.Item.TheVariants.{Constraint}
use Rattle.domain_core.specs.declared.kind.Kind.TheVariants.{Field}
use Rattle.model_core.specs.declared.item.Term.TheVariants as term
use Rattle.model_core.specs.declared.model.Model.{Model}
use Rattle.model_core.specs.declared.variable.Base.{Base}
use Rattle.model_core.specs.declared.variable.Base.TheVariants.{Given, Void}
use Rattle.model_core.specs.declared.variable.ValueKind.TheVariants.{Int, Object}
use Rattle.model_core.specs.declared.variable.VarDecl.{VarDecl}
use Rattle.law_examples.specs.Globals.{declared_x, problem_of, problem_with, at_most_1, up_to}
use Rattle.law_examples.specs.Scenes.{the_object, both_objects}

-- a class with these fields, and an object of it with these values in them
abbrev pub class_with : List VarDecl → Class
class_with fields = record { name = codes "C"; parent = None; fields = fields }

abbrev pub object_with : List ℕ → List ℤ → classes.Object
object_with name values = record { name = name; class = 0; fields = values; kind = Plain }

-- `C c;` where these are the objects of the class
abbrev pub declared_c : Base → VarDecl
declared_c base = record { name = codes "c"; kind = Object; base = base }

-- there is no object
abbrev pub no_choice : Model
no_choice = problem_with (class_with [] ∷ []) [] (declared_c Void ∷ []) []

-- there is one
abbrev pub one_choice : Model
one_choice =
    problem_with (class_with [] ∷ []) (object_with (codes "o") [] ∷ []) (declared_c (Given the_object) ∷ []) []

-- ---- a field

abbrev pub declared_field : VarDecl
declared_field = record { name = codes "f"; kind = Int; base = Given (up_to 9) }

-- `int [0 9] v;`
abbrev pub declared_v : VarDecl
declared_v = record { name = codes "v"; kind = Int; base = Given (up_to 9) }

-- `c.f` is v
abbrev pub field_is : Item
field_is = Constraint (Field 0) (term.Global 0 ∷ term.Global 1 ∷ [])

-- two objects, which have 1 and 2 in their field
abbrev pub fielded : Model
fielded = problem_with
    (class_with (declared_field ∷ []) ∷ [])
    (object_with (codes "o") (pos 1 ∷ []) ∷ object_with (codes "p") (pos 2 ∷ []) ∷ [])
    (declared_c (Given both_objects) ∷ declared_v ∷ [])
    (field_is ∷ [])

-- from the one number to the other
abbrev pub between : ℕ → ℕ → Domain
between low high = Range (pos low) (pos high)

-- ---- two variables

-- `int [0 2] y;`
abbrev pub declared_y : VarDecl
declared_y = record { name = codes "y"; kind = Int; base = Given (up_to 2) }

-- nothing is asked of x and y
abbrev pub free_two : Model
free_two = problem_of (declared_x ∷ declared_y ∷ []) []

-- x is at most 1
abbrev pub low_two : Model
low_two = problem_of (declared_x ∷ declared_y ∷ []) (at_most_1 ∷ [])

abbrev pub x_is : ℕ → Decision
x_is value = Specify (Global 0) (pos value)

abbrev pub y_is : ℕ → Decision
y_is value = Specify (Global 1) (pos value)
