-- A problem with one variable, of 0 to 2, and states of it.
use Rattle.std.specs.Prelude.{ℕ, pos, List, [], ◌∷◌, codes}
use Rattle.domain_core.specs.Domain.{Domain, Range}
use Rattle.eu_name.specs.declared.name.VarName.TheVariants.{Global}
use Rattle.model_core.specs.declared.class.Class.{Class}
use Rattle.model_core.specs.declared.class.Object.{Object}
use Rattle.model_core.specs.declared.item.Item.{Item}
use Rattle.model_core.specs.declared.item.Item.TheVariants.{Constraint}
use Rattle.domain_core.specs.declared.kind.Kind.TheVariants.{Leq}
use Rattle.model_core.specs.declared.item.Term.TheVariants as term
use Rattle.model_core.specs.declared.model.Model.{Model}
use Rattle.model_core.specs.declared.variable.Base.TheVariants.{Given}
use Rattle.model_core.specs.declared.variable.ValueKind.TheVariants.{Int}
use Rattle.model_core.specs.declared.variable.VarDecl.{VarDecl}
use Rattle.model_core.specs.State.{State}

-- `int [0 2] x;`
abbrev pub declared_x : VarDecl
declared_x = record { name = codes "x"; kind = Int; base = Given (Range (pos 0) (pos 2)) }

-- a problem of these classes, objects, variables and constraints
abbrev pub problem_with : List Class → List Object → List VarDecl → List Item → Model
problem_with classes objects globals items = record {
  enums = [];
  classes = classes;
  objects = objects;
  preds = [];
  rules = [];
  problem = record {
    start = pos 0;
    end = pos 10;
    steps = 1;
    roots = [];
    globals = globals;
    items = items;
    decisions = [];
  };
}

-- one without objects
abbrev pub problem_of : List VarDecl → List Item → Model
problem_of = problem_with [] []

-- nothing is asked of x
abbrev pub free_x : Model
free_x = problem_of (declared_x ∷ []) []

-- `leq(x, 1);`
abbrev pub at_most_1 : Item
at_most_1 = Constraint Leq (term.Global 0 ∷ term.Lit (pos 1) ∷ [])

abbrev pub low_x : Model
low_x = problem_of (declared_x ∷ []) (at_most_1 ∷ [])

abbrev pub empty_state : State
empty_state = record { tokens = []; blocks = []; entries = [] }

-- x may be what is in this domain
abbrev pub with_x : Domain → State
with_x domain = record { tokens = []; blocks = []; entries = record { name = Global 0; domain = domain } ∷ [] }

-- from 0 to this number
abbrev pub up_to : ℕ → Domain
up_to number = Range (pos 0) (pos number)

-- two variables may be what is in these domains
abbrev pub with_two : Domain → Domain → State
with_two one other = record {
  tokens = [];
  blocks = [];
  entries = record { name = Global 0; domain = one } ∷ record { name = Global 1; domain = other } ∷ [];
}
