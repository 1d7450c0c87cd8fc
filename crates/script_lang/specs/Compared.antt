-- In which kind the arguments of a constraint are read that a decision posts.
use Rattle.std.specs.Prelude.{◌≡◌, ℕ, ◌+◌, ◌==◌, if◌then◌else◌, ⊤, Option, Some, None, List, [], ◌∷◌, ◌++◌, take, drop}
use Rattle.domain_core.specs.declared.kind.Kind.{Kind}
use Rattle.domain_core.specs.declared.kind.Kind.TheVariants.{MulEq, TestEq, TestLeq}
use Rattle.model_core.specs.declared.decision.ConArg.{ConArg}
use Rattle.model_core.specs.declared.decision.ConArg.TheVariants.{Var, Value}
use Rattle.model_core.specs.declared.model.Model.{Model}
use Rattle.model_core.specs.declared.variable.ValueKind.{ValueKind}
use Rattle.model_core.specs.declared.variable.ValueKind.TheVariants as kinds
use Rattle.model_core.specs.Kinds.{IsVariableOfKind}

-- those of its arguments that a constraint compares, also where they are fewer or more than it has
abbrev pub compared : Kind → List ConArg → List ConArg
compared MulEq arguments = take 1 arguments ++ take 1 (drop 2 arguments)
compared TestEq arguments = take 2 (drop 1 arguments)
compared TestLeq arguments = take 2 (drop 1 arguments)
compared kind arguments = arguments

-- the first variable among the arguments is of the kind that is found, if there is one
abbrev pub IsFirstKind : Model → List ConArg → Option ValueKind → Type 0
IsFirstKind model [] found = found ≡ None
IsFirstKind model (Var name ∷ arguments) found =
    (kind : ValueKind) × (IsVariableOfKind model kind name × (found ≡ Some kind))
IsFirstKind model (Value value ∷ arguments) found = IsFirstKind model arguments found

-- the kind in which the argument at this place is read, where those that are compared are of this kind, if they are of any:
-- a truth, a factor, and all others as those that are compared
abbrev pub kind_at : Kind → Option ValueKind → ℕ → Option ValueKind
kind_at MulEq among place = if place == 1 then Some kinds.Int else among
kind_at TestEq among place = if place == 0 then Some kinds.Bool else among
kind_at TestLeq among place = if place == 0 then Some kinds.Bool else among
kind_at kind among place = among

-- the two lists are equally long, and this holds of what stands in them at each place from this one on
abbrev pub AllPlaced : {A B : Type 0} → (ℕ → A → B → Type 0) → ℕ → List A → List B → Type 0
AllPlaced Holds place [] [] = ⊤
AllPlaced Holds place (one ∷ ones) (other ∷ others) = Holds place one other × AllPlaced Holds (place + 1) ones others
AllPlaced Holds place ones others = ⊥
