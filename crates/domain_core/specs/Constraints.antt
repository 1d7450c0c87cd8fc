-- What the constraints of the language say of values.
use Rattle.std.specs.Prelude.{◌≡◌, ◌↔◌, ◌*ℤ◌, ℕ, ℤ, pos, ◌≤ℤ◌, ◌<ℤ◌, ◌+ℤ◌, List, [], ◌∷◌}
use Rattle.domain_core.specs.Domain.{Domain}
use Rattle.domain_core.specs.Consistency.{Reach, Values, Ends, AreConsistent}
use Rattle.domain_core.specs.declared.kind.Kind.{Kind}
use Rattle.domain_core.specs.declared.kind.Kind.TheVariants.{Eq, Neq, Lt, Leq, AddEq, MulEq, TestEq, TestLeq, AllDiff, Field}

-- the constraint holds of these values, whatever the objects are; a field isn't among these
abbrev pub HoldsOf : Kind → List ℤ → Type 0
HoldsOf Eq (x ∷ y ∷ []) = x ≡ y
HoldsOf Neq (x ∷ y ∷ []) = x ≡ y → ⊥
HoldsOf Lt (x ∷ y ∷ []) = x <ℤ y
HoldsOf Leq (x ∷ y ∷ []) = x ≤ℤ y
HoldsOf AddEq (x ∷ y ∷ z ∷ []) = (x +ℤ y) ≡ z
HoldsOf MulEq (x ∷ factor ∷ z ∷ []) = (x *ℤ factor) ≡ z
HoldsOf TestEq (b ∷ x ∷ y ∷ []) = (b ≡ pos 1) ↔ (x ≡ y)
HoldsOf TestLeq (b ∷ x ∷ y ∷ []) = (b ≡ pos 1) ↔ (x ≤ℤ y)
HoldsOf kind values = ⊥

-- the second value is in the field of the object that is the first
abbrev pub IsFieldOf : (ℤ → ℤ → Type 0) → List ℤ → Type 0
IsFieldOf field (object ∷ value ∷ []) = field object value
IsFieldOf field values = ⊥

-- the constraint holds of these values, where `fields` says which object has which value in which field
abbrev pub Holds : (ℕ → ℤ → ℤ → Type 0) → Kind → List ℤ → Type 0
Holds fields (Field number) values = IsFieldOf (fields number) values
Holds fields kind values = HoldsOf kind values

-- of the linear constraints but equality the ends of the others count alone
abbrev pub reach_of : Kind → Reach
reach_of Lt = Ends
reach_of Leq = Ends
reach_of AddEq = Ends
reach_of MulEq = Ends
reach_of TestLeq = Ends
reach_of kind = Values

-- how many arguments the constraint has; inequality of all is none that is posted, since its inequalities are
abbrev pub arity_of : Kind → ℕ
arity_of AddEq = 3
arity_of MulEq = 3
arity_of TestEq = 3
arity_of TestLeq = 3
arity_of AllDiff = 0
arity_of kind = 2

-- the arguments' domains support each other
abbrev pub AgreeOn : (ℕ → ℤ → ℤ → Type 0) → Kind → List Domain → Type 0
AgreeOn fields kind domains = AreConsistent (reach_of kind) (Holds fields kind) domains
