-- What arguments of a constraint share with those that were asked for and for which they stand.
use Rattle.std.proofs.Common.{◌≡◌, ◌⊎◌, ℤ, pos, List, [], ◌∷◌, refl, sym, ◌∙◌, subst, inl, inr, arith}
use Rattle.std.specs.Prelude.{⊤, All, Contains, map}
use Rattle.std.specs.List.{AllByRecursion}
use Rattle.std.proofs.lemmas.Int.{ints}
use Rattle.std.proofs.lemmas.List.Elements.{All-from_recursion, recursion_from_All}
use Rattle.domain_core.specs.declared.kind.Kind.{Kind}
use Rattle.domain_core.specs.declared.kind.Kind.TheVariants.{Eq, Neq, Lt, Leq, AddEq, MulEq, TestEq, TestLeq}
use Rattle.domain_core.specs.Domain.{IsValue}
use Rattle.eu_name.specs.declared.name.TokenName.{TokenName}
use Rattle.eu_name.specs.declared.name.VarName.{VarName}
use Rattle.eu_name.proofs.Members.{get_all, get_below}
use Rattle.eu_name.proofs.Ordered.{contains_head, contains_later, contains_cases}
use Rattle.model_core.specs.declared.decision.ConArg.{ConArg}
use Rattle.model_core.specs.declared.decision.ConArg.TheVariants.{Var, Value}
use Rattle.model_core.specs.declared.model.Model.{Model}
use Rattle.model_core.specs.declared.variable.ValueKind.{ValueKind}
use Rattle.model_core.specs.declared.variable.ValueKind.TheVariants as kinds
use Rattle.model_core.specs.Arguments.{IsOfType, IsInType, AreCompared, CanCompare, CanOrder, Takes}
use Rattle.model_core.specs.Kinds.{IsValueOf}
use Rattle.model_core.specs.Lawful.{IsLawful, IsLawfulEnum}
use Rattle.model_core.specs.State.{State}
use Rattle.plan_defs.specs.Claims.{argument_of}
use Rattle.plan_defs.specs.Refusals.{IsArgumentKnown}
use Rattle.plan_defs.specs.Terms.{ArgumentCounts}
use Rattle.script_lang.specs.Naming.{StandsFor, StandsForArgument, StandForArguments}

-- ---- arguments one by one

pub stands_back : (value number : ℤ) → StandsFor value number → StandsFor number value
stands_back value number (inl same) = inl (sym same)
stands_back value number (inr (out, out')) = inr (out', out)

argument_back : (given asked : ConArg) → StandsForArgument given asked → StandsForArgument asked given
argument_back (Var name) (Var other) stands = sym stands
argument_back (Value value) (Value number) stands = stands_back value number stands
argument_back (Var name) (Value number) stands = stands
argument_back (Value value) (Var name) stands = stands

pub arguments_back : (given asked : List ConArg) → StandForArguments given asked → StandForArguments asked given
arguments_back [] [] stand = tt
arguments_back (one ∷ given) (other ∷ asked) stand = (argument_back one other stand.0, arguments_back given asked stand.1)
arguments_back [] (other ∷ asked) stand = stand
arguments_back (one ∷ given) [] stand = stand

-- the argument isn't a value out of the range of values
abbrev pub IsWithinRange : ConArg → Type 0
IsWithinRange (Var name) = ⊤
IsWithinRange (Value value) = IsValue value

-- they are the same, or values of both lie outside
module _ (P : Type 0) where
  pub same_or_outside : (given asked : List ConArg) → StandForArguments given asked → (given ≡ asked → P) → ((All IsWithinRange given → ⊥) → (All IsWithinRange asked → ⊥) → P) → P
  same_or_outside given asked stand same outside =
      by given asked stand same (λ out out'. outside (λ all. out (recursion_from_All IsWithinRange given all)) (λ all. out' (recursion_from_All IsWithinRange asked all)))
    where
      by : (given asked : List ConArg) → StandForArguments given asked → (given ≡ asked → P) → ((AllByRecursion IsWithinRange given → ⊥) → (AllByRecursion IsWithinRange asked → ⊥) → P) → P
      by [] [] stand same outside = same refl
      by (Var name ∷ given) (Var other ∷ asked) stand same outside =
          by given asked stand.1 (λ rest. let front : name ≡ other = stand.0 in same cc) (λ out out'. outside (λ all. out all.1) (λ all. out' all.1))
      by (Value value ∷ given) (Value number ∷ asked) (inl is, stand) same outside =
          by given asked stand (λ rest. same cc) (λ out out'. outside (λ all. out all.1) (λ all. out' all.1))
      by (Value value ∷ given) (Value number ∷ asked) (inr (out, out'), stand) same outside = outside (λ all. out all.0) (λ all. out' all.0)
      by (Var name ∷ given) (Value number ∷ asked) stand same outside = absurd stand.0
      by (Value value ∷ given) (Var name ∷ asked) stand same outside = absurd stand.0
      by [] (other ∷ asked) stand same outside = absurd stand
      by (one ∷ given) [] stand same outside = absurd stand

-- what holds of arguments whatever their values are
module _ (P : ConArg → Type 0) (whatever : (given asked : ConArg) → StandsForArgument given asked → P given → P asked) where
  all_moves : (given asked : List ConArg) → StandForArguments given asked → AllByRecursion P given → AllByRecursion P asked
  all_moves [] [] stand all = tt
  all_moves (one ∷ given) (other ∷ asked) stand all = (whatever one other stand.0 all.0, all_moves given asked stand.1 all.1)
  all_moves [] (other ∷ asked) stand all = absurd stand
  all_moves (one ∷ given) [] stand all = absurd stand

  pub all_stand : (given asked : List ConArg) → StandForArguments given asked → All P given → All P asked
  all_stand given asked stand all = All-from_recursion P asked (all_moves given asked stand (recursion_from_All P given all))

variable_moves : (name : VarName) (given asked : List ConArg) → StandForArguments given asked → Contains given (Var name) → Contains asked (Var name)
variable_moves name [] [] stand there = there
variable_moves name (one ∷ given) (other ∷ asked) stand there = by (variable_moves name given asked stand.1) one other stand.0 (contains_cases one (Var name) given there)
  where
    by : (Contains given (Var name) → Contains asked (Var name)) → (one other : ConArg) → StandsForArgument one other → (one ≡ Var name) ⊎ Contains given (Var name) → Contains (other ∷ asked) (Var name)
    by further one other stands (inr later) = contains_later other (Var name) asked (further later)
    by further (Var a) (Var b) stands (inl is) =
        let same : b ≡ name = cc in
        subst (λ (n : VarName). Contains (Var b ∷ asked) (Var n)) same (contains_head (Var b) asked)
    by further (Value v) (Value w) stands (inl is) = let no : Value v ≡ Var name = is in absurd cc
    by further (Var a) (Value w) stands (inl is) = absurd stands
    by further (Value v) (Var b) stands (inl is) = absurd stands
variable_moves name [] (other ∷ asked) stand there = absurd stand
variable_moves name (one ∷ given) [] stand there = absurd stand

-- ---- what a constraint takes of arguments, of which the values may be any

module _ (model : Model) where
  of_type_moves : (kind : ValueKind) (given asked : ConArg) → StandsForArgument given asked → IsOfType model kind given → IsOfType model kind asked
  of_type_moves kind (Var a) (Var b) stands of = subst (λ (n : VarName). IsOfType model kind (Var n)) stands of
  of_type_moves kind (Value v) (Value w) stands of = tt
  of_type_moves kind (Var a) (Value w) stands of = absurd stands
  of_type_moves kind (Value v) (Var b) stands of = absurd stands

  compared_moves : (kind : ValueKind) (given asked : List ConArg) → StandForArguments given asked → AreCompared (IsOfType model) kind given → AreCompared (IsOfType model) kind asked
  compared_moves kind given asked stand are = record {
    name = are.name;
    some = variable_moves are.name given asked stand are.some;
    suit = all_stand (IsOfType model kind) (of_type_moves kind) given asked stand are.suit;
  }

  compare_moves : (given asked : List ConArg) → StandForArguments given asked → CanCompare (IsOfType model) given → CanCompare (IsOfType model) asked
  compare_moves given asked stand (kind, are) = (kind, compared_moves kind given asked stand are)

  order_moves : (given asked : List ConArg) → StandForArguments given asked → CanOrder (IsOfType model) given → CanOrder (IsOfType model) asked
  order_moves given asked stand (kind, numeric, are) = (kind, numeric, compared_moves kind given asked stand are)

  module _ (P : List ConArg → Type 0) (a b : ConArg) where
    for_two : ((c d : ConArg) → StandsForArgument a c → StandsForArgument b d → P (c ∷ d ∷ [])) → (asked : List ConArg) → StandForArguments (a ∷ b ∷ []) asked → P asked
    for_two two [] stand = absurd stand
    for_two two (c ∷ []) stand = absurd stand.1
    for_two two (c ∷ d ∷ []) stand = two c d stand.0 stand.1.0
    for_two two (c ∷ d ∷ e ∷ more) stand = absurd stand.1.1

    for_three : (m : ConArg) → ((c d e : ConArg) → StandsForArgument a c → StandsForArgument m d → StandsForArgument b e → P (c ∷ d ∷ e ∷ [])) → (asked : List ConArg)
        → StandForArguments (a ∷ m ∷ b ∷ []) asked → P asked
    for_three m three [] stand = absurd stand
    for_three m three (c ∷ []) stand = absurd stand.1
    for_three m three (c ∷ d ∷ []) stand = absurd stand.1.1
    for_three m three (c ∷ d ∷ e ∷ []) stand = three c d e stand.0 stand.1.0 stand.1.1.0
    for_three m three (c ∷ d ∷ e ∷ f ∷ more) stand = absurd stand.1.1.1

  factor_moves : (a b c d e : ConArg) (factor : ℤ) → StandsForArgument a c → StandsForArgument (Value factor) d → StandsForArgument b e
      → CanOrder (IsOfType model) (a ∷ b ∷ []) → (factor ≡ pos 0 → ⊥) → Takes (IsOfType model) MulEq (c ∷ d ∷ e ∷ [])
  factor_moves a b c (Var name) e factor first second third can some = absurd second
  factor_moves a b c (Value other) e factor first (inl same) third can some =
      (order_moves (a ∷ b ∷ []) (c ∷ e ∷ []) (first, (third, tt)) can, tt, λ none. some (same ∙ none))
  factor_moves a b c (Value other) e factor first (inr (out, out')) third can some =
      (order_moves (a ∷ b ∷ []) (c ∷ e ∷ []) (first, (third, tt)) can, tt, λ none. out' (omega (arith, ints, none), omega (arith, ints, none)))

  pub takes_moves : (kind : Kind) (given asked : List ConArg) → StandForArguments given asked → Takes (IsOfType model) kind given → Takes (IsOfType model) kind asked
  takes_moves Eq (a ∷ b ∷ []) asked stand takes = for_two (Takes (IsOfType model) Eq) a b (λ c d first second. compare_moves (a ∷ b ∷ []) (c ∷ d ∷ []) (first, (second, tt)) takes) asked stand
  takes_moves Neq (a ∷ b ∷ []) asked stand takes = for_two (Takes (IsOfType model) Neq) a b (λ c d first second. compare_moves (a ∷ b ∷ []) (c ∷ d ∷ []) (first, (second, tt)) takes) asked stand
  takes_moves Lt (a ∷ b ∷ []) asked stand takes = for_two (Takes (IsOfType model) Lt) a b (λ c d first second. order_moves (a ∷ b ∷ []) (c ∷ d ∷ []) (first, (second, tt)) takes) asked stand
  takes_moves Leq (a ∷ b ∷ []) asked stand takes = for_two (Takes (IsOfType model) Leq) a b (λ c d first second. order_moves (a ∷ b ∷ []) (c ∷ d ∷ []) (first, (second, tt)) takes) asked stand
  takes_moves AddEq (a ∷ m ∷ b ∷ []) asked stand takes =
      for_three (Takes (IsOfType model) AddEq) a b m (λ c d e first second third. order_moves (a ∷ m ∷ b ∷ []) (c ∷ d ∷ e ∷ []) (first, (second, (third, tt))) takes) asked stand
  takes_moves MulEq (a ∷ Value factor ∷ b ∷ []) asked stand takes =
      for_three (Takes (IsOfType model) MulEq) a b (Value factor) (λ c d e first second third. factor_moves a b c d e factor first second third takes.0 takes.2) asked stand
  takes_moves TestEq (a ∷ m ∷ b ∷ []) asked stand takes =
      for_three (Takes (IsOfType model) TestEq) a b m
      (λ c d e first second third. (of_type_moves kinds.Bool a c first takes.0, compare_moves (m ∷ b ∷ []) (d ∷ e ∷ []) (second, (third, tt)) takes.1)) asked stand
  takes_moves TestLeq (a ∷ m ∷ b ∷ []) asked stand takes =
      for_three (Takes (IsOfType model) TestLeq) a b m
      (λ c d e first second third. (of_type_moves kinds.Bool a c first takes.0, order_moves (m ∷ b ∷ []) (d ∷ e ∷ []) (second, (third, tt)) takes.1)) asked stand
  takes_moves kind given asked stand takes = absurd takes

-- ---- values of a kind lie in the range of values

module _ (model : Model) (lawful : IsLawful model) where
  pub value_within : (kind : ValueKind) (value : ℤ) → IsValueOf model kind value → IsValue value
  value_within kinds.Int value of = of
  value_within kinds.Float value of = of
  value_within kinds.Bool value (inl is) = (omega (arith, ints, is), omega (arith, ints, is))
  value_within kinds.Bool value (inr is) = (omega (arith, ints, is), omega (arith, ints, is))
  value_within (kinds.Enum number) value of =
      let few = (get_all IsLawfulEnum model.enums number of.found lawful.enums of.is_enum).few in
      let below = get_below of.found.members of.place of.member of.is_member in
      let is = of.is_place in
      (omega (arith, ints, few, below, is), omega (arith, ints, few, below, is))
  value_within kinds.Object value (object, (number, is, at)) =
      let few = lawful.few_objects in
      let below = get_below model.objects number object at in
      (omega (arith, ints, few, below, is), omega (arith, ints, few, below, is))

  argument_within : (kind : ValueKind) (argument : ConArg) → IsInType model kind argument → IsWithinRange argument
  argument_within kind (Var name) of = tt
  argument_within kind (Value value) of = value_within kind value of

  all_within : (kind : ValueKind) (arguments : List ConArg) → AllByRecursion (IsInType model kind) arguments → AllByRecursion IsWithinRange arguments
  all_within kind [] all = tt
  all_within kind (argument ∷ arguments) all = (argument_within kind argument all.0, all_within kind arguments all.1)

  compared_within : (kind : ValueKind) (arguments : List ConArg) → AreCompared (IsInType model) kind arguments → AllByRecursion IsWithinRange arguments
  compared_within kind arguments are = all_within kind arguments (recursion_from_All (IsInType model kind) arguments are.suit)

  -- so what a constraint takes lies in it
  pub taken_within : (kind : Kind) (arguments : List ConArg) → Takes (IsInType model) kind arguments → All IsWithinRange arguments
  taken_within kind arguments takes = All-from_recursion IsWithinRange arguments (by kind arguments takes)
    where
      by : (kind : Kind) (arguments : List ConArg) → Takes (IsInType model) kind arguments → AllByRecursion IsWithinRange arguments
      by Eq (a ∷ b ∷ []) (kind, are) = compared_within kind (a ∷ b ∷ []) are
      by Neq (a ∷ b ∷ []) (kind, are) = compared_within kind (a ∷ b ∷ []) are
      by Lt (a ∷ b ∷ []) (kind, numeric, are) = compared_within kind (a ∷ b ∷ []) are
      by Leq (a ∷ b ∷ []) (kind, numeric, are) = compared_within kind (a ∷ b ∷ []) are
      by AddEq (a ∷ m ∷ b ∷ []) (kind, numeric, are) = compared_within kind (a ∷ m ∷ b ∷ []) are
      by MulEq (a ∷ Value factor ∷ b ∷ []) ((kind, numeric, are), of, some) =
          let both = compared_within kind (a ∷ b ∷ []) are in
          (both.0, (value_within kinds.Int factor of, both.1))
      by TestEq (a ∷ m ∷ b ∷ []) (of, (kind, are)) = (argument_within kinds.Bool a of, compared_within kind (m ∷ b ∷ []) are)
      by TestLeq (a ∷ m ∷ b ∷ []) (of, (kind, numeric, are)) = (argument_within kinds.Bool a of, compared_within kind (m ∷ b ∷ []) are)
      by kind arguments takes = absurd takes

-- ---- states

known_moves : (state : State) (given asked : ConArg) → StandsForArgument given asked → IsArgumentKnown state given → IsArgumentKnown state asked
known_moves state (Var a) (Var b) stands known = subst (λ (n : VarName). IsArgumentKnown state (Var n)) stands known
known_moves state (Value v) (Value w) stands known = tt
known_moves state (Var a) (Value w) stands known = absurd stands
known_moves state (Value v) (Var b) stands known = absurd stands

pub all_known : (state : State) (given asked : List ConArg) → StandForArguments given asked → All (IsArgumentKnown state) given → All (IsArgumentKnown state) asked
all_known state given asked stand known = all_stand (IsArgumentKnown state) (known_moves state) given asked stand known

module _ (model : Model) (Taken : TokenName → Type 0) where
  counts_moves : (given asked : ConArg) → StandsForArgument given asked → ArgumentCounts model Taken (argument_of given) → ArgumentCounts model Taken (argument_of asked)
  counts_moves (Var a) (Var b) stands counts = subst (λ (n : VarName). ArgumentCounts model Taken (argument_of (Var n))) stands counts
  counts_moves (Value v) (Value w) stands counts = tt
  counts_moves (Var a) (Value w) stands counts = absurd stands
  counts_moves (Value v) (Var b) stands counts = absurd stands

  mapped_moves : (given asked : List ConArg) → StandForArguments given asked → AllByRecursion (ArgumentCounts model Taken) (map argument_of given) → AllByRecursion (ArgumentCounts model Taken) (map argument_of asked)
  mapped_moves [] [] stand all = tt
  mapped_moves (one ∷ given) (other ∷ asked) stand all = (counts_moves one other stand.0 all.0, mapped_moves given asked stand.1 all.1)
  mapped_moves [] (other ∷ asked) stand all = absurd stand
  mapped_moves (one ∷ given) [] stand all = absurd stand

  pub all_count : (given asked : List ConArg) → StandForArguments given asked → All (ArgumentCounts model Taken) (map argument_of given) → All (ArgumentCounts model Taken) (map argument_of asked)
  all_count given asked stand all =
      All-from_recursion (ArgumentCounts model Taken) (map argument_of asked) (mapped_moves given asked stand (recursion_from_All (ArgumentCounts model Taken) (map argument_of given) all))
