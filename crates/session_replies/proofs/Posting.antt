-- A constraint that may be decided on can be written.
use Rattle.std.proofs.Common.{◌≡◌, ◌⊎◌, inl, inr, ⊎_elim, Bool, false, ℕ, zero, suc, ◌<◌, ℤ, pos, negsuc, Option, Some, None, List, [], ◌∷◌, slice_get, refl, sym, ap, ◌∙◌, subst, arith}
use Rattle.std.specs.Prelude.{⊤, ◌==◌, if◌then◌else◌, All, Contains, length, take, drop, ◌≤ℤ◌}
use Rattle.std.proofs.lemmas.Bool.Decides.{nat_tests}
use Rattle.std.proofs.lemmas.Int.{ints, by_lt_z}
use Rattle.std.proofs.lemmas.List.Elements.{All-take, All-drop, All-append, All-head, All-tail, recursion_from_All}
use Rattle.std.specs.List.{AllByRecursion}
use Rattle.domain_core.specs.declared.kind.Kind.{Kind}
use Rattle.domain_core.specs.declared.kind.Kind.TheVariants.{Eq, Neq, Lt, Leq, AddEq, MulEq, TestEq, TestLeq, AllDiff, Field}
use Rattle.domain_core.specs.Domain.{IsValue}
use Rattle.eu_name.specs.declared.name.VarName.{VarName}
use Rattle.eu_name.proofs.Members.{get_all}
use Rattle.eu_name.proofs.Ordered.{contains_none, contains_cases}
use Rattle.model_core.specs.declared.class.Enum.{Enum}
use Rattle.model_core.specs.declared.decision.ConArg.{ConArg}
use Rattle.model_core.specs.declared.decision.ConArg.TheVariants.{Var, Value}
use Rattle.model_core.specs.declared.model.Model.{Model}
use Rattle.model_core.specs.declared.variable.Base.{Base}
use Rattle.model_core.specs.declared.variable.ValueKind.{ValueKind}
use Rattle.model_core.specs.declared.variable.ValueKind.TheVariants as kinds
use Rattle.model_core.specs.Arguments.{IsInType, AreCompared, Takes}
use Rattle.model_core.specs.Kinds.{IsValueOf, IsMemberOf}
use Rattle.model_core.specs.Variables.{HasBase}
use Rattle.model_core.proofs.Kinding.{kind_once}
use Rattle.plan_defs.proofs.Counting.{not_impossible}
use Rattle.plan_defs.proofs.Determining.{same_number}
use Rattle.plan_defs.proofs.Knowing.{IsOrNot, both_or_not}
use Rattle.script_lang.specs.Compared.{compared, IsFirstKind, kind_at}
use Rattle.script_lang.specs.KindWords.{IsPosted}
use Rattle.session_replies.specs.Writable.{IsArgumentWritable, IsPostWritable}
use Rattle.session_replies.proofs.Existing.{variable_kind}

-- ---- what can be told of values

most_or_not : (a b : ℤ) → IsOrNot (a ≤ℤ b)
most_or_not a b = by_lt_z b a (λ less. inr (λ is. omega (arith, ints, less, is))) (λ not_less. inl (omega (arith, ints, not_less)))

within_or_not : (value : ℤ) → IsOrNot (IsValue value)
within_or_not value = both_or_not _ _ (most_or_not _ value) (most_or_not value _)

at_or_not : {X : Type 0} (found : Option X) → IsOrNot ((x : X) × (found ≡ Some x))
at_or_not None = inr (λ there. let no : None ≡ Some there.0 = there.1 in absurd cc)
at_or_not (Some x) = inl (x, refl)

module _ (model : Model) where
  member_or_not : (number : ℕ) (value : ℤ) → IsOrNot (IsMemberOf model number value)
  member_or_not number (negsuc n) = inr (λ is. let no = is.is_place in omega (arith, ints, no))
  member_or_not number (pos place) = elim (at_or_not (slice_get model.enums number)) [
    | inl found ↦ elim (at_or_not (slice_get found.0.members place)) [
      | inl member ↦ inl (record { found = found.0; is_enum = found.1; place = place; is_place = refl; member = member.0; is_member = member.1 })
      | inr none ↦ inr (λ is.
          let both : Some is.found ≡ Some found.0 = sym is.is_enum ∙ found.1 in
          let same : is.found ≡ found.0 = cc in
          let places : is.place ≡ place = omega (arith, ints, is.is_place) in
          none (
            is.member,
            subst (λ (n : ℕ). slice_get found.0.members n ≡ Some is.member) places
                (subst (λ (e : Enum). slice_get e.members is.place ≡ Some is.member) same is.is_member),
          ))
    ]
    | inr none ↦ inr (λ is. none (is.found, is.is_enum))
  ]

  value_or_not : (kind : ValueKind) (value : ℤ) → IsOrNot (IsValueOf model kind value)
  value_or_not kinds.Int value = within_or_not value
  value_or_not kinds.Float value = within_or_not value
  value_or_not kinds.Bool value = elim (same_number value (pos 0)) [
    | inl false_one ↦ inl (inl false_one)
    | inr not_false ↦ elim (same_number value (pos 1)) [
      | inl true_one ↦ inl (inr true_one)
      | inr not_true ↦ inr (λ is. ⊎_elim not_false not_true is)
    ]
  ]
  value_or_not (kinds.Enum number) value = member_or_not number value
  value_or_not kinds.Object (negsuc n) = inr (λ is. let none = is.1.1 in omega (arith, ints, none))
  value_or_not kinds.Object (pos place) = elim (at_or_not (slice_get model.objects place)) [
    | inl found ↦ inl (found.0, (place, refl, found.1))
    | inr none ↦ inr (λ is.
        let places : is.1.0 ≡ place = omega (arith, ints, is.1.1) in
        none (is.0, subst (λ (n : ℕ). slice_get model.objects n ≡ Some is.0) places is.1.2))
  ]

  -- ---- what a constraint takes

  -- those that are compared are of the kind of the first variable
  compared_kind : (kind : ValueKind) (arguments : List ConArg) (name : VarName) (found : Option ValueKind) → AllByRecursion (IsInType model kind) arguments → Contains arguments (Var name) → IsFirstKind model arguments found → found ≡ Some kind
  compared_kind kind [] name found suit some is = absurd (contains_none (Var name) some)
  compared_kind kind (Var other ∷ arguments) name found suit some (first, (of, is)) = is ∙ ap Some (kind_once model other first kind of suit.0)
  compared_kind kind (Value value ∷ arguments) name found suit some is =
      compared_kind kind arguments name found suit.1
      (⊎_elim (λ same. let no : Value value ≡ Var name = same in absurd cc) (λ later. later) (contains_cases (Value value) (Var name) arguments some)) is

  among_is : (kind : ValueKind) (arguments : List ConArg) (among : Option ValueKind) → AreCompared (IsInType model) kind arguments → IsFirstKind model arguments among → among ≡ Some kind
  among_is kind arguments among are is = compared_kind kind arguments are.name among (recursion_from_All (IsInType model kind) arguments are.suit) are.some is

  -- the argument suits some kind, which is this one
  abbrev Suits : Option ValueKind → ConArg → Type 0
  Suits found argument = (kind : ValueKind) × ((found ≡ Some kind) × IsInType model kind argument)

  suits_at : (kind : ValueKind) (arguments : List ConArg) (among : Option ValueKind) (place : ℕ) (argument : ConArg) → AreCompared (IsInType model) kind arguments → IsFirstKind model arguments among
      → slice_get arguments place ≡ Some argument → Suits among argument
  suits_at kind arguments among place argument are is at = (kind, (among_is kind arguments among are is, get_all (IsInType model kind) arguments place argument are.suit at))

  no_place : (place : ℕ) (argument : ConArg) → slice_get [] place ≡ Some argument → ⊥
  no_place place argument at = cc

  later_place : (n : ℕ) → (suc n == 0) ≡ false
  later_place n = grind (arith, nat_tests)

  -- behind the truth of a test each suits the kind of those that are compared
  suits_later : (among : Option ValueKind) (n : ℕ) (argument : ConArg) → Suits among argument → Suits (if suc n == 0 then Some kinds.Bool else among) argument
  suits_later among n argument = subst (λ (first : Bool). Suits (if first then Some kinds.Bool else among) argument) (sym (later_place n))

  -- each argument that is taken suits the kind in which it is read
  pub taken_at : (kind : Kind) (arguments : List ConArg) (among : Option ValueKind) (place : ℕ) (argument : ConArg) → Takes (IsInType model) kind arguments → IsFirstKind model (compared kind arguments) among
      → slice_get arguments place ≡ Some argument → Suits (kind_at kind among place) argument
  taken_at Eq (a ∷ b ∷ []) among place argument (kind, are) is at = suits_at kind (a ∷ b ∷ []) among place argument are is at
  taken_at Neq (a ∷ b ∷ []) among place argument (kind, are) is at = suits_at kind (a ∷ b ∷ []) among place argument are is at
  taken_at Lt (a ∷ b ∷ []) among place argument (kind, numeric, are) is at = suits_at kind (a ∷ b ∷ []) among place argument are is at
  taken_at Leq (a ∷ b ∷ []) among place argument (kind, numeric, are) is at = suits_at kind (a ∷ b ∷ []) among place argument are is at
  taken_at AddEq (a ∷ m ∷ b ∷ []) among place argument (kind, numeric, are) is at = suits_at kind (a ∷ m ∷ b ∷ []) among place argument are is at
  taken_at MulEq (a ∷ Value factor ∷ b ∷ []) among zero argument ((kind, numeric, are), of, some) is at = suits_at kind (a ∷ b ∷ []) among 0 argument are is at
  taken_at MulEq (a ∷ Value factor ∷ b ∷ []) among (suc zero) argument ((kind, numeric, are), of, some) is at =
      (kinds.Int, (refl, let same : Value factor ≡ argument = cc in subst (IsInType model kinds.Int) same of))
  taken_at MulEq (a ∷ Value factor ∷ b ∷ []) among (suc (suc zero)) argument ((kind, numeric, are), of, some) is at = suits_at kind (a ∷ b ∷ []) among 1 argument are is at
  taken_at MulEq (a ∷ Value factor ∷ b ∷ []) among (suc (suc (suc n))) argument takes is at = absurd (no_place n argument at)
  taken_at TestEq (a ∷ m ∷ b ∷ []) among zero argument (of, (kind, are)) is at = (kinds.Bool, (refl, let same : a ≡ argument = cc in subst (IsInType model kinds.Bool) same of))
  taken_at TestEq (a ∷ m ∷ b ∷ []) among (suc n) argument (of, (kind, are)) is at = suits_later among n argument (suits_at kind (m ∷ b ∷ []) among n argument are is at)
  taken_at TestLeq (a ∷ m ∷ b ∷ []) among zero argument (of, (kind, numeric, are)) is at = (kinds.Bool, (refl, let same : a ≡ argument = cc in subst (IsInType model kinds.Bool) same of))
  taken_at TestLeq (a ∷ m ∷ b ∷ []) among (suc n) argument (of, (kind, numeric, are)) is at = suits_later among n argument (suits_at kind (m ∷ b ∷ []) among n argument are is at)
  taken_at kind arguments among place argument takes is at = absurd takes

  taken_some : (kind : Kind) (arguments : List ConArg) → Takes (IsInType model) kind arguments → 0 < length arguments
  taken_some Eq (a ∷ b ∷ []) takes = omega arith
  taken_some Neq (a ∷ b ∷ []) takes = omega arith
  taken_some Lt (a ∷ b ∷ []) takes = omega arith
  taken_some Leq (a ∷ b ∷ []) takes = omega arith
  taken_some AddEq (a ∷ m ∷ b ∷ []) takes = omega arith
  taken_some MulEq (a ∷ Value factor ∷ b ∷ []) takes = omega arith
  taken_some TestEq (a ∷ m ∷ b ∷ []) takes = omega arith
  taken_some TestLeq (a ∷ m ∷ b ∷ []) takes = omega arith
  taken_some kind arguments takes = absurd takes

  taken_posted : (kind : Kind) (arguments : List ConArg) → ((Takes (IsInType model) kind arguments → ⊥) → ⊥) → IsPosted kind
  taken_posted AllDiff arguments possible = possible (λ takes. takes)
  taken_posted (Field number) arguments possible = possible (λ takes. takes)
  taken_posted Eq arguments possible = tt
  taken_posted Neq arguments possible = tt
  taken_posted Lt arguments possible = tt
  taken_posted Leq arguments possible = tt
  taken_posted AddEq arguments possible = tt
  taken_posted MulEq arguments possible = tt
  taken_posted TestEq arguments possible = tt
  taken_posted TestLeq arguments possible = tt

  -- ---- what can be written

  -- a variable that is given has a base
  abbrev pub IsBased : ConArg → Type 0
  IsBased (Var name) = (base : Base) × HasBase model name base
  IsBased (Value value) = ⊤

  compared_based : (kind : Kind) (arguments : List ConArg) → All IsBased arguments → All IsBased (compared kind arguments)
  compared_based MulEq arguments all =
      All-append IsBased (take 1 arguments) (take 1 (drop 2 arguments)) (All-take IsBased 1 arguments all) (All-take IsBased 1 (drop 2 arguments) (All-drop IsBased 2 arguments all))
  compared_based TestEq arguments all = All-take IsBased 2 (drop 1 arguments) (All-drop IsBased 1 arguments all)
  compared_based TestLeq arguments all = All-take IsBased 2 (drop 1 arguments) (All-drop IsBased 1 arguments all)
  compared_based kind arguments all = all

  first_there : (arguments : List ConArg) → All IsBased arguments → (found : Option ValueKind) × IsFirstKind model arguments found
  first_there [] all = (None, refl)
  first_there (Var name ∷ arguments) all =
      let base = All-head IsBased (Var name) arguments all in
      let kind = variable_kind model name base.0 base.1 in
      (Some kind.0, (kind.0, (kind.1, refl)))
  first_there (Value value ∷ arguments) all = first_there arguments (All-tail IsBased (Value value) arguments all)

  module _ (kind : Kind) (arguments : List ConArg) (based : All IsBased arguments) (possible : (Takes (IsInType model) kind arguments → ⊥) → ⊥) (among : Option ValueKind)
      (is_among : IsFirstKind model (compared kind arguments) among) where
    value_writable : (place : ℕ) (value : ℤ) (found : Option ValueKind) → found ≡ kind_at kind among place → slice_get arguments place ≡ Some (Value value) → IsArgumentWritable model found (Value value)
    value_writable place value None is at = possible (λ takes.
        let suits = taken_at kind arguments among place (Value value) takes is_among at in
        let no : None ≡ Some suits.0 = is ∙ suits.1.0 in
        absurd cc)
    value_writable place value (Some read) is at = not_impossible (value_or_not read value) (λ not. possible (λ takes.
        let suits = taken_at kind arguments among place (Value value) takes is_among at in
        let both : Some read ≡ Some suits.0 = is ∙ suits.1.0 in
        let same : suits.0 ≡ read = cc in
        not (subst (λ (k : ValueKind). IsValueOf model k value) same suits.1.1)))

    argument_writable : (place : ℕ) (argument : ConArg) → slice_get arguments place ≡ Some argument → IsArgumentWritable model (kind_at kind among place) argument
    argument_writable place (Var name) at = get_all IsBased arguments place (Var name) based at
    argument_writable place (Value value) at = value_writable place value (kind_at kind among place) refl at

  some_there : (kind : Kind) (arguments : List ConArg) → ((Takes (IsInType model) kind arguments → ⊥) → ⊥) → 0 < length arguments
  some_there kind [] possible = absurd (possible (λ takes. omega (arith, taken_some kind [] takes)))
  some_there kind (argument ∷ arguments) possible = omega arith

  -- what a constraint isn't known not to take can be written
  pub post_writable : (kind : Kind) (arguments : List ConArg) → All IsBased arguments → ((Takes (IsInType model) kind arguments → ⊥) → ⊥) → IsPostWritable model kind arguments
  post_writable kind arguments based possible =
      let among = first_there (compared kind arguments) (compared_based kind arguments based) in
      record {
        posted = taken_posted kind arguments possible;
        some = some_there kind arguments possible;
        among = among.0;
        is_among = among.1;
        each = argument_writable kind arguments based possible among.0 among.1;
      }
