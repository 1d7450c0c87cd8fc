-- What the number of the first variable of a name says.
use Rattle.std.proofs.Common.{◌≡◌, ℕ, ◌+◌, ◌<◌, ◌≤◌, List, length, [], ◌∷◌, Some, None, slice_get, zero, suc, true, inl, inr, refl, sym, ◌∙◌, ap, arith}
use Rattle.std.specs.Prelude.{bytes_eq, codes}
use Rattle.std.proofs.lemmas.Bool.{cases_Bool}
use Rattle.std.proofs.lemmas.Slice.Eq.{bytes_eq-Decides}
use Rattle.eu_name.specs.declared.name.Part.{Part}
use Rattle.eu_name.specs.declared.name.Part.TheVariants as parts
use Rattle.eu_name.specs.declared.name.VarName.{VarName}
use Rattle.eu_name.specs.declared.name.VarName.TheVariants.{Token, Local, Global}
use Rattle.eu_name.specs.declared.name_text.NameText.{NameText}
use Rattle.eu_name.specs.declared.name_text.Tail.TheVariants as tails
use Rattle.model_core.specs.declared.class.Pred.{Pred}
use Rattle.model_core.specs.declared.model.Model.{Model}
use Rattle.model_core.specs.declared.variable.VarDecl.{VarDecl}
use Rattle.model_core.specs.Lawful.{IsLawful}
use Rattle.model_core.specs.Lookup.{first_named, global_named}
use Rattle.model_core.specs.Names.{NamesVariable, IsPartWord}
use Rattle.model_core.specs.Variables.{HasParameter}
use Rattle.model_core.proofs.Items.{item_within}

-- the variable of this name, and how far behind the first it stands
pub record IsNamed (from : ℕ) (name : List ℕ) (variables : List VarDecl) (number : ℕ) : Type 0 where
  pub place : ℕ
  pub variable : VarDecl
  pub number_is : number ≡ from + place
  pub stands : slice_get variables place ≡ Some variable
  pub named : variable.name ≡ name

pub found_named : (from : ℕ) (name : List ℕ) (variables : List VarDecl) (number : ℕ) → first_named from name variables ≡ Some number → IsNamed from name variables number
found_named from name [] number same = cc
found_named from name (first ∷ more) number same =
    elim (cases_Bool (bytes_eq first.name name)) [
      | inl is_it ↦
          let here : Some from ≡ Some number = rw is_it at same in
          let is : from ≡ number = cc in
          record { place = 0; variable = first; number_is = omega (arith, is); stands = refl; named = (bytes_eq-Decides first.name name).0 is_it }
      | inr is_not ↦
          let rest = found_named (from + 1) name more number (rw is_not at same) in
          record { place = suc rest.place; variable = rest.variable; number_is = omega (arith, rest.number_is); stands = rest.stands; named = rest.named }
    ]

pub none_named : (from : ℕ) (name : List ℕ) (variables : List VarDecl) (place : ℕ) (variable : VarDecl) → None ≡ first_named from name variables
    → slice_get variables place ≡ Some variable → variable.name ≡ name → ⊥
none_named from name [] place variable none stands named = cc
none_named from name (first ∷ more) zero variable none stands named =
    let same : first ≡ variable = cc in
    let is_it : bytes_eq first.name name ≡ true = (bytes_eq-Decides first.name name).1 (ap (λ (v : VarDecl). v.name) same ∙ named) in
    let here : None ≡ Some from = rw is_it at none in
    cc
none_named from name (first ∷ more) (suc place) variable none stands named =
    elim (cases_Bool (bytes_eq first.name name)) [
      | inl is_it ↦ let here : None ≡ Some from = rw is_it at none in cc
      | inr is_not ↦ none_named (from + 1) name more place variable (rw is_not at none) stands named
    ]

-- a lawful predicate's parameter by its name
pub parameter_named : (model : Model) (number : ℕ) (pred : Pred) (params : List VarDecl) (name : List ℕ) (found : ℕ) → Some pred ≡ slice_get model.preds number → params ≡ pred.params
    → Some found ≡ first_named 0 name params → (variable : VarDecl) × HasParameter model number found variable × (variable.name ≡ name)
parameter_named model number pred params name found is_pred are some =
    let named = found_named 0 name params found (sym some) in
    let place : named.place ≡ found = omega (arith, named.number_is) in
    let stands : slice_get pred.params found ≡ Some named.variable = cc in
    (named.variable, record { predicate = pred; is_predicate = sym is_pred; declared = stands }, named.named)

pub no_parameter_named : (model : Model) (number : ℕ) (pred : Pred) (params : List VarDecl) (name : List ℕ) → Some pred ≡ slice_get model.preds number → params ≡ pred.params
    → None ≡ first_named 0 name params → (place : ℕ) (variable : VarDecl) → HasParameter model number place variable → variable.name ≡ name → ⊥
no_parameter_named model number pred params name is_pred are none place variable has named =
    let same : has.predicate ≡ pred = cc in
    let stands : slice_get params place ≡ Some variable = cc in
    none_named 0 name params place variable none stands named

-- there are few enough that a parameter's number is small
pub few_parameters : (model : Model) (number : ℕ) (pred : Pred) (params : List VarDecl) → IsLawful model → Some pred ≡ slice_get model.preds number → params ≡ pred.params → length params ≤ 32
few_parameters model number pred params lawful is_pred are = omega (arith, ap length are, (lawful.preds number pred (sym is_pred)).few_params)

pub parameter_small : (model : Model) (number : ℕ) (pred : Pred) (params : List VarDecl) (name : List ℕ) (found : ℕ) → IsLawful model → Some pred ≡ slice_get model.preds number → params ≡ pred.params
    → Some found ≡ first_named 0 name params → found < 32
parameter_small model number pred params name found lawful is_pred are some =
    let named = found_named 0 name params found (sym some) in
    omega (arith, named.number_is, item_within params named.place named.variable named.stands, few_parameters model number pred params lawful is_pred are)

-- no global, where no variable has the label
pub no_global : (model : Model) (text : NameText) (label : List ℕ) → None ≡ global_named model label → label ≡ text.label → text.tail ≡ tails.None
    → (variable : VarName) → NamesVariable model text variable → ⊥
no_global model text label none same tail (Global number) names =
    none_named 0 label model.problem.globals number names.variable none names.is_global (names.label ∙ sym same)
no_global model text label none same tail (Token token part) names = let is = names.tail in cc
no_global model text label none same tail (Local token rule number) names = let is = names.tail in cc

pub global_found : (model : Model) (label : List ℕ) (number : ℕ) → Some number ≡ global_named model label
    → (variable : VarDecl) × (slice_get model.problem.globals number ≡ Some variable) × (variable.name ≡ label)
global_found model label number some =
    let named = found_named 0 label model.problem.globals number (sym some) in
    let place : named.place ≡ number = omega (arith, named.number_is) in
    let stands : slice_get model.problem.globals number ≡ Some named.variable = cc in
    (named.variable, stands, named.named)

-- no part, where the word is none of the four and no parameter has the name
pub no_part : (model : Model) (pred : ℕ) (word : List ℕ) → (word ≡ codes "start" → ⊥) → (word ≡ codes "end" → ⊥) → (word ≡ codes "duration" → ⊥) → (word ≡ codes "object" → ⊥)
    → ((number : ℕ) (variable : VarDecl) → HasParameter model pred number variable → variable.name ≡ word → ⊥) → (part : Part) → IsPartWord model pred part word → ⊥
no_part model pred word start end duration object none parts.Start is = start is
no_part model pred word start end duration object none parts.End is = end is
no_part model pred word start end duration object none parts.Duration is = duration is
no_part model pred word start end duration object none parts.Object is = object is
no_part model pred word start end duration object none (parts.Param number) (variable, has, named) = none number variable has named
