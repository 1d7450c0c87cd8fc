-- What a text names that a line can be about.
use Rattle.std.proofs.Common.{◌≡◌, ℕ, Option, Some, None, Result, Ok, Err, MatchOption}
use Rattle.std.specs.Prelude.{IfOk}
use Rattle.eu_name.specs.declared.name.Part.TheVariants.{Start, End, Duration, Object, Param}
use Rattle.eu_name.specs.declared.name.VarName.{VarName}
use Rattle.eu_name.specs.declared.name.VarName.TheVariants.{Global, Token, Local}
use Rattle.eu_name.specs.declared.name_text.NameText.{NameText}
use Rattle.eu_name.specs.declared.name_text.Tail.TheVariants as tails
use Rattle.model_core.specs.declared.model.Model.{Model}
use Rattle.model_core.specs.Names.{NamesGlobal, NamesVariable}
use Rattle.model_core.proofs.Resolving.{LeadsNowhere}
use Rattle.plan_text.specs.Subjects.{NamesSubject}

pub no_whole : (model : Model) (text : NameText) → text.tail ≡ tails.None → LeadsNowhere model text → ((number : ℕ) → NamesGlobal model text number → ⊥)
    → (variable : VarName) → NamesSubject model text variable → ⊥
no_whole model text tail nowhere none (Global number) names = none number names
no_whole model text tail nowhere none (Token token Start) names = nowhere token names.1.0 names.1.1
no_whole model text tail nowhere none (Token token End) names = names
no_whole model text tail nowhere none (Token token Duration) names = names
no_whole model text tail nowhere none (Token token Object) names = names
no_whole model text tail nowhere none (Token token (Param number)) names = names
no_whole model text tail nowhere none (Local token rule number) names = let its = names.tail in cc

-- and no variable, where no step leads from the global
pub no_whole_variable : (model : Model) (text : NameText) → text.tail ≡ tails.None → ((number : ℕ) → NamesGlobal model text number → ⊥)
    → (variable : VarName) → NamesVariable model text variable → ⊥
no_whole_variable model text tail none (Global number) names = none number names
no_whole_variable model text tail none (Token token part) names = let its = names.tail in cc
no_whole_variable model text tail none (Local token rule number) names = let its = names.tail in cc

-- what a text names that ends with a local is the same as a variable and as what a line can be about
subject_is : (model : Model) (text : NameText) (rule number : ℕ) → text.tail ≡ tails.Local rule number → (variable : VarName) → NamesSubject model text variable → NamesVariable model text variable
subject_is model text rule number tail (Global other) names = names
subject_is model text rule number tail (Token token Start) names = let its = names.0 in cc
subject_is model text rule number tail (Token token End) names = absurd names
subject_is model text rule number tail (Token token Duration) names = absurd names
subject_is model text rule number tail (Token token Object) names = absurd names
subject_is model text rule number tail (Token token (Param other)) names = absurd names
subject_is model text rule number tail (Local token other place) names = names

is_subject : (model : Model) (text : NameText) (rule number : ℕ) → text.tail ≡ tails.Local rule number → (variable : VarName) → NamesVariable model text variable → NamesSubject model text variable
is_subject model text rule number tail (Global other) names = names
is_subject model text rule number tail (Token token part) names = absurd (let its = names.tail in cc)
is_subject model text rule number tail (Local token other place) names = names

pub local_subjects : {E : Type 0} (model : Model) (text : NameText) (rule number : ℕ) (result : Result (Option VarName) E) → text.tail ≡ tails.Local rule number
    → IfOk result (λ answer. MatchOption answer ((variable : VarName) → NamesVariable model text variable → ⊥) (NamesVariable model text))
    → IfOk result (λ answer. MatchOption answer ((variable : VarName) → NamesSubject model text variable → ⊥) (NamesSubject model text))
local_subjects model text rule number (Ok (Some variable)) tail names = is_subject model text rule number tail variable names
local_subjects model text rule number (Ok None) tail none = λ variable names. none variable (subject_is model text rule number tail variable names)
local_subjects model text rule number (Err fault) tail none = tt
