-- Which arguments of a constraint words say, and in which kind they are read.
use Rattle.std.proofs.Common.{◌≡◌, ℕ, zero, suc, ◌<◌, ◌≤◌, ◌+◌, ℤ, Option, Some, None, Result, Ok, Err, List, [], ◌∷◌, ◌++◌, take, drop, length, get_or, slice_get, refl, sym, ap, ◌∙◌, subst, length-take, arith}
use Rattle.std.specs.Prelude.{⊤, All, IfOk}
use Rattle.std.specs.List.{AllZip}
use Rattle.std.proofs.lemmas.Int.{ints}
use Rattle.std.proofs.lemmas.List.{take_more, take_all}
use Rattle.std.proofs.lemmas.List.Elements.{All-nil, All-cons}
use Rattle.std.proofs.lemmas.Option.{get_or_from_slice_get}
use Rattle.domain_core.specs.declared.kind.Kind.{Kind}
use Rattle.domain_core.specs.declared.kind.Kind.TheVariants.{MulEq, TestEq, TestLeq}
use Rattle.eu_name.specs.declared.name.VarName.{VarName}
use Rattle.eu_name.specs.declared.name_text.NameText.{NameText}
use Rattle.eu_name.specs.Spelling.{Spells}
use Rattle.eu_name.proofs.Names.{spells_one_name}
use Rattle.model_core.specs.declared.decision.ConArg.{ConArg}
use Rattle.model_core.specs.declared.decision.ConArg.TheVariants.{Var, Value}
use Rattle.model_core.specs.declared.model.Model.{Model}
use Rattle.model_core.specs.declared.variable.ValueKind.{ValueKind}
use Rattle.model_core.specs.Kinds.{IsVariableOfKind}
use Rattle.model_core.specs.Lawful.{IsLawful, IsLawfulArgument}
use Rattle.model_core.specs.Names.{NamesVariable, NamesWhatThereIs}
use Rattle.model_core.proofs.Kinding.{kind_once}
use Rattle.model_core.proofs.Naming.{names_one_variable}
use Rattle.script_lang.specs.Compared.{compared, IsFirstKind, kind_at, AllPlaced}
use Rattle.script_lang.specs.Naming.{SaysVariable, SaysNoVariable, SaysValueIn, SaysArgument, SayArguments, StandsFor, StandsForArgument, StandForArguments, FindsArguments}
use Rattle.script_lang.specs.Arguing.{NamesArgument, AnswersArgument, AnswersArguments}
use Rattle.script_lang.proofs.Kinding.{value_said_once}
use Rattle.script_lang.proofs.Placed.{placed_push, placed_at, placed_zip, placed_of_zip, zip_same, zip_more, zip_at, zip_take, zip_drop, zip_append}

-- ---- arguments that are variables at the same places

abbrev pub SameVariable : ConArg → ConArg → Type 0
SameVariable (Var name) (Var other) = name ≡ other
SameVariable (Value value) (Value other) = ⊤
SameVariable one other = ⊥

-- lists that go together do so in what is compared
pub compared_zip : (Both : ConArg → ConArg → Type 0) (kind : Kind) (ones others : List ConArg) → AllZip Both ones others → AllZip Both (compared kind ones) (compared kind others)
compared_zip Both MulEq ones others zip =
    zip_append Both (take 1 ones) (take 1 others) (take 1 (drop 2 ones)) (take 1 (drop 2 others)) (zip_take Both 1 ones others zip)
    (zip_take Both 1 (drop 2 ones) (drop 2 others) (zip_drop Both 2 ones others zip))
compared_zip Both TestEq ones others zip = zip_take Both 2 (drop 1 ones) (drop 1 others) (zip_drop Both 1 ones others zip)
compared_zip Both TestLeq ones others zip = zip_take Both 2 (drop 1 ones) (drop 1 others) (zip_drop Both 1 ones others zip)
compared_zip Both kind ones others zip = zip

-- the first kind is that of the first variable
pub first_kind_once : (model : Model) (ones others : List ConArg) (one other : Option ValueKind) → AllZip SameVariable ones others → IsFirstKind model ones one → IsFirstKind model others other → one ≡ other
first_kind_once model [] [] one other zip is too = is ∙ sym too
first_kind_once model (Var name ∷ ones) (Var name' ∷ others) one other zip (kind, (of, is)) (kind', (of', is')) =
    let kinds : kind ≡ kind' = kind_once model name kind kind' of (subst (IsVariableOfKind model kind') (sym zip.0) of') in
    is ∙ (ap Some kinds ∙ sym is')
first_kind_once model (Value value ∷ ones) (Value number ∷ others) one other zip is too = first_kind_once model ones others one other zip.1 is too
first_kind_once model (Var name ∷ ones) (Value number ∷ others) one other zip is too = absurd zip.0
first_kind_once model (Value value ∷ ones) (Var name ∷ others) one other zip is too = absurd zip.0
first_kind_once model [] (argument ∷ others) one other zip is too = absurd zip
first_kind_once model (argument ∷ ones) [] one other zip is too = absurd zip

pub first_kind_moves : (model : Model) (ones others : List ConArg) (found : Option ValueKind) → AllZip SameVariable ones others → IsFirstKind model ones found → IsFirstKind model others found
first_kind_moves model [] [] found zip is = is
first_kind_moves model (Var name ∷ ones) (Var name' ∷ others) found zip (kind, (of, is)) = (kind, (subst (IsVariableOfKind model kind) zip.0 of, is))
first_kind_moves model (Value value ∷ ones) (Value number ∷ others) found zip is = first_kind_moves model ones others found zip.1 is
first_kind_moves model (Var name ∷ ones) (Value number ∷ others) found zip is = absurd zip.0
first_kind_moves model (Value value ∷ ones) (Var name ∷ others) found zip is = absurd zip.0
first_kind_moves model [] (argument ∷ others) found zip is = absurd zip
first_kind_moves model (argument ∷ ones) [] found zip is = absurd zip

-- ---- the kind that is found

-- of two lists one after the other, the first has it or the second
pub first_kind_front : (model : Model) (ones others : List ConArg) (found : Option ValueKind) (kind : ValueKind) → found ≡ Some kind → IsFirstKind model ones found → IsFirstKind model (ones ++ others) found
first_kind_front model [] others found kind some is = let both : Some kind ≡ None = sym some ∙ is in absurd cc
first_kind_front model (Var name ∷ ones) others found kind some is = is
first_kind_front model (Value value ∷ ones) others found kind some is = first_kind_front model ones others found kind some is

pub first_kind_back : (model : Model) (ones others : List ConArg) (found : Option ValueKind) → IsFirstKind model ones None → IsFirstKind model others found → IsFirstKind model (ones ++ others) found
first_kind_back model [] others found none is = is
first_kind_back model (Var name ∷ ones) others found (kind, (of, none)) is = let both : None ≡ Some kind = none in absurd cc
first_kind_back model (Value value ∷ ones) others found none is = first_kind_back model ones others found none is

module _ (model : Model) where
  -- in a loop over arguments: the first variable
  pub first_found : (arguments : List ConArg) (place : ℕ) (item : ConArg) (name : VarName) (kind : ValueKind) → place < length arguments → item ≡ get_or arguments place item → item ≡ Var name
      → IsVariableOfKind model kind name → IsFirstKind model (take place arguments) None → IsFirstKind model arguments (Some kind)
  first_found [] place item name kind within at is of none = absurd (omega (arith, within))
  first_found (argument ∷ arguments) zero item name kind within at is of none =
      let same : Var name ≡ argument = sym is ∙ at in
      subst (λ (a : ConArg). IsFirstKind model (a ∷ arguments) (Some kind)) same (kind, (of, refl))
  first_found (Var other ∷ arguments) (suc place) item name kind within at is of (found, (of_other, none)) = let both : None ≡ Some found = none in absurd cc
  first_found (Value value ∷ arguments) (suc place) item name kind within at is of none = first_found arguments place item name kind (omega (arith, within)) at is of none

  -- and a value more
  pub none_found : (arguments : List ConArg) (place : ℕ) (item : ConArg) (value : ℤ) → place < length arguments → item ≡ get_or arguments place item → item ≡ Value value
      → IsFirstKind model (take place arguments) None → IsFirstKind model (take (place + 1) arguments) None
  none_found arguments place item value within at is none =
      let next : take (place + 1) arguments ≡ take place arguments ++ item ∷ [] = take_more arguments place item within ∙ ap (λ (a : ConArg). take place arguments ++ a ∷ []) (sym at) in
      subst (λ (list : List ConArg). IsFirstKind model list None) (sym next)
      (subst (λ (a : ConArg). IsFirstKind model (take place arguments ++ a ∷ []) None) (sym is) (first_kind_back model (take place arguments) (Value value ∷ []) None none refl))

  pub none_at_all : (arguments : List ConArg) (place : ℕ) → length arguments ≤ place → IsFirstKind model (take place arguments) None → IsFirstKind model arguments None
  none_at_all arguments place long = subst (λ (list : List ConArg). IsFirstKind model list None) (take_all place arguments long)

  -- of a product's arguments, the first is looked at and then the third
  pub product_first : (arguments front : List ConArg) (found : Option ValueKind) (kind : ValueKind) → front ≡ take 1 (drop 0 arguments) → found ≡ Some kind → IsFirstKind model front found
      → IsFirstKind model (compared MulEq arguments) (Some kind)
  product_first arguments front found kind same some is =
      subst (IsFirstKind model (compared MulEq arguments)) some
      (first_kind_front model (take 1 arguments) (take 1 (drop 2 arguments)) found kind some (subst (λ (list : List ConArg). IsFirstKind model list found) same is))

  pub product_third : (arguments front back : List ConArg) (nothing found : Option ValueKind) → front ≡ take 1 (drop 0 arguments) → back ≡ take 1 (drop 2 arguments) → nothing ≡ None → IsFirstKind model front nothing
      → IsFirstKind model back found → IsFirstKind model (compared MulEq arguments) found
  product_third arguments front back nothing found same same_back is_none first is =
      first_kind_back model (take 1 arguments) (take 1 (drop 2 arguments)) found
      (subst (λ (list : List ConArg). IsFirstKind model list None) same (subst (IsFirstKind model front) is_none first))
      (subst (λ (list : List ConArg). IsFirstKind model list found) same_back is)

-- ---- arguments once

module _ (model : Model) (lawful : IsLawful model) where
  pub variable_said_once : (word : List ℕ) (one other : VarName) → SaysVariable model one word → SaysVariable model other word → one ≡ other
  variable_said_once word one other (text, (spells, names)) (text', (spells', names')) =
      let same : text ≡ text' = spells_one_name word text text' spells spells' in
      names_one_variable model text one other lawful names (subst (λ (t : NameText). NamesVariable model t other) (sym same) names')

  value_in_once : (kind : Option ValueKind) (word : List ℕ) (one other : ℤ) → SaysValueIn model kind one word → SaysValueIn model kind other word → one ≡ other
  value_in_once (Some kind) word one other says too = value_said_once model kind word one other lawful says too
  value_in_once None word one other says too = says ∙ sym too

  argument_said_once : (kind : Option ValueKind) (word : List ℕ) (one other : ConArg) → SaysArgument model kind word one → SaysArgument model kind word other → one ≡ other
  argument_said_once kind word (Var one) (Var other) says too = ap Var (variable_said_once word one other says too)
  argument_said_once kind word (Value one) (Value other) says too = ap Value (value_in_once kind word one other says.1 too.1)
  argument_said_once kind word (Var one) (Value other) says too = absurd (too.0 one says)
  argument_said_once kind word (Value one) (Var other) says too = absurd (says.0 other too)

  same_variable : (kind another : Option ValueKind) (word : List ℕ) (one other : ConArg) → SaysArgument model kind word one → SaysArgument model another word other → SameVariable one other
  same_variable kind another word (Var one) (Var other) says too = variable_said_once word one other says too
  same_variable kind another word (Value one) (Value other) says too = tt
  same_variable kind another word (Var one) (Value other) says too = absurd (too.0 one says)
  same_variable kind another word (Value one) (Var other) says too = absurd (says.0 other too)

  named_variable : (kind : Option ValueKind) (word : List ℕ) (named said : ConArg) → NamesArgument model word named → SaysArgument model kind word said → SameVariable named said
  named_variable kind word (Var one) (Var other) names says = variable_said_once word one other names says
  named_variable kind word (Value one) (Value other) names says = tt
  named_variable kind word (Var one) (Value other) names says = absurd (says.0 one names)
  named_variable kind word (Value one) (Var other) names says = absurd (names.0 other says)

  module _ (kind : Kind) (words : List (List ℕ)) where
    abbrev Say : Option ValueKind → List ConArg → Type 0
    Say among given = AllPlaced (λ place. SaysArgument model (kind_at kind among place)) 0 words given

    -- where the words say these arguments, the kinds are those of what the words name
    among_once : (one other : List ConArg) (among another : Option ValueKind) → AllZip SameVariable one other → IsFirstKind model (compared kind one) among → IsFirstKind model (compared kind other) another
        → among ≡ another
    among_once one other among another same is too =
        first_kind_once model (compared kind one) (compared kind other) among another (compared_zip SameVariable kind one other same) is too

    -- words say one list of arguments at most
    pub said_once : (one other : List ConArg) → SayArguments model kind words one → SayArguments model kind words other → one ≡ other
    said_once one other say too =
        let same = placed_zip (λ place. SaysArgument model (kind_at kind say.among place)) (λ place. SaysArgument model (kind_at kind too.among place)) SameVariable
        (λ place word a b says says'. same_variable (kind_at kind say.among place) (kind_at kind too.among place) word a b says says') 0 words one other say.say too.say in
        let kinds = among_once one other say.among too.among same say.is_among too.is_among in
        zip_same one other (placed_zip (λ place. SaysArgument model (kind_at kind say.among place)) (λ place. SaysArgument model (kind_at kind say.among place)) ◌≡◌
        (λ place word a b says says'. argument_said_once (kind_at kind say.among place) word a b says says') 0 words one other say.say
        (subst (λ (among : Option ValueKind). Say among other) (sym kinds) too.say))

    -- ---- what is answered

    module _ (named : List ConArg) (among : Option ValueKind) (names : AllZip (NamesArgument model) words named) (is_among : IsFirstKind model (compared kind named) among) where
      same_as_named : (another : Option ValueKind) (asked : List ConArg) → Say another asked → AllZip SameVariable named asked
      same_as_named another asked say =
          placed_zip (λ (place : ℕ). NamesArgument model) (λ place. SaysArgument model (kind_at kind another place)) SameVariable
          (λ place word a b names' says. named_variable (kind_at kind another place) word a b names' says) 0 words named asked
          (placed_of_zip (NamesArgument model) 0 words named names) say

      pub asked_found : (answer : Option (List ConArg)) → AnswersArguments model kind among words answer → FindsArguments model kind words answer
      asked_found (Some given) (asked, (say, stand)) = (
        asked,
        (
          record {
            among = among;
            is_among = first_kind_moves model (compared kind named) (compared kind asked) among (compared_zip SameVariable kind named asked (same_as_named among asked say)) is_among;
            say = say;
          },
          stand,
        ),
      )
      asked_found None none = λ asked say.
          let kinds = among_once named asked among say.among (same_as_named say.among asked say.say) is_among say.is_among in
          none asked (subst (λ (k : Option ValueKind). Say k asked) (sym kinds) say.say)

-- ---- one word after another

module _ (model : Model) where
  -- where the name that is spelled names no variable, the word says none
  pub no_variable_said : (word bytes : List ℕ) (text : NameText) → bytes ≡ word → Spells bytes text → ((name : VarName) → NamesVariable model text name → ⊥) → SaysNoVariable model word
  no_variable_said word bytes text same spells none name (other, (spells_other, names)) =
      let one : other ≡ text = spells_one_name word other text spells_other (subst (λ (w : List ℕ). Spells w text) same spells) in
      none name (subst (λ (t : NameText). NamesVariable model t name) one names)

  named_one_lawful : (there : NamesWhatThereIs) (word : List ℕ) (argument : ConArg) → NamesArgument model word argument → IsLawfulArgument model argument
  named_one_lawful there word (Var name) (text, (spells, names)) = there model text name names
  named_one_lawful there word (Value value) (none, is) = (omega (arith, ints, is), omega (arith, ints, is))

  -- what words name are arguments that the model has
  pub named_lawful : (there : NamesWhatThereIs) (words : List (List ℕ)) (named : List ConArg) → AllZip (NamesArgument model) words named → All (IsLawfulArgument model) named
  named_lawful there [] [] names = All-nil (IsLawfulArgument model)
  named_lawful there (word ∷ words) (argument ∷ named) names =
      All-cons (IsLawfulArgument model) argument named (named_one_lawful there word argument names.0) (named_lawful there words named names.1)
  named_lawful there [] (argument ∷ named) names = absurd names
  named_lawful there (word ∷ words) [] names = absurd names

  -- the next word with what it names
  pub named_next : (words : List (List ℕ)) (named : List ConArg) (place : ℕ) (word : List ℕ) (argument : ConArg) → place < length words → get_or words place word ≡ word → NamesArgument model word argument
      → AllZip (NamesArgument model) (take place words) named → AllZip (NamesArgument model) (take (place + 1) words) (named ++ argument ∷ [])
  named_next words named place word argument within is names before =
      let next : take (place + 1) words ≡ take place words ++ word ∷ [] = take_more words place word within ∙ ap (λ (w : List ℕ). take place words ++ w ∷ []) is in
      subst (λ (ws : List (List ℕ)). AllZip (NamesArgument model) ws (named ++ argument ∷ [])) (sym next) (zip_more (NamesArgument model) (take place words) named word argument before names)

  pub all_named : (words : List (List ℕ)) (named : List ConArg) (place : ℕ) → length words ≤ place → AllZip (NamesArgument model) (take place words) named → AllZip (NamesArgument model) words named
  all_named words named place long = subst (λ (ws : List (List ℕ)). AllZip (NamesArgument model) ws named) (take_all place words long)

  -- what stands at the place of a word is what the word names
  pub named_at : (words : List (List ℕ)) (named : List ConArg) (place : ℕ) (word : List ℕ) (argument : ConArg) → AllZip (NamesArgument model) words named → place < length words → get_or words place word ≡ word
      → slice_get named place ≡ Some argument → NamesArgument model word argument
  named_at words named place word argument names within is at = zip_at (NamesArgument model) words named place word argument names within is (get_or_from_slice_get named place argument argument at)

  -- what is said by a word of which it is known what it names
  pub variable_answers : (kind : Option ValueKind) (word : List ℕ) (named : ConArg) (name copied : VarName) → named ≡ Var name → copied ≡ name → NamesArgument model word named
      → (asked : ConArg) × (SaysArgument model kind word asked × StandsForArgument (Var copied) asked)
  variable_answers kind word named name copied is same names = (Var name, (subst (NamesArgument model word) is names, same))

  pub value_answers : (kind : Option ValueKind) (word : List ℕ) (named : ConArg) (zero_value value kept : ℤ) → named ≡ Value zero_value → kept ≡ value → NamesArgument model word named
      → (said : ℤ) × (SaysValueIn model kind said word × StandsFor value said) → (asked : ConArg) × (SaysArgument model kind word asked × StandsForArgument (Value kept) asked)
  value_answers kind word named zero_value value kept is same names (said, (says, stands)) =
      let here : NamesArgument model word (Value zero_value) = subst (NamesArgument model word) is names in
      (Value said, ((here.0, says), subst (λ (v : ℤ). StandsFor v said) (sym same) stands))

  pub no_answer : (kind : Option ValueKind) (word : List ℕ) (named : ConArg) (zero_value : ℤ) → named ≡ Value zero_value → NamesArgument model word named → ((value : ℤ) → SaysValueIn model kind value word → ⊥)
      → (asked : ConArg) → SaysArgument model kind word asked → ⊥
  no_answer kind word named zero_value is names nothing (Var name) says = let here : NamesArgument model word (Value zero_value) = subst (NamesArgument model word) is names in here.0 name says
  no_answer kind word named zero_value is names nothing (Value value) says = nothing value says.1

  module _ (kind : Kind) (among : Option ValueKind) (words : List (List ℕ)) where
    -- so far the words say arguments for which the given ones stand
    abbrev pub AnswersFront : ℕ → List ConArg → Type 0
    AnswersFront place given =
        (asked : List ConArg) × (AllPlaced (λ n. SaysArgument model (kind_at kind among n)) 0 (take place words) asked × StandForArguments given asked)

    pub none_answered : AnswersFront 0 []
    none_answered = ([], (tt, tt))

    pub answered_next : (given : List ConArg) (place : ℕ) (word : List ℕ) (argument : ConArg) → place < length words → get_or words place word ≡ word
        → (asked : ConArg) × (SaysArgument model (kind_at kind among place) word asked × StandsForArgument argument asked)
        → AnswersFront place given → AnswersFront (place + 1) (given ++ argument ∷ [])
    answered_next given place word argument within is (one, (says, stands)) (asked, (say, stand)) =
        let next : take (place + 1) words ≡ take place words ++ word ∷ [] = take_more words place word within ∙ ap (λ (w : List ℕ). take place words ++ w ∷ []) is in
        let long : length (take place words) ≡ place = omega (arith, length-take place words, within) in (
          asked ++ one ∷ [],
          (
            subst (λ (ws : List (List ℕ)). AllPlaced (λ n. SaysArgument model (kind_at kind among n)) 0 ws (asked ++ one ∷ [])) (sym next)
                (placed_push (λ n. SaysArgument model (kind_at kind among n)) 0 (take place words) asked word one say
                (subst (λ (n : ℕ). SaysArgument model (kind_at kind among n) word one) (omega (arith, long)) says)),
            zip_more StandsForArgument given asked argument one stand stands,
          ),
        )

    pub all_answered : (given : List ConArg) (place : ℕ) → length words ≤ place → AnswersFront place given
        → (asked : List ConArg) × (AllPlaced (λ n. SaysArgument model (kind_at kind among n)) 0 words asked × StandForArguments given asked)
    all_answered given place long (asked, (say, stand)) =
        (asked, (subst (λ (ws : List (List ℕ)). AllPlaced (λ n. SaysArgument model (kind_at kind among n)) 0 ws asked) (take_all place words long) say, stand))

    -- the word at a place of the list over which the loop goes
    pub word_within : (items : List (List ℕ)) (place : ℕ) → items ≡ words → place < length items → place < length words
    word_within items place same within = subst (λ (ws : List (List ℕ)). place < length ws) same within

    pub word_at : (items : List (List ℕ)) (place : ℕ) (word : List ℕ) → items ≡ words → word ≡ get_or items place word → get_or words place word ≡ word
    word_at items place word same is = sym (subst (λ (ws : List (List ℕ)). word ≡ get_or ws place word) same is)

    -- what was answered, where there is something and where there is nothing
    pub none_of : (read : Option ValueKind) (place : ℕ) (word : List ℕ) (found : Option ConArg) → read ≡ kind_at kind among place → found ≡ None → AnswersArgument model read word found
        → (asked : ConArg) → SaysArgument model (kind_at kind among place) word asked → ⊥
    none_of read place word found same is answers =
        subst (λ (k : Option ValueKind). (asked : ConArg) → SaysArgument model k word asked → ⊥) same (subst (AnswersArgument model read word) is answers)

    pub some_of : (read : Option ValueKind) (place : ℕ) (word : List ℕ) (found : Option ConArg) (given : ConArg) → read ≡ kind_at kind among place → found ≡ Some given → AnswersArgument model read word found
        → (asked : ConArg) × (SaysArgument model (kind_at kind among place) word asked × StandsForArgument given asked)
    some_of read place word found given same is answers =
        subst (λ (k : Option ValueKind). (asked : ConArg) × (SaysArgument model k word asked × StandsForArgument given asked)) same (subst (AnswersArgument model read word) is answers)

    -- one word that says no argument is enough
    pub none_said_there : (place : ℕ) (word : List ℕ) → place < length words → get_or words place word ≡ word
        → ((asked : ConArg) → SaysArgument model (kind_at kind among place) word asked → ⊥)
        → (asked : List ConArg) → AllPlaced (λ n. SaysArgument model (kind_at kind among n)) 0 words asked → ⊥
    none_said_there place word within is none asked say =
        let found = placed_at (λ n. SaysArgument model (kind_at kind among n)) 0 words asked place word say within is in
        none found.0 (subst (λ (n : ℕ). SaysArgument model (kind_at kind among n) word found.0) (omega arith) found.1)

-- all together
pub answers_found : {E : Type 0} (model : Model) (lawful : IsLawful model) (kind : Kind) (among : Option ValueKind) (words : List (List ℕ)) (named : List ConArg) (answer : Result (Option (List ConArg)) E)
    → AllZip (NamesArgument model) words named → IsFirstKind model (compared kind named) among → IfOk answer (AnswersArguments model kind among words) → IfOk answer (FindsArguments model kind words)
answers_found model lawful kind among words named (Ok answer) names is_among answers = asked_found model lawful kind words named among names is_among answer answers
answers_found model lawful kind among words named (Err fault) names is_among answers = tt
