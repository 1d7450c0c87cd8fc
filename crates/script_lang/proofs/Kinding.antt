-- A word says one value of a kind.
use Rattle.std.proofs.Common.{◌≡◌, ℤ, ℕ, List, Option, Some, None, MatchOption, refl, sym, ◌∙◌, subst, inl}
use Rattle.model_core.specs.declared.model.Model.{Model}
use Rattle.model_core.specs.declared.variable.ValueKind.{ValueKind}
use Rattle.model_core.specs.declared.variable.ValueKind.TheVariants as kinds
use Rattle.model_core.specs.Kinds.{IsNumeric}
use Rattle.model_core.specs.Lawful.{IsLawful}
use Rattle.plan_text.specs.Values.{IsValueText}
use Rattle.plan_resolve.proofs.Telling.{value_told}
use Rattle.script_lang.specs.Number.{IsSignedNumber, signed_value, SaysThousandths}
use Rattle.script_lang.specs.Naming.{SaysValue, StandsFor}
use Rattle.script_lang.proofs.Decimals.{thousandths_once}

pub value_said_once : (model : Model) (kind : ValueKind) (word : List ℕ) (one other : ℤ) → IsLawful model → SaysValue model kind one word → SaysValue model kind other word → one ≡ other
value_said_once model kinds.Int word one other lawful says says' = says.1 ∙ sym says'.1
value_said_once model kinds.Float word one other lawful says says' = thousandths_once word one other says says'
value_said_once model kinds.Bool word one other lawful says says' = value_told model kinds.Bool word one other lawful says says'
value_said_once model (kinds.Enum number) word one other lawful says says' = value_told model (kinds.Enum number) word one other lawful says says'
value_said_once model kinds.Object word one other lawful says says' = value_told model kinds.Object word one other lawful says says'

-- of what isn't a number a word says what is written
text_says : (model : Model) (kind : ValueKind) (value : ℤ) (word : List ℕ) → (IsNumeric kind → ⊥) → IsValueText model kind value word → SaysValue model kind value word
text_says model kinds.Int value word other text = absurd (other tt)
text_says model kinds.Float value word other text = absurd (other tt)
text_says model kinds.Bool value word other text = text
text_says model (kinds.Enum number) value word other text = text
text_says model kinds.Object value word other text = text

says_text : (model : Model) (kind : ValueKind) (value : ℤ) (word : List ℕ) → (IsNumeric kind → ⊥) → SaysValue model kind value word → IsValueText model kind value word
says_text model kinds.Int value word other says = absurd (other tt)
says_text model kinds.Float value word other says = absurd (other tt)
says_text model kinds.Bool value word other says = says
says_text model (kinds.Enum number) value word other says = says
says_text model kinds.Object value word other says = says

-- what is answered of a word
abbrev pub AnswersSaid : Model → ValueKind → List ℕ → Option ℤ → Type 0
AnswersSaid model kind word answer =
    MatchOption answer ((value : ℤ) → SaysValue model kind value word → ⊥) (λ value. (said : ℤ) × (SaysValue model kind said word × StandsFor value said))

pub text_said : (model : Model) (kind : ValueKind) (word : List ℕ) (answer : Option ℤ) → (IsNumeric kind → ⊥)
    → MatchOption answer ((value : ℤ) → IsValueText model kind value word → ⊥) (λ value. IsValueText model kind value word) → AnswersSaid model kind word answer
text_said model kind word None other none = λ value says. none value (says_text model kind value word other says)
text_said model kind word (Some value) other text = (value, (text_says model kind value word other text, inl refl))

pub int_said : (model : Model) (kind : ValueKind) (word : List ℕ) (answer : Option ℤ) → kind ≡ kinds.Int
    → MatchOption answer (IsSignedNumber word → ⊥) (λ value. IsSignedNumber word × StandsFor value (signed_value word)) → AnswersSaid model kind word answer
int_said model kind word answer is said = subst (λ (k : ValueKind). AnswersSaid model k word answer) (sym is) (by answer said)
  where
    by : (answer : Option ℤ) → MatchOption answer (IsSignedNumber word → ⊥) (λ value. IsSignedNumber word × StandsFor value (signed_value word)) → AnswersSaid model kinds.Int word answer
    by None none = λ value says. none says.0
    by (Some value) (number, stands) = (signed_value word, ((number, refl), stands))

pub thousandths_told : (model : Model) (kind : ValueKind) (word : List ℕ) (answer : Option ℤ) → kind ≡ kinds.Float
    → MatchOption answer ((value : ℤ) → SaysThousandths value word → ⊥) (λ value. (said : ℤ) × (SaysThousandths said word × StandsFor value said)) → AnswersSaid model kind word answer
thousandths_told model kind word answer is said = subst (λ (k : ValueKind). AnswersSaid model k word answer) (sym is) said
