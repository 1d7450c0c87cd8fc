-- What words say of values.
use Rattle.std.proofs.Common.{◌≡◌, ℕ, suc, ◌/◌, ◌%◌, ◌<◌, ◌≤◌, ◌^◌, ◌↔◌, Bool, true, false, List, [], ◌∷◌, ◌++◌, length, slice_get, ℤ, pos, negsuc, Option, Some, None, Result, Ok, All, IsTrue, FitsSigned, w32, true≢false, refl, sym, ◌∙◌, ap, subst, arith}
use Rattle.std.specs.Prelude.{MatchOption, IfSome, ◌≤ℤ◌}
use Rattle.std.specs.Fmt.{decimal, signed_decimal}
use Rattle.std.specs.List.{AllByRecursion}
use Rattle.std.specs.Str.{IsUtf8, IsAscii}
use Rattle.std.specs.Str.Parse.{ParsesSigned}
use Rattle.std.proofs.lemmas.Bool.Decides.{nat_tests}
use Rattle.std.proofs.lemmas.Fmt.{parse-signed_decimal, IsAscii-signed, signed_decimal_injective}
use Rattle.std.proofs.lemmas.Int.{ints}
use Rattle.std.proofs.lemmas.List.Elements.{recursion_from_All}
use Rattle.std.proofs.lemmas.Str.{IsUtf8-from_ascii}
use Rattle.domain_core.specs.Domain.{IsValue}
use Rattle.eu_name.proofs.Fronts.{Passes}
use Rattle.eu_name.specs.Word.{IsName, is_word_start, is_word_byte}
use Rattle.model_core.specs.declared.class.Enum.{Enum}
use Rattle.model_core.specs.declared.class.Object.{Object}
use Rattle.model_core.specs.declared.model.Model.{Model}
use Rattle.model_core.specs.declared.variable.ValueKind.{ValueKind}
use Rattle.model_core.specs.declared.variable.ValueKind.TheVariants as kinds
use Rattle.model_core.specs.Lawful.{IsLawful, IsLawfulEnum}
use Rattle.model_core.proofs.Items.{item_within, item_all}
use Rattle.model_core.specs.Naming.{is_point}
use Rattle.plan_text.proofs.Points.{goes_on}
use Rattle.plan_text.specs.Subjects.{AreTwoNames}
use Rattle.plan_text.specs.Values.{three_digits, thousandths_text, decimal_text, IsValueText}
use Rattle.plan_text.proofs.Decimals.{cut_same, no_cut, thousandths_cut, thousandths_point, thousandths_injective, thousandths_no_sign, three_same, same_three}
use lib.Signed.{mag}

-- ---- numbers

pub value_fits : (value : ℤ) → IsValue value → FitsSigned w32 value
value_fits (pos n) is = record { sfits = omega (arith, ints) }
value_fits (negsuc n) is = record { sfits = omega (arith, ints) }

pub value_small : (value : ℤ) → IsValue value → mag value < 2 ^ 63
value_small (pos n) is = omega (arith, ints, is)
value_small (negsuc n) is = omega (arith, ints, is)

-- what is parsed of a number's text is the number
pub parsed_is : {E : Type 0} (value : ℤ) (word text : List ℕ) (r : Result ℤ E) → IsValue value → word ≡ signed_decimal value → text ≡ word → ParsesSigned w32 10 text r → r ≡ Ok value
parsed_is value word text r is same kept parses = parse-signed_decimal w32 value text r (value_fits value is) (value_small value is) (kept ∙ same) parses

-- and it is text
pub number_is_text : (value : ℤ) (word : List ℕ) → IsValue value → word ≡ signed_decimal value → IsUtf8 word
number_is_text value word is same = IsUtf8-from_ascii word (subst IsAscii (sym same) (IsAscii-signed value (value_small value is)))

-- ---- decimals

whole_value : (n : ℕ) → n ≤ 1000000 → IsValue (pos (n / 1000))
whole_value n small = (omega (arith, ints), omega (arith, ints))

-- what a word says of thousandths
abbrev pub SaysThousandths : List ℕ → Option ℤ → Type 0
SaysThousandths word r =
    MatchOption r ((n : ℕ) → n ≤ 1000000 → word ≡ thousandths_text n → ⊥) (λ value. (n : ℕ) × ((value ≡ pos n) × (n ≤ 1000000) × (word ≡ thousandths_text n)))

abbrev IsCut : List ℕ → List ℕ → List ℕ → Type 0
IsCut word one other = All (λ byte. is_point byte ≡ false) one × (word ≡ one ++ (46 ∷ other))

pub thousandths_said : (word one other : List ℕ) (whole passed : ℤ) (rest : ℕ) (r : Option ℤ) → passed ≡ whole → IsCut word one other → IsValue whole × (one ≡ signed_decimal whole) → (rest < 1000) × (other ≡ three_digits rest)
    → MatchOption r ((n : ℕ) → n ≤ 1000000 → passed ≡ pos (n / 1000) → rest ≡ n % 1000 → ⊥)
    (λ value. (n : ℕ) × ((value ≡ pos n) × (n ≤ 1000000) × (passed ≡ pos (n / 1000)) × (rest ≡ n % 1000)))
    → SaysThousandths word r
thousandths_said word one other whole passed rest None kept cut is digits none = λ n small same.
    let parts = thousandths_cut word one other n (omega arith) cut same in
    let wholes : whole ≡ pos (n / 1000) = signed_decimal_injective whole (pos (n / 1000)) (value_small whole is.0) (value_small (pos (n / 1000)) (whole_value n small)) (sym is.1 ∙ parts.0) in
    let rests : rest % 1000 ≡ n % 1000 = three_same rest n (sym digits.1 ∙ parts.1) in
    none n small (kept ∙ wholes) (omega (arith, rests, digits.0))
thousandths_said word one other whole passed rest (Some value) kept cut is digits (n, (counts, small, wholes, rests)) =
    let front : one ≡ decimal (n / 1000) = is.1 ∙ ap signed_decimal (sym kept ∙ wholes) in
    let back : other ≡ three_digits n = digits.1 ∙ same_three rest n (omega (arith, rests, digits.0)) in
    (n, (counts, small, cut.1 ∙ λ i. front i ++ (46 ∷ back i)))

pub no_point_said : (word : List ℕ) → All (λ byte. is_point byte ≡ false) word → (n : ℕ) → n ≤ 1000000 → word ≡ thousandths_text n → ⊥
no_point_said word plain n small same = thousandths_point word n plain same

pub no_whole_said : (word one other : List ℕ) → IsCut word one other → ((value : ℤ) → IsValue value → one ≡ signed_decimal value → ⊥) → (n : ℕ) → n ≤ 1000000 → word ≡ thousandths_text n → ⊥
no_whole_said word one other cut none n small same = none (pos (n / 1000)) (whole_value n small) (thousandths_cut word one other n (omega arith) cut same).0

pub no_digits_said : (word one other : List ℕ) → IsCut word one other → ((n : ℕ) → other ≡ three_digits n → ⊥) → (n : ℕ) → n ≤ 1000000 → word ≡ thousandths_text n → ⊥
no_digits_said word one other cut none n small same = none n (thousandths_cut word one other n (omega arith) cut same).1

-- ---- with a sign

-- what a word says of a decimal
abbrev pub SaysDecimal : List ℕ → Option ℤ → Type 0
SaysDecimal word r = MatchOption r ((value : ℤ) → IsValue value → word ≡ decimal_text value → ⊥) (λ value. IsValue value × (word ≡ decimal_text value))

-- a text behind a sign is that of a negative value
signed_text : (word digits : List ℕ) (value : ℤ) → IsValue value → word ≡ 45 ∷ digits → word ≡ decimal_text value → (n : ℕ) × ((value ≡ negsuc n) × (suc n ≤ 1000000) × (digits ≡ thousandths_text (suc n)))
signed_text word digits (pos n) is behind same = absurd (thousandths_no_sign n digits (omega (arith, ints, is)) (sym same ∙ behind))
signed_text word digits (negsuc n) is behind same =
    let both : 45 ∷ digits ≡ 45 ∷ thousandths_text (suc n) = sym behind ∙ same in
    let rests : digits ≡ thousandths_text (suc n) = cc in
    (n, (refl, omega (arith, ints, is), rests))

pub no_negative_said : (word digits : List ℕ) (value : ℤ) → word ≡ 45 ∷ digits → value ≤ℤ pos 0 → (n : ℕ) × ((value ≡ pos n) × (n ≤ 1000000) × (digits ≡ thousandths_text n)) → (other : ℤ) → IsValue other → word ≡ decimal_text other → ⊥
no_negative_said word digits value behind least (m, (counts, small, same)) other is text =
    let negative = signed_text word digits other is behind text in
    let counted : m ≡ suc negative.0 = thousandths_injective m (suc negative.0) (omega arith) (omega (arith, negative.1.1)) (sym same ∙ negative.1.2) in
    absurd (omega (arith, ints, least, counts, counted))

pub none_negative_said : (word digits : List ℕ) → word ≡ 45 ∷ digits → ((n : ℕ) → n ≤ 1000000 → digits ≡ thousandths_text n → ⊥) → (other : ℤ) → IsValue other → word ≡ decimal_text other → ⊥
none_negative_said word digits behind none other is text =
    let negative = signed_text word digits other is behind text in
    none (suc negative.0) negative.1.1 negative.1.2

-- without a sign
pub positive_said : (word : List ℕ) (r : Option ℤ) → ((rest : List ℕ) → word ≡ 45 ∷ rest → ⊥) → SaysThousandths word r → SaysDecimal word r
positive_said word None plain none = λ value is text. from value is text
  where
    from : (value : ℤ) → IsValue value → word ≡ decimal_text value → ⊥
    from (pos n) is text = none n (omega (arith, ints, is)) text
    from (negsuc n) is text = plain (thousandths_text (suc n)) text
positive_said word (Some value) plain (n, (counts, small, same)) =
    subst (λ v. IsValue v × (word ≡ decimal_text v)) (sym counts) ((omega (arith, ints), omega (arith, ints)), same)

-- ---- names with a point between them

word_no_point : (byte : ℕ) → is_word_byte byte ≡ true → goes_on byte ≡ true
word_no_point byte is = grind (arith, nat_tests)

start_no_point : (byte : ℕ) → is_word_start byte ≡ true → goes_on byte ≡ true
start_no_point byte is = grind (arith, nat_tests)

rest_no_point : (rest : List ℕ) → AllByRecursion (λ byte. IsTrue (is_word_byte byte)) rest → Passes goes_on rest
rest_no_point [] are = tt
rest_no_point (byte ∷ rest) are = (word_no_point byte are.0, rest_no_point rest are.1)

-- a name has no point
pub name_no_point : (name : List ℕ) → IsName name → Passes goes_on name
name_no_point [] is = absurd is.0
name_no_point (first ∷ rest) is = (start_no_point first is.0.0, rest_no_point rest (recursion_from_All (λ byte. IsTrue (is_word_byte byte)) rest is.0.1))

-- there is one way to cut a word at its first point
cut_once : (word class pred one other : List ℕ) → All (λ byte. is_point byte ≡ false) class × (word ≡ class ++ (46 ∷ pred)) → IsName one → word ≡ one ++ (46 ∷ other) → (class ≡ one) × (pred ≡ other)
cut_once word class pred one other cut name same = cut_same word class pred one other cut (name_no_point one name) same

pub two_names_are : (word class pred : List ℕ) (r : Bool) → All (λ byte. is_point byte ≡ false) class × (word ≡ class ++ (46 ∷ pred)) → IsTrue true ↔ IsName class → IsTrue r ↔ IsName pred → IsTrue r ↔ AreTwoNames word
two_names_are word class pred r cut first second = (
  λ holds. (class, (pred, (first.0 refl, second.0 holds, cut.1))),
  λ are. second.1 (subst IsName (sym (cut_once word class pred are.0 are.1.0 cut are.1.1.0 are.1.1.2).1) are.1.1.1),
)

pub no_first_name : (word class pred : List ℕ) (r : Bool) → All (λ byte. is_point byte ≡ false) class × (word ≡ class ++ (46 ∷ pred)) → IsTrue r ↔ IsName class → r ≡ false → IsTrue r ↔ AreTwoNames word
no_first_name word class pred r cut first fails = (
  λ holds. absurd (true≢false (sym holds ∙ fails)),
  λ are. first.1 (subst IsName (sym (cut_once word class pred are.0 are.1.0 cut are.1.1.0 are.1.1.2).0) are.1.1.0),
)

pub no_two_names : (word : List ℕ) → All (λ byte. is_point byte ≡ false) word → AreTwoNames word → ⊥
no_two_names word plain (class, (pred, (first, second, whole))) = no_cut word class pred plain whole

-- ---- members and objects

pub member_there : (enums : List Enum) (number : ℕ) (word : List ℕ) (one : Enum) (members : List (List ℕ)) (r : Option ℕ) → slice_get enums number ≡ Some one → members ≡ one.members
    → MatchOption r ((place : ℕ) → slice_get members place ≡ Some word → ⊥) (λ place. slice_get members place ≡ Some word)
    → MatchOption r ((found : Enum) (place : ℕ) → slice_get enums number ≡ Some found → slice_get found.members place ≡ Some word → ⊥)
    (λ place. (found : Enum) × (slice_get enums number ≡ Some found) × (slice_get found.members place ≡ Some word))
member_there enums number word one members None is same none = λ found place is' at.
    let both : Some one ≡ Some found = sym is ∙ is' in
    let enum : one ≡ found = cc in
    none place (subst (λ l. slice_get l place ≡ Some word) (ap (λ (e : Enum). e.members) (sym enum) ∙ sym same) at)
member_there enums number word one members (Some place) is same at = (one, is, subst (λ l. slice_get l place ≡ Some word) same at)

pub few_members : (model : Model) (number : ℕ) (word : List ℕ) (r : Option ℕ) → IsLawful model
    → MatchOption r ((found : Enum) (place : ℕ) → slice_get model.enums number ≡ Some found → slice_get found.members place ≡ Some word → ⊥)
    (λ place. (found : Enum) × (slice_get model.enums number ≡ Some found) × (slice_get found.members place ≡ Some word))
    → IfSome r (λ place. place < 4096)
few_members model number word None lawful none = tt
few_members model number word (Some place) lawful (found, is, at) =
    let few : length found.members ≤ 4096 = (item_all IsLawfulEnum model.enums number found lawful.enums is).few in
    omega (arith, few, item_within found.members place word at)

pub few_objects : (model : Model) (objects : List Object) (word : List ℕ) (r : Option ℕ) → IsLawful model → objects ≡ model.objects
    → MatchOption r ((place : ℕ) (object : Object) → slice_get objects place ≡ Some object → object.name ≡ word → ⊥)
    (λ place. (object : Object) × (slice_get objects place ≡ Some object) × (object.name ≡ word))
    → IfSome r (λ place. place < 4096)
few_objects model objects word None lawful same none = tt
few_objects model objects word (Some place) lawful same (object, is, named) =
    omega (arith, lawful.few_objects, ap length same, item_within objects place object is)

pub member_text : (model : Model) (kind : ValueKind) (number : ℕ) (word : List ℕ) (place : Option ℕ) (r : Option ℤ) → kind ≡ kinds.Enum number
    → MatchOption place ((found : Enum) (place : ℕ) → slice_get model.enums number ≡ Some found → slice_get found.members place ≡ Some word → ⊥)
    (λ place. (found : Enum) × (slice_get model.enums number ≡ Some found) × (slice_get found.members place ≡ Some word))
    → MatchOption place (r ≡ None) (λ place. r ≡ Some (pos place))
    → MatchOption r ((value : ℤ) → IsValueText model kind value word → ⊥) (λ value. IsValueText model kind value word)
member_text model kind number word None r is none gives =
    subst (λ r. MatchOption r ((value : ℤ) → IsValueText model kind value word → ⊥) (λ value. IsValueText model kind value word)) (sym gives)
    (λ value text. let named : IsValueText model (kinds.Enum number) value word = subst (λ k. IsValueText model k value word) is text in none named.found named.place named.is_enum named.is_member)
member_text model kind number word (Some place) r is (found, is_enum, at) gives =
    subst (λ r. MatchOption r ((value : ℤ) → IsValueText model kind value word → ⊥) (λ value. IsValueText model kind value word)) (sym gives)
    (subst (λ k. IsValueText model k (pos place) word) (sym is) (record { found = found; is_enum = is_enum; place = place; is_place = refl; is_member = at }))

pub object_text : (model : Model) (kind : ValueKind) (objects : List Object) (word : List ℕ) (place : Option ℕ) (r : Option ℤ) → kind ≡ kinds.Object → objects ≡ model.objects
    → MatchOption place ((place : ℕ) (object : Object) → slice_get objects place ≡ Some object → object.name ≡ word → ⊥)
    (λ place. (object : Object) × (slice_get objects place ≡ Some object) × (object.name ≡ word))
    → MatchOption place (r ≡ None) (λ place. r ≡ Some (pos place))
    → MatchOption r ((value : ℤ) → IsValueText model kind value word → ⊥) (λ value. IsValueText model kind value word)
object_text model kind objects word None r is same none gives =
    subst (λ r. MatchOption r ((value : ℤ) → IsValueText model kind value word → ⊥) (λ value. IsValueText model kind value word)) (sym gives)
    (λ value text.
    let named : IsValueText model kinds.Object value word = subst (λ k. IsValueText model k value word) is text in
    none named.1.0.0 named.0 (subst (λ l. slice_get l named.1.0.0 ≡ Some named.0) (sym same) named.1.0.2) named.1.1)
object_text model kind objects word (Some place) r is same (object, at, named) gives =
    subst (λ r. MatchOption r ((value : ℤ) → IsValueText model kind value word → ⊥) (λ value. IsValueText model kind value word)) (sym gives)
    (subst (λ k. IsValueText model k (pos place) word) (sym is) (object, ((place, refl, subst (λ l. slice_get l place ≡ Some object) same at), named)))
