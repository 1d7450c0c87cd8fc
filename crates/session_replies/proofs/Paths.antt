-- What names with points between them are, and the names of members and objects.
use Rattle.std.proofs.Common.{◌≡◌, ℕ, ◌<◌, true, false, ℤ, List, [], ◌∷◌, length, refl, sym, ap, ◌∙◌, subst, IsTrue, All, arith}
use Rattle.std.specs.List.{AllByRecursion, slice_split, join_with_byte}
use Rattle.std.proofs.lemmas.Bool.Decides.{nat_tests}
use Rattle.std.proofs.lemmas.List.Elements.{All-from_recursion, recursion_from_All}
use Rattle.std.proofs.lemmas.List.Splits.{slice_split_none, slice_split_at}
use Rattle.eu_name.specs.Word.{IsName, is_word_start, is_word_byte}
use Rattle.model_core.specs.declared.model.Model.{Model}
use Rattle.model_core.specs.declared.variable.ValueKind.TheVariants as kinds
use Rattle.model_core.specs.Lawful.{IsLawful, IsLawfulEnum, IsLawfulObject}
use Rattle.model_core.specs.Naming.{IsObjectName, is_point, IsPath}
use Rattle.model_core.proofs.Items.{item_all}
use Rattle.plan_text.specs.Values.{IsValueText}

-- ---- paths

word_no_point : (byte : ℕ) → is_word_byte byte ≡ true → is_point byte ≡ false
word_no_point byte is = grind (arith, nat_tests)

start_no_point : (byte : ℕ) → is_word_start byte ≡ true → is_point byte ≡ false
start_no_point byte is = grind (arith, nat_tests)

rest_no_point : (rest : List ℕ) → AllByRecursion (λ byte. IsTrue (is_word_byte byte)) rest → AllByRecursion (λ byte. is_point byte ≡ false) rest
rest_no_point [] are = tt
rest_no_point (byte ∷ rest) are = (word_no_point byte are.0, rest_no_point rest are.1)

pub name_without : (name : List ℕ) → IsName name → AllByRecursion (λ byte. is_point byte ≡ false) name
name_without [] is = absurd is.0
name_without (first ∷ rest) is = (start_no_point first is.0.0, rest_no_point rest (recursion_from_All (λ byte. IsTrue (is_word_byte byte)) rest is.0.1))

pub name_no_point : (name : List ℕ) → IsName name → All (λ byte. is_point byte ≡ false) name
name_no_point name is = All-from_recursion (λ byte. is_point byte ≡ false) name (name_without name is)

name_path : (name : List ℕ) → IsName name → slice_split is_point name ≡ name ∷ []
name_path name is = slice_split_none is_point name (name_no_point name is)

pub joined_path : (names : List (List ℕ)) → 0 < length names → AllByRecursion IsName names → slice_split is_point (join_with_byte 46 names) ≡ names
joined_path [] some are = absurd (omega arith)
joined_path (name ∷ []) some are = name_path name are.0
joined_path (name ∷ (other ∷ more)) some are =
    slice_split_at is_point name 46 (join_with_byte 46 (other ∷ more)) (name_no_point name are.0) refl ∙ ap (λ (list : List (List ℕ)). name ∷ list) (joined_path (other ∷ more) (omega arith) are.1)

pub object_path : (name : List ℕ) → IsObjectName name → IsPath name
object_path name (names, some, are, is) =
    subst (λ (list : List (List ℕ)). All IsName list) (sym (ap (slice_split is_point) is ∙ joined_path names some (recursion_from_All IsName names are))) are

pub member_path : (name : List ℕ) → IsName name → IsPath name
member_path name is = subst (λ (list : List (List ℕ)). All IsName list) (sym (name_path name is)) (All-from_recursion IsName (name ∷ []) (is, tt))

-- ---- members and objects

pub member_name : (model : Model) (number : ℕ) (value : ℤ) (word : List ℕ) → IsLawful model → IsValueText model (kinds.Enum number) value word → IsName word
member_name model number value word lawful is =
    item_all IsName is.found.members is.place word (item_all IsLawfulEnum model.enums number is.found lawful.enums is.is_enum).members is.is_member

pub object_name : (model : Model) (value : ℤ) (word : List ℕ) → IsLawful model → IsValueText model kinds.Object value word → IsObjectName word
object_name model value word lawful (object, ((place, is_place, is), named)) = subst IsObjectName named (item_all (IsLawfulObject model) model.objects place object lawful.objects is).name
