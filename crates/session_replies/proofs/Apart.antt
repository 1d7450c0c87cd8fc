-- What is written of a value names no variable.
use Rattle.std.proofs.Common.{◌≡◌, ◌⊎◌, inl, inr, true, false, ℕ, zero, suc, ◌+◌, ◌/◌, ◌<◌, ◌≤◌, ◌^◌, ℤ, pos, negsuc, Some, List, [], ◌∷◌, ◌++◌, length, map, slice_get, refl, sym, ap, ◌∙◌, subst, IsTrue, append_assoc, length-append, codes, arith}
use Rattle.std.specs.Prelude.{◌≢◌, AllPairs, Contains}
use Rattle.std.specs.Char.{is_ascii_digit}
use Rattle.std.specs.Fmt.{decimal, signed_decimal}
use Rattle.std.specs.List.{AllByRecursion, flat_map, join_with_byte, slice_split}
use Rattle.std.proofs.lemmas.Bool.Decides.{nat_tests}
use Rattle.std.proofs.lemmas.Fmt.{digits_decimal, decimal_nonempty}
use Rattle.std.proofs.lemmas.Int.{ints}
use Rattle.std.proofs.lemmas.List.{append-nil, get_or_append_left, get_or-append-add, get_or-map, length-map}
use Rattle.std.proofs.lemmas.List.Elements.{All-nil, All-from_recursion, recursion_from_All, Contains-append_left, Contains-append_right}
use Rattle.std.proofs.lemmas.List.Splits.{slice_split_none, slice_split_at}
use Rattle.domain_core.specs.Domain.{IsValue}
use Rattle.eu_name.specs.declared.name.Step.{Step}
use Rattle.eu_name.specs.declared.name.VarName.{VarName}
use Rattle.eu_name.specs.declared.name.VarName.TheVariants as variables
use Rattle.eu_name.specs.declared.name_text.NameText.{NameText}
use Rattle.eu_name.specs.declared.name_text.Tail.{Tail}
use Rattle.eu_name.specs.declared.name_text.Tail.TheVariants as tails
use Rattle.eu_name.specs.Spelling.{IsStep, IsTail, IsWellFormed, IsNumbered, Spells, step_text, tail_text, ending_text, name_spelling}
use Rattle.eu_name.specs.Word.{IsName, is_word_start}
use Rattle.eu_name.proofs.Fronts.{Passes}
use Rattle.eu_name.proofs.Members.{contains_from_get}
use Rattle.eu_name.proofs.Names.{no_label, spells_one_name}
use Rattle.eu_name.proofs.Numbers.{own}
use Rattle.model_core.specs.declared.model.Model.{Model}
use Rattle.model_core.specs.declared.variable.ValueKind.{ValueKind}
use Rattle.model_core.specs.declared.variable.ValueKind.TheVariants as kinds
use Rattle.model_core.specs.Lawful.{IsLawful}
use Rattle.model_core.specs.Names.{NamesVariable}
use Rattle.model_core.specs.Naming.{is_point, global_names, labels, declared_names, full_name}
use Rattle.model_core.proofs.Distinct.{pairs_front, pairs_back}
use Rattle.plan_text.specs.Values.{IsValueText, three_digits, thousandths_text, decimal_text}
use Rattle.script_lang.specs.Naming.{SaysNoVariable}
use Rattle.session_replies.specs.Reading.{HasOuterObjects}
use Rattle.session_replies.proofs.Paths.{name_without, joined_path, member_name, object_name}

-- ---- numbers

-- a spelling begins as a word does, or with `!`
abbrev BeginsName : List ℕ → Type 0
BeginsName [] = ⊥
BeginsName (byte ∷ rest) = IsTrue (is_word_start byte) ⊎ (byte ≡ 33)

name_begins : (name more : List ℕ) → IsName name → BeginsName (name ++ more)
name_begins [] more is = absurd is.0
name_begins (byte ∷ rest) more is = inl is.0.0

spelling_begins : (word : List ℕ) (text : NameText) → Spells word text → BeginsName word
spelling_begins word text (inl (label, steps, tail), is) = subst BeginsName (sym is) (name_begins text.label (ending_text text.steps text.tail) label)
spelling_begins word text (inr (label, steps, tail), is) =
    subst BeginsName (sym is) (subst (λ (l : List ℕ). BeginsName (l ++ ending_text text.steps text.tail)) (sym label.2) (inr refl))

digit_begins_none : (byte : ℕ) → is_ascii_digit byte ≡ true → IsTrue (is_word_start byte) ⊎ (byte ≡ 33) → ⊥
digit_begins_none byte digit (inl start) = grind (arith, nat_tests)
digit_begins_none byte digit (inr mark) = grind (arith, nat_tests)

digits_begin_none : (digits more : List ℕ) → 0 < length digits → Passes is_ascii_digit digits → BeginsName (digits ++ more) → ⊥
digits_begin_none [] more some are begins = omega (arith, some)
digits_begin_none (byte ∷ digits) more some are begins = digit_begins_none byte are.0 begins

minus_begins_none : (more : List ℕ) → BeginsName (45 ∷ more) → ⊥
minus_begins_none more (inl start) = grind (arith, nat_tests)
minus_begins_none more (inr mark) = omega (arith, mark)

number_begins_none : (value : ℤ) → IsValue value → BeginsName (signed_decimal value) → ⊥
number_begins_none (pos n) is begins =
    let small : n < 2 ^ 64 = omega (arith, ints, is) in
    digits_begin_none (decimal n) [] (decimal_nonempty n small) (digits_decimal own n small) (subst BeginsName (sym (append-nil (decimal n))) begins)
number_begins_none (negsuc n) is begins = minus_begins_none (decimal (suc n)) begins

decimal_begins_none : (value : ℤ) → IsValue value → BeginsName (decimal_text value) → ⊥
decimal_begins_none (pos n) is begins =
    let small : n / 1000 < 2 ^ 64 = omega (arith, ints, is) in
    digits_begin_none (decimal (n / 1000)) (46 ∷ three_digits n) (decimal_nonempty (n / 1000) small) (digits_decimal own (n / 1000) small) begins
decimal_begins_none (negsuc n) is begins = minus_begins_none (thousandths_text (suc n)) begins

-- ---- truths

no_number : (first : ℕ) (rest : List ℕ) → (first ≡ 33 → ⊥) → IsNumbered (first ∷ rest) → ⊥
no_number first rest other (number, small, is) = let head : first ≡ 33 = cc in other head

no_true : (text : NameText) → Spells (codes "true") text → ⊥
no_true text spells = no_label (codes "true") (codes "true") 4 refl refl (no_number 116 (codes "rue") (λ is. omega (arith, is))) (λ is. is.1 (14, omega arith, refl)) text spells

no_false : (text : NameText) → Spells (codes "false") text → ⊥
no_false text spells = no_label (codes "false") (codes "false") 5 refl refl (no_number 102 (codes "alse") (λ is. omega (arith, is))) (λ is. is.1 (15, omega arith, refl)) text spells

-- ---- names of the file

-- what is in the one part isn't in the other
pairs_apart : {X : Type 0} (xs ys : List X) (x : X) → AllPairs ◌≢◌ (xs ++ ys) → Contains xs x → Contains ys x → ⊥
pairs_apart xs ys x pairs (i, within, is) (j, inside, at) =
    pairs i (length xs + j) x (omega (arith, within)) (omega (arith, length-append xs ys, inside))
    (get_or_append_left xs ys x i within ∙ (is ∙ sym (get_or-append-add xs ys j x ∙ at)))

contains_mapped : {X Y : Type 0} (f : X → Y) (xs : List X) (x : X) → Contains xs x → Contains (map f xs) (f x)
contains_mapped f xs x (k, within, is) = (k, omega (arith, length-map xs f, within), get_or-map f xs k x (f x) within ∙ ap f is)

contains_gathered : {X Y : Type 0} (f : X → List Y) (xs : List X) (k : ℕ) (x : X) (y : Y) → slice_get xs k ≡ Some x → Contains (f x) y → Contains (flat_map f xs) y
contains_gathered f [] k x y at there = absurd cc
contains_gathered f (first ∷ xs) zero x y at there =
    let same : x ≡ first = cc in
    Contains-append_left (f first) (flat_map f xs) y (subst (λ item. Contains (f item) y) same there)
contains_gathered f (first ∷ xs) (suc k) x y at there = Contains-append_right (f first) (flat_map f xs) y (contains_gathered f xs k x y at there)

module _ (model : Model) (lawful : IsLawful model) where
  abbrev objects_of : List (List ℕ)
  objects_of = map (λ object. object.name) model.objects

  abbrev enums_of : List (List ℕ)
  enums_of = map (λ found. found.name) model.enums

  abbrev members_of : List (List ℕ)
  members_of = flat_map (λ found. found.members) model.enums

  declared : AllPairs ◌≢◌ (declared_names model)
  declared = pairs_front ◌≢◌ (declared_names model) _ lawful.distinct

  global_no_object : (name : List ℕ) → Contains (global_names model) name → Contains objects_of name → ⊥
  global_no_object name global object =
      pairs_apart (global_names model) (labels model ++ (objects_of ++ (enums_of ++ members_of))) name declared global
      (Contains-append_right (labels model) (objects_of ++ (enums_of ++ members_of)) name (Contains-append_left objects_of (enums_of ++ members_of) name object))

  global_no_member : (name : List ℕ) → Contains (global_names model) name → Contains members_of name → ⊥
  global_no_member name global member =
      pairs_apart (global_names model) (labels model ++ (objects_of ++ (enums_of ++ members_of))) name declared global
      (Contains-append_right (labels model) (objects_of ++ (enums_of ++ members_of)) name
      (Contains-append_right objects_of (enums_of ++ members_of) name (Contains-append_right enums_of members_of name member)))

  label_no_object : (name : List ℕ) → Contains (labels model) name → Contains objects_of name → ⊥
  label_no_object name label object =
      pairs_apart (labels model) (objects_of ++ (enums_of ++ members_of)) name
      (pairs_back ◌≢◌ (global_names model) (labels model ++ (objects_of ++ (enums_of ++ members_of))) declared) label
      (Contains-append_left objects_of (enums_of ++ members_of) name object)

  -- ---- words that are names

  abbrev whole_text : List ℕ → NameText
  whole_text name = record { label = name; steps = []; tail = tails.None }

  abbrev part_text : List ℕ → List ℕ → NameText
  part_text front part = record { label = front; steps = []; tail = tails.Part part }

  names_whole : (name : List ℕ) → IsName name → Spells name (whole_text name)
  names_whole name is = (inl (is, All-nil IsStep, tt), sym (append-nil name))

  names_part : (front part : List ℕ) → IsName front → IsName part → Spells (front ++ (46 ∷ part)) (part_text front part)
  names_part front part is too = (inl (is, All-nil IsStep, too), refl)

  -- a name alone can only name a global
  whole_names : (word : List ℕ) → IsName word → (Contains (global_names model) word → ⊥) → SaysNoVariable model word
  whole_names word is none name (text, (spells, names)) =
      by name (subst (λ (t : NameText). NamesVariable model t name) (spells_one_name word text (whole_text word) spells (names_whole word is)) names)
    where
      by : (name : VarName) → NamesVariable model (whole_text word) name → ⊥
      by (variables.Global number) names =
          none (subst (Contains (global_names model)) names.label
          (contains_mapped (λ variable. variable.name) model.problem.globals names.variable (contains_from_get model.problem.globals number names.variable names.is_global)))
      by (variables.Token token part) names = let no : tails.None ≡ tails.Part names.word = names.tail in cc
      by (variables.Local token rule number) names = let no : tails.None ≡ tails.Local rule number = names.tail in cc

  -- a name behind a point can only name a part of a token
  part_names : (front part : List ℕ) → IsName front → IsName part → (Contains (labels model) front → ⊥) → SaysNoVariable model (front ++ (46 ∷ part))
  part_names front part is too none name (text, (spells, names)) =
      by name (subst (λ (t : NameText). NamesVariable model t name) (spells_one_name (front ++ (46 ∷ part)) text (part_text front part) spells (names_part front part is too)) names)
    where
      by : (name : VarName) → NamesVariable model (part_text front part) name → ⊥
      by (variables.Global number) names = let no : tails.Part part ≡ tails.None = names.tail in cc
      by (variables.Token token which) names =
          none (subst (Contains (labels model)) names.leads.label
          (contains_mapped (λ root. root.label) model.problem.roots names.leads.root (contains_from_get model.problem.roots token.root names.leads.root names.leads.is_root)))
      by (variables.Local token rule number) names = let no : tails.Part part ≡ tails.Local rule number = names.tail in cc

-- ---- points in spellings

abbrev NoPoint : List ℕ → Type 0
NoPoint bytes = AllByRecursion (λ byte. is_point byte ≡ false) bytes

no_point_both : (one other : List ℕ) → NoPoint one → NoPoint other → NoPoint (one ++ other)
no_point_both [] other first second = second
no_point_both (byte ∷ one) other first second = (first.0, no_point_both one other first.1 second)

digit_no_point : (byte : ℕ) → is_ascii_digit byte ≡ true → is_point byte ≡ false
digit_no_point byte is = grind (arith, nat_tests)

digits_no_point : (digits : List ℕ) → Passes is_ascii_digit digits → NoPoint digits
digits_no_point [] are = tt
digits_no_point (byte ∷ digits) are = (digit_no_point byte are.0, digits_no_point digits are.1)

decimal_no_point : (n : ℕ) → n < 65536 → NoPoint (decimal n)
decimal_no_point n small = digits_no_point (decimal n) (digits_decimal own n (omega (arith, small)))

steps_no_point : (steps : List Step) → AllByRecursion IsStep steps → NoPoint (flat_map step_text steps)
steps_no_point [] are = tt
steps_no_point (step ∷ steps) are =
    no_point_both (step_text step) (flat_map step_text steps)
    (refl, no_point_both (decimal step.rule) (codes ":" ++ decimal step.slot) (decimal_no_point step.rule are.0.0) (refl, decimal_no_point step.slot are.0.1)) (steps_no_point steps are.1)

-- at most one point stands in a spelling
abbrev IsShort : List ℕ → Type 0
IsShort word = length (slice_split is_point word) ≤ 2

no_point_short : (word : List ℕ) → NoPoint word → IsShort word
no_point_short word none = omega (arith, ap length (slice_split_none is_point word (All-from_recursion (λ byte. is_point byte ≡ false) word none)))

one_point_short : (front back : List ℕ) → NoPoint front → NoPoint back → IsShort (front ++ (46 ∷ back))
one_point_short front back none none_behind =
    omega (
      arith,
      ap length (slice_split_at is_point front 46 back (All-from_recursion (λ byte. is_point byte ≡ false) front none) refl),
      ap length (slice_split_none is_point back (All-from_recursion (λ byte. is_point byte ≡ false) back none_behind)),
    )

tail_short : (front : List ℕ) (tail : Tail) → NoPoint front → IsTail tail → IsShort (front ++ tail_text tail)
tail_short front tails.None none is = no_point_short (front ++ []) (no_point_both front [] none tt)
tail_short front (tails.Part part) none is = one_point_short front part none (name_without part is)
tail_short front (tails.Local rule number) none is =
    no_point_short (front ++ tail_text (tails.Local rule number))
    (no_point_both front (tail_text (tails.Local rule number)) none
    (refl, no_point_both (decimal rule) (codes "!" ++ decimal number) (decimal_no_point rule is.0) (refl, decimal_no_point number is.1)))

spelling_short : (text : NameText) → IsWellFormed text → IsShort (name_spelling text)
spelling_short text (inl (label, steps, tail)) =
    subst IsShort (append_assoc text.label (flat_map step_text text.steps) (tail_text text.tail))
    (tail_short (text.label ++ flat_map step_text text.steps) text.tail
    (no_point_both text.label (flat_map step_text text.steps) (name_without text.label label) (steps_no_point text.steps (recursion_from_All IsStep text.steps steps))) tail)
spelling_short text (inr (label, steps, tail)) =
    let none : NoPoint (ending_text text.steps text.tail) = rw (steps, tail) tt in
    no_point_short (name_spelling text)
    (no_point_both text.label (ending_text text.steps text.tail) (subst NoPoint (sym label.2) (refl, decimal_no_point label.0 label.1)) none)

-- ---- values

module _ (model : Model) (lawful : IsLawful model) where
  named_object : (value : ℤ) (word : List ℕ) → IsValueText model kinds.Object value word → Contains (map (λ object. object.name) model.objects) word
  named_object value word (object, ((place, is_place, is), named)) =
      subst (Contains (map (λ found. found.name) model.objects)) named (contains_mapped (λ found. found.name) model.objects object (contains_from_get model.objects place object is))

  named_member : (number : ℕ) (value : ℤ) (word : List ℕ) → IsValueText model (kinds.Enum number) value word → Contains (flat_map (λ found. found.members) model.enums) word
  named_member number value word is =
      contains_gathered (λ found. found.members) model.enums number is.found word is.is_enum (contains_from_get is.found.members is.place word is.is_member)

  object_no_variable : (outer : HasOuterObjects model) (names : List (List ℕ)) (word : List ℕ) → 0 < length names → AllByRecursion IsName names → word ≡ join_with_byte 46 names
      → Contains (map (λ object. object.name) model.objects) word → SaysNoVariable model word
  object_no_variable outer [] word some are is there = absurd (omega (arith, some))
  object_no_variable outer (name ∷ []) word some are is there =
      whole_names model lawful word (subst IsName (sym is) are.0) (λ global. global_no_object model lawful word global there)
  object_no_variable outer (front ∷ part ∷ []) word some are is there =
      let whole : word ≡ full_name front part = is ∙ sym (append_assoc front (codes ".") part) in
      let above : Contains (map (λ object. object.name) model.objects) front = outer front part (subst (Contains (map (λ object. object.name) model.objects)) whole there) in
      subst (SaysNoVariable model) (sym is) (part_names model lawful front part are.0 are.1.0 (λ label. label_no_object model lawful front label above))
  object_no_variable outer (first ∷ second ∷ third ∷ more) word some are is there = λ name says.
      let spells = says.1.0 in
      let short : IsShort word = subst IsShort (sym spells.1) (spelling_short says.0 spells.0) in
      let long = ap length (ap (slice_split is_point) is ∙ joined_path (first ∷ second ∷ third ∷ more) some are) in
      omega (arith, short, long)

  pub value_no_variable : HasOuterObjects model → (kind : ValueKind) (value : ℤ) (word : List ℕ) → IsValueText model kind value word → SaysNoVariable model word
  value_no_variable outer kinds.Int value word (is, same) = λ name says.
      number_begins_none value is (subst BeginsName same (spelling_begins word says.0 says.1.0))
  value_no_variable outer kinds.Float value word (is, same) = λ name says.
      decimal_begins_none value is (subst BeginsName same (spelling_begins word says.0 says.1.0))
  value_no_variable outer kinds.Bool value word (inl (is, same)) = λ name says. no_false says.0 (subst (λ (w : List ℕ). Spells w says.0) same says.1.0)
  value_no_variable outer kinds.Bool value word (inr (is, same)) = λ name says. no_true says.0 (subst (λ (w : List ℕ). Spells w says.0) same says.1.0)
  value_no_variable outer (kinds.Enum number) value word is =
      whole_names model lawful word (member_name model number value word lawful is) (λ global. global_no_member model lawful word global (named_member number value word is))
  value_no_variable outer kinds.Object value word is =
      let named = object_name model value word lawful is in
      object_no_variable outer named.0 word named.1 (recursion_from_All IsName named.0 named.2) named.3 (named_object value word is)
