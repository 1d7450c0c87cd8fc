-- Fields by the places where they are set first.
use Rattle.std.proofs.Common.{◌≡◌, ℕ, suc, ◌+◌, Bool, true, false, cond, if◌then◌else◌, List, [], ◌∷◌, ◌++◌, length, Option, Some, None, refl, sym, ap, subst, ◌∙◌, not, ◌||◌, ◌&&◌, arith}
use Rattle.std.specs.Prelude.{is_some}
use Rattle.std.specs.List.{position_from}
use Rattle.std.specs.Option.{option_map, option_or}
use Rattle.std.specs.Str.{bytes_eq}
use Rattle.std.proofs.lemmas.Slice.Eq.{bytes_eq-Decides}
use Rattle.eu_index.specs.Index.{Noted, noted_number, with_noted}
use Rattle.nddl_symbols.proofs.Firsts.{position_later}
use Rattle.eu_index.proofs.Indexes.{noted_with}
use Rattle.nddl_construction.specs.declared.made.Datum.{Datum}
use Rattle.nddl_construction.specs.declared.made.FieldValue.{FieldValue}
use Rattle.nddl_construction.specs.Fields.{ArePlaces, AreRepeated, NotesSet, datum_placed, field_datum, first_place, is_set, is_set_once, repeated_noted}

-- the first place, counted from this number on
abbrev from : List ℕ → ℕ → List FieldValue → Option ℕ
from name start fields = position_from (λ (field : FieldValue). bytes_eq name field.name) start fields

-- ---- finding a value

behind : (field : FieldValue) (more : List FieldValue) (o : Option ℕ)
    → datum_placed (field ∷ more) (option_map suc o) ≡ datum_placed more o
behind field more None = refl
behind field more (Some place) = refl

-- the value at the first place is that of the first field
datum_first : (name : List ℕ) (fields : List FieldValue) → datum_placed fields (first_place name fields) ≡ field_datum name fields
datum_first name [] = refl
datum_first name (field ∷ more) =
    by (bytes_eq name field.name)
    (ap (datum_placed (field ∷ more)) (position_later (λ (field : FieldValue). bytes_eq name field.name) 0 more) ∙ (behind field more (first_place name more) ∙ datum_first name more))
  where
    by : (b : Bool) → datum_placed (field ∷ more) (from name 1 more) ≡ field_datum name more
        → datum_placed (field ∷ more) (cond b (Some 0) (from name 1 more)) ≡ (if b then field.value else field_datum name more)
    by true rest = refl
    by false rest = rest

pub first_datum : (fields : List FieldValue) (places : Noted) (name : List ℕ) (place : Option ℕ) (datum : Option Datum)
    → ArePlaces fields places → place ≡ noted_number places name → datum ≡ datum_placed fields place
    → datum ≡ field_datum name fields
first_datum fields places name place datum are found is =
    is ∙ (ap (datum_placed fields) (found ∙ are name) ∙ datum_first name fields)

-- ---- one field more

-- a place behind the others
place_behind : (name : List ℕ) (start : ℕ) (fields : List FieldValue) (field : FieldValue)
    → from name start (fields ++ field ∷ [])
    ≡ option_or (from name start fields) (if bytes_eq name field.name then Some (start + length fields) else None)
place_behind name start [] field = ap (λ n. if bytes_eq name field.name then Some n else None) (omega arith)
place_behind name start (first ∷ more) field =
    by (bytes_eq name first.name)
    (place_behind name (start + 1) more field
    ∙ ap (λ n. option_or (from name (start + 1) more) (if bytes_eq name field.name then Some n else None)) count)
  where
    count : start + 1 + length more ≡ start + length (first ∷ more)
    count = omega arith

    last : Option ℕ
    last = if bytes_eq name field.name then Some (start + length (first ∷ more)) else None

    by : (b : Bool) → from name (start + 1) (more ++ field ∷ []) ≡ option_or (from name (start + 1) more) last
        → cond b (Some start) (from name (start + 1) (more ++ field ∷ [])) ≡ option_or (cond b (Some start) (from name (start + 1) more)) last
    by true rest = refl
    by false rest = rest

places_more : (fields : List FieldValue) (field : FieldValue) (old new : Noted) → ArePlaces fields old
    → new ≡ with_noted old field.name (length fields) → ArePlaces (fields ++ field ∷ []) new
places_more fields field old new are noted = λ name.
    ap (λ n. noted_number n name) noted
    ∙ (noted_with old field.name name (length fields)
    ∙ (ap (λ o. option_or o (if bytes_eq name field.name then Some (length fields) else None)) (are name)
    ∙ (ap (λ n. option_or (first_place name fields) (if bytes_eq name field.name then Some n else None)) none
    ∙ sym (place_behind name 0 fields field))))
  where
    none : length fields ≡ 0 + length fields
    none = omega arith

-- one field more may be of this name
set_behind : (name : List ℕ) (fields : List FieldValue) (field : FieldValue)
    → is_set name (fields ++ field ∷ []) ≡ (is_set name fields || bytes_eq name field.name)
set_behind name [] field = by (bytes_eq name field.name)
  where
    by : (b : Bool) → (b || false) ≡ (false || b)
    by true = refl
    by false = refl
set_behind name (first ∷ more) field = by (bytes_eq name first.name) (set_behind name more field)
  where
    by : (b : Bool) → is_set name (more ++ field ∷ []) ≡ (is_set name more || bytes_eq name field.name)
        → (b || is_set name (more ++ field ∷ [])) ≡ ((b || is_set name more) || bytes_eq name field.name)
    by true rest = refl
    by false rest = rest

-- then it is set once if it wasn't set before
once_behind : (name : List ℕ) (fields : List FieldValue) (field : FieldValue)
    → is_set_once name (fields ++ field ∷ [])
    ≡ (if bytes_eq name field.name then not (is_set name fields) else is_set_once name fields)
once_behind name [] field = refl
once_behind name (first ∷ more) field =
    by (bytes_eq name first.name) (bytes_eq name field.name) (set_behind name more field) (once_behind name more field)
  where
    by : (b same : Bool) → is_set name (more ++ field ∷ []) ≡ (is_set name more || same)
        → is_set_once name (more ++ field ∷ []) ≡ (if same then not (is_set name more) else is_set_once name more)
        → (if b then not (is_set name (more ++ field ∷ [])) else is_set_once name (more ++ field ∷ []))
        ≡ (if same then not (b || is_set name more) else (if b then not (is_set name more) else is_set_once name more))
    by true true set once = ap not set ∙ none (is_set name more)
      where
        none : (s : Bool) → not (s || true) ≡ false
        none true = refl
        none false = refl
    by true false set once = ap not set ∙ ap not (alone (is_set name more))
      where
        alone : (s : Bool) → (s || false) ≡ s
        alone true = refl
        alone false = refl
    by false true set once = once
    by false false set once = once

-- ---- fields that are set again

-- what is noted of a name is noted of an equal one
noted_same : (noted : Noted) (name other : List ℕ) → bytes_eq other name ≡ true
    → is_some (noted_number noted name) ≡ is_some (noted_number noted other)
noted_same noted name other same = ap (λ n. is_some (noted_number noted n)) (sym ((bytes_eq-Decides other name).0 same))

-- whether a name is noted where one more is
noted_more : (noted : Noted) (name other : List ℕ) (place : ℕ)
    → is_some (noted_number (with_noted noted name place) other)
    ≡ (if bytes_eq other name then true else is_some (noted_number noted other))
noted_more noted name other place =
    ap is_some (noted_with noted name other place) ∙ by (noted_number noted other) (bytes_eq other name)
  where
    by : (o : Option ℕ) (same : Bool)
        → is_some (option_or o (if same then Some place else None)) ≡ (if same then true else is_some o)
    by None true = refl
    by None false = refl
    by (Some found) true = refl
    by (Some found) false = refl

-- whether it is noted as set again
again_more : (places repeated : Noted) (name other : List ℕ) (place : ℕ) (before : Bool) → is_some (noted_number places name) ≡ before
    → is_some (noted_number (if before then with_noted repeated name place else repeated) other)
    ≡ (if before && bytes_eq other name then true else is_some (noted_number repeated other))
again_more places repeated name other place true is = noted_more repeated name other place
again_more places repeated name other place false is = refl

-- a field that has a place is set
placed_set : (name : List ℕ) (start : ℕ) (fields : List FieldValue) → is_some (from name start fields) ≡ is_set name fields
placed_set name start [] = refl
placed_set name start (field ∷ more) = by (bytes_eq name field.name) (placed_set name (start + 1) more)
  where
    by : (b : Bool) → is_some (from name (start + 1) more) ≡ is_set name more
        → is_some (cond b (Some start) (from name (start + 1) more)) ≡ (b || is_set name more)
    by true rest = refl
    by false rest = rest

-- one field more may be set again, by whether it and the new one's are set before, it is the new one's, and is set once before
told_again : (known set same once again : Bool) → (same ≡ true → known ≡ set) → again ≡ (set && not once)
    → (if known && same then true else again) ≡ ((set || same) && not (if same then not set else once))
told_again known set true once again alike is = ap (λ k. if k && true then true else again) (alike refl) ∙ by set is
  where
    by : (set : Bool) → again ≡ (set && not once) → (if set && true then true else again) ≡ ((set || true) && not (not set))
    by true is = refl
    by false is = is
told_again true true false once again alike is = is
told_again true false false once again alike is = is
told_again false true false once again alike is = is
told_again false false false once again alike is = is

repeated_more : (fields : List FieldValue) (field : FieldValue) (places old new : Noted) (place : ℕ) → ArePlaces fields places
    → AreRepeated fields old → new ≡ repeated_noted places old field.name place → AreRepeated (fields ++ field ∷ []) new
repeated_more fields field places old new place are before noted = λ name.
    let known = is_some (noted_number places field.name) in
    let same = bytes_eq name field.name in
    let e : is_set name fields ≡ is_some (noted_number places name) =
    sym (ap is_some (are name) ∙ placed_set name 0 fields) in
    ap (λ n. is_some (noted_number n name)) noted
    ∙ (again_more places old field.name name place known refl
    ∙ (told_again known (is_set name fields) same (is_set_once name fields) (is_some (noted_number old name))
    (λ is. noted_same places field.name name is ∙ sym e) (before name)
    ∙ (ap (λ s. s && not (if same then not (is_set name fields) else is_set_once name fields)) (sym (set_behind name fields field))
    ∙ ap (λ o. is_set name (fields ++ field ∷ []) && not o) (sym (once_behind name fields field)))))

-- ---- fields that are set once

-- what is set once is set
once_set : (name : List ℕ) (fields : List FieldValue) → is_set_once name fields ≡ true → is_set name fields ≡ true
once_set name [] once = once
once_set name (field ∷ more) once = by (bytes_eq name field.name) (once_set name more) once
  where
    by : (b : Bool) → (is_set_once name more ≡ true → is_set name more ≡ true)
        → (if b then not (is_set name more) else is_set_once name more) ≡ true → (b || is_set name more) ≡ true
    by true rest once = refl
    by false rest once = rest once

pub told_once : (fields : List FieldValue) (places repeated : Noted) (name : List ℕ) → ArePlaces fields places
    → AreRepeated fields repeated
    → (not (is_some (noted_number repeated name)) && is_some (noted_number places name)) ≡ is_set_once name fields
told_once fields places repeated name are again =
    ap (λ b. not b && is_some (noted_number places name)) (again name)
    ∙ (ap (λ b. not (is_set name fields && not (is_set_once name fields)) && b) (ap is_some (are name) ∙ placed_set name 0 fields)
    ∙ by (is_set name fields) (is_set_once name fields) (once_set name fields))
  where
    by : (set once : Bool) → (once ≡ true → set ≡ true) → (not (set && not once) && set) ≡ once
    by true true so = refl
    by true false so = refl
    by false true so = so refl
    by false false so = refl

-- where it isn't set again, it is set once if it has a place
pub once_placed : (fields view : List FieldValue) (places repeated : Noted) (name : List ℕ) → ArePlaces fields places
    → AreRepeated fields repeated → fields ≡ view → is_some (noted_number repeated name) ≡ false
    → is_some (noted_number places name) ≡ is_set_once name view
once_placed fields view places repeated name are again seen alone =
    ap (λ b. not b && is_some (noted_number places name)) (sym alone)
    ∙ (told_once fields places repeated name are again ∙ ap (is_set_once name) seen)

-- ---- a field that is put behind the others

pub pushed_places : (old new : List FieldValue) (field : FieldValue) (name : List ℕ) (place : ℕ)
    (old_places old_repeated new_places new_repeated : Noted) → ArePlaces old old_places → new ≡ old ++ field ∷ []
    → name ≡ field.name → place ≡ length old → NotesSet name place old_places old_repeated new_places new_repeated
    → ArePlaces new new_places
pushed_places old new field name place old_places old_repeated new_places new_repeated are pushed named counted noted =
    subst (λ fields. ArePlaces fields new_places) (sym pushed)
    (places_more old field old_places new_places are
    (noted.0 ∙ (ap (λ n. with_noted old_places n place) named ∙ ap (with_noted old_places field.name) counted)))

pub pushed_repeated : (old new : List FieldValue) (field : FieldValue) (name : List ℕ) (place : ℕ)
    (old_places old_repeated new_places new_repeated : Noted) → ArePlaces old old_places → AreRepeated old old_repeated
    → new ≡ old ++ field ∷ [] → name ≡ field.name → NotesSet name place old_places old_repeated new_places new_repeated
    → AreRepeated new new_repeated
pushed_repeated old new field name place old_places old_repeated new_places new_repeated are again pushed named noted =
    subst (λ fields. AreRepeated fields new_repeated) (sym pushed)
    (repeated_more old field old_places old_repeated new_repeated place are again
    (noted.1 ∙ ap (λ n. repeated_noted old_places old_repeated n place) named))
