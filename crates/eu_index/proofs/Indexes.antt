-- Names by their first places.
use Rattle.std.proofs.Common.{◌≡◌, ℕ, ◌+◌, ◌<◌, Bool, true, false, cond, if◌then◌else◌, List, [], ◌∷◌, ◌++◌, length, Option, Some, None, refl, sym, ap, ◌∙◌, arith}
use Rattle.std.specs.Option.{option_or}
use Rattle.std.specs.List.{position_from}
use Rattle.std.proofs.lemmas.Option.{same_Some}
use Rattle.std.proofs.lemmas.Slice.Eq.{bytes_eq-Decides}
use Rattle.std.specs.Str.{bytes_eq}
use Rattle.indexmap.specs.IndexMap.{insert_entry}
use Rattle.eu_index.specs.Index.{Noted, noted_number, with_noted}

-- a new name goes behind the others
pub insert_new : (noted : Noted) (name : List ℕ) (number : ℕ) → noted_number noted name ≡ None
    → insert_entry bytes_eq noted name number ≡ noted ++ (name, number) ∷ []
insert_new [] name number none = refl
insert_new (entry ∷ noted) name number none = by (bytes_eq name entry.0) refl (λ rest. insert_new noted name number rest)
  where
    by : (b : Bool) → bytes_eq name entry.0 ≡ b
        → (noted_number noted name ≡ None → insert_entry bytes_eq noted name number ≡ noted ++ (name, number) ∷ [])
        → insert_entry bytes_eq (entry ∷ noted) name number ≡ (entry ∷ noted) ++ (name, number) ∷ []
    by true same rest = absurd (let e : Some entry.1 ≡ None = sym (ap (λ b. cond b (Some entry.1) (noted_number noted name)) same) ∙ none in cc)
    by false differ rest =
        ap (λ b. cond b ((entry.0, number) ∷ noted) (entry ∷ insert_entry bytes_eq noted name number)) differ
        ∙ ap (λ more. entry ∷ more) (rest (sym (ap (λ b. cond b (Some entry.1) (noted_number noted name)) differ) ∙ none))

-- or nothing
pub or_none : (o : Option ℕ) → o ≡ option_or o None
or_none None = refl
or_none (Some found) = refl

-- behind the others
lookup_behind : (noted : Noted) (name other : List ℕ) (number : ℕ)
    → noted_number (noted ++ (name, number) ∷ []) other
    ≡ option_or (noted_number noted other) (if bytes_eq other name then Some number else None)
lookup_behind [] name other number = refl
lookup_behind (entry ∷ noted) name other number = by (bytes_eq other entry.0) refl (lookup_behind noted name other number)
  where
    by : (b : Bool) → bytes_eq other entry.0 ≡ b
        → noted_number (noted ++ (name, number) ∷ []) other ≡ option_or (noted_number noted other) (if bytes_eq other name then Some number else None)
        → noted_number (entry ∷ (noted ++ (name, number) ∷ [])) other
        ≡ option_or (noted_number (entry ∷ noted) other) (if bytes_eq other name then Some number else None)
    by true same rest = rw same refl
    by false differ rest = rw differ rest

-- what has been noted of a name is noted of an equal one
noted_alike : (noted : Noted) (name other : List ℕ) (found : ℕ) → noted_number noted name ≡ Some found → bytes_eq other name ≡ true
    → noted_number noted other ≡ Some found
noted_alike noted name other found is same =
    let e : other ≡ name = (bytes_eq-Decides other name).0 same in ap (noted_number noted) e ∙ is

-- a name in the index with one more is the old one's, or the new one
pub noted_with : (noted : Noted) (name other : List ℕ) (number : ℕ)
    → noted_number (with_noted noted name number) other
    ≡ option_or (noted_number noted other) (if bytes_eq other name then Some number else None)
noted_with noted name other number = by (noted_number noted name) refl
  where
    already : (found : ℕ) (b : Bool) → noted_number noted name ≡ Some found → bytes_eq other name ≡ b
        → noted_number noted other ≡ option_or (noted_number noted other) (if b then Some number else None)
    already found true is same = rw (noted_alike noted name other found is same) refl
    already found false is differ = or_none (noted_number noted other)

    by : (o : Option ℕ) → noted_number noted name ≡ o
        → noted_number (with_noted noted name number) other ≡ option_or (noted_number noted other) (if bytes_eq other name then Some number else None)
    by None is = rw is (lookup_behind noted name other number)
    by (Some found) is = rw is (already found (bytes_eq other name) is refl)

-- where a name stands that is found from a number on
position_here : {X : Type 0} (x : X) (xs : List X) (start found : ℕ) (b : Bool) (rest : Option ℕ)
    → (rest ≡ Some found → found < (start + 1) + length xs) → cond b (Some start) rest ≡ Some found → found < start + length (x ∷ xs)
position_here x xs start found true rest further is = let e : start ≡ found = same_Some start found is in omega arith
position_here x xs start found false rest further is = let less : found < (start + 1) + length xs = further is in omega arith

pub position_within : {X : Type 0} (test : X → Bool) (xs : List X) (start found : ℕ)
    → position_from test start xs ≡ Some found → found < start + length xs
position_within test [] start found is = absurd (let e : None ≡ Some found = is in cc)
position_within test (x ∷ xs) start found is =
    position_here x xs start found (test x) (position_from test (start + 1) xs) (position_within test xs (start + 1) found) is
