-- Things with names by their first numbers.
use Rattle.std.proofs.Common.{◌≡◌, ℕ, suc, ◌+◌, ◌<◌, ◌≤◌, Bool, true, false, cond, if◌then◌else◌, List, [], ◌∷◌, length, drop, get_or, Option, Some, None, refl, sym, ap, ◌∙◌, arith}
use Rattle.std.specs.List.{position_from}
use Rattle.std.specs.Option.{option_map, option_or}
use Rattle.std.specs.Str.{bytes_eq}
use Rattle.std.proofs.lemmas.List.{drop_more, drop_all}
use Rattle.eu_index.specs.Index.{HasFirsts, Noted, NotesFirst, noted_number, with_noted}
use Rattle.eu_index.proofs.Indexes.{noted_with, or_none}

-- of each name what is noted, or else the first of those from this number on, is the first of all
abbrev pub HasFirstsTo : {X : Type 0} → (List ℕ → X → Bool) → List X → ℕ → Noted → Type 0
HasFirstsTo has_name some number noted = (name : List ℕ)
    → option_or (noted_number noted name) (position_from (has_name name) number (drop number some))
    ≡ position_from (has_name name) 0 some

or_here : (o rest : Option ℕ) (b : Bool) (number : ℕ)
    → option_or (option_or o (if b then Some number else None)) rest ≡ option_or o (cond b (Some number) rest)
or_here None rest true number = refl
or_here None rest false number = refl
or_here (Some found) rest b number = refl

-- the one that is read, and those behind it
dropped : {X : Type 0} (some : List X) (number : ℕ) (x : X) → number < length some → x ≡ get_or some number x
    → x ∷ drop (number + 1) some ≡ drop number some
dropped some number x within is = ap (λ one. one ∷ drop (number + 1) some) is ∙ sym (drop_more some number x within)

-- what has this name is noted under it
pub notes_name : {X : Type 0} (name_of : X → List ℕ) (number : ℕ) (x : X) (old new : Noted) → new ≡ with_noted old (name_of x) number
    → NotesFirst (λ name one. bytes_eq name (name_of one)) number x old new
notes_name name_of number x old new noted = λ name.
    ap (λ some. noted_number some name) noted ∙ noted_with old (name_of x) name number

-- one more is dealt with
pub firsts_step : {X : Type 0} (has_name : List ℕ → X → Bool) (some : List X) (number : ℕ) (x : X) (old new : Noted)
    → number < length some → x ≡ get_or some number x → NotesFirst has_name number x old new
    → HasFirstsTo has_name some number old → HasFirstsTo has_name some (number + 1) new
firsts_step has_name some number x old new within is notes so_far = λ name.
    let rest = position_from (has_name name) (number + 1) (drop (number + 1) some) in
    ap (λ o. option_or o rest) (notes name)
    ∙ (or_here (noted_number old name) rest (has_name name x) number
    ∙ (ap (λ more. option_or (noted_number old name) (position_from (has_name name) number more)) (dropped some number x within is)
    ∙ so_far name))

-- all are
pub firsts_whole : {X : Type 0} (has_name : List ℕ → X → Bool) (some : List X) (number : ℕ) (noted : Noted) → length some ≤ number
    → HasFirstsTo has_name some number noted → HasFirsts has_name some noted
firsts_whole has_name some number noted past so_far = λ name.
    or_none (noted_number noted name)
    ∙ (ap (λ more. option_or (noted_number noted name) (position_from (has_name name) number more)) (sym (drop_all number some past))
    ∙ so_far name)

-- ---- counting from another number

-- where the first one stands that passes, counted from the next number on
pub position_later : {X : Type 0} (test : X → Bool) (start : ℕ) (xs : List X)
    → position_from test (start + 1) xs ≡ option_map suc (position_from test start xs)
position_later test start [] = refl
position_later test start (x ∷ xs) = by (test x) (position_later test (start + 1) xs)
  where
    next : start + 1 ≡ suc start
    next = omega arith

    by : (b : Bool) → position_from test (start + 1 + 1) xs ≡ option_map suc (position_from test (start + 1) xs)
        → cond b (Some (start + 1)) (position_from test (start + 1 + 1) xs) ≡ option_map suc (cond b (Some start) (position_from test (start + 1) xs))
    by true rest = ap Some next
    by false rest = rest
