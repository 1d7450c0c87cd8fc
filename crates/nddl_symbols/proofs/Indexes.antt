-- Declared names by their first places.
use Rattle.std.proofs.Common.{◌≡◌, ℕ, ◌+◌, ◌<◌, Bool, true, false, if◌then◌else◌, List, length, Option, Some, None, sym, ap, ◌∙◌, arith, ◌&&◌, ◌||◌, not}
use Rattle.std.specs.Option.{option_or}
use Rattle.std.specs.Prelude.{IfSome}
use Rattle.std.specs.Str.{bytes_eq}
use Rattle.eu_index.specs.Index.{Noted, noted_number, with_noted}
use Rattle.eu_index.proofs.Indexes.{noted_with, or_none, position_within}
use Rattle.nddl_symbols.specs.declared.declared.Declared.{Declared}
use Rattle.nddl_symbols.specs.Names.{is_body_sort}
use Rattle.nddl_symbols.specs.Scope.{is_named, named_number, NotesListed}

-- a name that counts is noted
pub listed_noted : (only_bodies : Bool) (number : ℕ) (declared : Declared) (listed : Bool) (old new : Noted)
    → listed ≡ (not only_bodies || is_body_sort declared.sort) → listed ≡ true → new ≡ with_noted old declared.name number
    → NotesListed only_bodies number declared old new
listed_noted only_bodies number declared listed old new told is noted = λ name.
    let counts : true ≡ (not only_bodies || is_body_sort declared.sort) = sym is ∙ told in
    ap (λ n. noted_number n name) noted
    ∙ (noted_with old declared.name name number
    ∙ ap (λ b. option_or (noted_number old name) (if b && bytes_eq name declared.name then Some number else None)) counts)

-- one that doesn't isn't
pub unlisted_noted : (only_bodies : Bool) (number : ℕ) (declared : Declared) (listed : Bool) (old new : Noted)
    → listed ≡ (not only_bodies || is_body_sort declared.sort) → listed ≡ false → new ≡ old
    → NotesListed only_bodies number declared old new
unlisted_noted only_bodies number declared listed old new told is noted = λ name.
    let counts : false ≡ (not only_bodies || is_body_sort declared.sort) = sym is ∙ told in
    ap (λ n. noted_number n name) noted
    ∙ (or_none (noted_number old name)
    ∙ ap (λ b. option_or (noted_number old name) (if b && bytes_eq name declared.name then Some number else None)) counts)

-- the numbers of names are below their count
pub few_entries : (names : List Declared) (name : List ℕ) (most : ℕ) (found : Option ℕ) → length names < most
    → found ≡ named_number false names name → IfSome found (λ number. number < most)
few_entries names name most None few is = tt
few_entries names name most (Some number) few is =
    let less : number < 0 + length names = position_within (is_named false name) names 0 number (sym is) in omega arith
