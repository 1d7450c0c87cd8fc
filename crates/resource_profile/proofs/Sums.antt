-- A sum over a list, a term at a time.
use Rattle.std.proofs.Common.{◌≡◌, ℕ, ◌+◌, ◌<◌, ℤ, pos, negsuc, ◌+ℤ◌, ◌≤ℤ◌, true, false, cond, List, [], ◌∷◌, length, get_or, drop, refl, sym, ap, ◌∙◌, arith}
use Rattle.std.proofs.lemmas.Int.{ints}
use Rattle.std.proofs.lemmas.List.{at_drop_more}
use Rattle.resource_profile.specs.Usage.{quantity_at, taken_at}
use Rattle.std.specs.Prelude.{int_le}
use Rattle.resource_profile.specs.Level.{added_at, level_at, IsSmall}
use Rattle.resource_profile.specs.declared.usage.Use.{Use}
use Rattle.resource_profile.specs.declared.level.LevelChange.{LevelChange}

pub taken_more : (uses : List Use) (instant taken : ℤ) (i : ℕ) (d : Use) → i < length uses
    → taken +ℤ taken_at (drop i uses) instant ≡ taken_at uses instant
    → (taken +ℤ quantity_at (get_or uses i d) instant) +ℤ taken_at (drop (i + 1) uses) instant ≡ taken_at uses instant
taken_more uses instant taken i d within so_far =
    let next : taken_at (drop i uses) instant ≡ quantity_at (get_or uses i d) instant +ℤ taken_at (drop (i + 1) uses) instant = at_drop_more (λ rest. taken_at rest instant) uses i d within in
    omega (arith, ints)

-- what is added before is added all the same
level_at-add : (changes : List LevelChange) (more initial instant : ℤ) → level_at changes (more +ℤ initial) instant ≡ more +ℤ level_at changes initial instant
level_at-add [] more initial instant = refl
level_at-add (change ∷ changes) more initial instant = let rest = level_at-add changes more initial instant in omega (arith, ints)

pub level_more : (changes : List LevelChange) (initial instant level : ℤ) (i : ℕ) (d : LevelChange) → i < length changes
    → level_at (drop i changes) level instant ≡ level_at changes initial instant
    → level_at (drop (i + 1) changes) (level +ℤ added_at (get_or changes i d) instant) instant ≡ level_at changes initial instant
level_more changes initial instant level i d within so_far =
    let rest = drop (i + 1) changes in
    let more = added_at (get_or changes i d) instant in
    let next : level_at (drop i changes) level instant ≡ more +ℤ level_at rest level instant = at_drop_more (λ rest. level_at rest level instant) changes i d within in
    let turned : level +ℤ more ≡ more +ℤ level = omega (arith, ints) in
    ap (λ l. level_at rest l instant) turned ∙ level_at-add rest more level instant ∙ sym next ∙ so_far

-- a change that adds little or nothing
pub added_small : (change : LevelChange) (instant : ℤ) → IsSmall change → (negsuc 999999 ≤ℤ added_at change instant) × (added_at change instant ≤ℤ pos 1000000)
added_small change instant small =
    elim (int_le change.at instant) as (λ b. (negsuc 999999 ≤ℤ cond b change.add (pos 0)) × (cond b change.add (pos 0) ≤ℤ pos 1000000)) [ true ↦ small | false ↦ (omega (arith, ints), omega (arith, ints)) ]
