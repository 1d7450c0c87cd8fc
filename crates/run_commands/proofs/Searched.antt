-- The search from decisions that leave nothing.
use Rattle.std.proofs.Common.{◌≡◌, ℕ, zero, suc, ◌<◌, false, inl, refl, arith}
use Rattle.plan_db.specs.Database.{Database, HasCollapsed}
use Rattle.law_search.specs.Search.{SearchOutcome, Fails}
use Rattle.run_commands.specs.Searching.{SearchesTo, collapsed_end}

-- so many units are left behind the first visit
abbrev failed_with : ℕ → SearchOutcome
failed_with left = record { ending = Fails; left = left; left_out = false }

-- it fails at its first visit
pub collapsed_searches : (bound budget : ℕ) (old new : Database) → 0 < budget → HasCollapsed old → new ≡ old
    → SearchesTo bound budget old collapsed_end new
collapsed_searches bound zero old new some collapsed same = absurd (omega (arith, some))
collapsed_searches bound (suc more) old new some collapsed same =
    (failed_with more, (inl (collapsed, refl), (omega arith, refl, refl, same)))
