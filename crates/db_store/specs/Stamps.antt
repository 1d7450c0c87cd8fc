-- How often variables were written, and how that follows what they are.
use Rattle.std.specs.Prelude.{◌≡◌, ℕ, ◌-◌, ◌^◌, ◌<◌, ◌≤◌, List, ◌++◌, ◌⊎◌, length, slice_get}
use Rattle.std.specs.Prelude.{slice_index_or, Some}
use Rattle.domain_core.specs.Domain.{Domain, slack}
use Rattle.eu_name.specs.declared.name.TokenName.{TokenName}
use Rattle.eu_name.specs.declared.name.VarName.{VarName}
use Rattle.cell_store.specs.Cells.{domain_at, FollowsDomain}
use Rattle.token_store.specs.Tokens.{tokens_now, token_names}
use Rattle.db_store.specs.declared.key.VarKey.{VarKey}
use Rattle.db_store.specs.Stores.{Stored, snapshot_of, variable_names}

-- the variable of this name has this domain and this stamp, a number of 64 bits
pub record HasStamp (stored : Stored) (name : VarName) (domain : Domain) (stamp : ℕ) : Type 0 where
  pub number : ℕ
  pub named : slice_get (variable_names (snapshot_of stored)) number ≡ Some name
  pub given : slice_get stored.net.domains number ≡ Some domain
  pub written : slice_get stored.net.stamps number ≡ Some stamp
  pub small : stamp < 2 ^ 64

-- of each variable that is in both stores, the stamp follows the domain
abbrev pub FollowStamps : Stored → Stored → Type 0
FollowStamps old new =
    (name : VarName) (was now : Domain) (stamp next : ℕ)
    → HasStamp old name was stamp → HasStamp new name now next → FollowsDomain was stamp now next

-- each variable that is in both stores has the domain that it had, and as great a stamp or a greater one
abbrev pub StampsRise : Stored → Stored → Type 0
StampsRise old new =
    (name : VarName) (was now : Domain) (stamp next : ℕ)
    → HasStamp old name was stamp → HasStamp new name now next → (now ≡ was) × (stamp ≤ next)

-- the domain and the stamp stay, or the domain has less and the stamp is greater, or as great as a stamp can be
abbrev pub FollowsLess : Domain → ℕ → Domain → ℕ → Type 0
FollowsLess old stamp new next =
    ((new ≡ old) × (next ≡ stamp)) ⊎ ((slack new < slack old) × ((stamp < next) ⊎ (2 ^ 64 - 1 ≤ next)))

-- tokens and variables that were there stand in front of those that are there now, and of each variable that was there the
-- stamp follows the domain, from which values have gone at most
pub record StampsGoOn (old new : Stored) : Type 0 where
  pub names : (more : List TokenName) × (token_names (tokens_now new.past) ≡ token_names (tokens_now old.past) ++ more)
  pub keys : (more : List VarKey) × (new.keys ≡ old.keys ++ more)
  pub count : length old.net.domains ≤ length new.net.domains
  pub each : (number : ℕ) → number < length old.net.domains
      → FollowsLess (domain_at old.net.domains number) (slice_index_or old.net.stamps number 0)
      (domain_at new.net.domains number) (slice_index_or new.net.stamps number 0)
