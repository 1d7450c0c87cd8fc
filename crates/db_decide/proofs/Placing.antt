-- Tokens at their places.
use Rattle.std.proofs.Common.{◌≡◌, ℕ, ◌<◌, length, sym, subst, arith}
use Rattle.std.specs.Prelude.{Contains}
use Rattle.eu_name.specs.declared.name.Part.{Part}
use Rattle.eu_name.specs.declared.name.TokenName.{TokenName}
use Rattle.token_store.specs.Orders.{name_at}
use Rattle.token_store.specs.Tokens.{TokenPast, tokens_now, token_names, IsNamedAt}
use Rattle.eu_name.proofs.Members.{get_below, contains_from_get}
use Rattle.db_store.specs.Stores.{Stored}
use Rattle.db_store.proofs.Naming.{length_names}
use Rattle.db_posting.specs.Origins.{content_now}
use Rattle.db_posting.specs.Terms.{IsPartThere, HasTimes, HasPartAt, HasTimesAt}
use Rattle.db_opening.proofs.Opening.{named_at}

module _ (past : TokenPast) (place : ℕ) (token : TokenName) (named : IsNamedAt (tokens_now past) place token) where
  pub place_below : place < length (tokens_now past)
  place_below = omega (arith, get_below (token_names (tokens_now past)) place token named, length_names (tokens_now past))

  pub name_is : token ≡ name_at (token_names (tokens_now past)) place
  name_is = named_at (token_names (tokens_now past)) place token (sym named)

  pub token_is_there : Contains (token_names (tokens_now past)) token
  token_is_there = contains_from_get (token_names (tokens_now past)) place token named

-- a token at its place has a part that is there by its name
pub part_at : (stored : Stored) (place : ℕ) (token : TokenName) → IsNamedAt (tokens_now stored.past) place token → (part : Part) → IsPartThere (content_now stored) token part
    → HasPartAt stored (record { token = place; part = part })
part_at stored place token named part there =
    (place_below stored.past place token named, subst (λ (t : TokenName). IsPartThere (content_now stored) t part) (name_is stored.past place token named) there)

-- and so it is with its start and its end
pub times_at : (stored : Stored) (place : ℕ) (token : TokenName) → IsNamedAt (tokens_now stored.past) place token → HasTimes (content_now stored) token → HasTimesAt stored place
times_at stored place token named there =
    (place_below stored.past place token named, subst (HasTimes (content_now stored)) (name_is stored.past place token named) there)
