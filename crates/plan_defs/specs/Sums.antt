-- Exact sums over tokens.
use Rattle.std.specs.Prelude.{◌≡◌, ◌≢◌, ℤ, pos, ◌+ℤ◌, List, [], ◌∷◌, All, AllPairs, Contains}
use Rattle.eu_name.specs.declared.name.TokenName.{TokenName}

-- a token with its amount
pub record Amount : Type 0 where
  pub token : TokenName
  pub amount : ℤ

-- the list has exactly the tokens that have an amount, each once and with the amount that it has
pub record ListsAll (HasAmount : TokenName → ℤ → Type 0) (listed : List Amount) : Type 0 where
  pub once : AllPairs (λ one other. one.token ≢ other.token) listed
  pub have : All (λ each. HasAmount each.token each.amount) listed
  pub all : (token : TokenName) (amount : ℤ)
      → HasAmount token amount → Contains listed (record { token = token; amount = amount })

-- the sum of the numbers
abbrev pub sum_of : List ℤ → ℤ
sum_of [] = pos 0
sum_of (number ∷ numbers) = number +ℤ sum_of numbers

-- the sum of the amounts
abbrev pub sum_of_amounts : List Amount → ℤ
sum_of_amounts [] = pos 0
sum_of_amounts (each ∷ more) = each.amount +ℤ sum_of_amounts more

-- what the tokens have makes this sum
pub record IsSum (HasAmount : TokenName → ℤ → Type 0) (sum : ℤ) : Type 0 where
  pub listed : List Amount
  pub all : ListsAll HasAmount listed
  pub is_sum : sum ≡ sum_of_amounts listed
