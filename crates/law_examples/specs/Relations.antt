-- Two tokens: a, which takes place from 3 to 6, and b, which the rule of a asks for.
use Rattle.std.specs.Prelude.{◌≡◌, ◌↔◌, ℕ, ⊤, List, [], ◌∷◌, codes}
use Rattle.std.specs.List.{AllZip}
use Rattle.eu_name.specs.declared.name.Part.TheVariants.{Start, End}
use Rattle.eu_name.specs.declared.name.TokenName.{TokenName}
use Rattle.eu_name.specs.declared.name.VarName.TheVariants.{Token}
use Rattle.model_core.specs.declared.item.Item.TheVariants.{Relation}
use Rattle.model_core.specs.declared.item.Rel.{Rel}
use Rattle.model_core.specs.State.{State, VarDomain}
use Rattle.model_core.specs.Tokens.{root_token, slot_token}
use Rattle.plan_defs.specs.Claims.{Claim, ItemSays}
use Rattle.plan_defs.specs.Consistency.{IsClaimConsistent}
use Rattle.plan_defs.specs.Terms.{InRule}
use Rattle.law_examples.specs.Globals.{problem_of}
use Rattle.law_examples.specs.Scenes.{exactly}

-- when a token takes place
pub record Times : Type 0 where
  pub start : ℕ
  pub end : ℕ

abbrev pub from : ℕ → ℕ → Times
from start end = record { start = start; end = end }

abbrev pub times_of_a : Times
times_of_a = from 3 6

-- the thirteen ways in which b can lie beside a: where one of its times moves past one of a, another begins
abbrev pub thirteen : List Times
thirteen =
    from 7 9 ∷ from 6 9 ∷ from 4 8 ∷ from 3 8 ∷ from 2 8 ∷ from 2 6 ∷ from 3 6
    ∷ from 1 3 ∷ from 0 2 ∷ from 1 5 ∷ from 3 5 ∷ from 4 5 ∷ from 4 6 ∷ []

abbrev pub token_a : TokenName
token_a = root_token 0

abbrev pub token_b : TokenName
token_b = slot_token token_a 0 0

-- the start and the end of a token
abbrev pub start_and_end : TokenName → Times → List VarDomain → List VarDomain
start_and_end token times more =
    record { name = Token token Start; domain = exactly times.start }
    ∷ record { name = Token token End; domain = exactly times.end }
    ∷ more

-- a takes place at its times, and b at these
abbrev pub beside_a : Times → State
beside_a times = record {
  tokens = token_a ∷ token_b ∷ [];
  blocks = [];
  entries = start_and_end token_a times_of_a (start_and_end token_b times []);
}

-- with b at these times all is consistent that the relation says in a rule of a
abbrev pub Fits : Rel → Times → Type 0
Fits rel times =
    (claim : Claim) → ItemSays (problem_of [] []) (λ token. ⊤) (InRule token_a 0) (Relation rel 0) claim
    → IsClaimConsistent (problem_of [] []) (beside_a times) claim

-- the mark is y exactly where b fits at these times
abbrev pub IsRowMark : Rel → Times → ℕ → Type 0
IsRowMark rel times mark = (mark ∷ [] ≡ codes "y") ↔ Fits rel times

-- the marks say in which of the thirteen ways b fits
abbrev pub FitsIn : Rel → List ℕ → Type 0
FitsIn rel marks = AllZip (IsRowMark rel) thirteen marks
