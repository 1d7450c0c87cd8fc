-- The decisions of a text.
use Rattle.std.specs.Prelude.{ℕ, ◌+◌, ℤ, List, [], ◌∷◌, Option, Some, None, codes, if◌then◌else◌}
use Rattle.std.specs.Option.{option_and_then, option_map}
use Rattle.std.specs.Str.{bytes_eq}
use Rattle.eu_name.specs.declared.name.TokenName.{TokenName}
use Rattle.eu_name.specs.declared.name.VarName.{VarName}
use Rattle.eu_name.specs.declared.name.VarName.TheVariants as variables
use Rattle.model_core.specs.declared.decision.Decision.{Decision}
use Rattle.model_core.specs.declared.decision.Decision.TheVariants.{Specify, Activate, Merge, Reject}
use Rattle.model_core.specs.declared.item.Term.{Term}
use Rattle.model_core.specs.declared.item.Term.TheVariants as terms
use Rattle.model_core.specs.declared.model.Placed.{Placed}
use Rattle.model_core.specs.Tokens.{root_token}
use Rattle.nddl_terms.specs.declared.stands.Stand.{Stand}
use Rattle.nddl_terms.specs.declared.stands.Stand.TheVariants.{Value, Root}
use Rattle.nddl_lower.specs.Compared.{decimal_stand, is_decimal_stand}

-- the variable of the problem that a term is: behind so many declared globals come those that stand for fields
abbrev pub term_variable : ℕ → Term → Option VarName
term_variable count (terms.Global number) = Some (variables.Global number)
term_variable count (terms.Local number) = Some (variables.Global (count + number))
term_variable count (terms.Root number part) = Some (variables.Token (root_token number) part)
term_variable count term = None

abbrev pub stand_variable : ℕ → Stand → Option VarName
stand_variable count (Value term kind class) = term_variable count term
stand_variable count stand = None

-- the token that is posted under a label
abbrev pub stand_token : Stand → Option TokenName
stand_token (Root number pred) = Some (root_token number)
stand_token stand = None

-- a value that is known
abbrev pub stand_number : Stand → Option ℤ
stand_number (Value (terms.Lit value) kind class) = Some value
stand_number stand = None

-- the value that a variable is to have: a decimal, if the variable is one
abbrev pub specified_number : Stand → Stand → Option ℤ
specified_number owner given = stand_number (if is_decimal_stand owner then decimal_stand given else given)

-- a variable is to have a value
abbrev pub specify_of : Option VarName → Option ℤ → Option Decision
specify_of (Some variable) (Some value) = Some (Specify variable value)
specify_of variable value = None

-- a token is to be another
abbrev pub merge_of : Option TokenName → Option TokenName → Option Decision
merge_of (Some token) (Some target) = Some (Merge token target)
merge_of token target = None

-- What an act says of what stands before it and of what stands for its argument. Where nothing is wrong with the text, it
-- is one of these four, or says nothing of the problem.
abbrev pub act_decision : ℕ → List ℕ → Stand → Stand → Option Decision
act_decision count act owner given =
    if bytes_eq act (codes "specify") then specify_of (stand_variable count owner) (specified_number owner given)
    else (if bytes_eq act (codes "activate") then option_map Activate (stand_token owner)
    else (if bytes_eq act (codes "merge") then merge_of (stand_token owner) (stand_token given)
    else (if bytes_eq act (codes "reject") then option_map Reject (stand_token owner)
    else None)))

-- a decision at its place in the file of this name
abbrev pub placed_decision : List ℕ → ℕ → Option Decision → List Placed
placed_decision file at None = []
placed_decision file at (Some decision) = record { decision = decision; file = file; at = at } ∷ []
