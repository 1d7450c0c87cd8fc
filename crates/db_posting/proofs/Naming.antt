-- Tokens and variables of a store, by name.
use Rattle.std.proofs.Common.{◌≡◌, ℕ, ◌<◌, List, [], ◌∷◌, length, slice_get, Some, sym, ap, ◌∙◌, subst, arith}
use Rattle.std.specs.Prelude.{All, Contains}
use Rattle.std.proofs.lemmas.List.{length-map}
use Rattle.std.proofs.lemmas.List.Elements.{All-cons, All-nil, Contains-get_or}
use Rattle.std.proofs.lemmas.Option.{get_or_from_slice_get, slice_get_within, slice_get-get_or, slice_get-map}
use Rattle.std.specs.Option.{option_map}
use Rattle.eu_name.specs.declared.name.Part as parts
use Rattle.eu_name.specs.declared.name.TokenName.{TokenName}
use Rattle.eu_name.specs.declared.name.VarName.{VarName}
use Rattle.eu_name.specs.declared.name.VarName.TheVariants as name
use Rattle.token_store.specs.Orders.{name_at}
use Rattle.token_store.specs.Tokens.{TokenList, tokens_now, token_names, IsNamedAt}
use Rattle.constraint_net.specs.Arguments.{IsArgument}
use Rattle.constraint_net.specs.declared.constraint.NetArg.{NetArg}
use Rattle.plan_defs.specs.Terms.{Variable}
use Rattle.db_refine.specs.Claims.{IsNamedArgument}
use Rattle.eu_name.proofs.Members.{get_from_contains, contains_from_get, get_all}
use Rattle.db_store.specs.Keys.{named_variable, IsKeyBelow}
use Rattle.db_store.specs.Stores.{Stored, snapshot_of, IsSnapshot}
use Rattle.db_store.specs.declared.key.VarKey.{VarKey}
use Rattle.db_store.specs.declared.key.VarKey.TheVariants.{Part}
use Rattle.db_store.proofs.Lists.{unmapped}
use Rattle.db_store.proofs.Naming.{length_names}
use Rattle.db_posting.specs.Origins.{content_now}
use Rattle.db_posting.specs.PostingLaws.{KeysAreNamed, NamedTermsAreThere}
use Rattle.db_posting.specs.Terms.{IsPartThere, HasPartAt}
use Rattle.plan_defs.proofs.Meanings.{means_once}
use Rattle.db_posting.proofs.Meaning.{named_argument}

-- the name that a place has
pub name_is : (stored : Stored) (place : ℕ) (token : TokenName) → IsNamedAt (tokens_now stored.past) place token → name_at (content_now stored).tokens place ≡ token
name_is stored place token is = get_or_from_slice_get (content_now stored).tokens place token (record { root = 0; steps = [] }) is

pub place_below : (stored : Stored) (place : ℕ) (token : TokenName) → IsNamedAt (tokens_now stored.past) place token → place < length (tokens_now stored.past)
place_below stored place token is =
    let within = slice_get_within (content_now stored).tokens place token is in
    let long = length_names (tokens_now stored.past) in
    omega (arith, within, long)

-- a part that is there is one of a token at its place
pub has_part_at : (stored : Stored) (place : ℕ) (token : TokenName) (part : parts.Part) → IsNamedAt (tokens_now stored.past) place token → IsPartThere (content_now stored) token part
    → HasPartAt stored (record { token = place; part = part })
has_part_at stored place token part is there =
    (place_below stored place token is, subst (λ one. IsPartThere (content_now stored) one part) (sym (name_is stored place token is)) there)

owner_there : (names : List TokenName) (key : VarKey) (token : TokenName) (part : parts.Part) → IsKeyBelow (length names) key → named_variable names key ≡ name.Token token part → Contains names token
owner_there names (Part place other) token part below is =
    let same : name_at names place ≡ token = cc in
    subst (Contains names) same (Contains-get_or names place (record { root = 0; steps = [] }) below)
owner_there names key token part below is = absurd (cc)

-- the token of a part that is there is there
pub token_there : (stored : Stored) → IsSnapshot (snapshot_of stored) → (token : TokenName) (part : parts.Part) → IsPartThere (content_now stored) token part → Contains (content_now stored).tokens token
token_there stored sound token part there =
    let names = (content_now stored).tokens in
    let at = get_from_contains (content_now stored).names (name.Token token part) there in
    let key = unmapped (named_variable names) stored.keys at.0 (name.Token token part) at.1 in
    let below = get_all (IsKeyBelow (length (tokens_now stored.past))) stored.keys at.0 key.0 sound.placed key.1 in
    owner_there names key.0 token part (subst (λ n. IsKeyBelow n key.0) (sym (length_names (tokens_now stored.past))) below) key.2

-- there are as many names as domains
pub names_long : (stored : Stored) → IsSnapshot (snapshot_of stored) → length (content_now stored).names ≡ length stored.net.domains
names_long stored sound = length-map stored.keys (named_variable (content_now stored).tokens) ∙ sound.count

-- two variables that are there, or three, are arguments
pub two_are : (stored : Stored) → IsSnapshot (snapshot_of stored) → (one other : VarName) (x y : NetArg) → IsNamedArgument (content_now stored).names (Variable one) x
    → IsNamedArgument (content_now stored).names (Variable other) y → All (IsArgument (length stored.net.domains)) (x ∷ y ∷ [])
two_are stored sound one other x y p q =
    let Is = IsArgument (length stored.net.domains) in
    let names = (content_now stored).names in
    let long = names_long stored sound in
    All-cons Is x (y ∷ []) (named_argument names (length stored.net.domains) long one x p)
    (All-cons Is y [] (named_argument names (length stored.net.domains) long other y q) (All-nil Is))

pub three_are : (stored : Stored) → IsSnapshot (snapshot_of stored) → (one other third : VarName) (x y z : NetArg) → IsNamedArgument (content_now stored).names (Variable one) x
    → IsNamedArgument (content_now stored).names (Variable other) y → IsNamedArgument (content_now stored).names (Variable third) z → All (IsArgument (length stored.net.domains)) (x ∷ y ∷ z ∷ [])
three_are stored sound one other third x y z p q r =
    let Is = IsArgument (length stored.net.domains) in
    All-cons Is x (y ∷ z ∷ []) (named_argument (content_now stored).names (length stored.net.domains) (names_long stored sound) one x p) (two_are stored sound other third y z q r)

-- at each place there is a token of some name
pub named_at : (tokens : TokenList) (place : ℕ) → place < length tokens → slice_get (token_names tokens) place ≡ Some (name_at (token_names tokens) place)
named_at tokens place below =
    let long = length_names tokens in
    slice_get-get_or (token_names tokens) place (record { root = 0; steps = [] }) (omega (arith, below, long))

-- a variable whose key is there is there by its name
pub keys_are_named : KeysAreNamed
keys_are_named stored key there =
    let named = named_variable (content_now stored).tokens in
    let at = get_from_contains stored.keys key there in
    contains_from_get (content_now stored).names at.0 (named key) (slice_get-map named stored.keys at.0 ∙ ap (option_map named) at.1)

-- and so is a term that means it
pub named_terms_are_there : NamedTermsAreThere
named_terms_are_there content context term one means there = λ other also.
    let argument = means_once context term (Variable one) (Variable other) means also in
    let same : one ≡ other = cc in
    subst (Contains content.names) same there
