-- What a store gives a variable.
use Rattle.std.proofs.Common.{◌≡◌, ℕ, ◌<◌, ◌≤◌, List, length, slice_get, Option, Some, None, sym, ap, ◌∙◌, subst, arith}
use Rattle.std.specs.Prelude.{Contains, MatchOption}
use Rattle.std.specs.Option.{option_map}
use Rattle.std.proofs.lemmas.List.Elements.{All-contains}
use Rattle.std.proofs.lemmas.Option.{slice_get-map, slice_get_within}
use denote.Bor.{Bor}
use Rattle.domain_core.specs.Domain.{Domain}
use Rattle.eu_name.specs.declared.name.Part.{Part}
use Rattle.eu_name.specs.declared.name.Part.TheVariants.{Object}
use Rattle.eu_name.specs.declared.name.TokenName.{TokenName}
use Rattle.eu_name.specs.declared.name.VarName.{VarName}
use Rattle.eu_name.specs.declared.name.VarName.TheVariants as name
use Rattle.model_core.specs.State.{Gives}
use Rattle.token_store.specs.Orders.{name_at}
use Rattle.token_store.specs.Tokens.{tokens_now, token_names}
use Rattle.model_core.specs.Content.{shown}
use Rattle.db_store.specs.Keys.{named_variable, IsKeyBelow}
use Rattle.db_store.specs.Stores.{Stored, snapshot_of, IsSnapshot}
use Rattle.db_store.specs.declared.key.VarKey.{VarKey}
use Rattle.db_store.specs.declared.key.VarKey.TheVariants as key
use Rattle.db_store.proofs.Lists.{contains_at, unmapped}
use Rattle.db_store.proofs.Naming.{same_key, length_names, names_are_once, names_have_one_number, gives_by_number}
use Rattle.db_posting.specs.Origins.{content_now}

some_of : {X : Type 0} (one other : X) → Some one ≡ Some other → one ≡ other
some_of one other same = cc

module _ (stored : Stored) (is : IsSnapshot (snapshot_of stored)) where
  abbrev names : List TokenName
  names = token_names (tokens_now stored.past)

  -- the key of a variable that is given a domain
  pub given_key : (one : VarName) (domain : Domain) → Gives (shown (content_now stored)) one domain
      → (found : VarKey) × Contains stored.keys found × IsKeyBelow (length (tokens_now stored.past)) found × (named_variable names found ≡ one)
  given_key one domain gives =
      let at = (gives_by_number (content_now stored) one domain).0 gives in
      let from = unmapped (named_variable names) stored.keys at.0 one at.1 in
      let there = contains_at stored.keys at.0 from.0 from.1 in
      (from.0, there, All-contains (IsKeyBelow (length (tokens_now stored.past))) stored.keys from.0 is.placed there, from.2)

  pub key_nowhere : (one : VarKey) → IsKeyBelow (length (tokens_now stored.past)) one → (Contains stored.keys one → ⊥)
      → (domain : Domain) → Gives (shown (content_now stored)) (named_variable names one) domain → ⊥
  key_nowhere one below nowhere domain gives =
      let found = given_key (named_variable names one) domain gives in
      let long = length_names (tokens_now stored.past) in
      let same = same_key names is.tokens_once found.0 one (subst (λ n. IsKeyBelow n found.0) (sym long) found.2)
      (subst (λ n. IsKeyBelow n one) (sym long) below) found.3 in
      nowhere (subst (Contains stored.keys) same found.1)

  pub key_gives : (one : VarKey) (number : ℕ) (domain : Domain) → slice_get stored.keys number ≡ Some one → slice_get stored.net.domains number ≡ Some domain
      → Gives (shown (content_now stored)) (named_variable names one) domain
  key_gives one number domain at given =
      (gives_by_number (content_now stored) (named_variable names one) domain).1
      (number, slice_get-map (named_variable names) stored.keys number ∙ ap (option_map (named_variable names)) at, given)

  pub domain_told : (one : VarKey) (number : ℕ) → slice_get stored.keys number ≡ Some one → (found : Option (Bor Domain))
      → MatchOption found (length stored.net.domains ≤ number) (λ domain. slice_get stored.net.domains number ≡ Some domain.now)
      → MatchOption found ((domain : Domain) → Gives (shown (content_now stored)) (named_variable names one) domain → ⊥)
      (λ domain. Gives (shown (content_now stored)) (named_variable names one) domain.now)
  domain_told one number at (Some domain) given = key_gives one number domain.now at given
  domain_told one number at None past = absurd (omega (arith, past, is.count, slice_get_within stored.keys number one at))

  pub gives_same : (one : VarName) (domain other : Domain) → Gives (shown (content_now stored)) one domain → Gives (shown (content_now stored)) one other → domain ≡ other
  gives_same one domain other first second =
      let at = (gives_by_number (content_now stored) one domain).0 first in
      let at' = (gives_by_number (content_now stored) one other).0 second in
      let number : at.0 ≡ at'.0 = names_have_one_number (content_now stored) one at.0 at'.0 (names_are_once (snapshot_of stored) is) at.1 at'.1 in
      some_of domain other (sym at.2 ∙ ap (slice_get stored.net.domains) number ∙ at'.2)

  -- the place of the token of a part
  part_place : (found : VarKey) (token : TokenName) (part : Part) → IsKeyBelow (length (tokens_now stored.past)) found → named_variable names found ≡ name.Token token part
      → (place : ℕ) × (found ≡ key.Part place part) × (place < length (tokens_now stored.past)) × (name_at names place ≡ token)
  part_place (key.Global number) token part below same = absurd (cc)
  part_place (key.Local place rule number) token part below same = absurd (cc)
  part_place (key.Part place other) token part below same = (place, ap (key.Part place) (let p : other ≡ part = cc in p), below, cc)

  -- the place of a token whose object is given a domain, and the number of the variable
  pub object_place : (token : TokenName) (domain : Domain) → Gives (shown (content_now stored)) (name.Token token Object) domain
      → (place : ℕ) × (number : ℕ) × (slice_get stored.keys number ≡ Some (key.Part place Object)) × (slice_get stored.net.domains number ≡ Some domain)
      × (place < length (tokens_now stored.past)) × (name_at names place ≡ token)
  object_place token domain gives =
      let at = (gives_by_number (content_now stored) (name.Token token Object) domain).0 gives in
      let from = unmapped (named_variable names) stored.keys at.0 (name.Token token Object) at.1 in
      let there = contains_at stored.keys at.0 from.0 from.1 in
      let below = All-contains (IsKeyBelow (length (tokens_now stored.past))) stored.keys from.0 is.placed there in
      let place = part_place from.0 token Object below from.2 in
      (place.0, at.0, from.1 ∙ ap Some place.1, at.2, place.2, place.3)
