-- Where what tokens do to resources is as it was, actors and their variables are those that were, and reusables fit as they did.
use Rattle.std.proofs.Common.{◌≡◌, ℕ, zero, suc, ◌<◌, ℤ, pos, List, [], ◌∷◌, ◌++◌, inl, inr, length, Some, get_or, slice_get, sym, ap, ◌∙◌, subst, arith}
use Rattle.std.specs.Prelude.{Contains, AllPairs}
use Rattle.std.specs.Option.{option_map}
use Rattle.std.proofs.lemmas.Int.{ints}
use Rattle.std.proofs.lemmas.List.{length-map, get_or_append_left}
use Rattle.std.proofs.lemmas.List.Elements.{All-contains, Contains-append_left, Contains-append_right, Contains-push_cases}
use Rattle.std.proofs.lemmas.Option.{slice_get-map, slice_get-get_or, slice_get_within, get_or_from_slice_get}
use Rattle.domain_core.specs.Domain.{Domain, Range}
use Rattle.eu_name.specs.declared.name.Part.{Part}
use Rattle.eu_name.specs.declared.name.Part.TheVariants.{Start, End, Object, Param}
use Rattle.eu_name.specs.declared.name.TokenName.{TokenName}
use Rattle.eu_name.specs.declared.name.VarName.TheVariants.{Token}
use Rattle.eu_name.specs.NameOrder.{IsTokenBefore}
use Rattle.model_core.specs.declared.class.PredKind.{PredKind}
use Rattle.model_core.specs.declared.class.PredKind.TheVariants.{Uses}
use Rattle.model_core.specs.declared.decision.Decision.{Decision}
use Rattle.model_core.specs.declared.decision.Decision.TheVariants.{Activate}
use Rattle.model_core.specs.declared.model.Model.{Model}
use Rattle.model_core.specs.Decided.{IsActive}
use Rattle.model_core.specs.State.{Gives}
use Rattle.token_store.specs.Orders.{name_at}
use Rattle.token_store.specs.Tokens.{tokens_now, token_names, token_states}
use Rattle.token_store.specs.declared.trail.Token.{Token as Kept}
use Rattle.plan_defs.specs.Unordered.{AreDecidedOnce}
use Rattle.plan_defs.specs.Resources.{IsActor, SurelyUses, IsShare, KeepsCapacity, FitReusables}
use Rattle.eu_name.proofs.Members.{get_from_contains, contains_from_get, get_below, get_within}
use Rattle.model_core.specs.Content.{Content, shown, AreAlike}
use Rattle.plan_defs.proofs.Chosen.{filled}
use Rattle.db_posting.specs.Underway.{IsAtRest}
use Rattle.db_store.specs.declared.key.VarKey.{VarKey}
use Rattle.db_store.specs.declared.key.VarKey.TheVariants as key
use Rattle.db_store.specs.Keys.{named_variable, IsKeyBelow}
use Rattle.db_store.specs.Stamps.{StampsGoOn}
use Rattle.db_store.specs.Stores.{Stored, snapshot_of, IsSnapshot, named_content, variable_names}
use Rattle.db_store.proofs.Lists.{contains_at, unmapped}
use Rattle.db_store.proofs.Naming.{gives_by_number, names_are_once, length_names}
use Rattle.db_refusals.specs.Judging.{AreTold, IsKeptAs}
use Rattle.db_refusals.proofs.Resting.{rest_told}
use Rattle.db_refusals.proofs.Told.{active_kept}
use Rattle.db_refusals.specs.Seeing.{seen_state}
use Rattle.db_refusals.proofs.Seen.{put_in_order, name_stands}
use Rattle.db_resources.specs.declared.touched.Resources.{Resources}
use Rattle.db_resources.specs.declared.touched.Resources.TheVariants.{Reusables}
use Rattle.db_resources.specs.Touching.{ActsOn, IsIdleAt, AreActorsAsBefore}

-- ---- variables of tokens in one store

abbrev pub nameless : TokenName
nameless = record { root = 0; steps = [] }

-- a key whose name is a part of a token is that of the part, at the place of the token
owner : (names : List TokenName) (of : VarKey) (token : TokenName) (part : Part) → named_variable names of ≡ Token token part
    → (place : ℕ) × (of ≡ key.Part place part) × (name_at names place ≡ token)
owner names (key.Global number) token part is = absurd (cc)
owner names (key.Part place other) token part is = (place, (let same : other ≡ part = cc in λ i. key.Part place (same i)), cc)
owner names (key.Local place rule number) token part is = absurd (cc)

-- what stands at a place does so in a longer list
get_front : {X : Type 0} (xs more : List X) (place : ℕ) (x : X) → slice_get xs place ≡ Some x → slice_get (xs ++ more) place ≡ Some x
get_front [] more place x at = absurd (cc)
get_front (y ∷ xs) more zero x at = at
get_front (y ∷ xs) more (suc place) x at = get_front xs more place x at

module _ (stored : Stored) (is : IsSnapshot (snapshot_of stored)) where
  abbrev content : Content
  content = named_content (snapshot_of stored)

  abbrev pub names : List TokenName
  names = token_names (tokens_now stored.past)

  pub alike : AreAlike (shown content) (seen_state stored)
  alike = (put_in_order content (names_are_once (snapshot_of stored) is)).alike

  pub ordered : AllPairs IsTokenBefore (seen_state stored).tokens
  ordered = (put_in_order content (names_are_once (snapshot_of stored) is)).order.tokens

  -- where the domain of a part of a token stands
  record StandsAt (token : TokenName) (part : Part) (domain : Domain) : Type 0 where
    number : ℕ
    named : slice_get (variable_names (snapshot_of stored)) number ≡ Some (Token token part)
    given : slice_get stored.net.domains number ≡ Some domain
    place : ℕ
    keyed : slice_get stored.keys number ≡ Some (key.Part place part)
    at : slice_get names place ≡ Some token

  stands_at : (token : TokenName) (part : Part) (domain : Domain) → Gives (seen_state stored) (Token token part) domain → StandsAt token part domain
  stands_at token part domain gives =
      let found = (gives_by_number content (Token token part) domain).0 ((alike.gives (Token token part) domain).1 gives) in
      let keyed = unmapped (named_variable names) stored.keys found.0 (Token token part) found.1 in
      let owned = owner names keyed.0 token part keyed.2 in
      let here = subst (λ (of : VarKey). slice_get stored.keys found.0 ≡ Some of) owned.1 keyed.1 in
      let long = length_names (tokens_now stored.past) in
      let below : owned.0 < length (tokens_now stored.past) =
      All-contains (IsKeyBelow (length (tokens_now stored.past))) stored.keys (key.Part owned.0 part) is.placed (contains_at stored.keys found.0 (key.Part owned.0 part) here) in
      record {
        number = found.0;
        named = found.1;
        given = found.2;
        place = owned.0;
        keyed = here;
        at = name_stands names owned.0 (omega (arith, below, long)) ∙ ap Some owned.2;
      }

  gives_from : (token : TokenName) (part : Part) (domain : Domain) (number : ℕ) → slice_get (variable_names (snapshot_of stored)) number ≡ Some (Token token part)
      → slice_get stored.net.domains number ≡ Some domain → Gives (seen_state stored) (Token token part) domain
  gives_from token part domain number named given =
      (alike.gives (Token token part) domain).0 ((gives_by_number content (Token token part) domain).1 (number, named, given))

  gives_at : (token : TokenName) (part : Part) (domain : Domain) (number place : ℕ) → slice_get stored.keys number ≡ Some (key.Part place part)
      → name_at names place ≡ token → slice_get stored.net.domains number ≡ Some domain → Gives (seen_state stored) (Token token part) domain
  gives_at token part domain number place keyed owned given =
      gives_from token part domain number
      (slice_get-map (named_variable names) stored.keys number ∙ ap (option_map (named_variable names)) keyed ∙ ap (λ (t : TokenName). Some (Token t part)) owned) given

  pub token_there : (token : TokenName) (part : Part) (domain : Domain) → Gives (seen_state stored) (Token token part) domain → Contains (seen_state stored).tokens token
  token_there token part domain gives =
      let stands = stands_at token part domain gives in
      (alike.tokens token).0 (contains_from_get names stands.place token stands.at)

-- ---- from one store to the one that it went on as

module _ (former stored : Stored) (was : IsSnapshot (snapshot_of former)) (is : IsSnapshot (snapshot_of stored)) (on : StampsGoOn former stored) where
  pub names_still : (token : TokenName) → Contains (names former was) token → Contains (names stored is) token
  names_still token there =
      subst (λ (list : List TokenName). Contains list token) (sym on.names.1) (Contains-append_left (names former was) on.names.0 token there)

  pub tokens_still : (token : TokenName) → Contains (seen_state former).tokens token → Contains (seen_state stored).tokens token
  tokens_still token there = ((alike stored is).tokens token).0 (names_still token (((alike former was).tokens token).1 there))

  -- a token that had a place has the same name there
  pub name_still : (place : ℕ) → place < length (names former was) → name_at (names stored is) place ≡ name_at (names former was) place
  name_still place below =
      ap (λ (list : List TokenName). name_at list place) on.names.1 ∙ get_or_append_left (names former was) on.names.0 nameless place below

module _ (decisions earlier : List Decision) (last : Decision) (longer : decisions ≡ earlier ++ last ∷ []) where
  pub taken_still : (decision : Decision) → Contains earlier decision → Contains decisions decision
  taken_still decision there = subst (λ (list : List Decision). Contains list decision) (sym longer) (Contains-append_left earlier (last ∷ []) decision there)

  pub taken_before : (decision : Decision) → (last ≡ decision → ⊥) → Contains decisions decision → Contains earlier decision
  taken_before decision apart there =
      elim (Contains-push_cases earlier last decision (subst (λ (list : List Decision). Contains list decision) longer there)) [
        | inl old ↦ old
        | inr this ↦ absurd (apart this)
      ]

  pub active_still : (model : Model) (token : TokenName) → IsActive model earlier token → IsActive model decisions token
  active_still model token (inl fact) = inl fact
  active_still model token (inr activated) = inr (taken_still (Activate token) activated)

module _ (resources : Resources) (model : Model) (decisions earlier : List Decision) (last : Decision) (former stored : Stored) (longer : decisions ≡ earlier ++ last ∷ [])
    (was : IsSnapshot (snapshot_of former)) (is : IsSnapshot (snapshot_of stored)) (once : AreDecidedOnce model decisions)
    (rest : IsAtRest model decisions stored.net.tables (snapshot_of stored)) (on : StampsGoOn former stored)
    (same : AreActorsAsBefore resources model stored last (snapshot_of former)) (kind : PredKind) (acts : ActsOn resources kind) where
  told : AreTold model decisions (snapshot_of stored)
  told = rest_told model decisions stored.net.tables (snapshot_of stored) once rest

  -- an actor isn't idle
  busy : (place : ℕ) (token : TokenName) → slice_get (names stored is) place ≡ Some token → IsActor model decisions kind token
      → IsIdleAt resources model (tokens_now stored.past) place → ⊥
  busy place token named actor idle =
      let tokens = tokens_now stored.past in
      let below = get_below (token_names tokens) place token named in
      let few = length_names tokens in
      let long = length-map tokens (λ (each : TokenName × Kept). each.1.state) in
      let state = get_within (token_states tokens) place (omega (arith, below, few, long)) in
      let kept : IsKeptAs tokens token state.0 = record { place = place; named = named; kept = state.1 } in
      idle state.0 state.1 (active_kept model decisions (snapshot_of stored) told token state.0 kept actor.active)
      actor.slot.pred actor.predicate (rest.underway.preds place token actor.slot named actor.has_token) actor.is_predicate
      (subst (ActsOn resources) (sym actor.is_kind) acts)

  -- it was one before
  pub actor_before : (token : TokenName) → IsActor model decisions kind token → IsActor model earlier kind token
  actor_before token actor = record {
    active = before actor.active;
    slot = actor.slot;
    has_token = actor.has_token;
    predicate = actor.predicate;
    is_predicate = actor.is_predicate;
    is_kind = actor.is_kind;
  }
    where
      begins : last ≡ Activate token → ⊥
      begins this =
          let activated : Contains decisions (Activate token) = subst (λ (list : List Decision). Contains list (Activate token)) (sym longer)
          (Contains-append_right earlier (last ∷ []) (Activate token) (0, omega arith, this)) in
          let there = get_from_contains (token_names (tokens_now stored.past)) token (told.taken token (inl activated)) in
          same.begun token there.0 this there.1 actor.slot.pred actor.predicate
          (rest.underway.preds there.0 token actor.slot there.1 actor.has_token) actor.is_predicate (subst (ActsOn resources) (sym actor.is_kind) acts)

      before : IsActive model decisions token → IsActive model earlier token
      before (inl fact) = inl fact
      before (inr activated) = inr (taken_before decisions earlier last longer (Activate token) begins activated)

  -- and what was one still is
  pub actor_still : (token : TokenName) → IsActor model earlier kind token → IsActor model decisions kind token
  actor_still token actor = record {
    active = active_still decisions earlier last longer model token actor.active;
    slot = actor.slot;
    has_token = actor.has_token;
    predicate = actor.predicate;
    is_predicate = actor.is_predicate;
    is_kind = actor.is_kind;
  }

  -- its parts had the domains that they have
  pub part_before : (token : TokenName) (part : Part) (domain : Domain) → IsActor model decisions kind token → Gives (seen_state stored) (Token token part) domain
      → Gives (seen_state former) (Token token part) domain
  part_before token part domain actor gives =
      let stands = stands_at stored is token part domain gives in
      let number = stands.number in
      elim (same.parts number (slice_get_within stored.keys number (key.Part stands.place part) stands.keyed)) [
        | inr idle ↦ absurd (busy stands.place token stands.at actor (idle stands.place part stands.keyed))
        | inl stays ↦ (
            let within = stays.0 in
            let count = was.count in
            let here : VarKey = key.Part stands.place part in
            let keyed : slice_get former.keys number ≡ Some here =
            slice_get-get_or former.keys number here within
            ∙ ap Some (sym (get_or_append_left former.keys on.keys.0 here number within) ∙ sym (ap (λ (list : List VarKey). get_or list number here) on.keys.1)
            ∙ get_or_from_slice_get stored.keys number here here stands.keyed) in
            let long = length_names (tokens_now former.past) in
            let below : stands.place < length (tokens_now former.past) =
            All-contains (IsKeyBelow (length (tokens_now former.past))) former.keys here was.placed (contains_at former.keys number here keyed) in
            let owned : name_at (names former was) stands.place ≡ token =
            sym (name_still former stored was is on stands.place (omega (arith, below, long))) ∙ get_or_from_slice_get (names stored is) stands.place token nameless stands.at in
            let kept : slice_get former.net.domains number ≡ Some domain =
            slice_get-get_or former.net.domains number (Range (pos 0) (pos 0)) (omega (arith, within, count))
            ∙ ap Some (sym stays.1 ∙ get_or_from_slice_get stored.net.domains number domain (Range (pos 0) (pos 0)) stands.given) in
            gives_at former was token part domain number stands.place keyed owned kept)
      ]

  -- and have those that they had
  pub part_still : (token : TokenName) (part : Part) (domain : Domain) → IsActor model decisions kind token → Gives (seen_state former) (Token token part) domain
      → Gives (seen_state stored) (Token token part) domain
  part_still token part domain actor gives =
      let stands = stands_at former was token part domain gives in
      let number = stands.number in
      let here : VarKey = key.Part stands.place part in
      let keyed : slice_get stored.keys number ≡ Some here =
      subst (λ (list : List VarKey). slice_get list number ≡ Some here) (sym on.keys.1) (get_front former.keys on.keys.0 number here stands.keyed) in
      let at : slice_get (names stored is) stands.place ≡ Some token =
      subst (λ (list : List TokenName). slice_get list stands.place ≡ Some token) (sym on.names.1) (get_front (names former was) on.names.0 stands.place token stands.at) in
      let within = slice_get_within stored.keys number here keyed in
      elim (same.parts number within) [
        | inr idle ↦ absurd (busy stands.place token at actor (idle stands.place part keyed))
        | inl stays ↦ (
            let count = is.count in
            let kept : slice_get stored.net.domains number ≡ Some domain =
            slice_get-get_or stored.net.domains number (Range (pos 0) (pos 0)) (omega (arith, within, count))
            ∙ ap Some (stays.1 ∙ get_or_from_slice_get former.net.domains number domain (Range (pos 0) (pos 0)) stands.given) in
            gives_at stored is token part domain number stands.place keyed (get_or_from_slice_get (names stored is) stands.place token nameless at) kept)
      ]

-- ---- reusables

module _ (model : Model) (decisions earlier : List Decision) (last : Decision) (former stored : Stored) (longer : decisions ≡ earlier ++ last ∷ [])
    (was : IsSnapshot (snapshot_of former)) (is : IsSnapshot (snapshot_of stored)) (once : AreDecidedOnce model decisions)
    (rest : IsAtRest model decisions stored.net.tables (snapshot_of stored)) (on : StampsGoOn former stored)
    (same : AreActorsAsBefore Reusables model stored last (snapshot_of former)) where
  part : (token : TokenName) (part : Part) (domain : Domain) → IsActor model decisions Uses token → Gives (seen_state stored) (Token token part) domain
      → Gives (seen_state former) (Token token part) domain
  part = part_before Reusables model decisions earlier last former stored longer was is once rest on same Uses tt

  module _ (object instant : ℤ) where
    uses_before : (token : TokenName) (quantity : ℤ) → SurelyUses model decisions (seen_state stored) object instant token quantity
        → SurelyUses model earlier (seen_state former) object instant token quantity
    uses_before token quantity uses = record {
      actor = actor_before Reusables model decisions earlier last former stored longer was is once rest on same Uses tt token uses.actor;
      on = (uses.on.0, part token Object uses.on.0 uses.actor uses.on.1, uses.on.2);
      started = (uses.started.0, part token Start uses.started.0 uses.actor uses.started.1, uses.started.2);
      not_ended = (uses.not_ended.0, part token End uses.not_ended.0 uses.actor uses.not_ended.1, uses.not_ended.2);
      least = (uses.least.0, part token (Param 0) uses.least.0 uses.actor uses.least.1, uses.least.2);
    }

    share_still : (token : TokenName) (share : ℤ) → IsShare model earlier (seen_state former) object instant token share
        → IsShare model decisions (seen_state stored) object instant token share
    share_still token share is_share = record { none = is_share.none; enough = λ quantity uses. is_share.enough quantity (uses_before token quantity uses) }

    share_none : (token : TokenName) → (Contains (seen_state former).tokens token → ⊥) → IsShare model decisions (seen_state stored) object instant token (pos 0)
    share_none token none = record {
      none = omega (arith, ints);
      enough = λ quantity uses. let before = uses_before token quantity uses in absurd (none (token_there former was token Start before.started.0 before.started.1));
    }

    capacity_still : (capacity : ℤ) → KeepsCapacity model earlier (seen_state former) object instant capacity
        → KeepsCapacity model decisions (seen_state stored) object instant capacity
    capacity_still capacity keeps =
        let more = filled (IsShare model earlier (seen_state former) object instant) (IsShare model decisions (seen_state stored) object instant)
        (seen_state stored).tokens (seen_state former).tokens (ordered stored is) (ordered former was) (tokens_still former stored was is on)
        (record { shared = λ token number there is_share. share_still token number is_share; idle = λ token there none. share_none token none })
        keeps.shares keeps.are_shares in
        let sums = more.same in
        let enough = keeps.enough in
        record { shares = more.numbers; are_shares = more.are; enough = omega (arith, ints, sums, enough) }

  pub fit_still : FitReusables model earlier (seen_state former) → FitReusables model decisions (seen_state stored)
  fit_still fits value object capacity instant object_is kind at = capacity_still value instant capacity (fits value object capacity instant object_is kind at)
