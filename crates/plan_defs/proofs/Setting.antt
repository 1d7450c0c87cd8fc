-- A variable is given a smaller domain.
use Rattle.std.proofs.Common.{◌≡◌, ℕ, suc, zero, List, [], ◌∷◌, set, Some, inl, inr, refl, sym, ap, ◌∙◌, subst}
use Rattle.std.proofs.lemmas.List.Elements.{All-set}
use Rattle.std.specs.Prelude.{slice_get, Contains, All, AllPairs, ◌⊎◌, ◌↔◌}
use Rattle.domain_core.specs.Domain.{Domain, IsDomain, IsWithin}
use Rattle.domain_core.proofs.Words.{IsWithin-refl}
use Rattle.eu_name.specs.declared.name.TokenName.{TokenName}
use Rattle.eu_name.specs.declared.name.VarName.{VarName}
use Rattle.eu_name.specs.declared.name.VarName.TheVariants.{Token, Local, Global}
use Rattle.eu_name.specs.NameOrder.{IsTokenBefore, IsVarBefore}
use Rattle.model_core.specs.declared.model.Model.{Model}
use Rattle.model_core.specs.declared.rule.Slot.{Slot}
use Rattle.model_core.specs.Blocks.{TokenBlock, IsBlock, IsBlockBefore}
use Rattle.model_core.specs.Entries.{Entries}
use Rattle.model_core.specs.State.{State, VarDomain, Gives, IsAbout, IsState, IsBelow}
use Rattle.model_core.specs.Tokens.{HasToken}
use Rattle.plan_defs.specs.Steps.{Approaches, SetsDomain}
use Rattle.eu_name.proofs.Members.{contains_from_get}
use Rattle.eu_name.proofs.Ordered.{contains_head, contains_later, contains_cases, ordered_head, ordered_tail, ordered_cons}

-- what stands in a list after one item was replaced: the new item, or an item that was there
set_cases : {X : Type 0} (xs : List X) (place : ℕ) (new x : X) → Contains (set xs place new) x → (new ≡ x) ⊎ Contains xs x
set_cases [] place new x c = inr c
set_cases (y ∷ xs) zero new x c = elim (contains_cases new x xs c) [ inl same ↦ inl same | inr later ↦ inr (contains_later y x xs later) ]
set_cases (y ∷ xs) (suc place) new x c = elim (contains_cases y x (set xs place new) c) [
  | inl same ↦ inr (subst (Contains (y ∷ xs)) same (contains_head y xs))
  | inr later ↦ elim (set_cases xs place new x later) [ inl same ↦ inl same | inr there ↦ inr (contains_later y x xs there) ]
]

set_there : {X : Type 0} (xs : List X) (place : ℕ) (old new : X) → slice_get xs place ≡ Some old → Contains (set xs place new) new
set_there [] place old new at = absurd (cc)
set_there (y ∷ xs) zero old new at = contains_head new xs
set_there (y ∷ xs) (suc place) old new at = contains_later y new (set xs place new) (set_there xs place old new at)

-- an item is replaced itself, or it stays
set_keeps : {X : Type 0} (xs : List X) (place : ℕ) (old new x : X) → slice_get xs place ≡ Some old → Contains xs x → (old ≡ x) ⊎ Contains (set xs place new) x
set_keeps [] place old new x at c = absurd (cc)
set_keeps (y ∷ xs) zero old new x at c =
    let first : y ≡ old = cc in
    elim (contains_cases y x xs c) [ inl same ↦ inl (sym first ∙ same) | inr later ↦ inr (contains_later new x xs later) ]
set_keeps (y ∷ xs) (suc place) old new x at c = elim (contains_cases y x xs c) [
  | inl same ↦ inr (subst (Contains (y ∷ set xs place new)) same (contains_head y (set xs place new)))
  | inr later ↦ elim (set_keeps xs place old new x at later) [ inl same ↦ inl same | inr there ↦ inr (contains_later y x (set xs place new) there) ]
]

module _ {X K : Type 0} (key : X → K) (before : K → K → Type 0) where
  abbrev by_key : X → X → Type 0
  by_key one later = before (key one) (key later)

  -- an item of the same key takes another's place in the order
  set_ordered : (xs : List X) (place : ℕ) (old new : X) → slice_get xs place ≡ Some old → key old ≡ key new → AllPairs by_key xs → AllPairs by_key (set xs place new)
  set_ordered [] place old new at same ordered = ordered
  set_ordered (y ∷ xs) zero old new at same ordered =
      let first : y ≡ old = cc in
      ordered_cons by_key new xs (λ z c. subst (λ k. before k (key z)) (ap key first ∙ same) (ordered_head by_key y xs ordered z c)) (ordered_tail by_key y xs ordered)
  set_ordered (y ∷ xs) (suc place) old new at same ordered =
      ordered_cons by_key y (set xs place new) (λ z c. elim (set_cases xs place new z c) [
        | inl is_new ↦ subst (λ k. before (key y) k) (same ∙ ap key is_new) (ordered_head by_key y xs ordered old (contains_from_get xs place old at))
        | inr there ↦ ordered_head by_key y xs ordered z there
      ]) (set_ordered xs place old new at same (ordered_tail by_key y xs ordered))

module _ (old new : State) (name : VarName) (after : Domain) (sets : SetsDomain old name after new) where
  abbrev was : VarDomain
  was = record { name = name; domain = sets.before }

  abbrev is : VarDomain
  is = record { name = name; domain = after }

  gives_after : Gives new name after
  gives_after = subst (λ entries. Contains entries is) (sym sets.entries) (set_there old.entries sets.place was is sets.at)

  gives_before : Gives old name sets.before
  gives_before = contains_from_get old.entries sets.place was sets.at

  -- what the new state gives is the new domain, or was given before
  given : (other : VarName) (domain : Domain) → Gives new other domain → (is ≡ record { name = other; domain = domain }) ⊎ Gives old other domain
  given other domain gives = set_cases old.entries sets.place is (record { name = other; domain = domain }) (subst (λ entries. Contains entries (record { name = other; domain = domain })) sets.entries gives)

  -- what was given before is replaced, or is given still
  still : (other : VarName) (domain : Domain) → Gives old other domain → (was ≡ record { name = other; domain = domain }) ⊎ Gives new other domain
  still other domain gives = elim (set_keeps old.entries sets.place was is (record { name = other; domain = domain }) sets.at gives) [
    | inl replaced ↦ inl replaced
    | inr there ↦ inr (subst (λ entries. Contains entries (record { name = other; domain = domain })) (sym sets.entries) there)
  ]

  -- the same variables have domains
  to_new : (other : VarName) → (domain : Domain) × Gives old other domain → (domain : Domain) × Gives new other domain
  to_new other found = elim (still other found.0 found.1) [
    | inl replaced ↦ (after, subst (λ n. Gives new n after) (ap (λ (e : VarDomain). e.name) replaced) gives_after)
    | inr there ↦ (found.0, there)
  ]

  to_old : (other : VarName) → (domain : Domain) × Gives new other domain → (domain : Domain) × Gives old other domain
  to_old other found = elim (given other found.0 found.1) [
    | inl changed ↦ (sets.before, subst (λ n. Gives old n sets.before) (ap (λ (e : VarDomain). e.name) changed) gives_before)
    | inr there ↦ (found.0, there)
  ]

  lower : IsWithin after sets.before → IsBelow old new
  lower within = record {
    tokens = λ token c. subst (λ tokens. Contains tokens token) (sym sets.tokens) c;
    blocks = λ block c. subst (λ blocks. Contains blocks block) (sym sets.blocks) c;
    variables = λ other domain gives. elim (still other domain gives) [
      | inl replaced ↦ (after, subst (λ n. Gives new n after) (ap (λ (e : VarDomain). e.name) replaced) gives_after, subst (IsWithin after) (ap (λ (e : VarDomain). e.domain) replaced) within)
      | inr there ↦ (domain, there, IsWithin-refl domain)
    ];
  }

  -- the state is about the same variables
  about : (model : Model) (other : VarName) → IsAbout model old other ↔ IsAbout model new other
  about model (Global number) = (λ p. p, λ p. p)
  about model (Token token part) = (λ p. (subst (λ tokens. Contains tokens token) (sym sets.tokens) p.0, p.1), λ p. (subst (λ tokens. Contains tokens token) sets.tokens p.0, p.1))
  about model (Local token rule number) = (
    λ p. record {
      block = p.block;
      is_open = subst (λ blocks. Contains blocks p.block) (sym sets.blocks) p.is_open;
      of_token = p.of_token;
      of_rule = p.of_rule;
      entries = p.entries;
      is_block = p.is_block;
      stands = p.stands;
    },
    λ p. record {
      block = p.block;
      is_open = subst (λ blocks. Contains blocks p.block) sets.blocks p.is_open;
      of_token = p.of_token;
      of_rule = p.of_rule;
      entries = p.entries;
      is_block = p.is_block;
      stands = p.stands;
    },
  )

  abbrev HasItsBlock : Model → List TokenName → TokenBlock → Type 0
  HasItsBlock model tokens block = Contains tokens block.token × ((entries : Entries) × IsBlock model block entries)

  is_state : (model : Model) → IsDomain after → IsState model old → IsState model new
  is_state model domain ok = record {
    order = record {
      tokens = subst (AllPairs IsTokenBefore) (sym sets.tokens) ok.order.tokens;
      blocks = subst (AllPairs IsBlockBefore) (sym sets.blocks) ok.order.blocks;
      entries = subst (AllPairs (λ (one later : VarDomain). IsVarBefore one.name later.name)) (sym sets.entries) (set_ordered (λ (e : VarDomain). e.name) IsVarBefore old.entries sets.place was is sets.at refl ok.order.entries);
    };
    tokens = subst (All (λ token. (slot : Slot) × HasToken model token slot)) (sym sets.tokens) ok.tokens;
    blocks = subst (λ tokens. All (HasItsBlock model tokens) new.blocks) (sym sets.tokens) (subst (All (HasItsBlock model old.tokens)) (sym sets.blocks) ok.blocks);
    variables = λ other. (λ p. to_new other ((ok.variables other).0 ((about model other).1 p)), λ found. (about model other).0 ((ok.variables other).1 (to_old other found)));
    domains = subst (All (λ (e : VarDomain). IsDomain e.domain)) (sym sets.entries) (All-set (λ (e : VarDomain). IsDomain e.domain) old.entries sets.place is domain ok.domains);
  }

  -- a smaller domain in which all fitting states below have theirs is a step
  pub setting_approaches : (model : Model) (fits : State → Type 0) → IsDomain after → IsWithin after sets.before
      → ((low : State) (domain : Domain) → fits low → IsBelow old low → Gives low name domain → IsWithin domain after) → Approaches model fits old new
  setting_approaches model fits domain within keeps = record {
    lower = lower within;
    is_state = is_state model domain;
    keeps = λ low ok below fit. record {
      tokens = λ token c. below.tokens token (subst (λ tokens. Contains tokens token) sets.tokens c);
      blocks = λ block c. below.blocks block (subst (λ blocks. Contains blocks block) sets.blocks c);
      variables = λ other domain gives. elim (given other domain gives) [
        | inl changed ↦ (let found = below.variables name sets.before gives_before in
            (found.0, subst (λ n. Gives low n found.0) (ap (λ (e : VarDomain). e.name) changed) found.1, subst (IsWithin found.0) (ap (λ (e : VarDomain). e.domain) changed) (keeps low found.0 fit below found.1)))
        | inr there ↦ below.variables other domain there
      ];
    };
  }
