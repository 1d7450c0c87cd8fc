-- What is seen from a block, as a list of names.
use Rattle.std.proofs.Common.{◌≡◌, ℕ, zero, suc, ◌↔◌, List, [], ◌∷◌, ◌++◌, slice_get, Some, All, Contains, ◌⊎◌, inl, inr, refl, ap, ◌∙◌, subst, arith}
use Rattle.std.proofs.lemmas.List.Elements.{All-weaker, Contains-append_left, Contains-append_right, Contains-append_cases}
use Rattle.model_core.specs.declared.item.Item.{Item}
use Rattle.model_core.specs.declared.item.Item.TheVariants.{Constraint, Relation}
use Rattle.model_core.specs.declared.item.Term.{Term}
use Rattle.model_core.specs.declared.item.Term.TheVariants as terms
use Rattle.model_core.specs.declared.rule.Turn.{Turn}
use Rattle.model_core.specs.Blocks.{Direct, OfSlot, OfLocal, direct}
use Rattle.model_core.specs.Entries.{Entries, NoEntry, WithSlot, WithLocal, WithItem, WithBranch}
use Rattle.model_core.specs.Standing.{LeadsToBlock, IsSeen, IsTermSeen, IsItemSeen}
use Rattle.model_rules.specs.declared.names.Name.{Name}
use Rattle.model_rules.specs.declared.names.Name.TheVariants as names
use Rattle.model_rules.specs.Nested.{names_of, IsTermAmong, IsItemAmong}
use Rattle.model_rules.proofs.Ways.{follows_once, two_parts, none_before}

-- what stands by the name
abbrev pub meant : Name → Direct
meant (names.Slot number) = OfSlot number
meant (names.Local number) = OfLocal number

-- ---- the names in one block

none_in : {X : Type 0} (x : X) → Contains [] x → ⊥
none_in x has = omega (arith, has.1)

head_in : {X : Type 0} (x : X) (xs : List X) → Contains (x ∷ xs) x
head_in x xs = (0, omega arith, refl)

later_in : {X : Type 0} (y x : X) (xs : List X) → Contains xs x → Contains (y ∷ xs) x
later_in y x xs has = (suc has.0, omega (arith, has.1), has.2)

cases_in : {X : Type 0} (y x : X) (xs : List X) → Contains (y ∷ xs) x → (y ≡ x) ⊎ Contains xs x
cases_in y x xs (zero, below, is) = inl is
cases_in y x xs (suc k, below, is) = inr (k, omega (arith, below), is)

-- it stands directly in the block
abbrev pub StandsIn : Entries → Direct → Type 0
StandsIn block what = (place : ℕ) × (slice_get (direct block) place ≡ Some what)

pub name_stands : (block : Entries) (name : Name) → Contains (names_of block) name → StandsIn block (meant name)
name_stands NoEntry name has = absurd (none_in name has)
name_stands (WithSlot slot more) name has = elim (cases_in (names.Slot slot) name (names_of more) has) [
  | inl same ↦ (0, ap (λ (n : Name). Some (meant n)) same)
  | inr later ↦ (let found = name_stands more name later in (suc found.0, found.1))
]
name_stands (WithLocal local more) name has = elim (cases_in (names.Local local) name (names_of more) has) [
  | inl same ↦ (0, ap (λ (n : Name). Some (meant n)) same)
  | inr later ↦ (let found = name_stands more name later in (suc found.0, found.1))
]
name_stands (WithItem item more) name has = let found = name_stands more name has in (suc found.0, found.1)
name_stands (WithBranch guard then otherwise more) name has = let found = name_stands more name has in (suc found.0, found.1)

slot_meant : (slot : ℕ) (name : Name) → Some (OfSlot slot) ≡ Some (meant name) → names.Slot slot ≡ name
slot_meant slot (names.Slot number) is = cc
slot_meant slot (names.Local number) is = cc

local_meant : (local : ℕ) (name : Name) → Some (OfLocal local) ≡ Some (meant name) → names.Local local ≡ name
local_meant local (names.Slot number) is = cc
local_meant local (names.Local number) is = cc

pub stands_named : (block : Entries) (name : Name) (place : ℕ) → slice_get (direct block) place ≡ Some (meant name) → Contains (names_of block) name
stands_named NoEntry name place at = cc
stands_named (WithSlot slot more) name zero at = subst (Contains (names.Slot slot ∷ names_of more)) (slot_meant slot name at) (head_in (names.Slot slot) (names_of more))
stands_named (WithSlot slot more) name (suc place) at = later_in (names.Slot slot) name (names_of more) (stands_named more name place at)
stands_named (WithLocal local more) name zero at = subst (Contains (names.Local local ∷ names_of more)) (local_meant local name at) (head_in (names.Local local) (names_of more))
stands_named (WithLocal local more) name (suc place) at = later_in (names.Local local) name (names_of more) (stands_named more name place at)
stands_named (WithItem item more) (names.Slot number) zero at = cc
stands_named (WithItem item more) (names.Local number) zero at = cc
stands_named (WithItem item more) name (suc place) at = stands_named more name place at
stands_named (WithBranch guard then otherwise more) (names.Slot number) zero at = cc
stands_named (WithBranch guard then otherwise more) (names.Local number) zero at = cc
stands_named (WithBranch guard then otherwise more) name (suc place) at = stands_named more name place at

-- ---- the names that are seen

-- the list has just the names that are seen from the block to which the path leads
abbrev pub Sees : Entries → List Turn → List Name → Type 0
Sees top path seen = (name : Name) → Contains seen name ↔ IsSeen top path (meant name)

pub top_sees : (top : Entries) → Sees top [] (names_of top)
top_sees top name = (to, from)
  where
    to : Contains (names_of top) name → IsSeen top [] (meant name)
    to has =
        let found = name_stands top name has in
        record { outer = []; inner = []; within = refl; place = found.0; stands = record { block = top; way = refl; stands = found.1 } }

    from : IsSeen top [] (meant name) → Contains (names_of top) name
    from seen =
        let way : LeadsToBlock top [] seen.stands.block = subst (λ (p : List Turn). LeadsToBlock top p seen.stands.block) (none_before seen.outer seen.inner seen.within) seen.stands.way in
        stands_named top name seen.place (subst (λ (b : Entries). slice_get (direct b) seen.place ≡ Some (meant name)) way seen.stands.stands)

pub sees_more : (top : Entries) (base : List Turn) (turn : Turn) (inside : Entries) (seen : List Name) → LeadsToBlock top (base ++ turn ∷ []) inside → Sees top base seen
    → Sees top (base ++ turn ∷ []) (seen ++ names_of inside)
sees_more top base turn inside seen way sees name = (to, from)
  where
    widen : IsSeen top base (meant name) → IsSeen top (base ++ turn ∷ []) (meant name)
    widen is = record {
      outer = is.outer;
      inner = is.inner ++ turn ∷ [];
      within = ap (λ p. p ++ turn ∷ []) is.within ∙ assoc is.outer is.inner (turn ∷ []);
      place = is.place;
      stands = is.stands;
    }
      where
        assoc : (one other more : List Turn) → (one ++ other) ++ more ≡ one ++ (other ++ more)
        assoc [] other more = refl
        assoc (first ∷ one) other more = ap (λ p. first ∷ p) (assoc one other more)

    here : StandsIn inside (meant name) → IsSeen top (base ++ turn ∷ []) (meant name)
    here found = record {
      outer = base ++ turn ∷ [];
      inner = [];
      within = nil (base ++ turn ∷ []);
      place = found.0;
      stands = record { block = inside; way = way; stands = found.1 };
    }
      where
        nil : (path : List Turn) → path ≡ path ++ []
        nil [] = refl
        nil (first ∷ path) = ap (λ p. first ∷ p) (nil path)

    to : Contains (seen ++ names_of inside) name → IsSeen top (base ++ turn ∷ []) (meant name)
    to has = elim (Contains-append_cases seen (names_of inside) name has) [
      | inl before ↦ widen ((sees name).0 before)
      | inr within ↦ here (name_stands inside name within)
    ]

    from : IsSeen top (base ++ turn ∷ []) (meant name) → Contains (seen ++ names_of inside) name
    from is = elim (two_parts base is.outer is.inner turn is.within) [
      | inl whole ↦ (
          let there : LeadsToBlock top (base ++ turn ∷ []) is.stands.block = subst (λ (p : List Turn). LeadsToBlock top p is.stands.block) whole is.stands.way in
          let same : is.stands.block ≡ inside = follows_once top (base ++ turn ∷ []) is.stands.block inside there way in
          Contains-append_right seen (names_of inside) name
          (stands_named inside name is.place (subst (λ (b : Entries). slice_get (direct b) is.place ≡ Some (meant name)) same is.stands.stands)))
      | inr part ↦ Contains-append_left seen (names_of inside) name
          ((sees name).1 (record { outer = is.outer; inner = part.0; within = part.1; place = is.place; stands = is.stands }))
    ]

-- ---- terms and items that name what is seen

module _ (top : Entries) (path : List Turn) (seen : List Name) (sees : Sees top path seen) where
  pub term_seen : (term : Term) → IsTermAmong seen term → IsTermSeen top path term
  term_seen (terms.Slot number part) has = (sees (names.Slot number)).0 has
  term_seen (terms.Local number) has = (sees (names.Local number)).0 has
  term_seen (terms.Lit value) has = tt
  term_seen (terms.Here part) has = tt
  term_seen (terms.Global number) has = tt
  term_seen (terms.Root number part) has = tt

  pub seen_term : (term : Term) → IsTermSeen top path term → IsTermAmong seen term
  seen_term (terms.Slot number part) is = (sees (names.Slot number)).1 is
  seen_term (terms.Local number) is = (sees (names.Local number)).1 is
  seen_term (terms.Lit value) is = tt
  seen_term (terms.Here part) is = tt
  seen_term (terms.Global number) is = tt
  seen_term (terms.Root number part) is = tt

  pub terms_seen : (list : List Term) → All (IsTermAmong seen) list → All (IsTermSeen top path) list
  terms_seen list all = All-weaker (IsTermAmong seen) (IsTermSeen top path) term_seen list all

  pub seen_terms : (list : List Term) → All (IsTermSeen top path) list → All (IsTermAmong seen) list
  seen_terms list all = All-weaker (IsTermSeen top path) (IsTermAmong seen) seen_term list all

  pub item_seen : (item : Item) → IsItemAmong seen item → IsItemSeen top path item
  item_seen (Constraint kind arguments) has = terms_seen arguments has
  item_seen (Relation relation slot) has = (sees (names.Slot slot)).0 has

  pub seen_item : (item : Item) → IsItemSeen top path item → IsItemAmong seen item
  seen_item (Constraint kind arguments) is = seen_terms arguments is
  seen_item (Relation relation slot) is = (sees (names.Slot slot)).1 is
