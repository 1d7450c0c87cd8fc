-- One more of the entries of a block, in the lists of what stands there.
use Rattle.std.proofs.Common.{◌≡◌, ℕ, ◌+◌, ◌<◌, ◌^◌, List, [], ◌∷◌, ◌++◌, length, get_or, drop, map, All, refl, sym, ap, subst, ◌∙◌, add-one, append_assoc, drop-cons}
use Rattle.std.proofs.lemmas.List.Elements.{All-tail}
use Rattle.model_core.specs.declared.item.Item as what
use Rattle.model_core.specs.declared.rule.Entry.{Entry}
use Rattle.model_core.specs.declared.rule.Entry.TheVariants.{Slot, Local, Item, Branch}
use Rattle.model_core.specs.Block.{plain_entries}
use Rattle.model_core.specs.Blocks.{Direct, direct}
use Rattle.rule_engine.specs.Lists.{slots_in, locals_in, item_places}

-- what stands directly in a block
abbrev pub standing : List Entry → List Direct
standing entries = direct (plain_entries entries)

pub next : {A : Type 0} (xs : List A) (i : ℕ) (x : A) → i < length xs → x ≡ get_or xs i x → drop i xs ≡ x ∷ drop (i + 1) xs
next xs i x within is = subst (λ y. drop i xs ≡ y ∷ drop (i + 1) xs) (sym is) (rw add-one (drop-cons xs i x within))

-- a name at the end of those so far, in place of the first of what is left
pub named : {X : Type 0} (name : ℕ → X) (names news all : List X) (number : ℕ) (left rest : List ℕ) → left ≡ number ∷ rest
    → news ≡ names ++ name number ∷ [] → names ++ map name left ≡ all → news ++ map name rest ≡ all
named name names news all number left rest is new old =
    ap (λ xs. xs ++ map name rest) new ∙ (append_assoc names (name number ∷ []) (map name rest) ∙ (ap (λ xs. names ++ map name xs) (sym is) ∙ old))

pub passed : {X : Type 0} (name : ℕ → X) (names news all : List X) (left rest : List ℕ) → left ≡ rest
    → news ≡ names → names ++ map name left ≡ all → news ++ map name rest ≡ all
passed name names news all left rest is new old =
    ap (λ xs. xs ++ map name rest) new ∙ (ap (λ xs. names ++ map name xs) (sym is) ∙ old)

pub small_rest : (number : ℕ) (left rest : List ℕ) → left ≡ number ∷ rest → All (λ n. n < 2 ^ 16) left → All (λ n. n < 2 ^ 16) rest
small_rest number left rest is all = All-tail (λ n. n < 2 ^ 16) number rest (subst (λ xs. All (λ n. n < 2 ^ 16) xs) is all)

pub small_same : (left rest : List ℕ) → left ≡ rest → All (λ n. n < 2 ^ 16) left → All (λ n. n < 2 ^ 16) rest
small_same left rest is all = subst (λ xs. All (λ n. n < 2 ^ 16) xs) is all

other_slots : (entry : Entry) (more : List Entry) → ((slot : ℕ) → entry ≡ Slot slot → ⊥) → slots_in (standing (entry ∷ more)) ≡ slots_in (standing more)
other_slots (Slot slot) more other = absurd (other slot refl)
other_slots (Local local) more other = refl
other_slots (Item item) more other = refl
other_slots (Branch guard then otherwise) more other = refl

other_locals : (entry : Entry) (more : List Entry) → ((local : ℕ) → entry ≡ Local local → ⊥) → locals_in (standing (entry ∷ more)) ≡ locals_in (standing more)
other_locals (Slot slot) more other = refl
other_locals (Local local) more other = absurd (other local refl)
other_locals (Item item) more other = refl
other_locals (Branch guard then otherwise) more other = refl

other_items : (place : ℕ) (entry : Entry) (more : List Entry) → ((item : what.Item) → entry ≡ Item item → ⊥)
    → item_places place (standing (entry ∷ more)) ≡ item_places (place + 1) (standing more)
other_items place (Slot slot) more other = refl
other_items place (Local local) more other = refl
other_items place (Item item) more other = absurd (other item refl)
other_items place (Branch guard then otherwise) more other = refl

module _ (entries : List Entry) (i : ℕ) (entry : Entry) (within : i < length entries) (is : entry ≡ get_or entries i entry) where
  pub slot_first : (slot : ℕ) → entry ≡ Slot slot → slots_in (standing (drop i entries)) ≡ slot ∷ slots_in (standing (drop (i + 1) entries))
  slot_first slot sort =
      ap (λ xs. slots_in (standing xs)) (next entries i entry within is)
      ∙ subst (λ e. slots_in (standing (e ∷ drop (i + 1) entries)) ≡ slot ∷ slots_in (standing (drop (i + 1) entries))) (sym sort) refl

  pub slot_none : ((slot : ℕ) → entry ≡ Slot slot → ⊥) → slots_in (standing (drop i entries)) ≡ slots_in (standing (drop (i + 1) entries))
  slot_none other = ap (λ xs. slots_in (standing xs)) (next entries i entry within is) ∙ other_slots entry (drop (i + 1) entries) other

  pub local_first : (local : ℕ) → entry ≡ Local local → locals_in (standing (drop i entries)) ≡ local ∷ locals_in (standing (drop (i + 1) entries))
  local_first local sort =
      ap (λ xs. locals_in (standing xs)) (next entries i entry within is)
      ∙ subst (λ e. locals_in (standing (e ∷ drop (i + 1) entries)) ≡ local ∷ locals_in (standing (drop (i + 1) entries))) (sym sort) refl

  pub local_none : ((local : ℕ) → entry ≡ Local local → ⊥) → locals_in (standing (drop i entries)) ≡ locals_in (standing (drop (i + 1) entries))
  local_none other = ap (λ xs. locals_in (standing xs)) (next entries i entry within is) ∙ other_locals entry (drop (i + 1) entries) other

  pub item_first : (item : what.Item) → entry ≡ Item item → item_places i (standing (drop i entries)) ≡ i ∷ item_places (i + 1) (standing (drop (i + 1) entries))
  item_first item sort =
      ap (λ xs. item_places i (standing xs)) (next entries i entry within is)
      ∙ subst (λ e. item_places i (standing (e ∷ drop (i + 1) entries)) ≡ i ∷ item_places (i + 1) (standing (drop (i + 1) entries))) (sym sort) refl

  pub item_none : ((item : what.Item) → entry ≡ Item item → ⊥) → item_places i (standing (drop i entries)) ≡ item_places (i + 1) (standing (drop (i + 1) entries))
  item_none other = ap (λ xs. item_places i (standing xs)) (next entries i entry within is) ∙ other_items i entry (drop (i + 1) entries) other
