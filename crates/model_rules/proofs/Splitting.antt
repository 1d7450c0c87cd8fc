-- Entries one after another.
use Rattle.std.specs.Prelude.{nat_le}
use Rattle.std.proofs.lemmas.Bool.Decides.{nat_tests}
use Rattle.std.proofs.Common.{◌≡◌, ◌↔◌, IsTrue, Bool, true, ℕ, zero, suc, ◌+◌, ◌<◌, ◌≤◌, List, [], ◌∷◌, ◌++◌, length, get_or, drop, refl, sym, ap, ◌∙◌, subst, arith, append_assoc, append-nil}
use Rattle.model_core.specs.declared.item.Item.{Item as AnItem}
use Rattle.model_core.specs.declared.model.Model.{Model}
use Rattle.model_core.specs.declared.rule.Entry.{Entry}
use Rattle.model_core.specs.declared.rule.Entry.TheVariants.{Slot, Local, Item, Branch}
use Rattle.model_core.specs.declared.rule.Guard.{Guard}
use Rattle.model_core.specs.declared.rule.Rule.{Rule}
use Rattle.model_core.specs.Block.{plain_entries, with_entry}
use Rattle.model_core.specs.Blocks.{direct}
use Rattle.model_core.specs.Entries.{Entries, NoEntry, WithBranch}
use Rattle.model_rules.specs.Amounts.{amount_of, amount_in, guard_amount, item_amount}
use Rattle.model_rules.specs.declared.amounts.Amount.{Amount}
use Rattle.model_rules.specs.declared.amounts.Amount.TheVariants.{Items, Guards}
use Rattle.model_rules.specs.declared.names.Name.{Name}
use Rattle.model_rules.specs.declared.numbers.Sort.{Sort}
use Rattle.model_rules.specs.declared.numbers.Sort.TheVariants.{Slots, Locals}
use Rattle.model_rules.specs.Nested.{names_of, AreLawfulEntries, IsGuardAmong, IsLawfulBlock, IsSmall}
use Rattle.model_rules.specs.Numbered.{numbers_of}

drop_next : {X : Type 0} (xs : List X) (i : ℕ) (x : X) → i < length xs → x ≡ get_or xs i x → drop i xs ≡ x ∷ drop (suc i) xs
drop_next [] i x below is = absurd (omega arith)
drop_next (y ∷ xs) zero x below is = ap (λ z. z ∷ xs) (sym is)
drop_next (y ∷ xs) (suc i) x below is = drop_next xs i x (omega arith) is

pub drop_at : {X : Type 0} (xs : List X) (i : ℕ) (x : X) → i < length xs → x ≡ get_or xs i x → drop i xs ≡ x ∷ drop (i + 1) xs
drop_at xs i x below is = let on : suc i ≡ i + 1 = omega arith in drop_next xs i x below is ∙ ap (λ n. x ∷ drop n xs) on

pub drop_past : {X : Type 0} (xs : List X) (i : ℕ) → length xs ≤ i → drop i xs ≡ []
drop_past [] zero past = refl
drop_past [] (suc i) past = refl
drop_past (x ∷ xs) zero past = absurd (omega arith)
drop_past (x ∷ xs) (suc i) past = drop_past xs i (omega arith)

-- ---- what each entry adds

pub names_split : (entry : Entry) (more : Entries) → names_of (with_entry entry more) ≡ names_of (with_entry entry NoEntry) ++ names_of more
names_split (Slot number) more = refl
names_split (Local number) more = refl
names_split (Item item) more = refl
names_split (Branch guard then otherwise) more = refl

pub numbers_split : (sort : Sort) (entry : Entry) (more : Entries) → numbers_of sort (with_entry entry more) ≡ numbers_of sort (with_entry entry NoEntry) ++ numbers_of sort more
numbers_split Slots (Slot number) more = refl
numbers_split Locals (Slot number) more = refl
numbers_split Slots (Local number) more = refl
numbers_split Locals (Local number) more = refl
numbers_split Slots (Item item) more = refl
numbers_split Locals (Item item) more = refl
numbers_split sort (Branch guard then otherwise) more =
    sym (ap (λ l. l ++ numbers_of sort more) (ap (λ l. numbers_of sort then ++ l) (append-nil (numbers_of sort otherwise)))
    ∙ append_assoc (numbers_of sort then) (numbers_of sort otherwise) (numbers_of sort more))

pub numbers_none : (sort : Sort) → numbers_of sort NoEntry ≡ []
numbers_none Slots = refl
numbers_none Locals = refl

pub numbers_branch : (sort : Sort) (guard : Guard) (then otherwise : Entries) (old middle new : List ℕ) → middle ≡ old ++ numbers_of sort then → new ≡ middle ++ numbers_of sort otherwise
    → new ≡ old ++ numbers_of sort (WithBranch guard then otherwise NoEntry)
numbers_branch sort guard then otherwise old middle new first second =
    second ∙ (ap (λ l. l ++ numbers_of sort otherwise) first ∙ (append_assoc old (numbers_of sort then) (numbers_of sort otherwise)
    ∙ ap (λ l. old ++ (numbers_of sort then ++ l)) (sym (append-nil (numbers_of sort otherwise)))))

pub amount_split : (amount : Amount) (entry : Entry) (more : Entries) → amount_of amount (with_entry entry more) ≡ amount_in amount entry + amount_of amount more
amount_split Items (Slot number) more = omega arith
amount_split Guards (Slot number) more = omega arith
amount_split Items (Local number) more = omega arith
amount_split Guards (Local number) more = omega arith
amount_split Items (Item item) more = omega arith
amount_split Guards (Item item) more = omega arith
amount_split Items (Branch guard then otherwise) more = omega arith
amount_split Guards (Branch guard then otherwise) more = omega arith

pub amount_branch : (amount : Amount) (guard : Guard) (then otherwise : Entries) → amount_of amount (WithBranch guard then otherwise NoEntry) ≡ guard_amount amount + (amount_of amount then + amount_of amount otherwise)
amount_branch Items guard then otherwise = omega arith
amount_branch Guards guard then otherwise = omega arith

pub slot_amount : (amount : Amount) (number room : ℕ) → room + amount_in amount (Slot number) ≡ room
slot_amount Items number room = omega arith
slot_amount Guards number room = omega arith

pub local_amount : (amount : Amount) (number room : ℕ) → room + amount_in amount (Local number) ≡ room
local_amount Items number room = omega arith
local_amount Guards number room = omega arith

pub amount_item : (amount : Amount) (item : AnItem) → amount_in amount (Item item) ≡ item_amount amount
amount_item Items item = refl
amount_item Guards item = refl

-- ---- lists that are made of what each entry adds

module _ {X : Type 0} (of : Entries → List X) (split : (entry : Entry) (more : Entries) → of (with_entry entry more) ≡ of (with_entry entry NoEntry) ++ of more)
    (none : of NoEntry ≡ []) (entries : List Entry) (i : ℕ) where
  pub entry_added : (entry : Entry) (old now new : List X) → i < length entries → entry ≡ get_or entries i entry → new ≡ now ++ of (with_entry entry NoEntry)
      → now ++ of (plain_entries (drop i entries)) ≡ old ++ of (plain_entries entries) → new ++ of (plain_entries (drop (i + 1) entries)) ≡ old ++ of (plain_entries entries)
  entry_added entry old now new below is adds before =
      let rest : Entries = plain_entries (drop (i + 1) entries) in
      ap (λ l. l ++ of rest) adds ∙ (append_assoc now (of (with_entry entry NoEntry)) (of rest)
      ∙ (ap (λ l. now ++ l) (sym (split entry rest) ∙ ap (λ l. of (plain_entries l)) (sym (drop_at entries i entry below is))) ∙ before))

  pub entries_added : (old now : List X) → length entries ≤ i → now ++ of (plain_entries (drop i entries)) ≡ old ++ of (plain_entries entries) → now ≡ old ++ of (plain_entries entries)
  entries_added old now past before =
      sym (append-nil now) ∙ (ap (λ l. now ++ l) (sym (ap (λ l. of (plain_entries l)) (drop_past entries i past) ∙ none)) ∙ before)

-- ---- room

module _ (amount : Amount) (entries : List Entry) (i : ℕ) (entry : Entry) (below : i < length entries) (is : entry ≡ get_or entries i entry) where
  next_amount : amount_of amount (plain_entries (drop i entries)) ≡ amount_in amount entry + amount_of amount (plain_entries (drop (i + 1) entries))
  next_amount = ap (λ l. amount_of amount (plain_entries l)) (drop_at entries i entry below is) ∙ amount_split amount entry (plain_entries (drop (i + 1) entries))

  pub less_room : (room left less : ℕ) → less + amount_in amount entry ≡ left
      → left + amount_of amount (plain_entries entries) ≡ room + amount_of amount (plain_entries (drop i entries))
      → less + amount_of amount (plain_entries entries) ≡ room + amount_of amount (plain_entries (drop (i + 1) entries))
  less_room room left less takes before = let next = next_amount in omega (arith, next, takes, before)

  pub no_room : (room left : ℕ) → left < amount_in amount entry
      → left + amount_of amount (plain_entries entries) ≡ room + amount_of amount (plain_entries (drop i entries)) → room < amount_of amount (plain_entries entries)
  no_room room left takes before = let next = next_amount in omega (arith, next, takes, before)

pub room_left : (amount : Amount) (entries : List Entry) (i room left : ℕ) → length entries ≤ i
    → left + amount_of amount (plain_entries entries) ≡ room + amount_of amount (plain_entries (drop i entries)) → left + amount_of amount (plain_entries entries) ≡ room
room_left amount entries i room left past before =
    let none = ap (λ l. amount_of amount (plain_entries l)) (drop_past entries i past) in
    let zero_is = nothing amount in
    omega (arith, none, zero_is, before)
  where
    nothing : (a : Amount) → amount_of a NoEntry ≡ 0
    nothing Items = refl
    nothing Guards = refl

-- ---- lawful entries

module _ (model : Model) (pred : ℕ) (rule : Rule) (depth : ℕ) (seen : List Name) where
  abbrev Lawful : Entries → Type 0
  Lawful block = AreLawfulEntries model pred rule depth seen block

  entries_split : (entry : Entry) (more : Entries) → Lawful (with_entry entry more) → Lawful (with_entry entry NoEntry) × Lawful more
  entries_split (Slot number) more are = ((are.0, tt), are.1)
  entries_split (Local number) more are = ((are.0, tt), are.1)
  entries_split (Item item) more are = ((are.0, tt), are.1)
  entries_split (Branch guard then otherwise) more are = ((are.0, tt), are.1)

  entries_join : (entry : Entry) (more : Entries) → Lawful (with_entry entry NoEntry) → Lawful more → Lawful (with_entry entry more)
  entries_join (Slot number) more one rest = (one.0, rest)
  entries_join (Local number) more one rest = (one.0, rest)
  entries_join (Item item) more one rest = (one.0, rest)
  entries_join (Branch guard then otherwise) more one rest = (one.0, rest)

  module _ (entries : List Entry) (i : ℕ) (entry : Entry) (below : i < length entries) (is : entry ≡ get_or entries i entry) where
    parts : Lawful (plain_entries (drop i entries)) → Lawful (with_entry entry NoEntry) × Lawful (plain_entries (drop (i + 1) entries))
    parts are = entries_split entry (plain_entries (drop (i + 1) entries)) (subst (λ (l : List Entry). Lawful (plain_entries l)) (drop_at entries i entry below is) are)

    pub lawful_rest : Lawful (plain_entries entries) ↔ Lawful (plain_entries (drop i entries)) → Lawful (with_entry entry NoEntry)
        → Lawful (plain_entries entries) ↔ Lawful (plain_entries (drop (i + 1) entries))
    lawful_rest before one = (
      λ all. (parts (before.0 all)).1,
      λ rest. before.1 (subst (λ (l : List Entry). Lawful (plain_entries l)) (sym (drop_at entries i entry below is)) (entries_join entry (plain_entries (drop (i + 1) entries)) one rest)),
    )

    pub not_lawful : Lawful (plain_entries entries) ↔ Lawful (plain_entries (drop i entries)) → (Lawful (with_entry entry NoEntry) → ⊥) → Lawful (plain_entries entries) → ⊥
    not_lawful before not all = not (parts (before.0 all)).0

  pub all_lawful : (entries : List Entry) (i : ℕ) → length entries ≤ i → Lawful (plain_entries entries) ↔ Lawful (plain_entries (drop i entries)) → Lawful (plain_entries entries)
  all_lawful entries i past before = before.1 (subst (λ (l : List Entry). Lawful (plain_entries l)) (sym (drop_past entries i past)) tt)

  pub branch_told : (r g a b : Bool) (guard : Guard) (then otherwise thens others : Entries) → thens ≡ then → others ≡ otherwise → IsTrue r ↔ (IsTrue g × IsTrue a × IsTrue b)
      → IsTrue g ↔ IsGuardAmong model pred rule seen guard → IsTrue a ↔ IsLawfulBlock model pred rule (depth + 1) seen thens → IsTrue b ↔ IsLawfulBlock model pred rule (depth + 1) seen others
      → IsTrue r ↔ Lawful (WithBranch guard then otherwise NoEntry)
  branch_told r g a b guard then otherwise thens others same same' all guarded first second = (
    λ told. (let each = all.0 told in ((guarded.0 each.0, subst (IsLawfulBlock model pred rule (depth + 1) seen) same (first.0 each.1), subst (IsLawfulBlock model pred rule (depth + 1) seen) same' (second.0 each.2)), tt)),
    λ lawful. all.1 (guarded.1 lawful.0.0, first.1 (subst (IsLawfulBlock model pred rule (depth + 1) seen) (sym same) lawful.0.1), second.1 (subst (IsLawfulBlock model pred rule (depth + 1) seen) (sym same') lawful.0.2)),
  )

-- ---- small blocks

length-direct : (entries : List Entry) → length (direct (plain_entries entries)) ≡ length entries
length-direct [] = refl
length-direct (Slot number ∷ entries) = let e = length-direct entries in omega (arith, e)
length-direct (Local number ∷ entries) = let e = length-direct entries in omega (arith, e)
length-direct (Item item ∷ entries) = let e = length-direct entries in omega (arith, e)
length-direct (Branch guard then otherwise ∷ entries) = let e = length-direct entries in omega (arith, e)

at_most_is : (n m : ℕ) → nat_le n m ≡ true → n ≤ m
at_most_is n m told = grind (arith, nat_tests)

is_at_most : (n m : ℕ) → n ≤ m → nat_le n m ≡ true
is_at_most n m small = grind (arith, nat_tests)

pub small_told : (depth count : ℕ) (entries : List Entry) → depth < 16 → count ≡ length entries → IsTrue (nat_le count 65536) ↔ IsSmall depth (plain_entries entries)
small_told depth count entries deep same = (
  λ told. (deep, (let small = at_most_is count 65536 told in let e = length-direct entries in omega (arith, small, e, same))),
  λ small. is_at_most count 65536 (let few = small.1 in let e = length-direct entries in omega (arith, few, e, same)),
)
