-- What statements add to a rule, by number.
use Rattle.std.proofs.Common.{◌≡◌, ℕ, ◌+◌, ◌≤◌, List, [], ◌∷◌, ◌++◌, length, map, refl, arith}
use Rattle.std.proofs.lemmas.List.{length-append}
use Rattle.model_core.specs.declared.item.Item.{Item}
use Rattle.model_core.specs.declared.item.Term.{Term}
use Rattle.model_core.specs.declared.item.Term.TheVariants as terms
use Rattle.model_core.specs.declared.rule.Entry.{Entry}
use Rattle.model_core.specs.declared.rule.Entry.TheVariants as entries
use Rattle.model_core.specs.declared.rule.Slot as slots
use Rattle.model_core.specs.declared.variable.VarDecl.{VarDecl}
use Rattle.model_core.specs.Block.{plain_entries}
use Rattle.model_core.specs.Lawful.{guard_count, item_count}
use Rattle.nddl_terms.specs.declared.growth.Growth.{Growth}
use Rattle.nddl_terms.specs.declared.lexicon.Shape.{Shape}
use Rattle.nddl_terms.specs.declared.stands.Made.{Made}
use Rattle.nddl_terms.specs.declared.stands.Stand.{Stand}
use Rattle.nddl_terms.specs.declared.stands.Stand.TheVariants.{Value, Class}
use Rattle.nddl_terms.specs.Growth.{access, unnamed, with_access, with_item, with_next_local, with_slot}
use Rattle.nddl_lower.specs.Arguments.{with_items}
use Rattle.nddl_unroll.specs.Meant.{IsSlotStand}

-- so many slots, locals, items and guards, with so many turns
pub record Extra : Type 0 where
  pub slots : ℕ
  pub locals : ℕ
  pub items : ℕ
  pub guards : ℕ
  pub turns : ℕ

abbrev pub no_extra : Extra
no_extra = record { slots = 0; locals = 0; items = 0; guards = 0; turns = 0 }

abbrev pub extra_and : Extra → Extra → Extra
extra_and one other = record {
  slots = one.slots + other.slots;
  locals = one.locals + other.locals;
  items = one.items + other.items;
  guards = one.guards + other.guards;
  turns = one.turns + other.turns;
}

abbrev pub extra_slot : Extra
extra_slot = record { slots = 1; locals = 0; items = 0; guards = 0; turns = 0 }

abbrev pub extra_local : Extra
extra_local = record { slots = 0; locals = 1; items = 0; guards = 0; turns = 0 }

abbrev pub extra_items : ℕ → Extra
extra_items count = record { slots = 0; locals = 0; items = count; guards = 0; turns = 0 }

-- so many fields that are read
abbrev pub extra_reads : ℕ → Extra
extra_reads count = record { slots = 0; locals = count; items = count; guards = 0; turns = 0 }

-- at most as many slots, locals, items and guards
pub record Within (one other : Extra) : Type 0 where
  pub slots : one.slots ≤ other.slots
  pub locals : one.locals ≤ other.locals
  pub items : one.items ≤ other.items
  pub guards : one.guards ≤ other.guards

-- the same numbers
pub record Same (one other : Extra) : Type 0 where
  pub slots : one.slots ≡ other.slots
  pub locals : one.locals ≡ other.locals
  pub items : one.items ≡ other.items
  pub guards : one.guards ≡ other.guards
  pub turns : one.turns ≡ other.turns

abbrev pub items_in : Growth → ℕ
items_in growth = item_count (plain_entries growth.entries)

abbrev pub guards_in : Growth → ℕ
guards_in growth = guard_count (plain_entries growth.entries)

-- ---- what stands for declarations

-- a value that is known
abbrev pub IsKnownStand : Stand → Type 0
IsKnownStand (Value (terms.Lit value) kind class) = Unit {0}
IsKnownStand stand = ⊥

abbrev pub IsLocalStand : Stand → Type 0
IsLocalStand (Value (terms.Local number) kind class) = Unit {0}
IsLocalStand stand = ⊥

abbrev pub IsNoClass : Stand → Type 0
IsNoClass (Class class) = ⊥
IsNoClass stand = Unit {0}

abbrev pub EachMade : (Stand → Type 0) → List Made → Type 0
EachMade P [] = Unit {0}
EachMade P (made ∷ more) = P made.stand × EachMade P more

pub each_more : (P : Stand → Type 0) (some : List Made) (made : Made) → EachMade P some → P made.stand → EachMade P (some ++ made ∷ [])
each_more P [] made each is = (is, tt)
each_more P (first ∷ more) made each is = (each.0, each_more P more made each.1 is)

abbrev pub EachUnnamed : List VarDecl → Type 0
EachUnnamed [] = Unit {0}
EachUnnamed (local ∷ more) = (local.name ≡ []) × EachUnnamed more

unnamed_more : (some : List VarDecl) (local : VarDecl) → EachUnnamed some → local.name ≡ [] → EachUnnamed (some ++ local ∷ [])
unnamed_more [] local each is = (is, tt)
unnamed_more (first ∷ more) local each is = (each.0, unnamed_more more local each.1 is)

-- what stands for locals is locals, and for slots slots; and no local has a name
pub record Sound (growth : Growth) : Type 0 where
  pub named : EachMade IsLocalStand growth.named
  pub asked : EachMade IsSlotStand growth.asked
  pub unnamed : EachUnnamed growth.locals

-- the new rule has at most so much more than the old one, and stays sound
pub record Adds (extra : Extra) (old new : Growth) : Type 0 where
  pub slots : length new.slots ≤ length old.slots + extra.slots
  pub locals : length new.locals ≤ length old.locals + extra.locals
  pub items : items_in new ≤ items_in old + extra.items
  pub guards : guards_in new ≤ guards_in old + extra.guards
  pub sound : Sound old → Sound new

-- the new rule has just so much more than the old one
pub record Gives (extra : Extra) (old new : Growth) : Type 0 where
  pub slots : length new.slots ≡ length old.slots + extra.slots
  pub locals : length new.locals ≡ length old.locals + extra.locals
  pub items : items_in new ≡ items_in old + extra.items
  pub guards : guards_in new ≡ guards_in old + extra.guards

-- ---- steps

-- what is given is added
adds_given : (extra : Extra) (old new : Growth) → Gives extra old new → (Sound old → Sound new) → Adds extra old new
adds_given extra old new gives sound = record {
  slots = omega (arith, gives.slots);
  locals = omega (arith, gives.locals);
  items = omega (arith, gives.items);
  guards = omega (arith, gives.guards);
  sound = sound;
}

pub gives_none : (growth : Growth) → Gives no_extra growth growth
gives_none growth = record { slots = omega arith; locals = omega arith; items = omega arith; guards = omega arith }

pub gives_then : (one other : Extra) (first second third : Growth) → Gives one first second → Gives other second third → Gives (extra_and one other) first third
gives_then one other first second third before after = record {
  slots = omega (arith, before.slots, after.slots);
  locals = omega (arith, before.locals, after.locals);
  items = omega (arith, before.items, after.items);
  guards = omega (arith, before.guards, after.guards);
}

pub gives_same : (one other : Extra) (old new : Growth) → Same one other → Gives one old new → Gives other old new
gives_same one other old new same gives = record {
  slots = omega (arith, same.slots, gives.slots);
  locals = omega (arith, same.locals, gives.locals);
  items = omega (arith, same.items, gives.items);
  guards = omega (arith, same.guards, gives.guards);
}

pub adds_any : (extra : Extra) (growth : Growth) → Adds extra growth growth
adds_any extra growth = record {
  slots = omega arith;
  locals = omega arith;
  items = omega arith;
  guards = omega arith;
  sound = λ is. is;
}

pub adds_then : (one other : Extra) (first second third : Growth) → Adds one first second → Adds other second third → Adds (extra_and one other) first third
adds_then one other first second third before after = record {
  slots = omega (arith, before.slots, after.slots);
  locals = omega (arith, before.locals, after.locals);
  items = omega (arith, before.items, after.items);
  guards = omega (arith, before.guards, after.guards);
  sound = λ is. after.sound (before.sound is);
}

pub adds_within : (one other : Extra) (old new : Growth) → Within one other → Adds one old new → Adds other old new
adds_within one other old new within adds = record {
  slots = omega (arith, within.slots, adds.slots);
  locals = omega (arith, within.locals, adds.locals);
  items = omega (arith, within.items, adds.items);
  guards = omega (arith, within.guards, adds.guards);
  sound = adds.sound;
}

-- ---- entries

pub items_append : (one other : List Entry)
    → item_count (plain_entries (one ++ other)) ≡ item_count (plain_entries one) + item_count (plain_entries other)
items_append [] other = omega arith
items_append (entries.Slot number ∷ more) other = items_append more other
items_append (entries.Local number ∷ more) other = items_append more other
items_append (entries.Item item ∷ more) other = let rest = items_append more other in omega (arith, rest)
items_append (entries.Branch guard then otherwise ∷ more) other = let rest = items_append more other in omega (arith, rest)

pub guards_append : (one other : List Entry)
    → guard_count (plain_entries (one ++ other)) ≡ guard_count (plain_entries one) + guard_count (plain_entries other)
guards_append [] other = omega arith
guards_append (entries.Slot number ∷ more) other = guards_append more other
guards_append (entries.Local number ∷ more) other = guards_append more other
guards_append (entries.Item item ∷ more) other = guards_append more other
guards_append (entries.Branch guard then otherwise ∷ more) other = let rest = guards_append more other in omega (arith, rest)

item_entries : (some : List Item) → item_count (plain_entries (map entries.Item some)) ≡ length some
item_entries [] = refl
item_entries (item ∷ more) = let rest = item_entries more in omega (arith, rest)

guard_entries : (some : List Item) → guard_count (plain_entries (map entries.Item some)) ≡ 0
guard_entries [] = refl
guard_entries (item ∷ more) = guard_entries more

pub gives_items : (some : List Item) (growth : Growth) → Gives (extra_items (length some)) growth (with_items some growth)
gives_items some growth = record {
  slots = omega arith;
  locals = omega arith;
  items = omega (arith, items_append growth.entries (map entries.Item some), item_entries some);
  guards = omega (arith, guards_append growth.entries (map entries.Item some), guard_entries some);
}

pub adds_items : (some : List Item) (growth : Growth) → Adds (extra_items (length some)) growth (with_items some growth)
adds_items some growth =
    adds_given (extra_items (length some)) growth (with_items some growth) (gives_items some growth)
    (λ is. record { named = is.named; asked = is.asked; unnamed = is.unnamed })

pub gives_item : (item : Item) (growth : Growth) → Gives (extra_items 1) growth (with_item item growth)
gives_item item growth = record {
  slots = omega arith;
  locals = omega arith;
  items = omega (arith, items_append growth.entries (entries.Item item ∷ []));
  guards = omega (arith, guards_append growth.entries (entries.Item item ∷ []));
}

pub adds_item : (item : Item) (growth : Growth) → Adds (extra_items 1) growth (with_item item growth)
adds_item item growth =
    adds_given (extra_items 1) growth (with_item item growth) (gives_item item growth)
    (λ is. record { named = is.named; asked = is.asked; unnamed = is.unnamed })

pub gives_local : (shape : Shape) (growth : Growth) → Gives extra_local growth (with_next_local (unnamed shape) growth)
gives_local shape growth = record {
  slots = omega arith;
  locals = omega (arith, length-append growth.locals (unnamed shape ∷ []));
  items = omega (arith, items_append growth.entries (entries.Local (length growth.locals) ∷ []));
  guards = omega (arith, guards_append growth.entries (entries.Local (length growth.locals) ∷ []));
}

pub adds_local : (shape : Shape) (growth : Growth) → Adds extra_local growth (with_next_local (unnamed shape) growth)
adds_local shape growth =
    adds_given extra_local growth (with_next_local (unnamed shape) growth) (gives_local shape growth)
    (λ is. record {
      named = is.named;
      asked = is.asked;
      unnamed = unnamed_more growth.locals (unnamed shape) is.unnamed refl;
    })

pub gives_slot : (slot : slots.Slot) (growth : Growth) → Gives extra_slot growth (with_slot slot growth)
gives_slot slot growth = record {
  slots = omega (arith, length-append growth.slots (slot ∷ []));
  locals = omega arith;
  items = omega (arith, items_append growth.entries (entries.Slot (length growth.slots) ∷ []));
  guards = omega (arith, guards_append growth.entries (entries.Slot (length growth.slots) ∷ []));
}

pub adds_slot : (slot : slots.Slot) (growth : Growth) → Adds extra_slot growth (with_slot slot growth)
adds_slot slot growth =
    adds_given extra_slot growth (with_slot slot growth) (gives_slot slot growth)
    (λ is. record { named = is.named; asked = is.asked; unnamed = is.unnamed })

pub gives_access : (object : Term) (field : ℕ) (shape : Shape) (growth : Growth) → Gives (extra_reads 1) growth (with_access object field shape growth)
gives_access object field shape growth =
    gives_then extra_local (extra_items 1) growth (with_next_local (unnamed shape) growth) (with_access object field shape growth)
    (gives_local shape growth) (gives_item (access object field growth) (with_next_local (unnamed shape) growth))

pub adds_access : (object : Term) (field : ℕ) (shape : Shape) (growth : Growth) → Adds (extra_reads 1) growth (with_access object field shape growth)
adds_access object field shape growth =
    adds_then extra_local (extra_items 1) growth (with_next_local (unnamed shape) growth) (with_access object field shape growth)
    (adds_local shape growth) (adds_item (access object field growth) (with_next_local (unnamed shape) growth))
