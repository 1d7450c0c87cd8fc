-- What is counted of blocks is enough.
use Rattle.std.proofs.Common.{◌≡◌, ℕ, ◌+◌, ◌*◌, ◌-◌, ◌^◌, ◌≤◌, min, List, [], ◌∷◌, ◌++◌, length, refl, sym, ◌∙◌, ap, subst, arith}
use Rattle.std.specs.Prelude.{ℤ, Option, Some, None}
use Rattle.std.specs.Option.{option_and_then}
use Rattle.std.proofs.lemmas.List.{length-map}
use Rattle.std.proofs.Math.Nat.{suc-mul}
use Rattle.std.proofs.Math.Numerals.{suc-eq-add-one}
use Rattle.model_core.specs.declared.item.Term.TheVariants as terms
use Rattle.model_core.specs.declared.rule.Entry.TheVariants as entries
use Rattle.model_core.specs.declared.rule.Guard.{Guard}
use Rattle.model_core.specs.declared.variable.ValueKind.TheVariants as kinds
use Rattle.model_core.specs.Block.{plain_entries}
use Rattle.nddl_ast.specs.declared.name.Name.{Name}
use Rattle.nddl_ast.specs.declared.statement.Condition.{Condition}
use Rattle.nddl_ast.specs.Tree.{Statements, Nothing, Declares, Calls, Asks, Tests, Chooses, Repeats}
use Rattle.nddl_terms.specs.declared.tree.Meaning.{Meaning}
use Rattle.nddl_terms.specs.declared.tree.Meaning.TheVariants as meanings
use Rattle.nddl_terms.specs.declared.growth.Growth.{Growth}
use Rattle.nddl_terms.specs.declared.lexicon.Lexicon.{Lexicon}
use Rattle.nddl_terms.specs.declared.stands.Made.{Made}
use Rattle.nddl_terms.specs.declared.stands.Stand.{Stand}
use Rattle.nddl_terms.specs.declared.stands.Stand.TheVariants as stands
use Rattle.nddl_terms.specs.Growth.{with_last_entry}
use Rattle.nddl_terms.specs.Lexicon.{class_objects}
use Rattle.nddl_terms.specs.Names.{name_read_at}
use Rattle.nddl_terms.specs.Readings.{Readings}
use Rattle.nddl_terms.specs.Stands.{declared_stand, file_stand, first_stand, meaning_stand, stand_or_nothing}
use Rattle.nddl_unroll.specs.declared.amounts.Amounts.{Amounts}
use Rattle.nddl_unroll.specs.Amounts.{amounts_and, amounts_times, no_amounts}
use Rattle.nddl_unroll.specs.Counting.{counted_with, guard_amounts, stand_count, turn_count, turns_amounts}
use Rattle.nddl_lower.specs.Arguments.{condition_guard}
use Rattle.nddl_unroll.specs.Meant.{IsSlotStand}
use Rattle.nddl_unroll.specs.Blocks.{all_turns, back_in, filled_block, in_block, stand_turns, turn_of, turn_stands, unrolled}
use Rattle.nddl_unroll.proofs.Counted.{Counts, Enough, condition_adds, condition_counted, counts_and, sum_condition}
use Rattle.nddl_unroll.proofs.Extras.{Adds, EachMade, Extra, IsKnownStand, IsLocalStand, Sound, Within, adds_any, adds_then, adds_within, each_more, extra_and, extra_reads, guards_append, items_append, no_extra}
use Rattle.nddl_unroll.proofs.Paths.{declared_is}
use Rattle.nddl_unroll.proofs.Statements.{ask_enough, call_enough, local_enough}

-- less is counted as well
counts_less : (one other : Extra) (amounts : Amounts) → Within one other → Counts other amounts → Counts one amounts
counts_less one other amounts within counts = record {
  slots = omega (arith, within.slots, counts.slots);
  locals = omega (arith, within.locals, counts.locals);
  items = omega (arith, within.items, counts.items);
  guards = omega (arith, within.guards, counts.guards);
}

regroup : (one two three : Extra) → Within (extra_and one (extra_and two three)) (extra_and (extra_and one two) three)
regroup one two three = record { slots = omega arith; locals = omega arith; items = omega arith; guards = omega arith }

-- what statements add is no more than is counted of them, in whatever turns
pub record AllEnough (reading : Readings) (stmts : Statements) : Type 0 where
  pub extra : Extra
  pub adds : (turns : List Made) → EachMade IsKnownStand turns → (growth : Growth) → Sound growth
      → Adds extra growth (unrolled reading turns stmts growth)
  pub counts : (before : Extra) (total : Amounts) → Counts before total
      → Counts (extra_and before extra) (counted_with reading.lexicon reading.names stmts total)

-- a statement that adds so much, and is counted, before others
before_others : (reading : Readings) (stmts more : Statements) (Step : List Made → Growth → Growth) (amounts : Amounts)
    → Enough Step amounts → AllEnough reading more
    → ((turns : List Made) (growth : Growth) → unrolled reading turns stmts growth ≡ unrolled reading turns more (Step turns growth))
    → ((total : Amounts) → counted_with reading.lexicon reading.names stmts total
    ≡ counted_with reading.lexicon reading.names more (amounts_and total amounts))
    → AllEnough reading stmts
before_others reading stmts more Step amounts enough rest steps counted = record {
  extra = extra_and enough.extra rest.extra;
  adds = λ turns known growth sound.
      let first = enough.adds turns known growth sound in
      subst (Adds (extra_and enough.extra rest.extra) growth) (sym (steps turns growth))
      (adds_then enough.extra rest.extra growth (Step turns growth) (unrolled reading turns more (Step turns growth)) first
      (rest.adds turns known (Step turns growth) (first.sound sound)));
  counts = λ before total is.
      subst (Counts (extra_and before (extra_and enough.extra rest.extra))) (sym (counted total))
      (counts_less (extra_and before (extra_and enough.extra rest.extra)) (extra_and (extra_and before enough.extra) rest.extra) _
      (regroup before enough.extra rest.extra)
      (rest.counts (extra_and before enough.extra) (amounts_and total amounts) (counts_and before enough.extra total amounts is enough.counts)));
}

-- ---- guards

abbrev pub extra_guard : Extra
extra_guard = record { slots = 0; locals = 0; items = 0; guards = 1; turns = 0 }

-- a guard of which the block behind `else` is empty
pub branch_adds : (guard : Guard) (inside : Extra) (outer filled : Growth) → Adds inside (in_block outer) filled
    → Adds (extra_and extra_guard inside) outer
    (with_last_entry (entries.Branch guard (filled_block filled) (plain_entries [])) (back_in outer.entries filled))
branch_adds guard inside outer filled adds = record {
  slots = omega (arith, adds.slots);
  locals = omega (arith, adds.locals);
  items = omega (arith, adds.items, items_append outer.entries (entries.Branch guard (filled_block filled) (plain_entries []) ∷ []));
  guards = omega (arith, adds.guards, guards_append outer.entries (entries.Branch guard (filled_block filled) (plain_entries []) ∷ []));
  sound = λ is.
      let inner = adds.sound (record { named = is.named; asked = is.asked; unnamed = is.unnamed }) in record { named = inner.named; asked = inner.asked; unnamed = inner.unnamed };
}

pub branches_add : (guard : Guard) (inside other : Extra) (outer filled second : Growth) → Adds inside (in_block outer) filled
    → Adds other (in_block filled) second
    → Adds (extra_and extra_guard (extra_and inside other)) outer
    (with_last_entry (entries.Branch guard (filled_block filled) (filled_block second)) (back_in outer.entries second))
branches_add guard inside other outer filled second adds more = record {
  slots = omega (arith, adds.slots, more.slots);
  locals = omega (arith, adds.locals, more.locals);
  items = omega (arith, adds.items, more.items, items_append outer.entries (entries.Branch guard (filled_block filled) (filled_block second) ∷ []));
  guards = omega (
    arith,
    adds.guards,
    more.guards,
    guards_append outer.entries (entries.Branch guard (filled_block filled) (filled_block second) ∷ []),
  );
  sound = λ is.
      let inner = adds.sound (record { named = is.named; asked = is.asked; unnamed = is.unnamed }) in
      let last = more.sound (record { named = inner.named; asked = inner.asked; unnamed = inner.unnamed }) in
      record { named = last.named; asked = last.asked; unnamed = last.unnamed };
}

-- in a block nothing stands at first, and all else is as before
pub in_sound : (growth : Growth) → Sound growth → Sound (in_block growth)
in_sound growth is = record { named = is.named; asked = is.asked; unnamed = is.unnamed }

guard_counted : (reading : Readings) (condition : Condition)
    → Counts (extra_and (extra_reads (sum_condition reading.lexicon reading.names condition)) extra_guard)
    (guard_amounts reading.lexicon reading.names condition)
guard_counted reading condition =
    let reads = condition_counted reading.lexicon reading.names condition in
    record { slots = omega arith; locals = omega (arith, reads); items = omega (arith, reads); guards = omega arith }

-- ---- turns

-- the objects of the class that a name means
abbrev pub meaning_turns : Lexicon → Option Meaning → List Stand
meaning_turns lexicon (Some (meanings.Scope place)) = stand_turns lexicon (stand_or_nothing (file_stand lexicon place))
meaning_turns lexicon (Some (meanings.BuiltIn class)) = stand_turns lexicon (stands.Class class)
meaning_turns lexicon meaning = []

known_no_turns : (lexicon : Lexicon) (stand : Stand) → IsKnownStand stand → stand_turns lexicon stand ≡ []
known_no_turns lexicon (stands.Value term kind class) is = refl
known_no_turns lexicon (stands.Slot number pred) is = refl
known_no_turns lexicon (stands.Root number pred) is = refl
known_no_turns lexicon (stands.Class class) is = absurd is
known_no_turns lexicon stands.Nothing is = refl

slot_no_turns : (lexicon : Lexicon) (stand : Stand) → IsSlotStand stand → stand_turns lexicon stand ≡ []
slot_no_turns lexicon (stands.Slot number pred) is = refl
slot_no_turns lexicon stand is = absurd is

local_no_turns : (lexicon : Lexicon) (stand : Stand) → IsLocalStand stand → stand_turns lexicon stand ≡ []
local_no_turns lexicon (stands.Value term kind class) is = refl
local_no_turns lexicon stand is = absurd is

no_turns : (P : Stand → Type 0) (lexicon : Lexicon) (found : Option Stand) → ((s : Stand) → found ≡ Some s → P s)
    → ((s : Stand) → P s → stand_turns lexicon s ≡ []) → stand_turns lexicon (stand_or_nothing found) ≡ []
no_turns P lexicon None is none = refl
no_turns P lexicon (Some stand) is none = none stand (is stand refl)

pub turns_are : (reading : Readings) (turns : List Made) (growth : Growth) (found : Option Meaning) → Sound growth → EachMade IsKnownStand turns
    → stand_turns reading.lexicon (stand_or_nothing (option_and_then (meaning_stand reading turns growth) found)) ≡ meaning_turns reading.lexicon found
turns_are reading turns growth None sound known = refl
turns_are reading turns growth (Some (meanings.Turn number)) sound known =
    no_turns IsKnownStand reading.lexicon (declared_stand reading.places.turns number turns)
    (λ s there. declared_is IsKnownStand reading.places.turns number turns s known there) (known_no_turns reading.lexicon)
turns_are reading turns growth (Some (meanings.Local number)) sound known =
    no_turns IsLocalStand reading.lexicon (declared_stand reading.places.locals number growth.named)
    (λ s there. declared_is IsLocalStand reading.places.locals number growth.named s sound.named there) (local_no_turns reading.lexicon)
turns_are reading turns growth (Some (meanings.Slot number)) sound known =
    no_turns IsSlotStand reading.lexicon (declared_stand reading.places.slots number growth.asked)
    (λ s there. declared_is IsSlotStand reading.places.slots number growth.asked s sound.asked there) (slot_no_turns reading.lexicon)
turns_are reading turns growth (Some (meanings.Here part)) sound known = refl
turns_are reading turns growth (Some (meanings.Scope place)) sound known = refl
turns_are reading turns growth (Some (meanings.BuiltIn class)) sound known = refl

-- each is known
abbrev pub AreKnownStands : List Stand → Type 0
AreKnownStands [] = Unit {0}
AreKnownStands (stand ∷ more) = IsKnownStand stand × AreKnownStands more

-- the objects of a class are literals
class_known : (class : ℕ) (objects : List ℤ) → AreKnownStands (turn_stands class objects)
class_known class [] = tt
class_known class (object ∷ more) = (tt, class_known class more)

stand_known : (lexicon : Lexicon) (stand : Stand) → AreKnownStands (stand_turns lexicon stand)
stand_known lexicon (stands.Class class) = class_known class (class_objects lexicon class)
stand_known lexicon stand = tt

pub objects_known : (lexicon : Lexicon) (found : Option Meaning) → AreKnownStands (meaning_turns lexicon found)
objects_known lexicon (Some (meanings.Scope place)) = stand_known lexicon (stand_or_nothing (file_stand lexicon place))
objects_known lexicon (Some (meanings.BuiltIn class)) = stand_known lexicon (stands.Class class)
objects_known lexicon found = tt

class_count : (class : ℕ) (objects : List ℤ) → length objects ≡ length (turn_stands class objects)
class_count class objects = sym (length-map objects (λ object. stands.Value (terms.Lit object) kinds.Object class))

file_count : (lexicon : Lexicon) (found : Option Stand) → stand_count lexicon found ≡ length (stand_turns lexicon (stand_or_nothing found))
file_count lexicon None = refl
file_count lexicon (Some (stands.Class class)) = class_count class (class_objects lexicon class)
file_count lexicon (Some stand) = refl

pub count_is : (lexicon : Lexicon) (found : Option Meaning) → turn_count lexicon found ≡ length (meaning_turns lexicon found)
count_is lexicon (Some (meanings.Scope place)) = file_count lexicon (file_stand lexicon place)
count_is lexicon (Some (meanings.BuiltIn class)) = class_count class (class_objects lexicon class)
count_is lexicon found = refl

-- so much for each of these objects
abbrev pub extra_turns : List Stand → Extra → Extra
extra_turns [] extra = no_extra
extra_turns (object ∷ more) extra = extra_and extra (extra_turns more extra)

turns_add : (extra : Extra) (turn : Stand → Growth → Growth) (objects : List Stand) → AreKnownStands objects
    → ((object : Stand) → IsKnownStand object → (growth : Growth) → Sound growth → Adds extra growth (turn object growth))
    → (growth : Growth) → Sound growth → Adds (extra_turns objects extra) growth (all_turns turn objects growth)
turns_add extra turn [] known adds growth sound = adds_any no_extra growth
turns_add extra turn (object ∷ more) known adds growth sound =
    let first = adds object known.0 growth sound in
    adds_then extra (extra_turns more extra) growth (turn object growth) (all_turns turn more (turn object growth)) first
    (turns_add extra turn more known.1 adds (turn object growth) (first.sound sound))

-- one time more
pub once_more : (count number : ℕ) → (count + 1) * number ≡ count * number + number
once_more count number = ap (λ n. n * number) (sym (suc-eq-add-one count)) ∙ suc-mul count number

times_counted : (count extra rest amount : ℕ) → min extra (2 ^ 64 - 1) ≤ amount → min rest (2 ^ 64 - 1) ≤ min (count * amount) (2 ^ 64 - 1)
    → min (extra + rest) (2 ^ 64 - 1) ≤ min ((count + 1) * amount) (2 ^ 64 - 1)
times_counted count extra rest amount first behind = let more = once_more count amount in omega (arith, more, first, behind)

turns_counted : (objects : List Stand) (extra : Extra) (amounts : Amounts) → Counts extra amounts
    → Counts (extra_turns objects extra) (amounts_times (length objects) amounts)
turns_counted [] extra amounts counts = record { slots = omega arith; locals = omega arith; items = omega arith; guards = omega arith }
turns_counted (object ∷ more) extra amounts counts =
    let rest = turns_counted more extra amounts counts in
    let one : length (object ∷ more) ≡ length more + 1 = omega arith in
    subst (λ (count : ℕ). Counts (extra_and extra (extra_turns more extra)) (amounts_times count amounts)) (sym one)
    (record {
      slots = times_counted (length more) extra.slots (extra_turns more extra).slots amounts.slots counts.slots rest.slots;
      locals = times_counted (length more) extra.locals (extra_turns more extra).locals amounts.locals counts.locals rest.locals;
      items = times_counted (length more) extra.items (extra_turns more extra).items amounts.items counts.items rest.items;
      guards = times_counted (length more) extra.guards (extra_turns more extra).guards amounts.guards counts.guards rest.guards;
    })

pub none_counted : Counts no_extra no_amounts
none_counted = record { slots = omega arith; locals = omega arith; items = omega arith; guards = omega arith }

-- the turns themselves are no slots, locals, items or guards
turns_counts : (objects : List Stand) (count : ℕ) (extra : Extra) (inside : Amounts) → count ≡ length objects → Counts extra inside
    → Counts (extra_turns objects extra) (turns_amounts count inside)
turns_counts objects count extra inside count_is counts =
    let times = subst (λ (n : ℕ). Counts (extra_turns objects extra) (amounts_times n inside)) (sym count_is) (turns_counted objects extra inside counts) in
    record {
      slots = omega (arith, times.slots);
      locals = omega (arith, times.locals);
      items = omega (arith, times.items);
      guards = omega (arith, times.guards);
    }

-- ---- statements

left_none : (extra : Extra) → Within extra (extra_and no_extra extra)
left_none extra = record { slots = omega arith; locals = omega arith; items = omega arith; guards = omega arith }

-- the block of a `foreach`, once for each object
pub repeats_enough : (reading : Readings) (name class : Name) (body : Statements) → AllEnough reading body
    → Enough (λ turns growth. all_turns (λ object inner. unrolled reading (turns ++ turn_of name object ∷ []) body inner)
    (stand_turns reading.lexicon (first_stand reading turns growth class.at)) growth)
    (turns_amounts (turn_count reading.lexicon (name_read_at class.at reading.names)) (counted_with reading.lexicon reading.names body no_amounts))
repeats_enough reading name class body inside = record {
  extra = extra_turns (meaning_turns reading.lexicon (name_read_at class.at reading.names)) inside.extra;
  adds = λ turns known growth sound.
      let found = name_read_at class.at reading.names in
      let turn : Stand → Growth → Growth = λ object inner. unrolled reading (turns ++ turn_of name object ∷ []) body inner in
      subst (λ (some : List Stand). Adds (extra_turns (meaning_turns reading.lexicon found) inside.extra) growth (all_turns turn some growth))
      (sym (turns_are reading turns growth found sound known))
      (turns_add inside.extra turn (meaning_turns reading.lexicon found) (objects_known reading.lexicon found)
      (λ object is inner inner_sound.
      inside.adds (turns ++ turn_of name object ∷ []) (each_more IsKnownStand turns (turn_of name object) known is) inner inner_sound)
      growth sound);
  counts =
      turns_counts (meaning_turns reading.lexicon (name_read_at class.at reading.names))
      (turn_count reading.lexicon (name_read_at class.at reading.names)) inside.extra
      (counted_with reading.lexicon reading.names body no_amounts)
      (count_is reading.lexicon (name_read_at class.at reading.names))
      (counts_less inside.extra (extra_and no_extra inside.extra) _ (left_none inside.extra) (inside.counts no_extra no_amounts none_counted));
}

tests_enough : (reading : Readings) (at : ℕ) (condition : Condition) (then_at : ℕ) (inside more : Statements)
    → AllEnough reading inside → AllEnough reading more → AllEnough reading (Tests at condition then_at inside more)
tests_enough reading at condition then_at inside more block rest =
    let reads = sum_condition reading.lexicon reading.names condition in
    let own = extra_and (extra_reads reads) extra_guard in
    record {
      extra = extra_and (extra_and own block.extra) rest.extra;
      adds = λ turns known growth sound.
          let tested = condition_guard reading turns condition growth in
          let first = condition_adds reading turns condition growth sound known in
          let outer = tested.growth in
          let outer_sound = first.sound sound in
          let filled = unrolled reading turns inside (in_block outer) in
          let branched = with_last_entry (entries.Branch tested.guard (filled_block filled) (plain_entries [])) (back_in outer.entries filled) in
          let branch = branch_adds tested.guard block.extra outer filled (block.adds turns known (in_block outer) (in_sound outer outer_sound)) in
          let both = adds_then (extra_reads reads) (extra_and extra_guard block.extra) growth outer branched first branch in
          let whole = adds_within (extra_and (extra_reads reads) (extra_and extra_guard block.extra)) (extra_and own block.extra) growth branched
          (regroup (extra_reads reads) extra_guard block.extra) both in
          adds_then (extra_and own block.extra) rest.extra growth branched (unrolled reading turns more branched) whole
          (rest.adds turns known branched (whole.sound sound));
      counts = λ before total is.
          let guarded = counts_and before own total (guard_amounts reading.lexicon reading.names condition) is (guard_counted reading condition) in
          let blocked = block.counts (extra_and before own) _ guarded in
          let whole = rest.counts (extra_and (extra_and before own) block.extra) _ blocked in
          counts_less (extra_and before (extra_and (extra_and own block.extra) rest.extra))
          (extra_and (extra_and (extra_and before own) block.extra) rest.extra) _
          (record { slots = omega arith; locals = omega arith; items = omega arith; guards = omega arith }) whole;
    }

chooses_enough : (reading : Readings) (at : ℕ) (condition : Condition) (then_at : ℕ) (inside : Statements) (else_at : ℕ) (other more : Statements)
    → AllEnough reading inside → AllEnough reading other → AllEnough reading more
    → AllEnough reading (Chooses at condition then_at inside else_at other more)
chooses_enough reading at condition then_at inside else_at other more block second rest =
    let reads = sum_condition reading.lexicon reading.names condition in
    let own = extra_and (extra_reads reads) extra_guard in
    let blocks = extra_and block.extra second.extra in
    record {
      extra = extra_and (extra_and own blocks) rest.extra;
      adds = λ turns known growth sound.
          let tested = condition_guard reading turns condition growth in
          let first = condition_adds reading turns condition growth sound known in
          let outer = tested.growth in
          let outer_sound = first.sound sound in
          let filled = unrolled reading turns inside (in_block outer) in
          let in_then = block.adds turns known (in_block outer) (in_sound outer outer_sound) in
          let last = unrolled reading turns other (in_block filled) in
          let in_else = second.adds turns known (in_block filled) (in_sound filled (in_then.sound (in_sound outer outer_sound))) in
          let branched = with_last_entry (entries.Branch tested.guard (filled_block filled) (filled_block last)) (back_in outer.entries last) in
          let branch = branches_add tested.guard block.extra second.extra outer filled last in_then in_else in
          let both = adds_then (extra_reads reads) (extra_and extra_guard blocks) growth outer branched first branch in
          let whole = adds_within (extra_and (extra_reads reads) (extra_and extra_guard blocks)) (extra_and own blocks) growth branched
          (regroup (extra_reads reads) extra_guard blocks) both in
          adds_then (extra_and own blocks) rest.extra growth branched (unrolled reading turns more branched) whole
          (rest.adds turns known branched (whole.sound sound));
      counts = λ before total is.
          let guarded = counts_and before own total (guard_amounts reading.lexicon reading.names condition) is (guard_counted reading condition) in
          let blocked = block.counts (extra_and before own) _ guarded in
          let both = second.counts (extra_and (extra_and before own) block.extra) _ blocked in
          let whole = rest.counts (extra_and (extra_and (extra_and before own) block.extra) second.extra) _ both in
          counts_less (extra_and before (extra_and (extra_and own blocks) rest.extra))
          (extra_and (extra_and (extra_and (extra_and before own) block.extra) second.extra) rest.extra) _
          (record { slots = omega arith; locals = omega arith; items = omega arith; guards = omega arith }) whole;
    }

-- what is counted of statements is enough
pub all_enough : (reading : Readings) (stmts : Statements) → AllEnough reading stmts
all_enough reading Nothing = record {
  extra = no_extra;
  adds = λ turns each growth sound. adds_any no_extra growth;
  counts = λ before total is.
      counts_less (extra_and before no_extra) before total
      (record { slots = omega arith; locals = omega arith; items = omega arith; guards = omega arith }) is;
}
all_enough reading (Declares variable more) =
    before_others reading (Declares variable more) more _ _ (local_enough reading variable) (all_enough reading more)
    (λ turns growth. refl) (λ total. refl)
all_enough reading (Calls call more) =
    before_others reading (Calls call more) more _ _ (call_enough reading call) (all_enough reading more)
    (λ turns growth. refl) (λ total. refl)
all_enough reading (Asks ask more) =
    before_others reading (Asks ask more) more _ _ (ask_enough reading ask) (all_enough reading more)
    (λ turns growth. refl) (λ total. refl)
all_enough reading (Tests at condition then_at inside more) =
    tests_enough reading at condition then_at inside more (all_enough reading inside) (all_enough reading more)
all_enough reading (Chooses at condition then_at inside else_at other more) =
    chooses_enough reading at condition then_at inside else_at other more (all_enough reading inside) (all_enough reading other)
    (all_enough reading more)
all_enough reading (Repeats at name class body_at body more) =
    before_others reading (Repeats at name class body_at body more) more _ _
    (repeats_enough reading name class body (all_enough reading body)) (all_enough reading more)
    (λ turns growth. refl) (λ total. refl)
