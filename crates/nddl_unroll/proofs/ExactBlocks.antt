-- What is counted of blocks is what they add, where all that is read in them means something.
use Rattle.std.proofs.Common.{◌≡◌, ℕ, ◌+◌, ◌*◌, ◌-◌, ◌^◌, min, List, [], ◌∷◌, ◌++◌, length, refl, sym, subst, arith}
use Rattle.model_core.specs.declared.rule.Entry.TheVariants as entries
use Rattle.model_core.specs.declared.rule.Guard.{Guard}
use Rattle.model_core.specs.Block.{plain_entries}
use Rattle.nddl_ast.specs.declared.name.Name.{Name}
use Rattle.nddl_ast.specs.declared.statement.Condition.{Condition}
use Rattle.nddl_ast.specs.Tree.{Statements, Nothing, Declares, Calls, Asks, Tests, Chooses, Repeats}
use Rattle.nddl_terms.specs.declared.growth.Growth.{Growth}
use Rattle.nddl_terms.specs.declared.stands.Made.{Made}
use Rattle.nddl_terms.specs.declared.stands.Stand.{Stand}
use Rattle.nddl_terms.specs.Growth.{with_last_entry}
use Rattle.nddl_terms.specs.Names.{name_read_at}
use Rattle.nddl_terms.specs.Readings.{Readings}
use Rattle.nddl_terms.specs.Stands.{first_stand}
use Rattle.nddl_lower.specs.Arguments.{condition_guard}
use Rattle.nddl_unroll.specs.declared.amounts.Amounts.{Amounts}
use Rattle.nddl_unroll.specs.Amounts.{amounts_and, amounts_times, no_amounts}
use Rattle.nddl_unroll.specs.Blocks.{all_turns, back_in, filled_block, in_block, stand_turns, turn_of, unrolled}
use Rattle.nddl_unroll.specs.Counting.{counted_with, guard_amounts, turn_count, turns_amounts}
use Rattle.nddl_unroll.specs.Meant.{AreMeant, InEachTurn}
use Rattle.nddl_unroll.specs.Turns.{each_turn, turns_taken}
use Rattle.nddl_unroll.proofs.Counted.{Enough, condition_adds, sum_condition}
use Rattle.nddl_unroll.proofs.CountedBlocks.{AllEnough, AreKnownStands, all_enough, branch_adds, branches_add, count_is, extra_guard, extra_turns, in_sound, meaning_turns, objects_known, once_more, repeats_enough, turns_are}
use Rattle.nddl_unroll.proofs.ExactStatements.{IsJust, Just, ask_just, call_just, condition_gives, condition_is, just_and, local_just}
use Rattle.nddl_unroll.proofs.Extras.{EachMade, Extra, Gives, IsKnownStand, Same, Sound, each_more, extra_and, extra_reads, gives_none, gives_same, gives_then, guards_append, items_append, no_extra}
use Rattle.nddl_unroll.proofs.Statements.{ask_enough, call_enough, local_enough}

-- the same numbers are counted as well
just_same : (one other : Extra) (amounts : Amounts) → Same one other → IsJust other amounts → IsJust one amounts
just_same one other amounts same counts = record {
  slots = omega (arith, same.slots, counts.slots);
  locals = omega (arith, same.locals, counts.locals);
  items = omega (arith, same.items, counts.items);
  guards = omega (arith, same.guards, counts.guards);
  turns = omega (arith, same.turns, counts.turns);
}

grouped : (one two three : Extra) → Same (extra_and one (extra_and two three)) (extra_and (extra_and one two) three)
grouped one two three =
    record { slots = omega arith; locals = omega arith; items = omega arith; guards = omega arith; turns = omega arith }

grouped_twice : (one two three four : Extra)
    → Same (extra_and one (extra_and (extra_and two three) four)) (extra_and (extra_and (extra_and one two) three) four)
grouped_twice one two three four =
    record { slots = omega arith; locals = omega arith; items = omega arith; guards = omega arith; turns = omega arith }

grouped_thrice : (one two three four five : Extra)
    → Same (extra_and one (extra_and (extra_and two (extra_and three four)) five))
    (extra_and (extra_and (extra_and (extra_and one two) three) four) five)
grouped_thrice one two three four five =
    record { slots = omega arith; locals = omega arith; items = omega arith; guards = omega arith; turns = omega arith }

-- What statements add is what is counted of them, in whatever turns in which all in them means something. How many turns they
-- take doesn't depend on that.
pub record AllJust (reading : Readings) (stmts : Statements) : Type 0 where
  pub extra : Extra
  pub gives : (turns : List Made) → EachMade IsKnownStand turns → (growth : Growth) → Sound growth
      → AreMeant reading turns stmts growth → Gives extra growth (unrolled reading turns stmts growth)
  pub taken : (turns : List Made) → EachMade IsKnownStand turns → (growth : Growth) → Sound growth
      → turns_taken reading turns stmts growth ≡ extra.turns
  pub counts : (before : Extra) (total : Amounts) → IsJust before total
      → IsJust (extra_and before extra) (counted_with reading.lexicon reading.names stmts total)

-- a statement before others, which is no turn
before_others : (reading : Readings) (stmts more : Statements) (Step : List Made → Growth → Growth) (Meant : List Made → Growth → Type 0)
    (amounts : Amounts) → Enough Step amounts → Just Step Meant amounts → AllJust reading more
    → ((turns : List Made) (growth : Growth) → unrolled reading turns stmts growth ≡ unrolled reading turns more (Step turns growth))
    → ((turns : List Made) (growth : Growth) → AreMeant reading turns stmts growth → Meant turns growth × AreMeant reading turns more (Step turns growth))
    → ((turns : List Made) (growth : Growth) → turns_taken reading turns stmts growth ≡ turns_taken reading turns more (Step turns growth))
    → ((total : Amounts) → counted_with reading.lexicon reading.names stmts total
    ≡ counted_with reading.lexicon reading.names more (amounts_and total amounts))
    → AllJust reading stmts
before_others reading stmts more Step Meant amounts enough just rest steps meant turned counted = record {
  extra = extra_and just.extra rest.extra;
  gives = λ turns known growth sound are.
      let both = meant turns growth are in
      let first = just.gives turns known growth sound both.0 in
      let behind = (enough.adds turns known growth sound).sound sound in
      subst (Gives (extra_and just.extra rest.extra) growth) (sym (steps turns growth))
      (gives_then just.extra rest.extra growth (Step turns growth) (unrolled reading turns more (Step turns growth)) first
      (rest.gives turns known (Step turns growth) behind both.1));
  taken = λ turns known growth sound.
      let behind = (enough.adds turns known growth sound).sound sound in
      let none = just.turns in
      let others = rest.taken turns known (Step turns growth) behind in
      let all = turned turns growth in
      omega (arith, none, others, all);
  counts = λ before total is.
      subst (IsJust (extra_and before (extra_and just.extra rest.extra))) (sym (counted total))
      (just_same (extra_and before (extra_and just.extra rest.extra)) (extra_and (extra_and before just.extra) rest.extra) _
      (grouped before just.extra rest.extra)
      (rest.counts (extra_and before just.extra) (amounts_and total amounts) (just_and before just.extra total amounts is just.counts)));
}

-- ---- guards

-- a guard of which the block behind `else` is empty
branch_gives : (guard : Guard) (inside : Extra) (outer filled : Growth) → Gives inside (in_block outer) filled
    → Gives (extra_and extra_guard inside) outer
    (with_last_entry (entries.Branch guard (filled_block filled) (plain_entries [])) (back_in outer.entries filled))
branch_gives guard inside outer filled gives = record {
  slots = omega (arith, gives.slots);
  locals = omega (arith, gives.locals);
  items = omega (arith, gives.items, items_append outer.entries (entries.Branch guard (filled_block filled) (plain_entries []) ∷ []));
  guards = omega (arith, gives.guards, guards_append outer.entries (entries.Branch guard (filled_block filled) (plain_entries []) ∷ []));
}

branches_give : (guard : Guard) (inside other : Extra) (outer filled second : Growth) → Gives inside (in_block outer) filled
    → Gives other (in_block filled) second
    → Gives (extra_and extra_guard (extra_and inside other)) outer
    (with_last_entry (entries.Branch guard (filled_block filled) (filled_block second)) (back_in outer.entries second))
branches_give guard inside other outer filled second gives more = record {
  slots = omega (arith, gives.slots, more.slots);
  locals = omega (arith, gives.locals, more.locals);
  items = omega (arith, gives.items, more.items, items_append outer.entries (entries.Branch guard (filled_block filled) (filled_block second) ∷ []));
  guards = omega (
    arith,
    gives.guards,
    more.guards,
    guards_append outer.entries (entries.Branch guard (filled_block filled) (filled_block second) ∷ []),
  );
}

guard_just : (reading : Readings) (condition : Condition)
    → IsJust (extra_and (extra_reads (sum_condition reading.lexicon reading.names condition)) extra_guard)
    (guard_amounts reading.lexicon reading.names condition)
guard_just reading condition =
    let reads = condition_is reading.lexicon reading.names condition in
    record { slots = omega arith; locals = omega (arith, reads); items = omega (arith, reads); guards = omega arith; turns = omega arith }

-- ---- turns

turns_give : (extra : Extra) (turn : Stand → Growth → Growth) (Meant : Stand → Growth → Type 0) (objects : List Stand) → AreKnownStands objects
    → ((object : Stand) → IsKnownStand object → (growth : Growth) → Sound growth → Meant object growth → Gives extra growth (turn object growth))
    → ((object : Stand) → IsKnownStand object → (growth : Growth) → Sound growth → Sound (turn object growth))
    → (growth : Growth) → Sound growth → InEachTurn Meant turn objects growth
    → Gives (extra_turns objects extra) growth (all_turns turn objects growth)
turns_give extra turn Meant [] known gives kept growth sound are = gives_none growth
turns_give extra turn Meant (object ∷ more) known gives kept growth sound are =
    gives_then extra (extra_turns more extra) growth (turn object growth) (all_turns turn more (turn object growth))
    (gives object known.0 growth sound are.0)
    (turns_give extra turn Meant more known.1 gives kept (turn object growth) (kept object known.0 growth sound) are.1)

-- the turns of a `foreach` with those inside them
turns_number : (extra : Extra) (turn : Stand → Growth → Growth) (inside : Stand → Growth → ℕ) (objects : List Stand) → AreKnownStands objects
    → ((object : Stand) → IsKnownStand object → (growth : Growth) → Sound growth → inside object growth ≡ extra.turns)
    → ((object : Stand) → IsKnownStand object → (growth : Growth) → Sound growth → Sound (turn object growth))
    → (growth : Growth) → Sound growth
    → each_turn inside turn objects growth ≡ (extra_turns objects extra).turns + length objects
turns_number extra turn inside [] known numbers kept growth sound = refl
turns_number extra turn inside (object ∷ more) known numbers kept growth sound =
    let first = numbers object known.0 growth sound in
    let rest = turns_number extra turn inside more known.1 numbers kept (turn object growth) (kept object known.0 growth sound) in
    omega (arith, first, rest)

times_just : (count extra rest amount : ℕ) → amount ≡ min extra (2 ^ 64 - 1) → min (count * amount) (2 ^ 64 - 1) ≡ min rest (2 ^ 64 - 1)
    → min ((count + 1) * amount) (2 ^ 64 - 1) ≡ min (extra + rest) (2 ^ 64 - 1)
times_just count extra rest amount first behind = let more = once_more count amount in omega (arith, more, first, behind)

each_just : (objects : List Stand) (extra : Extra) (amounts : Amounts) → IsJust extra amounts
    → IsJust (extra_turns objects extra) (amounts_times (length objects) amounts)
each_just [] extra amounts counts =
    record { slots = omega arith; locals = omega arith; items = omega arith; guards = omega arith; turns = omega arith }
each_just (object ∷ more) extra amounts counts =
    let rest = each_just more extra amounts counts in
    let one : length (object ∷ more) ≡ length more + 1 = omega arith in
    subst (λ (count : ℕ). IsJust (extra_and extra (extra_turns more extra)) (amounts_times count amounts)) (sym one)
    (record {
      slots = times_just (length more) extra.slots (extra_turns more extra).slots amounts.slots counts.slots rest.slots;
      locals = times_just (length more) extra.locals (extra_turns more extra).locals amounts.locals counts.locals rest.locals;
      items = times_just (length more) extra.items (extra_turns more extra).items amounts.items counts.items rest.items;
      guards = times_just (length more) extra.guards (extra_turns more extra).guards amounts.guards counts.guards rest.guards;
      turns = times_just (length more) extra.turns (extra_turns more extra).turns amounts.turns counts.turns rest.turns;
    })

pub none_just : IsJust no_extra no_amounts
none_just = record { slots = omega arith; locals = omega arith; items = omega arith; guards = omega arith; turns = omega arith }

-- so many turns
abbrev only_turns : ℕ → Extra
only_turns count = record { slots = 0; locals = 0; items = 0; guards = 0; turns = count }

-- a `foreach`: its turns, and for each what its block has
abbrev extra_repeats : List Stand → Extra → Extra
extra_repeats objects extra = extra_and (extra_turns objects extra) (only_turns (length objects))

repeats_just : (objects : List Stand) (count : ℕ) (extra : Extra) (inside : Amounts) → count ≡ length objects → IsJust extra inside
    → IsJust (extra_repeats objects extra) (turns_amounts count inside)
repeats_just objects count extra inside count_is counts =
    let times = subst (λ (n : ℕ). IsJust (extra_turns objects extra) (amounts_times n inside)) (sym count_is) (each_just objects extra inside counts) in
    record {
      slots = omega (arith, times.slots);
      locals = omega (arith, times.locals);
      items = omega (arith, times.items);
      guards = omega (arith, times.guards);
      turns = omega (arith, times.turns, count_is);
    }

left_alone : (extra : Extra) → Same extra (extra_and no_extra extra)
left_alone extra = record { slots = omega arith; locals = omega arith; items = omega arith; guards = omega arith; turns = omega arith }

turns_alone : (extra : Extra) (count : ℕ) (old new : Growth) → Gives extra old new → Gives (extra_and extra (only_turns count)) old new
turns_alone extra count old new gives = record {
  slots = omega (arith, gives.slots);
  locals = omega (arith, gives.locals);
  items = omega (arith, gives.items);
  guards = omega (arith, gives.guards);
}

-- ---- statements

-- the block of a `foreach`, once for each object
foreach_just : (reading : Readings) (at : ℕ) (name class : Name) (body_at : ℕ) (body more : Statements)
    → AllEnough reading body → AllJust reading body → AllJust reading more
    → AllJust reading (Repeats at name class body_at body more)
foreach_just reading at name class body_at body more enough inside rest =
    let found = name_read_at class.at reading.names in
    let objects = meaning_turns reading.lexicon found in
    let own = extra_repeats objects inside.extra in
    let steps = repeats_enough reading name class body enough in
    let count = turn_count reading.lexicon found in
    let in_body = counted_with reading.lexicon reading.names body no_amounts in
    record {
      extra = extra_and own rest.extra;
      gives = λ turns known growth sound are.
          let turn : Stand → Growth → Growth = λ object inner. unrolled reading (turns ++ turn_of name object ∷ []) body inner in
          let Meant : Stand → Growth → Type 0 = λ object inner. AreMeant reading (turns ++ turn_of name object ∷ []) body inner in
          let stands = stand_turns reading.lexicon (first_stand reading turns growth class.at) in
          let same = turns_are reading turns growth found sound known in
          let behind = all_turns turn stands growth in
          let in_all = subst (λ (some : List Stand). InEachTurn Meant turn some growth) same are.0 in
          let given = turns_give inside.extra turn Meant objects (objects_known reading.lexicon found)
          (λ object is inner inner_sound meant.
          inside.gives (turns ++ turn_of name object ∷ []) (each_more IsKnownStand turns (turn_of name object) known is) inner inner_sound meant)
          (λ object is inner inner_sound.
          (enough.adds (turns ++ turn_of name object ∷ []) (each_more IsKnownStand turns (turn_of name object) known is) inner inner_sound).sound inner_sound)
          growth sound in_all in
          let first = subst (λ (some : List Stand). Gives own growth (all_turns turn some growth)) (sym same)
          (turns_alone (extra_turns objects inside.extra) (length objects) growth (all_turns turn objects growth) given) in
          gives_then own rest.extra growth behind (unrolled reading turns more behind) first
          (rest.gives turns known behind ((steps.adds turns known growth sound).sound sound) are.1);
      taken = λ turns known growth sound.
          let turn : Stand → Growth → Growth = λ object inner. unrolled reading (turns ++ turn_of name object ∷ []) body inner in
          let count_inside : Stand → Growth → ℕ = λ object inner. turns_taken reading (turns ++ turn_of name object ∷ []) body inner in
          let stands = stand_turns reading.lexicon (first_stand reading turns growth class.at) in
          let same = turns_are reading turns growth found sound known in
          let behind = all_turns turn stands growth in
          let number : each_turn count_inside turn objects growth ≡ (extra_turns objects inside.extra).turns + length objects =
          turns_number inside.extra turn count_inside objects (objects_known reading.lexicon found)
          (λ object is inner inner_sound.
          inside.taken (turns ++ turn_of name object ∷ []) (each_more IsKnownStand turns (turn_of name object) known is) inner inner_sound)
          (λ object is inner inner_sound.
          (enough.adds (turns ++ turn_of name object ∷ []) (each_more IsKnownStand turns (turn_of name object) known is) inner inner_sound).sound inner_sound)
          growth sound in
          let first : each_turn count_inside turn stands growth ≡ (extra_turns objects inside.extra).turns + length objects =
          subst (λ (some : List Stand). each_turn count_inside turn some growth ≡ (extra_turns objects inside.extra).turns + length objects) (sym same) number in
          let others = rest.taken turns known behind ((steps.adds turns known growth sound).sound sound) in
          omega (arith, first, others);
      counts = λ before total is.
          let inner = just_same inside.extra (extra_and no_extra inside.extra) in_body (left_alone inside.extra) (inside.counts no_extra no_amounts none_just) in
          let times = repeats_just objects count inside.extra in_body (count_is reading.lexicon found) inner in
          just_same (extra_and before (extra_and own rest.extra)) (extra_and (extra_and before own) rest.extra) _
          (grouped before own rest.extra)
          (rest.counts (extra_and before own) (amounts_and total (turns_amounts count in_body))
          (just_and before own total (turns_amounts count in_body) is times));
    }

tests_just : (reading : Readings) (at : ℕ) (condition : Condition) (then_at : ℕ) (inside more : Statements)
    → AllEnough reading inside → AllJust reading inside → AllJust reading more → AllJust reading (Tests at condition then_at inside more)
tests_just reading at condition then_at inside more enough block rest =
    let reads = sum_condition reading.lexicon reading.names condition in
    let own = extra_and (extra_reads reads) extra_guard in
    record {
      extra = extra_and (extra_and own block.extra) rest.extra;
      gives = λ turns known growth sound are.
          let tested = condition_guard reading turns condition growth in
          let outer = tested.growth in
          let outer_sound = (condition_adds reading turns condition growth sound known).sound sound in
          let filled = unrolled reading turns inside (in_block outer) in
          let adds = enough.adds turns known (in_block outer) (in_sound outer outer_sound) in
          let branched = with_last_entry (entries.Branch tested.guard (filled_block filled) (plain_entries [])) (back_in outer.entries filled) in
          let branched_sound = (branch_adds tested.guard enough.extra outer filled adds).sound outer_sound in
          let branch = branch_gives tested.guard block.extra outer filled
          (block.gives turns known (in_block outer) (in_sound outer outer_sound) are.1.0) in
          let both = gives_then (extra_reads reads) (extra_and extra_guard block.extra) growth outer branched
          (condition_gives reading turns condition growth sound known are.0) branch in
          let whole = gives_same (extra_and (extra_reads reads) (extra_and extra_guard block.extra)) (extra_and own block.extra) growth branched
          (grouped (extra_reads reads) extra_guard block.extra) both in
          gives_then (extra_and own block.extra) rest.extra growth branched (unrolled reading turns more branched) whole
          (rest.gives turns known branched branched_sound are.1.1);
      taken = λ turns known growth sound.
          let tested = condition_guard reading turns condition growth in
          let outer = tested.growth in
          let outer_sound = (condition_adds reading turns condition growth sound known).sound sound in
          let filled = unrolled reading turns inside (in_block outer) in
          let adds = enough.adds turns known (in_block outer) (in_sound outer outer_sound) in
          let branched = with_last_entry (entries.Branch tested.guard (filled_block filled) (plain_entries [])) (back_in outer.entries filled) in
          let branched_sound = (branch_adds tested.guard enough.extra outer filled adds).sound outer_sound in
          let first = block.taken turns known (in_block outer) (in_sound outer outer_sound) in
          let others = rest.taken turns known branched branched_sound in
          omega (arith, first, others);
      counts = λ before total is.
          let guarded = just_and before own total (guard_amounts reading.lexicon reading.names condition) is (guard_just reading condition) in
          let blocked = block.counts (extra_and before own) _ guarded in
          let whole = rest.counts (extra_and (extra_and before own) block.extra) _ blocked in
          just_same (extra_and before (extra_and (extra_and own block.extra) rest.extra))
          (extra_and (extra_and (extra_and before own) block.extra) rest.extra) _
          (grouped_twice before own block.extra rest.extra) whole;
    }

chooses_just : (reading : Readings) (at : ℕ) (condition : Condition) (then_at : ℕ) (inside : Statements) (else_at : ℕ) (other more : Statements)
    → AllEnough reading inside → AllEnough reading other → AllJust reading inside → AllJust reading other → AllJust reading more
    → AllJust reading (Chooses at condition then_at inside else_at other more)
chooses_just reading at condition then_at inside else_at other more enough other_enough block second rest =
    let reads = sum_condition reading.lexicon reading.names condition in
    let own = extra_and (extra_reads reads) extra_guard in
    let blocks = extra_and block.extra second.extra in
    record {
      extra = extra_and (extra_and own blocks) rest.extra;
      gives = λ turns known growth sound are.
          let tested = condition_guard reading turns condition growth in
          let outer = tested.growth in
          let outer_sound = (condition_adds reading turns condition growth sound known).sound sound in
          let filled = unrolled reading turns inside (in_block outer) in
          let in_then = enough.adds turns known (in_block outer) (in_sound outer outer_sound) in
          let filled_sound = in_then.sound (in_sound outer outer_sound) in
          let last = unrolled reading turns other (in_block filled) in
          let in_else = other_enough.adds turns known (in_block filled) (in_sound filled filled_sound) in
          let branched = with_last_entry (entries.Branch tested.guard (filled_block filled) (filled_block last)) (back_in outer.entries last) in
          let branched_sound = (branches_add tested.guard enough.extra other_enough.extra outer filled last in_then in_else).sound outer_sound in
          let branch = branches_give tested.guard block.extra second.extra outer filled last
          (block.gives turns known (in_block outer) (in_sound outer outer_sound) are.1.0)
          (second.gives turns known (in_block filled) (in_sound filled filled_sound) are.1.1.0) in
          let both = gives_then (extra_reads reads) (extra_and extra_guard blocks) growth outer branched
          (condition_gives reading turns condition growth sound known are.0) branch in
          let whole = gives_same (extra_and (extra_reads reads) (extra_and extra_guard blocks)) (extra_and own blocks) growth branched
          (grouped (extra_reads reads) extra_guard blocks) both in
          gives_then (extra_and own blocks) rest.extra growth branched (unrolled reading turns more branched) whole
          (rest.gives turns known branched branched_sound are.1.1.1);
      taken = λ turns known growth sound.
          let tested = condition_guard reading turns condition growth in
          let outer = tested.growth in
          let outer_sound = (condition_adds reading turns condition growth sound known).sound sound in
          let filled = unrolled reading turns inside (in_block outer) in
          let in_then = enough.adds turns known (in_block outer) (in_sound outer outer_sound) in
          let filled_sound = in_then.sound (in_sound outer outer_sound) in
          let last = unrolled reading turns other (in_block filled) in
          let in_else = other_enough.adds turns known (in_block filled) (in_sound filled filled_sound) in
          let branched = with_last_entry (entries.Branch tested.guard (filled_block filled) (filled_block last)) (back_in outer.entries last) in
          let branched_sound = (branches_add tested.guard enough.extra other_enough.extra outer filled last in_then in_else).sound outer_sound in
          let first = block.taken turns known (in_block outer) (in_sound outer outer_sound) in
          let next = second.taken turns known (in_block filled) (in_sound filled filled_sound) in
          let others = rest.taken turns known branched branched_sound in
          omega (arith, first, next, others);
      counts = λ before total is.
          let guarded = just_and before own total (guard_amounts reading.lexicon reading.names condition) is (guard_just reading condition) in
          let blocked = block.counts (extra_and before own) _ guarded in
          let both = second.counts (extra_and (extra_and before own) block.extra) _ blocked in
          let whole = rest.counts (extra_and (extra_and (extra_and before own) block.extra) second.extra) _ both in
          just_same (extra_and before (extra_and (extra_and own blocks) rest.extra))
          (extra_and (extra_and (extra_and (extra_and before own) block.extra) second.extra) rest.extra) _
          (grouped_thrice before own block.extra second.extra rest.extra) whole;
    }

-- what is counted of statements is what they add
pub all_just : (reading : Readings) (stmts : Statements) → AllJust reading stmts
all_just reading Nothing = record {
  extra = no_extra;
  gives = λ turns known growth sound are. gives_none growth;
  taken = λ turns known growth sound. refl;
  counts = λ before total is.
      just_same (extra_and before no_extra) before total
      (record { slots = omega arith; locals = omega arith; items = omega arith; guards = omega arith; turns = omega arith }) is;
}
all_just reading (Declares variable more) =
    before_others reading (Declares variable more) more _ _ _ (local_enough reading variable) (local_just reading variable)
    (all_just reading more) (λ turns growth. refl) (λ turns growth are. are) (λ turns growth. refl) (λ total. refl)
all_just reading (Calls call more) =
    before_others reading (Calls call more) more _ _ _ (call_enough reading call) (call_just reading call)
    (all_just reading more) (λ turns growth. refl) (λ turns growth are. are) (λ turns growth. refl) (λ total. refl)
all_just reading (Asks ask more) =
    before_others reading (Asks ask more) more _ _ _ (ask_enough reading ask) (ask_just reading ask)
    (all_just reading more) (λ turns growth. refl) (λ turns growth are. are) (λ turns growth. refl) (λ total. refl)
all_just reading (Tests at condition then_at inside more) =
    tests_just reading at condition then_at inside more (all_enough reading inside) (all_just reading inside) (all_just reading more)
all_just reading (Chooses at condition then_at inside else_at other more) =
    chooses_just reading at condition then_at inside else_at other more (all_enough reading inside) (all_enough reading other)
    (all_just reading inside) (all_just reading other) (all_just reading more)
all_just reading (Repeats at name class body_at body more) =
    foreach_just reading at name class body_at body more (all_enough reading body) (all_just reading body) (all_just reading more)
