-- What names what is seen, by the way to its block.
use Rattle.std.proofs.Common.{◌≡◌, ℕ, zero, suc, List, [], ◌∷◌, ◌++◌, refl, sym, subst}
use Rattle.std.specs.Prelude.{Some, All, slice_get}
use Rattle.model_core.specs.declared.class.Object.{Object}
use Rattle.model_core.specs.declared.item.Item.{Item}
use Rattle.model_core.specs.declared.item.Item.TheVariants.{Relation}
use Rattle.model_core.specs.declared.rule.Guard.{Guard}
use Rattle.model_core.specs.declared.rule.Side.{Side}
use Rattle.model_core.specs.declared.rule.Side.TheVariants.{Then, Otherwise}
use Rattle.model_core.specs.declared.rule.Turn.{Turn}
use Rattle.model_core.specs.Blocks.{Direct, OfBranch, OfItem, OfLocal, OfSlot, chosen, direct}
use Rattle.model_core.specs.Entries.{Entries, NoEntry, WithSlot, WithLocal, WithItem, WithBranch}
use Rattle.model_core.specs.Standing.{IsSeen, LeadsToBlock}
use Rattle.model_rules.specs.Nested.{IsTermAmong, names_of}
use Rattle.model_rules.proofs.Seeing.{Sees, item_seen, sees_more, terms_seen, top_sees}
use Rattle.model_rules.proofs.Ways.{append_assoc_turns, append_nil_turns, turn_more}
use Rattle.nddl_rules.specs.Sight.{no_sight}
use Rattle.nddl_rules.specs.Tally.{no_tally}
use Rattle.nddl_terms.specs.PlainTree.{PlainTree}
use Rattle.nddl_terms.specs.Growth.{no_growth}
use Rattle.nddl_terms.specs.declared.lexicon.Lexicon.{Lexicon}
use Rattle.nddl_terms.specs.Readings.{no_places}
use Rattle.nddl_unroll.specs.Rules.{tree_readings, tree_rule}
use Rattle.nddl_lowering_laws.specs.Scoped.{AreApart, local_places, slot_places}
use Rattle.nddl_lowering_laws.specs.Seen.{HasArity, HasSeenTerms, IsScoped, IsSeenEntry, ItemsHaveArities, RelationsHaveSlots, TermsAreSeen, sides_of}
use Rattle.nddl_lowering_laws.proofs.Joining.{numbers_there}
use Rattle.nddl_lowering_laws.proofs.Placing.{Placed, placed_whole, text_locals, text_slots}
use Rattle.nddl_lowering_laws.proofs.Visible.{AreAmong, IsFormed, SeenNames}
use Rattle.nddl_lowering_laws.proofs.Walking.{go_through}

-- ---- one block

-- what an entry names is among these
abbrev IsAmongEntry : SeenNames → Direct → Type 0
IsAmongEntry seen (OfItem item) = IsFormed seen item
IsAmongEntry seen (OfBranch guard first second) = All (IsTermAmong seen) (sides_of guard)
IsAmongEntry seen (OfSlot number) = Unit {0}
IsAmongEntry seen (OfLocal number) = Unit {0}

some_same : (one other : Direct) → Some one ≡ Some other → one ≡ other
some_same one other is = cc

entry_among : (seen : SeenNames) (block : Entries) → AreAmong seen block → (place : ℕ) (what : Direct) → slice_get (direct block) place ≡ Some what
    → IsAmongEntry seen what
entry_among seen NoEntry are place what at = absurd (cc)
entry_among seen (WithSlot slot more) are zero what at = subst (IsAmongEntry seen) (some_same (OfSlot slot) what at) tt
entry_among seen (WithSlot slot more) are (suc place) what at = entry_among seen more are place what at
entry_among seen (WithLocal local more) are zero what at = subst (IsAmongEntry seen) (some_same (OfLocal local) what at) tt
entry_among seen (WithLocal local more) are (suc place) what at = entry_among seen more are place what at
entry_among seen (WithItem item more) are zero what at = subst (IsAmongEntry seen) (some_same (OfItem item) what at) are.0
entry_among seen (WithItem item more) are (suc place) what at = entry_among seen more are.1 place what at
entry_among seen (WithBranch guard first second more) are zero what at =
    subst (IsAmongEntry seen) (some_same (OfBranch guard first second) what at) are.0
entry_among seen (WithBranch guard first second more) are (suc place) what at = entry_among seen more are.1.1.1 place what at

-- and so is what stands in the blocks of a branch
side_among : (seen : SeenNames) (block : Entries) → AreAmong seen block → (place : ℕ) (guard : Guard) (first second : Entries)
    → slice_get (direct block) place ≡ Some (OfBranch guard first second) → (side : Side)
    → AreAmong (seen ++ names_of (chosen side first second)) (chosen side first second)
side_among seen NoEntry are place guard first second at side = absurd (cc)
side_among seen (WithSlot slot more) are zero guard first second at side = absurd (cc)
side_among seen (WithSlot slot more) are (suc place) guard first second at side = side_among seen more are place guard first second at side
side_among seen (WithLocal local more) are zero guard first second at side = absurd (cc)
side_among seen (WithLocal local more) are (suc place) guard first second at side = side_among seen more are place guard first second at side
side_among seen (WithItem item more) are zero guard first second at side = absurd (cc)
side_among seen (WithItem item more) are (suc place) guard first second at side = side_among seen more are.1 place guard first second at side
side_among seen (WithBranch other one two more) are zero guard first second at Then =
    let same : one ≡ first = cc in subst (λ (b : Entries). AreAmong (seen ++ names_of b) b) same are.1.0
side_among seen (WithBranch other one two more) are zero guard first second at Otherwise =
    let same : two ≡ second = cc in subst (λ (b : Entries). AreAmong (seen ++ names_of b) b) same are.1.1.0
side_among seen (WithBranch other one two more) are (suc place) guard first second at side =
    side_among seen more are.1.1.1 place guard first second at side

-- ---- ways

entry_seen : (top : Entries) (path : List Turn) (seen : SeenNames) → Sees top path seen → (what : Direct) → IsAmongEntry seen what → IsSeenEntry top path what
entry_seen top path seen sees (OfItem item) are = item_seen top path seen sees item are.1
entry_seen top path seen sees (OfBranch guard first second) are = terms_seen top path seen sees (sides_of guard) are
entry_seen top path seen sees (OfSlot number) are = tt
entry_seen top path seen sees (OfLocal number) are = tt

along_way : (top : Entries) (base : List Turn) (block : Entries) (seen : SeenNames) → LeadsToBlock top base block → Sees top base seen
    → AreAmong seen block → (path : List Turn) (inside : Entries) → LeadsToBlock block path inside → (place : ℕ) (what : Direct)
    → slice_get (direct inside) place ≡ Some what → IsSeenEntry top (base ++ path) what
along_way top base block seen way sees are [] inside here place what at =
    subst (λ (path : List Turn). IsSeenEntry top path what) (sym (append_nil_turns base))
    (entry_seen top base seen sees what
    (entry_among seen block are place what (subst (λ (b : Entries). slice_get (direct b) place ≡ Some what) here at)))
along_way top base block seen way sees are (turn ∷ path) inside there place what at =
    let further = base ++ turn ∷ [] in
    let block' = chosen turn.side there.1.0 there.1.1 in
    let way' = turn_more top base block turn there.0 there.1.0 there.1.1 way there.1.2.0 in
    subst (λ (path' : List Turn). IsSeenEntry top path' what) (append_assoc_turns base (turn ∷ []) path)
    (along_way top further block' (seen ++ names_of block') way' (sees_more top base turn block' seen way' sees)
    (side_among seen block are turn.entry there.0 there.1.0 there.1.1 there.1.2.0 turn.side) path inside there.1.2.1.1 place what at)

pub terms_seen_in : (top : Entries) → AreAmong (names_of top) top → HasSeenTerms top
terms_seen_in top are path place what stands =
    along_way top [] top (names_of top) refl (top_sees top) are path stands.block stands.way place what stands.stands

-- whatever is seen there, what stands in a block is formed so
formed_on_way : (block : Entries) (seen : SeenNames) → AreAmong seen block → (path : List Turn) (inside : Entries) → LeadsToBlock block path inside
    → (place : ℕ) (item : Item) → slice_get (direct inside) place ≡ Some (OfItem item) → HasArity item
formed_on_way block seen are [] inside here place item at =
    (entry_among seen block are place (OfItem item) (subst (λ (b : Entries). slice_get (direct b) place ≡ Some (OfItem item)) here at)).0
formed_on_way block seen are (turn ∷ path) inside there place item at =
    let side = chosen turn.side there.1.0 there.1.1 in
    formed_on_way side (seen ++ names_of side)
    (side_among seen block are turn.entry there.0 there.1.0 there.1.1 there.1.2.0 turn.side) path inside there.1.2.1.1 place item at

-- ---- rules

-- what stands in the rule is formed so
tree_among : (lexicon : Lexicon) (objects : List Object) (tree : PlainTree) → IsScoped lexicon objects tree
    → AreAmong (names_of (tree_rule lexicon objects tree).top) (tree_rule lexicon objects tree).top
tree_among lexicon objects tree scoped =
    let reading = tree_readings lexicon objects tree in
    let locals_are = text_locals tree.body no_places in
    let slots_are = text_slots tree.body no_places in
    let apart = subst AreApart (sym locals_are) scoped.locals in
    let slots_apart = subst AreApart (sym slots_are) scoped.slots in
    let placed = subst (λ (list : List ℕ). Placed list 0 (local_places tree.body)) (sym locals_are) (placed_whole (local_places tree.body)) in
    let slots_placed = subst (λ (list : List ℕ). Placed list 0 (slot_places tree.body)) (sym slots_are) (placed_whole (slot_places tree.body)) in
    let goes = go_through reading scoped.files scoped.sources apart slots_apart tree.body [] [] no_growth no_sight no_tally
    (record { known = tt; views = record { named = tt; asked = tt } }) placed slots_placed scoped.read scoped.calls scoped.meant in
    goes.seen tt

pub terms_are_seen : TermsAreSeen
terms_are_seen lexicon objects tree scoped = terms_seen_in (tree_rule lexicon objects tree).top (tree_among lexicon objects tree scoped)

pub items_have_arities : ItemsHaveArities
items_have_arities lexicon objects tree scoped path place item stands =
    let top = (tree_rule lexicon objects tree).top in
    formed_on_way top (names_of top) (tree_among lexicon objects tree scoped) path stands.block stands.way place item stands.stands

pub relations_have_slots : RelationsHaveSlots
relations_have_slots lexicon objects tree scoped path place relation number stands =
    let seen : IsSeen (tree_rule lexicon objects tree).top path (OfSlot number) =
    terms_are_seen lexicon objects tree scoped path place (OfItem (Relation relation number)) stands in
    (numbers_there lexicon objects tree).slots seen.outer seen.place number seen.stands
