-- The slots and the locals of a rule that is unrolled stand in it in order of their numbers.
use Rattle.std.proofs.Common.{◌≡◌, ℕ, ◌+◌, List, [], ◌∷◌, ◌++◌, length, map, refl, sym, ◌∙◌, ap, subst, append_assoc, append-nil, arith}
use Rattle.std.proofs.lemmas.List.{length-append}
use Rattle.model_core.specs.declared.class.Object.{Object}
use Rattle.model_core.specs.declared.item.Item.{Item}
use Rattle.model_core.specs.declared.rule.Entry.{Entry}
use Rattle.model_core.specs.declared.rule.Entry.TheVariants as entries
use Rattle.model_core.specs.declared.rule.Slot as slots
use Rattle.model_core.specs.Block.{plain_entries}
use Rattle.model_core.specs.Entries.{Entries}
use Rattle.nddl_terms.specs.PlainTree.{PlainTree}
use Rattle.nddl_terms.specs.declared.growth.Growth.{Growth}
use Rattle.nddl_terms.specs.declared.lexicon.Lexicon.{Lexicon}
use Rattle.nddl_terms.specs.declared.lexicon.Shape.{Shape}
use Rattle.nddl_terms.specs.declared.stands.Stand.{Stand}
use Rattle.nddl_terms.specs.Growth.{no_growth, unnamed, with_item, with_last_entry, with_next_local, with_slot}
use Rattle.nddl_lower.specs.Arguments.{with_items}
use Rattle.nddl_lower.specs.Locals.{with_named_at}
use Rattle.nddl_lower.specs.Slots.{pred_slot, with_asked_at}
use Rattle.nddl_unroll.specs.Blocks.{back_in, filled_block, unrolled}
use Rattle.nddl_unroll.specs.Rules.{tree_readings, tree_rule}
use Rattle.model_rules.specs.declared.numbers.Sort.{Sort}
use Rattle.model_rules.specs.declared.numbers.Sort.TheVariants.{Slots, Locals}
use Rattle.model_rules.specs.Numbered.{AreOnce, numbers_of}
use Rattle.model_rules.proofs.Listing.{once_stands}
use Rattle.nddl_lowering_laws.specs.Standing.{LocalsStandOnce, SlotsStandOnce}
use Rattle.nddl_lowering_laws.proofs.Growing.{IsKept, IsKeptByBranches, unrolled_kept}
use Rattle.nddl_lowering_laws.proofs.Runs.{length_run, run, run_both, run_join, run_once}

-- how many of this sort the rule has so far
abbrev pub count_in : Sort → Growth → ℕ
count_in Slots growth = length growth.slots
count_in Locals growth = length growth.locals

-- the numbers of what stands among the entries
abbrev pub numbers_in : Sort → List Entry → List ℕ
numbers_in sort some = numbers_of sort (plain_entries some)

pub numbers_append : (sort : Sort) (one other : List Entry) → numbers_in sort (one ++ other) ≡ numbers_in sort one ++ numbers_in sort other
numbers_append sort [] other = refl
numbers_append Slots (entries.Slot number ∷ more) other = ap (λ (list : List ℕ). number ∷ list) (numbers_append Slots more other)
numbers_append Locals (entries.Slot number ∷ more) other = numbers_append Locals more other
numbers_append Slots (entries.Local number ∷ more) other = numbers_append Slots more other
numbers_append Locals (entries.Local number ∷ more) other = ap (λ (list : List ℕ). number ∷ list) (numbers_append Locals more other)
numbers_append sort (entries.Item item ∷ more) other = numbers_append sort more other
numbers_append sort (entries.Branch guard first second ∷ more) other =
    let one = numbers_of sort first in
    let two = numbers_of sort second in
    let rest = numbers_in sort more in
    let behind = numbers_in sort other in
    ap (λ (list : List ℕ). one ++ (two ++ list)) (numbers_append sort more other)
    ∙ sym (append_assoc one (two ++ rest) behind ∙ ap (λ (list : List ℕ). one ++ list) (append_assoc two rest behind))

-- items have no numbers
items_numbers : (sort : Sort) (some : List Item) → numbers_in sort (map entries.Item some) ≡ []
items_numbers sort [] = refl
items_numbers sort (item ∷ more) = items_numbers sort more

-- behind what stood before come so many of the sort, which have the next numbers in their order
pub record Follows (sort : Sort) (old new : Growth) : Type 0 where
  pub count : ℕ
  pub size : count_in sort new ≡ count_in sort old + count
  pub listed : numbers_in sort new.entries ≡ numbers_in sort old.entries ++ run (count_in sort old) count

-- these entries came
entered : (sort : Sort) (old new : Growth) (added : List Entry) (count : ℕ) → count_in sort new ≡ count_in sort old + count
    → new.entries ≡ old.entries ++ added → numbers_in sort added ≡ run (count_in sort old) count → Follows sort old new
entered sort old new added count size come numbers = record {
  count = count;
  size = size;
  listed =
      ap (λ (some : List Entry). numbers_in sort some) come
      ∙ (numbers_append sort old.entries added ∙ ap (λ (list : List ℕ). numbers_in sort old.entries ++ list) numbers);
}

-- none came, and the entries are as before
unmoved : (sort : Sort) (old new : Growth) → count_in sort new ≡ count_in sort old + 0 → new.entries ≡ old.entries → Follows sort old new
unmoved sort old new size same = entered sort old new [] 0 size (same ∙ sym (append-nil old.entries)) refl

follows_same : (sort : Sort) (growth : Growth) → Follows sort growth growth
follows_same sort growth = unmoved sort growth growth (omega arith) refl

follows_join : (sort : Sort) (first second third : Growth) → Follows sort first second → Follows sort second third → Follows sort first third
follows_join sort first second third one other =
    let front = numbers_in sort first.entries in
    let begin = count_in sort first in
    record {
      count = one.count + other.count;
      size = omega (arith, one.size, other.size);
      listed =
          other.listed
          ∙ (ap (λ (list : List ℕ). list ++ run (count_in sort second) other.count) one.listed
          ∙ (append_assoc front (run begin one.count) (run (count_in sort second) other.count)
          ∙ ap (λ (list : List ℕ). front ++ list)
          (ap (λ (n : ℕ). run begin one.count ++ run n other.count) one.size ∙ run_join begin one.count other.count)));
    }

follows_item : (sort : Sort) (item : Item) (growth : Growth) → Follows sort growth (with_item item growth)
follows_item Slots item growth = entered Slots growth (with_item item growth) (entries.Item item ∷ []) 0 (omega arith) refl refl
follows_item Locals item growth = entered Locals growth (with_item item growth) (entries.Item item ∷ []) 0 (omega arith) refl refl

follows_items : (sort : Sort) (some : List Item) (growth : Growth) → Follows sort growth (with_items some growth)
follows_items Slots some growth =
    entered Slots growth (with_items some growth) (map entries.Item some) 0 (omega arith) refl (items_numbers Slots some)
follows_items Locals some growth =
    entered Locals growth (with_items some growth) (map entries.Item some) 0 (omega arith) refl (items_numbers Locals some)

follows_local : (sort : Sort) (shape : Shape) (growth : Growth) → Follows sort growth (with_next_local (unnamed shape) growth)
follows_local Slots shape growth =
    entered Slots growth (with_next_local (unnamed shape) growth) (entries.Local (length growth.locals) ∷ []) 0 (omega arith) refl refl
follows_local Locals shape growth =
    entered Locals growth (with_next_local (unnamed shape) growth) (entries.Local (length growth.locals) ∷ []) 1
    (omega (arith, length-append growth.locals (unnamed shape ∷ []))) refl refl

follows_slot : (sort : Sort) (slot : slots.Slot) (growth : Growth) → Follows sort growth (with_slot slot growth)
follows_slot Slots slot growth =
    entered Slots growth (with_slot slot growth) (entries.Slot (length growth.slots) ∷ []) 1
    (omega (arith, length-append growth.slots (slot ∷ []))) refl refl
follows_slot Locals slot growth =
    entered Locals growth (with_slot slot growth) (entries.Slot (length growth.slots) ∷ []) 0 (omega arith) refl refl

follows_named : (sort : Sort) (at : ℕ) (stand : Stand) (growth : Growth) → Follows sort growth (with_named_at at stand growth)
follows_named Slots at stand growth = unmoved Slots growth (with_named_at at stand growth) (omega arith) refl
follows_named Locals at stand growth = unmoved Locals growth (with_named_at at stand growth) (omega arith) refl

follows_asked : (sort : Sort) (at : ℕ) (stand : Stand) (growth : Growth) → Follows sort growth (with_asked_at at stand growth)
follows_asked Slots at stand growth = unmoved Slots growth (with_asked_at at stand growth) (omega arith) refl
follows_asked Locals at stand growth = unmoved Locals growth (with_asked_at at stand growth) (omega arith) refl

follows_kept : (sort : Sort) (lexicon : Lexicon) → IsKept lexicon (Follows sort)
follows_kept sort lexicon = record {
  same = follows_same sort;
  join = follows_join sort;
  item = follows_item sort;
  items = follows_items sort;
  local = follows_local sort;
  slot = λ pred growth there. follows_slot sort (pred_slot lexicon pred) growth;
  named = follows_named sort;
  asked = follows_asked sort;
}

follows_branches : (sort : Sort) → IsKeptByBranches (Follows sort)
follows_branches Slots guard outer filled second one other =
    let branch = entries.Branch guard (filled_block filled) (filled_block second) in
    entered Slots outer (with_last_entry branch (back_in outer.entries second)) (branch ∷ []) (one.count + other.count)
    (omega (arith, one.size, other.size)) refl
    (run_both (numbers_in Slots filled.entries) (numbers_in Slots second.entries) (length outer.slots) (length filled.slots) one.count other.count
    one.listed one.size other.listed)
follows_branches Locals guard outer filled second one other =
    let branch = entries.Branch guard (filled_block filled) (filled_block second) in
    entered Locals outer (with_last_entry branch (back_in outer.entries second)) (branch ∷ []) (one.count + other.count)
    (omega (arith, one.size, other.size)) refl
    (run_both (numbers_in Locals filled.entries) (numbers_in Locals second.entries) (length outer.locals) (length filled.locals) one.count other.count
    one.listed one.size other.listed)

-- ---- rules

-- what the rule has, from where it has nothing
abbrev pub tree_growth : Lexicon → List Object → PlainTree → Growth
tree_growth lexicon objects tree = unrolled (tree_readings lexicon objects tree) [] tree.body no_growth

tree_follows : (sort : Sort) (lexicon : Lexicon) (objects : List Object) (tree : PlainTree) → Follows sort no_growth (tree_growth lexicon objects tree)
tree_follows sort lexicon objects tree =
    unrolled_kept (tree_readings lexicon objects tree) (Follows sort) (follows_kept sort lexicon) (follows_branches sort) [] tree.body no_growth

once_from : (sort : Sort) (top : Entries) (size count : ℕ) → size ≡ 0 + count → numbers_of sort top ≡ run 0 count → AreOnce size (numbers_of sort top)
once_from sort top size count size_is numbers =
    let same : count ≡ size = omega (arith, size_is) in
    subst (λ (n : ℕ). AreOnce n (numbers_of sort top)) same (subst (AreOnce count) (sym numbers) (run_once count))

listed_size : (list : List ℕ) (size count : ℕ) → size ≡ 0 + count → list ≡ run 0 count → length list ≡ size
listed_size list size count size_is numbers = let same = ap length numbers in omega (arith, same, size_is, length_run 0 count)

pub slots_once : (lexicon : Lexicon) (objects : List Object) (tree : PlainTree)
    → AreOnce (length (tree_rule lexicon objects tree).slots) (numbers_of Slots (tree_rule lexicon objects tree).top)
slots_once lexicon objects tree =
    let rule = tree_rule lexicon objects tree in
    let are = tree_follows Slots lexicon objects tree in
    once_from Slots rule.top (length rule.slots) are.count are.size are.listed

pub locals_once : (lexicon : Lexicon) (objects : List Object) (tree : PlainTree)
    → AreOnce (length (tree_rule lexicon objects tree).locals) (numbers_of Locals (tree_rule lexicon objects tree).top)
locals_once lexicon objects tree =
    let rule = tree_rule lexicon objects tree in
    let are = tree_follows Locals lexicon objects tree in
    once_from Locals rule.top (length rule.locals) are.count are.size are.listed

-- as many numbers stand in the rule as it has slots
pub slots_listed : (lexicon : Lexicon) (objects : List Object) (tree : PlainTree)
    → length (numbers_of Slots (tree_rule lexicon objects tree).top) ≡ length (tree_rule lexicon objects tree).slots
slots_listed lexicon objects tree =
    let are = tree_follows Slots lexicon objects tree in
    listed_size (numbers_of Slots (tree_rule lexicon objects tree).top) (length (tree_rule lexicon objects tree).slots) are.count are.size are.listed

pub locals_listed : (lexicon : Lexicon) (objects : List Object) (tree : PlainTree)
    → length (numbers_of Locals (tree_rule lexicon objects tree).top) ≡ length (tree_rule lexicon objects tree).locals
locals_listed lexicon objects tree =
    let are = tree_follows Locals lexicon objects tree in
    listed_size (numbers_of Locals (tree_rule lexicon objects tree).top) (length (tree_rule lexicon objects tree).locals) are.count are.size are.listed

pub slots_stand : SlotsStandOnce
slots_stand lexicon objects tree =
    let rule = tree_rule lexicon objects tree in once_stands Slots rule.top (length rule.slots) (slots_once lexicon objects tree)

pub locals_stand : LocalsStandOnce
locals_stand lexicon objects tree =
    let rule = tree_rule lexicon objects tree in once_stands Locals rule.top (length rule.locals) (locals_once lexicon objects tree)
