-- How marks come, and what they say in the end.
use Rattle.std.proofs.Common.{◌≡◌, ℕ, zero, suc, ◌+◌, ◌<◌, ◌≤◌, Bool, true, false, List, [], ◌∷◌, length, get_or, set, replicate, Some, inl, inr, ◌⊎◌, refl, sym, ap, ◌∙◌, subst, arith}
use Rattle.std.specs.Prelude.{◌↔◌, MatchBool, slice_get}
use Rattle.std.proofs.lemmas.Bool.{cases_lt, cases_eq}
use Rattle.std.proofs.lemmas.List.{length-set, length-replicate, get_or-set_same, get_or-set_other}
use Rattle.eu_name.specs.declared.name.TokenName.{TokenName}
use Rattle.eu_name.proofs.Members.{get_same, get_below}
use Rattle.model_core.specs.declared.model.Model.{Model}
use Rattle.model_core.specs.declared.rule.Entry.{Entry}
use Rattle.model_core.specs.declared.rule.Entry.TheVariants as entries
use Rattle.model_core.specs.declared.rule.Guard.{Guard}
use Rattle.model_core.specs.declared.rule.Rule.{Rule}
use Rattle.model_core.specs.declared.rule.Side.{Side}
use Rattle.model_core.specs.declared.item.Item.{Item}
use Rattle.model_core.specs.Block.{plain_entries}
use Rattle.model_core.specs.Blocks.{Direct, OfSlot, OfLocal, OfItem, OfBranch, chosen}
use Rattle.model_core.specs.Entries.{Entries}
use Rattle.model_core.specs.Lawful.{IsLawful}
use Rattle.plan_defs.specs.declared.plan.Plan.{Plan}
use Rattle.plan_defs.specs.Terms.{InRule}
use Rattle.plan_values.specs.Openings.{Allows, StandsInside, StandsWith, StandsInRule}
use Rattle.plan_values.specs.Walks.{HasRuleOf}
use Rattle.plan_values.proofs.Few.{few_of}
use Rattle.plan_values.proofs.Matching.{match_bool}
use Rattle.plan_values.proofs.Ruling.{one_rule}
use Rattle.plan_values.proofs.Standing.{inside_entry, entry_inside}
use Rattle.plan_inventory.specs.declared.marks.Marks.{Marks}
use Rattle.plan_inventory.specs.Marking.{IsMarked, HasMark, AreNone, AddsMarks, MarksRule}
use Rattle.plan_inventory.proofs.Sweeping.{slot_below, local_below, no_rule_stands}

-- ---- a list of marks

-- none of so many is set
unset : (count number : ℕ) → get_or (replicate count false) number false ≡ true → ⊥
unset zero number is = cc
unset (suc count) zero is = cc
unset (suc count) (suc number) is = unset count number is

pub none_marked : (marks : Marks) → marks.slots ≡ replicate 128 false → marks.locals ≡ replicate 128 false → AreNone marks
none_marked marks slots locals = record {
  slots = ap length slots ∙ length-replicate 128 false;
  locals = ap length locals ∙ length-replicate 128 false;
  none = unmarked;
}
  where
    unmarked : (what : Direct) → IsMarked marks what → ⊥
    unmarked (OfSlot number) is = unset 128 number (subst (λ (xs : List Bool). get_or xs number false ≡ true) slots is)
    unmarked (OfLocal number) is = unset 128 number (subst (λ (xs : List Bool). get_or xs number false ≡ true) locals is)
    unmarked (OfItem item) is = is
    unmarked (OfBranch guard then otherwise) is = is

-- where there is no mark, none is set
pub set_past : (xs : List Bool) (number : ℕ) → length xs ≤ number → xs ≡ set xs number true
set_past [] number past = refl
set_past (x ∷ xs) zero past = absurd (omega (arith, past))
set_past (x ∷ xs) (suc number) past = ap (λ (more : List Bool). x ∷ more) (set_past xs number (omega (arith, past)))

-- what is set is there
set_within : (xs : List Bool) (number : ℕ) → get_or xs number false ≡ true → number < length xs
set_within [] number is = absurd (cc)
set_within (x ∷ xs) zero is = omega arith
set_within (x ∷ xs) (suc number) is = let more = set_within xs number is in omega arith

module _ (old new : List Bool) (number : ℕ) (is : new ≡ set old number true) where
  same_count : length new ≡ length old
  same_count = ap length is ∙ length-set old number true

  here_set : number < length old → get_or new number false ≡ true
  here_set within = ap (λ (xs : List Bool). get_or xs number false) is ∙ get_or-set_same old number true false within

  other_set : (k : ℕ) → (k ≡ number → ⊥) → get_or new k false ≡ get_or old k false
  other_set k apart = ap (λ (xs : List Bool). get_or xs k false) is ∙ get_or-set_other old number k true false apart

  still_set : (k : ℕ) → get_or old k false ≡ true → get_or new k false ≡ true
  still_set k was = elim (cases_eq k number) [
    | inl same ↦ (
        let within = set_within old k was in
        subst (λ (n : ℕ). get_or new n false ≡ true) (sym same) (here_set (omega (arith, within, same))))
    | inr apart ↦ other_set k apart ∙ was
  ]

  either_set : (k : ℕ) → get_or new k false ≡ true → (get_or old k false ≡ true) ⊎ (k ≡ number)
  either_set k marked = elim (cases_eq k number) [
    | inl same ↦ inr same
    | inr apart ↦ inl (sym (other_set k apart) ∙ marked)
  ]

-- ---- one mark more

module _ (old new : Marks) (number : ℕ) (slots : new.slots ≡ set old.slots number true) (locals : new.locals ≡ old.locals) where
  slot_kept : (what : Direct) → IsMarked old what → IsMarked new what
  slot_kept (OfSlot k) was = still_set old.slots new.slots number slots k was
  slot_kept (OfLocal k) was = subst (λ (xs : List Bool). get_or xs k false ≡ true) (sym locals) was
  slot_kept (OfItem item) was = was
  slot_kept (OfBranch guard then otherwise) was = was

  slot_added : (what : Direct) → HasMark old what → what ≡ OfSlot number → IsMarked new what
  slot_added what has same = subst (IsMarked new) (sym same) (here_set old.slots new.slots number slots (subst (HasMark old) same has))

  slot_only : (what : Direct) → IsMarked new what → IsMarked old what ⊎ (what ≡ OfSlot number)
  slot_only (OfSlot k) marked = elim (either_set old.slots new.slots number slots k marked) [ inl was ↦ inl was | inr same ↦ inr (ap OfSlot same) ]
  slot_only (OfLocal k) marked = inl (subst (λ (xs : List Bool). get_or xs k false ≡ true) locals marked)
  slot_only (OfItem item) marked = inl marked
  slot_only (OfBranch guard then otherwise) marked = inl marked

  pub adds_slot : AddsMarks (λ what. what ≡ OfSlot number) old new
  adds_slot = record { slots = same_count old.slots new.slots number slots; locals = ap length locals; kept = slot_kept; added = slot_added; only = slot_only }

module _ (old new : Marks) (number : ℕ) (slots : new.slots ≡ old.slots) (locals : new.locals ≡ set old.locals number true) where
  local_kept : (what : Direct) → IsMarked old what → IsMarked new what
  local_kept (OfSlot k) was = subst (λ (xs : List Bool). get_or xs k false ≡ true) (sym slots) was
  local_kept (OfLocal k) was = still_set old.locals new.locals number locals k was
  local_kept (OfItem item) was = was
  local_kept (OfBranch guard then otherwise) was = was

  local_added : (what : Direct) → HasMark old what → what ≡ OfLocal number → IsMarked new what
  local_added what has same = subst (IsMarked new) (sym same) (here_set old.locals new.locals number locals (subst (HasMark old) same has))

  local_only : (what : Direct) → IsMarked new what → IsMarked old what ⊎ (what ≡ OfLocal number)
  local_only (OfSlot k) marked = inl (subst (λ (xs : List Bool). get_or xs k false ≡ true) slots marked)
  local_only (OfLocal k) marked = elim (either_set old.locals new.locals number locals k marked) [ inl was ↦ inl was | inr same ↦ inr (ap OfLocal same) ]
  local_only (OfItem item) marked = inl marked
  local_only (OfBranch guard then otherwise) marked = inl marked

  pub adds_local : AddsMarks (λ what. what ≡ OfLocal number) old new
  adds_local = record { slots = ap length slots; locals = same_count old.locals new.locals number locals; kept = local_kept; added = local_added; only = local_only }

-- as many marks are there
has_same : (old new : Marks) → length new.slots ≡ length old.slots → length new.locals ≡ length old.locals → (what : Direct) → HasMark old what → HasMark new what
has_same old new slots locals (OfSlot number) has = omega (arith, has, slots)
has_same old new slots locals (OfLocal number) has = omega (arith, has, locals)
has_same old new slots locals (OfItem item) has = has
has_same old new slots locals (OfBranch guard then otherwise) has = has

-- ---- other ways to say what is added

-- nothing is to be marked
pub adds_nothing : (IsSo : Direct → Type 0) (marks : Marks) → ((what : Direct) → HasMark marks what → IsSo what → ⊥) → AddsMarks IsSo marks marks
adds_nothing IsSo marks none = record { slots = refl; locals = refl; kept = λ what was. was; added = λ what has so. absurd (none what has so); only = λ what marked. inl marked }

pub adds_same : (IsSo Other : Direct → Type 0) (old new : Marks) → ((what : Direct) → HasMark old what → Other what → IsSo what) → ((what : Direct) → IsSo what → Other what)
    → AddsMarks IsSo old new → AddsMarks Other old new
adds_same IsSo Other old new back forth adds = record {
  slots = adds.slots;
  locals = adds.locals;
  kept = adds.kept;
  added = λ what has other. adds.added what has (back what has other);
  only = λ what marked. elim (adds.only what marked) [ inl was ↦ inl was | inr so ↦ inr (forth what so) ];
}

-- a branch has no mark
unbranched : (marks : Marks) (what : Direct) → HasMark marks what → (guard : Guard) (then otherwise : Entries) → OfBranch guard then otherwise ≡ what → ⊥
unbranched marks (OfSlot number) has guard then otherwise same = cc
unbranched marks (OfLocal number) has guard then otherwise same = cc
unbranched marks (OfItem item) has guard then otherwise same = absurd has
unbranched marks (OfBranch guard' then' otherwise') has guard then otherwise same = absurd has

module _ (Allowed : Guard → Side → Type 0) where
  -- ---- one entry

  pub marks_slot : (entry : Entry) (number : ℕ) (old new : Marks) → entry ≡ entries.Slot number → AddsMarks (λ what. what ≡ OfSlot number) old new → AddsMarks (StandsWith Allowed entry) old new
  marks_slot entry number old new is adds = subst (λ (e : Entry). AddsMarks (StandsWith Allowed e) old new) (sym is) adds

  pub marks_local : (entry : Entry) (number : ℕ) (old new : Marks) → entry ≡ entries.Local number → AddsMarks (λ what. what ≡ OfLocal number) old new → AddsMarks (StandsWith Allowed entry) old new
  marks_local entry number old new is adds = subst (λ (e : Entry). AddsMarks (StandsWith Allowed e) old new) (sym is) adds

  pub marks_item : (entry : Entry) (item : Item) (marks : Marks) → entry ≡ entries.Item item → AddsMarks (StandsWith Allowed entry) marks marks
  marks_item entry item marks is = subst (λ (e : Entry). AddsMarks (StandsWith Allowed e) marks marks) (sym is)
      (adds_nothing (λ what. what ≡ OfItem item) marks (λ what has same. subst (HasMark marks) same has))

  -- what stands in the block that the guard opens
  pub marks_branch : (entry : Entry) (guard : Guard) (then otherwise block : Entries) (found : Side) (old new : Marks) → entry ≡ entries.Branch guard then otherwise
      → block ≡ chosen found then otherwise → ((side : Side) → Allowed guard side ↔ (side ≡ found))
      → AddsMarks (StandsInside Allowed block) old new → AddsMarks (StandsWith Allowed entry) old new
  marks_branch entry guard then otherwise block found old new is same opens adds =
      subst (λ (e : Entry). AddsMarks (StandsWith Allowed e) old new) (sym is)
      (adds_same (StandsInside Allowed block) (StandsWith Allowed (entries.Branch guard then otherwise)) old new
      (λ what has stands. subst (λ (b : Entries). StandsInside Allowed b what) (sym same)
      (subst (λ (s : Side). StandsInside Allowed (chosen s then otherwise) what) ((opens stands.0).0 stands.1) stands.2))
      (λ what inside. (found, (opens found).1 refl, subst (λ (b : Entries). StandsInside Allowed b what) same inside)) adds)

  pub marks_closed : (entry : Entry) (guard : Guard) (then otherwise : Entries) (marks : Marks) → entry ≡ entries.Branch guard then otherwise → ((side : Side) → Allowed guard side → ⊥)
      → AddsMarks (StandsWith Allowed entry) marks marks
  marks_closed entry guard then otherwise marks is closed = subst (λ (e : Entry). AddsMarks (StandsWith Allowed e) marks marks) (sym is)
      (adds_nothing (StandsWith Allowed (entries.Branch guard then otherwise)) marks (λ what has stands. closed stands.0 stands.1))

  -- ---- several entries

  -- this stands with one of the first entries, so many
  abbrev pub StandsWithFirst : List Entry → ℕ → Direct → Type 0
  StandsWithFirst listed count what =
      (place : ℕ) × ((entry : Entry) × ((place < count) × ((slice_get listed place ≡ Some entry) × StandsWith Allowed entry what)))

  pub none_first : (listed : List Entry) (marks : Marks) → AddsMarks (StandsWithFirst listed 0) marks marks
  none_first listed marks = adds_nothing (StandsWithFirst listed 0) marks (λ what has stands. omega (arith, stands.1.1.0))

  pub one_first : (listed : List Entry) (count : ℕ) (entry : Entry) (old mid new : Marks) → slice_get listed count ≡ Some entry → AddsMarks (StandsWithFirst listed count) old mid
      → AddsMarks (StandsWith Allowed entry) mid new → AddsMarks (StandsWithFirst listed (count + 1)) old new
  one_first listed count entry old mid new at before here = record {
    slots = here.slots ∙ before.slots;
    locals = here.locals ∙ before.locals;
    kept = λ what was. here.kept what (before.kept what was);
    added = λ what has stands. elim (cases_lt stands.0 count) [
      | inl less ↦ here.kept what (before.added what has (stands.0, (stands.1.0, (less, (stands.1.1.1.0, stands.1.1.1.1)))))
      | inr not_less ↦ (
          let same : stands.0 ≡ count = omega (arith, stands.1.1.0) in
          let entries : stands.1.0 ≡ entry = get_same listed count stands.1.0 entry (subst (λ (k : ℕ). slice_get listed k ≡ Some stands.1.0) same stands.1.1.1.0) at in
          here.added what (has_same old mid before.slots before.locals what has) (subst (λ (e : Entry). StandsWith Allowed e what) entries stands.1.1.1.1))
    ];
    only = λ what marked. elim (here.only what marked) [
      | inl was ↦ elim (before.only what was) [
        | inl older ↦ inl older
        | inr stands ↦ inr (stands.0, (stands.1.0, (omega (arith, stands.1.1.0), (stands.1.1.1.0, stands.1.1.1.1))))
      ]
      | inr stands ↦ inr (count, (entry, (omega arith, (at, stands))))
    ];
  }

  pub all_first : (listed : List Entry) (count : ℕ) (old new : Marks) → length listed ≤ count → AddsMarks (StandsWithFirst listed count) old new
      → AddsMarks (StandsInside Allowed (plain_entries listed)) old new
  all_first listed count old new all adds = adds_same (StandsWithFirst listed count) (StandsInside Allowed (plain_entries listed)) old new
      (λ what has inside.
      let found = inside_entry Allowed listed what (unbranched old what has) inside in
      (found.0, (found.1.0, (omega (arith, all, get_below listed found.0 found.1.0 found.1.1), (found.1.1, found.1.2)))))
      (λ what stands. entry_inside Allowed listed stands.0 stands.1.0 what stands.1.1.1.0 stands.1.1.1.1) adds

-- ---- all of a rule

module _ (model : Model) (plan : Plan) (token : TokenName) (number : ℕ) where
  pub marks_rule : (rule : Rule) (top : Entries) (none marks : Marks) → IsLawful model → HasRuleOf model token number rule → top ≡ rule.top → AreNone none
      → AddsMarks (StandsInside (Allows model plan (InRule token number)) top) none marks → MarksRule model plan token number marks
  marks_rule rule top none marks lawful is same clear adds = record {
    slots = λ slot. (
      marked_stands (OfSlot slot),
      λ stands. adds.added (OfSlot slot) (omega (arith, slot_below model lawful token number rule is plan slot stands, (few_of model token number rule lawful is).slots, clear.slots)) (in_top (OfSlot slot) stands),
    );
    locals = λ local. (
      marked_stands (OfLocal local),
      λ stands. adds.added (OfLocal local) (omega (arith, local_below model lawful token number rule is plan local stands, (few_of model token number rule lawful is).locals, clear.locals)) (in_top (OfLocal local) stands),
    );
  }
    where
      marked_stands : (what : Direct) → IsMarked marks what → StandsInRule model plan token number what
      marked_stands what marked = elim (adds.only what marked) [
        | inl was ↦ absurd (clear.none what was)
        | inr inside ↦ record {
          slot = is.slot;
          has_token = is.has_token;
          rule = rule;
          has_rule = is.has_rule;
          inside = subst (λ (t : Entries). StandsInside (Allows model plan (InRule token number)) t what) same inside;
        }
      ]

      in_top : (what : Direct) → StandsInRule model plan token number what → StandsInside (Allows model plan (InRule token number)) top what
      in_top what there =
          let rules = one_rule model token number there.rule rule (record { slot = there.slot; has_token = there.has_token; has_rule = there.has_rule }) is in
          subst (λ (t : Entries). StandsInside (Allows model plan (InRule token number)) t what) (ap (λ (r : Rule). r.top) rules ∙ sym same) there.inside

  pub marks_no_rule : (marks : Marks) → ((rule : Rule) → HasRuleOf model token number rule → ⊥) → AreNone marks → MarksRule model plan token number marks
  marks_no_rule marks none clear = record {
    slots = λ slot. (λ marked. absurd (clear.none (OfSlot slot) marked), λ stands. absurd (no_rule_stands model plan token number (OfSlot slot) none stands));
    locals = λ local. (λ marked. absurd (clear.none (OfLocal local) marked), λ stands. absurd (no_rule_stands model plan token number (OfLocal local) none stands));
  }

-- ---- answers by marks

pub by_mark : (Marked Stands : Type 0) (answer : Bool) → Marked ↔ Stands → MatchBool answer Marked (Marked → ⊥) → MatchBool answer Stands (Stands → ⊥)
by_mark Marked Stands answer same is = match_bool answer _ _ _ _ same.0 (λ none stands. none (same.1 stands)) is
