-- What a lawful model says of the sizes of a rule and its blocks.
use Rattle.std.proofs.Common.{◌≡◌, ℕ, zero, suc, ◌<◌, ◌≤◌, List, [], ◌∷◌, length, get_or, All, Some, refl, subst, inl, inr, arith}
use Rattle.std.specs.Prelude.{slice_get, sum_by}
use Rattle.std.specs.List.{AllZip}
use Rattle.std.proofs.lemmas.List.Elements.{All-nil, All-cons}
use Rattle.std.proofs.lemmas.Bool.{cases_lt}
use Rattle.std.proofs.lemmas.List.Sums.{get_or-le-sum_by}
use Rattle.std.proofs.lemmas.Option.{slice_get_within, slice_get-get_or}
use Rattle.model_core.specs.declared.model.Model.{Model}
use Rattle.model_core.specs.declared.rule.Entry.{Entry}
use Rattle.model_core.specs.declared.rule.Entry.TheVariants as entries
use Rattle.model_core.specs.declared.rule.Rule.{Rule}
use Rattle.model_core.specs.declared.rule.Turn.{Turn}
use Rattle.model_core.specs.Blocks.{Direct, OfSlot, OfLocal, OfItem, OfBranch, direct}
use Rattle.model_core.specs.Entries.{Entries}
use Rattle.model_core.specs.Lawful.{IsLawful, IsLawfulRule, item_count}
use Rattle.model_core.specs.Standing.{LeadsToBlock}
use Rattle.model_core.specs.Tokens.{HasRule}
use Rattle.model_core.proofs.Items.{item_within, item_is, item_all}
use Rattle.rule_engine.specs.Lists.{slots_in, locals_in}
use Rattle.rule_engine.proofs.Listing.{standing}

-- the rule at this place of a predicate's list
rule_listed : (model : Model) (places : List ℕ) (rules : List Rule) (number place : ℕ) (rule : Rule) → AllZip (λ p r. slice_get model.rules p ≡ Some r) places rules
    → slice_get places number ≡ Some place → slice_get model.rules place ≡ Some rule → slice_get rules number ≡ Some rule
rule_listed model [] rules number place rule are listed is_rule = cc
rule_listed model (first ∷ places) [] number place rule are listed is_rule = absurd are
rule_listed model (first ∷ places) (found ∷ rules) zero place rule (here, later) listed is_rule =
    let same : first ≡ place = cc in
    cc
rule_listed model (first ∷ places) (found ∷ rules) (suc number) place rule (here, later) listed is_rule = rule_listed model places rules number place rule later listed is_rule

in_sum : (f : Rule → ℕ) (rules : List Rule) (number : ℕ) (rule : Rule) → slice_get rules number ≡ Some rule → f rule ≤ sum_by f rules
in_sum f rules number rule listed =
    subst (λ (found : Rule). f found ≤ sum_by f rules) (item_is rules number rule rule listed) (get_or-le-sum_by f rules number rule (item_within rules number rule listed))

-- a lawful rule that has few slots, locals and items
pub record IsFew (model : Model) (pred : ℕ) (rule : Rule) : Type 0 where
  pub lawful : IsLawfulRule model pred rule
  pub slots : length rule.slots ≤ 128
  pub locals : length rule.locals ≤ 128
  pub items : item_count rule.top ≤ 1024

pub few_rule : (model : Model) (pred number : ℕ) (rule : Rule) → IsLawful model → HasRule model pred number rule → IsFew model pred rule
few_rule model pred number rule lawful has =
    let pred_lawful = lawful.preds pred has.predicate has.is_predicate in
    let listed = rule_listed model has.predicate.rules pred_lawful.rules number has.place rule pred_lawful.are_rules has.listed has.is_rule in
    record {
      lawful = item_all (IsLawfulRule model pred) pred_lawful.rules number rule pred_lawful.lawful listed;
      slots = omega (arith, in_sum (λ (r : Rule). length r.slots) pred_lawful.rules number rule listed, pred_lawful.few.slots);
      locals = omega (arith, in_sum (λ (r : Rule). length r.locals) pred_lawful.rules number rule listed, pred_lawful.few.locals);
      items = omega (arith, in_sum (λ (r : Rule). item_count r.top) pred_lawful.rules number rule listed, pred_lawful.few.items);
    }

-- as many entries stand in the block as there are
pub as_many : (entries : List Entry) → length (standing entries) ≡ length entries
as_many [] = refl
as_many (entries.Slot slot ∷ more) = omega (arith, as_many more)
as_many (entries.Local local ∷ more) = omega (arith, as_many more)
as_many (entries.Item item ∷ more) = omega (arith, as_many more)
as_many (entries.Branch guard then otherwise ∷ more) = omega (arith, as_many more)

small_slots : (stand : List Direct) → ((place slot : ℕ) → slice_get stand place ≡ Some (OfSlot slot) → slot < 65536) → All (λ slot. slot < 65536) (slots_in stand)
small_slots [] small = All-nil (λ slot. slot < 65536)
small_slots (OfSlot slot ∷ more) small = All-cons (λ n. n < 65536) slot (slots_in more) (small 0 slot refl) (small_slots more (λ place n at. small (suc place) n at))
small_slots (OfLocal local ∷ more) small = small_slots more (λ place n at. small (suc place) n at)
small_slots (OfItem item ∷ more) small = small_slots more (λ place n at. small (suc place) n at)
small_slots (OfBranch guard then otherwise ∷ more) small = small_slots more (λ place n at. small (suc place) n at)

small_locals : (stand : List Direct) → ((place local : ℕ) → slice_get stand place ≡ Some (OfLocal local) → local < 65536) → All (λ local. local < 65536) (locals_in stand)
small_locals [] small = All-nil (λ local. local < 65536)
small_locals (OfSlot slot ∷ more) small = small_locals more (λ place n at. small (suc place) n at)
small_locals (OfLocal local ∷ more) small = All-cons (λ n. n < 65536) local (locals_in more) (small 0 local refl) (small_locals more (λ place n at. small (suc place) n at))
small_locals (OfItem item ∷ more) small = small_locals more (λ place n at. small (suc place) n at)
small_locals (OfBranch guard then otherwise ∷ more) small = small_locals more (λ place n at. small (suc place) n at)

module _ (model : Model) (pred : ℕ) (rule : Rule) (few : IsFew model pred rule) (path : List Turn) (block : Entries) (way : LeadsToBlock rule.top path block) where
  no_more : 65536 < length (direct block) → ⊥
  no_more long =
      let at = slice_get-get_or (direct block) 65536 (OfSlot 0) long in
      let entry = few.lawful.entries path 65536 (get_or (direct block) 65536 (OfSlot 0)) (record { block = block; way = way; stands = at }) in
      omega (arith, entry.0)

  pub block_short : length (direct block) ≤ 65536
  block_short = elim (cases_lt 65536 (length (direct block))) [ inl long ↦ absurd (no_more long) | inr short ↦ short ]

  pub block_slots : All (λ slot. slot < 65536) (slots_in (direct block))
  block_slots = small_slots (direct block) (λ place slot at.
      let entry = few.lawful.entries path place (OfSlot slot) (record { block = block; way = way; stands = at }) in
      omega (arith, slice_get_within rule.slots slot entry.1.0 entry.1.1, few.slots))

  pub block_locals : All (λ local. local < 65536) (locals_in (direct block))
  block_locals = small_locals (direct block) (λ place local at.
      let entry = few.lawful.entries path place (OfLocal local) (record { block = block; way = way; stands = at }) in
      omega (arith, slice_get_within rule.locals local entry.1.0 entry.1.1, few.locals))
