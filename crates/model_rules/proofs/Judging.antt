-- That a rule is lawful if what is told of it is so, and only then.
use Rattle.std.proofs.Common.{ℕ, length}
use Rattle.eu_name.proofs.Members.{get_below}
use Rattle.model_core.specs.declared.model.Model.{Model}
use Rattle.model_core.specs.declared.rule.Rule.{Rule}
use Rattle.model_core.specs.Blocks.{OfSlot, OfLocal}
use Rattle.model_core.specs.Lawful.{IsLawfulRule}
use Rattle.model_rules.specs.declared.numbers.Sort.TheVariants.{Slots, Locals}
use Rattle.model_rules.specs.Rules.{HasLawfulParts, StandsNested}
use Rattle.model_rules.proofs.Listing.{once_stands, stands_once}
use Rattle.model_rules.proofs.Nesting.{block_fine, fine_block}

module _ (model : Model) (pred : ℕ) (rule : Rule) where
  pub rule_lawful : HasLawfulParts model rule → StandsNested model pred rule → IsLawfulRule model pred rule
  rule_lawful parts nested =
      let fine = block_fine model pred rule nested.blocks in
      record {
        entries = λ path place what at. (fine path at.block at.way).entries place what at.stands;
        nested = λ path block way. (fine path block way).deep;
        slots = parts.slots;
        slots_stand = once_stands Slots rule.top (length rule.slots) nested.slots;
        locals = parts.locals;
        unnamed = parts.unnamed;
        locals_stand = once_stands Locals rule.top (length rule.locals) nested.locals;
      }

  pub lawful_parts : IsLawfulRule model pred rule → HasLawfulParts model rule
  lawful_parts lawful = record { slots = lawful.slots; locals = lawful.locals; unnamed = lawful.unnamed }

  pub lawful_nested : IsLawfulRule model pred rule → StandsNested model pred rule
  lawful_nested lawful = record {
    slots = stands_once Slots rule.top (length rule.slots) lawful.slots_stand
        (λ number spot at. let there = (lawful.entries spot.path spot.place (OfSlot number) at).1 in get_below rule.slots number there.0 there.1);
    locals = stands_once Locals rule.top (length rule.locals) lawful.locals_stand
        (λ number spot at. let there = (lawful.entries spot.path spot.place (OfLocal number) at).1 in get_below rule.locals number there.0 there.1);
    blocks = fine_block model pred rule (λ path block way. record {
      deep = lawful.nested path block way;
      entries = λ place what at. lawful.entries path place what (record { block = block; way = way; stands = at });
    });
  }
