use Rattle.std.proofs.Common.{inl, inr, refl}
use Rattle.law_examples.proofs.Below.{slot_under, local_named, not_itself, not_elsewhere, part_not_named, not_related}
use Rattle.law_examples.proofs.exchange.locals_and_slots_stand_under_a_token.Goals as goal

pub returns : goal.returns
returns c = record {
  local = inl refl;
  slot_part = slot_under;
  slot = inl slot_under;
  target = inr slot_under;
  argument = local_named;
  related_slot = inr slot_under;
  itself = not_itself;
  part = not_itself;
  other_slot = λ under. not_elsewhere _ refl under;
  part_as_argument = part_not_named;
  related = not_related;
  local_line = inl refl;
  slot_line = slot_under;
  own_line = not_itself;
  target_line = λ under. not_elsewhere _ refl under;
}
