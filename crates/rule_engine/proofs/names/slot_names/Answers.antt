-- One more name, or none.
use Rattle.std.proofs.Common.{◌+◌, [], ◌∷◌, ◌++◌, drop, ap, ◌∙◌, arith}
use Rattle.model_core.specs.Tokens.{slot_token}
use Rattle.rule_engine.specs.Lists.{slots_in}
use Rattle.rule_engine.proofs.Listing.{standing, named, passed, small_rest, small_same, slot_first, slot_none}
use Rattle.rule_engine.proofs.names.slot_names.Goals as goal
use Rattle.rule_engine.proofs.names.slot_names.Goals.{in-Slot+in_ok-slot_name+in_ok-push, in_default}

pub loop-entry-preserved : goal.loop-entry-preserved
loop-entry-preserved c =
    let entries = c.args.entries.now in
    let i = c.loop-entry.entry-index in
    elim c.match-entry.branch [
      | in-Slot+in_ok-slot_name+in_ok-push w ↦
          let slot = w.in-Slot.slot in
          let first = slot_first entries i c.entry-item.result (omega arith) c.entry-item.is slot w.in-Slot.is in (
            named (slot_token c.args.token.now c.args.rule) c.loop-entry.names.items c.match-entry.names.items _ slot (slots_in (standing (drop i entries)))
                (slots_in (standing (drop (i + 1) entries))) first
                (ap (λ v. v.items) w.names-is ∙ (w.in_ok-push.ensures.items ∙ ap (λ x. c.loop-entry.names.items ++ x ∷ []) w.in_ok-slot_name.ensures)) c.loop-entry.invariant.0,
            small_rest slot (slots_in (standing (drop i entries))) (slots_in (standing (drop (i + 1) entries))) first c.loop-entry.invariant.1,
          )
      | in_default w ↦
          let none = slot_none entries i c.entry-item.result (omega arith) c.entry-item.is w.in_default.not-Slot in (
            passed (slot_token c.args.token.now c.args.rule) c.loop-entry.names.items c.match-entry.names.items _ (slots_in (standing (drop i entries)))
                (slots_in (standing (drop (i + 1) entries))) none (ap (λ v. v.items) w.names-is) c.loop-entry.invariant.0,
            small_same (slots_in (standing (drop i entries))) (slots_in (standing (drop (i + 1) entries))) none c.loop-entry.invariant.1,
          )
    ]
