-- One more name, or none.
use Rattle.std.proofs.Common.{◌+◌, [], ◌∷◌, ◌++◌, drop, ap, ◌∙◌, arith}
use Rattle.eu_name.specs.declared.name.VarName.TheVariants.{Local}
use Rattle.rule_engine.specs.Lists.{locals_in}
use Rattle.rule_engine.proofs.Listing.{standing, named, passed, small_rest, small_same, local_first, local_none}
use Rattle.rule_engine.proofs.names.local_names.Goals as goal
use Rattle.rule_engine.proofs.names.local_names.Goals.{in-Local+in_ok-local_name+in_ok-push, in_default}

pub loop-entry-preserved : goal.loop-entry-preserved
loop-entry-preserved c =
    let entries = c.args.entries.now in
    let i = c.loop-entry.entry-index in
    elim c.match-entry.branch [
      | in-Local+in_ok-local_name+in_ok-push w ↦
          let number = w.in-Local.number in
          let first = local_first entries i c.entry-item.result (omega arith) c.entry-item.is number w.in-Local.is in (
            named (Local c.args.token.now c.args.rule) c.loop-entry.names.items c.match-entry.names.items _ number (locals_in (standing (drop i entries)))
                (locals_in (standing (drop (i + 1) entries))) first
                (ap (λ v. v.items) w.names-is ∙ (w.in_ok-push.ensures.items ∙ ap (λ x. c.loop-entry.names.items ++ x ∷ []) w.in_ok-local_name.ensures)) c.loop-entry.invariant.0,
            small_rest number (locals_in (standing (drop i entries))) (locals_in (standing (drop (i + 1) entries))) first c.loop-entry.invariant.1,
          )
      | in_default w ↦
          let none = local_none entries i c.entry-item.result (omega arith) c.entry-item.is w.in_default.not-Local in (
            passed (Local c.args.token.now c.args.rule) c.loop-entry.names.items c.match-entry.names.items _ (locals_in (standing (drop i entries)))
                (locals_in (standing (drop (i + 1) entries))) none (ap (λ v. v.items) w.names-is) c.loop-entry.invariant.0,
            small_same (locals_in (standing (drop i entries))) (locals_in (standing (drop (i + 1) entries))) none c.loop-entry.invariant.1,
          )
    ]
