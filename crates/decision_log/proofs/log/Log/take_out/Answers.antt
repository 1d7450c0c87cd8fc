use Rattle.std.proofs.Common.{◌≡◌, ◌∷◌, length, ap, sym, ◌∙◌, reverse}
use Rattle.model_core.specs.History.{standing}
use Rattle.decision_log.specs.declared.steps.Step.TheVariants.{Take}
use Rattle.decision_log.specs.Kept.{lists_of}
use Rattle.decision_log.specs.Taking.{kept_of}
use Rattle.decision_log.proofs.Lists.{standing-lists_of, taken_lists}
use Rattle.decision_log.proofs.log.Log.take_out.Goals as goal

pub take_unflagged-taken-requires-clause-flags : goal.take_unflagged-taken-requires-clause-flags
take_unflagged-taken-requires-clause-flags c =
    c.requires.flags ∙ ap length (ap standing (sym c.self.view_is) ∙ standing-lists_of c.self.inside.decisions.items (reverse c.self.inside.steps.items))

pub returns-clause-ok : goal.returns-clause-ok
returns-clause-ok c =
    let decisions = c.self.inside.decisions.items in
    let steps = c.self.inside.steps.items in
    let stood : decisions ≡ standing c.args.self.now = sym (standing-lists_of decisions (reverse steps)) ∙ ap standing c.self.view_is in
    rw (c.push_reserved.ensures.items, c.in_ok-reserve.ensures.items)
    (taken_lists decisions c.take_unflagged-taken.new.decisions.items steps (Take c.take_unflagged-taken.result) c.take_unflagged-taken.ensures.back
    ∙ ap (λ list. list ∷ lists_of decisions (reverse steps)) (c.take_unflagged-taken.ensures.left ∙ ap (kept_of c.args.keep.now) stood)
    ∙ ap (λ lists. kept_of c.args.keep.now (standing c.args.self.now) ∷ lists) c.self.view_is)
