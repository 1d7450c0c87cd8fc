use Rattle.std.proofs.Common.{◌≡◌, ◌-◌, Some, slice_get, length, take, sym, ap, ◌∙◌}
use Rattle.decision_log.specs.declared.steps.Step.TheVariants.{Push, Take}
use Rattle.decision_log.specs.Kept.{put_back}
use Rattle.decision_log.proofs.Lists.{ends_with, led_by, former_by, copies_former, ok_along}
use Rattle.decision_log.proofs.log.Log.former.Goals as goal

pub returns-in-Some-Push : goal.returns-in-Some-Push
returns-in-Some-Push c =
    let decisions = c.self.inside.decisions.items in
    let steps = c.self.inside.steps.items in
    let front = ends_with steps Push
    (ap (λ xs. slice_get xs (length xs - 1)) (sym c.deref.ensures.value) ∙ sym c.in-Some-Push.ensures.value ∙ ap Some c.in-Some-Push.field-0-is) in
    let led = led_by _ decisions steps front.0 Push front.1 c.self.invariant in
    let count : c.len.result ≡ length decisions = c.len.ensures ∙ c.self.inside.decisions.ok.0 in
    let same : take (c.len.result - 1) c.deref-in-Some-Push.result.now ≡ take (length decisions - 1) decisions =
    λ i. take (count i - 1) (c.deref-in-Some-Push.ensures.value i) in
    rw (← c.self.view_is) (copies_former _ _ c.copies.result c.sequence_of.result (former_by _ decisions steps front.0 Push led)
    (ok_along c.copies.result _ _ same c.copies.ensures) c.sequence_of.ensures)

pub returns-in-Some-Take : goal.returns-in-Some-Take
returns-in-Some-Take c =
    let decisions = c.self.inside.decisions.items in
    let steps = c.self.inside.steps.items in
    let taken = c.in-Some-Take.taken in
    let front = ends_with steps (Take taken)
    (ap (λ xs. slice_get xs (length xs - 1)) (sym c.deref.ensures.value) ∙ sym c.in-Some-Take.ensures.value ∙ ap Some c.in-Some-Take.field-0-is) in
    let led = led_by _ decisions steps front.0 (Take taken) front.1 c.self.invariant in
    rw (← c.self.view_is) (copies_former _ _ c.copies_before.result c.sequence_of-in-Some-Take.result (former_by _ decisions steps front.0 (Take taken) led)
    (ok_along c.copies_before.result _ _ (ap (λ list. put_back list decisions) c.deref-in-Some-Take.ensures.value) c.copies_before.ensures) c.sequence_of-in-Some-Take.ensures)
