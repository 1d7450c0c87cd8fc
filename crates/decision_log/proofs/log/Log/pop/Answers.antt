use Rattle.std.proofs.Common.{◌≡◌, ◌+◌, ◌++◌, ◌∷◌, [], None, length, sym, ap, ◌∙◌, reverse, arith}
use Rattle.decision_log.specs.declared.steps.Step.TheVariants.{Push, Take}
use Rattle.decision_log.specs.Kept.{list_before, lists_of, put_back}
use Rattle.decision_log.proofs.Lists.{led_by, pops_to, popped, not_pushed, lists_on}
use Rattle.decision_log.proofs.Places.{length-put_back}
use Rattle.decision_log.proofs.log.Log.pop.Goals as goal

pub returns-in-Some-Push : goal.returns-in-Some-Push
returns-in-Some-Push c =
    let decisions = c.self.inside.decisions.items in
    let new = c.pop-in-Some-Push.new.self.items in
    let left = c.pop.new.self.items in
    let split : c.self.inside.steps.items ≡ left ++ Push ∷ [] =
    c.in-Some-Push.ensures.items ∙ ap (λ step. left ++ step ∷ []) c.in-Some-Push.field-0-is in
    let led = led_by _ decisions c.self.inside.steps.items left Push split c.self.invariant in
    let none : c.pop-in-Some-Push.result ≡ None → length decisions ≡ 0 = λ none.
    let both = rw none at c.pop-in-Some-Push.ensures.cases in
    omega (arith, both.0, c.self.inside.decisions.ok.0) in
    let is : new ≡ list_before Push decisions = popped decisions new c.pop-in-Some-Push.result c.pop-in-Some-Push.ensures.items none led.can in
    rw (← c.self.view_is)
    (pops_to decisions new c.self.inside.steps.items left c.pop-in-Some-Push.result c.pop-in-Some-Push.ensures.items none led.can
    (led.lists ∙ ap (λ list. decisions ∷ lists_of list (reverse left)) (sym is)))

pub returns-in-Some-Take : goal.returns-in-Some-Take
returns-in-Some-Take c =
    let decisions = c.self.inside.decisions.items in
    let left = c.pop.new.self.items in
    let split : c.self.inside.steps.items ≡ left ++ Take c.in-Some-Take.taken ∷ [] =
    c.in-Some-Take.ensures.items ∙ ap (λ step. left ++ step ∷ []) c.in-Some-Take.field-0-is in
    let led = led_by _ decisions c.self.inside.steps.items left (Take c.in-Some-Take.taken) split c.self.invariant in
    let taken = c.in-Some-Take.taken in
    let again : c.push_reserved.new.self.items ≡ c.self.inside.steps.items = c.push_reserved.ensures.items ∙ sym split in
    let longer : length (put_back taken.items decisions) ≡ length decisions + length taken.items = length-put_back taken.items decisions led.can.1 in
    let on = lists_on (put_back taken.items decisions) (reverse left) in
    let two : lists_of decisions (reverse c.self.inside.steps.items) ≡ decisions ∷ put_back taken.items decisions ∷ on.0 =
    led.lists ∙ ap (λ lists. decisions ∷ lists) on.1 in
    rw (← c.self.view_is) (
      ap (λ steps. lists_of decisions (reverse steps)) again,
      not_pushed decisions (put_back taken.items decisions) _ on.0 two (omega (arith, longer, led.can.0)),
    )
