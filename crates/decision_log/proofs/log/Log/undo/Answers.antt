use Rattle.std.proofs.Common.{◌≡◌, ◌++◌, ◌∷◌, [], None, length, ap, ◌∙◌, arith}
use Rattle.decision_log.specs.declared.steps.Step.TheVariants.{Push, Take}
use Rattle.decision_log.proofs.Lists.{led_by, undoes_to, popped}
use Rattle.decision_log.proofs.Places.{length-put_back}
use Rattle.decision_log.proofs.log.Log.undo.Goals as goal

pub returns-in-Some-Push : goal.returns-in-Some-Push
returns-in-Some-Push c =
    let decisions = c.self.inside.decisions.items in
    let left = c.pop.new.self.items in
    let split : c.self.inside.steps.items ≡ left ++ Push ∷ [] =
    c.in-Some-Push.ensures.items ∙ ap (λ step. left ++ step ∷ []) c.in-Some-Push.field-0-is in
    let led = led_by _ decisions c.self.inside.steps.items left Push split c.self.invariant in
    let none : c.pop-last.result ≡ None → length decisions ≡ 0 = λ none.
    let both = rw none at c.pop-last.ensures.cases in
    omega (arith, both.0, c.self.inside.decisions.ok.0) in
    rw (← c.self.view_is)
    (undoes_to _ decisions c.self.inside.steps.items left Push c.pop-last.new.self.items led
    (popped decisions _ c.pop-last.result c.pop-last.ensures.items none led.can))

pub put_all_back-requires-clause-room : goal.put_all_back-requires-clause-room
put_all_back-requires-clause-room c =
    let decisions = c.self.inside.decisions.items in
    let left = c.pop.new.self.items in
    let taken = c.in-Some-Take.taken in
    let split : c.self.inside.steps.items ≡ left ++ Take taken ∷ [] =
    c.in-Some-Take.ensures.items ∙ ap (λ step. left ++ step ∷ []) c.in-Some-Take.field-0-is in
    let led = led_by _ decisions c.self.inside.steps.items left (Take taken) split c.self.invariant in
    omega (arith, length-put_back taken.items decisions led.can.1, led.fits, c.self.inside.decisions.ok.0, taken.ok.0)

pub returns-in-Some-Take : goal.returns-in-Some-Take
returns-in-Some-Take c =
    let decisions = c.self.inside.decisions.items in
    let left = c.pop.new.self.items in
    let taken = c.in-Some-Take.taken in
    let split : c.self.inside.steps.items ≡ left ++ Take taken ∷ [] =
    c.in-Some-Take.ensures.items ∙ ap (λ step. left ++ step ∷ []) c.in-Some-Take.field-0-is in
    let led = led_by _ decisions c.self.inside.steps.items left (Take taken) split c.self.invariant in
    rw (← c.self.view_is)
    (undoes_to _ decisions c.self.inside.steps.items left (Take taken) c.put_all_back.new.decisions.items led c.put_all_back.ensures.back)
