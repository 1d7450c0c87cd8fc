use Rattle.std.proofs.Common.{◌≡◌, ◌-◌, ◌<◌, length, reverse, sym, ap, ◌∙◌, subst, arith, slice_index_or}
use Rattle.std.proofs.lemmas.List.{length-reverse}
use Rattle.decision_log.specs.Kept.{lists_of}
use Rattle.decision_log.proofs.Places.{cut_at}
use Rattle.decision_log.proofs.Lists.{length-lists_of}
use Rattle.decision_log.proofs.Telling.{IsStepBetween, step_between, tells_push, tells_take}
use Rattle.decision_log.proofs.log.Log.step_at.Goals as goal

pub returns-then-number-len : goal.returns-then-number-len
returns-then-number-len c =
    let steps = c.self.inside.steps.items in
    rw (← c.self.view_is) (omega (arith, length-lists_of c.self.inside.decisions.items (reverse steps), length-reverse steps, c.len.ensures, c.self.inside.steps.ok.0))

pub returns-in-Push : goal.returns-in-Push
returns-in-Push c =
    let steps = c.self.inside.steps.items in
    let decisions = c.self.inside.decisions.items in
    let below : c.args.number < length steps = omega (arith, c.len.ensures, c.self.inside.steps.ok.0) in
    let cut = cut_at steps c.args.number below in
    let between = step_between _ decisions steps c.args.number cut below c.self.invariant in
    rw (← c.self.view_is) (tells_push _ c.args.number
    (subst (IsStepBetween (lists_of decisions (reverse steps)) c.args.number) (sym (cut.is c.index.result.now) ∙ sym c.index.ensures ∙ c.in-Push.is) between))

pub index-requires-in-Take : goal.index-requires-in-Take
index-requires-in-Take c =
    let steps = c.self.inside.steps.items in
    let decisions = c.self.inside.decisions.items in
    let below : c.args.number < length steps = omega (arith, c.len.ensures, c.self.inside.steps.ok.0) in
    let cut = cut_at steps c.args.number below in
    let between = step_between _ decisions steps c.args.number cut below c.self.invariant in
    let led = subst (IsStepBetween (lists_of decisions (reverse steps)) c.args.number) (sym (cut.is c.index.result.now) ∙ sym c.index.ensures ∙ c.in-Take.is) between in
    omega (arith, led.can.0, c.len-in-Take.ensures, c.in-Take.taken.ok.0)

pub overflow_sub-len : goal.overflow_sub-len
overflow_sub-len c =
    let steps = c.self.inside.steps.items in
    let decisions = c.self.inside.decisions.items in
    let below : c.args.number < length steps = omega (arith, c.len.ensures, c.self.inside.steps.ok.0) in
    let cut = cut_at steps c.args.number below in
    let between = step_between _ decisions steps c.args.number cut below c.self.invariant in
    let led = subst (IsStepBetween (lists_of decisions (reverse steps)) c.args.number) (sym (cut.is c.index.result.now) ∙ sym c.index.ensures ∙ c.in-Take.is) between in
    omega (arith, led.can.0, c.len-in-Take.ensures, c.in-Take.taken.ok.0)

pub returns-in-Take : goal.returns-in-Take
returns-in-Take c =
    let steps = c.self.inside.steps.items in
    let decisions = c.self.inside.decisions.items in
    let below : c.args.number < length steps = omega (arith, c.len.ensures, c.self.inside.steps.ok.0) in
    let cut = cut_at steps c.args.number below in
    let between = step_between _ decisions steps c.args.number cut below c.self.invariant in
    let led = subst (IsStepBetween (lists_of decisions (reverse steps)) c.args.number) (sym (cut.is c.index.result.now) ∙ sym c.index.ensures ∙ c.in-Take.is) between in
    let count : c.len-in-Take.result ≡ length c.in-Take.taken.items = c.len-in-Take.ensures ∙ c.in-Take.taken.ok.0 in
    let stood = c.index-in-Take.ensures ∙ ap (λ n. slice_index_or c.in-Take.taken.items (n - 1) c.index-in-Take.result.now) count in
    rw (← c.self.view_is) (tells_take _ c.args.number c.in-Take.taken c.index-in-Take.result.now led stood)
