use Rattle.std.proofs.Common.{◌≡◌, ℕ, ◌+◌, ◌-ℤ◌, ◌<ℤ◌, w64, to_z, of_z, MatchBool, List, [], ◌∷◌, ◌++◌, length, length-append, set, drop, refl, sym, ap, ◌∙◌, subst, arith}
use Rattle.std.specs.Prelude.{⊤}
use Rattle.std.proofs.lemmas.Int.{ints}
use Rattle.std.proofs.lemmas.List.{length-set}
use Rattle.temporal_core.specs.Satisfied.{value_at, value_sum, RaisesFrom, IsStopped, Raises, Exceeds}
use Rattle.temporal_core.proofs.Values.{top, value_sum-le-top, less_left}
use Rattle.temporal_core.proofs.Raising.{IsRaising, IsRaising-start, IsRaising-stopped, IsRaising-next, IsRaising-end}
use Rattle.temporal_core.proofs.satisfied.raise.Goals as goal

-- a list that is what is left of it without its first item has none
empty : (xs : List ℕ) → xs ≡ drop 1 xs → xs ≡ []
empty [] same = refl
empty (x ∷ xs) same = absurd (let shorter = ap length same in omega arith)

pub loop-point-init : goal.loop-point-init
loop-point-init c =
    let value : to_z w64 (of_z w64 c.args.value) ≡ c.args.value = omega (arith, ints) in
    let more = subst (λ v. value_at c.args.values.now c.args.start <ℤ v) (sym value) c.requires.more in
    let queue : c.push_back.new.self.items ≡ c.args.start ∷ [] = c.in_ok-push_back.ensures.items ∙ ap (λ q. q ++ c.args.start ∷ []) c.new-queue.ensures.items in
    subst (IsRaising c.args.graph.now.edges.items c.args.start (to_z w64 (of_z w64 c.args.value)) c.args.fixed c.args.values.now (set c.args.values.now c.args.start (to_z w64 (of_z w64 c.args.value)))) (sym queue)
    (IsRaising-start c.args.graph.now.edges.items c.args.start (to_z w64 (of_z w64 c.args.value)) c.args.fixed c.args.values.now c.requires.start c.requires.others more c.requires.keeps)

pub raise_from-requires-clause-modest : goal.raise_from-requires-clause-modest
raise_from-requires-clause-modest c = λ point.
    let value : to_z w64 (of_z w64 c.args.value) ≡ c.args.value = omega (arith, ints) in
    let rose = c.loop-point.invariant.low point in
    let most = c.loop-point.invariant.high point in
    let low = c.requires.low point in
    let high = c.requires.high point in
    let first = c.requires.low c.args.start in
    (omega (arith, ints), omega (arith, ints))

pub returns-then-not-branch : goal.returns-then-not-branch
returns-then-not-branch c =
    let edges = c.args.graph.now.edges.items in
    let old = c.args.values.now in
    let cur = c.loop-point.values in
    let point = c.in-Some.point in
    let value : to_z w64 (of_z w64 c.args.value) ≡ c.args.value = omega (arith, ints) in
    let more = subst (λ v. value_at old c.args.start <ℤ v) (sym value) c.requires.more in
    let raising = subst (IsRaising edges c.args.start (to_z w64 (of_z w64 c.args.value)) c.args.fixed old cur) c.in-Some.ensures.items c.loop-point.invariant in
    let stopped = subst (λ done. MatchBool done (RaisesFrom edges (λ place. ⊤) point c.args.fixed cur c.pop_front.new.self.items c.raise_from.new.values c.raise_from.new.queue.items) (IsStopped edges point c.args.fixed cur)) c.if-not-branch.true c.in_ok-raise_from.ensures in
    subst (λ v. Exceeds edges c.args.start v c.args.fixed old) value
    (IsRaising-stopped edges c.args.start (to_z w64 (of_z w64 c.args.value)) c.args.fixed old c.requires.start c.requires.others more c.requires.keeps cur point c.pop_front.new.self.items raising stopped)

pub loop-point-smaller : goal.loop-point-smaller
loop-point-smaller c =
    let edges = c.args.graph.now.edges.items in
    let old = c.args.values.now in
    let cur = c.loop-point.values in
    let point = c.in-Some.point in
    let value : to_z w64 (of_z w64 c.args.value) ≡ c.args.value = omega (arith, ints) in
    let more = subst (λ v. value_at old c.args.start <ℤ v) (sym value) c.requires.more in
    let raising = subst (IsRaising edges c.args.start (to_z w64 (of_z w64 c.args.value)) c.args.fixed old cur) c.in-Some.ensures.items c.loop-point.invariant in
    let same_count : length cur ≡ length old = omega (arith, length-set old c.args.start (to_z w64 (of_z w64 c.args.value))) in
    let raised = subst (λ done. MatchBool done (RaisesFrom edges (λ place. ⊤) point c.args.fixed cur c.pop_front.new.self.items c.raise_from.new.values c.raise_from.new.queue.items) (IsStopped edges point c.args.fixed cur)) c.if-not-branch.false c.in_ok-raise_from.ensures in
    let next = IsRaising-next edges c.args.start (to_z w64 (of_z w64 c.args.value)) c.args.fixed old c.requires.start c.requires.others more c.requires.keeps cur point c.pop_front.new.self.items raising
    c.raise_from.new.values c.raise_from.new.queue.items raised same_count in
    let delta = to_z w64 (of_z w64 c.args.value) -ℤ value_at old c.args.start in
    let count : length c.raise_from.new.values ≡ length old = omega arith in
    let below = value_sum-le-top delta old c.raise_from.new.values count next.high in
    let less = less_left (top delta old) (value_sum cur) (value_sum c.raise_from.new.values) (length c.pop_front.new.self.items) (length raised.pushed) below raised.gain in
    let waiting : length c.raise_from.new.queue.items ≡ length c.pop_front.new.self.items + length raised.pushed = ap length raised.queued ∙ length-append c.pop_front.new.self.items raised.pushed in
    let before = ap length c.in-Some.ensures.items in
    omega (arith, less)

pub loop-point-preserved : goal.loop-point-preserved
loop-point-preserved c =
    let edges = c.args.graph.now.edges.items in
    let old = c.args.values.now in
    let cur = c.loop-point.values in
    let point = c.in-Some.point in
    let value : to_z w64 (of_z w64 c.args.value) ≡ c.args.value = omega (arith, ints) in
    let more = subst (λ v. value_at old c.args.start <ℤ v) (sym value) c.requires.more in
    let raising = subst (IsRaising edges c.args.start (to_z w64 (of_z w64 c.args.value)) c.args.fixed old cur) c.in-Some.ensures.items c.loop-point.invariant in
    let same_count : length cur ≡ length old = omega (arith, length-set old c.args.start (to_z w64 (of_z w64 c.args.value))) in
    let raised = subst (λ done. MatchBool done (RaisesFrom edges (λ place. ⊤) point c.args.fixed cur c.pop_front.new.self.items c.raise_from.new.values c.raise_from.new.queue.items) (IsStopped edges point c.args.fixed cur)) c.if-not-branch.false c.in_ok-raise_from.ensures in
    IsRaising-next edges c.args.start (to_z w64 (of_z w64 c.args.value)) c.args.fixed old c.requires.start c.requires.others more c.requires.keeps cur point c.pop_front.new.self.items raising
    c.raise_from.new.values c.raise_from.new.queue.items raised same_count

pub returns : goal.returns
returns c =
    let edges = c.args.graph.now.edges.items in
    let old = c.args.values.now in
    let value : to_z w64 (of_z w64 c.args.value) ≡ c.args.value = omega (arith, ints) in
    let more = subst (λ v. value_at old c.args.start <ℤ v) (sym value) c.requires.more in
    let queue = c.loop-point.queue.items in
    let none : queue ≡ [] = empty queue (c.in_default.ensures.items ∙ c.in_default.ensures.rest) in
    subst (λ v. Raises edges c.args.start v c.args.fixed old c.loop-point.values) value
    (IsRaising-end edges c.args.start (to_z w64 (of_z w64 c.args.value)) c.args.fixed old c.requires.start c.requires.others more c.requires.keeps c.loop-point.values
    (subst (IsRaising edges c.args.start (to_z w64 (of_z w64 c.args.value)) c.args.fixed old c.loop-point.values) none c.loop-point.invariant))
