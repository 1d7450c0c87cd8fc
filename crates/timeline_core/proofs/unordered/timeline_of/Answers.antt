-- The one object that the token can be on is a timeline, or the token is on none.
use Rattle.std.proofs.Common.{◌≡◌, true, subst, to_z, of_z, w32, arith}
use Rattle.std.proofs.lemmas.Int.{ints}
use Rattle.plan_defs.specs.Timelines.{IsTimeline}
use Rattle.timeline_core.proofs.Telling.{one_object}
use Rattle.timeline_core.proofs.unordered.timeline_of.Goals as goal

pub returns-in_default : goal.returns-in_default
returns-in_default g c = λ token timeline at on. c.in_default.ensures token timeline at on.on

pub returns-else-is_timeline : goal.returns-else-is_timeline
returns-else-is_timeline g c = λ token timeline at on.
    let there = c.in-Some.ensures in
    let same : timeline ≡ c.in-Some.object = one_object (g.V.View.state c.args.view.now) c.requires.order c.args.place there.0 token c.in-Some.object timeline there.1 at there.2 on.on in
    let cast : timeline ≡ to_z w32 (of_z w32 c.in-Some.object) = omega (arith, ints, same) in
    let p : c.is_timeline.result ≡ true = c.is_timeline.ensures.1 (subst (λ v. IsTimeline c.args.model.now v) cast on.is_timeline) in
    let q = c.if-is_timeline.false in
    cc
