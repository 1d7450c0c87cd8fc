use Rattle.std.proofs.Common.{w32, to_z, of_z, arith}
use Rattle.domain_core.proofs.Words.{at_place}
use Rattle.plan_text.proofs.Stepping.{kept_value, kept_is}
use Rattle.session_replies.proofs.Spacing.{no_member, member_more, all_members}
use Rattle.session_replies.proofs.domains.put_members.Goals as goal

pub loop-place-init : goal.loop-place-init
loop-place-init c = no_member c.args.model.now c.args.kind c.args.domain.now c.args.out.now.items

pub put_shown-requires-clause-value : goal.put_shown-requires-clause-value
put_shown-requires-clause-value c =
    kept_is c.args.model.now c.args.kind c.value_at.result c.requires.lawful (c.requires.values c.value_at.result (at_place c.args.domain.now c.loop-place.place c.value_at.result c.count-place-end.ensures.domain c.value_at.ensures).0)

pub loop-place-preserved : goal.loop-place-preserved
loop-place-preserved c =
    member_more c.args.model.now c.args.kind c.args.domain.now c.loop-place.place c.value_at.result (to_z w32 (of_z w32 c.value_at.result)) c.gap_before.result.now c.args.out.now.items c.loop-place.out.items c.put_shown.new.out.items
    (kept_value c.args.model.now c.args.kind c.value_at.result c.requires.lawful (c.requires.values c.value_at.result (at_place c.args.domain.now c.loop-place.place c.value_at.result c.count-place-end.ensures.domain c.value_at.ensures).0)) c.value_at.ensures c.gap_before.ensures.first c.gap_before.ensures.later c.in_ok-put_shown.ensures c.loop-place.invariant

pub returns : goal.returns
returns c =
    all_members c.args.model.now c.args.kind c.args.domain.now c.loop-place.place c.args.out.now.items c.loop-place.out.items c.count-place-end.ensures.domain
    (omega (arith, c.loop-place.auto.place-end, c.count-place-end.ensures.count)) c.loop-place.invariant
