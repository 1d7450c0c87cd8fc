use Rattle.std.proofs.Common.{◌≡◌, get_or, refl, subst}
use Rattle.eu_name.specs.declared.name.Part.{Part}
use Rattle.eu_name.specs.declared.name.Part.TheVariants.{Start}
use Rattle.plan_defs.specs.Claims.{equal}
use Rattle.db_store.specs.Stores.{Stored}
use Rattle.db_posting.specs.Origins.{content_now, argument_named}
use Rattle.db_posting.specs.Posted.{PostsClaims}
use Rattle.db_posting.proofs.Storing.{only_both, marks_both, marks_same}
use Rattle.db_decide.proofs.Sharing.{part_kept, no_part, part_more}
use Rattle.db_decide.proofs.merge.post_same_parts.Goals as goal

pub loop-part-init : goal.loop-part-init
loop-part-init c = record {
  posted = (let content = content_now c.args.store.now in no_part content.names content.tokens c.args.one c.args.other c.args.store.now.net.constraints);
  only = refl;
  marks = marks_same _;
}

pub post_equal-requires-clause-one : goal.post_equal-requires-clause-one
post_equal-requires-clause-one c = part_kept c.args.store.now c.loop-part.store c.loop-part.invariant.only c.args.one c.args.parts.now c.loop-part.part-index Start c.loop-part-test.true c.requires.one

pub post_equal-requires-clause-other : goal.post_equal-requires-clause-other
post_equal-requires-clause-other c = part_kept c.args.store.now c.loop-part.store c.loop-part.invariant.only c.args.other c.args.parts.now c.loop-part.part-index Start c.loop-part-test.true c.requires.other

pub loop-part-preserved : goal.loop-part-preserved
loop-part-preserved c =
    let old = c.args.store.now in
    let loop = c.loop-part in
    let content = content_now old in
    let new = c.post_equal.new.store in
    let step = c.in_ok-post_equal.ensures in
    let part : Part = get_or c.args.parts.now loop.part-index Start in
    let claims = subst (λ (stored : Stored). PostsClaims (content_now stored).names
    (λ claim. claim ≡ equal (argument_named (content_now stored).tokens (record { token = c.args.one; part = part })) (argument_named (content_now stored).tokens (record { token = c.args.other; part = part })))
    loop.store.net.constraints new.net.constraints) loop.invariant.only step.posted in
    record {
      posted = part_more content.names content.tokens c.args.one c.args.other c.args.parts.now loop.part-index Start c.loop-part-test.true
          old.net.constraints loop.store.net.constraints new.net.constraints loop.invariant.posted claims;
      only = only_both old loop.store new loop.invariant.only step.only;
      marks = marks_both old loop.store new loop.invariant.marks step.marks;
    }
