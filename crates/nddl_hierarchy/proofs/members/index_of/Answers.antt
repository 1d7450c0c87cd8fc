use Rattle.nddl_symbols.proofs.Firsts.{firsts_step, firsts_whole}
use Rattle.nddl_hierarchy.specs.Members.{is_field_named, is_predicate_named}
use Rattle.nddl_hierarchy.proofs.members.index_of.Goals as goal

pub loop-place-preserved : goal.loop-place-preserved
loop-place-preserved c =
    let some = c.args.members.now in
    let place = c.loop-place.place in
    let member = c.index-members-place.result in
    let old = c.loop-place.places in
    let new = c.note_member.new.places in (
      firsts_step is_field_named some place member old.fields new.fields c.loop-place-test.true c.index-members-place.is
          c.in_ok-note_member.ensures.0 c.loop-place.invariant.0,
      firsts_step is_predicate_named some place member old.predicates new.predicates c.loop-place-test.true c.index-members-place.is
          c.in_ok-note_member.ensures.1 c.loop-place.invariant.1,
    )

pub returns : goal.returns
returns c =
    let some = c.args.members.now in
    let place = c.loop-place.place in
    let places = c.loop-place.places in (
      firsts_whole is_field_named some place places.fields c.loop-place-test.false c.loop-place.invariant.0,
      firsts_whole is_predicate_named some place places.predicates c.loop-place-test.false c.loop-place.invariant.1,
    )
