use Rattle.std.proofs.Common.{map, refl, sym, subst}
use Rattle.std.specs.List.{AllZip}
use Rattle.plan_defs.specs.Claims.{argument_of, posted_claim}
use Rattle.db_refine.specs.Claims.{IsNamedArgument}
use Rattle.db_posting.specs.Origins.{content_now}
use Rattle.db_posting.proofs.Naming.{names_long}
use Rattle.db_posting.proofs.Offering.{can_post_named}
use Rattle.db_posting.proofs.Said.{posts_claim}
use Rattle.db_posting.proofs.posting.post_arguments.Goals as goal

pub post-requires : goal.post-requires
post-requires c =
    let store = c.args.store.now in
    let names = (content_now store).names in
    let zip = subst (AllZip (IsNamedArgument names) (map argument_of c.args.arguments.now)) (sym c.as_slice.ensures.value) c.in_ok-args.ensures in
    can_post_named names store.net.tables _ (names_long store c.is_sound.ensures) c.args.kind c.args.arguments.now c.as_slice.result.now zip c.requires.postable

pub returns-clause-posted : goal.returns-clause-posted
returns-clause-posted c =
    let store = c.args.store.now in
    let names = (content_now store).names in
    let zip = subst (AllZip (IsNamedArgument names) (map argument_of c.args.arguments.now)) (sym c.as_slice.ensures.value) c.in_ok-args.ensures in
    posts_claim names store.net c.post.new.self.net c.post.result c.args.kind c.as_slice.result.now (posted_claim c.args.kind c.args.arguments.now) c.post.ensures.posted refl zip
