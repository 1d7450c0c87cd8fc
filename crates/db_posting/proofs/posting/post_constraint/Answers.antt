use Rattle.std.proofs.Common.{sym, subst}
use Rattle.std.specs.List.{AllZip}
use Rattle.db_posting.specs.Origins.{content_now, origin_context}
use Rattle.db_posting.specs.Terms.{IsTermArgument}
use Rattle.db_posting.proofs.Meaning.{can_post}
use Rattle.db_posting.proofs.Naming.{names_long}
use Rattle.db_posting.proofs.Said.{posts_terms}
use Rattle.db_posting.proofs.posting.post_constraint.Goals as goal

pub post-requires : goal.post-requires
post-requires c =
    let store = c.args.store.now in
    let content = content_now store in
    let context = origin_context content.tokens c.args.origin in
    let zip = subst (AllZip (IsTermArgument content context) c.args.terms.now) (sym c.as_slice.ensures.value) c.in_ok-args.ensures in
    can_post content context store.net.tables _ (names_long store c.is_sound.ensures) c.args.kind c.args.terms.now c.as_slice.result.now zip c.requires.postable

pub returns-clause-posted : goal.returns-clause-posted
returns-clause-posted c =
    let store = c.args.store.now in
    let content = content_now store in
    let context = origin_context content.tokens c.args.origin in
    let zip = subst (AllZip (IsTermArgument content context) c.args.terms.now) (sym c.as_slice.ensures.value) c.in_ok-args.ensures in
    posts_terms content context store.net c.post.new.self.net c.post.result c.args.kind c.args.terms.now c.as_slice.result.now c.post.ensures.posted c.requires.postable.stand zip
