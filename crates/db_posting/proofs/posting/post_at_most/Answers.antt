use Rattle.std.proofs.Common.{[], ◌∷◌, refl}
use Rattle.domain_core.specs.declared.kind.Kind.TheVariants.{Leq}
use Rattle.plan_defs.specs.Claims.{at_most}
use Rattle.db_posting.specs.Origins.{content_now, argument_named}
use Rattle.db_posting.proofs.Said.{posts_claim}
use Rattle.db_posting.proofs.Naming.{two_are}
use Rattle.db_posting.proofs.posting.post_at_most.Goals as goal

pub post-requires : goal.post-requires
post-requires c =
    record {
      arguments = two_are c.args.store.now c.is_sound.ensures _ _ c.part_argument.result c.part_argument-2.result c.part_argument.ensures c.part_argument-2.ensures;
      count = refl;
      allowed = tt;
    }

pub returns-clause-posted : goal.returns-clause-posted
returns-clause-posted c =
    let content = content_now c.args.store.now in
    posts_claim content.names c.args.store.now.net c.post.new.self.net c.post.result Leq (c.part_argument.result ∷ c.part_argument-2.result ∷ [])
    (at_most (argument_named content.tokens c.args.one) (argument_named content.tokens c.args.other)) c.post.ensures.posted refl (c.part_argument.ensures, (c.part_argument-2.ensures, tt))
