use Rattle.std.proofs.Common.{[], ◌∷◌, refl}
use Rattle.domain_core.specs.declared.kind.Kind.TheVariants.{AddEq}
use Rattle.token_store.specs.Orders.{name_at}
use Rattle.plan_defs.specs.Claims.{lasts}
use Rattle.db_posting.specs.Origins.{content_now}
use Rattle.db_posting.proofs.Said.{posts_claim}
use Rattle.db_posting.proofs.Naming.{three_are}
use Rattle.db_posting.proofs.posting.post_lasts.Goals as goal

pub post-requires : goal.post-requires
post-requires c =
    record {
      arguments = three_are c.args.store.now c.is_sound.ensures _ _ _ c.part_argument.result c.part_argument-2.result c.part_argument-3.result
          c.part_argument.ensures c.part_argument-2.ensures c.part_argument-3.ensures;
      count = refl;
      allowed = tt;
    }

pub returns-clause-posted : goal.returns-clause-posted
returns-clause-posted c =
    let content = content_now c.args.store.now in
    posts_claim content.names c.args.store.now.net c.post.new.self.net c.post.result AddEq (c.part_argument.result ∷ c.part_argument-2.result ∷ c.part_argument-3.result ∷ [])
    (lasts (name_at content.tokens c.args.token)) c.post.ensures.posted refl (c.part_argument.ensures, (c.part_argument-2.ensures, (c.part_argument-3.ensures, tt)))
