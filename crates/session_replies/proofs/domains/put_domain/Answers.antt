use Rattle.std.proofs.Common.{◌≡◌, true, false, refl}
use Rattle.session_replies.proofs.Spacing.{range_is}
use Rattle.session_replies.proofs.domains.put_domain.Goals as goal

pub put_set-requires-clause-set : goal.put_set-requires-clause-set
put_set-requires-clause-set c = λ range. let told : false ≡ true = c.if-is_range.ensures.1 range in cc

pub returns-then-is_range : goal.returns-then-is_range
returns-then-is_range c =
    range_is c.args.model.now c.args.kind c.args.domain.now c.args.out.now.items c.put_range.new.out.items c.put_range.result (c.if-is_range.ensures.0 refl) c.put_range.ensures
