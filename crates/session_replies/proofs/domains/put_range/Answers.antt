use Rattle.std.proofs.Common.{w32, to_z, of_z, arith}
use Rattle.std.proofs.lemmas.Int.{ints}
use Rattle.domain_core.proofs.Words.{least_is_value, greatest_is_value}
use Rattle.session_replies.proofs.Spacing.{range_put}
use Rattle.session_replies.proofs.domains.put_range.Goals as goal

pub returns : goal.returns
returns c =
    let low = least_is_value c.args.domain.now c.lo.ensures.domain in
    let high = greatest_is_value c.args.domain.now c.hi.ensures.domain in
    range_put c.args.kind c.args.domain.now (to_z w32 (of_z w32 c.lo.result)) (to_z w32 (of_z w32 c.hi.result)) c.args.out.now.items c.put_printed_number.new.out.items c.put_printed_number-2.new.out.items c.put_text.new.out.items c.put_text.result
    (omega (arith, ints, c.lo.ensures.least, low.0, low.1)) (omega (arith, ints, c.hi.ensures.greatest, high.0, high.1)) c.in_ok-put_printed_number.ensures c.in_ok-put_printed_number-2.ensures c.put_text.ensures
