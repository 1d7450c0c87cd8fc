use Rattle.std.proofs.Common.{◌≡◌, ◌-◌, ◌<◌, length, get_or, take, ap, ◌∙◌, arith}
use Rattle.std.proofs.lemmas.Int.{ints}
use Rattle.std.specs.List.{between}
use Rattle.std.proofs.lemmas.List.Edits.{length-between}
use Rattle.domain_core.proofs.Parts.{Bounds, bounded_part, moved_front, part_smaller}
use Rattle.domain_core.proofs.members.meet_range.Goals as goal
use Rattle.domain_core.proofs.members.meet_range.Goals.{else-from-eq0-via-then-from-eq0+else-end-len, else-from-eq0-via-else-from-eq0}

pub returns-clause-kept : goal.returns-clause-kept
returns-clause-kept c =
    let xs = c.args.members.now.items in
    let from = c.first_from-from.result in
    let end = c.first_above-end.result in
    let g = c.first_from-from.ensures in
    let h = c.first_above-end.ensures in
    let bounds : Bounds xs c.args.lo c.args.hi from end = record {
      bound = omega (arith, h.bound, c.as_slice-2.ensures.len);
      below = λ k d p q. let fact = g.below k d p q in let e = ap (λ l. get_or l k d) c.as_slice.ensures.value in omega (arith, ints, fact, e);
      above_lo = λ k d p q. let fact = g.from k d p (omega (arith, q, c.as_slice.ensures.len)) in let e = ap (λ l. get_or l k d) c.as_slice.ensures.value in omega (arith, ints, fact, e);
      upto = λ k d p q. let fact = h.upto k d p q in let e = ap (λ l. get_or l k d) c.as_slice-2.ensures.value in omega (arith, ints, fact, e);
      above = λ k d p q. let fact = h.above k d p (omega (arith, q, c.as_slice-2.ensures.len)) in let e = ap (λ l. get_or l k d) c.as_slice-2.ensures.value in omega (arith, ints, fact, e);
    } in
    let is : c.truncate.new.self.items ≡ between from end xs = c.truncate.ensures.items ∙ ap (take (end - from)) c.copy_within.ensures.items ∙ moved_front xs from end bounds.bound in
    let long = length-between xs from end bounds.bound in
    let less : end - from < length xs = elim c.else-from-eq0.branch [
      | else-from-eq0-via-then-from-eq0+else-end-len w ↦ omega (arith, bounds.bound, w.if-end-len.false, w.len.ensures)
      | else-from-eq0-via-else-from-eq0 w ↦ omega (arith, bounds.bound, w.if-from-eq0.false)
    ] in
    rw is (part_smaller _ xs (between from end xs) (bounded_part xs c.args.lo c.args.hi from end c.requires.ascending bounds) (omega (arith, long)) (omega (arith, long, less)))
