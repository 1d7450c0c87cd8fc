use Rattle.std.proofs.Common.{arith}
use Rattle.std.proofs.lemmas.Int.{ints}
use Rattle.narrow_core.specs.Sides.{IsPaired}
use Rattle.narrow_core.proofs.Bounds.{keeps_around}
use Rattle.narrow_core.proofs.field.Field.cut_to_paired.Goals as goal

pub returns-in-Some-clause-kept : goal.returns-in-Some-clause-kept
returns-in-Some-clause-kept c =
    let span = c.in-Some.span in
    let spans = c.in-Some.ensures in
    keeps_around (IsPaired c.args.self.now.entries c.args.side c.args.other.now) c.args.own.now c.meet_range.new.self c.meet_range.result span.first span.last _ _ c.requires c.meet_range.ensures.domain
    (omega (arith, ints)) (omega (arith, ints)) spans.0.0 spans.0.1 spans.1.0 spans.1.1 spans.2 c.meet_range.ensures.kept
