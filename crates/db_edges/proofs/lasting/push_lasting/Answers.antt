use Rattle.std.proofs.Common.{◌∙◌, ap, pos, ◌-ℤ◌}
use Rattle.std.proofs.lemmas.Result.{on_ok_weaker}
use Rattle.db_edges.proofs.Spans.{horizon_is, kept_value, pushed_lasting}
use Rattle.db_edges.proofs.lasting.push_lasting.Goals as goal

pub returns : goal.returns
returns c =
    let values = horizon_is c.args.model.now.problem c.requires.lawful.horizon in
    on_ok_weaker c.push_edge-4.result
    (λ last. pushed_lasting c.args.model.now.problem c.args.token.now c.args.span.low c.args.span.high c.args.edges.now.items c.push_edge.new.edges.items c.push_edge-2.new.edges.items
    c.push_edge-3.new.edges.items c.push_edge-4.new.edges.items _ _ _ _
    c.in_ok-copy.field-0 c.in_ok-copy-2.field-0 c.in_ok-copy-3.field-0 c.in_ok-copy-4.field-0 c.in_ok-copy-5.field-0 c.in_ok-copy-6.field-0
    c.in_ok-push_edge.ensures c.in_ok-push_edge-2.ensures c.in_ok-push_edge-3.ensures last
    (kept_value c.args.model.now.problem.start values.0) (kept_value c.turned_round-ending.result c.turned_round-ending.ensures.value ∙ c.turned_round-ending.ensures.is ∙ ap (λ v. pos 0 -ℤ v) (kept_value c.args.model.now.problem.end values.1))
    (kept_value c.args.span.low c.requires.low) (kept_value c.turned_round-longest.result c.turned_round-longest.ensures.value ∙ c.turned_round-longest.ensures.is ∙ ap (λ v. pos 0 -ℤ v) (kept_value c.args.span.high c.requires.high))
    c.in_ok-copy.ensures c.in_ok-copy-2.ensures c.in_ok-copy-3.ensures c.in_ok-copy-4.ensures c.in_ok-copy-5.ensures c.in_ok-copy-6.ensures)
    c.push_edge-4.ensures
