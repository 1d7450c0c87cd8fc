use Rattle.std.proofs.Common.{refl}
use Rattle.std.proofs.lemmas.Result.{on_ok_weaker}
use Rattle.eu_name.specs.declared.name.Part.TheVariants.{Start, End}
use Rattle.db_edges.specs.Edges.{HasGivenEdges, HasTimesGiven}
use Rattle.db_edges.proofs.Appending.{adds_both}
use Rattle.db_edges.proofs.lasting.times_given.Goals as goal

pub returns : goal.returns
returns c =
    let has = HasGivenEdges c.args.model.now c.args.decisions.now c.args.token.now in
    on_ok_weaker c.time_given-2.result
    (adds_both (has Start) (has End) (HasTimesGiven c.args.model.now c.args.decisions.now c.args.token.now) c.args.edges.now.items c.time_given.new.edges.items c.time_given-2.new.edges.items
    (λ one other first second. (one, other, first, second, refl)) c.in_ok-time_given.ensures)
    c.time_given-2.ensures
