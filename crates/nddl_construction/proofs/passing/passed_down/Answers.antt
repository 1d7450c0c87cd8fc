use Rattle.std.proofs.Common.{◌∙◌, ap}
use Rattle.std.specs.List.{filter}
use Rattle.std.specs.Prelude.{Some, reverse}
use Rattle.nddl_construction.specs.Scene.{grounds_of}
use Rattle.nddl_construction.specs.Classes.{is_building}
use Rattle.nddl_construction.specs.Passing.{passed_from}
use Rattle.nddl_construction.proofs.Building.{passed_along}
use Rattle.nddl_construction.proofs.passing.passed_down.Goals as goal

pub returns : goal.returns
returns c =
    let grounds = grounds_of c.args.footing.now in
    let objects = c.args.objects.now in
    let line = c.as_slice.result.now in
    passed_along grounds objects c.args.class c.args.values.now line c.reverse.new.self.items
    (ap (filter (is_building grounds.facts)) c.as_slice.ensures.value ∙ c.in_ok-line.ensures)
    (c.reverse.ensures.items
    ∙ ap reverse (c.in_ok-found.ensures ∙ ap (λ given. passed_from grounds objects line (Some given)) c.in_ok-values.ensures))
