use Rattle.std.proofs.Common.{◌≡◌, ◌<◌, ◌≤◌, length, get_or, slice_get, Some, sym, ap, ◌∙◌, subst, arith}
use Rattle.std.proofs.lemmas.Option.{slice_get-get_or, slice_get_past}
use Rattle.db_opening.proofs.Parting.{found_parameters, no_parameters, few_parameters}
use Rattle.db_opening.proofs.parts.parameter_count.Goals as goal

pub overflow_cast-result : goal.overflow_cast-result
overflow_cast-result c =
    let preds = c.args.model.now.preds in
    let pred = c.args.pred in
    let found = c.in-Some.found.now in
    let look = c.in-Some.ensures.lookup in
    let within : pred < length preds = subst (λ list. pred < length list) c.as_slice.ensures look.3.0 in
    let same : found ≡ get_or preds pred found = subst (λ list. found ≡ get_or list pred found) c.as_slice.ensures look.1 in
    let at : slice_get preds pred ≡ Some found = slice_get-get_or preds pred found within ∙ ap Some (sym same) in
    omega (arith, few_parameters c.args.model.now pred c.requires found at, c.len.ensures)

pub returns-in-Some : goal.returns-in-Some
returns-in-Some c =
    let preds = c.args.model.now.preds in
    let pred = c.args.pred in
    let found = c.in-Some.found.now in
    let look = c.in-Some.ensures.lookup in
    let within : pred < length preds = subst (λ list. pred < length list) c.as_slice.ensures look.3.0 in
    let same : found ≡ get_or preds pred found = subst (λ list. found ≡ get_or list pred found) c.as_slice.ensures look.1 in
    let at : slice_get preds pred ≡ Some found = slice_get-get_or preds pred found within ∙ ap Some (sym same) in
    found_parameters c.args.model.now pred found c.len.result at c.len.ensures

pub returns-in-None : goal.returns-in-None
returns-in-None c =
    let preds = c.args.model.now.preds in
    no_parameters c.args.model.now c.args.pred (slice_get_past preds c.args.pred (subst (λ list. length list ≤ c.args.pred) c.as_slice.ensures c.in-None.ensures.lookup.3))
