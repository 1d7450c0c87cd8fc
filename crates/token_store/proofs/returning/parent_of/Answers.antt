use Rattle.std.proofs.Common.{◌≡◌, ◌++◌, ◌∷◌, [], sym, ap, ◌∙◌}
use Rattle.token_store.proofs.Children.{parent_found}
use Rattle.token_store.proofs.returning.parent_of.Goals as goal

pub returns-in-Some : goal.returns-in-Some
returns-in-Some c =
    let steps : c.args.name.steps ≡ c.from_vec-steps.result ++ c.in-Some._last ∷ [] =
    sym c.into_vec-steps.ensures ∙ c.in-Some.ensures.items ∙ ap (λ list. list ++ c.in-Some._last ∷ []) (sym c.from_vec-steps.ensures) in
    parent_found c.args.tokens.now.entries (record { root = c.args.name.root; steps = c.from_vec-steps.result }) c.args.name c.in-Some._last c.find_place.result
    (λ i. record { root = c.args.name.root; steps = steps i }) c.find_place.ensures
