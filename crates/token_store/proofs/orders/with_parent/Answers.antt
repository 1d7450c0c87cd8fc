use Rattle.std.proofs.Common.{◌≡◌, ◌++◌, ◌∷◌, [], sym, ap, ◌∙◌}
use Rattle.token_store.proofs.Children.{parent_found}
use Rattle.token_store.proofs.orders.with_parent.Goals as goal

pub returns-in-Some-clause-parent : goal.returns-in-Some-clause-parent
returns-in-Some-clause-parent c =
    let steps : c.args.name.steps ≡ c.from_vec-steps-in-Some.result ++ c.in-Some.last ∷ [] =
    sym c.into_vec-steps.ensures ∙ c.in-Some.ensures.items ∙ ap (λ list. list ++ c.in-Some.last ∷ []) (sym c.from_vec-steps-in-Some.ensures) in
    parent_found c.args.tokens.now.entries (record { root = c.args.name.root; steps = c.from_vec-steps-in-Some.result }) c.args.name c.in-Some.last c.find_place-place.result (λ i. record { root = c.args.name.root; steps = steps i }) c.find_place-place.ensures
