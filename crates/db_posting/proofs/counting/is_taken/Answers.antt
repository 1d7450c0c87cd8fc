use Rattle.std.proofs.Common.{◌≡◌, Some, sym, subst, slice_get}
use Rattle.token_store.specs.Orders.{name_at}
use Rattle.token_store.specs.Tokens.{TokenList, tokens_now, token_names, token_states}
use Rattle.db_posting.proofs.Naming.{named_at}
use Rattle.db_posting.proofs.Taking.{taken_by_state, iff_trans}
use Rattle.db_posting.proofs.counting.is_taken.Goals as goal

pub returns : goal.returns
returns c = λ model decisions snapshot same kept rejectable.
    let tokens = tokens_now c.args.tokens.now in
    let place = c.args.place in
    let token = name_at (token_names tokens) place in
    let named = subst (λ (list : TokenList). slice_get (token_names list) place ≡ Some token) (sym same) (named_at tokens place c.requires) in
    let state = subst (λ (list : TokenList). slice_get (token_states list) place ≡ Some c.in-Some.state) (sym same) (sym c.in-Some.ensures) in
    iff_trans c.is_taken_state.ensures (taken_by_state model decisions snapshot kept place token named rejectable c.in-Some.state state)
