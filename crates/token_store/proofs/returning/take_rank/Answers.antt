use Rattle.std.proofs.Common.{◌≡◌, ◌-◌, length, take, sym, ap, ◌∙◌, subst, arith}
use Rattle.std.proofs.lemmas.Option.{slice_get-map}
use Rattle.std.specs.Option.{option_map}
use Rattle.std.specs.List.{remove}
use Rattle.token_store.specs.Tokens.{token_names}
use Rattle.token_store.specs.Orders.{IsRanking}
use Rattle.token_store.specs.Pieces.{Parts}
use Rattle.token_store.proofs.Past.{length-names}
use Rattle.token_store.proofs.Ranks.{last_rank}
use Rattle.token_store.proofs.returning.take_rank.Goals as goal

pub remove-place-requires : goal.remove-place-requires
remove-place-requires c =
    let tokens = c.args.tokens.now.entries in
    let ranking = c.args.by_rank.now.items in
    let named = slice_get-map (λ token. token.0) tokens (c.len.result - 1) ∙ ap (option_map (λ token. token.0)) (sym c.in-Some.ensures.entry) in
    let parts = subst (λ list. Parts (token_names tokens) list c.in-Some.name.now c.rank_of-rank.result) c.deref.ensures.value c.rank_of-rank.ensures in
    omega (
      arith,
      c.args.by_rank.now.ok.0,
      (last_rank c.names_are_in_order.ensures.tokens (token_names tokens) ranking (c.len.result - 1) c.rank_of-rank.result c.in-Some.name.now
          (omega (arith, length-names tokens, c.len.ensures.len, c.requires.some)) c.requires.ranked named parts).0,
    )

pub returns : goal.returns
returns c =
    let tokens = c.args.tokens.now.entries in
    let ranking = c.args.by_rank.now.items in
    let count : c.len.result - 1 ≡ length tokens - 1 = omega (arith, c.len.ensures.len) in
    let named = slice_get-map (λ token. token.0) tokens (c.len.result - 1) ∙ ap (option_map (λ token. token.0)) (sym c.in-Some.ensures.entry) in
    let parts = subst (λ list. Parts (token_names tokens) list c.in-Some.name.now c.rank_of-rank.result) c.deref.ensures.value c.rank_of-rank.ensures in
    let less = (last_rank c.names_are_in_order.ensures.tokens (token_names tokens) ranking (c.len.result - 1) c.rank_of-rank.result c.in-Some.name.now
    (omega (arith, length-names tokens, c.len.ensures.len, c.requires.some)) c.requires.ranked named parts).1 in
    subst (IsRanking (take (length tokens - 1) (token_names tokens))) (sym c.remove-place.ensures.items)
    (subst (λ n. IsRanking (take n (token_names tokens)) (remove ranking c.rank_of-rank.result)) count less)
