use Rattle.std.proofs.Common.{◌≡◌, ◌<◌, ◌≤◌, length, slice_index_or, inl, inr, refl, sym, ap, ◌∙◌, subst, arith}
use Rattle.std.proofs.lemmas.Bool.{cases_lt}
use Rattle.std.proofs.lemmas.Option.{slice_get_read}
use Rattle.token_store.specs.Tokens.{token_names}
use Rattle.token_store.specs.Orders.{HasRank}
use Rattle.token_store.proofs.Past.{shown, length-names}
use Rattle.token_store.proofs.Ranks.{has_rank, length-ranking}
use Rattle.token_store.proofs.tokens.Tokens.at_rank.Goals as goal

pub returns-in-Some : goal.returns-in-Some
returns-in-Some c =
    let tokens = c.self.inside.tokens.entries in
    let by_rank = c.self.inside.by_rank.items in
    let lookup = c.in-Some.ensures.lookup in
    let below : c.args.rank < length by_rank = omega (arith, lookup.3.0, ap length c.deref.ensures.value) in
    let at : c.in-Some.place.now ≡ slice_index_or by_rank c.args.rank c.in-Some.place.now =
    lookup.1 ∙ ap (λ list. slice_index_or list c.args.rank c.in-Some.place.now) c.deref.ensures.value in
    subst (λ list. HasRank (token_names list) c.in-Some.place.now c.args.rank) (sym (shown tokens _ c.args.self.now c.self.view_is))
    (has_rank (token_names tokens) by_rank c.in-Some.place.now c.args.rank c.self.invariant.ranked (slice_get_read by_rank (length by_rank) c.args.rank c.in-Some.place.now refl below at))

pub returns-in-None : goal.returns-in-None
returns-in-None c =
    let tokens = c.self.inside.tokens.entries in
    let by_rank = c.self.inside.by_rank.items in
    let long = length-ranking c.names_are_in_order.ensures.tokens (token_names tokens) by_rank c.self.invariant.ranked in
    let all : length by_rank ≤ c.args.rank = elim (cases_lt c.args.rank (length by_rank)) [
      | inl less ↦ let bad = c.in-None.ensures.lookup.2 (omega (arith, less, ap length c.deref.ensures.value)) in cc
      | inr over ↦ over
    ] in
    omega (arith, all, long, length-names tokens, ap length (shown tokens _ c.args.self.now c.self.view_is))
