use Rattle.std.proofs.Common.{◌≡◌, ◌≤◌, length, inl, inr, sym, ap, ◌∙◌, subst, arith}
use Rattle.std.proofs.lemmas.Bool.{cases_lt}
use Rattle.std.proofs.lemmas.Option.{slice_get-map, slice_get_within, get_or_from_slice_get}
use Rattle.std.specs.Option.{option_map}
use Rattle.token_store.specs.Tokens.{token_names}
use Rattle.token_store.specs.Orders.{name_at, HasRank}
use Rattle.token_store.specs.Pieces.{Parts}
use Rattle.token_store.proofs.Past.{shown, length-names}
use Rattle.token_store.proofs.Ranks.{rank_of_own, length-ranking}
use Rattle.token_store.proofs.tokens.Tokens.rank.Goals as goal

pub overflow_cast-result : goal.overflow_cast-result
overflow_cast-result c =
    let tokens = c.self.inside.tokens.entries in
    let long = length-ranking c.names_are_in_order.ensures.tokens (token_names tokens) c.self.inside.by_rank.items c.self.invariant.ranked in
    omega (arith, c.rank_of.ensures.within, ap length c.deref.ensures.value, long, length-names tokens, c.self.invariant.few)

pub returns-in-Some : goal.returns-in-Some
returns-in-Some c =
    let tokens = c.self.inside.tokens.entries in
    let by_rank = c.self.inside.by_rank.items in
    let named = slice_get-map (λ token. token.0) tokens c.args.place ∙ ap (option_map (λ token. token.0)) (sym c.in-Some.ensures.entry) in
    let name : c.in-Some.name.now ≡ name_at (token_names tokens) c.args.place = sym (get_or_from_slice_get (token_names tokens) c.args.place c.in-Some.name.now _ named) in
    let parts = subst (λ list. Parts (token_names tokens) list c.in-Some.name.now c.rank_of.result) c.deref.ensures.value c.rank_of.ensures in
    subst (λ list. HasRank (token_names list) c.args.place c.rank_of.result) (sym (shown tokens _ c.args.self.now c.self.view_is))
    (rank_of_own c.names_are_in_order.ensures.tokens (token_names tokens) by_rank c.args.place c.rank_of.result
    (slice_get_within (token_names tokens) c.args.place c.in-Some.name.now named) c.self.invariant.ranked
    (subst (λ n. Parts (token_names tokens) by_rank n c.rank_of.result) name parts))

pub returns-in-None : goal.returns-in-None
returns-in-None c =
    let tokens = c.self.inside.tokens.entries in
    let all : length tokens ≤ c.args.place = elim (cases_lt c.args.place (length tokens)) [
      | inl less ↦ let bad = c.in-None.ensures.found.1 less in cc
      | inr over ↦ over
    ] in
    omega (arith, all, ap length (shown tokens _ c.args.self.now c.self.view_is))
