use Rattle.std.proofs.Common.{length, sym, ap, ◌∙◌, subst, arith}
use Rattle.token_store.specs.Tokens.{token_names, IsNewName}
use Rattle.token_store.specs.Listed.{lists_of}
use Rattle.token_store.specs.Pieces.{Parts}
use Rattle.token_store.proofs.Past.{shown}
use Rattle.token_store.proofs.Keeping.{added_kept, added_past}
use Rattle.token_store.proofs.tokens.Tokens.add_new.Goals as goal

pub put_token-requires-clause-new : goal.put_token-requires-clause-new
put_token-requires-clause-new c =
    subst (λ tokens. IsNewName tokens c.in_ok-name.name) (shown c.self.inside.tokens.entries _ c.args.self.now c.self.view_is ∙ sym c.in_ok-place.ensures.tokens)
    (subst (IsNewName _) (sym c.in_ok-name.ensures.same) c.requires)

pub invariant_of-self-2 : goal.invariant_of-self-2
invariant_of-self-2 c =
    let tokens = c.self.inside.tokens.entries in
    let trail = c.self.inside.trail.items in
    let by_rank = c.self.inside.by_rank.items in
    let children = lists_of c.self.inside.children in
    let place = c.in_ok-place.ensures.place in
    let new : IsNewName tokens c.args.name = subst (λ list. IsNewName list c.args.name) (shown tokens _ c.args.self.now c.self.view_is) c.requires in
    let parts = subst (λ list. Parts (token_names tokens) list c.args.name c.rank_of-rank.result) (c.deref.ensures.value ∙ c.in_ok-place.ensures.by_rank)
    (subst (λ n. Parts (token_names tokens) c.deref.result.now n c.rank_of-rank.result) c.in_ok-name.ensures.same
    (subst (λ list. Parts (token_names list) c.deref.result.now c.in_ok-name.name c.rank_of-rank.result) c.in_ok-place.ensures.tokens c.rank_of-rank.ensures)) in
    rw (
      c.put_token.ensures,
      c.in_ok-place.ensures.tokens,
      c.in_ok-name.ensures.same,
      c.push_reserved.ensures.items,
      c.in_ok-place.ensures.trail,
      c.insert_in_room.ensures,
      c.in_ok-place.ensures.by_rank,
      c.in_ok-place.ensures.noted,
      place,
    )
    (added_kept c.names_are_in_order.ensures.tokens tokens trail by_rank children c.args.name _ c.rank_of-rank.result c.in_ok-name.parent c.self.invariant new
    (omega (arith, c.in_ok-place.ensures.few, place)) parts c.in_ok-name.ensures.parent)

pub returns-clause-place : goal.returns-clause-place
returns-clause-place c = c.in_ok-place.ensures.place ∙ ap length (sym (shown c.self.inside.tokens.entries _ c.args.self.now c.self.view_is))

pub returns-clause-ok : goal.returns-clause-ok
returns-clause-ok c =
    rw (c.put_token.ensures, c.in_ok-place.ensures.tokens, c.in_ok-name.ensures.same, c.push_reserved.ensures.items, c.in_ok-place.ensures.trail)
    (added_past c.self.inside.tokens.entries c.self.inside.trail.items c.args.self.now c.args.name _ c.self.view_is)
