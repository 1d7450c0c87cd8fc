use Rattle.std.proofs.Common.{◌<◌, length, ap, arith}
use Rattle.token_store.proofs.Past.{shown}
use Rattle.token_store.proofs.Keeping.{set_kept, set_past}
use Rattle.token_store.proofs.tokens.Tokens.set_state.Goals as goal

pub index-requires : goal.index-requires
index-requires c = omega (arith, c.requires, ap length (shown c.self.inside.tokens.entries _ c.args.self.now c.self.view_is))

pub put_state-requires : goal.put_state-requires
put_state-requires c = omega (arith, c.requires, ap length (shown c.self.inside.tokens.entries _ c.args.self.now c.self.view_is))

pub invariant_of-self-2 : goal.invariant_of-self-2
invariant_of-self-2 c =
    let tokens = c.self.inside.tokens.entries in
    let trail = c.self.inside.trail.items in
    let below : c.args.place < length tokens = omega (arith, c.requires, ap length (shown tokens _ c.args.self.now c.self.view_is)) in
    rw (c.put_state.ensures, c.in_ok-push.ensures.items)
    (set_kept tokens trail _ _ c.args.place c.index.result.now c.args.state c.index.ensures below c.self.invariant)

pub returns-clause-ok : goal.returns-clause-ok
returns-clause-ok c =
    let tokens = c.self.inside.tokens.entries in
    let trail = c.self.inside.trail.items in
    rw (c.put_state.ensures, c.in_ok-push.ensures.items)
    (set_past tokens trail c.args.self.now c.args.place c.index.result.now c.args.state c.index.ensures c.self.view_is)
