use Rattle.token_store.proofs.Past.{set-state}
use Rattle.token_store.proofs.trail.put_state.Goals as goal

pub returns : goal.returns
returns c = set-state c.args.tokens.now.entries c.args.place c.index_mut.result.now c.args.state c.index_mut.ensures.value
