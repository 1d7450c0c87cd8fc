use Rattle.std.proofs.Common.{arith}
use Rattle.db_store.specs.Holding.{stored_of}
use Rattle.db_store.proofs.Going.{can_return, touched}
use Rattle.db_store.proofs.store.Store.touched_since.Goals as goal

pub written_since-requires : goal.written_since-requires
written_since-requires c =
    let inside = c.self.inside in
    can_return (stored_of inside.tokens inside.variables inside.blocks.keys inside.watchers inside.net) c.args.self.now c.args.mark c.self.view_is c.requires

pub returns : goal.returns
returns c =
    let inside = c.self.inside in
    touched (stored_of inside.tokens inside.variables inside.blocks.keys inside.watchers inside.net) c.args.self.now c.args.mark
    c.in_ok-numbers.numbers.items c.put_numbers.new.numbers.items c.self.view_is c.in_ok-numbers.ensures
    c.in_ok-put_numbers.ensures.kept (λ number over below. c.in_ok-put_numbers.ensures.all number over (omega (arith, below, c.len.ensures)))
