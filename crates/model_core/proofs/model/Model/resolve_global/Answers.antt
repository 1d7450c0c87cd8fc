use Rattle.std.proofs.Common.{rules}
use Rattle.model_core.proofs.Lookups.{no_global, global_found}
use Rattle.model_core.proofs.model.Model.resolve_global.Goals as goal

pub returns-in_err-global_named : goal.returns-in_err-global_named
returns-in_err-global_named c =
    rw c.from_residual.ensures (no_global c.args.self.now c.args.name.now c.as_bytes.result.now c.in_err-global_named.ensures c.as_bytes.ensures c.requires.whole)

pub returns : goal.returns
returns c =
    let found = global_found c.args.self.now c.as_bytes.result.now c.in_ok-global_named.field-0 c.in_ok-global_named.ensures in
    record { steps = c.if-not-is_empty.ensures.0 (search rules); tail = c.requires.whole; variable = found.0; is_global = found.1; label = cc }
