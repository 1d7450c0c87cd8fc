use Rattle.std.proofs.Common.{ℕ, refl, sym, subst}
use Rattle.model_core.specs.Tokens.{HasRule}
use Rattle.model_core.proofs.kinds.local_kind.Goals as goal

pub unreachable-requires : goal.unreachable-requires
unreachable-requires c =
    let base = c.requires.1 in
    c.in-None.ensures base.has_local.found base.variable
    (subst (λ (n : ℕ). HasRule c.args.model.now n c.args.rule base.has_local.found) (c.pred_of.ensures base.slot base.has_token) base.has_local.has_rule) base.has_local.declared

pub returns : goal.returns
returns c =
    let base = c.requires.1 in
    let found = c.in-Some.ensures in (
      base.slot,
      (
        base.has_token,
        (
          c.in-Some.variable.now,
          (
            record { found = found.0; has_rule = subst (λ (n : ℕ). HasRule c.args.model.now n c.args.rule found.0) (sym (c.pred_of.ensures base.slot base.has_token)) found.1; declared = found.2 },
            refl,
          ),
        ),
      ),
    )
