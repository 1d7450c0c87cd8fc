use Rattle.std.proofs.Common.{◌++◌, ◌∷◌, [], reverse, sym, ap, ◌∙◌, subst}
use Rattle.token_store.specs.Kept.{AreKeptTokens}
use Rattle.token_store.specs.Listed.{lists_of}
use Rattle.token_store.proofs.Keeping.{unset_kept}
use Rattle.token_store.proofs.returning.step_back.Goals as goal

pub returns-in-Some-Was-clause-kept : goal.returns-in-Some-Was-clause-kept
returns-in-Some-Was-clause-kept c =
    subst (λ tokens. AreKeptTokens tokens (reverse c.pop.new.self.items) c.args.by_rank.now.items (lists_of c.args.children.now)) (sym c.put_state.ensures)
    (unset_kept c.args.tokens.now.entries c.args.trail.now.items c.pop.new.self.items c.args.by_rank.now.items (lists_of c.args.children.now)
    c.in-Some-Was.place c.in-Some-Was.state (c.in-Some-Was.ensures.items ∙ ap (λ edit. c.pop.new.self.items ++ edit ∷ []) c.in-Some-Was.field-0-is) c.requires.kept)
