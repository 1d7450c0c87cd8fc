use Rattle.std.proofs.Common.{◌∙◌}
use Rattle.indexmap.proofs.CallerLemmas.{insert_entry-new}
use Rattle.token_store.proofs.Names.{new_absent}
use Rattle.token_store.proofs.trail.put_token.Goals as goal

pub returns : goal.returns
returns c = c.in-Ok.ensures.entries
    ∙ insert_entry-new _ c.args.tokens.now c.args.name c.args.token (new_absent _ c.names_are_told_apart.ensures.tokens c.args.tokens.now.entries c.args.name c.requires.new)
