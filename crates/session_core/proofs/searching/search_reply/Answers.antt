use Rattle.std.proofs.Common.{refl}
use Rattle.session_core.specs.Replies.{RepliesSolve}
use Rattle.session_core.proofs.Stepping.{not_full, full_answers}
use Rattle.session_core.proofs.searching.search_reply.Goals as goal

pub returns-then-is_full : goal.returns-then-is_full
returns-then-is_full c =
    full_answers c.args.db.now.database (RepliesSolve c.args.steps c.args.tokens c.args.db.now.database) c.refused.result c.if-is_full.ensures c.refused.ensures

pub returns : goal.returns
returns c =
    not_full c.args.db.now.database c.search.new.db.database (RepliesSolve c.args.steps c.args.tokens c.args.db.now.database) c.search.result c.if-is_full.ensures c.search.ensures

pub search-requires : goal.search-requires
search-requires c = (refl, c.requires)
