use Rattle.session_core.proofs.searching.search_reply.Given as goal

abbrev pub ghost-search : goal.ghost-search
ghost-search a = a.db.now.database
