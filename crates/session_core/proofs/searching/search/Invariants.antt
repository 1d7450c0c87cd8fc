use Rattle.session_core.proofs.searching.search.Given as goal

abbrev pub ghost-told_or_back : goal.ghost-told_or_back
ghost-told_or_back g a = g.former
