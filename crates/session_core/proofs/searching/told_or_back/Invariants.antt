use Rattle.session_core.proofs.searching.told_or_back.Given as goal

abbrev pub ghost-rewind : goal.ghost-rewind
ghost-rewind g a = g.former
