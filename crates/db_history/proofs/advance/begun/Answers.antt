use Rattle.db_history.proofs.Resting.{begun_told}
use Rattle.db_history.proofs.advance.begun.Goals as goal

pub returns : goal.returns
returns c =
    begun_told c.args.model.now c.args.store c.resources_fit-fit.result c.beside.result c.requires.rest c.requires.tables c.requires.idle c.beside.ensures c.resources_fit-fit.ensures
