use Rattle.model_typing.specs.Terms.{scope_of}
use Rattle.model_typing.proofs.Accessing.{accesses_told}
use Rattle.model_typing.proofs.accesses.accesses_object.Goals as goal

pub returns : goal.returns
returns c =
    accesses_told c.args.model.now (scope_of c.args.scope) c.args.access.field c.args.access.value c.args.access.object c.term_line-line.result
    c.fits_on_line.result c.term_line-line.ensures c.fits_on_line.ensures
