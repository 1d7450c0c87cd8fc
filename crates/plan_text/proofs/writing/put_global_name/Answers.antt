use Rattle.std.proofs.Common.{refl}
use Rattle.plan_text.proofs.writing.put_global_name.Goals as goal

pub put_variable-requires : goal.put_variable-requires
put_variable-requires c = (c.requires.0.base, (c.requires.0, c.requires.1, refl))
