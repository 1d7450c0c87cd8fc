use Rattle.std.proofs.Common.{rules}
use Rattle.db_store.specs.declared.key.VarKey.TheVariants.{Global, Part, Local}
use Rattle.db_store.proofs.Equal.{globals_apart, parts_apart, locals_apart, blocks_apart}
use Rattle.db_store.proofs.laws.keys_are_told_apart.Goals as goal

pub returns-clause-variables : goal.returns-clause-variables
returns-clause-variables c (Global m) (Global n) = globals_apart m n
returns-clause-variables c (Part p a) (Part q b) = parts_apart _ c.names_are_told_apart.ensures.parts p q a b
returns-clause-variables c (Local p r m) (Local q s n) = locals_apart p q r s m n
returns-clause-variables c one other = (λ same. cc, λ same. cc)

pub returns-clause-blocks : goal.returns-clause-blocks
returns-clause-blocks c = blocks_apart _ (c.sequences_are_told_apart.ensures (λ one other. search rules))
