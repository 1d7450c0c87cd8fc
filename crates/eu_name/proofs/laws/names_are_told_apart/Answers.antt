use Rattle.std.proofs.Common.{rules}
use Rattle.eu_name.specs.declared.name.VarName.TheVariants.{Token, Local, Global}
use Rattle.eu_name.proofs.Equality.{tokens_told_apart, parts_told_apart, locals_told_apart, globals_told_apart}
use Rattle.eu_name.proofs.laws.names_are_told_apart.Goals as goal

pub returns-clause-steps : goal.returns-clause-steps
returns-clause-steps c = λ one other. search rules

pub returns-clause-tokens : goal.returns-clause-tokens
returns-clause-tokens c = tokens_told_apart _ (returns-clause-steps c)

pub returns-clause-parts : goal.returns-clause-parts
returns-clause-parts c = λ one other. search rules

pub returns-clause-variables : goal.returns-clause-variables
returns-clause-variables c (Token a p) (Token b q) = parts_told_apart _ _ (returns-clause-tokens c) (returns-clause-parts c) a b p q
returns-clause-variables c (Local a r m) (Local b s n) = locals_told_apart _ (returns-clause-tokens c) a b r s m n
returns-clause-variables c (Global m) (Global n) = globals_told_apart m n
returns-clause-variables c one other = (λ same. cc, λ same. cc)
