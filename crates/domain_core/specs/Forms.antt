-- The domains that the two forms of keeping one stand for.
use Rattle.domain_core.specs.Domain.{Domain, Range, Set}
use Rattle.domain_core.specs.declared.domain.Form.{Form}
use Rattle.domain_core.specs.declared.domain.Form.TheVariants as form

-- the domain that is kept so
abbrev pub domain_of_form : Form → Domain
domain_of_form (form.Range interval) = Range interval.lo interval.hi
domain_of_form (form.Set members) = Set members.items
