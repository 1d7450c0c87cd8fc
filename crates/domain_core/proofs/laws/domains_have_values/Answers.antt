use Rattle.std.proofs.Common.{sym}
use Rattle.domain_core.proofs.Words.{has_least, has_greatest, tested_least, tested_greatest, between_ends, has_value, has_tested, place_of, at_place, places_rise, single_from_ends, single_greatest, ends_from_slack, slack_from_ends}
use Rattle.domain_core.proofs.laws.domains_have_values.Goals as goal

pub returns-clause-ends : goal.returns-clause-ends
returns-clause-ends c = λ domain ok. record { has_least = has_least domain ok; has_greatest = has_greatest domain ok; tests_least = tested_least domain ok; tests_greatest = tested_greatest domain ok }

pub returns-clause-values : goal.returns-clause-values
returns-clause-values c = λ domain ok. record { between = λ value has. between_ends domain value ok has; values = λ value has. has_value domain value ok has; tested = λ value tested. has_tested domain value ok tested }

pub returns-clause-places : goal.returns-clause-places
returns-clause-places c = λ domain ok. record {
  place = λ value has. place_of domain value ok has;
  value = λ place value nth. at_place domain place value ok nth;
  rise = λ place later value other before p q. places_rise domain place later value other ok before p q;
}

pub returns-clause-single : goal.returns-clause-single
returns-clause-single c = λ domain ok. (
  λ none. single_from_ends domain ok (ends_from_slack domain ok none),
  λ single. slack_from_ends domain ok (sym (single_greatest domain _ ok single)),
)
