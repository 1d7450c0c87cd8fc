use Rattle.db_posting.proofs.Allowing.{lawful_terms_can_stand, lawful_items_can_be_posted}
use Rattle.db_posting.proofs.laws.lawful_items_can_be_posted.Goals as goal

pub returns-clause-terms : goal.returns-clause-terms
returns-clause-terms c = lawful_terms_can_stand

pub returns-clause-items : goal.returns-clause-items
returns-clause-items c = lawful_items_can_be_posted
