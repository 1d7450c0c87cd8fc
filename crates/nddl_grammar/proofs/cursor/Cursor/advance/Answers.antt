use Rattle.std.proofs.Common.{◌∙◌, add-one}
use Rattle.nddl_grammar.proofs.Taking.{after_first}
use Rattle.nddl_grammar.proofs.cursor.Cursor.advance.Goals as goal

pub returns-then-self : goal.returns-then-self
returns-then-self c = λ symbol rest is. rw add-one (after_first c.self.inside.next c.self.inside.symbols.now rest symbol (c.self.view_is ∙ is))
