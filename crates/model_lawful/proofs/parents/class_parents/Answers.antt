use Rattle.std.proofs.Common.{◌∙◌, sym, subst}
use Rattle.eu_forest.specs.Lines.{AreParents}
use Rattle.model_typing.proofs.Telling.{never}
use Rattle.model_lawful.proofs.parents.class_parents.Goals as goal

pub returns-then-not-are_there : goal.returns-then-not-are_there
returns-then-not-are_there c = λ line.
    never _ c.if-not-are_there.ensures (subst AreParents (sym (c.as_slice.ensures.value ∙ c.in_ok-parents.ensures)) line.there)
