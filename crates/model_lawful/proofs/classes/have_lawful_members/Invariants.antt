use Rattle.std.specs.Prelude.{take, All}
use Rattle.model_lawful.specs.Classes.{HasLawfulMembers}
use Rattle.model_lawful.proofs.classes.have_lawful_members.Given as goal

abbrev pub invariant-loop-class : goal.invariant-loop-class
invariant-loop-class l = All (HasLawfulMembers l.model) (take l.class-index l.classes)
