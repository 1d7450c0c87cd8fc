use Rattle.std.proofs.Common.{All, refl}
use Rattle.std.specs.List.{flat_map}
use Rattle.model_typing.proofs.Telling.{never, told_as, told_not}
use Rattle.model_lawful.specs.Naming.{HaveOwnNames, IsOwnName}
use Rattle.model_lawful.proofs.naming.have_own_parts.Goals as goal

pub returns-then-not-are_own_globals : goal.returns-then-not-are_own_globals
returns-then-not-are_own_globals c = told_not _ (λ own. never _ c.if-not-are_own_globals.ensures own.globals)

pub returns-then-not-are_own_labels : goal.returns-then-not-are_own_labels
returns-then-not-are_own_labels c = told_not _ (λ own. never _ c.if-not-are_own_labels.ensures own.roots)

pub returns-then-not-are_own_objects : goal.returns-then-not-are_own_objects
returns-then-not-are_own_objects c = told_not _ (λ own. never _ c.if-not-are_own_objects.ensures own.objects)

pub returns-then-not-are_own_enums : goal.returns-then-not-are_own_enums
returns-then-not-are_own_enums c = told_not _ (λ own. never _ c.if-not-are_own_enums.ensures own.enums)

pub returns : goal.returns
returns c =
    told_as c.are_own_members.result (All IsOwnName (flat_map (λ found. found.members) c.args.model.now.enums)) (HaveOwnNames c.args.model.now)
    (λ members. record {
      globals = c.if-not-are_own_globals.ensures.0 refl;
      roots = c.if-not-are_own_labels.ensures.0 refl;
      objects = c.if-not-are_own_objects.ensures.0 refl;
      enums = c.if-not-are_own_enums.ensures.0 refl;
      members = members;
    })
    (λ own. own.members) c.are_own_members.ensures
