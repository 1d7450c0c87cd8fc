use Rattle.model_typing.proofs.Telling.{told_false, told_not, told_so}
use Rattle.model_lawful.specs.Classes.{HasLawfulMembers}
use Rattle.model_lawful.proofs.Counting.{all_more, all_not, all_whole}
use Rattle.model_lawful.proofs.classes.have_lawful_members.Goals as goal

pub returns-then-not-branch : goal.returns-then-not-branch
returns-then-not-branch c = told_not _
    (all_not (HasLawfulMembers c.args.model.now) c.args.classes.now c.loop-class.class-index c.class-item.result c.loop-class-test.true c.class-item.is
    (told_false c.in_ok-has_lawful_members.field-0 _ c.if-not-branch.true c.in_ok-has_lawful_members.ensures))

pub loop-class-preserved : goal.loop-class-preserved
loop-class-preserved c =
    all_more (HasLawfulMembers c.args.model.now) c.args.classes.now c.loop-class.class-index c.class-item.result c.loop-class-test.true c.class-item.is
    (c.in_ok-has_lawful_members.ensures.0 c.if-not-branch.false) c.loop-class.invariant

pub returns : goal.returns
returns c = told_so _ (all_whole (HasLawfulMembers c.args.model.now) c.args.classes.now c.loop-class.class-index c.loop-class-test.false c.loop-class.invariant)
