use Rattle.nddl_types.proofs.Splitting.{builtin_behind}
use Rattle.nddl_types.proofs.builtin.push_builtin_classes.Goals as goal

pub returns : goal.returns
returns c =
    builtin_behind c.push_builtin_class-4.result c.args.classes.now c.push_builtin_class.new.classes c.push_builtin_class-2.new.classes
    c.push_builtin_class-3.new.classes c.push_builtin_class-4.new.classes c.in_ok-push_builtin_class.ensures
    c.in_ok-push_builtin_class-2.ensures c.in_ok-push_builtin_class-3.ensures c.push_builtin_class-4.ensures
