use Rattle.std.proofs.Common.{◌≡◌, drop}
use Rattle.std.specs.List.{list_any}
use Rattle.nddl_objects.specs.Finished.{is_class_out}
use Rattle.nddl_objects.proofs.finished.is_line_out.Given as goal

-- one of those that are left is one of all
abbrev pub invariant-loop-class : goal.invariant-loop-class
invariant-loop-class l =
    list_any (is_class_out l.fields) (drop l.class-index l.line) ≡ list_any (is_class_out l.fields) l.line
