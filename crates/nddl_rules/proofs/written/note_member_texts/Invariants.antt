use Rattle.std.proofs.Common.{◌≡◌, drop}
use Rattle.nddl_rules.specs.Written.{with_member_texts}
use Rattle.nddl_rules.proofs.written.note_member_texts.Given as goal

-- the rules so far with those of the members that are left are all
abbrev pub invariant-loop-place : goal.invariant-loop-place
invariant-loop-place l =
    with_member_texts l.noted l.decl l.place l.class l.written.items (drop l.place l.members)
    ≡ with_member_texts l.noted l.decl 0 l.class l.initial.written.items l.members
