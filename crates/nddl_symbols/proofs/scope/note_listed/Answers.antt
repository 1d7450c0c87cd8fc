use Rattle.std.proofs.Common.{refl}
use Rattle.nddl_symbols.proofs.Indexes.{listed_noted, unlisted_noted}
use Rattle.nddl_symbols.proofs.scope.note_listed.Goals as goal

pub returns-in_ok-note : goal.returns-in_ok-note
returns-in_ok-note c =
    listed_noted c.args.only_bodies c.args.number c.args.declared.now c.is_listed.result c.args.index.now c.note.new.self
    c.is_listed.ensures c.if-is_listed.true c.in_ok-note.ensures.noted

pub returns-else-is_listed : goal.returns-else-is_listed
returns-else-is_listed c =
    unlisted_noted c.args.only_bodies c.args.number c.args.declared.now c.is_listed.result c.args.index.now c.args.index.now
    c.is_listed.ensures c.if-is_listed.false refl
