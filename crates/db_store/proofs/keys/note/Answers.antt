use Rattle.std.proofs.Common.{ℕ, List, [], ◌∷◌, ◌++◌, length, subst, sym, rules}
use Rattle.std.specs.Prelude.{Contains}
use Rattle.db_store.specs.Findable.{AreFindable, IsExpectedAt}
use Rattle.db_store.proofs.Lists.{contains_at}
use Rattle.db_store.proofs.Found.{noted_else, expected_more, listed_more, listed_last, on_err}
use Rattle.db_store.proofs.keys.note.Goals as goal

pub returns-in_err-note_start-clause-err : goal.returns-in_err-note_start-clause-err
returns-in_err-note_start-clause-err c =
    on_err c.from_residual-in_err-note_start.result (AreFindable c.note_start.new.starts.items c.args.all.now c.args.others.now.entries)
    (noted_else c.args.starts.now.items c.note_start.new.starts.items c.args.all.now c.args.others.now.entries c.args.key c.requires.fresh c.note_start.ensures c.requires.findable)

pub returns-in_err-insert-clause-err : goal.returns-in_err-insert-clause-err
returns-in_err-insert-clause-err c =
    let noted = noted_else c.args.starts.now.items c.note_start.new.starts.items c.args.all.now c.args.others.now.entries c.args.key c.requires.fresh c.note_start.ensures c.requires.findable in
    on_err c.from_residual-in_err-insert.result (AreFindable c.note_start.new.starts.items c.args.all.now c.insert.new.self.entries)
    (subst (AreFindable c.note_start.new.starts.items c.args.all.now) (sym c.in_err-insert.ensures.err) noted)

pub returns-in_ok-insert-clause-ok : goal.returns-in_ok-insert-clause-ok
returns-in_ok-insert-clause-ok c =
    let noted = noted_else c.args.starts.now.items c.note_start.new.starts.items c.args.all.now c.args.others.now.entries c.args.key c.requires.fresh c.note_start.ensures c.requires.findable in
    let fresh : (other : ℕ) → Contains c.args.others.now.entries (c.args.key, other) → ⊥ = λ other listed. c.requires.fresh (contains_at c.args.all.now other c.args.key (c.requires.findable.listed other c.args.key listed)) in
    listed_more c.note_start.new.starts.items c.args.all.now c.args.others.now.entries c.args.key noted c.insert.new.self.entries c.in_ok-number.number c.in_ok-number.ensures.kept
    (listed_last _ c.requires.told c.args.key c.args.others.now c.insert.new.self.entries c.in_ok-number.number fresh c.in_ok-insert.ensures.entries)

pub returns-else-not-is_expected-clause-ok : goal.returns-else-not-is_expected-clause-ok
returns-else-not-is_expected-clause-ok c =
    let noted = noted_else c.args.starts.now.items c.note_start.new.starts.items c.args.all.now c.args.others.now.entries c.args.key c.requires.fresh c.note_start.ensures c.requires.findable in
    let here = subst (λ (starts : List ℕ). IsExpectedAt starts (c.args.all.now ++ c.args.key ∷ []) c.args.key (length c.args.all.now)) c.as_slice.ensures.value (c.is_expected.ensures (search rules)) in
    expected_more c.note_start.new.starts.items c.args.all.now c.args.others.now.entries c.args.key noted here
