use Rattle.std.proofs.Common.{List, subst}
use Rattle.model_core.specs.declared.variable.VarDecl.{VarDecl}
use Rattle.db_opening.specs.Bringing.{Brings}
use Rattle.db_opening.specs.Beginning.{WantsGlobal}
use Rattle.db_opening.proofs.Declaring.{globals_begin}
use Rattle.db_opening.proofs.filling.fill_globals.Goals as goal

pub returns : goal.returns
returns c =
    let mid = c.add_tables.new.store in
    let new = c.bring_globals-filled.new.store in
    let added = c.in_ok-add_tables.ensures in
    globals_begin c.args.model.now c.args.store.now mid new c.requires.bare added.only added.fields added.each c.is_sound.ensures c.bring_globals-filled.result
    (subst (λ (globals : List VarDecl). Brings (WantsGlobal globals) mid c.bring_globals-filled.result new) c.as_slice.ensures c.bring_globals-filled.ensures)
