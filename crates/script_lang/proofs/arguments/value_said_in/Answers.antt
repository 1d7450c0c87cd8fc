use Rattle.std.proofs.Common.{Option, pos, refl, sym, subst, inl}
use Rattle.model_core.specs.declared.variable.ValueKind.{ValueKind}
use Rattle.script_lang.specs.Naming.{SaysValueIn}
use Rattle.script_lang.proofs.arguments.value_said_in.Goals as goal

pub returns-in-None : goal.returns-in-None
returns-in-None c =
    (pos 0, (subst (λ (kind : Option ValueKind). SaysValueIn c.args.model.now kind (pos 0) c.args.word.now) (sym c.in-None.is) refl, inl refl))
