use Rattle.std.proofs.Common.{inl, refl}
use Rattle.session_core.proofs.editor.answer_line.Goals as goal

pub returns-then-not-is_ready : goal.returns-then-not-is_ready
returns-then-not-is_ready c = record { answer = tt; memory = inl refl; model = refl }
