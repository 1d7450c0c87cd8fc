-- What a session says where its input is told.
use Rattle.std.proofs.Common.{◌≡◌, ℕ, List, [], Option, None, Some, refl, sym, ◌∙◌}
use Rattle.std.specs.declared.result.Result.{Result}
use Rattle.session_loop.specs.declared.fault.SessionFault.{SessionFault}
use Rattle.session_loop.specs.declared.talk.SessionEnd.{SessionEnd}
use Rattle.session_loop.specs.Answering.{Answering}
use Rattle.session_loop.specs.Ends.{SessionTells}
use Rattle.session_loop.specs.Pieces.{Talks}

pub tells_from_talks : {R : Type 0} (answers : Answering R) (old new : R) (a b w v : Option (List ℕ)) (end : Result SessionEnd SessionFault)
    → Talks answers (record { count = 0; held = [] }) (record { responder = old; left = a; written = w }) (record { responder = new; left = b; written = v }) end
    → SessionTells answers (record { responder = old; left = a; written = w }) (record { responder = new; left = b; written = v }) end
tells_from_talks answers old new None b w v end t = λ input is. absurd (let no : ⊥ = cc in no)
tells_from_talks answers old new (Some bytes) None w v end t = λ input is. absurd t.3
tells_from_talks answers old new (Some bytes) (Some rest) w v end t = λ input is.
    let same : bytes ≡ input = cc in
    (record { taken = t.0; left = rest; out = t.1; last = t.2 }, sym same ∙ t.3, refl, t.4, t.5, t.6)
