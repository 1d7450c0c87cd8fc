-- What a responder answers to a line.
use Rattle.std.specs.Prelude.{◌≡◌, ℕ, List, ◌⊎◌}
use Rattle.session_loop.specs.declared.reply.Answer.{Answer}

-- what a responder may answer to a line, and the responder that it then is
abbrev pub Answering : Type 0 → Type 1
Answering R = R → List ℕ → Answer → R → Type 0

-- a line had no answer: the responder is as it was, or as it is after an answer, which is lost
abbrev pub LeavesUnanswered : {R : Type 0} → Answering R → R → List ℕ → R → Type 0
LeavesUnanswered answers old line new = (new ≡ old) ⊎ ((answer : Answer) × answers old line answer new)
