-- What the pieces of the loop do. The public calls promise none of it.
use Rattle.std.specs.Prelude.{◌≡◌, ◌≢◌, ℕ, ◌+◌, ◌<◌, ◌≤◌, Bool, true, false, List, []}
use Rattle.std.specs.Prelude.{◌∷◌, ◌++◌, ◌⊎◌, length, ⊤, Option, Some, None, Result, Ok, Err}
use Rattle.std.specs.Io.KnownBytes.{Consumes, Appends, IsAtEnd, Keeps}
use Rattle.session_loop.specs.declared.fault.SessionFault.{SessionFault}
use Rattle.session_loop.specs.declared.fault.SessionFault.TheVariants.{ReadFault, WriteFault, LinesSpent, Memory}
use Rattle.session_loop.specs.declared.cutting.Cut.{Cut}
use Rattle.session_loop.specs.declared.cutting.Cut.TheVariants.{Feed, Last, End}
use Rattle.session_loop.specs.declared.line.Line.{Line}
use Rattle.session_loop.specs.Held.{HoldsLine}
use Rattle.session_loop.specs.declared.answering.Answered.{Answered}
use Rattle.session_loop.specs.declared.reply.Answer.{Answer}
use Rattle.session_loop.specs.declared.talk.SessionEnd.{SessionEnd}
use Rattle.session_loop.specs.declared.talk.Turn.{Turn}
use Rattle.session_loop.specs.declared.talk.Turn.TheVariants.{Goes, Stops}
use Rattle.session_loop.specs.Answering.{Answering}
use Rattle.session_loop.specs.Ends.{Ends, Scene}
use Rattle.session_loop.specs.Lines.{cost_of, most}
use Rattle.session_loop.specs.Sessions.{Standing, IsAnswered}

-- no byte is a line feed
abbrev pub IsOneLine : List ℕ → Type 0
IsOneLine [] = ⊤
IsOneLine (byte ∷ bytes) = (byte ≢ 10) × IsOneLine bytes

-- these bytes were consumed, and there are none where the input is at its end
abbrev pub Fills : {F : Type 0} → Option (List ℕ) → Option (List ℕ) → Result Bool F → List ℕ → Type 0
Fills old new (Ok true) bytes = Consumes old new bytes × (bytes ≢ [])
Fills old new (Ok false) bytes = Keeps old new × IsAtEnd new × (bytes ≡ [])
Fills old new (Err fault) bytes = Keeps old new

-- there were bytes held, or else they were consumed; there are none where the input is at its end
abbrev pub Refills : {F : Type 0} → Option (List ℕ) → Option (List ℕ) → List ℕ → List ℕ → Result Bool F → Type 0
Refills old new held_old held_new (Ok true) =
    (taken : List ℕ) × Consumes old new taken × (held_new ≡ held_old ++ taken) × (held_new ≢ [])
Refills old new held_old held_new (Ok false) = Keeps old new × IsAtEnd new × (held_old ≡ []) × (held_new ≡ [])
Refills old new held_old held_new (Err fault) = Keeps old new × (held_old ≡ [])

-- bytes without a line feed went from what is held to the line: those before the first line feed, which is dropped,
-- or all
abbrev pub MovesLine : List ℕ → List ℕ → Line → Line → Bool → Type 0
MovesLine held_old held_new line_old line_new true = (piece : List ℕ) × IsOneLine piece
    × ((whole : List ℕ) → HoldsLine line_old whole → HoldsLine line_new (whole ++ piece))
    × (held_old ≡ piece ++ 10 ∷ held_new)
MovesLine held_old held_new line_old line_new false = (piece : List ℕ) × IsOneLine piece
    × ((whole : List ℕ) → HoldsLine line_old whole → HoldsLine line_new (whole ++ piece)) × (held_old ≡ piece)
    × (held_new ≡ [])

-- while lines are cut: the bytes that the source has left, and those that are held
pub record Flow : Type 0 where
  pub left : Option (List ℕ)
  pub held : List ℕ

-- the next line was cut from what was held and what was then taken
abbrev pub CutsLine : Flow → Flow → Line → ℕ → Result Cut SessionFault → Type 0
CutsLine old new line longest (Ok Feed) = (taken whole : List ℕ) × Consumes old.left new.left taken
    × IsOneLine whole × HoldsLine line whole × (old.held ++ taken ≡ whole ++ 10 ∷ new.held)
CutsLine old new line longest (Ok Last) = (taken whole : List ℕ) × Consumes old.left new.left taken
    × IsOneLine whole × HoldsLine line whole × (old.held ++ taken ≡ whole) × (whole ≢ []) × IsAtEnd new.left
CutsLine old new line longest (Ok End) =
    (taken : List ℕ) × Consumes old.left new.left taken × (old.held ++ taken ≡ []) × IsAtEnd new.left
CutsLine old new line longest (Err ReadFault) =
    (taken : List ℕ) × Consumes old.left new.left taken × IsOneLine (old.held ++ taken)
CutsLine old new line longest (Err LinesSpent) = (taken whole : List ℕ) × Consumes old.left new.left taken
    × IsOneLine whole × (old.held ++ taken ≡ whole ++ new.held) × (longest < length whole)
CutsLine old new line longest (Err Memory) = (taken : List ℕ) × Consumes old.left new.left taken
CutsLine old new line longest (Err WriteFault) = ⊥

-- while a line is read: the bytes that were taken, and the line as far as it was cut
abbrev pub ReadsPart : Flow → Flow → Line → Type 0
ReadsPart old new line = (taken whole : List ℕ) × Consumes old.left new.left taken
    × IsOneLine whole × HoldsLine line whole × (old.held ++ taken ≡ whole ++ new.held)

-- at the end of the input the line is the last, or there is none
abbrev pub AtEndCuts : Line → Cut → Type 0
AtEndCuts line Feed = ⊥
AtEndCuts line Last = 0 < line.length
AtEndCuts line End = line.length ≡ 0

-- where one line is answered: the responder, and the bytes that its output has so far, where these are told
pub record Desk (R : Type 0) : Type 0 where
  pub responder : R
  pub written : Option (List ℕ)

-- the desk's responder with the count of the lines so far
abbrev pub counting : {R : Type 0} → Desk R → ℕ → Standing R
counting desk count = record { responder = desk.responder; count = count }

-- the line was answered so, and counts so much with those before it
abbrev pub IsAnsweredTo : {R : Type 0} → Answering R → ℕ → List ℕ → Desk R → Desk R → Answer → Type 0
IsAnsweredTo answers count line old new answer =
    IsAnswered answers (counting old count) line answer (counting new (count + cost_of line))

-- the line was answered and its reply written; or why not
abbrev pub TakesTurn : {R : Type 0} → Answering R → ℕ → List ℕ → Desk R → Desk R → Result Answered SessionFault → Type 0
TakesTurn answers count line old new (Ok done) = (answer : Answer) × IsAnsweredTo answers count line old new answer
    × Appends old.written new.written answer.reply × (answer.goes_on ≡ done.goes_on)
    × (done.count ≡ count + cost_of line)
TakesTurn answers count line old new (Err LinesSpent) =
    (most < count + cost_of line) × Keeps old.written new.written × (new.responder ≡ old.responder)
TakesTurn answers count line old new (Err WriteFault) =
    (answer : Answer) × IsAnsweredTo answers count line old new answer
    × ((front lost : List ℕ) × Appends old.written new.written front × (answer.reply ≡ front ++ lost))
TakesTurn answers count line old new (Err Memory) = Keeps old.written new.written
    × ((new.responder ≡ old.responder) ⊎ ((answer : Answer) × IsAnsweredTo answers count line old new answer))
TakesTurn answers count line old new (Err ReadFault) = ⊥

-- the bytes that are left, where they are told
abbrev pub known_rest : Option (List ℕ) → List ℕ
known_rest None = []
known_rest (Some bytes) = bytes

-- where a session stands in its loop: what the lines so far count, and the bytes that are held
pub record Stage : Type 0 where
  pub count : ℕ
  pub held : List ℕ

-- some bytes were taken after those that were held, some were written, and this is what the end says of them
abbrev pub Talks : {R : Type 0} → Answering R → Stage → Scene R → Scene R → Result SessionEnd SessionFault → Type 0
Talks {R} answers stage old new end = (taken out : List ℕ) × (last : Standing R) × Consumes old.left new.left taken
    × Appends old.written new.written out × (new.responder ≡ last.responder)
    × Ends answers (record { responder = old.responder; count = stage.count })
    (record { taken = stage.held ++ taken; left = known_rest new.left; out = out; last = last }) end

-- A turn was taken, with these bytes held then. Where the session goes on, its lines count more, and what is said of the
-- session from there on is said of it from here on; where it ends, this is what the end says.
abbrev pub TurnTalks : {R : Type 0} → Answering R → Stage → Scene R → Scene R → List ℕ → Result Turn SessionFault → Type 0
TurnTalks {R} answers stage old new held (Ok (Goes count)) = (stage.count < count) × (count ≤ most)
    × ((last : Scene R) (end : Result SessionEnd SessionFault) → Talks answers (record { count = count; held = held }) new last end
    → Talks answers stage old last end)
TurnTalks answers stage old new held (Ok (Stops end)) = Talks answers stage old new (Ok end)
TurnTalks answers stage old new held (Err fault) = Talks answers stage old new (Err fault)
