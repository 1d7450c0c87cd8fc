-- Lemmas on what each way to end says, one line at a time.
use Rattle.std.proofs.Common.{◌≡◌, ◌≢◌, ℕ, ◌+◌, ◌-◌, ◌*◌, ◌<◌, ◌≤◌, Bool, true, false, List, [], ◌∷◌, ◌++◌, ◌⊎◌, Option, None, Some, Ok, Err, length, refl, sym, ap, ◌∙◌, subst, inl, inr, arith}
use Rattle.std.specs.Prelude.{if◌then◌else◌}
use Rattle.std.proofs.lemmas.List.{append_assoc, append-nil, length-append}
use Rattle.std.specs.declared.result.Result.{Result}
use Rattle.std.specs.Io.KnownBytes.{Appends, IsAtEnd}
use Rattle.std.proofs.KnownBytes.{Consumes-trans, Appends-trans, Appends-nil, Appends-kept}
use Rattle.session_loop.specs.declared.answering.Answered.{Answered}
use Rattle.session_loop.specs.declared.cutting.Cut.TheVariants.{Feed, Last, End}
use Rattle.session_loop.specs.declared.fault.SessionFault.{SessionFault}
use Rattle.session_loop.specs.declared.fault.SessionFault.TheVariants.{ReadFault, WriteFault, LinesSpent, Memory}
use Rattle.session_loop.specs.declared.line.Line.{Line}
use Rattle.session_loop.specs.declared.reply.Answer.{Answer}
use Rattle.session_loop.specs.declared.talk.SessionEnd.{SessionEnd}
use Rattle.session_loop.specs.declared.talk.SessionEnd.TheVariants.{OfInput, ByAnswer}
use Rattle.session_loop.specs.Answering.{Answering}
use Rattle.session_loop.specs.Ends.{StopsInReply, Ends, Scene}
use Rattle.session_loop.specs.Held.{HoldsLine}
use Rattle.session_loop.specs.Lines.{lines_of, ended_lines, cost_of, most}
use Rattle.session_loop.specs.Pieces.{Flow, IsOneLine, CutsLine, Desk, counting, IsAnsweredTo, TakesTurn, known_rest, Stage, Talks}
use Rattle.session_loop.specs.Sessions.{Standing, Course, AtEnd, AtAnswer, AtLimit, stopped, preceded, IsAnswered, Session}
use Rattle.session_loop.proofs.LineLemmas.{lines_cut, ended_cut, lines_last, ended_last, lines_over, over_count}

nothing_left : (left : Option (List ℕ)) → IsAtEnd left → known_rest left ≡ []
nothing_left None e = refl
nothing_left (Some bytes) e = e

some_longer : (n : ℕ) (line : List ℕ) → n < length line → line ≢ []
some_longer n line longer e = omega (arith, ap length e)

-- what a desk has of a scene
abbrev pub desk_of : {R : Type 0} → Scene R → Desk R
desk_of scene = record { responder = scene.responder; written = scene.written }

-- the input of a scene, with the bytes held
abbrev pub flow_of : {R : Type 0} → Stage → Scene R → Flow
flow_of stage scene = record { left = scene.left; held = stage.held }

module _ {R : Type 0} (answers : Answering R) where
  -- no line could be cut
  pub cut_fault : (stage : Stage) (old : Scene R) (after : Flow) (line : Line) (fault : SessionFault) → stage.count ≤ most
      → CutsLine (flow_of stage old) after line ((most - stage.count) * 4096) (Err fault)
      → Talks answers stage old (record { responder = old.responder; left = after.left; written = old.written }) (Err fault)
  cut_fault stage old after line ReadFault within c =
      let start : Standing R = record { responder = old.responder; count = stage.count } in (
        c.0,
        [],
        start,
        c.1,
        Appends-nil old.written,
        refl,
        subst (λ lines. Session answers start lines (stopped start AtEnd)) (sym (ended_last (stage.held ++ c.0) c.2)) refl,
      )
  cut_fault stage old after line LinesSpent within c =
      let start : Standing R = record { responder = old.responder; count = stage.count } in
      let rest = known_rest after.left in
      let over = lines_over c.1 (after.held ++ rest) c.3 (some_longer _ c.1 c.5) in
      let same : (stage.held ++ c.0) ++ rest ≡ c.1 ++ (after.held ++ rest) = ap (λ l. l ++ rest) c.4 ∙ append_assoc c.1 after.held rest in
      let longer : length c.1 ≤ length (c.1 ++ over.0) = omega (arith, length-append c.1 over.0) in (
        c.0,
        [],
        start,
        c.2,
        Appends-nil old.written,
        refl,
        subst (λ lines. Session answers start lines (stopped start AtLimit)) (sym (ap lines_of same ∙ over.2))
            (inl (over_count stage.count (length c.1) (length (c.1 ++ over.0)) within c.5 longer, refl)),
      )
  cut_fault stage old after line Memory within c = (
    c.0,
    [],
    record { responder = old.responder; count = stage.count },
    c.1,
    Appends-nil old.written,
    refl,
    inl (record { answered = []; later = lines_of ((stage.held ++ c.0) ++ known_rest after.left); split = refl; session = refl }),
  )
  cut_fault stage old after line WriteFault within c = absurd c

  -- the input ended, and there is no line
  pub cut_end : (stage : Stage) (old : Scene R) (after : Flow) (line : Line) (longest : ℕ) → CutsLine (flow_of stage old) after line longest (Ok End)
      → Talks answers stage old (record { responder = old.responder; left = after.left; written = old.written }) (Ok OfInput)
  cut_end stage old after line longest c =
      let start : Standing R = record { responder = old.responder; count = stage.count } in (
        c.0,
        [],
        start,
        c.1,
        Appends-nil old.written,
        refl,
        (nothing_left after.left c.3, subst (λ bytes. Session answers start (lines_of bytes) (stopped start AtEnd)) (sym c.2) refl),
      )

  -- what a desk leaves where the first of these lines had a fault
  abbrev FaultAt : ℕ → List ℕ → List ℕ → Desk R → Desk R → SessionFault → Type 0
  FaultAt count text rest old new fault = (out : List ℕ) × (last : Standing R) × Appends old.written new.written out × (new.responder ≡ last.responder)
      × Ends answers (counting old count) (record { taken = text; left = rest; out = out; last = last }) (Err fault)

  -- the first line wasn't answered, or its reply not written whole
  line_fault : (count : ℕ) (text rest line : List ℕ) (others : List (List ℕ)) (old new : Desk R) (fault : SessionFault)
      → lines_of (text ++ rest) ≡ line ∷ others → TakesTurn answers count line old new (Err fault) → FaultAt count text rest old new fault
  line_fault count text rest line others old new ReadFault first t = absurd t
  line_fault count text rest line others old new LinesSpent first t =
      let start = counting old count in (
        [],
        start,
        Appends-kept old.written old.written new.written [] (Appends-nil old.written) t.1,
        t.2,
        subst (λ lines. Session answers start lines (stopped start AtLimit)) (sym first) (inl (t.0, refl)),
      )
  line_fault count text rest line others old new WriteFault first t = (
    t.2.0,
    counting new (count + cost_of line),
    t.2.2,
    refl,
    record {
      answered = [];
      line = line;
      later = others;
      split = first;
      before = [];
      between = counting old count;
      session = refl;
      answer = t.0;
      is_answer = t.1;
      written = t.2.0;
      lost = t.2.1;
      cut = t.2.3;
      out = refl;
    },
  )
  line_fault count text rest line others old new Memory first t = unanswered t.1
    where
      kept : Appends old.written new.written []
      kept = Appends-kept old.written old.written new.written [] (Appends-nil old.written) t.0

      unanswered : (new.responder ≡ old.responder) ⊎ ((answer : Answer) × IsAnsweredTo answers count line old new answer) → FaultAt count text rest old new Memory
      unanswered (inl same) = (
        [],
        counting old count,
        kept,
        same,
        inl (record { answered = []; later = lines_of (text ++ rest); split = refl; session = refl }),
      )
      unanswered (inr is) = (
        [],
        counting new (count + cost_of line),
        kept,
        refl,
        inr (
          record {
            answered = [];
            line = line;
            later = others;
            split = first;
            before = [];
            between = counting old count;
            session = refl;
            answer = is.0;
            is_answer = is.1;
            written = [];
            lost = is.0.reply;
            cut = refl;
            out = refl;
          },
          refl,
        ),
      )

  -- the same after a cut at a line feed, or at the end of the input
  pub feed_fault : (stage : Stage) (old new : Scene R) (held : List ℕ) (line : Line) (longest : ℕ) (fault : SessionFault)
      → CutsLine (flow_of stage old) (record { left = new.left; held = held }) line longest (Ok Feed)
      → ((whole : List ℕ) → HoldsLine line whole → TakesTurn answers stage.count whole (desk_of old) (desk_of new) (Err fault))
      → Talks answers stage old new (Err fault)
  feed_fault stage old new held line longest fault c t =
      let rest = known_rest new.left in
      let first : lines_of ((stage.held ++ c.0) ++ rest) ≡ c.1 ∷ lines_of (held ++ rest) =
      ap (λ l. lines_of (l ++ rest)) c.5 ∙ ap lines_of (append_assoc c.1 (10 ∷ held) rest) ∙ lines_cut c.1 (held ++ rest) c.3 in
      let e = line_fault stage.count (stage.held ++ c.0) rest c.1 (lines_of (held ++ rest)) (desk_of old) (desk_of new) fault first (t c.1 c.4) in
      (c.0, e.0, e.1, c.2, e.2, e.3, e.4)

  last_is : (stage : Stage) (old new : Scene R) (held : List ℕ) (line : Line) (longest : ℕ)
      → (c : CutsLine (flow_of stage old) (record { left = new.left; held = held }) line longest (Ok Last)) → lines_of (stage.held ++ c.0) ≡ c.1 ∷ []
  last_is stage old new held line longest c = ap lines_of c.5 ∙ lines_last c.1 c.3 c.6

  last_of : (stage : Stage) (old new : Scene R) (held : List ℕ) (line : Line) (longest : ℕ)
      → (c : CutsLine (flow_of stage old) (record { left = new.left; held = held }) line longest (Ok Last))
      → lines_of ((stage.held ++ c.0) ++ known_rest new.left) ≡ c.1 ∷ []
  last_of stage old new held line longest c =
      ap lines_of (ap (λ l. (stage.held ++ c.0) ++ l) (nothing_left new.left c.7) ∙ append-nil (stage.held ++ c.0)) ∙ last_is stage old new held line longest c

  pub last_fault : (stage : Stage) (old new : Scene R) (held : List ℕ) (line : Line) (longest : ℕ) (fault : SessionFault)
      → CutsLine (flow_of stage old) (record { left = new.left; held = held }) line longest (Ok Last)
      → ((whole : List ℕ) → HoldsLine line whole → TakesTurn answers stage.count whole (desk_of old) (desk_of new) (Err fault))
      → Talks answers stage old new (Err fault)
  last_fault stage old new held line longest fault c t =
      let e = line_fault stage.count (stage.held ++ c.0) (known_rest new.left) c.1 [] (desk_of old) (desk_of new) fault (last_of stage old new held line longest c) (t c.1 c.4) in
      (c.0, e.0, e.1, c.2, e.2, e.3, e.4)

  -- an answer that ends the session
  session_ended : (start : Standing R) (line : List ℕ) (lines : List (List ℕ)) (answer : Answer) (next : Standing R) → IsAnswered answers start line answer next
      → answer.goes_on ≡ false → Session answers start (line ∷ lines) (record { out = answer.reply; ending = AtAnswer; last = next })
  session_ended start line lines answer next is ends = inr (answer, next, is, inl (ends, refl))

  -- an answer before the session of the lines behind it
  session_more : (start : Standing R) (line : List ℕ) (lines : List (List ℕ)) (answer : Answer) (next : Standing R) (rest : Course R) → IsAnswered answers start line answer next
      → answer.goes_on ≡ true → Session answers next lines rest → Session answers start (line ∷ lines) (preceded answer.reply rest)
  session_more start line lines answer next rest is goes_on s = inr (answer, next, is, inr (goes_on, (rest, s, refl)))

  -- an answer to the last line
  session_last : (start : Standing R) (line : List ℕ) (answer : Answer) (next : Standing R) → IsAnswered answers start line answer next
      → answer.goes_on ≡ true → Session answers start (line ∷ []) (record { out = answer.reply; ending = AtEnd; last = next })
  session_last start line answer next is goes_on =
      subst (λ out. Session answers start (line ∷ []) (record { out = out; ending = AtEnd; last = next })) (append-nil answer.reply)
      (session_more start line [] answer next (stopped next AtEnd) is goes_on refl)

  -- a line was answered, and its answer ends the session
  pub feed_end : (stage : Stage) (old new : Scene R) (held : List ℕ) (line : Line) (longest : ℕ) (done : Answered)
      → CutsLine (flow_of stage old) (record { left = new.left; held = held }) line longest (Ok Feed)
      → ((whole : List ℕ) → HoldsLine line whole → TakesTurn answers stage.count whole (desk_of old) (desk_of new) (Ok done))
      → done.goes_on ≡ false → Talks answers stage old new (Ok ByAnswer)
  feed_end stage old new held line longest done c t ends =
      let rest = known_rest new.left in
      let said = t c.1 c.4 in
      let start = counting (desk_of old) stage.count in
      let next = counting (desk_of new) (stage.count + cost_of c.1) in
      let first : lines_of ((stage.held ++ c.0) ++ rest) ≡ c.1 ∷ lines_of (held ++ rest) =
      ap (λ l. lines_of (l ++ rest)) c.5 ∙ ap lines_of (append_assoc c.1 (10 ∷ held) rest) ∙ lines_cut c.1 (held ++ rest) c.3 in (
        c.0,
        said.0.reply,
        next,
        c.2,
        said.2,
        refl,
        subst (λ lines. Session answers start lines (record { out = said.0.reply; ending = AtAnswer; last = next })) (sym first)
            (session_ended start c.1 (lines_of (held ++ rest)) said.0 next said.1 (said.3 ∙ ends)),
      )

  -- the last line was answered
  pub last_done : (stage : Stage) (old new : Scene R) (held : List ℕ) (line : Line) (longest : ℕ) (done : Answered)
      → CutsLine (flow_of stage old) (record { left = new.left; held = held }) line longest (Ok Last)
      → ((whole : List ℕ) → HoldsLine line whole → TakesTurn answers stage.count whole (desk_of old) (desk_of new) (Ok done))
      → (goes_on : Bool) → done.goes_on ≡ goes_on → Talks answers stage old new (Ok (if goes_on then OfInput else ByAnswer))
  last_done stage old new held line longest done c t true e =
      let said = t c.1 c.4 in
      let start = counting (desk_of old) stage.count in
      let next = counting (desk_of new) (stage.count + cost_of c.1) in (
        c.0,
        said.0.reply,
        next,
        c.2,
        said.2,
        refl,
        (
          nothing_left new.left c.7,
          subst (λ lines. Session answers start lines (record { out = said.0.reply; ending = AtEnd; last = next })) (sym (last_is stage old new held line longest c))
              (session_last start c.1 said.0 next said.1 (said.3 ∙ e)),
        ),
      )
  last_done stage old new held line longest done c t false e =
      let said = t c.1 c.4 in
      let start = counting (desk_of old) stage.count in
      let next = counting (desk_of new) (stage.count + cost_of c.1) in (
        c.0,
        said.0.reply,
        next,
        c.2,
        said.2,
        refl,
        subst (λ lines. Session answers start lines (record { out = said.0.reply; ending = AtAnswer; last = next })) (sym (last_of stage old new held line longest c))
            (session_ended start c.1 [] said.0 next said.1 (said.3 ∙ e)),
      )

  module _ (start next : Standing R) (line : List ℕ) (answer : Answer) (is : IsAnswered answers start line answer next) (goes_on : answer.goes_on ≡ true) (one : IsOneLine line) where
    first_of : (text rest : List ℕ) → lines_of ((line ++ 10 ∷ text) ++ rest) ≡ line ∷ lines_of (text ++ rest)
    first_of text rest = ap lines_of (append_assoc line (10 ∷ text) rest) ∙ lines_cut line (text ++ rest) one

    stops_more : (text rest out : List ℕ) (last : Standing R) → StopsInReply answers next (record { taken = text; left = rest; out = out; last = last })
        → StopsInReply answers start (record { taken = line ++ 10 ∷ text; left = rest; out = answer.reply ++ out; last = last })
    stops_more text rest out last stops = record {
      answered = line ∷ stops.answered;
      line = stops.line;
      later = stops.later;
      split = first_of text rest ∙ ap (λ lines. line ∷ lines) stops.split;
      before = answer.reply ++ stops.before;
      between = stops.between;
      session = session_more start line stops.answered answer next _ is goes_on stops.session;
      answer = stops.answer;
      is_answer = stops.is_answer;
      written = stops.written;
      lost = stops.lost;
      cut = stops.cut;
      out = ap (λ l. answer.reply ++ l) stops.out ∙ sym (append_assoc answer.reply stops.before stops.written);
    }

    more_of : (lines : List (List ℕ)) (text : List ℕ) (course : Course R) → lines_of text ≡ line ∷ lines → Session answers next lines course
        → Session answers start (lines_of text) (preceded answer.reply course)
    more_of lines text course first s =
        subst (λ all. Session answers start all (preceded answer.reply course)) (sym first) (session_more start line lines answer next course is goes_on s)

    -- what is said from the line after on is said from the line on
    ends_more : (text rest out : List ℕ) (last : Standing R) (end : Result SessionEnd SessionFault)
        → Ends answers next (record { taken = text; left = rest; out = out; last = last }) end
        → Ends answers start (record { taken = line ++ 10 ∷ text; left = rest; out = answer.reply ++ out; last = last }) end
    unfolding stops_more
    ends_more text rest out last (Ok OfInput) e = (e.0, more_of (lines_of text) (line ++ 10 ∷ text) _ (lines_cut line text one) e.1)
    ends_more text rest out last (Ok ByAnswer) e = more_of (lines_of (text ++ rest)) ((line ++ 10 ∷ text) ++ rest) _ (first_of text rest) e
    ends_more text rest out last (Err LinesSpent) e = more_of (lines_of (text ++ rest)) ((line ++ 10 ∷ text) ++ rest) _ (first_of text rest) e
    ends_more text rest out last (Err ReadFault) e =
        subst (λ all. Session answers start all (record { out = answer.reply ++ out; ending = AtEnd; last = last })) (sym (ended_cut line text one))
        (session_more start line (ended_lines text) answer next _ is goes_on e)
    ends_more text rest out last (Err WriteFault) e = stops_more text rest out last e
    ends_more text rest out last (Err Memory) (inl e) =
        inl (record {
          answered = line ∷ e.answered;
          later = e.later;
          split = first_of text rest ∙ ap (λ lines. line ∷ lines) e.split;
          session = session_more start line e.answered answer next _ is goes_on e.session;
        })
    ends_more text rest out last (Err Memory) (inr e) = inr (stops_more text rest out last e.0, e.1)

  -- The whole induction: a line was answered, and the session goes on.
  pub feed_done : (stage : Stage) (old between new : Scene R) (held : List ℕ) (line : Line) (longest : ℕ) (done : Answered) (end : Result SessionEnd SessionFault)
      → CutsLine (flow_of stage old) (record { left = between.left; held = held }) line longest (Ok Feed)
      → ((whole : List ℕ) → HoldsLine line whole → TakesTurn answers stage.count whole (desk_of old) (desk_of between) (Ok done))
      → done.goes_on ≡ true → Talks answers (record { count = done.count; held = held }) between new end → Talks answers stage old new end
  feed_done stage old between new held line longest done end cut t goes_on after =
      let said = t cut.1 cut.4 in
      let rest = known_rest new.left in
      let start = counting (desk_of old) stage.count in
      let next = counting (desk_of between) (stage.count + cost_of cut.1) in
      let text : stage.held ++ (cut.0 ++ after.0) ≡ cut.1 ++ 10 ∷ (held ++ after.0) =
      sym (append_assoc stage.held cut.0 after.0) ∙ ap (λ l. l ++ after.0) cut.5 ∙ append_assoc cut.1 (10 ∷ held) after.0 in
      let here = subst (λ n. Ends answers (counting (desk_of between) n) (record { taken = held ++ after.0; left = rest; out = after.1; last = after.2 }) end) said.4 after.6 in (
        cut.0 ++ after.0,
        said.0.reply ++ after.1,
        after.2,
        Consumes-trans old.left between.left new.left cut.0 after.0 cut.2 after.3,
        Appends-trans old.written between.written new.written said.0.reply after.1 said.2 after.4,
        after.5,
        subst (λ l. Ends answers start (record { taken = l; left = rest; out = said.0.reply ++ after.1; last = after.2 }) end) (sym text)
            (ends_more start next cut.1 said.0 said.1 (said.3 ∙ goes_on) cut.3 (held ++ after.0) rest after.1 after.2 end here),
      )

  one_counted : (line : List ℕ) → 0 < cost_of line
  one_counted line = omega arith

  -- a line that was answered brings the count up, and not above the most
  pub next_count : (stage : Stage) (old new : Desk R) (flow after : Flow) (line : Line) (longest : ℕ) (done : Answered) → CutsLine flow after line longest (Ok Feed)
      → ((whole : List ℕ) → HoldsLine line whole → TakesTurn answers stage.count whole old new (Ok done)) → (done.count ≤ most) × (stage.count < done.count)
  next_count stage old new flow after line longest done cut t =
      let said = t cut.1 cut.4 in
      (omega (arith, said.4, said.1.within), omega (arith, said.4, one_counted cut.1))
