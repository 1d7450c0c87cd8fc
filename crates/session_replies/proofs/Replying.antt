-- What was written from nothing is the reply.
use Rattle.std.proofs.Common.{◌≡◌, ℕ, List, [], ◌++◌, ap, ◌∙◌}
use Rattle.std.specs.List.{AllZip}
use Rattle.session_replies.specs.Lines.{with_line_feed, counted_lines}
use Rattle.session_replies.specs.Written.{WritesLine, WritesCounted}

pub line_reply : (IsLine : List ℕ → Type 0) (start new reply : List ℕ) → start ≡ [] → reply ≡ new → WritesLine IsLine start new → (line : List ℕ) × (IsLine line × (reply ≡ with_line_feed line))
line_reply IsLine start new reply none same (line, (is, put)) = (line, (is, same ∙ (put ∙ ap (λ (bytes : List ℕ). bytes ++ with_line_feed line) none)))

pub counted_reply : {X : Type 0} (IsLine : X → List ℕ → Type 0) (items : List X) (word start new reply : List ℕ) → start ≡ [] → reply ≡ new → WritesCounted word IsLine items start new
    → (lines : List (List ℕ)) × (AllZip IsLine items lines × (reply ≡ counted_lines word lines))
counted_reply IsLine items word start new reply none same (lines, (zip, put)) = (lines, (zip, same ∙ (put ∙ ap (λ (bytes : List ℕ). bytes ++ counted_lines word lines) none)))
