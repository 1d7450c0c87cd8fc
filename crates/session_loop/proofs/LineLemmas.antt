-- Lemmas on how a text is cut into lines.
use Rattle.std.proofs.Common.{◌≡◌, ◌≢◌, ℕ, ◌+◌, ◌-◌, ◌*◌, ◌/◌, ◌<◌, ◌≤◌, max, Bool, true, false, cond, eqb, List, [], ◌∷◌, ◌++◌, refl, ap, ◌∙◌, arith}
use Rattle.std.proofs.lemmas.Bool.{ne_eqb}
use Rattle.session_loop.specs.Lines.{onto_first, lines_of, onto_ended, ended_lines, most}
use Rattle.session_loop.specs.Pieces.{IsOneLine}

not_feed : {A : Type 0} (byte : ℕ) (x y : A) → byte ≢ 10 → cond (eqb byte 10) x y ≡ y
not_feed byte x y other = rw (ne_eqb byte 10 other)

-- a line feed ends the first line
pub lines_cut : (line rest : List ℕ) → IsOneLine line → lines_of (line ++ 10 ∷ rest) ≡ line ∷ lines_of rest
lines_cut [] rest p = refl
lines_cut (byte ∷ bytes) rest p = not_feed byte _ _ p.0 ∙ ap (onto_first byte) (lines_cut bytes rest p.1)

pub ended_cut : (line rest : List ℕ) → IsOneLine line → ended_lines (line ++ 10 ∷ rest) ≡ line ∷ ended_lines rest
ended_cut [] rest p = refl
ended_cut (byte ∷ bytes) rest p = not_feed byte _ _ p.0 ∙ ap (onto_ended byte) (ended_cut bytes rest p.1)

-- bytes without a line feed are a line that none ends
pub lines_last : (line : List ℕ) → IsOneLine line → line ≢ [] → lines_of line ≡ line ∷ []
lines_last [] p some = absurd (some refl)
lines_last (byte ∷ []) p some = not_feed byte _ _ p.0
lines_last (byte ∷ next ∷ bytes) p some = not_feed byte _ _ p.0 ∙ ap (onto_first byte) (lines_last (next ∷ bytes) p.1 (λ e. cc))

pub ended_last : (line : List ℕ) → IsOneLine line → ended_lines line ≡ []
ended_last [] p = refl
ended_last (byte ∷ bytes) p = not_feed byte _ _ p.0 ∙ ap (onto_ended byte) (ended_last bytes p.1)

onto_first_some : (byte : ℕ) (lines : List (List ℕ)) → (longer : List ℕ) × (others : List (List ℕ)) × (onto_first byte lines ≡ (byte ∷ longer) ∷ others)
onto_first_some byte [] = ([], [], refl)
onto_first_some byte (line ∷ lines) = (line, lines, refl)

-- bytes without a line feed begin the first line
pub lines_over : (line rest : List ℕ) → IsOneLine line → line ≢ []
    → (longer : List ℕ) × (others : List (List ℕ)) × (lines_of (line ++ rest) ≡ (line ++ longer) ∷ others)
lines_over [] rest p some = absurd (some refl)
lines_over (byte ∷ []) rest p some =
    let first = onto_first_some byte (lines_of rest) in (first.0, first.1, not_feed byte _ _ p.0 ∙ first.2)
lines_over (byte ∷ next ∷ bytes) rest p some =
    let first = lines_over (next ∷ bytes) rest p.1 (λ e. cc) in
    (first.0, first.1, not_feed byte _ _ p.0 ∙ ap (onto_first byte) first.2)

front_step : (test : Bool) (byte : ℕ) (all ended more : List (List ℕ)) → all ≡ ended ++ more
    → (rest : List (List ℕ)) × (cond test ([] ∷ all) (onto_first byte all) ≡ cond test ([] ∷ ended) (onto_ended byte ended) ++ rest)
front_step true byte all ended more e = (more, ap (λ l. [] ∷ l) e)
front_step false byte all [] more e = (onto_first byte all, refl)
front_step false byte all (line ∷ lines) more e = (more, ap (onto_first byte) e)

-- the lines that line feeds end come first, however the text goes on
pub lines_front : (taken rest : List ℕ) → (more : List (List ℕ)) × (lines_of (taken ++ rest) ≡ ended_lines taken ++ more)
lines_front [] rest = (lines_of rest, refl)
lines_front (byte ∷ bytes) rest =
    let first = lines_front bytes rest in
    front_step (eqb byte 10) byte (lines_of (bytes ++ rest)) (ended_lines bytes) first.0 first.1

-- a line longer than the count allows brings it above the most
pub over_count : (count n m : ℕ) → count ≤ most → (most - count) * 4096 < n → n ≤ m → most < count + max 1 ((m + 4095) / 4096)
over_count count n m within over longer = omega arith
