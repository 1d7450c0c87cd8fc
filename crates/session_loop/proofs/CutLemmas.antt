-- Lemmas on a line while it is read.
use Rattle.std.proofs.Common.{◌≡◌, ◌≢◌, ℕ, ◌<◌, true, false, List, [], ◌∷◌, ◌++◌, Option, Ok, Err, length, refl, sym, ap, ◌∙◌, subst, arith}
use Rattle.std.proofs.lemmas.List.{append_assoc, length-append, append-nil}
use Rattle.std.specs.Io.KnownBytes.{Consumes}
use Rattle.std.proofs.KnownBytes.{Consumes-trans}
use Rattle.session_loop.specs.declared.fault.SessionFault.TheVariants.{LinesSpent}
use Rattle.session_loop.specs.declared.cutting.Cut.TheVariants.{Feed}
use Rattle.session_loop.specs.declared.line.Line.{Line}
use Rattle.session_loop.specs.Pieces.{MovesLine, CutsLine, ReadsPart}
use Rattle.session_loop.proofs.Streams.{IsOneLine-append}

-- more bytes were taken
pub ReadsPart-refill : (a b c : Option (List ℕ)) (held_old held held_new : List ℕ) (line : Line) → ReadsPart (record { left = a; held = held_old }) (record { left = b; held = held }) line
    → ((taken : List ℕ) × Consumes b c taken × (held_new ≡ held ++ taken) × (held_new ≢ [])) → ReadsPart (record { left = a; held = held_old }) (record { left = c; held = held_new }) line
ReadsPart-refill a b c held_old held held_new line r f = (
  r.0 ++ f.0,
  r.1,
  Consumes-trans a b c r.0 f.0 r.2 f.1,
  r.3,
  r.4,
  sym (append_assoc held_old r.0 f.0) ∙ ap (λ l. l ++ f.0) r.5 ∙ append_assoc r.1 held f.0 ∙ ap (λ l. r.1 ++ l) (sym f.2),
)

-- the bytes held were moved to the line, which a line feed ended
pub ReadsPart-feed : (a b : Option (List ℕ)) (held_old held held_new : List ℕ) (line line' : Line) (longest : ℕ) → ReadsPart (record { left = a; held = held_old }) (record { left = b; held = held }) line
    → MovesLine held held_new line line' true → CutsLine (record { left = a; held = held_old }) (record { left = b; held = held_new }) line' longest (Ok Feed)
ReadsPart-feed a b held_old held held_new line line' longest r m = (
  r.0,
  r.1 ++ m.0,
  r.2,
  IsOneLine-append r.1 m.0 r.3 m.1,
  m.2 r.1 r.4,
  r.5 ∙ ap (λ l. r.1 ++ l) m.3 ∙ sym (append_assoc r.1 m.0 (10 ∷ held_new)),
)

-- the bytes held were moved to the line, which goes on
pub ReadsPart-more : (a b : Option (List ℕ)) (held_old held held_new : List ℕ) (line line' : Line) → ReadsPart (record { left = a; held = held_old }) (record { left = b; held = held }) line
    → MovesLine held held_new line line' false → ReadsPart (record { left = a; held = held_old }) (record { left = b; held = held_new }) line'
ReadsPart-more a b held_old held held_new line line' r m = (
  r.0,
  r.1 ++ m.0,
  r.2,
  IsOneLine-append r.1 m.0 r.3 m.1,
  m.2 r.1 r.4,
  r.5 ∙ ap (λ l. r.1 ++ l) m.3 ∙ sym (append-nil (r.1 ++ m.0)) ∙ ap (λ l. (r.1 ++ m.0) ++ l) (sym m.4),
)

-- a line that is longer than the longest
pub ReadsPart-over : (a b : Option (List ℕ)) (held_old held : List ℕ) (line : Line) (longest : ℕ) → ReadsPart (record { left = a; held = held_old }) (record { left = b; held = held }) line
    → longest < line.length → CutsLine (record { left = a; held = held_old }) (record { left = b; held = held }) line longest (Err LinesSpent)
ReadsPart-over a b held_old held line longest r over = (r.0, r.1, r.2, r.3, r.5, subst (λ n. longest < n) r.4.1 over)

-- a line grows by the bytes that there are
pub ReadsPart-grows : (a b : Option (List ℕ)) (held_old held held_new : List ℕ) (line line' : Line) → ReadsPart (record { left = a; held = held_old }) (record { left = b; held = held }) line
    → MovesLine held held_new line line' false → held ≢ [] → line.length < line'.length
ReadsPart-grows a b held_old held held_new line line' r m some =
    let grown = (m.2 r.1 r.4).1 in
    omega (arith, grown, r.4.1, length-append r.1 m.0, positive m.0 (λ e. some (m.3 ∙ e)))
  where
    positive : (xs : List ℕ) → (xs ≡ [] → ⊥) → 0 < length xs
    positive [] filled = absurd (filled refl)
    positive (x ∷ xs) filled = omega arith
