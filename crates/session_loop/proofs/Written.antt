-- A text that is written line by line.
use Rattle.std.proofs.Common.{◌≡◌, ℕ, List, ◌++◌, Option, sym, ap, ◌∙◌}
use Rattle.std.proofs.lemmas.List.{append_assoc}
use Rattle.std.specs.Io.KnownBytes.{Appends}
use Rattle.std.proofs.KnownBytes.{Appends-trans}

-- what was written so far, and what is left of the text
abbrev pub Wrote : Option (List ℕ) → Option (List ℕ) → List ℕ → List ℕ → Type 0
Wrote old new rest text = (done : List ℕ) × Appends old new done × (text ≡ done ++ rest)

-- one line more
pub wrote_line : (a b c : Option (List ℕ)) (rest line left text : List ℕ) → Wrote a b rest text → rest ≡ line ++ left → Appends b c line → Wrote a c left text
wrote_line a b c rest line left text wrote split line_written =
    (wrote.0 ++ line, Appends-trans a b c wrote.0 line wrote.1 line_written, wrote.2 ∙ ap (λ l. wrote.0 ++ l) split ∙ sym (append_assoc wrote.0 line left))

-- a line whose write failed leaves a front of the text
pub wrote_front : (a b c : Option (List ℕ)) (rest line left text front lost : List ℕ) → Wrote a b rest text → rest ≡ line ++ left → Appends b c front → line ≡ front ++ lost
    → (written missing : List ℕ) × Appends a c written × (text ≡ written ++ missing)
wrote_front a b c rest line left text front lost wrote split front_written cut = (
  wrote.0 ++ front,
  lost ++ left,
  Appends-trans a b c wrote.0 front wrote.1 front_written,
  wrote.2 ∙ ap (λ l. wrote.0 ++ l) (split ∙ ap (λ l. l ++ left) cut ∙ append_assoc front lost left) ∙ sym (append_assoc wrote.0 front (lost ++ left)),
)
