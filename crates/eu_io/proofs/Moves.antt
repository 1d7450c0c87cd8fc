-- What a front that was copied from the bytes of a source to a buffer leaves of them.
use Rattle.std.proofs.Common.{◌≡◌, ℕ, ◌+◌, ◌<◌, ◌≤◌, min, List, ◌++◌, length, take, drop, Some, Ok, ◌∙◌, ap, sym, arith, length-append, length-drop, take-append-drop}
use Rattle.std.proofs.lemmas.List.{drop-drop, length-take-le, nil_from_length}
use Rattle.std.proofs.Math.Seq.{take-append_seam}
use Rattle.std.specs.Io.KnownBytes.{ReadConsumes}

-- the front of what begins with that front
take-front : (front rest : List ℕ) (count : ℕ) → length front ≡ count → take count (front ++ rest) ≡ front
take-front front rest count e = rw (← e) (take-append_seam front rest)

-- a buffer that got the first `count` bytes of what is left has consumed them
pub copied-consumes : (all from old new : List ℕ) (given piece count : ℕ) → from ≡ drop given all → 0 < piece
    → count ≡ min piece (min (length from) (length old)) → new ≡ take count from ++ drop count old
    → ReadConsumes {E = ℕ} (Some (drop given all)) (Some (drop (given + count) all)) (Ok count) new
copied-consumes all from old new given piece count is some counted copied =
    let within : count ≤ length from = omega arith in
    let fits : count ≤ length old = omega arith in
    let long : length new ≡ length old = ap length copied ∙ length-append (take count from) (drop count old) ∙ rw (length-take-le count from within, length-drop count old) (omega arith) in
    let taken : take count new ≡ take count from = ap (take count) copied ∙ take-front (take count from) (drop count old) count (length-take-le count from within) in
    let after : drop (given + count) all ≡ drop count from = sym (drop-drop count given all) ∙ ap (drop count) (sym is) in (
      sym is ∙ sym (take-append-drop count from) ∙ ap (λ front. front ++ drop count from) (sym taken) ∙ ap (λ rest. take count new ++ rest) (sym after),
      λ none room. nil_from_length (drop (given + count) all) (ap length after ∙ length-drop count from ∙ omega arith),
    )
