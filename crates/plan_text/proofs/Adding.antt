-- What is written is read again, word by word.
use Rattle.std.proofs.Common.{◌≡◌, ℕ, true, List, [], ◌∷◌, ◌++◌, refl, sym, ◌∙◌, ap, subst, append_assoc}
use Rattle.std.proofs.lemmas.List.{append-nil}
use Rattle.plan_text.specs.declared.fault.Wrong.{Wrong}
use Rattle.plan_text.specs.Words.{is_gap, IsUnbroken, IsPaused}
use Rattle.plan_text.specs.Found.{Found, Got, Done, OneWord, Then}
use Rattle.plan_text.specs.Writing.{EndsLine, Adds}

-- a word behind a gap
pub adds_word : {X : Type 0} (gap : ℕ) (word old new : List ℕ) (Says : X → List ℕ → Type 0) (Amiss : Wrong → List ℕ → Type 0) (x : X) → is_gap gap ≡ true → IsUnbroken word → Says x word
    → new ≡ old ++ ((gap ∷ []) ++ word) → Adds IsPaused (OneWord (gap ∷ []) Says Amiss) x old new
adds_word gap word old new Says Amiss x stands whole says is = record {
  piece = gap ∷ word;
  is = is;
  paused = λ rest pauses. stands;
  reads = λ rest pauses. (word, (record { whole = refl; unbroken = whole; paused = pauses }, says));
}

-- one piece behind the other
pub adds_then : {X Y : Type 0} (Follows : List ℕ → Type 0) (One : List ℕ → Found X → Type 0) (Other : X → List ℕ → Found Y → Type 0) (x : X) (y : Y) (old mid new : List ℕ)
    → Adds IsPaused One x old mid → Adds Follows (Other x) y mid new → Adds Follows (Then One Other) y old new
adds_then Follows One Other x y old mid new first second = record {
  piece = first.piece ++ second.piece;
  is = second.is ∙ (ap (λ bytes. bytes ++ second.piece) first.is ∙ append_assoc old first.piece second.piece);
  paused = λ rest follows. subst IsPaused (sym (append_assoc first.piece second.piece rest)) (first.paused (second.piece ++ rest) (second.paused rest follows));
  reads = λ rest follows. (
    x,
    (
      second.piece ++ rest,
      (
        subst (λ (text : List ℕ). One text (Got x (second.piece ++ rest))) (sym (append_assoc first.piece second.piece rest)) (first.reads (second.piece ++ rest) (second.paused rest follows)),
        second.reads rest follows,
      ),
    ),
  );
}

-- nothing more
pub adds_done : {X : Type 0} (x : X) (old : List ℕ) → Adds IsPaused (Done x) x old old
adds_done x old = record { piece = []; is = sym (append-nil old); paused = λ rest pauses. pauses; reads = λ rest pauses. (refl, refl) }

-- where a line ends no word goes on
pub ends_pauses : (rest : List ℕ) → EndsLine rest → IsPaused rest
ends_pauses rest (more, is) = subst IsPaused (sym is) refl

pub adds_at_end : {X : Type 0} (Reader : List ℕ → Found X → Type 0) (x : X) (old new : List ℕ) → Adds IsPaused Reader x old new → Adds EndsLine Reader x old new
adds_at_end Reader x old new adds = record {
  piece = adds.piece;
  is = adds.is;
  paused = λ rest ends. adds.paused rest (ends_pauses rest ends);
  reads = λ rest ends. adds.reads rest (ends_pauses rest ends);
}

-- a last piece, and nothing more
pub adds_last : {X Y : Type 0} (Follows : List ℕ → Type 0) (One : List ℕ → Found X → Type 0) (said : X → Y) (x : X) (old new : List ℕ) → Adds Follows One x old new
    → Adds Follows (Then One (λ got. Done (said got))) (said x) old new
adds_last Follows One said x old new adds = record {
  piece = adds.piece;
  is = adds.is;
  paused = adds.paused;
  reads = λ rest follows. (x, (rest, (adds.reads rest follows, (refl, refl))));
}
