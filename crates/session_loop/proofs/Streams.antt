-- Lemmas on bytes that come and go in pieces.
use Rattle.std.proofs.Common.{◌≡◌, ◌≢◌, ℕ, ◌+◌, ◌-◌, ◌<◌, ◌≤◌, min, List, [], ◌∷◌, ◌++◌, Option, length, take, drop, sym, ap, ◌∙◌, subst, arith, get_or}
use Rattle.std.proofs.lemmas.List.{take-append-drop, take-take, drop-take, take_all, take-append-le, take_min, length-take, take_more, take_rest, length-drop}
use Rattle.std.proofs.Math.Seq.{take-append-add}
use Rattle.std.proofs.Math.Nat.{min_comm}
use Rattle.std.specs.Io.KnownBytes.{Appends, Keeps}
use Rattle.std.proofs.KnownBytes.{Appends-trans, Appends-kept}
use Rattle.session_loop.specs.Pieces.{IsOneLine}

-- two takes, one after the other, are one
take-then : (t n : ℕ) (piece : List ℕ) → take t piece ++ take n (drop t piece) ≡ take (t + n) piece
take-then t n piece =
    ap (λ l. l ++ take n (drop t piece)) (sym (take-take t (t + n) piece (omega arith)))
    ∙ ap (λ l. take t (take (t + n) piece) ++ l) (sym (drop-take t n piece))
    ∙ take-append-drop t (take (t + n) piece)

-- a write goes on where the one before it ended
pub Appends-more : (a b c : Option (List ℕ)) (piece : List ℕ) (t n : ℕ) → Appends a b (take t piece) → Appends b c (take n (take (length piece - t) (drop t piece))) → Appends a c (take (t + n) piece)
Appends-more a b c piece t n first second =
    subst (Appends a c) (ap (λ l. take t piece ++ take n l) (take_rest piece t) ∙ take-then t n piece) (Appends-trans a b c _ _ first second)

-- a write takes no more than is left
pub within_more : (piece : List ℕ) (t n : ℕ) → t ≤ length piece → n ≤ length (take (length piece - t) (drop t piece)) → t + n ≤ length piece
within_more piece t n within count = omega (arith, ap length (take_rest piece t), length-drop t piece)

-- a write that failed leaves the front that was written before it
pub Appends-front : (a b c : Option (List ℕ)) (piece : List ℕ) (t : ℕ) → Appends a b (take t piece) → Keeps b c → (front lost : List ℕ) × Appends a c front × (piece ≡ front ++ lost)
Appends-front a b c piece t first kept = (take t piece, drop t piece, Appends-kept a b c _ first kept, sym (take-append-drop t piece))

-- a front that has room goes on by a piece
pub front_grows : (n : ℕ) (front line piece : List ℕ) → front ≡ take n line → length front < n → front ++ take (min (length piece) (n - length front)) piece ≡ take n (line ++ piece)
front_grows n front line piece is room =
    let short : length line ≤ n = omega (arith, ap length is, length-take n line) in
    let same : front ≡ line = is ∙ take_all n line short in
    let sum : length line + (n - length line) ≡ n = omega arith in
    ap (λ k. front ++ take k piece) (min_comm (length piece) (n - length front))
    ∙ subst (λ l. l ++ take (min (n - length l) (length piece)) piece ≡ take n (line ++ piece)) (sym same)
    (ap (λ l. line ++ l) (take_min (n - length line) piece)
    ∙ sym (take-append-add line piece (n - length line))
    ∙ ap (λ k. take k (line ++ piece)) sum)

-- a full front stays
pub front_stays : (n : ℕ) (front line piece : List ℕ) → front ≡ take n line → n ≤ length front → front ≡ take n (line ++ piece)
front_stays n front line piece is full =
    is ∙ sym (take-append-le n line piece (omega (arith, ap length is, length-take n line)))

pub IsOneLine-append : (xs ys : List ℕ) → IsOneLine xs → IsOneLine ys → IsOneLine (xs ++ ys)
IsOneLine-append [] ys p q = q
IsOneLine-append (x ∷ xs) ys p q = (p.0, IsOneLine-append xs ys p.1 q)

-- one more byte is no line feed
pub IsOneLine-more : (xs : List ℕ) (i : ℕ) → i < length xs → IsOneLine (take i xs) → (get_or xs i 0 ≢ 10) → IsOneLine (take (i + 1) xs)
IsOneLine-more xs i within before here = subst IsOneLine (sym (take_more xs i 0 within)) (IsOneLine-append _ (get_or xs i 0 ∷ []) before (here, tt))
