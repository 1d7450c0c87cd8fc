-- Where a comment that `/*` opens is closed.
use Rattle.std.proofs.Common.{◌≡◌, ℕ, zero, suc, ◌+◌, ◌-◌, ◌<◌, ◌≤◌, ◌&&◌, cond, eqb, Option, Some, None, List, [], ◌∷◌, length, get_or, drop, refl, sym, subst, ◌∙◌, ap, inl, inr, arith}
use Rattle.std.proofs.lemmas.Bool.{cases_Bool, cond-true, cond-false, and_from, and_parts, eq-eqb, eqb-true, both_ways, cases_lt}
use Rattle.std.proofs.lemmas.List.{at_drop_more, get_or-drop, drop_all, get_or_past}
use Rattle.nddl_lexer.specs.Spelling.{Closes}
use Rattle.nddl_lexer.specs.Scan.{longer, close_len}

-- a place that many bytes further on
abbrev pub later : ℕ → Option ℕ → Option ℕ
later n None = None
later n (Some len) = Some (len + n)

-- the pair at the place closes the comment, or what follows does
close_at : (text : List ℕ) (i : ℕ) → i < length text
    → close_len (drop i text) ≡ cond ((eqb (get_or text i 0) 42) && (eqb (get_or text (i + 1) 0) 47)) (Some 2) (longer (close_len (drop (i + 1) text)))
close_at text i within =
    at_drop_more close_len text i 0 within
    ∙ ap (λ (next : ℕ). cond ((eqb (get_or text i 0) 42) && (eqb next 47)) (Some 2) (longer (close_len (drop (i + 1) text)))) (get_or-drop (i + 1) text 0 0 ∙ ap (λ (k : ℕ). get_or text k 0) (omega arith))

later_longer : (n : ℕ) (found : Option ℕ) → later n (longer found) ≡ later (n + 1) found
later_longer n None = refl
later_longer n (Some len) = ap Some (omega arith)

more_from : (text : List ℕ) (j : ℕ) → j < length text → close_len text ≡ later j (close_len (drop j text)) → ((get_or text j 0 ≡ 42) × (get_or text (j + 1) 0 ≡ 47) → ⊥) → close_len text ≡ later (j + 1) (close_len (drop (j + 1) text))
more_from text j within so_far other = elim (cases_Bool ((eqb (get_or text j 0) 42) && (eqb (get_or text (j + 1) 0) 47))) [
  | inl both ↦
      (let parts = and_parts (eqb (get_or text j 0) 42) (eqb (get_or text (j + 1) 0) 47) both in
      absurd (other (eqb-true _ _ parts.0, eqb-true _ _ parts.1)))
  | inr none ↦ so_far ∙ (ap (later j) (close_at text j within ∙ cond-false _ _ _ none) ∙ later_longer j (close_len (drop (j + 1) text)))
]

pub close_more : (text : List ℕ) (i : ℕ) → 1 ≤ i → i < length text → close_len text ≡ later (i - 1) (close_len (drop (i - 1) text))
    → ((get_or text (i - 1) 0 ≡ 42) × (get_or text i 0 ≡ 47) → ⊥) → close_len text ≡ later ((i + 1) - 1) (close_len (drop ((i + 1) - 1) text))
close_more text i some within so_far other =
    let at : i ≡ (i - 1) + 1 = omega arith in
    let now = more_from text (i - 1) (omega arith) so_far (λ pair. other (pair.0, ap (λ (k : ℕ). get_or text k 0) at ∙ pair.1)) in
    now ∙ ap (λ (k : ℕ). later k (close_len (drop k text))) (omega arith)

nothing_left : (text : List ℕ) (n : ℕ) → length text ≤ n → None ≡ later n (close_len (drop n text))
nothing_left text n past = ap (λ (xs : List ℕ). later n (close_len xs)) (sym (drop_all n text past))

pub close_end : (text : List ℕ) (i : ℕ) → length text ≤ i → close_len text ≡ later (i - 1) (close_len (drop (i - 1) text)) → None ≡ close_len text
close_end text i past so_far = elim (cases_lt (i - 1) (length text)) [
  | inl within ↦
      (let now = more_from text (i - 1) within so_far (λ pair. omega (arith, pair.1, get_or_past text ((i - 1) + 1) 0 (omega arith))) in
      nothing_left text ((i - 1) + 1) (omega arith) ∙ sym now)
  | inr beyond ↦ nothing_left text (i - 1) beyond ∙ sym so_far
]

-- ---- what the length says

-- the first place where the bytes close a comment
pub record ClosesFirst (bytes : List ℕ) (len : ℕ) : Type 0 where
  pub place : ℕ
  pub len_is : len ≡ place + 2
  pub closes : Closes bytes place
  pub first : (before : ℕ) → before < place → Closes bytes before → ⊥

abbrev pub CloseIs : List ℕ → Option ℕ → Type 0
CloseIs bytes None = (place : ℕ) → Closes bytes place → ⊥
CloseIs bytes (Some len) = ClosesFirst bytes len

closes_on : (byte : ℕ) (bytes : List ℕ) (place : ℕ) → get_or (byte ∷ bytes) (suc place + 1) 0 ≡ get_or bytes (place + 1) 0
closes_on byte bytes place = let at : suc place + 1 ≡ suc (place + 1) = omega arith in ap (λ (k : ℕ). get_or (byte ∷ bytes) k 0) at

close_is_longer : (byte : ℕ) (bytes : List ℕ) (found : Option ℕ) → (Closes (byte ∷ bytes) 0 → ⊥) → CloseIs bytes found → CloseIs (byte ∷ bytes) (longer found)
close_is_longer byte bytes None not_here none = go
  where
    go : (place : ℕ) → Closes (byte ∷ bytes) place → ⊥
    go zero closes = not_here closes
    go (suc place) closes = none place (closes.0, sym (closes_on byte bytes place) ∙ closes.1)
close_is_longer byte bytes (Some len) not_here some = record {
  place = suc some.place;
  len_is = ap (λ (n : ℕ). n + 1) some.len_is ∙ omega arith;
  closes = (some.closes.0, closes_on byte bytes some.place ∙ some.closes.1);
  first = go;
}
  where
    go : (before : ℕ) → before < suc some.place → Closes (byte ∷ bytes) before → ⊥
    go zero below closes = not_here closes
    go (suc before) below closes = some.first before (omega arith) (closes.0, sym (closes_on byte bytes before) ∙ closes.1)

pub close_is : (bytes : List ℕ) → CloseIs bytes (close_len bytes)
close_is [] = λ place closes. omega (arith, closes.0)
close_is (byte ∷ bytes) = elim (cases_Bool ((eqb byte 42) && (eqb (get_or bytes 0 0) 47))) [
  | inl both ↦
      (let parts = and_parts (eqb byte 42) (eqb (get_or bytes 0 0) 47) both in
      subst (CloseIs (byte ∷ bytes)) (sym (cond-true _ (Some 2) (longer (close_len bytes)) both))
      (record { place = 0; len_is = refl; closes = (eqb-true _ _ parts.0, eqb-true _ _ parts.1); first = λ before below closes. omega (arith, below) }))
  | inr none ↦
      subst (CloseIs (byte ∷ bytes)) (sym (cond-false _ (Some 2) (longer (close_len bytes)) none))
      (close_is_longer byte bytes (close_len bytes)
      (λ closes. both_ways _ none (and_from (eqb byte 42) (eqb (get_or bytes 0 0) 47) (eq-eqb _ _ closes.0) (eq-eqb _ _ closes.1))) (close_is bytes))
]
