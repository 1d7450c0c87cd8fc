-- A text is read in one way.
use Rattle.std.proofs.Common.{◌≡◌, ℕ, List, sym, ◌∙◌, subst, inl, inr}
use Rattle.plan_text.specs.declared.fault.Wrong.{Wrong}
use Rattle.plan_text.specs.declared.fault.Wrong.TheVariants.{Memory}
use Rattle.plan_text.specs.Found.{Found, Got, Stopped, Done, OneWord, Then}
use Rattle.plan_text.proofs.Cutting.{one_word}

-- what a reader finds of a text is one, but that memory may run out
pub record ReadsOnce {X : Type 0} (Reader : List ℕ → Found X → Type 0) : Type 0 where
  pub got : (text rest left : List ℕ) (one other : X) → Reader text (Got one rest) → Reader text (Got other left) → (one ≡ other) × (rest ≡ left)
  pub whole : (text rest at : List ℕ) (one : X) (wrong : Wrong) → Reader text (Got one rest) → Reader text (Stopped wrong at) → wrong ≡ Memory
  pub stops : (text at left : List ℕ) (one other : Wrong) → Reader text (Stopped one at) → Reader text (Stopped other left) → (one ≡ Memory → ⊥) → (other ≡ Memory → ⊥) → (one ≡ other) × (at ≡ left)

-- what a word says is one
pub record SaysOnce {X : Type 0} (Says : X → List ℕ → Type 0) (Amiss : Wrong → List ℕ → Type 0) : Type 0 where
  pub says : (word : List ℕ) (one other : X) → Says one word → Says other word → one ≡ other
  pub whole : (word : List ℕ) (one : X) (wrong : Wrong) → Says one word → Amiss wrong word → wrong ≡ Memory
  pub amiss : (word : List ℕ) (one other : Wrong) → Amiss one word → Amiss other word → (one ≡ Memory → ⊥) → (other ≡ Memory → ⊥) → one ≡ other

module _ {X : Type 0} (gap : List ℕ) (Says : X → List ℕ → Type 0) (Amiss : Wrong → List ℕ → Type 0) (once : SaysOnce Says Amiss) where
  word_got : (text rest left : List ℕ) (one other : X) → OneWord gap Says Amiss text (Got one rest) → OneWord gap Says Amiss text (Got other left) → (one ≡ other) × (rest ≡ left)
  word_got text rest left one other (word, (has, says)) (word', (has', says')) =
      let same = one_word gap text word rest word' left has has' in
      (once.says word one other says (subst (Says other) (sym same.0) says'), same.1)

  word_whole : (text rest at : List ℕ) (one : X) (wrong : Wrong) → OneWord gap Says Amiss text (Got one rest) → OneWord gap Says Amiss text (Stopped wrong at) → wrong ≡ Memory
  word_whole text rest at one wrong got (inl memory) = memory
  word_whole text rest at one wrong (word, (has, says)) (inr (same, inl (syntax, none))) = absurd (none word rest has)
  word_whole text rest at one wrong (word, (has, says)) (inr (same, inr (word', (left, (has', amiss))))) =
      let both = one_word gap text word rest word' left has has' in
      once.whole word one wrong says (subst (Amiss wrong) (sym both.0) amiss)

  word_stops : (text at left : List ℕ) (one other : Wrong) → OneWord gap Says Amiss text (Stopped one at) → OneWord gap Says Amiss text (Stopped other left) → (one ≡ Memory → ⊥) → (other ≡ Memory → ⊥) → (one ≡ other) × (at ≡ left)
  word_stops text at left one other (inl memory) second some some' = absurd (some memory)
  word_stops text at left one other (inr first) (inl memory) some some' = absurd (some' memory)
  word_stops text at left one other (inr (same, inl (syntax, none))) (inr (same', inl (syntax', none'))) some some' = (syntax ∙ sym syntax', same ∙ sym same')
  word_stops text at left one other (inr (same, inl (syntax, none))) (inr (same', inr (word, (rest, (has, amiss))))) some some' = absurd (none word rest has)
  word_stops text at left one other (inr (same, inr (word, (rest, (has, amiss))))) (inr (same', inl (syntax, none))) some some' = absurd (none word rest has)
  word_stops text at left one other (inr (same, inr (word, (rest, (has, amiss))))) (inr (same', inr (word', (rest', (has', amiss'))))) some some' =
      let both = one_word gap text word rest word' rest' has has' in
      (once.amiss word one other amiss (subst (Amiss other) (sym both.0) amiss') some some', same ∙ sym same')

  pub word_once : ReadsOnce (OneWord gap Says Amiss)
  word_once = record { got = word_got; whole = word_whole; stops = word_stops }

module _ {X Y : Type 0} (One : List ℕ → Found X → Type 0) (Other : X → List ℕ → Found Y → Type 0) (first : ReadsOnce One) (second : (x : X) → ReadsOnce (Other x)) where
  then_got : (text rest left : List ℕ) (one other : Y) → Then One Other text (Got one rest) → Then One Other text (Got other left) → (one ≡ other) × (rest ≡ left)
  then_got text rest left one other (x, (mid, (a, b))) (x', (mid', (a', b'))) =
      let same = first.got text mid mid' x x' a a' in
      (second x).got mid rest left one other b (subst (λ z. Other z mid (Got other left)) (sym same.0) (subst (λ m. Other x' m (Got other left)) (sym same.1) b'))

  then_whole : (text rest at : List ℕ) (one : Y) (wrong : Wrong) → Then One Other text (Got one rest) → Then One Other text (Stopped wrong at) → wrong ≡ Memory
  then_whole text rest at one wrong (x, (mid, (a, b))) (inl stop) = first.whole text mid at x wrong a stop
  then_whole text rest at one wrong (x, (mid, (a, b))) (inr (x', (mid', (a', b')))) =
      let same = first.got text mid mid' x x' a a' in
      (second x).whole mid rest at one wrong b (subst (λ z. Other z mid (Stopped wrong at)) (sym same.0) (subst (λ m. Other x' m (Stopped wrong at)) (sym same.1) b'))

  then_stops : (text at left : List ℕ) (one other : Wrong) → Then One Other text (Stopped one at) → Then One Other text (Stopped other left) → (one ≡ Memory → ⊥) → (other ≡ Memory → ⊥) → (one ≡ other) × (at ≡ left)
  then_stops text at left one other (inl stop) (inl stop') some some' = first.stops text at left one other stop stop' some some'
  then_stops text at left one other (inl stop) (inr (x, (mid, (a, b)))) some some' = absurd (some (first.whole text mid at x one a stop))
  then_stops text at left one other (inr (x, (mid, (a, b)))) (inl stop) some some' = absurd (some' (first.whole text mid left x other a stop))
  then_stops text at left one other (inr (x, (mid, (a, b)))) (inr (x', (mid', (a', b')))) some some' =
      let same = first.got text mid mid' x x' a a' in
      (second x).stops mid at left one other b (subst (λ z. Other z mid (Stopped other left)) (sym same.0) (subst (λ m. Other x' m (Stopped other left)) (sym same.1) b')) some some'

  pub then_once : ReadsOnce (Then One Other)
  then_once = record { got = then_got; whole = then_whole; stops = then_stops }

pub done_once : {X : Type 0} (said : X) → ReadsOnce (Done said)
done_once said = record {
  got = λ text rest left one other a b. (a.0 ∙ sym b.0, a.1 ∙ sym b.1);
  whole = λ text rest at one wrong a b. b;
  stops = λ text at left one other a b some some'. absurd (some a);
}
