use Rattle.std.proofs.Common.{◌≡◌, ℕ, ◌<◌, List, Bor, get_or, map, length, Contains, refl, ◌∙◌, sym, arith, below_more}
use Rattle.std.proofs.lemmas.List.{get_or-map, length-map}
use Rattle.std.proofs.lemmas.Slice.Eq.{slice_eq-Decides}
use Rattle.std.proofs.lemmas.Bool.{both_ways}
use Rattle.std.proofs.lemmas.Bool.Decides.{Decides-eqb}
use Rattle.eu_name.proofs.word.is_among.Goals as goal

-- what a reference points to
abbrev pointed : Bor (List ℕ) → List ℕ
pointed other = other.now

-- the word at a place is the one at that place
place : (words : List (Bor (List ℕ))) (i : ℕ) (d : Bor (List ℕ)) (word : List ℕ) → i < length words → get_or (map pointed words) i word ≡ (get_or words i d).now
place words i d word in_words = get_or-map pointed words i d word in_words

found : (words : List (Bor (List ℕ))) (i : ℕ) (d : Bor (List ℕ)) (word : List ℕ) → i < length words → (get_or words i d).now ≡ word → Contains (map pointed words) word
found words i d word in_words same = (i, omega (arith, length-map words pointed), place words i d word in_words ∙ same)

pub returns-then-eq : goal.returns-then-eq
returns-then-eq c = (
  λ _. found _ _ _ _ c.loop-other-test.true ((slice_eq-Decides Decides-eqb _ _ _ c.eq.ensures).0 c.if-eq.true),
  λ _. refl,
)

pub loop-other-preserved : goal.loop-other-preserved
loop-other-preserved c =
    below_more _ _ c.loop-other.invariant
    (λ same. both_ways c.eq.result c.if-eq.false ((slice_eq-Decides Decides-eqb _ _ _ c.eq.ensures).1 (sym (place _ _ _ _ c.loop-other-test.true) ∙ same)))
