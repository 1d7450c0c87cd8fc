-- What follows the label of a name, and how it is read.
use Rattle.std.proofs.Common.{◌≡◌, ℕ, List, [], ◌∷◌, ◌++◌, length, get_or, refl, sym, ◌∙◌, ap, subst, arith, append_assoc}
use Rattle.std.specs.Prelude.{Err}
use Rattle.std.specs.Fmt.{decimal}
use Rattle.std.specs.List.{flat_map}
use Rattle.std.proofs.lemmas.List.{append-nil}
use Rattle.std.proofs.lemmas.List.Concat.{flat_map-append}
use Rattle.std.proofs.lemmas.List.Elements.{All-nil, All-head, All-tail, All-push}
use Rattle.eu_name.specs.declared.name.Step.{Step}
use Rattle.eu_name.specs.declared.name_text.Tail.{Tail}
use Rattle.eu_name.specs.declared.name_text.NameFault.{NameFault}
use Rattle.eu_name.specs.declared.name_text.NameFault.TheVariants.{Syntax, Memory}
use Rattle.eu_name.specs.Word.{IsName}
use Rattle.eu_name.specs.Spelling.{step_text, tail_text, ending_text, IsStep, IsNumbered}
use Rattle.eu_name.specs.Readers.{HasNoDigit, HasNumber, HasStep, HasRead, HasSteps, IsEnding, ReadsEnding, ReadsTail}
use Rattle.eu_name.proofs.Orders.{step_same}
use Rattle.eu_name.proofs.Numbers.{same_marked}

-- the first byte of a text that has one
abbrev pub initial : List ℕ → ℕ
initial bytes = get_or bytes 0 0

-- ---- `!` and a number

numbered_has : (text : List ℕ) (is : IsNumbered text) → HasNumber 33 text is.0 []
numbered_has text is = record { small = is.1; whole = is.2 ∙ ap (λ bytes. 33 ∷ bytes) (sym (append-nil (decimal is.0))); ended = tt }

has_numbered : (text : List ℕ) (n : ℕ) → HasNumber 33 text n [] → IsNumbered text
has_numbered text n has = (n, has.small, has.whole ∙ ap (λ bytes. 33 ∷ bytes) (append-nil (decimal n)))

pub is_numbered_from : (text rest : List ℕ) (n : ℕ) → HasNumber 33 text n rest → length rest ≡ 0 → IsNumbered text
is_numbered_from text [] n has empty = has_numbered text n has
is_numbered_from text (byte ∷ rest) n has empty = absurd (omega arith)

pub numbered_ends : (text rest : List ℕ) (n : ℕ) → HasNumber 33 text n rest → IsNumbered text → length rest ≡ 0
numbered_ends text rest n has is = ap length (same_marked 33 33 text n is.0 rest [] has (numbered_has text is)).2

pub not_numbered : (text : List ℕ) → ((n : ℕ) (rest : List ℕ) → HasNumber 33 text n rest → ⊥) → IsNumbered text → ⊥
not_numbered text none is = none is.0 [] (numbered_has text is)

-- ---- steps

-- a step is a number after `/` and one after `:`
record Halves (text : List ℕ) (mark first second : ℕ) (rest : List ℕ) : Type 0 where
  between : List ℕ
  front : HasNumber 47 text first between
  back : HasNumber mark between second rest

halves : (text : List ℕ) (step : Step) (rest : List ℕ) → HasStep text step rest → Halves text 58 step.rule step.slot rest
halves text step rest has = record {
  between = 58 ∷ (decimal step.slot ++ rest);
  front = record { small = has.small.0; whole = has.whole ∙ ap (λ bytes. 47 ∷ bytes) (append_assoc (decimal step.rule) (58 ∷ decimal step.slot) rest); ended = refl };
  back = record { small = has.small.1; whole = refl; ended = has.ended };
}

-- the same halves of one text
same_halves : (text : List ℕ) (mark mark' first second first' second' : ℕ) (rest left : List ℕ) → Halves text mark first second rest → Halves text mark' first' second' left → (mark ≡ mark') × (first ≡ first') × (second ≡ second') × (rest ≡ left)
same_halves text mark mark' first second first' second' rest left one other =
    let fronts = same_marked 47 47 text first first' one.between other.between one.front other.front in
    let backs = same_marked mark mark' one.between second second' rest left one.back (rw fronts.2 other.back) in
    (backs.0, fronts.1, backs.1, backs.2)

same_steps : (text : List ℕ) (s t : Step) (rest left : List ℕ) → HasStep text s rest → HasStep text t left → (s ≡ t) × (rest ≡ left)
same_steps text s t rest left one other =
    let same = same_halves text 58 58 s.rule s.slot t.rule t.slot rest left (halves text s rest one) (halves text t left other) in
    (step_same s t same.1 same.2, same.3)

-- where the first half is read and no second half follows, there is no step
pub no_slot : (text between : List ℕ) (rule : ℕ) → HasNumber 47 text rule between → ((n : ℕ) (rest : List ℕ) → HasNumber 58 between n rest → ⊥) → (step : Step) (rest : List ℕ) → HasStep text step rest → ⊥
no_slot text between rule front none step rest has =
    let parts = halves text step rest has in
    let fronts = same_marked 47 47 text rule step.rule between parts.between front parts.front in
    none step.slot rest (rw fronts.2 parts.back)

-- ---- locals

local_halves : (text : List ℕ) (rule number : ℕ) → IsEnding text [] (Tail.Local rule number) → Halves text 33 rule number []
local_halves text rule number is = record {
  between = 33 ∷ decimal number;
  front = record { small = is.tailed.0; whole = is.whole; ended = refl };
  back = record { small = is.tailed.1; whole = ap (λ bytes. 33 ∷ bytes) (sym (append-nil (decimal number))); ended = tt };
}

pub no_local : (text between : List ℕ) (rule : ℕ) → HasNumber 47 text rule between → ((n : ℕ) (rest : List ℕ) → HasNumber 33 between n rest → ⊥) → (rule' number : ℕ) → IsEnding text [] (Tail.Local rule' number) → ⊥
no_local text between rule front none rule' number is =
    let parts = local_halves text rule' number is in
    let fronts = same_marked 47 47 text rule rule' between parts.between front parts.front in
    none number [] (rw fronts.2 parts.back)

-- more follows than a local
pub long_local : (text between rest : List ℕ) (rule number : ℕ) → HasNumber 47 text rule between → HasNumber 33 between number rest → (length rest ≡ 0 → ⊥) → (rule' number' : ℕ) → IsEnding text [] (Tail.Local rule' number') → ⊥
long_local text between rest rule number front back more rule' number' is =
    let parts = local_halves text rule' number' is in
    let fronts = same_marked 47 47 text rule rule' between parts.between front parts.front in
    more (ap length (same_marked 33 33 between number number' rest [] back (rw fronts.2 parts.back)).2)

-- ---- endings

-- a mark and a name are a tail
pub part_is : (text : List ℕ) (mark : ℕ) (part : List ℕ) → text ≡ mark ∷ part → mark ≡ 46 → IsName part → IsEnding text [] (Tail.Part part)
part_is text mark part whole is named = record { small = All-nil IsStep; tailed = named; whole = whole ∙ ap (λ byte. byte ∷ part) is }

-- no ending begins with a digit
ending_no_digit : (steps : List Step) (tail : Tail) → HasNoDigit (ending_text steps tail)
ending_no_digit [] Tail.None = tt
ending_no_digit [] (Tail.Part part) = refl
ending_no_digit [] (Tail.Local rule number) = refl
ending_no_digit (step ∷ steps) tail = refl

first_step : (text : List ℕ) (step : Step) (steps : List Step) (tail : Tail) → IsEnding text (step ∷ steps) tail → HasStep text step (ending_text steps tail)
first_step text step steps tail is = record {
  small = All-head IsStep step steps is.small;
  whole = is.whole ∙ append_assoc (step_text step) (flat_map step_text steps) (tail_text tail);
  ended = ending_no_digit steps tail;
}

other_steps : (text : List ℕ) (step : Step) (steps : List Step) (tail : Tail) → IsEnding text (step ∷ steps) tail → IsEnding (ending_text steps tail) steps tail
other_steps text step steps tail is = record { small = All-tail IsStep step steps is.small; tailed = is.tailed; whole = refl }

-- the text ends with a step and more of them
pub record GoesOn (step : Step) (after : List ℕ) (steps : List Step) (tail : Tail) : Type 0 where
  pub more : List Step
  pub same : steps ≡ step ∷ more
  pub rest : IsEnding after more tail

no_step_is : (text : List ℕ) (step : Step) (after : List ℕ) (tail : Tail) → HasStep text step after → IsEnding text [] tail → ⊥
no_step_is text step after Tail.None has is = let whole : [] ≡ step_text step ++ after = sym is.whole ∙ has.whole in cc
no_step_is text step after (Tail.Part part) has is =
    let whole : 46 ∷ part ≡ step_text step ++ after = sym is.whole ∙ has.whole in
    omega (arith, ap initial whole)
no_step_is text step after (Tail.Local rule number) has is =
    omega (arith, (same_halves text 58 33 step.rule step.slot rule number after [] (halves text step after has) (local_halves text rule number is)).0)

-- whatever ending a text that goes on with a step is, it goes on with that step
goes_on : (text : List ℕ) (step : Step) (after : List ℕ) → HasStep text step after → (steps : List Step) (tail : Tail) → IsEnding text steps tail → GoesOn step after steps tail
goes_on text step after has [] tail is = absurd (no_step_is text step after tail has is)
goes_on text step after has (first ∷ more) tail is =
    let same = same_steps text first step (ending_text more tail) after (first_step text first more tail is) has in
    let firsts : first ≡ step = same.0 in
    record { more = more; same = cc; rest = subst (λ (bytes : List ℕ). IsEnding bytes more tail) same.1 (other_steps text first more tail is) }

-- before any step is read
pub none_read : (text : List ℕ) → HasRead text [] text
none_read text = record { small = All-nil IsStep; whole = refl; follows = λ others tail is. (others, is) }

-- one more step is read
pub one_read : (text : List ℕ) (steps more : List Step) (rest : List ℕ) (step : Step) (after : List ℕ) → more ≡ steps ++ step ∷ [] → HasRead text steps rest → HasStep rest step after → HasRead text more after
one_read text steps more rest step after pushed read has = record {
  small = rw pushed (All-push IsStep steps step read.small has.small);
  whole = read.whole ∙ (ap (λ bytes. flat_map step_text steps ++ bytes) has.whole ∙ rw (pushed, flat_map-append step_text steps (step ∷ [])) (simp (append_assoc, append-nil)));
  follows = λ others tail is. let left = read.follows others tail is in let on = goes_on rest step after has left.0 tail left.1 in (on.more, on.rest);
}

-- all steps are read, so what follows them is a tail
tail_is : (text : List ℕ) (steps : List Step) (rest : List ℕ) → HasSteps text steps rest → (others : List Step) (tail : Tail) → IsEnding text others tail → IsEnding rest [] tail
tail_is text steps rest has others tail is = let left = has.read.follows others tail is in at_end left.0 left.1
  where
    at_end : (more : List Step) → IsEnding rest more tail → IsEnding rest [] tail
    at_end [] ending = ending
    at_end (step ∷ more) ending = absurd (has.last step (ending_text more tail) (first_step rest step more tail ending))

-- and with that tail they are the ending
pub ending_is : (text : List ℕ) (steps : List Step) (rest : List ℕ) → HasSteps text steps rest → (tail : Tail) → IsEnding rest [] tail → IsEnding text steps tail
ending_is text steps rest has tail is = record { small = has.read.small; tailed = is.tailed; whole = has.read.whole ∙ ap (λ bytes. flat_map step_text steps ++ bytes) is.whole }

-- the tail was read behind the same steps
pub steps_are : (text : List ℕ) (steps others : List Step) (rest left : List ℕ) → HasSteps text steps rest → HasSteps text others left → (tail : Tail) → IsEnding left [] tail → IsEnding text steps tail
steps_are text steps others rest left has had tail is =
    ending_is text steps rest has tail (tail_is text steps rest has others tail (ending_is text others left had tail is))

-- the fault of a tail is that of the ending
pub ending_fault : (text : List ℕ) (steps : List Step) (rest : List ℕ) → HasSteps text steps rest → (fault : NameFault) → ReadsTail rest (Err fault) → ReadsEnding text (Err fault)
ending_fault text steps rest has Syntax none = λ others tail is. none tail (tail_is text steps rest has others tail is)
ending_fault text steps rest has Memory found = (steps, (found.0, ending_is text steps rest has found.0 found.1))

-- ---- one text, one ending

same_tails : (text : List ℕ) (one other : Tail) → IsEnding text [] one → IsEnding text [] other → one ≡ other
same_tails text Tail.None Tail.None p q = refl
same_tails text Tail.None (Tail.Part part) p q = let whole : [] ≡ 46 ∷ part = sym p.whole ∙ q.whole in cc
same_tails text Tail.None (Tail.Local rule number) p q = let whole : [] ≡ 47 ∷ (decimal rule ++ (33 ∷ decimal number)) = sym p.whole ∙ q.whole in cc
same_tails text (Tail.Part part) Tail.None p q = let whole : [] ≡ 46 ∷ part = sym q.whole ∙ p.whole in cc
same_tails text (Tail.Part part) (Tail.Part other) p q =
    let whole : 46 ∷ part ≡ 46 ∷ other = sym p.whole ∙ q.whole in
    let same : part ≡ other = cc in
    ap Tail.Part same
same_tails text (Tail.Part part) (Tail.Local rule number) p q = let whole : 46 ∷ part ≡ 47 ∷ (decimal rule ++ (33 ∷ decimal number)) = sym p.whole ∙ q.whole in absurd (omega (arith, ap initial whole))
same_tails text (Tail.Local rule number) Tail.None p q = let whole : [] ≡ 47 ∷ (decimal rule ++ (33 ∷ decimal number)) = sym q.whole ∙ p.whole in cc
same_tails text (Tail.Local rule number) (Tail.Part part) p q = let whole : 46 ∷ part ≡ 47 ∷ (decimal rule ++ (33 ∷ decimal number)) = sym q.whole ∙ p.whole in absurd (omega (arith, ap initial whole))
same_tails text (Tail.Local rule number) (Tail.Local rule' number') p q =
    let same = same_halves text 33 33 rule number rule' number' [] [] (local_halves text rule number p) (local_halves text rule' number' q) in
    let rules : rule ≡ rule' = same.1 in
    let numbers : number ≡ number' = same.2 in
    cc

pub same_endings : (text : List ℕ) (steps others : List Step) (one other : Tail) → IsEnding text steps one → IsEnding text others other → (steps ≡ others) × (one ≡ other)
same_endings text [] [] one other p q = (refl, same_tails text one other p q)
same_endings text [] (step ∷ others) one other p q = absurd (no_step_is text step (ending_text others other) one (first_step text step others other q) p)
same_endings text (step ∷ steps) others one other p q =
    let on = goes_on text step (ending_text steps one) (first_step text step steps one p) others other q in
    let inner = same_endings (ending_text steps one) steps on.more one other (other_steps text step steps one p) on.rest in
    (ap (λ more. step ∷ more) inner.0 ∙ sym on.same, inner.1)
