-- As many tokens take place in a plan as one can name.
use Rattle.std.proofs.Common.{◌≡◌, ◌≢◌, ◌≤◌, inl, inr, ℤ, Bool, List, [], ◌∷◌, ◌++◌, length, ap, subst, arith}
use Rattle.std.specs.Prelude.{AllPairs, Contains}
use Rattle.std.specs.List.{sum_by}
use Rattle.std.proofs.lemmas.List.Elements.{Contains-append_left, Contains-append_right, Contains-append_cases}
use Rattle.std.proofs.lemmas.List.Sums.{sum_by-append, sum_by-cons}
use Rattle.eu_name.specs.declared.name.TokenName.{TokenName}
use Rattle.plan_defs.specs.declared.plan.Line.{Line}
use Rattle.plan_defs.specs.declared.plan.Line.TheVariants as lines
use Rattle.eu_name.proofs.Ordered.{contains_head, contains_later, contains_cases, contains_none, ordered_head, ordered_tail}
use Rattle.law_search.specs.SwapLaws.{tokens_of_line}

-- the list is cut where the item stands
pub record Cut {X : Type 0} (xs : List X) (x : X) : Type 0 where
  pub before : List X
  pub after : List X
  pub are : xs ≡ before ++ x ∷ after

pub cut_at : {X : Type 0} (xs : List X) (x : X) → Contains xs x → Cut xs x
cut_at [] x there = absurd (contains_none x there)
cut_at (y ∷ xs) x there = elim (contains_cases y x xs there) [
  | inl same ↦ record { before = []; after = xs; are = ap (λ z. z ∷ xs) same }
  | inr later ↦ let rest = cut_at xs x later in record { before = y ∷ rest.before; after = rest.after; are = ap (λ l. y ∷ l) rest.are }
]

-- some line says that the token takes place
abbrev pub TakesPlaceAmong : List Line → TokenName → Type 0
TakesPlaceAmong some token = (fact : Bool) × ((values : List ℤ) × Contains some (lines.Token token fact values))

pub no_more_tokens : (tokens : List TokenName) (some : List Line) → AllPairs (λ one other. one ≢ other) tokens
    → ((token : TokenName) → Contains tokens token → TakesPlaceAmong some token) → length tokens ≤ sum_by tokens_of_line some
no_more_tokens [] some apart take = omega arith
no_more_tokens (token ∷ tokens) some apart take =
    let takes = take token (contains_head token tokens) in
    let line = lines.Token token takes.0 takes.1.0 in
    let cut = cut_at some line takes.1.1 in
    let rest = no_more_tokens tokens (cut.before ++ cut.after) (ordered_tail (λ one other. one ≢ other) token tokens apart)
    (λ other there. others token takes.0 takes.1.0 cut.before cut.after other
    (ordered_head (λ one other. one ≢ other) token tokens apart other there)
    (subst (λ (l : List Line). TakesPlaceAmong l other) cut.are (take other (contains_later token other tokens there)))) in
    let whole : sum_by tokens_of_line some ≡ sum_by tokens_of_line (cut.before ++ line ∷ cut.after) = ap (sum_by tokens_of_line) cut.are in
    let split = sum_by-append tokens_of_line cut.before (line ∷ cut.after) in
    let first = sum_by-cons tokens_of_line line cut.after in
    let joined = sum_by-append tokens_of_line cut.before cut.after in
    omega (arith, rest, whole, split, first, joined)
  where
    same_name : (a b : TokenName) (fact own : Bool) (values its : List ℤ) → lines.Token a fact values ≡ lines.Token b own its → a ≡ b
    same_name a b fact own values its same = cc

    others : (token : TokenName) (fact : Bool) (values : List ℤ) (before after : List Line) (other : TokenName) → token ≢ other
        → TakesPlaceAmong (before ++ lines.Token token fact values ∷ after) other → TakesPlaceAmong (before ++ after) other
    others token fact values before after other apart (own, (its, there)) = (
      own,
      (
        its,
        elim (Contains-append_cases before _ _ there) [
          | inl early ↦ Contains-append_left before after _ early
          | inr late ↦ elim (contains_cases (lines.Token token fact values) (lines.Token other own its) after late) [
            | inl same ↦ absurd (apart (same_name token other fact own values its same))
            | inr later ↦ Contains-append_right before after _ later
          ]
        ],
      ),
    )
