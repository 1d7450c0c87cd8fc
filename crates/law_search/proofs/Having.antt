-- What a plan has where two tokens have changed places in it.
use Rattle.std.proofs.Common.{◌≡◌, ◌⊎◌, inl, inr, ℤ, false, List, [], ◌∷◌, ◌++◌, length, Some, refl, sym, ap, ◌∙◌, subst, arith}
use Rattle.std.specs.Prelude.{AllPairs, Contains, slice_get, map, IsPermutation}
use Rattle.std.proofs.lemmas.List.{append-nil, length-append}
use Rattle.std.proofs.lemmas.List.Sorted.{Contains-permutation, IsPermutation-sym, IsPermutation-map}
use Rattle.eu_name.specs.declared.name.Part.{Part}
use Rattle.eu_name.specs.declared.name.Step.{Step}
use Rattle.eu_name.specs.declared.name.TokenName.{TokenName}
use Rattle.eu_name.specs.declared.name.VarName.{VarName}
use Rattle.eu_name.specs.declared.name.VarName.TheVariants.{Token, Local, Global}
use Rattle.model_core.specs.declared.model.Model.{Model}
use Rattle.plan_defs.specs.declared.plan.Line.{Line}
use Rattle.plan_defs.specs.declared.plan.Line.TheVariants as lines
use Rattle.plan_defs.specs.declared.plan.Plan.{Plan}
use Rattle.plan_defs.specs.Plans.{IsLineBefore, IsActivatedIn, IsTakenIn, HasPartValue, GivesValue}
use Rattle.plan_defs.specs.Refusals.{HaveSamePredicate}
use Rattle.plan_defs.proofs.Saying.{own_or_merged, one_target}
use Rattle.law_search.specs.Swapping.{IsSwap, token_under, swapped_token, swapped_name, swapped_line}
use Rattle.law_search.proofs.Renaming.{AreApart, apart_flipped, swapped_one, swapped_other, swapped_twice, stands}
use Rattle.law_search.proofs.Mapping.{contains_map, map_contains}

-- the two have changed places, of which the one was the other and the other took place
pub record HaveSwapped (model : Model) (old new : Plan) (one other : TokenName) : Type 0 where
  pub apart : AreApart one other
  pub swap : IsSwap one other old new
  pub order : AllPairs IsLineBefore old.lines
  pub merged : Contains old.lines (lines.Merged one other)
  pub values : List ℤ
  pub takes : Contains old.lines (lines.Token other false values)
  pub same : HaveSamePredicate model one other

-- ---- the two names themselves

under_itself : (top : TokenName) → token_under top [] ≡ top
under_itself top = λ i. record { root = top.root; steps = append-nil top.steps i }

pub one_becomes : (one other : TokenName) → AreApart one other → swapped_token one other one ≡ other
one_becomes one other apart =
    ap (swapped_token one other) (sym (under_itself one)) ∙ swapped_one one other apart [] ∙ under_itself other

pub other_becomes : (one other : TokenName) → AreApart one other → swapped_token one other other ≡ one
other_becomes one other apart =
    ap (swapped_token one other) (sym (under_itself other)) ∙ swapped_other one other apart [] ∙ under_itself one

-- ---- lines

pub name_twice : (one other : TokenName) → AreApart one other → (name : VarName) → swapped_name other one (swapped_name one other name) ≡ name
name_twice one other apart (Global number) = refl
name_twice one other apart (Token token part) = ap (λ (t : TokenName). Token t part) (swapped_twice one other apart token)
name_twice one other apart (Local token rule number) = ap (λ (t : TokenName). Local t rule number) (swapped_twice one other apart token)

pub line_twice : (one other : TokenName) → AreApart one other → (line : Line) → swapped_line other one (swapped_line one other line) ≡ line
line_twice one other apart (lines.Token token fact values) = ap (λ (t : TokenName). lines.Token t fact values) (swapped_twice one other apart token)
line_twice one other apart (lines.Merged token target) =
    ap (λ (t : TokenName). lines.Merged t (swapped_token other one (swapped_token one other target))) (swapped_twice one other apart token)
    ∙ ap (lines.Merged token) (swapped_twice one other apart target)
line_twice one other apart (lines.Rejected token) = ap lines.Rejected (swapped_twice one other apart token)
line_twice one other apart (lines.Local name value) = ap (λ (n : VarName). lines.Local n value) (name_twice one other apart name)

lines_twice : (one other : TokenName) → AreApart one other → (some : List Line) → map (swapped_line other one) (map (swapped_line one other) some) ≡ some
lines_twice one other apart [] = refl
lines_twice one other apart (line ∷ some) =
    ap (λ (l : Line). l ∷ map (swapped_line other one) (map (swapped_line one other) some)) (line_twice one other apart line)
    ∙ ap (λ (more : List Line). line ∷ more) (lines_twice one other apart some)

module _ (model : Model) (old new : Plan) (one other : TokenName) (has : HaveSwapped model old new one other) where
  pub moved : (line : Line) → Contains old.lines line → Contains new.lines (swapped_line one other line)
  moved line there = Contains-permutation _ _ _ has.swap.lines (contains_map (swapped_line one other) old.lines line there)

  pub came : (line : Line) → Contains new.lines line → (was : Line) × (Contains old.lines was × (swapped_line one other was ≡ line))
  came line there =
      map_contains (swapped_line one other) old.lines line (Contains-permutation _ _ _ (IsPermutation-sym _ _ has.swap.lines) there)

  pub new_takes : Contains new.lines (lines.Token one false has.values)
  new_takes = subst (λ (t : TokenName). Contains new.lines (lines.Token t false has.values)) (other_becomes one other has.apart)
      (moved (lines.Token other false has.values) has.takes)

  pub new_merged : Contains new.lines (lines.Merged other one)
  new_merged = subst (λ (t : TokenName). Contains new.lines (lines.Merged other t)) (other_becomes one other has.apart)
      (subst (λ (t : TokenName). Contains new.lines (lines.Merged t (swapped_token one other other))) (one_becomes one other has.apart)
      (moved (lines.Merged one other) has.merged))

-- to have changed places is mutual
pub flipped : (model : Model) (old new : Plan) (one other : TokenName) → HaveSwapped model old new one other → HaveSwapped model new old other one
flipped model old new one other has = record {
  apart = apart_flipped one other has.apart;
  swap = record {
    globals = sym has.swap.globals;
    lines = IsPermutation-sym _ _ (subst (λ (some : List Line). IsPermutation some (map (swapped_line other one) new.lines))
        (lines_twice one other has.apart old.lines)
        (IsPermutation-map (swapped_line other one) (map (swapped_line one other) old.lines) new.lines has.swap.lines));
    order = has.order;
  };
  order = has.swap.order;
  merged = new_merged model old new one other has;
  values = has.values;
  takes = new_takes model old new one other has;
  same = record {
    slot = has.same.other_slot;
    other_slot = has.same.slot;
    has_one = has.same.has_other;
    has_other = has.same.has_one;
    same = sym has.same.same;
  };
}

-- ---- values

-- the token keeps its name, or is one of the two
abbrev pub KeepsValues : TokenName → TokenName → TokenName → Type 0
KeepsValues one other token = (swapped_token one other token ≡ token) ⊎ ((token ≡ one) ⊎ (token ≡ other))

module _ (model : Model) (old new : Plan) (one other : TokenName) (has : HaveSwapped model old new one other) where
  pub part_moved : (token : TokenName) (part : Part) (value : ℤ) → HasPartValue old token part value
      → HasPartValue new (swapped_token one other token) part value
  part_moved token part value p = (p.0, (p.1.0, moved model old new one other has (lines.Token token p.1.0 p.0) p.1.1), p.2)

  pub values_moved : (name : VarName) (value : ℤ) → GivesValue old name value → GivesValue new (swapped_name one other name) value
  values_moved (Global number) value gives = subst (λ (globals : List ℤ). slice_get globals number ≡ Some value) (sym has.swap.globals) gives
  values_moved (Token token part) value (inl own) = inl (part_moved token part value own)
  values_moved (Token token part) value (inr its) =
      inr (swapped_token one other its.0, moved model old new one other has (lines.Merged token its.0) its.1, part_moved its.0 part value its.2)
  values_moved (Local token rule number) value gives = moved model old new one other has (lines.Local (Local token rule number) value) gives

  -- what the other had, the one has now
  one_has : (part : Part) (value : ℤ) → HasPartValue old other part value → HasPartValue new one part value
  one_has part value p = subst (λ (t : TokenName). HasPartValue new t part value) (other_becomes one other has.apart) (part_moved other part value p)

  one_keeps : (part : Part) (value : ℤ) → GivesValue old (Token one part) value → GivesValue new (Token one part) value
  one_keeps part value (inl own) = absurd (own_or_merged old has.order one other own.0 own.1 has.merged)
  one_keeps part value (inr its) =
      let same = one_target old has.order one its.0 other its.1 has.merged in
      inl (one_has part value (subst (λ (t : TokenName). HasPartValue old t part value) same its.2))

  other_keeps : (part : Part) (value : ℤ) → GivesValue old (Token other part) value → GivesValue new (Token other part) value
  other_keeps part value (inl own) = inr (one, new_merged model old new one other has, one_has part value own)
  other_keeps part value (inr its) = absurd (own_or_merged old has.order other its.0 has.values (false, has.takes) its.1)

  -- a token that keeps its name has its values, and so have the two
  pub values_kept : (token : TokenName) → KeepsValues one other token → (part : Part) (value : ℤ)
      → GivesValue old (Token token part) value → GivesValue new (Token token part) value
  values_kept token (inl stays) part value gives =
      subst (λ (t : TokenName). GivesValue new (Token t part) value) stays (values_moved (Token token part) value gives)
  values_kept token (inr (inl is)) part value gives =
      subst (λ (t : TokenName). GivesValue new (Token t part) value) (sym is)
      (one_keeps part value (subst (λ (t : TokenName). GivesValue old (Token t part) value) is gives))
  values_kept token (inr (inr is)) part value gives =
      subst (λ (t : TokenName). GivesValue new (Token t part) value) (sym is)
      (other_keeps part value (subst (λ (t : TokenName). GivesValue old (Token t part) value) is gives))

  -- ---- which tokens are taken

  pub activated_moved : (token : TokenName) → IsActivatedIn old token → IsActivatedIn new (swapped_token one other token)
  activated_moved token p = (p.0, moved model old new one other has (lines.Token token false p.0) p.1)

  pub taken_moved : (token : TokenName) → IsTakenIn old token → IsTakenIn new (swapped_token one other token)
  taken_moved token (inl activated) = inl (activated_moved token activated)
  taken_moved token (inr merged) =
      inr (swapped_token one other merged.0, moved model old new one other has (lines.Merged token merged.0) merged.1)

  pub one_taken : IsTakenIn new one
  one_taken = inl (has.values, new_takes model old new one other has)

  pub other_taken : IsTakenIn new other
  other_taken = inr (one, new_merged model old new one other has)

  no_steps : (top : TokenName) (steps : List Step) (token : TokenName) → token.steps ≡ [] → token ≡ token_under top steps → token ≡ top
  no_steps top [] token none is = is ∙ under_itself top
  no_steps top (step ∷ steps) token none is =
      let long : length token.steps ≡ length (top.steps ++ step ∷ steps) = ap (λ (t : TokenName). length t.steps) is in
      let empty : length token.steps ≡ 0 = ap length none in
      absurd (omega (arith, long, empty, length-append top.steps (step ∷ steps)))

  -- a root keeps its name, or is one of the two
  pub root_stands : (token : TokenName) → token.steps ≡ [] → KeepsValues one other token
  root_stands token none = elim (stands one other has.apart token) [
    | inl found ↦ inr (inl (no_steps one found.0 token none found.1))
    | inr (inl found) ↦ inr (inr (no_steps other found.0 token none found.1))
    | inr (inr elsewhere) ↦ inl elsewhere.stays
  ]

  -- what keeps its name keeps it on the way back
  unmoved : (token : TokenName) → swapped_token one other token ≡ token → swapped_token other one token ≡ token
  unmoved token stays = ap (swapped_token other one) (sym stays) ∙ swapped_twice one other has.apart token

  -- a root is taken that was, under whichever of its names
  pub taken_root : (was token : TokenName) → (token ≡ swapped_token one other was) ⊎ (token ≡ was) → token.steps ≡ [] → (token ≡ was → IsTakenIn old was) → IsTakenIn new token
  taken_root was token named none taken = elim (root_stands token none) [
    | inl stays ↦
        let same : token ≡ was = elim named [
          | inl is ↦ sym (unmoved token stays) ∙ ap (swapped_token other one) is ∙ swapped_twice one other has.apart was
          | inr is ↦ is
        ] in
        subst (λ (t : TokenName). IsTakenIn new t) stays (taken_moved token (subst (λ (t : TokenName). IsTakenIn old t) (sym same) (taken same)))
    | inr (inl is) ↦ subst (λ (t : TokenName). IsTakenIn new t) (sym is) one_taken
    | inr (inr is) ↦ subst (λ (t : TokenName). IsTakenIn new t) (sym is) other_taken
  ]
