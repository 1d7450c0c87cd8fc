-- The tokens along the trail.
use Rattle.std.proofs.Common.{◌≡◌, ℕ, zero, suc, ◌+◌, ◌-◌, List, [], ◌∷◌, ◌++◌, length, map, take, drop, slice_get, Option, Some, refl, sym, ap, ◌∙◌, subst, reverse, arith, length-append, append_assoc}
use Rattle.std.proofs.lemmas.List.{reverse-append, length-reverse, length-map, map-append, append-nil, take-append-drop}
use Rattle.std.proofs.Math.Seq.{take-append_seam}
use Rattle.std.proofs.lemmas.Option.{slice_get-map}
use Rattle.std.specs.Option.{option_map}
use Rattle.std.specs.Map.{values_of}
use Rattle.indexmap.specs.IndexMap.{set_value_at}
use Rattle.eu_name.specs.declared.name.TokenName.{TokenName}
use Rattle.model_core.specs.declared.view.TokenState.{TokenState}
use Rattle.token_store.specs.declared.trail.Token.{Token}
use Rattle.token_store.specs.declared.trail.Edit.{Edit}
use Rattle.token_store.specs.declared.trail.Edit.TheVariants.{Added, Was}
use Rattle.token_store.specs.Tokens.{TokenList, TokenPast, tokens_now, token_names, with_state, LeavesPast, NamesStay}
use Rattle.token_store.specs.Kept.{before, token_past, CanLead, IsTokenTrail}

pub now-past : (tokens : TokenList) (trail : List Edit) → tokens_now (token_past tokens trail) ≡ tokens
now-past tokens [] = refl
now-past tokens (edit ∷ older) = refl

pub length-past : (tokens : TokenList) (trail : List Edit) → length (token_past tokens trail) ≡ length trail + 1
length-past tokens [] = refl
length-past tokens (edit ∷ older) = omega (arith, length-past (before edit tokens) older)

-- what a store shows is what it keeps
pub shown : (tokens : TokenList) (trail : List Edit) (view : TokenPast) → token_past tokens trail ≡ view → tokens_now view ≡ tokens
shown tokens trail view is = ap tokens_now (sym is) ∙ now-past tokens trail

-- what is read of a token
pub read : {X : Type 0} (part : TokenName × Token → X) (tokens : TokenList) (view : TokenPast) (place : ℕ) (found : Option (TokenName × Token))
    → tokens_now view ≡ tokens → found ≡ slice_get tokens place → option_map part found ≡ slice_get (map part (tokens_now view)) place
read part tokens view place found shows is =
    ap (option_map part) is ∙ sym (slice_get-map part tokens place) ∙ ap (λ list. slice_get (map part list) place) (sym shows)

pub length-names : (tokens : TokenList) → length (token_names tokens) ≡ length tokens
length-names tokens = length-map tokens (λ token. token.0)

pub length-with_state : (tokens : TokenList) (place : ℕ) (state : TokenState) → length (with_state tokens place state) ≡ length tokens
length-with_state [] place state = refl
length-with_state (token ∷ tokens) zero state = refl
length-with_state (token ∷ tokens) (suc place) state = omega (arith, length-with_state tokens place state)

pub names-with_state : (tokens : TokenList) (place : ℕ) (state : TokenState) → token_names (with_state tokens place state) ≡ token_names tokens
names-with_state [] place state = refl
names-with_state (token ∷ tokens) zero state = refl
names-with_state (token ∷ tokens) (suc place) state = ap (λ names. token.0 ∷ names) (names-with_state tokens place state)

-- ---- names

named_before : (edit : Edit) (tokens : TokenList) → (more : List TokenName) × (token_names tokens ≡ token_names (before edit tokens) ++ more)
named_before Added tokens =
    let front = take (length tokens - 1) tokens in
    let behind = drop (length tokens - 1) tokens in
    (token_names behind, ap token_names (sym (take-append-drop (length tokens - 1) tokens)) ∙ map-append (λ (token : TokenName × Token). token.0) front behind)
named_before (Was place state) tokens = ([], sym (names-with_state tokens place state) ∙ sym (append-nil (token_names (with_state tokens place state))))

-- whatever is further back has names that stand in front
named_past : (tokens : TokenList) (trail : List Edit) (newer older : TokenPast) (there : TokenList) → token_past tokens trail ≡ newer ++ there ∷ older
    → (more : List TokenName) × (token_names tokens ≡ token_names there ++ more)
named_past tokens trail [] older there is =
    ([], ap token_names (sym (now-past tokens trail) ∙ ap tokens_now is) ∙ sym (append-nil (token_names there)))
named_past tokens [] (list ∷ newer) older there is = absurd (omega (arith, ap length is, length-append newer (there ∷ older)))
named_past tokens (edit ∷ trail) (list ∷ newer) older there is =
    let rest = named_past (before edit tokens) trail newer older there (ap (drop 1) is) in
    let last = named_before edit tokens in
    (rest.0 ++ last.0, last.1 ∙ ap (λ names. names ++ last.0) rest.1 ∙ append_assoc (token_names there) rest.0 last.0)

pub names_stay : (tokens : TokenList) (trail : List Edit) (view : TokenPast) → token_past tokens trail ≡ view → NamesStay view
names_stay tokens trail view is = subst NamesStay is (λ newer older there at.
    let named = named_past tokens trail newer older there at in
    (named.0, ap token_names (now-past tokens trail) ∙ named.1))

-- ---- states

value_of : (one other : Token) → Some one ≡ Some other → one ≡ other
value_of one other same = cc

-- writing the state of a token
pub set-state : (tokens : TokenList) (place : ℕ) (value : Token) (state : TokenState) → slice_get (values_of tokens) place ≡ Some value
    → set_value_at tokens place (record { pred = value.pred; state = state }) ≡ with_state tokens place state
set-state [] place value state is = refl
set-state (token ∷ tokens) zero value state is =
    ap (λ (v : Token). (token.0, record { pred = v.pred; state = state }) ∷ tokens) (sym (value_of token.1 value is))
set-state (token ∷ tokens) (suc place) value state is = ap (λ more. token ∷ more) (set-state tokens place value state is)

-- and writing the former one again
pub state-back : (tokens : TokenList) (place : ℕ) (value : Token) (state : TokenState) → slice_get (values_of tokens) place ≡ Some value
    → with_state (with_state tokens place state) place value.state ≡ tokens
state-back [] place value state is = refl
state-back (token ∷ tokens) zero value state is =
    ap (λ (v : Token). (token.0, record { pred = token.1.pred; state = v.state }) ∷ tokens) (sym (value_of token.1 value is))
state-back (token ∷ tokens) (suc place) value state is = ap (λ more. token ∷ more) (state-back tokens place value state is)

-- what was put at the end is taken off
pub before-added : (tokens : TokenList) (token : TokenName × Token) → before Added (tokens ++ token ∷ []) ≡ tokens
before-added tokens token =
    let one : length (tokens ++ token ∷ []) - 1 ≡ length tokens = omega (arith, length-append tokens (token ∷ [])) in
    ap (λ n. take n (tokens ++ token ∷ [])) one ∙ take-append_seam tokens (token ∷ [])

-- the last edit is the first that is gone back over
pub reverse-last : (trail : List Edit) (edit : Edit) → reverse (trail ++ edit ∷ []) ≡ edit ∷ reverse trail
reverse-last trail edit = reverse-append trail (edit ∷ [])

-- tokens that an edit led to from others
pub edited_past : (old new : TokenList) (trail : List Edit) (edit : Edit) → before edit new ≡ old
    → token_past new (reverse (trail ++ edit ∷ [])) ≡ new ∷ token_past old (reverse trail)
edited_past old new trail edit back = ap (token_past new) (reverse-last trail edit) ∙ ap (λ list. new ∷ token_past list (reverse trail)) back

pub edited_trail : (old new : TokenList) (trail : List Edit) (edit : Edit) → before edit new ≡ old → CanLead edit new
    → IsTokenTrail old (reverse trail) → IsTokenTrail new (reverse (trail ++ edit ∷ []))
edited_trail old new trail edit back can led =
    subst (IsTokenTrail new) (sym (reverse-last trail edit)) (can, subst (λ list. IsTokenTrail list (reverse trail)) (sym back) led)

-- the tokens after some edits were taken back
pub record IsReturning (tokens : TokenList) (trail : List Edit) (now : TokenList) (left : List Edit) : Type 0 where
  pub newer : TokenPast
  pub past : token_past tokens trail ≡ newer ++ token_past now left

pub returning_none : (tokens : TokenList) (trail : List Edit) → IsReturning tokens trail tokens trail
returning_none tokens trail = record { newer = []; past = refl }

pub returning_more : (tokens : TokenList) (trail : List Edit) (now new : TokenList) (left : List Edit) (edit : Edit)
    → IsReturning tokens trail now (edit ∷ left) → new ≡ before edit now → IsReturning tokens trail new left
returning_more tokens trail now new left edit returning is = record {
  newer = returning.newer ++ now ∷ [];
  past = returning.past ∙ ap (λ list. returning.newer ++ now ∷ token_past list left) (sym is)
      ∙ sym (append_assoc returning.newer (now ∷ []) (token_past new left));
}

pub returned : (behind : ℕ) (tokens : TokenList) (trail : List Edit) (now : TokenList) (left : List Edit)
    → IsReturning tokens (reverse trail) now (reverse left) → length left ≡ behind
    → LeavesPast behind (token_past tokens (reverse trail)) (token_past now (reverse left))
returned behind tokens trail now left returning long = record {
  newer = returning.newer;
  past = returning.past;
  count = omega (arith, length-past now (reverse left), length-reverse left, long);
}

-- the last edit led to the tokens
pub last_edit : (tokens : TokenList) (trail left : List Edit) (edit : Edit) → trail ≡ left ++ edit ∷ [] → IsTokenTrail tokens (reverse trail)
    → CanLead edit tokens × IsTokenTrail (before edit tokens) (reverse left)
last_edit tokens trail left edit is led = subst (IsTokenTrail tokens) (ap reverse is ∙ reverse-last left edit) led
