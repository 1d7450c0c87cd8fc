-- What words ask for lies in its range.
use Rattle.std.proofs.Common.{ℕ, ◌<◌, ◌≤◌, List, [], ◌∷◌, Option, Some, None, sym, subst, arith}
use Rattle.std.specs.Prelude.{IfSome}
use Rattle.run_words.specs.declared.request.Request.{Request}
use Rattle.run_words.specs.declared.request.Request.TheVariants.{Plan, Script, Check, Show, Generate, Try}
use Rattle.run_words.specs.Requests.{Asks, AreStepsOf, AreTokensOf}
use Rattle.europa_run.specs.Pieces.{IsInRange}

abbrev AreSome : Option ℕ → Type 0
AreSome steps = IfSome steps (λ number. 0 < number)

steps_some : (text : Option (List ℕ)) (steps : Option ℕ) → AreStepsOf text steps → AreSome steps
steps_some None steps is = subst AreSome (sym is) tt
steps_some (Some text) steps is =
    let some : 0 < is.0 = omega (arith, is.2.3) in
    subst AreSome (sym is.1) some

tokens_few : (text : Option (List ℕ)) (tokens : ℕ) → AreTokensOf text tokens → tokens ≤ 512
tokens_few None tokens is = omega (arith, is)
tokens_few (Some text) tokens is = is.4

pub asked_in_range : (words : List (List ℕ)) (request : Request (List ℕ)) → Asks words request → IsInRange request
asked_in_range [] request asks = absurd asks
asked_in_range (word ∷ rest) (Plan file steps tokens) asks = (steps_some asks.1.0 steps asks.1.4, tokens_few asks.1.1 tokens asks.1.5)
asked_in_range (word ∷ rest) (Script file) asks = tt
asked_in_range (word ∷ rest) (Check file plan) asks = tt
asked_in_range (word ∷ rest) (Show file) asks = tt
asked_in_range (word ∷ rest) (Generate number) asks = (asks.1.2.3, asks.1.2.4)
asked_in_range (word ∷ rest) (Try number) asks = (asks.1.2.3, asks.1.2.4)
