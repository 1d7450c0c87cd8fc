use Rattle.std.proofs.Common.{◌≡◌, ◌∙◌, ap, map, rules, subst, sym, List, ℕ, Some, None}
use Rattle.std.specs.Prelude.{All}
use Rattle.std.specs.Borrow.{Bor}
use Rattle.std.specs.Str.{IsUtf8}
use Rattle.run_words.specs.Requests.{Answers, AreNoCommand, Asks, told_request}
use Rattle.run_words.proofs.request.read_words.Goals as goal

pub request_of-requires : goal.request_of-requires
request_of-requires c = subst (All (λ (text : Bor (List ℕ)). IsUtf8 text.now)) (sym c.as_slice.ensures.value) c.in_ok-texts.ensures.1

pub returns-in-None : goal.returns-in-None
returns-in-None c =
    let same : map (λ (text : Bor (List ℕ)). text.now) c.as_slice.result.now ≡ c.args.words.now =
    ap (map (λ (text : Bor (List ℕ)). text.now)) c.as_slice.ensures.value ∙ c.in_ok-texts.ensures.0 in
    let none : Answers (map (λ (text : Bor (List ℕ)). text.now) c.as_slice.result.now) None = search rules in
    subst AreNoCommand same none
