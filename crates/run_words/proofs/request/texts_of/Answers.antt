use Rattle.std.proofs.Common.{◌≡◌, ◌∙◌, arith, rules, subst, sym}
use Rattle.std.specs.Prelude.{All, List, ℕ, [], map, take, ◌+◌}
use Rattle.std.specs.Borrow.{Bor}
use Rattle.std.specs.Str.{IsUtf8}
use Rattle.std.proofs.lemmas.Grind.{common_steps}
use Rattle.std.proofs.lemmas.List.{take_all}
use Rattle.std.proofs.lemmas.List.Elements.{All-nil, All-push}
use Rattle.run_words.proofs.request.texts_of.Goals as goal

pub loop-word-init : goal.loop-word-init
loop-word-init c =
    let empty : c.new-texts.result.items ≡ [] = search rules in
    (search rules, subst (All (λ (text : Bor (List ℕ)). IsUtf8 text.now)) (sym empty) (All-nil (λ (text : Bor (List ℕ)). IsUtf8 text.now)))

pub loop-word-preserved : goal.loop-word-preserved
loop-word-preserved c =
    let so_far : map (λ (text : Bor (List ℕ)). text.now) c.loop-word.texts.items ≡ take c.loop-word.word-index c.args.words.now = c.loop-word.invariant.0 in (
      grind (arith, common_steps, so_far),
      subst (All (λ (text : Bor (List ℕ)). IsUtf8 text.now)) (sym c.in_ok-push.ensures.items)
          (All-push (λ (text : Bor (List ℕ)). IsUtf8 text.now) c.loop-word.texts.items c.as_str.result c.loop-word.invariant.1 c.as_str.utf8),
    )

pub returns : goal.returns
returns c = (c.loop-word.invariant.0 ∙ take_all c.loop-word.word-index c.args.words.now c.loop-word-test.false, c.loop-word.invariant.1)
