-- Classes of which some are kept, with a built-in one behind them.
use Rattle.std.proofs.Common.{◌≡◌, ℕ, Bool, true, false, cond, List, [], ◌∷◌, refl, sym, ◌∙◌, ap}
use Rattle.std.specs.List.{filter}
use Rattle.nddl_symbols.specs.declared.scope.Meaning.{Meaning}
use Rattle.nddl_symbols.specs.declared.scope.Meaning.TheVariants as meanings
use Rattle.nddl_hierarchy.specs.Shorter.{KeepTheSame}
use Rattle.nddl_construction.specs.Classes.{behind_all, is_kept}

kept_behind : (test : ℕ → Bool) (number : ℕ) (line : List ℕ) → filter (is_kept test) (behind_all number line) ≡ behind_all number (filter test line)
kept_behind test number [] = refl
kept_behind test number (entry ∷ line) = by (test entry) (kept_behind test number line)
  where
    by : (passes : Bool) → filter (is_kept test) (behind_all number line) ≡ behind_all number (filter test line)
        → cond passes (meanings.Entry entry ∷ filter (is_kept test) (behind_all number line)) (filter (is_kept test) (behind_all number line))
        ≡ behind_all number (cond passes (entry ∷ filter test line) (filter test line))
    by true rest = ap (λ more. meanings.Entry entry ∷ more) rest
    by false rest = rest

-- where the same ones are kept of the two lines, they are so with the built-in class
pub same_behind : (test : ℕ → Bool) (number other_number : ℕ) (one other : List ℕ) (line : List Meaning) → number ≡ other_number
    → line ≡ behind_all number one → KeepTheSame test one other
    → KeepTheSame (is_kept test) line (behind_all other_number other)
same_behind test number other_number one other line numbers is same =
    ap (filter (is_kept test)) (is ∙ ap (λ n. behind_all n one) numbers)
    ∙ (kept_behind test other_number one ∙ (ap (behind_all other_number) same ∙ sym (kept_behind test other_number other)))
