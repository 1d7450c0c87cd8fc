-- Laws of command lines.
use Rattle.std.specs.Prelude.{◌≡◌, ℕ, List}
use Rattle.run_words.specs.Requests.{Asks}
use Rattle.run_words.specs.declared.request.Request.{Request}

-- the words ask for one request at most
abbrev pub WordsAskOnce : Type 0
WordsAskOnce = (words : List (List ℕ)) (one other : Request (List ℕ)) → Asks words one → Asks words other → one ≡ other
