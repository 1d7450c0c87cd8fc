use Rattle.law_search.proofs.Searching.{found_by, none_by}
use Rattle.law_search.proofs.searches.exhausted_is_a_proof.Goals as goal

pub returns-clause-found : goal.returns-clause-found
returns-clause-found c = λ model bound units decisions found outcome lawful few settled searches ends.
    found_by model lawful bound few units units decisions found outcome settled searches ends

pub returns-clause-exhausted : goal.returns-clause-exhausted
returns-clause-exhausted c = λ model bound units decisions outcome plan lawful few settled searches ends fits covered.
    none_by model lawful bound few units units decisions outcome plan settled searches ends fits covered
