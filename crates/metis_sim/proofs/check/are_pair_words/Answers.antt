use Rattle.std.proofs.Common.{ℕ, List, Bor, ◌∙◌, rules, tests}
use Rattle.std.proofs.lemmas.Iterator.{YieldsList-from_slice}
use Rattle.std.proofs.lemmas.Iterator.Search.{all_from_yields_List}
use Rattle.metis_sim.proofs.WordLists.{list_all-texts}
use Rattle.metis_sim.specs.Terms.{is_pair_word}
use Rattle.metis_sim.proofs.check.are_pair_words.Goals as goal

pub returns : goal.returns
returns c =
    let ts = c.args.words.now in
    all_from_yields_List (λ (t : Bor (List ℕ)). is_pair_word t.now) _ _ c.all.result c.all.ensures.ran (YieldsList-from_slice ts cc) (λ x b q k. search (rules, tests)) ∙ list_all-texts is_pair_word ts
