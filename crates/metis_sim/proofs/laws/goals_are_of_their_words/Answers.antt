use Rattle.std.proofs.Common.{[], Some, map, sym, ap, ◌∙◌}
use Rattle.metis_sim.proofs.CheckWords.{goals_from, words_of}
use Rattle.metis_sim.proofs.laws.goals_are_of_their_words.Goals as goal

pub returns : goal.returns
returns c = λ u words goals. (λ h. let r = words_of u words [] goals h in r.2 ∙ ap (map (λ g. Some g)) (sym r.1), λ h. goals_from u words [] goals h)
