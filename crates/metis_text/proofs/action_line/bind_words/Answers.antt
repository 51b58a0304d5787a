use Rattle.metis_text.specs.Terms.{bind_action}
use Rattle.metis_text.proofs.Shapes.{no_token, tie_three}
use Rattle.metis_text.proofs.action_line.bind_words.Goals as goal

pub returns-in-len3-up : goal.returns-in-len3-up
returns-in-len3-up c = tie_three c.args.u.now bind_action c.args.args.now no_token c.bind_in.result c.in-len3-up.len_at_least c.bind_in.ensures
