use Rattle.metis_text.specs.Terms.{unbind_action}
use Rattle.metis_text.proofs.Shapes.{no_token, tie_three}
use Rattle.metis_text.proofs.action_line.unbind_words.Goals as goal

pub returns-in-len3-up : goal.returns-in-len3-up
returns-in-len3-up c = tie_three c.args.u.now unbind_action c.args.args.now no_token c.unbind_in.result c.in-len3-up.len_at_least c.unbind_in.ensures
