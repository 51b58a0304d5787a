use Rattle.metis_text.proofs.Shapes.{new_two, no_token}
use Rattle.metis_text.proofs.action_line.new_words.Goals as goal

pub returns-in-len2-up : goal.returns-in-len2-up
returns-in-len2-up c = new_two c.args.u.now c.args.args.now no_token c.new_in.result c.in-len2-up.len_at_least c.new_in.ensures
