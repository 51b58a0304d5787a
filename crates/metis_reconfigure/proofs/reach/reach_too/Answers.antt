use Rattle.std.proofs.Common.{◌≡◌, ◌∷◌, [], ap, ◌∙◌, rules}
use Rattle.std.proofs.lemmas.Result.{on_ok_weaker}
use Rattle.metis_ids.specs.Terms.{has}
use Rattle.metis_universe.proofs.Ascending.{has-insert_key}
use Rattle.metis_reconfigure.proofs.Reaching.{under_way-again}
use Rattle.metis_reconfigure.proofs.reach.reach_too.Goals as goal

pub returns : goal.returns
returns c =
    let zs = c.args.seen.now.keys in
    let one : c.push.new.self.items ≡ c.args.z ∷ [] = search rules in
    on_ok_weaker c.follow_all.result (λ reached edges k. reached (c.args.z ∷ zs) edges
    (under_way-again c.args.z edges c.args.left.now.keys zs c.insert.new.self.keys c.push.new.self.items (λ x. ap (λ l. has l x) c.in_ok-insert.ensures.keys ∙ has-insert_key x c.args.z zs) one k)) c.follow_all.ensures
