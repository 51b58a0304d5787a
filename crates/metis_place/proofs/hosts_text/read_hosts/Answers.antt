use Rattle.std.proofs.Common.{◌≤◌, ap, ◌∙◌, subst, arith, length, map, Bor, List, ℕ}
use Rattle.metis_place.specs.Terms.{ReadsHosts, text_of}
use Rattle.metis_tokens.specs.Terms.{last_piece, whole_lines}
use Rattle.std.proofs.lemmas.List.{length-map}
use Rattle.metis_place.proofs.HostsBroken.{fault_read}
use Rattle.metis_place.proofs.HostsRead.{few_read, sizes_read, text_read}
use Rattle.metis_place.proofs.hosts_text.read_hosts.Goals as goal

pub returns-clause-few : goal.returns-clause-few
returns-clause-few c =
    let ps = c.deref.result.now in
    let count : length (map (λ (piece : Bor (List ℕ)). piece.now) ps) ≤ 65537 = omega (arith, length-map ps (λ (piece : Bor (List ℕ)). piece.now), ap length c.deref.ensures.value, c.in_ok-pieces.ensures.few, c.requires) in
    few_read c.args.u.now (map (λ (piece : Bor (List ℕ)). piece.now) ps) count c.read_pieces.result c.read_pieces.ensures

pub returns-clause-sizes : goal.returns-clause-sizes
returns-clause-sizes c = sizes_read c.args.u.now (map (λ (piece : Bor (List ℕ)). piece.now) c.deref.result.now) c.read_pieces.result c.read_pieces.ensures

pub returns-clause-text : goal.returns-clause-text
returns-clause-text c =
    text_read c.args.u.now c.args.bytes.now c.read_pieces.result
    (subst (λ ps. ReadsHosts c.read_pieces.result (text_of c.args.u.now (whole_lines ps) (last_piece ps))) (ap (map (λ (piece : Bor (List ℕ)). piece.now)) c.deref.ensures.value ∙ c.in_ok-pieces.ensures.pieces) c.read_pieces.ensures)

pub returns-clause-fault : goal.returns-clause-fault
returns-clause-fault c =
    fault_read c.args.u.now c.args.bytes.now c.read_pieces.result
    (subst (λ ps. ReadsHosts c.read_pieces.result (text_of c.args.u.now (whole_lines ps) (last_piece ps))) (ap (map (λ (piece : Bor (List ℕ)). piece.now)) c.deref.ensures.value ∙ c.in_ok-pieces.ensures.pieces) c.read_pieces.ensures)
