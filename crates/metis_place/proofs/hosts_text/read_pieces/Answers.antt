use Rattle.std.proofs.Common.{◌≡◌, ◌∙◌, ap, sym, codes, Bor, List, ℕ, Ok, map}
use Rattle.std.proofs.lemmas.Result.{err_from_is_err_and}
use Rattle.metis_tokens.specs.Terms.{last_piece, text_from, whole_lines}
use Rattle.metis_place.specs.Terms.{host_line_rules, hosts_of}
use Rattle.metis_place.proofs.HostsRead.{all_read, entries_read, fails_read}
use Rattle.metis_place.proofs.hosts_text.read_pieces.Goals as goal

abbrev bytes : Bor (List ℕ) → List ℕ
bytes piece = piece.now

pub hosts-requires : goal.hosts-requires
hosts-requires c =
    let u = c.args.u.now in
    let ps = map bytes c.args.pieces.now in
    let start = ap (λ s. text_from (codes "metis hosts 1") (host_line_rules u) (λ s. s) s (whole_lines ps) (last_piece ps)) (sym c.new-seen.ensures) in
    entries_read u (whole_lines ps) (last_piece ps) (hosts_of u c.read_own.new.seen) (all_read u (whole_lines ps) (last_piece ps) c.read_own.new.seen (start ∙ c.in_ok-read_own.ensures))

pub returns-in_err-read_own : goal.returns-in_err-read_own
returns-in_err-read_own c =
    let u = c.args.u.now in
    let ps = map bytes c.args.pieces.now in
    let start = ap (λ s. text_from (codes "metis hosts 1") (host_line_rules u) (λ s. s) s (whole_lines ps) (last_piece ps)) (sym c.new-seen.ensures) in
    let p = err_from_is_err_and c.from_residual.result c.from_residual.ensures.1 in
    rw (p.1, p.2) (λ known. fails_read u (whole_lines ps) (last_piece ps) _ (start ∙ c.in_err-read_own.ensures known))

pub returns : goal.returns
returns c =
    let u = c.args.u.now in
    let ps = map bytes c.args.pieces.now in
    let start = ap (λ s. text_from (codes "metis hosts 1") (host_line_rules u) (λ s. s) s (whole_lines ps) (last_piece ps)) (sym c.new-seen.ensures) in
    all_read u (whole_lines ps) (last_piece ps) c.read_own.new.seen (start ∙ c.in_ok-read_own.ensures) ∙ ap (λ h. Ok h) (sym c.in_ok-hosts.ensures)
