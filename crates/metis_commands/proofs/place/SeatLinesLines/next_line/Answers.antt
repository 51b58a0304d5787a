use Rattle.std.proofs.Common.{◌≡◌, ◌+◌, ◌<◌, ◌∷◌, ◌∙◌, ap, arith, drop, get_or, length, string_bytes, sym}
use Rattle.std.proofs.lemmas.List.{drop_all, get_or_read}
use Rattle.metis_commands.proofs.PlaceLines.{seats_end, seats_next}
use Rattle.metis_commands.specs.Terms.{on_line, on_lines}
use Rattle.metis_place.specs.Terms.{name_of}
use Rattle.metis_commands.proofs.place.SeatLinesLines.next_line.Goals.{then-self-len-via-then-self-len, then-self-len-via-else-self-len+then-self-len-2}
use Rattle.metis_commands.proofs.place.SeatLinesLines.next_line.Goals as goal

pub returns-then-self-len-clause-none : goal.returns-then-self-len-clause-none
returns-then-self-len-clause-none c = λ none.
    let s = c.args.self.now in
    let places = drop s.at s.places.items in
    elim c.then-self-len.branch [
      | then-self-len-via-then-self-len w ↦ ap (λ ms. on_lines s.hosts.now ms places) (drop_all s.at s.made.items (omega (arith, w.if-self-len.true)))
      | then-self-len-via-else-self-len+then-self-len-2 w ↦ seats_end s.hosts.now (drop s.at s.made.items) places (drop_all s.at s.places.items (omega (arith, w.if-self-len-2.true)))
    ]

pub returns-then-self-len-clause-ended : goal.returns-then-self-len-clause-ended
returns-then-self-len-clause-ended c = returns-then-self-len-clause-none c

pub returns-clause-some : goal.returns-clause-some
returns-clause-some c more =
    let s = c.args.self.now in
    let low : s.at < length s.made.items = omega (arith, c.if-self-len.false, c.len.ensures) in
    let low' : s.at < length s.places.items = omega (arith, c.if-self-len-2.false, c.len-else-self-len.ensures) in
    let made = get_or_read s.made.items _ _ low c.index.ensures 0 in
    let place = get_or_read s.places.items _ _ low' c.index-2.ensures 0 in
    let line : string_bytes c.write.new.self ≡ on_line (get_or s.made.items s.at 0) (name_of s.hosts.now (get_or s.places.items s.at 0)) =
    simp (c.in_ok-write.ensures.bytes, c.clear.ensures.bytes, c.number-z.ensures, c.name-host.ensures, made, place) in
    seats_next s.hosts.now s.made.items s.places.items s.at low low' ∙ ap (λ l. l ∷ on_lines s.hosts.now (drop (s.at + 1) s.made.items) (drop (s.at + 1) s.places.items)) (sym line)
