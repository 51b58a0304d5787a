use Rattle.std.proofs.Common.{◌≡◌, ◌∷◌, ◌∙◌, true, ap, length, string_bytes, sym}
use Rattle.metis_crew.specs.Terms.{done_count}
use Rattle.metis_commands.proofs.CrewLines.{is_progress_line, is_turn_line, last_left}
use Rattle.metis_commands.specs.Terms.{lines_left, progress_line}
use Rattle.metis_commands.proofs.crew.TurnLinesLines.next_line.Goals as goal

pub returns-in-Some-clause-line : goal.returns-in-Some-clause-line
returns-in-Some-clause-line c more = is_turn_line _ c.step-answer.result c.in_ok-set_turn_line.ensures

pub returns-clause-some : goal.returns-clause-some
returns-clause-some c more =
    let s = c.args.self.now in
    let line : string_bytes c.write.new.self ≡ progress_line (done_count s.crew.actions s.crew.counts) (length s.crew.actions) = simp (c.in_ok-write.ensures.bytes, c.clear.ensures.bytes, c.done_count-done.ensures, s.counted) in
    last_left s.crew.actions s.crew.counts s.turns.now s.ended c.in_default.ensures.cases c.if-self.false ∙ ap (λ l. l ∷ lines_left s.crew.actions s.crew.counts s.turns.now true) (sym line)

pub returns-clause-line : goal.returns-clause-line
returns-clause-line c more = is_progress_line _ c.done_count-done.result c.args.self.now.all (simp (c.in_ok-write.ensures.bytes, c.clear.ensures.bytes))
