use Rattle.std.proofs.Common.{◌≡◌, ◌∙◌, ◌<◌, ◌≤◌, ◌+◌, true, ℕ, drop, length, refl, sym, ap, subst, arith, nat_eq, nat_lt, not, ◌&&◌, ◌||◌, inr, set}
use Rattle.std.specs.List.{list_any}
use Rattle.std.specs.Prelude.{Result, Ok, Err, OnOk}
use Rattle.std.proofs.lemmas.Bool.{lt-ltb, and_from}
use Rattle.std.proofs.lemmas.List.Sums.{sum_by-set}
use Rattle.std.proofs.lemmas.Result.{on_ok_weaker}
use Rattle.metis_ids.specs.Terms.{has}
use Rattle.metis_lines.proofs.Formed.{lines_formed}
use Rattle.metis_events.proofs.AllEvents.{edges_join_events}
use Rattle.metis_lines.specs.Terms.{is_among, is_end, is_event, plan_of, same_event, step_count}
use Rattle.metis_rounds.proofs.Goes.{here, next_line, no_fewer, row_of_event, skipped, took, waited}
use Rattle.metis_rounds.specs.Terms.{HasSeen, all_taken, has_row, is_on, next_of, row_at, taken_of, with_next}
use Rattle.metis_rounds.proofs.going.Going.try_line.Goals as goal

-- clauses of an answer together
all_ok : {A E P Q R S T U V W : Type 0} (r : Result A E) → OnOk r P → OnOk r Q → OnOk r R → OnOk r S → OnOk r T → OnOk r U → OnOk r V → (P → Q → R → S → T → U → V → W) → OnOk r W
all_ok (Ok a) p q r s t u v f = f p q r s t u v
all_ok (Err e) p q r s t u v f = tt

all_took : {A E P Q R S T U : Type 0} (r : Result A E) → OnOk r P → OnOk r Q → OnOk r R → OnOk r S → OnOk r T → (P → Q → R → S → T → U) → OnOk r U
all_took (Ok a) p q r s t f = f p q r s t
all_took (Err e) p q r s t f = tt

pub count_of-requires : goal.count_of-requires
count_of-requires c =
    let low = here c.args.over.now.universe c.args.over.now.support c.args.over.now.lines c.args.tables.now.returns c.args.work.now c.args.place c.index-work-place.result c.args.self.now c.requires.place c.index-work-place.is c.requires.going in
    omega (arith, low, c.requires.going.taken, ap length c.deref.ensures.value)

pub returns-then-count_of-step_count-clause-going : goal.returns-then-count_of-step_count-clause-going
returns-then-count_of-step_count-clause-going c =
    let taken : c.count_of.result ≡ taken_of c.args.self.now.taken.items c.index-work-place.result = c.count_of.ensures ∙ ap (λ l. taken_of l c.index-work-place.result) c.deref.ensures.value in
    let all : step_count (plan_of c.args.over.now.universe c.args.over.now.support c.args.over.now.lines) c.index-work-place.result ≤ taken_of c.args.self.now.taken.items c.index-work-place.result = omega (arith, taken, c.if-count_of-step_count.true, c.step_count.ensures.count) in
    skipped c.args.over.now.universe c.args.over.now.support c.args.over.now.lines c.args.tables.now.returns c.index-work-place.result (drop (c.args.place + 1) c.args.work.now) c.args.self.now c.args.self.now
    (next_line c.args.over.now.universe c.args.over.now.support c.args.over.now.lines c.args.tables.now.returns c.args.work.now c.args.place c.index-work-place.result c.args.self.now c.requires.place c.index-work-place.is c.requires.going) all

pub waited_for-requires-clause-next : goal.waited_for-requires-clause-next
waited_for-requires-clause-next c =
    let low = here c.args.over.now.universe c.args.over.now.support c.args.over.now.lines c.args.tables.now.returns c.args.work.now c.args.place c.index-work-place.result c.args.self.now c.requires.place c.index-work-place.is c.requires.going in
    let taken : c.count_of.result ≡ taken_of c.args.self.now.taken.items c.index-work-place.result = c.count_of.ensures ∙ ap (λ l. taken_of l c.index-work-place.result) c.deref.ensures.value in
    let other : taken_of c.args.self.now.taken.items c.index-work-place.result ≡ step_count (plan_of c.args.over.now.universe c.args.over.now.support c.args.over.now.lines) c.index-work-place.result → ⊥ = λ same. c.if-count_of-step_count.false (taken ∙ same ∙ sym c.step_count.ensures.count) in
    let few = c.requires.going.steps c.index-work-place.result low in
    omega (arith, other, few)

pub wait-requires-clause-line : goal.wait-requires-clause-line
wait-requires-clause-line c =
    let low = here c.args.over.now.universe c.args.over.now.support c.args.over.now.lines c.args.tables.now.returns c.args.work.now c.args.place c.index-work-place.result c.args.self.now c.requires.place c.index-work-place.is c.requires.going in
    omega (arith, low, c.waited_for.ensures.places.taken)

pub wait-requires-clause-row : goal.wait-requires-clause-row
wait-requires-clause-row c = λ open_end.
    let w = plan_of c.args.over.now.universe c.args.over.now.support c.args.over.now.lines in
    let formed = lines_formed c.args.over.now.universe c.args.over.now.support c.keeps_invariant.ensures.over.support c.args.over.now.lines c.keeps_invariant.ensures.over.lines in
    let there = (edges_join_events c.args.over.now.universe w formed c.in-Some.event (next_of c.args.self.now.taken.items c.index-work-place.result) c.in-Some.ensures.some.0).0 in
    ap (λ t. has_row t c.in-Some.event) c.waited_for.ensures.same_waiting ∙ row_of_event w c.args.self.now.waiting c.requires.going.rows c.in-Some.event there open_end

pub waited_for-requires-clause-places : goal.waited_for-requires-clause-places
waited_for-requires-clause-places c = record { taken = c.requires.going.taken; met = c.requires.going.met; left = c.requires.going.left; seen = c.requires.going.seen }

pub take-requires-clause-line : goal.take-requires-clause-line
take-requires-clause-line c =
    let low = here c.args.over.now.universe c.args.over.now.support c.args.over.now.lines c.args.tables.now.returns c.args.work.now c.args.place c.index-work-place.result c.args.self.now c.requires.place c.index-work-place.is c.requires.going in
    let places = c.waited_for.ensures.places in
    record { taken = omega (arith, low, places.taken); met = omega (arith, low, places.met); left = omega (arith, low, places.left) }

pub take-requires-clause-few : goal.take-requires-clause-few
take-requires-clause-few c =
    let low = here c.args.over.now.universe c.args.over.now.support c.args.over.now.lines c.args.tables.now.returns c.args.work.now c.args.place c.index-work-place.result c.args.self.now c.requires.place c.index-work-place.is c.requires.going in
    let taken : c.count_of.result ≡ taken_of c.args.self.now.taken.items c.index-work-place.result = c.count_of.ensures ∙ ap (λ l. taken_of l c.index-work-place.result) c.deref.ensures.value in
    let other : taken_of c.args.self.now.taken.items c.index-work-place.result ≡ step_count (plan_of c.args.over.now.universe c.args.over.now.support c.args.over.now.lines) c.index-work-place.result → ⊥ = λ same. c.if-count_of-step_count.false (taken ∙ same ∙ sym c.step_count.ensures.count) in
    let few = c.requires.going.steps c.index-work-place.result low in
    let same = ap (λ ms. taken_of ms c.index-work-place.result) c.waited_for.ensures.same_taken in
    omega (arith, other, few, same, c.step_count.ensures.count, c.step_count.ensures.few)

pub take-requires-clause-row : goal.take-requires-clause-row
take-requires-clause-row c =
    let w = plan_of c.args.over.now.universe c.args.over.now.support c.args.over.now.lines in
    let low = here c.args.over.now.universe c.args.over.now.support c.args.over.now.lines c.args.tables.now.returns c.args.work.now c.args.place c.index-work-place.result c.args.self.now c.requires.place c.index-work-place.is c.requires.going in
    let taken : c.count_of.result ≡ taken_of c.args.self.now.taken.items c.index-work-place.result = c.count_of.ensures ∙ ap (λ l. taken_of l c.index-work-place.result) c.deref.ensures.value in
    let other : taken_of c.args.self.now.taken.items c.index-work-place.result ≡ step_count w c.index-work-place.result → ⊥ = λ same. c.if-count_of-step_count.false (taken ∙ same ∙ sym c.step_count.ensures.count) in
    let few = c.requires.going.steps c.index-work-place.result low in
    let next = next_of c.args.self.now.taken.items c.index-work-place.result in
    let there : is_event w next ≡ true = and_from (nat_lt c.index-work-place.result (length c.args.over.now.lines.lines)) (nat_lt (taken_of c.args.self.now.taken.items c.index-work-place.result) (step_count w c.index-work-place.result)) (lt-ltb c.index-work-place.result (length c.args.over.now.lines.lines) low) (lt-ltb (taken_of c.args.self.now.taken.items c.index-work-place.result) (step_count w c.index-work-place.result) (omega (arith, other, few))) in
    (λ i. has_row (c.waited_for.ensures.same_waiting i) (next_of (c.waited_for.ensures.same_taken i) c.index-work-place.result)) ∙ row_of_event w c.args.self.now.waiting c.requires.going.rows next there refl

pub returns-in-Some-clause-going : goal.returns-in-Some-clause-going
returns-in-Some-clause-going c =
    let u = c.args.over.now.universe in
    let s = c.args.over.now.support in
    let x = c.args.over.now.lines in
    let g = c.args.self.now in
    let line = c.index-work-place.result in
    let before = next_line u s x c.args.tables.now.returns c.args.work.now c.args.place line g c.requires.place c.index-work-place.is c.requires.going in
    let low = here u s x c.args.tables.now.returns c.args.work.now c.args.place line g c.requires.place c.index-work-place.is c.requires.going in
    let taken : c.count_of.result ≡ taken_of g.taken.items line = c.count_of.ensures ∙ ap (λ l. taken_of l line) c.deref.ensures.value in
    let other : taken_of g.taken.items line ≡ step_count (plan_of u s x) line → ⊥ = λ same. c.if-count_of-step_count.false (taken ∙ same ∙ sym c.step_count.ensures.count) in
    let few : taken_of g.taken.items line < step_count (plan_of u s x) line = omega (arith, other, c.requires.going.steps line low) in
    let a = c.waited_for.ensures in
    let seen = subst (λ ns. HasSeen u s x c.args.tables.now.returns ns c.waited_for.new.self.met.items c.waited_for.new.self.left.items) a.same_taken a.places.seen in
    all_ok c.wait.result (c.wait.ensures.same_taken) (c.wait.ensures.same_met) (c.wait.ensures.same_left) (c.wait.ensures.same_work) (c.wait.ensures.count) (c.wait.ensures.has) (c.wait.ensures.waiting) (λ t m f k n h b.
    waited u s x c.args.tables.now.returns line (drop (c.args.place + 1) c.args.work.now) g c.wait.new.self before c.in-Some.event c.in-Some.ensures.some few
    (t ∙ a.same_taken)
    (subst (λ ms. HasSeen u s x c.args.tables.now.returns g.taken.items ms c.wait.new.self.left.items) (sym m) (subst (λ fs. HasSeen u s x c.args.tables.now.returns g.taken.items c.waited_for.new.self.met.items fs) (sym f) seen))
    (ap length m ∙ a.places.met) (ap length f ∙ a.places.left) (k ∙ a.same_work)
    (n ∙ ap length a.same_waiting)
    (λ e. h e ∙ ap (λ ts. has_row ts e) a.same_waiting)
    (λ e o. b e o ∙ (λ i. is_among (row_at (a.same_waiting i) e) o || (same_event e c.in-Some.event && not (is_end c.in-Some.event) && same_event (next_of (a.same_taken i) line) o))))

pub returns-in-None-clause-going : goal.returns-in-None-clause-going
returns-in-None-clause-going c =
    let u = c.args.over.now.universe in
    let s = c.args.over.now.support in
    let x = c.args.over.now.lines in
    let g = c.args.self.now in
    let v = c.take.new.self in
    let line = c.index-work-place.result in
    let before = next_line u s x c.args.tables.now.returns c.args.work.now c.args.place line g c.requires.place c.index-work-place.is c.requires.going in
    let low = here u s x c.args.tables.now.returns c.args.work.now c.args.place line g c.requires.place c.index-work-place.is c.requires.going in
    let taken : c.count_of.result ≡ taken_of g.taken.items line = c.count_of.ensures ∙ ap (λ l. taken_of l line) c.deref.ensures.value in
    let other : taken_of g.taken.items line ≡ step_count (plan_of u s x) line → ⊥ = λ same. c.if-count_of-step_count.false (taken ∙ same ∙ sym c.step_count.ensures.count) in
    let few : taken_of g.taken.items line < step_count (plan_of u s x) line = omega (arith, other, c.requires.going.steps line low) in
    let a = c.waited_for.ensures in
    let seen = subst (λ ns. HasSeen u s x c.args.tables.now.returns ns c.waited_for.new.self.met.items c.waited_for.new.self.left.items) a.same_taken a.places.seen in
    all_took c.take.result c.take.ensures.taken c.take.ensures.met c.take.ensures.left c.take.ensures.waiting c.take.ensures.work (λ t m f empties k.
    took u s x c.args.tables.now.returns line (drop (c.args.place + 1) c.args.work.now) g v before c.in-None.ensures.none few
    (t ∙ ap (λ ms. with_next ms line) a.same_taken)
    c.waited_for.new.self.met.items c.waited_for.new.self.left.items seen a.places.met a.places.left m f
    (empties.count ∙ ap length a.same_waiting)
    (λ d. empties.has d ∙ ap (λ ts. has_row ts d) a.same_waiting)
    (ap (λ ms. row_at v.waiting (next_of ms line)) (sym a.same_taken) ∙ empties.emptied)
    (λ d apart. empties.others d (ap (λ ms. same_event d (next_of ms line)) a.same_taken ∙ apart) ∙ ap (λ ts. row_at ts d) a.same_waiting)
    (λ l. k l ∙ (λ i. has (a.same_work i) l || nat_eq line l || list_any (is_on l) (row_at (a.same_waiting i) (next_of (a.same_taken i) line)))))

pub returns-in-None-clause-more : goal.returns-in-None-clause-more
returns-in-None-clause-more c =
    let g = c.args.self.now in
    let line = c.index-work-place.result in
    let low = here c.args.over.now.universe c.args.over.now.support c.args.over.now.lines c.args.tables.now.returns c.args.work.now c.args.place line g c.requires.place c.index-work-place.is c.requires.going in
    on_ok_weaker c.take.result (λ t. inr (
    let is : c.take.new.self.taken.items ≡ set g.taken.items line (taken_of g.taken.items line + 1) = t ∙ ap (λ ms. with_next ms line) c.waited_for.ensures.same_taken in
    omega (arith, ap all_taken is, sum_by-set (λ (n : ℕ). n) g.taken.items line (taken_of g.taken.items line + 1) 0 (omega (arith, low, c.requires.going.taken))))) c.take.ensures.taken

pub returns-in-None-clause-kept : goal.returns-in-None-clause-kept
returns-in-None-clause-kept c =
    let g = c.args.self.now in
    let line = c.index-work-place.result in
    let low = here c.args.over.now.universe c.args.over.now.support c.args.over.now.lines c.args.tables.now.returns c.args.work.now c.args.place line g c.requires.place c.index-work-place.is c.requires.going in
    on_ok_weaker c.take.result (λ t l.
    let is = t ∙ ap (λ ms. with_next ms line) c.waited_for.ensures.same_taken in
    subst (λ ms. taken_of g.taken.items l ≤ taken_of ms l) (sym is) (no_fewer g.taken.items line (omega (arith, low, c.requires.going.taken)) l)) c.take.ensures.taken
