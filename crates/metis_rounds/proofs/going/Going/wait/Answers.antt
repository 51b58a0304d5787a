use Rattle.std.proofs.Common.{◌≡◌, ◌∙◌, Bool, true, false, refl, not, ◌&&◌, ◌||◌, ◌∷◌, ◌++◌, [], sym, ap}
use Rattle.std.specs.Prelude.{Result, Ok, Err, OnOk}
use Rattle.metis_ids.specs.declared.events.Event.{Event}
use Rattle.metis_ids.specs.declared.events.Event.TheVariants.{At}
use Rattle.metis_lines.specs.Terms.{is_among, is_end, same_event}
use Rattle.metis_rounds.proofs.Goes.{listed}
use Rattle.metis_rounds.specs.Terms.{next_of, row_at, taken_of}
use Rattle.metis_rounds.proofs.going.Going.wait.Goals as goal

-- two clauses of an answer together
both_ok : {A E P Q R : Type 0} (r : Result A E) → OnOk r P → OnOk r Q → (P → Q → R) → OnOk r R
both_ok (Ok a) p q f = f p q
both_ok (Err e) p q f = tt

with_true : (a b c : Bool) → b ≡ true → (a && c) ≡ ((a && b) && c)
with_true true b c h = ap (λ d. d && c) (sym h)
with_true false b c h = refl

pub returns-in-At-clause-waiting : goal.returns-in-At-clause-waiting
returns-in-At-clause-waiting c =
    let next : Event = next_of c.args.self.now.taken.items c.args.line in
    let is : c.count_of.result ≡ taken_of c.args.self.now.taken.items c.args.line = c.count_of.ensures ∙ ap (λ l. taken_of l c.args.line) c.deref.ensures.value in
    both_ok c.push.result c.push.ensures.there c.push.ensures.others (λ there others.
    λ e f. listed c.args.self.now.waiting c.push.new.self c.args.event next (there ∙ ap (λ j. row_at c.args.self.now.waiting c.args.event ++ At c.args.line j ∷ []) is) others e f
    ∙ ap (λ b. is_among (row_at c.args.self.now.waiting e) f || b) (with_true (same_event e c.args.event) (not (is_end c.args.event)) (same_event next f) (ap (λ o. not (is_end o)) c.in-At.is)))
