-- A script, a line further.
use Rattle.std.proofs.Common.{◌≡◌, ◌≢◌, ℕ, zero, suc, take, slice_get, ◌+◌, ◌≤◌, ◌<◌, Bool, true, false, cond, not, List, [], ◌∷◌, ◌++◌, length, drop, get_or, map, Option, Some, None, refl, sym, ap, ◌∙◌, length-append, arith}
use Rattle.std.proofs.Math.Seq.{drop-cons}
use Rattle.std.specs.Option.{option_map_or}
use Rattle.std.proofs.lemmas.Option.{same_Some}
use Rattle.metis_ids.specs.declared.actions.Action.{Action}
use Rattle.metis_universe.specs.Terms.{has, numbers}
use Rattle.metis_crew.specs.Terms.{is_done}
use Rattle.metis_control.specs.Terms.{IsHeard, WorldState, after_events, after_lines, answer_of, answer_to, answers, came, end_lines, events_of, first_wait, happening_in, hear, held_or_sent, lines_left, packet_at}
use Rattle.metis_control.specs.declared.happening.Happening.{Happening}
use Rattle.metis_control.specs.declared.happening.Happening.TheVariants as event
use Rattle.metis_control.specs.declared.happening.Packet.{Packet}
use Rattle.metis_control.specs.declared.happening.Packet.TheVariants as packet
use Rattle.metis_control.specs.declared.happening.Told.{Told}
use Rattle.metis_control.specs.declared.happening.Told.TheVariants as told

-- ---- at most one packet more

module _ (A : List Action) (w : WorldState) where
  abbrev IsFew : Told × WorldState → Type 0
  IsFew heard = length heard.1.packets ≤ length w.packets + 1

  either : (b : Bool) (x y : Told × WorldState) → IsFew x → IsFew y → IsFew (cond b x y)
  either true x y p q = p
  either false x y p q = q

  same : length w.packets ≤ length w.packets + 1
  same = omega arith

  one_more : (p : Packet) → length (w.packets ++ p ∷ []) ≤ length w.packets + 1
  one_more p = omega (arith, length-append w.packets (p ∷ []))

  sent_few : (k : ℕ) (o : Option ℕ) → IsFew (held_or_sent w k o)
  sent_few k None = one_more (packet.Order k)
  sent_few k (Some m) = same

  came_few : (p : Packet) → IsFew (came A w p)
  came_few (packet.Order k) = either (is_done A w.counts k) _ _ (one_more (packet.Ack k)) (one_more (packet.Ack k))
  came_few (packet.Ack k) = either (has w.acked k) _ _ same same

  delivered_few : (n : ℕ) (o : Option Packet) (none : Told × WorldState) → IsFew none → IsFew (option_map_or (came A w) o none)
  delivered_few n None none few = few
  delivered_few n (Some p) none few = came_few p

  hear_few : (e : Happening) → IsFew (hear A w e)
  hear_few (event.Order k) = either (not (has (numbers A) k)) _ _ same (either (has w.acked k) _ _ same (sent_few k (first_wait A w.acked k)))
  hear_few (event.Deliver n) = delivered_few n (packet_at w.packets n) _ same
  hear_few (event.Restart n) = either _ _ _ same same

  pub heard_few : (e : Happening) → length (hear A w e).1.packets ≤ length w.packets + 1
  heard_few e = hear_few e

  of_few : (o : Option Happening) → length (answer_of A w o).1.packets ≤ length w.packets + 1
  of_few None = same
  of_few (Some e) = hear_few e

  pub answer_few : (line : List ℕ) → length (answer_to A w line).1.packets ≤ length w.packets + 1
  answer_few line = of_few (happening_in line)

-- ---- the lines that are left

-- the next line, and those behind it
pub next_line : {X : Type 0} (bytes : X → List ℕ) (xs : List X) (i : ℕ) (d : X) → i < length xs → map bytes (drop i xs) ≡ bytes (get_or xs i d) ∷ map bytes (drop (i + 1) xs)
next_line bytes xs i d low =
    let step : suc i ≡ i + 1 = omega arith in
    ap (map bytes) (drop-cons xs i d low) ∙ ap (λ n. bytes (get_or xs i d) ∷ map bytes (drop n xs)) step

-- all lines are those that are left at the start
pub all_left : (A : List Action) (w : WorldState) (lines : List (List ℕ)) → lines_left A w lines false false ≡ answers A w lines ++ end_lines A (after_lines A w lines)
all_left A w [] = refl
all_left A w (line ∷ lines) = ap (λ l. (answer_to A w line).0 ∷ l) (all_left A (answer_to A w line).1 lines)

-- what is told, unless memory ran out
pub heard_is : (answer : Told) (old : WorldState) (heard : Told × WorldState) (new : WorldState) → answer ≢ told.NoMemory → IsHeard answer old heard new → (answer ≡ heard.0) × (new ≡ heard.1)
heard_is told.NoMemory old heard new named is = absurd (named refl)
heard_is (told.Sent p) old heard new named is = is
heard_is (told.Held k m) old heard new named is = is
heard_is (told.Acked k) old heard new named is = is
heard_is (told.NoAction k) old heard new named is = is
heard_is (told.Executed k p) old heard new named is = is
heard_is (told.Again k p) old heard new named is = is
heard_is (told.Noted k) old heard new named is = is
heard_is (told.Known k) old heard new named is = is
heard_is (told.NoPacket n) old heard new named is = is
heard_is (told.Restarted n) old heard new named is = is
heard_is (told.NoRestart n) old heard new named is = is

-- ---- the events of the lines

pub lines_are_events : (A : List Action) (w : WorldState) (lines : List (List ℕ)) → after_lines A w lines ≡ after_events A w (events_of lines)
lines_are_events A w [] = refl
lines_are_events A w (line ∷ lines) = by_event (λ v. lines_are_events A v lines) (happening_in line) where
  by_event : ((v : WorldState) → after_lines A v lines ≡ after_events A v (events_of lines)) → (o : Option Happening)
      → after_lines A (answer_of A w o).1 lines ≡ after_events A w (option_map_or (λ e. e ∷ events_of lines) o (events_of lines))
  by_event others None = others w
  by_event others (Some e) = others (hear A w e).1

-- ---- the answer of a line

no_line : (a : List ℕ) → None ≡ Some a → ⊥
no_line a h = cc

pub line_is_answered : (A : List Action) (w : WorldState) (lines : List (List ℕ)) (i : ℕ) (line : List ℕ) → slice_get lines i ≡ Some line
    → slice_get (answers A w lines) i ≡ Some (answer_to A (after_events A w (events_of (take i lines))) line).0
line_is_answered A w [] i line at = absurd (no_line line at)
line_is_answered A w (l ∷ lines) zero line at = ap (λ l. Some (answer_to A w l).0) (same_Some l line at)
line_is_answered A w (l ∷ lines) (suc i) line at =
    line_is_answered A (answer_to A w l).1 lines i line at ∙ ap (λ v. Some (answer_to A v line).0) (sym (lines_are_events A (answer_to A w l).1 (take i lines)) ∙ lines_are_events A w (l ∷ take i lines))

pub each_line_is_answered : (A : List Action) (w : WorldState) (lines : List (List ℕ)) → length (answers A w lines) ≡ length lines
each_line_is_answered A w [] = refl
each_line_is_answered A w (line ∷ lines) = ap suc (each_line_is_answered A (answer_to A w line).1 lines)
