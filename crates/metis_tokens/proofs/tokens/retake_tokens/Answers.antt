use Rattle.std.proofs.Common.{◌≡◌, List, ◌++◌, Option, Result, map, ap, ◌∙◌, rules, tests}
use Rattle.std.specs.Iterator.{Drains, Yields}
use Rattle.std.specs.Result.{OnOk, MatchResult}
use Rattle.std.proofs.lemmas.Iterator.{YieldsList}
use Rattle.std.proofs.lemmas.Iterator.Adapters.{fact_from_extend}
use Rattle.std.proofs.lemmas.Iterator.Consumers.{YieldsList-at}
use Rattle.std.proofs.lemmas.Iterator.Splits.{YieldsList-from_slice_split}
use Rattle.metis_tokens.specs.Terms.{is_space, tokens}
use Rattle.metis_tokens.proofs.tokens.retake_tokens.Goals as goal

-- what is known of a list that was extended from a source of known items
known_from_extend : {T A C E Q : Type 0} {steps : T → Option A → T → Type 0} {all : List C} {P : List A → Type 0} {s : T} (v : A → C) (r : Result (Unit {0}) E)
    → ((it : T) × (xs : List A) × (it ≡ s) × P xs × MatchResult r (λ _. Drains steps it xs) (λ _. (t : T) × Yields steps it xs t))
    → YieldsList steps v s all → ((xs : List A) → map v xs ≡ all → P xs → Q) → OnOk r Q
known_from_extend v r ran road says = fact_from_extend v r ran (λ it b. YieldsList-at b road) says

pub returns : goal.returns
returns c =
    known_from_extend {all = tokens c.args.line.now} (λ t. t.now) c.extend.result c.extend.ensures.ran
    (YieldsList-from_slice_split _ is_space c.args.line.now (cc) (cc) (cc) (λ x b q k. search (rules, tests)))
    (λ xs e h. ap (map (λ t. t.now)) h.0 ∙ ap (λ ys. map (λ t. t.now) (ys ++ xs)) c.clear.ensures.items ∙ e)
