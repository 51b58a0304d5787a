-- How the parts of a run compose.
use Rattle.std.proofs.Common.{◌≡◌, ℕ, Bool, true, false, List, [], ◌∷◌, ◌++◌, Some, None, Result, Ok, Err, refl, sym, ap, ◌∙◌, subst, inl, inr}
use Rattle.std.specs.declared.option.Option.{Option}
use Rattle.metis_inputs.specs.declared.stop.InputFault.{InputFault}
use Rattle.metis_inputs.specs.declared.stop.Stop.{Stop}
use Rattle.metis_inputs.specs.declared.stop.Stop.TheVariants as stop
use Rattle.metis_outside.specs.Terms.{Openings, Rose, grown}
use Rattle.metis_outside.proofs.Opened.{grown-grown}
use Rattle.metis_inputs.specs.Terms.{AreTaken, Came, Fault, Gathers, Inputs, IsRead, IsReadAt, Judges, Opened, Read, Reply, Script, after, named}
use Rattle.metis_words.specs.Terms.{reading}
use Rattle.metis_words.specs.declared.words.Verb.{Verb}

-- what was judged of what was read
pub gathers_judged : {S X Y Z W : Type 0} (files : S → Option (List ℕ → List ℕ)) (faults : S → ℕ) (opens : S → Openings) (view : Y → X) (view' : W → Z)
    (part : (X → Script) → Script) (judge : X → (Z → Script) → Script) (shelf shelf' : S) (y : Y) (r : Result W Stop)
    → Gathers files faults opens view part shelf shelf' (Ok y) → Judges view' (judge (view y)) r
    → Gathers files faults opens view' (λ next. part (λ x. judge x next)) shelf shelf' r
gathers_judged files faults opens view view' part judge shelf shelf' y (Ok w) g j = record {
  taken = g.taken;
  asked = λ next. g.asked (λ x. judge x next);
  files = g.files;
  came = (λ next. g.came.0 (λ x. judge x next) ∙ j next, g.came.1, λ next. g.came.2 (λ x. judge x next));
}
gathers_judged files faults opens view view' part judge shelf shelf' y (Err (stop.Faulty why)) g j = record {
  taken = g.taken;
  asked = λ next. g.asked (λ x. judge x next);
  files = g.files;
  came = (λ next. g.came.0 (λ x. judge x next) ∙ j next, g.came.1, λ next. g.came.2 (λ x. judge x next));
}
gathers_judged files faults opens view view' part judge shelf shelf' y (Err (stop.Failed place)) g j = absurd j
gathers_judged files faults opens view view' part judge shelf shelf' y (Err stop.NoMemory) g j = record {
  taken = g.taken;
  asked = λ next. g.asked (λ x. judge x next);
  files = g.files;
  came = (g.came.1, inl (λ next. g.came.2 (λ x. judge x next)));
}

-- a run that stops in a part stops in what begins with it
pub gathers_stopped : {S X Y Z W : Type 0} (files : S → Option (List ℕ → List ℕ)) (faults : S → ℕ) (opens : S → Openings) (view : Y → X) (view' : W → Z)
    (part : (X → Script) → Script) (more : X → (Z → Script) → Script) (shelf shelf' : S) (halt : Stop)
    → Gathers files faults opens view part shelf shelf' (Err halt)
    → Gathers files faults opens view' (λ next. part (λ x. more x next)) shelf shelf' (Err halt)
gathers_stopped files faults opens view view' part more shelf shelf' (stop.Faulty why) g = record {
  taken = g.taken;
  asked = λ next. g.asked (λ x. more x next);
  files = g.files;
  came = (λ next. g.came.0 (λ x. more x next), g.came.1, λ next. g.came.2 (λ x. more x next));
}
gathers_stopped files faults opens view view' part more shelf shelf' (stop.Failed place) g = record {
  taken = g.taken;
  asked = λ next. g.asked (λ x. more x next);
  files = g.files;
  came = (λ next. g.came.0 (λ x. more x next), g.came.1, λ next. g.came.2 (λ x. more x next));
}
gathers_stopped files faults opens view view' part more shelf shelf' stop.NoMemory g = record {
  taken = g.taken;
  asked = λ next. g.asked (λ x. more x next);
  files = g.files;
  came = (
    g.came.0,
    elim g.came.1 [
      | inl openings ↦ inl (λ next. openings (λ x. more x next))
      | inr (reads, openings) ↦ inr (λ next. reads (λ x. more x next), λ next. openings (λ x. more x next))
    ],
  );
}

after_fault : (taken : List (List ℕ)) (why : InputFault) → after taken (Fault why) ≡ Fault why
after_fault [] why = refl
after_fault (bytes ∷ taken) why = refl

after_reply : (taken : List (List ℕ)) (verb : Verb) (inputs : Inputs (reading verb)) (size : ℕ) (numbers : List ℕ) → after taken (Reply verb inputs size numbers) ≡ Reply verb inputs size numbers
after_reply [] verb inputs size numbers = refl
after_reply (bytes ∷ taken) verb inputs size numbers = refl

pub after-append : (first second : List (List ℕ)) (script : Script) → after (first ++ second) script ≡ after second (after first script)
after-append [] second script = refl
after-append (bytes ∷ first) second (Read place name limit next) = after-append first second (next bytes)
after-append (bytes ∷ first) second (Fault why) = sym (after_fault second why)
after-append (bytes ∷ first) second (Reply verb inputs size numbers) = sym (after_reply second verb inputs size numbers)

pub AreTaken-append : (files : Option (List ℕ → List ℕ)) (first second : List (List ℕ)) (script : Script) → AreTaken files first script → AreTaken files second (after first script) → AreTaken files (first ++ second) script
AreTaken-append files [] second script one two = two
AreTaken-append files (bytes ∷ first) second (Read place name limit next) one two = (one.0, AreTaken-append files first second (next bytes) one.1 two)
AreTaken-append files (bytes ∷ first) second (Fault why) one two = absurd one
AreTaken-append files (bytes ∷ first) second (Reply verb inputs size numbers) one two = absurd one

named_fault : (more : Option Bool) (taken : List (List ℕ)) (why : InputFault) → named more taken (Fault why) ≡ []
named_fault None [] why = refl
named_fault (Some failed) [] why = refl
named_fault more (bytes ∷ taken) why = refl

named_reply : (more : Option Bool) (taken : List (List ℕ)) (verb : Verb) (inputs : Inputs (reading verb)) (size : ℕ) (numbers : List ℕ) → named more taken (Reply verb inputs size numbers) ≡ []
named_reply None [] verb inputs size numbers = refl
named_reply (Some failed) [] verb inputs size numbers = refl
named_reply more (bytes ∷ taken) verb inputs size numbers = refl

named-append : (more : Option Bool) (first second : List (List ℕ)) (script : Script) → named more (first ++ second) script ≡ named None first script ++ named more second (after first script)
named-append more [] second script = refl
named-append more (bytes ∷ first) second (Read place name limit next) = ap (λ l. (name, false) ∷ l) (named-append more first second (next bytes))
named-append more (bytes ∷ first) second (Fault why) = sym (named_fault more second why)
named-append more (bytes ∷ first) second (Reply verb inputs size numbers) = sym (named_reply more second verb inputs size numbers)

module _ {Z : Type 0} (start rest : (Z → Script) → Script) (first second : List (List ℕ)) (behind : (next : Z → Script) → after first (start next) ≡ rest next) where
  goes_on : (next : Z → Script) → after (first ++ second) (start next) ≡ after second (rest next)
  goes_on next = after-append first second (start next) ∙ ap (after second) (behind next)

  opened_then : (opens opens' opens'' : Openings) (more : Option Bool) → Opened start first opens opens' None → Opened rest second opens' opens'' more → Opened start (first ++ second) opens opens'' more
  opened_then opens opens' opens'' more before now next =
      now next ∙ ap (λ o. grown o (named more second (rest next))) (before next)
      ∙ grown-grown opens (named None first (start next)) (named more second (rest next))
      ∙ ap (λ s. grown opens (named None first (start next) ++ named more second s)) (sym (behind next))
      ∙ ap (grown opens) (sym (named-append more first second (start next)))

  came_then : {W : Type 0} (view : W → Z) (faults faults' faults'' : ℕ) (opens opens' opens'' : Openings) (r : Result W Stop)
      → faults' ≡ faults → Opened start first opens opens' None
      → Came view rest second faults' faults'' opens' opens'' r → Came view start (first ++ second) faults faults'' opens opens'' r
  came_then view faults faults' faults'' opens opens' opens'' (Ok w) same openings c =
      (λ next. goes_on next ∙ c.0 next, c.1 ∙ same, opened_then opens opens' opens'' None openings c.2)
  came_then view faults faults' faults'' opens opens' opens'' (Err (stop.Faulty why)) same openings c =
      (λ next. goes_on next ∙ c.0 next, c.1 ∙ same, opened_then opens opens' opens'' None openings c.2)
  came_then view faults faults' faults'' opens opens' opens'' (Err (stop.Failed place)) same openings c = (
    λ next. subst (IsReadAt place) (sym (goes_on next)) (c.0 next),
    subst (λ n. Rose n faults'') same c.1,
    opened_then opens opens' opens'' (Some true) openings c.2,
  )
  came_then view faults faults' faults'' opens opens' opens'' (Err stop.NoMemory) same openings c = (
    c.0 ∙ same,
    elim c.1 [
      | inl none ↦ inl (opened_then opens opens' opens'' None openings none)
      | inr (reads, one) ↦ inr (λ next. subst IsRead (sym (goes_on next)) (reads next), opened_then opens opens' opens'' (Some false) openings one)
    ],
  )

-- a part that reads further files goes on from what the first part gave
pub gathers_then : {S X Y Z W : Type 0} (files : S → Option (List ℕ → List ℕ)) (faults : S → ℕ) (opens : S → Openings) (view : Y → X) (view' : W → Z)
    (part : (X → Script) → Script) (more : X → (Z → Script) → Script) (shelf mid shelf' : S) (y : Y) (r : Result W Stop)
    → Gathers files faults opens view part shelf mid (Ok y) → Gathers files faults opens view' (more (view y)) mid shelf' r
    → Gathers files faults opens view' (λ next. part (λ x. more x next)) shelf shelf' r
gathers_then {S} {X} {Y} {Z} {W} files faults opens view view' part more shelf mid shelf' y r g h =
    let start : (Z → Script) → Script = λ next. part (λ x. more x next) in
    record {
      taken = g.taken ++ h.taken;
      asked = λ next. AreTaken-append (files shelf) g.taken h.taken (start next) (g.asked (λ x. more x next))
          (subst (λ s. AreTaken (files shelf) h.taken s) (sym (g.came.0 (λ x. more x next))) (subst (λ f. AreTaken f h.taken (more (view y) next)) g.files (h.asked next)));
      files = h.files ∙ g.files;
      came = came_then start (more (view y)) g.taken h.taken (λ next. g.came.0 (λ x. more x next)) view' _ _ _ _ _ _ r g.came.1 (λ next. g.came.2 (λ x. more x next)) h.came;
    }

-- what was read is seen as a part of more
gathers_as : {S X Y Z W : Type 0} (files : S → Option (List ℕ → List ℕ)) (faults : S → ℕ) (opens : S → Openings) (view : Y → X) (view' : W → Z)
    (part : (X → Script) → Script) (f : X → Z) (shelf shelf' : S) (y : Y) (w : W)
    → view' w ≡ f (view y) → Gathers files faults opens view part shelf shelf' (Ok y)
    → Gathers files faults opens view' (λ next. part (λ x. next (f x))) shelf shelf' (Ok w)
gathers_as files faults opens view view' part f shelf shelf' y w is g =
    gathers_judged files faults opens view view' part (λ x next. next (f x)) shelf shelf' y (Ok w) g (λ next. ap next (sym is))

module _ {S X Y M T Z W : Type 0} (files : S → Option (List ℕ → List ℕ)) (faults : S → ℕ) (opens : S → Openings) (view : Y → X) (seen : T → M) (view' : W → Z)
    (part : (X → Script) → Script) (text : X → (M → Script) → Script) (both : X → M → Z) (shelf mid shelf' : S) where
  -- one more text behind what was read
  pub gathers_text : (y : Y) (t : T) (w : W) → view' w ≡ both (view y) (seen t)
      → Gathers files faults opens view part shelf mid (Ok y) → Gathers files faults opens seen (text (view y)) mid shelf' (Ok t)
      → Gathers files faults opens view' (λ next. part (λ x. text x (λ said. next (both x said)))) shelf shelf' (Ok w)
  gathers_text y t w is g h =
      gathers_then files faults opens view view' part (λ x next. text x (λ said. next (both x said))) shelf mid shelf' y (Ok w) g
      (gathers_as files faults opens seen view' (text (view y)) (both (view y)) mid shelf' t w is h)

  -- a run that stops in it
  pub gathers_no_text : (y : Y) (halt : Stop)
      → Gathers files faults opens view part shelf mid (Ok y) → Gathers files faults opens seen (text (view y)) mid shelf' (Err halt)
      → Gathers files faults opens view' (λ next. part (λ x. text x (λ said. next (both x said)))) shelf shelf' (Err halt)
  gathers_no_text y halt g h =
      gathers_then files faults opens view view' part (λ x next. text x (λ said. next (both x said))) shelf mid shelf' y (Err halt) g
      (gathers_stopped files faults opens seen view' (text (view y)) (λ said next. next (both (view y) said)) mid shelf' halt h)
