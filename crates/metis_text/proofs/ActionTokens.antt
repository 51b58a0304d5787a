-- The tokens behind an action's number are read as the action just where they are those of the action.
--     Fits u earlier a      a move goes between pairs of its instance's type
--     IsSaid u earlier a      what holds of an action that is read, where those before it are known
use Rattle.std.proofs.Common.{◌≡◌, ℕ, ◌<◌, ◌^◌, true, false, List, [], ◌∷◌, ◌++◌, Option, Some, Ok, refl, sym, ap, ◌∙◌, subst, decimal}
use Rattle.std.specs.Prelude.{codes, ⊤}
use Rattle.std.specs.Bool.{if◌then◌else◌}
use Rattle.std.specs.Option.{option_and_then}
use Rattle.std.specs.Str.{bytes_eq}
use Rattle.std.proofs.lemmas.Slice.Eq.{bytes_eq-Decides}
use Rattle.metis_ids.specs.declared.actions.Action.{Action}
use Rattle.metis_ids.specs.declared.actions.Action.TheVariants.{New, Delete, Bind, Unbind, Move}
use Rattle.metis_universe.specs.Terms.{IsOf, Universe, pair_count, port_count, port_name_of, port_named, state_name_of, state_named, type_named, type_of}
use Rattle.metis_text.specs.Terms.{IsActionInRange, IsMoveOf, Words, action_in, action_tokens, bind_action, delete_words, ends_in, kind_in, move_action, move_words, new_action, new_in, new_words, states_in, tie_words, unbind_action}
use Rattle.metis_tokens.specs.Terms.{both, made, named, number_in, state_in}
use Rattle.metis_tokens.proofs.NameTokens.{and_then_some, named_is, port_is, state_is, type_is}
use Rattle.metis_tokens.proofs.NumberTokens.{number_is}
use Rattle.metis_tokens.proofs.Outcomes.{both_is, made_is}

abbrev pub Fits : Universe → List Action → Action → Type 0
Fits u earlier (New z t) = ⊤
Fits u earlier (Delete z) = ⊤
Fits u earlier (Bind r z y) = ⊤
Fits u earlier (Unbind r z y) = ⊤
Fits u earlier (Move z p q) = IsMoveOf u earlier z p q

pub record IsSaid (u : Universe) (earlier : List Action) (a : Action) : Type 0 where
  pub of : IsOf u a
  pub in_range : IsActionInRange a
  pub fits : Fits u earlier a

-- a word that is looked for, or what is looked for next
chosen : {W P : Type 0} (verb word : List ℕ) (x y : Option W) (w : W) → (if bytes_eq verb word then x else y) ≡ Some w → (verb ≡ word → x ≡ Some w → P) → (y ≡ Some w → P) → P
chosen {P = P} verb word x y w h here later = elim (bytes_eq verb word) as (λ b. bytes_eq verb word ≡ b → (if b then x else y) ≡ Some w → P) [
  | true ↦ λ same e. here ((bytes_eq-Decides verb word).0 same) e
  | false ↦ λ _ e. later e
] refl h

module _ (u : Universe) (earlier : List Action) (w : Words) (a : Action) (is : w.0 ≡ Ok a) where
  -- the tokens are those of action b and what is left, and b fits;  the same of a
  abbrev SaysOf : List (List ℕ) → Action → Type 0
  SaysOf tokens b = (tokens ≡ action_tokens u b ++ w.1) × IsSaid u earlier b

  abbrev Says : List (List ℕ) → Type 0
  Says tokens = SaysOf tokens a

  new_is : (args : List (List ℕ)) → new_words u args ≡ Some w → Says (codes "new" ∷ args)
  new_is [] h = cc
  new_is (z ∷ []) h = cc
  new_is (z ∷ kind ∷ rest) h =
      let words : (new_in u z kind, rest) ≡ w = cc in
      let action = made_is new_action (both (number_in z) (named (type_named u) kind)) a (ap (λ v. v.0) words ∙ is) in
      let parts = both_is (number_in z) (named (type_named u) kind) action.0 action.1 in
      let number = number_is z action.0.0 parts.0 in
      let name = type_is u kind action.0.1 (named_is (type_named u) kind action.0.1 parts.1).1 in
      subst (SaysOf (codes "new" ∷ z ∷ kind ∷ rest)) action.2 (λ i. codes "new" ∷ number.0 i ∷ name.1 i ∷ (words i).1, record { of = name.0; in_range = number.1; fits = tt })

  delete_is : (args : List (List ℕ)) → delete_words args ≡ Some w → Says (codes "delete" ∷ args)
  delete_is [] h = cc
  delete_is (z ∷ rest) h =
      let words : (made Delete (number_in z), rest) ≡ w = cc in
      let action = made_is Delete (number_in z) a (ap (λ v. v.0) words ∙ is) in
      let number = number_is z action.0 action.1 in
      subst (SaysOf (codes "delete" ∷ z ∷ rest)) action.2 (λ i. codes "delete" ∷ number.0 i ∷ (words i).1, record { of = tt; in_range = number.1; fits = tt })

  -- a port and two instances, of which the action is made
  tie_is : (make : ℕ × (ℕ × ℕ) → Action) (args : List (List ℕ)) → tie_words u make args ≡ Some w
      → (p : ℕ × (ℕ × ℕ)) × (make p ≡ a) × (args ≡ port_name_of u p.0 ∷ decimal p.1.0 ∷ decimal p.1.1 ∷ w.1) × (p.0 < port_count u) × (p.1.0 < 2 ^ 32) × (p.1.1 < 2 ^ 32)
  tie_is make [] h = cc
  tie_is make (r ∷ []) h = cc
  tie_is make (r ∷ z ∷ []) h = cc
  tie_is make (r ∷ z ∷ y ∷ rest) h =
      let words : (made make (ends_in u r z y), rest) ≡ w = cc in
      let action = made_is make (ends_in u r z y) a (ap (λ v. v.0) words ∙ is) in
      let p = action.0 in
      let parts = both_is (named (port_named u) r) (both (number_in z) (number_in y)) p action.1 in
      let ends = both_is (number_in z) (number_in y) p.1 parts.1 in
      let name = port_is u r p.0 (named_is (port_named u) r p.0 parts.0).1 in
      let from = number_is z p.1.0 ends.0 in
      let to = number_is y p.1.1 ends.1 in
      (p, action.2, λ i. name.1 i ∷ from.0 i ∷ to.0 i ∷ (words i).1, name.0, from.1, to.1)

  bind_is : (args : List (List ℕ)) → tie_words u bind_action args ≡ Some w → Says (codes "bind" ∷ args)
  bind_is args h = let tie = tie_is bind_action args h in
      subst (SaysOf (codes "bind" ∷ args)) tie.1 (ap (λ l. codes "bind" ∷ l) tie.2, record { of = tie.3; in_range = (tie.4, tie.5); fits = tt })

  unbind_is : (args : List (List ℕ)) → tie_words u unbind_action args ≡ Some w → Says (codes "unbind" ∷ args)
  unbind_is args h = let tie = tie_is unbind_action args h in
      subst (SaysOf (codes "unbind" ∷ args)) tie.1 (ap (λ l. codes "unbind" ∷ l) tie.2, record { of = tie.3; in_range = (tie.4, tie.5); fits = tt })

  -- a state of the instance's type
  in_state : (kind : Option ℕ) (name : List ℕ) (p : ℕ) → state_in u kind name ≡ Ok p → (kind ≡ Some (type_of u p)) × (p < pair_count u) × (name ≡ state_name_of u p)
  in_state kind name p h =
      let found = and_then_some (λ t. state_named u t name) kind p (named_is (λ s. option_and_then (λ t. state_named u t s) kind) name p h).1 in
      let state = state_is u name found.0 p found.2 in
      (found.1 ∙ ap Some (sym state.1), state.0, state.2)

  move_is : (args : List (List ℕ)) → move_words u earlier args ≡ Some w → Says (codes "move" ∷ args)
  move_is [] h = cc
  move_is (z ∷ []) h = cc
  move_is (z ∷ p ∷ []) h = cc
  move_is (z ∷ p ∷ q ∷ rest) h =
      let words : (made move_action (states_in u earlier z p q), rest) ≡ w = cc in
      let kind = kind_in earlier (number_in z) in
      let action = made_is move_action (states_in u earlier z p q) a (ap (λ v. v.0) words ∙ is) in
      let m = action.0 in
      let parts = both_is (number_in z) (both (state_in u kind p) (state_in u kind q)) m action.1 in
      let states = both_is (state_in u kind p) (state_in u kind q) m.1 parts.1 in
      let number = number_is z m.0 parts.0 in
      let from = in_state kind p m.1.0 states.0 in
      let to = in_state kind q m.1.1 states.1 in
      let same : type_of u m.1.1 ≡ type_of u m.1.0 = cc (from.0, to.0) in
      subst (SaysOf (codes "move" ∷ z ∷ p ∷ q ∷ rest)) action.2 (
        λ i. codes "move" ∷ number.0 i ∷ from.2 i ∷ to.2 i ∷ (words i).1,
        record {
          of = (from.1, to.1);
          in_range = number.1;
          fits = (ap (kind_in earlier) (sym parts.0) ∙ from.0, same);
        },
      )

  pub action_is : (verb : List ℕ) (args : List (List ℕ)) → action_in u earlier verb args ≡ Some w → Says (verb ∷ args)
  action_is verb args h =
      let as_verb = λ (word : List ℕ) (same : verb ≡ word) (says : Says (word ∷ args)). subst (λ v. Says (v ∷ args)) (sym same) says in
      chosen verb (codes "new") _ _ w h (λ same e. as_verb (codes "new") same (new_is args e)) (λ h.
      chosen verb (codes "delete") _ _ w h (λ same e. as_verb (codes "delete") same (delete_is args e)) (λ h.
      chosen verb (codes "bind") _ _ w h (λ same e. as_verb (codes "bind") same (bind_is args e)) (λ h.
      chosen verb (codes "unbind") _ _ w h (λ same e. as_verb (codes "unbind") same (unbind_is args e)) (λ h.
      chosen verb (codes "move") _ _ w h (λ same e. as_verb (codes "move") same (move_is args e)) (λ h. cc)))))
