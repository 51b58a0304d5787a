-- Words and lines of words have no line feed but the one at the end.
use Rattle.std.proofs.Common.{◌≡◌, ℕ, ◌+◌, true, not, List, [], ◌∷◌, ◌++◌, map, refl, ap, arith, decimal, inl, inr}
use Rattle.std.specs.Prelude.{codes}
use Rattle.std.specs.Bool.{◌==◌}
use Rattle.std.specs.List.{All, list_all}
use Rattle.std.proofs.Math.ListN.{get_or-eq_default}
use Rattle.std.proofs.lemmas.Bool.{and_from, and_parts, cases_lt}
use Rattle.std.proofs.lemmas.Bool.Decides.{nat_tests}
use Rattle.std.proofs.lemmas.List.Elements.{All-cons}
use Rattle.metis_ids.specs.declared.goals.Goal.{Goal}
use Rattle.metis_ids.specs.declared.goals.Goal.TheVariants.{Pair, Port}
use Rattle.metis_universe.specs.Terms.{IsNamed, Universe, goal_word, is_name, is_name_byte, no_kind, no_pair, pair_count, pair_word, port_count, port_name_of, state_name_of, type_count, type_name_of, type_of}
use Rattle.metis_outside.proofs.Feeds.{IsLine-append, IsLine-from, no_feed, no_feed-append, no_feed-decimal, no_feed-join_with_byte}
use Rattle.metis_outside.specs.Terms.{IsLine}
use Rattle.metis_tokens.specs.Terms.{added, end_line, line, missing_line, numbered, words}
use Rattle.metis_tokens.proofs.Printed.{all_weaker}

-- ---- names

name_byte_no_feed : (b : ℕ) → is_name_byte b ≡ true → not (b == 10) ≡ true
name_byte_no_feed b h = grind (arith, nat_tests)

no_feed-name : (name : List ℕ) → is_name name ≡ true → no_feed name ≡ true
no_feed-name name h = all_weaker is_name_byte (λ b. not (b == 10)) name_byte_no_feed name (and_parts _ _ h).1

-- numbers that are not the universe's have the empty name
module _ (u : Universe) (named : IsNamed u) where
  pub no_feed-type_name_of : (t : ℕ) → no_feed (type_name_of u t) ≡ true
  no_feed-type_name_of t = elim (cases_lt t (type_count u)) [
    | inl within ↦ no_feed-name (type_name_of u t) (named.types t within)
    | inr past ↦ ap (λ k. no_feed k.name) (get_or-eq_default u.kinds no_kind past)
  ]

  pub no_feed-state_name_of : (p : ℕ) → no_feed (state_name_of u p) ≡ true
  no_feed-state_name_of p = elim (cases_lt p (pair_count u)) [
    | inl within ↦ no_feed-name (state_name_of u p) (named.states p within)
    | inr past ↦ ap (λ q. no_feed q.state) (get_or-eq_default u.pairs no_pair past)
  ]

  pub no_feed-port_name_of : (r : ℕ) → no_feed (port_name_of u r) ≡ true
  no_feed-port_name_of r = elim (cases_lt r (port_count u)) [
    | inl within ↦ no_feed-name (port_name_of u r) (named.ports r within)
    | inr past ↦ ap no_feed (get_or-eq_default u.ports [] past)
  ]

  pub no_feed-pair_word : (p : ℕ) → no_feed (pair_word u p) ≡ true
  no_feed-pair_word p = no_feed-append (type_name_of u (type_of u p)) (codes ":" ++ state_name_of u p) (no_feed-type_name_of (type_of u p)) (no_feed-state_name_of p)

  pub no_feed-goal_word : (g : Goal) → no_feed (goal_word u g) ≡ true
  no_feed-goal_word (Pair p) = no_feed-pair_word p
  no_feed-goal_word (Port r) = no_feed-append (codes "port") (codes ":" ++ port_name_of u r) refl (no_feed-port_name_of r)

-- ---- lines of tokens

pub IsLine-line : (ts : List (List ℕ)) → list_all no_feed ts ≡ true → IsLine (line ts)
IsLine-line ts h = IsLine-from (words ts) (no_feed-join_with_byte 32 ts refl h)

pub end_is_line : IsLine end_line
end_is_line = IsLine-line (codes "end" ∷ []) refl

pub number_tokens : (ks : List ℕ) → list_all no_feed (map decimal ks) ≡ true
number_tokens [] = refl
number_tokens (k ∷ ks) = and_from _ _ (no_feed-decimal k) (number_tokens ks)

pub numbered_lines : {X : Type 0} (text : ℕ → X → List ℕ) → ((k : ℕ) (x : X) → IsLine (text k x)) → (k : ℕ) (xs : List X) → All IsLine (numbered text k xs)
numbered_lines text each k [] = λ i d within. absurd (omega arith)
numbered_lines text each k (x ∷ xs) = All-cons IsLine (text k x) (numbered text (k + 1) xs) (each k x) (numbered_lines text each (k + 1) xs)

pub no_feed-added_numbers : (ks : List ℕ) → no_feed (added (map decimal ks)) ≡ true
no_feed-added_numbers [] = refl
no_feed-added_numbers (k ∷ ks) = no_feed-append (codes " " ++ decimal k) (added (map decimal ks)) (no_feed-append (codes " ") (decimal k) refl (no_feed-decimal k)) (no_feed-added_numbers ks)

pub IsLine-missing_line : (u : Universe) → IsNamed u → (g : Goal) (have want : ℕ) → IsLine (missing_line (goal_word u g) have want)
IsLine-missing_line u named g have want =
    let end : IsLine (codes " want " ++ (decimal want ++ codes "\n")) = IsLine-append (codes " want ") (decimal want ++ codes "\n") refl (IsLine-from (decimal want) (no_feed-decimal want)) in
    let middle : IsLine (codes " have " ++ (decimal have ++ (codes " want " ++ (decimal want ++ codes "\n")))) =
    IsLine-append (codes " have ") (decimal have ++ (codes " want " ++ (decimal want ++ codes "\n"))) refl (IsLine-append (decimal have) (codes " want " ++ (decimal want ++ codes "\n")) (no_feed-decimal have) end) in
    IsLine-append (codes "missing ") (goal_word u g ++ (codes " have " ++ (decimal have ++ (codes " want " ++ (decimal want ++ codes "\n"))))) refl
    (IsLine-append (goal_word u g) (codes " have " ++ (decimal have ++ (codes " want " ++ (decimal want ++ codes "\n")))) (no_feed-goal_word u named g) middle)
