-- The second line is read just where it is what is written there.
use Rattle.std.proofs.Common.{◌≡◌, ℕ, ◌<◌, ◌^◌, true, ◌&&◌, List, [], ◌∷◌, Ok, Err, refl, sym, ap, ◌∙◌, decimal}
use Rattle.std.specs.Prelude.{codes}
use Rattle.std.specs.Bool.{if◌then◌else◌, ◌==◌}
use Rattle.std.specs.List.{count_by, list_all}
use Rattle.std.specs.Str.{bytes_eq}
use Rattle.std.proofs.lemmas.Bool.{and_from, and_parts, eq-eqb, eqb-true}
use Rattle.std.proofs.lemmas.Slice.Eq.{bytes_eq-Decides}
use Rattle.metis_tokens.specs.Terms.{both, number_in, tokens, words}
use Rattle.metis_ids.specs.Terms.{makes}
use Rattle.metis_text.specs.Terms.{Numbers, Parts, counted, counts_in, counts_of_tokens}
use Rattle.metis_tokens.specs.declared.fault.TFault.TheVariants.{Line}
use Rattle.metis_tokens.specs.declared.flaw.Flaw.TheVariants.{Form}
use Rattle.metis_tokens.proofs.Cuts.{tokens_of_words, words_of_tokens}
use Rattle.metis_tokens.proofs.NumberTokens.{number_is, number_read}
use Rattle.metis_tokens.proofs.Outcomes.{both_is, if_is}
use Rattle.metis_tokens.proofs.Printed.{printed, printed_decimal}

-- ---- the end

pub counted_is : (p q : Parts) → counted p ≡ Ok q → (p ≡ q) × (count_by makes p.rows.actions ≡ p.instances)
counted_is p q h = let both = if_is (count_by makes p.rows.actions == p.instances) (Ok p) (Line 2) q h in (cc, eqb-true (count_by makes p.rows.actions) p.instances both.0)

pub counted_read : (p : Parts) → count_by makes p.rows.actions ≡ p.instances → counted p ≡ Ok p
counted_read p h = ap (λ b. if b then Ok p else Err (Line 2)) (eq-eqb (count_by makes p.rows.actions) p.instances h)

-- ---- the counts

abbrev pub counts_tokens : Numbers → List (List ℕ)
counts_tokens n = codes "instances" ∷ decimal n.0 ∷ codes "actions" ∷ decimal n.1.0 ∷ codes "dups" ∷ decimal n.1.1 ∷ []

pub record AreCounts (n : Numbers) : Type 0 where
  pub instances : n.0 < 2 ^ 32
  pub actions : n.1.0 < 2 ^ 32
  pub dups : n.1.1 < 2 ^ 32

counts_of_tokens_is : (ts : List (List ℕ)) (n : Numbers) → counts_of_tokens ts ≡ Ok n → (ts ≡ counts_tokens n) × AreCounts n
counts_of_tokens_is (i ∷ instances ∷ a ∷ actions ∷ d ∷ dups ∷ []) n h =
    let numbers = both (number_in instances) (both (number_in actions) (number_in dups)) in
    let form = if_is (bytes_eq i (codes "instances") && bytes_eq a (codes "actions") && bytes_eq d (codes "dups")) numbers Form n h in
    let all = and_parts (bytes_eq i (codes "instances") && bytes_eq a (codes "actions")) (bytes_eq d (codes "dups")) form.0 in
    let front = and_parts (bytes_eq i (codes "instances")) (bytes_eq a (codes "actions")) all.0 in
    let i_is = (bytes_eq-Decides i (codes "instances")).0 front.0 in
    let a_is = (bytes_eq-Decides a (codes "actions")).0 front.1 in
    let d_is = (bytes_eq-Decides d (codes "dups")).0 all.1 in
    let parts = both_is (number_in instances) (both (number_in actions) (number_in dups)) n form.1 in
    let later = both_is (number_in actions) (number_in dups) n.1 parts.1 in
    let first = number_is instances n.0 parts.0 in
    let second = number_is actions n.1.0 later.0 in
    let third = number_is dups n.1.1 later.1 in
    (λ j. i_is j ∷ first.0 j ∷ a_is j ∷ second.0 j ∷ d_is j ∷ third.0 j ∷ [], record { instances = first.1; actions = second.1; dups = third.1 })
counts_of_tokens_is _ n h = cc

pub counts_are : (line : List ℕ) (n : Numbers) → counts_in line ≡ Ok n → (line ≡ words (counts_tokens n)) × AreCounts n
counts_are line n h = let all = counts_of_tokens_is (tokens line) n h in (sym (words_of_tokens line) ∙ ap words all.0, all.1)

module _ (n : Numbers) (are : AreCounts n) where
  pub counts_printed : list_all printed (counts_tokens n) ≡ true
  counts_printed = and_from _ _ (printed_decimal n.0 are.instances) (and_from _ _ (printed_decimal n.1.0 are.actions) (and_from _ _ (printed_decimal n.1.1 are.dups) refl))

  pub counts_read : counts_in (words (counts_tokens n)) ≡ Ok n
  counts_read =
      ap counts_of_tokens (tokens_of_words (codes "instances") (decimal n.0 ∷ codes "actions" ∷ decimal n.1.0 ∷ codes "dups" ∷ decimal n.1.1 ∷ []) counts_printed)
      ∙ (λ i. both (number_read n.0 are.instances i) (both (number_read n.1.0 are.actions i) (number_read n.1.1 are.dups i)))
