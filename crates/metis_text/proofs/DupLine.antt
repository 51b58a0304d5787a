-- The line of a dup is read as the dup just where it is what is written for it.
--     IsDupRow u k row      what holds of dup number k
use Rattle.std.proofs.Common.{◌≡◌, ℕ, ◌<◌, ◌≤◌, ◌^◌, true, ◌&&◌, List, [], ◌∷◌, ◌++◌, length, map, Ok, refl, sym, ap, ◌∙◌, subst, arith, decimal}
use Rattle.std.specs.Prelude.{codes}
use Rattle.std.specs.List.{AllByRecursion, list_all}
use Rattle.std.specs.Str.{bytes_eq}
use Rattle.std.proofs.lemmas.Bool.{and_from, and_parts}
use Rattle.std.proofs.lemmas.List.{length-map}
use Rattle.std.proofs.lemmas.Slice.Eq.{bytes_eq-Decides}
use Rattle.metis_ids.specs.declared.events.Event.{Event}
use Rattle.metis_universe.specs.Terms.{IsNamed, IsUniverse, Universe, pair_count, pair_word}
use Rattle.metis_tokens.specs.Terms.{all_behind, both, due, made, pair_in, tokens, words}
use Rattle.metis_text.specs.Terms.{DupRow, IsEventInRange, dup_in, dup_of, dup_tokens, dup_with, event_in, event_token}
use Rattle.metis_tokens.specs.declared.flaw.Flaw.TheVariants.{Form}
use Rattle.metis_text.proofs.ActionRead.{due_read}
use Rattle.metis_tokens.proofs.Cuts.{tokens_of_words, words_of_tokens}
use Rattle.metis_text.proofs.DupWords.{event_is, event_printed, event_read}
use Rattle.metis_tokens.proofs.PairTokens.{pair_is, pair_printed, pair_read}
use Rattle.metis_tokens.proofs.Outcomes.{all_are, all_read, both_is, each_read, if_is, made_is, words_back, words_read}
use Rattle.metis_tokens.proofs.Printed.{printed, printed_decimal}
use Rattle.metis_text.proofs.RowLine.{due_is}

pub record IsDupRow (u : Universe) (k : ℕ) (row : DupRow) : Type 0 where
  pub pair : row.0 < pair_count u
  pub long : 2 ≤ length row.1
  pub events : AllByRecursion IsEventInRange row.1
  pub number : k < 2 ^ 32

-- the tokens of dup number k
abbrev pub dup_row_tokens : Universe → ℕ → DupRow → List (List ℕ)
dup_row_tokens u k row = dup_tokens u k row.0 ++ map event_token row.1

module _ (u : Universe) (k : ℕ) where
  abbrev IsWritten : List (List ℕ) → DupRow → Type 0
  IsWritten ts row = (ts ≡ dup_row_tokens u k row) × IsDupRow u k row

  dup_with_is : (number word : List ℕ) (events : List (List ℕ)) (row : DupRow) → 2 ≤ length events → dup_with u k number word events ≡ Ok row → IsWritten (codes "dup" ∷ number ∷ word ∷ codes "cycle" ∷ events) row
  dup_with_is number word events row long h =
      let cycle = all_behind event_in (Ok []) events in
      let all = made_is (λ p. p.1) (both (due k number) (both (pair_in u word) cycle)) row h in
      let parts = both_is (due k number) (both (pair_in u word) cycle) all.0 all.1 in
      let said = both_is (pair_in u word) cycle all.0.1 parts.1 in
      let first = due_is k number all.0.0 parts.0 in
      let pair = pair_is u word all.0.1.0 said.0 in
      let are = all_are event_in events all.0.1.1 said.1 in
      let back = words_back event_in event_token (λ t e h. (event_is t e h).0) events all.0.1.1 are in
      let size = length-map all.0.1.1 event_token in
      subst (IsWritten (codes "dup" ∷ number ∷ word ∷ codes "cycle" ∷ events)) all.2 (
        λ i. codes "dup" ∷ first.0 i ∷ pair.0 i ∷ codes "cycle" ∷ back i,
        record {
          pair = pair.1;
          long = omega (arith, size, ap length back, long);
          events = each_read event_in IsEventInRange (λ t e h. (event_is t e h).1) events all.0.1.1 are;
          number = first.1;
        },
      )

  dup_of_is : (ts : List (List ℕ)) (row : DupRow) → dup_of u k ts ≡ Ok row → IsWritten ts row
  dup_of_is (dup ∷ number ∷ word ∷ cycle ∷ first ∷ second ∷ more) row h =
      let events = first ∷ second ∷ more in
      let form = if_is (bytes_eq dup (codes "dup") && bytes_eq cycle (codes "cycle")) (dup_with u k number word events) Form row h in
      let both = and_parts (bytes_eq dup (codes "dup")) (bytes_eq cycle (codes "cycle")) form.0 in
      let dup_is = (bytes_eq-Decides dup (codes "dup")).0 both.0 in
      let cycle_is = (bytes_eq-Decides cycle (codes "cycle")).0 both.1 in
      let written = dup_with_is number word events row (omega arith) form.1 in
      ((λ i. dup_is i ∷ number ∷ word ∷ cycle_is i ∷ events) ∙ written.0, written.1)
  dup_of_is _ row h = cc

  -- a line that is read is that of the dup
  pub dup_is : (line : List ℕ) (row : DupRow) → dup_in u k line ≡ Ok row → (line ≡ words (dup_row_tokens u k row)) × IsDupRow u k row
  dup_is line row h = let written = dup_of_is (tokens line) row h in (sym (words_of_tokens line) ∙ ap words written.0, written.1)

  module _ (is : IsUniverse u) (names : IsNamed u) where
    events_printed : (es : List Event) → AllByRecursion IsEventInRange es → list_all printed (map event_token es) ≡ true
    events_printed [] small = refl
    events_printed (e ∷ es) small = and_from _ _ (event_printed e small.0) (events_printed es small.1)

    pub dup_printed : (row : DupRow) → IsDupRow u k row → list_all printed (dup_row_tokens u k row) ≡ true
    dup_printed row is_row = and_from _ _ (printed_decimal k is_row.number) (and_from _ _ (pair_printed u is names row.0 is_row.pair) (events_printed row.1 is_row.events))

    tokens_read : (p : ℕ) (es : List Event) → IsDupRow u k (p, es) → dup_of u k (dup_row_tokens u k (p, es)) ≡ Ok (p, es)
    tokens_read p [] is_row = absurd (omega (arith, is_row.long))
    tokens_read p (e ∷ []) is_row = absurd (omega (arith, is_row.long))
    tokens_read p (e ∷ f ∷ more) is_row =
        let es = e ∷ f ∷ more in
        let cycle = all_read event_in (map event_token es) es (words_read event_in event_token IsEventInRange event_read es is_row.events) in
        λ i. made (λ (p : ℕ × DupRow). p.1) (both (due_read k is_row.number i) (both (pair_read u is names p is_row.pair i) (cycle i)))

    -- and the dup is read from its line
    pub dup_read : (row : DupRow) → IsDupRow u k row → dup_in u k (words (dup_row_tokens u k row)) ≡ Ok row
    dup_read row is_row =
        ap (dup_of u k) (tokens_of_words (codes "dup") (decimal k ∷ pair_word u row.0 ∷ codes "cycle" ∷ map event_token row.1) (dup_printed row is_row))
        ∙ tokens_read row.0 row.1 is_row
