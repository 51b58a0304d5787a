-- Each line of the text of an explanation ends with its line feed, and has no other.
use Rattle.std.proofs.Common.{◌≡◌, ℕ, true, List, [], ◌∷◌, Option, Some, None, length, map, refl, ◌∙◌, decimal}
use Rattle.std.specs.Prelude.{codes}
use Rattle.std.specs.List.{All, list_all}
use Rattle.std.proofs.lemmas.Bool.{and_from}
use Rattle.std.proofs.lemmas.List.Elements.{All-append, All-cons, All-map}
use Rattle.std.proofs.lemmas.List.Folds.{list_all-append}
use Rattle.metis_ids.specs.declared.goals.Goal.{Goal}
use Rattle.metis_ids.specs.declared.goals.Goal.TheVariants.{Pair, Port}
use Rattle.metis_outside.proofs.Feeds.{IsLine-from, no_feed, no_feed-decimal, no_feed-join_with_byte, one_line}
use Rattle.metis_outside.specs.Terms.{IsLine}
use Rattle.metis_tokens.proofs.WordFeeds.{no_feed-goal_word, no_feed-pair_word, no_feed-port_name_of}
use Rattle.metis_tokens.specs.Terms.{end_line, line, words}
use Rattle.metis_universe.specs.Terms.{IsNamed, IsTable, Universe, pair_word, providers_of}
use Rattle.metis_why.specs.Terms.{named_by}
use Rattle.metis_why.specs.declared.reason.Line.{Line}
use Rattle.metis_why.specs.declared.reason.Reason.{Reason}
use Rattle.metis_why.specs.declared.reason.Reason.TheVariants.{Needs, Comes}
use Rattle.metis_why_text.specs.Terms.{comes_tokens, count_line, lacks_line, lacks_tokens, line_text, line_tokens, list_words, reason_tokens, start_port, why_body, why_counted, why_header, why_lines, why_rest}

IsLine-line : (ts : List (List ℕ)) → list_all no_feed ts ≡ true → IsLine (line ts)
IsLine-line ts h = IsLine-from (words ts) (no_feed-join_with_byte 32 ts refl h)

pub IsLine-count_line : (n : ℕ) → IsLine (count_line n)
IsLine-count_line n = IsLine-line (codes "lines" ∷ decimal n ∷ []) (and_from _ _ (no_feed-decimal n) refl)

module _ (u : Universe) (named : IsNamed u) where
  pair_words : (pairs : List ℕ) → list_all no_feed (map (pair_word u) pairs) ≡ true
  pair_words [] = refl
  pair_words (p ∷ pairs) = and_from _ _ (no_feed-pair_word u named p) (pair_words pairs)

  no_feed-list_words : (pairs : List ℕ) → list_all no_feed (list_words u pairs) ≡ true
  no_feed-list_words [] = refl
  no_feed-list_words (p ∷ pairs) = pair_words (p ∷ pairs)

  no_feed-comes_tokens : (o : Option ℕ) → list_all no_feed (comes_tokens u o) ≡ true
  no_feed-comes_tokens None = refl
  no_feed-comes_tokens (Some r) = and_from _ _ (no_feed-port_name_of u named r) refl

  no_feed-reason_tokens : (q : ℕ) (reason : Reason) → list_all no_feed (reason_tokens u q reason) ≡ true
  no_feed-reason_tokens q (Needs r) = and_from _ _ (no_feed-port_name_of u named r) refl
  no_feed-reason_tokens q Comes = no_feed-comes_tokens (start_port u q)

  no_feed-lacks_tokens : (g : Goal) → list_all no_feed (lacks_tokens u g) ≡ true
  no_feed-lacks_tokens (Pair p) = and_from _ _ (no_feed-goal_word u named (Pair p)) refl
  no_feed-lacks_tokens (Port r) = and_from _ _ (no_feed-goal_word u named (Port r)) (no_feed-list_words (providers_of u r))

  pub IsLine-lacks_line : (g : Goal) → IsLine (lacks_line u g)
  IsLine-lacks_line g = IsLine-line (lacks_tokens u g) (no_feed-lacks_tokens g)

  pub IsLine-line_text : (l : Line) → IsLine (line_text u l)
  IsLine-line_text l =
      IsLine-line (line_tokens u l)
      (list_all-append no_feed (pair_word u l.pair ∷ reason_tokens u l.pair l.reason) (list_words u (named_by u l.pair l.reason))
      ∙ and_from _ _ (and_from _ _ (no_feed-pair_word u named l.pair) (no_feed-reason_tokens l.pair l.reason)) (no_feed-list_words (named_by u l.pair l.reason)))

  lines_of_numbers : (lacks : Goal) (lines : List Line) → All IsLine (why_lines u lacks lines)
  lines_of_numbers lacks lines =
      let each = All-map IsLine (line_text u) lines (λ k d within. IsLine-line_text _) in
      let rest = All-append IsLine (map (line_text u) lines) (end_line ∷ []) each (one_line end_line (IsLine-line (codes "end" ∷ []) refl)) in
      All-cons IsLine why_header (why_body u lacks lines) (IsLine-line (codes "metis" ∷ codes "why" ∷ codes "1" ∷ []) refl)
      (All-cons IsLine (lacks_line u lacks) (why_counted u lines) (IsLine-lacks_line lacks) (All-cons IsLine (count_line (length lines)) (why_rest u lines) (IsLine-count_line (length lines)) rest))

pub why_lines_are_lines : (u : Universe) (lacks : Goal) (lines : List Line) → IsTable u → All IsLine (why_lines u lacks lines)
why_lines_are_lines u lacks lines table = lines_of_numbers u table.named lacks lines
