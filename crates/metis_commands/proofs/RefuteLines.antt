-- The line of a refusal that was checked is a line.
use Rattle.std.proofs.Common.{◌++◌, refl}
use Rattle.std.specs.Prelude.{codes}
use Rattle.metis_commands.proofs.GoalLine.{IsLine-word_line}
use Rattle.metis_commands.specs.Terms.{judgement_line}
use Rattle.metis_ids.specs.declared.goals.Goal.TheVariants.{Pair}
use Rattle.metis_outside.proofs.Feeds.{IsLine-from}
use Rattle.metis_outside.specs.Terms.{IsLine}
use Rattle.metis_output.proofs.LineWords.{by_word, word_then}
use Rattle.metis_refusal.specs.declared.verdict.Verdict2.{Verdict2}
use Rattle.metis_refusal.specs.declared.verdict.Verdict2.TheVariants.{Closed, NotFree, Open, LacksNone}
use Rattle.metis_tokens.proofs.WordFeeds.{no_feed-pair_word}
use Rattle.metis_universe.specs.Terms.{IsNamed, Universe, pair_word}

module _ (u : Universe) (named : IsNamed u) where
  pub IsLine-judgement_line : (v : Verdict2) → IsLine (judgement_line u v)
  IsLine-judgement_line (Closed g) = IsLine-word_line u named (codes "closed lacks") g refl
  IsLine-judgement_line (NotFree p) = IsLine-word_line u named (codes "notfree") (Pair p) refl
  IsLine-judgement_line (Open p q) =
      word_then (codes "open ") (pair_word u p) (codes " " ++ (pair_word u q ++ codes "\n")) refl (no_feed-pair_word u named p) (by_word (codes " ") (pair_word u q) refl (no_feed-pair_word u named q))
  IsLine-judgement_line LacksNone = IsLine-from (codes "lacksnone") refl
