-- A line that names a goal is a line.
use Rattle.std.proofs.Common.{◌≡◌, ℕ, true, List, ◌++◌, refl}
use Rattle.std.specs.Prelude.{codes}
use Rattle.metis_commands.specs.Terms.{word_line}
use Rattle.metis_ids.specs.declared.goals.Goal.{Goal}
use Rattle.metis_outside.proofs.Feeds.{IsLine-append, no_feed}
use Rattle.metis_outside.specs.Terms.{IsLine}
use Rattle.metis_output.proofs.LineWords.{by_word}
use Rattle.metis_tokens.proofs.WordFeeds.{no_feed-goal_word}
use Rattle.metis_universe.specs.Terms.{IsNamed, Universe, goal_word}

pub IsLine-word_line : (u : Universe) → IsNamed u → (start : List ℕ) (g : Goal) → no_feed start ≡ true → IsLine (word_line start (goal_word u g))
IsLine-word_line u named start g h = IsLine-append start (codes " " ++ (goal_word u g ++ codes "\n")) h (by_word (codes " ") (goal_word u g) refl (no_feed-goal_word u named g))
