-- The line of what stands in the way is a line.
use Rattle.std.proofs.Common.{◌++◌, refl}
use Rattle.std.specs.Prelude.{codes}
use Rattle.metis_outside.specs.Terms.{IsLine}
use Rattle.metis_output.proofs.LineWords.{by_number, by_two, by_word, number_then}
use Rattle.metis_plan_commands.specs.Terms.{obstacle_line}
use Rattle.metis_reconfigure.specs.declared.answer.Obstacle.{Obstacle}
use Rattle.metis_reconfigure.specs.declared.answer.Obstacle.TheVariants.{Absent, Kept, Unavoidable, Unmet, Needs}
use Rattle.metis_tokens.proofs.WordFeeds.{no_feed-goal_word, no_feed-port_name_of}
use Rattle.metis_universe.specs.Terms.{IsNamed, Universe, goal_word, port_name_of}

pub IsLine-obstacle_line : (u : Universe) → IsNamed u → (why : Obstacle) → IsLine (obstacle_line u why)
IsLine-obstacle_line u named (Absent z) = by_number (codes "absent ") z refl
IsLine-obstacle_line u named (Kept z y) = by_two (codes "kept ") z (codes " on ") y refl refl
IsLine-obstacle_line u named (Unavoidable g) = by_word (codes "unavoidable ") (goal_word u g) refl (no_feed-goal_word u named g)
IsLine-obstacle_line u named (Unmet z r) =
    number_then (codes "unmet ") z (codes " " ++ (port_name_of u r ++ codes "\n")) refl (by_word (codes " ") (port_name_of u r) refl (no_feed-port_name_of u named r))
IsLine-obstacle_line u named (Needs n) = by_number (codes "needs ") n refl
