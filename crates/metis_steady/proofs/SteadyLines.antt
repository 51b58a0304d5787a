-- What is said of a plan that is no steadfast run: it is a line, and it is so.
use Rattle.std.proofs.Common.{◌≡◌, ◌⊎◌, ℕ, true, List, ◌++◌, Err, inl, inr, refl}
use Rattle.std.specs.Prelude.{codes}
use Rattle.std.specs.List.{list_all}
use Rattle.std.proofs.lemmas.Bool.{and_from}
use Rattle.metis_actions.proofs.FaultFeeds.{no_feed-fault_text}
use Rattle.metis_actions.specs.Terms.{fault_text}
use Rattle.metis_actions.specs.declared.faults.AFault.{AFault}
use Rattle.metis_actions.specs.declared.faults.AFault.TheVariants as afault
use Rattle.metis_output.proofs.LineWords.{by_number, number_then}
use Rattle.metis_outside.proofs.Feeds.{no_feed, no_feed-decimal, no_feed-join_with_byte}
use Rattle.metis_outside.specs.Terms.{IsLine}
use Rattle.metis_output.proofs.LineWords.{by_word}
use Rattle.metis_tokens.proofs.WordFeeds.{no_feed-pair_word, no_feed-port_name_of}
use Rattle.metis_universe.specs.Terms.{IsNamed, Universe}
use Rattle.metis_ids.specs.declared.actions.Action.{Action}
use Rattle.metis_output.specs.declared.status.Status.{Status}
use Rattle.metis_output.specs.declared.status.Status.TheVariants.{No}
use Rattle.metis_steady.specs.Terms.{HasBadAction, HasLooseAction, IsSteady, IsUnsteadyIn, TellsUnsteady, bad_line, loose_line}
use Rattle.metis_steady.specs.declared.steady.Unsteady.{Unsteady}
use Rattle.metis_steady.specs.declared.steady.Unsteady.TheVariants as unsteady

module _ (u : Universe) (named : IsNamed u) where
  pub IsLine-bad_line : (k : ℕ) (f : AFault) → IsLine (bad_line k (fault_text u f))
  IsLine-bad_line k f = number_then (codes "bad ") k (codes " " ++ (fault_text u f ++ codes "\n")) refl (by_word (codes " ") (fault_text u f) refl (no_feed-fault_text u named f))

pub IsLine-loose_line : (k : ℕ) → IsLine (loose_line k)
IsLine-loose_line k = by_number (codes "loose ") k refl

-- what is told of actions that are no steadfast run, beside what is told of one
pub unsteady_told : (u : Universe) (actions : List Action) (why : Unsteady) (P : List (List ℕ) → Status → Type 0) → IsSteady u actions (Err why) → (lines : List (List ℕ)) → TellsUnsteady u why lines
    → HasBadAction u actions lines No ⊎ (HasLooseAction u actions lines No ⊎ P lines No)
unsteady_told u actions (unsteady.Bad k f) P is lines told = inl (record { number = k; fault = f; first = is.0; told = told; is = refl })
unsteady_told u actions (unsteady.Loose k) P is lines told = inr (inl (record { runs = is.0; number = k; first = is.1; told = told; is = refl }))
unsteady_told u actions unsteady.NoMemory P is lines told = absurd told

-- it names what the universe has
pub unsteady_in : (u : Universe) (actions : List Action) (why : Unsteady) → IsSteady u actions (Err why) → IsUnsteadyIn u why
unsteady_in u actions (unsteady.Bad k f) is = is.1
unsteady_in u actions (unsteady.Loose k) is = tt
unsteady_in u actions unsteady.NoMemory is = tt
