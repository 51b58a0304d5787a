-- The text of a fault has no line feed.
use Rattle.std.proofs.Common.{◌≡◌, true, refl}
use Rattle.std.specs.List.{list_all}
use Rattle.std.proofs.lemmas.Bool.{and_from}
use Rattle.metis_actions.specs.Terms.{fault_text, fault_tokens}
use Rattle.metis_actions.specs.declared.faults.AFault.{AFault}
use Rattle.metis_actions.specs.declared.faults.AFault.TheVariants as afault
use Rattle.metis_outside.proofs.Feeds.{no_feed, no_feed-decimal, no_feed-join_with_byte}
use Rattle.metis_tokens.proofs.WordFeeds.{no_feed-pair_word, no_feed-port_name_of}
use Rattle.metis_universe.specs.Terms.{IsNamed, Universe}

module _ (u : Universe) (named : IsNamed u) where
  no_feed-fault_tokens : (f : AFault) → list_all no_feed (fault_tokens u f) ≡ true
  no_feed-fault_tokens (afault.InUse z) = and_from _ _ (no_feed-decimal z) refl
  no_feed-fault_tokens (afault.NoInstance z) = and_from _ _ (no_feed-decimal z) refl
  no_feed-fault_tokens (afault.NoState z p) = and_from _ _ (no_feed-decimal z) (and_from _ _ (no_feed-pair_word u named p) refl)
  no_feed-fault_tokens afault.NoTransition = refl
  no_feed-fault_tokens afault.SameInstance = refl
  no_feed-fault_tokens afault.NoSuchPort = refl
  no_feed-fault_tokens afault.Bound = refl
  no_feed-fault_tokens afault.NotBound = refl
  no_feed-fault_tokens (afault.Unmet z r) = and_from _ _ (no_feed-decimal z) (and_from _ _ (no_feed-port_name_of u named r) refl)
  no_feed-fault_tokens afault.NoMemory = refl

  pub no_feed-fault_text : (f : AFault) → no_feed (fault_text u f) ≡ true
  no_feed-fault_text f = no_feed-join_with_byte 32 (fault_tokens u f) refl (no_feed-fault_tokens f)
