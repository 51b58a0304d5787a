-- What an audit answers of the dups of a plan's text.
--     audited_lines u g p      the life lines for the targets and the dups' pairs
--     IsAttained u g      each target has a layer
--     IsFirstUnjustified u g ds k      dup k, from 1, is the first that its cycle does not justify
--     follows u g p l      the pairs that the actions put instance l into are the stations of line l, in order
--     IsFirstOff u g p l      line l is the first that is not followed so
--     IsFirstOther actions after k      action k is the first behind which other numbers stand than those of the other actions it waits for
--     IsForced, IsCounted, IsFollowed, IsSteady, IsAudited      the first two tests pass, the first three, and so on up to all six
--     IsAnswer u g p after answer      the answer is the first test that fails, with the first place where it does, or that none fails
use Rattle.std.specs.Prelude.{ℕ, ◌≡◌, ◌≢◌, ◌<◌, ◌≤◌, ◌+◌, ◌-◌, List, length, IsSome, IsTrue, IsFalse}
use Rattle.std.specs.List.{All, count_by}
use Rattle.metis_ids.specs.Terms.{Dup, Plan, makes}
use Rattle.metis_ids.specs.declared.actions.Action.{Action}
use Rattle.metis_universe.specs.Terms.{Universe, is_steadfast, layer_of}
use Rattle.metis_choice.specs.Terms.{IsFirstWithout}
use Rattle.metis_emit.specs.Terms.{entered}
use Rattle.metis_lines.specs.Terms.{LifeLines, is_justified, is_justified_at, line_at, lines_for, own_pairs}
use Rattle.metis_text.specs.Terms.{after_of}
use Rattle.metis_waits.specs.Terms.{IsFirstLoose, waits_on_others}
use Rattle.metis_audit.specs.declared.answers.Answer.{Answer}
use Rattle.metis_audit.specs.declared.answers.Answer.TheVariants.{Justified, NotAttained, NoCycle, Count, Path, Loose, After}

abbrev pub audited_lines : Universe → List ℕ → Plan → LifeLines
audited_lines u g p = lines_for u g (own_pairs p.dups)

abbrev pub IsAttained : Universe → List ℕ → Type 0
IsAttained u g = All (λ q. IsSome (layer_of u q)) g

pub record IsFirstUnjustified (u : Universe) (g : List ℕ) (ds : List Dup) (k : ℕ) : Type 0 where
  pub first : 1 ≤ k
  pub last : k ≤ length ds
  pub fails : IsFalse (is_justified_at u g ds (k - 1))
  pub before : (i : ℕ) → i + 1 < k → IsTrue (is_justified_at u g ds i)

abbrev pub follows : Universe → List ℕ → Plan → ℕ → Type 0
follows u g p l = entered u l p.actions ≡ line_at (audited_lines u g p) l

pub record IsFirstOff (u : Universe) (g : List ℕ) (p : Plan) (l : ℕ) : Type 0 where
  pub within : l < length (audited_lines u g p).lines
  pub fails : entered u l p.actions ≢ line_at (audited_lines u g p) l
  pub before : (m : ℕ) → m < l → follows u g p m

pub record IsFirstOther (actions : List Action) (after : List (List ℕ)) (k : ℕ) : Type 0 where
  pub first : 1 ≤ k
  pub last : k ≤ length actions
  pub fails : after_of after k ≢ waits_on_others actions k
  pub before : (j : ℕ) → 1 ≤ j → j < k → after_of after j ≡ waits_on_others actions j

pub record IsForced (u : Universe) (g : List ℕ) (p : Plan) : Type 0 where
  pub attained : IsAttained u g
  pub justified : IsTrue (is_justified u g p.dups)

pub record IsCounted (u : Universe) (g : List ℕ) (p : Plan) : Type 0 where
  pub forced : IsForced u g p
  pub count : count_by makes p.actions ≡ length (audited_lines u g p).lines

pub record IsFollowed (u : Universe) (g : List ℕ) (p : Plan) : Type 0 where
  pub counted : IsCounted u g p
  pub each : (l : ℕ) → l < length (audited_lines u g p).lines → follows u g p l

pub record IsSteady (u : Universe) (g : List ℕ) (p : Plan) : Type 0 where
  pub followed : IsFollowed u g p
  pub steadfast : IsTrue (is_steadfast u p.actions)

pub record IsAudited (u : Universe) (g : List ℕ) (p : Plan) (after : List (List ℕ)) : Type 0 where
  pub steady : IsSteady u g p
  pub printed : (k : ℕ) → 1 ≤ k → k ≤ length p.actions → after_of after k ≡ waits_on_others p.actions k

pub record IsMiscount (u : Universe) (g : List ℕ) (p : Plan) (have want : ℕ) : Type 0 where
  pub made : have ≡ count_by makes p.actions
  pub needed : want ≡ length (audited_lines u g p).lines
  pub differ : have ≢ want

abbrev pub IsAnswer : Universe → List ℕ → Plan → List (List ℕ) → Answer → Type 0
IsAnswer u g p after (NotAttained q) = IsFirstWithout u g q
IsAnswer u g p after (NoCycle k) = IsAttained u g × IsFirstUnjustified u g p.dups k
IsAnswer u g p after (Count have want) = IsForced u g p × IsMiscount u g p have want
IsAnswer u g p after (Path l) = IsCounted u g p × IsFirstOff u g p l
IsAnswer u g p after (Loose k) = IsFollowed u g p × IsFirstLoose u p.actions k
IsAnswer u g p after (After k) = IsSteady u g p × IsFirstOther p.actions after k
IsAnswer u g p after Justified = IsAudited u g p after
