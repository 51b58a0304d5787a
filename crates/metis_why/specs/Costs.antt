-- How distances are found: the least costs of the ways that are known, and the pairs from near to far as far as they are known.
--     never      what no way costs; it stands where no way is known, as top does below
--     far_in costs p      the entry of the pair
--     lowered far pairs cost      a way at this cost to each of the pairs is known too
--     led_by x here far pairs      so are the ways that lead from a pair that is so far to these, where x has them all
--     led_by_ports u given here far q      those that lead on from q by the ports that it requires and whose flags are not set
--     led_by_moves u here far q      those by the moves that lead to q
--     led_on u x here far q      those by all its reasons in x
--     IsFirst top far done count q      of the first count pairs that are not done and to which a way is known q is the first
--     least_of top far o      how far that pair is; what no way costs, where there is none
--     IsNext top far done count o      o is this pair, if there is one
--     IsReaching u x g most top far order      far has costs of ways, the least to the pairs of the order; these ascend, the others are behind them, and ways that lead on from them are known. A step costs so many at most
use Rattle.std.specs.Prelude.{◌≡◌, ◌≤◌, ◌<◌, ◌⊎◌, ◌+◌, ◌*◌, ℕ, Bool, List, length, fold, nat_lt, Option, Some, None, MatchOption, IsTrue, IsFalse, if◌then◌else◌}
use Rattle.std.specs.List.{list_all, slice_index_or}
use Rattle.metis_ids.specs.declared.goals.Goal.{Goal}
use Rattle.metis_universe.specs.Terms.{Universe, has, providers_of, required_of}
use Rattle.metis_why.specs.Barred.{before_of, named_by, wanted_by}
use Rattle.metis_why.specs.Choice.{Ascends, IsBefore, IsCost, IsStep}
use Rattle.metis_why.specs.declared.reason.Reason.{Reason}

abbrev pub never : ℕ
never = 4294967295

-- ---- costs

abbrev pub far_in : List ℕ → ℕ → ℕ
far_in costs p = slice_index_or costs p never

abbrev pub lowered : (ℕ → ℕ) → List ℕ → ℕ → ℕ → ℕ
lowered far pairs cost p = if has pairs p then (if nat_lt cost (far p) then cost else far p) else far p

abbrev pub led_by : (ℕ → Bool) → ℕ → (ℕ → ℕ) → List ℕ → ℕ → ℕ
led_by x here far pairs = if list_all x pairs then lowered far pairs (here + length pairs) else far

abbrev pub led_by_ports : Universe → (ℕ → Bool) → ℕ → (ℕ → ℕ) → ℕ → ℕ → ℕ
led_by_ports u given here far q = fold (λ f r. if given r then f else lowered f (providers_of u r) (here + length (providers_of u r))) far (required_of u q)

abbrev pub led_by_moves : Universe → ℕ → (ℕ → ℕ) → ℕ → ℕ → ℕ
led_by_moves u here far q = lowered far (before_of u q) (here + length (before_of u q))

abbrev pub led_on : Universe → (ℕ → Bool) → ℕ → (ℕ → ℕ) → ℕ → ℕ → ℕ
led_on u x here far q = led_by x here (fold (λ f r. led_by x here f (providers_of u r)) far (required_of u q)) (before_of u q)

-- ---- the pair that is next

pub record IsFirst (top : ℕ) (far : ℕ → ℕ) (done : ℕ → Bool) (count q : ℕ) : Type 0 where
  pub low : q < count
  pub open_ : IsFalse (done q)
  pub known : far q < top
  pub first : (p : ℕ) → p < count → IsFalse (done p) → (far q < far p) ⊎ ((far q ≡ far p) × (q ≤ p))

abbrev pub least_of : ℕ → (ℕ → ℕ) → Option ℕ → ℕ
least_of top far None = top
least_of top far (Some q) = far q

abbrev pub IsNext : ℕ → (ℕ → ℕ) → (ℕ → Bool) → ℕ → Option ℕ → Type 0
IsNext top far done count o = MatchOption o ((p : ℕ) → p < count → IsFalse (done p) → top ≤ far p) (IsFirst top far done count)

-- ---- the order, as far as it is known

pub record IsReaching (u : Universe) (x : ℕ → Bool) (g : Goal) (most top : ℕ) (far : ℕ → ℕ) (order : List ℕ) : Type 0 where
  pub costs : (p : ℕ) → far p < top → IsCost u x g p (far p)
  pub wanted : (p : ℕ) → IsTrue (has (wanted_by u g) p) → far p ≡ 0
  pub led : (q : ℕ) → IsTrue (has order q) → (reason : Reason) (p : ℕ) → IsStep u x q reason p → far p ≤ far q + length (named_by u q reason)
  pub near : (p : ℕ) → far p < top → far p ≤ most * length order
  pub known : (q : ℕ) → IsTrue (has order q) → far q < top
  pub ascends : Ascends far order
  pub behind : (q p : ℕ) → IsTrue (has order q) → IsFalse (has order p) → far p < top → IsBefore far q p
