-- What the entries have for an instance, after one of them changed.
use Rattle.std.proofs.Common.{◌≡◌, ℕ, true, false, cond, List, Option, Some, refl, sym, ap, ◌∙◌, nat_eq}
use Rattle.std.specs.Map.{lookup}
use Rattle.std.specs.Prelude.{unwrap_or}
use Rattle.metis_waits.specs.Terms.{InstanceState, idle, state_at}

pub found : (es : List (ℕ × InstanceState)) (z k : ℕ) (o : Option InstanceState) → k ≡ z → o ≡ lookup (nat_eq k) es → state_at es z ≡ unwrap_or o idle
found es z k o at is = ap (λ n. unwrap_or (lookup (nat_eq n) es) idle) (sym at) ∙ ap (λ p. unwrap_or p idle) (sym is)

-- one entry is written
pub put : (es es' : List (ℕ × InstanceState)) (z k : ℕ) (v w : InstanceState) → k ≡ z → v ≡ w → ((q : ℕ) → lookup (nat_eq q) es' ≡ cond (nat_eq k q) (Some v) (lookup (nat_eq q) es)) → (y : ℕ) → state_at es' y ≡ cond (nat_eq z y) w (state_at es y)
put es es' z k v w at new is y =
    ap (λ o. unwrap_or o idle) (is y) ∙ (λ i. unwrap_or (cond (nat_eq (at i) y) (Some (new i)) (lookup (nat_eq y) es)) idle)
    ∙ elim (nat_eq z y) as (λ b. unwrap_or (cond b (Some w) (lookup (nat_eq y) es)) idle ≡ cond b w (unwrap_or (lookup (nat_eq y) es) idle)) [ true ↦ refl | false ↦ refl ]
