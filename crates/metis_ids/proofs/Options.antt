-- Values that may be missing.
use Rattle.std.proofs.Common.{◌≡◌, ℕ, true, false, Option, Some, None, ap, ◌∙◌, is_some, refl}
use Rattle.std.specs.Option.{IsNone, IsSome, is_none, option_or}
use Rattle.std.proofs.lemmas.Bool.{false≢true, true≢false}

pub none_from_is_some : {A : Type 0} (o : Option A) → is_some o ≡ false → o ≡ None
none_from_is_some None h = refl
none_from_is_some (Some x) h = absurd (true≢false h)

pub none_from_is_none : {A : Type 0} (o : Option A) → is_none o ≡ true → o ≡ None
none_from_is_none None h = refl
none_from_is_none (Some x) h = absurd (cc)

pub none_from_IsNone : {A : Type 0} (o : Option A) → IsNone o → o ≡ None
none_from_IsNone None h = refl
none_from_IsNone (Some x) h = cc

pub IsSome_at : (o : Option ℕ) (x : ℕ) → o ≡ Some x → IsSome o
IsSome_at o x e = ap is_some e

pub none_or_some : (o : Option ℕ) → o ≡ None → IsSome o → ⊥
none_or_some None e h = false≢true h
none_or_some (Some x) e h = cc

pub both_none : {A : Type 0} (a b : Option A) → a ≡ None → b ≡ None → option_or a b ≡ None
both_none a b h k = ap (λ o. option_or o b) h ∙ k
