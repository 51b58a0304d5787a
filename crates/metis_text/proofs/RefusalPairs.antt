-- A pair that stands behind all of a set.
use Rattle.std.proofs.Common.{◌≡◌, ℕ, ◌<◌, Bool, true, false, ◌&&◌, List, [], ◌∷◌, ◌++◌, Some, Greater, Result, Ok, Err, refl, sym, ap, ◌∙◌, arith, nat_cmp}
use Rattle.std.specs.Bool.{if◌then◌else◌, nat_lt}
use Rattle.std.specs.BTreeSet.{insert_key}
use Rattle.std.specs.Cmp.{nat_cmp_is}
use Rattle.std.proofs.lemmas.Bool.{and_from, and_parts, lt-ltb, ltb-true}
use Rattle.std.proofs.lemmas.List.Folds.{list_all-append}
use Rattle.metis_tokens.specs.Terms.{right}
use Rattle.metis_text.specs.Terms.{above, follows}
use Rattle.metis_tokens.specs.declared.flaw.Flaw.{Flaw}
use Rattle.metis_tokens.specs.declared.flaw.Flaw.TheVariants.{Number}

-- it is put in at the end
pub insert_behind : (pairs : List ℕ) (p : ℕ) → above pairs p ≡ true → insert_key nat_cmp pairs p ≡ pairs ++ p ∷ []
insert_behind [] p h = refl
insert_behind (q ∷ pairs) p h =
    let both = and_parts (nat_lt q p) (above pairs p) h in
    let more = nat_cmp_is p q Greater (ltb-true q p both.0) in
    rw (sym more) (ap (λ l. q ∷ l) (insert_behind pairs p both.1))

-- and so is what stands behind it
above_from : (pairs : List ℕ) (p q : ℕ) → above pairs p ≡ true → p < q → above pairs q ≡ true
above_from [] p q h less = refl
above_from (r ∷ pairs) p q h less =
    let both = and_parts (nat_lt r p) (above pairs p) h in
    and_from _ _ (lt-ltb r q (omega (arith, ltb-true r p both.0))) (above_from pairs p q both.1 less)

last_alone : (a b : Bool) → (b ≡ true → a ≡ true) → b ≡ (a && (b && true))
last_alone true true h = refl
last_alone true false h = refl
last_alone false true h = sym (h refl)
last_alone false false h = refl

-- what follows it stands behind the set with it
pub above_last : (pairs : List ℕ) (p : ℕ) → above pairs p ≡ true → (q : ℕ) → follows (Some p) q ≡ above (pairs ++ p ∷ []) q
above_last pairs p h q =
    last_alone (above pairs q) (nat_lt p q) (λ less. above_from pairs p q h (ltb-true p q less))
    ∙ sym (list_all-append (λ r. nat_lt r q) pairs (p ∷ []))

-- what was read is right by either test, where these agree
pub right_same : (f g : ℕ → Bool) (x : Result ℕ Flaw) → ((p : ℕ) → f p ≡ g p) → right f x ≡ right g x
right_same f g (Ok p) same = ap (λ b. if b then Ok p else Err Number) (same p)
right_same f g (Err flaw) same = refl
