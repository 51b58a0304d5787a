-- When the parts of a line are told to be wrong.
--     Tells x F R T      no form is told where F holds, and then no number where R does, and then no name where T does
use Rattle.std.proofs.Common.{◌≡◌, ◌≢◌, ℕ, ◌<◌, ◌^◌, Bool, true, false, List, [], ◌∷◌, ◌++◌, Option, Some, None, Result, Ok, Err, refl, sym, ap, ◌∙◌, subst, inl, inr}
use Rattle.std.specs.Prelude.{⊤}
use Rattle.std.specs.Bool.{if◌then◌else◌, nat_lt, ◌==◌}
use Rattle.std.specs.List.{AllByRecursion}
use Rattle.std.specs.Str.Parse.{digits_value}
use Rattle.std.proofs.lemmas.Bool.{eq-eqb, eqb-true, ltb-true}
use Rattle.metis_tokens.specs.Terms.{all_behind, behind, both, due, found, in_range, is_number, made, named, number_in, right}
use Rattle.metis_tokens.specs.declared.flaw.Flaw.{Flaw}
use Rattle.metis_tokens.specs.declared.flaw.Flaw.TheVariants.{Form, Number, Name}
use Rattle.metis_universe.specs.Terms.{is_name}
use Rattle.metis_text.proofs.CountsFlaw.{both_fails, form_first, form_second, number_form, number_nameless, number_right}
use Rattle.metis_text.proofs.LineFlaws.{number_formed}
use Rattle.metis_text.specs.Terms.{IsInRange, IsNumeral}

pub record Tells {A : Type 0} (x : Result A Flaw) (F R T : Type 0) : Type 0 where
  pub form : x ≢ Err Form → F
  pub formed : F → x ≢ Err Form
  pub within : x ≢ Err Form → x ≢ Err Number → R
  pub right_so : F → R → x ≢ Err Number
  pub there : F → R → T → x ≢ Err Name

-- a part is sound where the whole is
sound_first : {A B : Type 0} (x : Result A Flaw) (y : Result B Flaw) → both x y ≢ Err Form → both x y ≢ Err Number → x ≢ Err Number
sound_first x (Ok b) form number h = number (ap (λ x. both x (Ok b)) h)
sound_first x (Err Form) form number h = form (ap (λ x. both x (Err Form)) h)
sound_first x (Err Number) form number h = number (ap (λ x. both x (Err Number)) h)
sound_first x (Err Name) form number h = number (ap (λ x. both x (Err Name)) h)

sound_second : {A B : Type 0} (x : Result A Flaw) (y : Result B Flaw) → both x y ≢ Err Form → both x y ≢ Err Number → y ≢ Err Number
sound_second (Ok a) y form number h = number (ap (both (Ok a)) h)
sound_second (Err Form) y form number h = form (ap (both (Err Form)) h)
sound_second (Err Number) y form number h = number (ap (both (Err Number)) h)
sound_second (Err Name) y form number h = number (ap (both (Err Name)) h)

pub tells_both : {A B : Type 0} {F R T F' R' T' : Type 0} (x : Result A Flaw) (y : Result B Flaw) → Tells x F R T → Tells y F' R' T' → Tells (both x y) (F × F') (R × R') (T × T')
tells_both x y one two = record {
  form = λ h. (one.form (λ e. h (form_first x y e)), two.form (λ e. h (form_second x y e)));
  formed = λ f h. elim (both_fails x y Form h) [ inl e ↦ one.formed f.0 e | inr e ↦ two.formed f.1 e ];
  within = λ form number. (
    one.within (λ e. form (form_first x y e)) (sound_first x y form number),
    two.within (λ e. form (form_second x y e)) (sound_second x y form number),
  );
  right_so = λ f r h. elim (both_fails x y Number h) [ inl e ↦ one.right_so f.0 r.0 e | inr e ↦ two.right_so f.1 r.1 e ];
  there = λ f r t h. elim (both_fails x y Name h) [ inl e ↦ one.there f.0 r.0 t.0 e | inr e ↦ two.there f.1 r.1 t.1 e ];
}

made_fails : {A B : Type 0} (make : A → B) (x : Result A Flaw) (f : Flaw) → made make x ≡ Err f → x ≡ Err f
made_fails make (Ok a) f h = cc
made_fails make (Err g) f h = cc

fails_made : {A B : Type 0} (make : A → B) (x : Result A Flaw) (f : Flaw) → x ≡ Err f → made make x ≡ Err f
fails_made make x f h = ap (made make) h

pub tells_made : {A B : Type 0} {F R T : Type 0} (make : A → B) (x : Result A Flaw) → Tells x F R T → Tells (made make x) F R T
tells_made make x one = record {
  form = λ h. one.form (λ e. h (fails_made make x Form e));
  formed = λ f h. one.formed f (made_fails make x Form h);
  within = λ form number. one.within (λ e. form (fails_made make x Form e)) (λ e. number (fails_made make x Number e));
  right_so = λ f r h. one.right_so f r (made_fails make x Number h);
  there = λ f r t h. one.there f r t (made_fails make x Name h);
}

-- the same in other words
pub tells_as : {A : Type 0} {F R T F' R' T' : Type 0} (x : Result A Flaw) → Tells x F R T → (F → F') → (F' → F) → (R → R') → (R' → R) → (F' → R' → T' → T) → Tells x F' R' T'
tells_as x one to from to' from' there = record {
  form = λ h. to (one.form h);
  formed = λ f. one.formed (from f);
  within = λ form number. to' (one.within form number);
  right_so = λ f r. one.right_so (from f) (from' r);
  there = λ f r t. one.there (from f) (from' r) (there f r t);
}

-- ---- numbers

range_by : (n : ℕ) (b : Bool) → nat_lt n (2 ^ 32) ≡ b → if◌then◌else◌ {A = Result ℕ Flaw} b (Ok n) (Err Number) ≢ Err Number → n < 2 ^ 32
range_by n true is h = ltb-true n (2 ^ 32) is
range_by n false is h = absurd (h refl)

pub number_within : (t : List ℕ) → is_number t ≡ true → number_in t ≢ Err Number → digits_value 10 t < 2 ^ 32
number_within t is h =
    let value : number_in t ≡ in_range (digits_value 10 t) = ap (λ b. if◌then◌else◌ {A = Result ℕ Flaw} b (in_range (digits_value 10 t)) (Err Form)) is in
    range_by (digits_value 10 t) (nat_lt (digits_value 10 t) (2 ^ 32)) refl (λ e. h (value ∙ e))

ok_is : {A : Type 0} (x : Result A Flaw) (a : A) (f : Flaw) → x ≡ Ok a → x ≢ Err f
ok_is x a f h e = cc

pub tells_number : (t : List ℕ) → Tells (number_in t) (IsNumeral t) (IsInRange t) ⊤
tells_number t = record {
  form = number_form t;
  formed = number_formed t;
  within = λ form number. number_within t (number_form t form) number;
  right_so = λ is low. ok_is (number_in t) (digits_value 10 t) Number (number_right t is low);
  there = λ is low _. number_nameless t;
}

right_form : (k : ℕ) (x : Result ℕ Flaw) → right (λ n. n == k) x ≡ Err Form → x ≡ Err Form
right_form k (Ok n) h = by (n == k) h where
  by : (b : Bool) → if◌then◌else◌ {A = Result ℕ Flaw} b (Ok n) (Err Number) ≡ Err Form → Ok n ≡ Err Form
  by true h = cc
  by false h = cc
right_form k (Err f) h = h

right_name : (k : ℕ) (x : Result ℕ Flaw) → right (λ n. n == k) x ≡ Err Name → x ≡ Err Name
right_name k (Ok n) h = by (n == k) h where
  by : (b : Bool) → if◌then◌else◌ {A = Result ℕ Flaw} b (Ok n) (Err Number) ≡ Err Name → Ok n ≡ Err Name
  by true h = cc
  by false h = cc
right_name k (Err f) h = h

same_by : (k n : ℕ) (b : Bool) → (n == k) ≡ b → if◌then◌else◌ {A = Result ℕ Flaw} b (Ok n) (Err Number) ≢ Err Number → n ≡ k
same_by k n true is h = eqb-true n k is
same_by k n false is h = absurd (h refl)

pub tells_due : (k : ℕ) (t : List ℕ) → Tells (due k t) (IsNumeral t) ((digits_value 10 t ≡ k) × (k < 2 ^ 32)) ⊤
tells_due k t =
    let value = digits_value 10 t in
    let read = λ (is : IsNumeral t) (low : value < 2 ^ 32). ap (right (λ n. n == k)) (number_right t is low) in record {
      form = λ h. number_form t (λ e. h (ap (right (λ n. n == k)) e));
      formed = λ is h. number_formed t is (right_form k (number_in t) h);
      within = λ form number.
          let is = number_form t (λ e. form (ap (right (λ n. n == k)) e)) in
          let low = number_within t is (λ e. number (ap (right (λ n. n == k)) e)) in
          let same : value ≡ k = same_by k value (value == k) refl (λ e. number (read is low ∙ e)) in
          (same, subst (λ n. n < 2 ^ 32) same low);
      right_so = λ is r.
          let low : value < 2 ^ 32 = subst (λ n. n < 2 ^ 32) (sym r.0) r.1 in
          ok_is (due k t) value Number (read is low ∙ ap (λ b. if◌then◌else◌ {A = Result ℕ Flaw} b (Ok value) (Err Number)) (eq-eqb value k r.0));
      there = λ is r _ h. number_nameless t (right_name k (number_in t) h);
    }

-- ---- names

module _ {A : Type 0} (find : List ℕ → Option A) where
  pub found_form : (o : Option A) → found o ≢ Err Form
  found_form None h = cc
  found_form (Some a) h = cc

  pub found_number : (o : Option A) → found o ≢ Err Number
  found_number None h = cc
  found_number (Some a) h = cc

  pub found_there : (o : Option A) → o ≢ None → found o ≢ Err Name
  found_there None some h = some refl
  found_there (Some a) some h = cc

  pub tells_named : (t : List ℕ) → Tells (named find t) (is_name t ≡ true) ⊤ (find t ≢ None)
  tells_named t =
      let looked = λ (is : is_name t ≡ true). ap (λ b. if◌then◌else◌ {A = Result A Flaw} b (found (find t)) (Err Form)) is in record {
        form = λ h. elim (is_name t) as (λ b. if◌then◌else◌ {A = Result A Flaw} b (found (find t)) (Err Form) ≢ Err Form → b ≡ true) [ true ↦ λ _. refl | false ↦ λ wrong. absurd (wrong refl) ] h;
        formed = λ is h. found_form (find t) (sym (looked is) ∙ h);
        within = λ form number. tt;
        right_so = λ is _ h. found_number (find t) (sym (looked is) ∙ h);
        there = λ is _ some h. found_there (find t) some (sym (looked is) ∙ h);
      }

-- ---- all things of a list

behind_both : {A : Type 0} (x : Result (List A) Flaw) (y : Result A Flaw) → behind x y ≡ made (λ p. p.0 ++ p.1 ∷ []) (both x y)
behind_both (Ok xs) (Ok y) = refl
behind_both (Ok xs) (Err g) = refl
behind_both (Err f) (Ok y) = refl
behind_both (Err f) (Err g) = refl

module _ {A : Type 0} (read : List ℕ → Result A Flaw) (N S : List ℕ → Type 0) (each : (t : List ℕ) → Tells (read t) (N t) (S t) ⊤) where
  tells_more : (ts : List (List ℕ)) (F R : Type 0) (x : Result (List A) Flaw) → Tells x F R ⊤ → Tells (all_behind read x ts) (F × AllByRecursion N ts) (R × AllByRecursion S ts) ⊤
  tells_more [] F R x one = tells_as x one (λ f. (f, tt)) (λ f. f.0) (λ r. (r, tt)) (λ r. r.0) (λ _ _ t. t)
  tells_more (t ∷ ts) F R x one =
      let next : Tells (both x (read t)) (F × N t) (R × S t) ⊤ = tells_as (both x (read t)) (tells_both x (read t) one (each t)) (λ f. f) (λ f. f) (λ r. r) (λ r. r) (λ _ _ _. (tt, tt)) in
      let pushed : Tells (behind x (read t)) (F × N t) (R × S t) ⊤ =
      subst (λ (r : Result (List A) Flaw). Tells r (F × N t) (R × S t) ⊤) (sym (behind_both x (read t))) (tells_made (λ p. p.0 ++ p.1 ∷ []) (both x (read t)) next) in
      tells_as (all_behind read (behind x (read t)) ts) (tells_more ts (F × N t) (R × S t) (behind x (read t)) pushed)
      (λ f. (f.0.0, (f.0.1, f.1))) (λ f. ((f.0, f.1.0), f.1.1)) (λ r. (r.0.0, (r.0.1, r.1))) (λ r. ((r.0, r.1.0), r.1.1)) (λ _ _ t. t)

  none_told : Tells {A = List A} (Ok []) ⊤ ⊤ ⊤
  none_told = record { form = λ _. tt; formed = λ _ h. cc; within = λ _ _. tt; right_so = λ _ _ h. cc; there = λ _ _ _ h. cc }

  -- all things that the tokens are
  pub tells_all : (ts : List (List ℕ)) → Tells (all_behind read (Ok []) ts) (AllByRecursion N ts) (AllByRecursion S ts) ⊤
  tells_all ts = tells_as (all_behind read (Ok []) ts) (tells_more ts ⊤ ⊤ (Ok []) none_told) (λ f. f.1) (λ f. (tt, f)) (λ r. r.1) (λ r. (tt, r)) (λ _ _ t. t)
