-- Which lines have a form, and which of these name something that is not there.
use Rattle.std.proofs.Common.{◌≡◌, ℕ, ◌&&◌, Bool, true, false, cond, List, [], ◌∷◌, codes, Option, Some, None, Result, Ok, Err, refl, sym, ap, ◌∙◌, subst}
use Rattle.std.proofs.Common.{◌⊎◌, inl, inr}
use Rattle.std.specs.Str.{bytes_eq}
use Rattle.std.proofs.lemmas.Bool.{false≢true}
use Rattle.std.proofs.lemmas.Slice.Eq.{bytes_eq-Decides}
use Rattle.metis_ids.specs.declared.actions.Action.{Action}
use Rattle.metis_ids.specs.declared.actions.Action.TheVariants.{New, Delete, Bind, Unbind, Move}
use Rattle.metis_universe.specs.Terms.{Config, Universe, is_name, pair_of, port_named, state_named, type_named, type_of}
use Rattle.metis_sim.specs.Terms.{IsMove, IsNumber, IsOfUnknown, IsOrder, IsTie, NamesNoState, NamesNothing, Order, action_in, between, bind_args, binds, checks, delete_args, delete_in, deletes, ends_in, formed, known, makes, move_args, move_in, moves, new_args, new_in, number_of, on, order_words, present, tie_args, unbind_args, unbinds}
use Rattle.metis_sim.specs.declared.misread.Misread.{Misread}
use Rattle.metis_sim.specs.declared.misread.Misread.TheVariants.{Absent, Form, Name}

-- ---- lists of tokens

head_same : (a b : List ℕ) (xs ys : List (List ℕ)) → a ∷ xs ≡ b ∷ ys → a ≡ b
head_same a b xs ys e = cc

differ : (a b : List ℕ) → bytes_eq a b ≡ false → (xs ys : List (List ℕ)) → a ∷ xs ≡ b ∷ ys → ⊥
differ a b other xs ys e = false≢true (sym other ∙ (bytes_eq-Decides a b).1 (head_same a b xs ys e))

none_no : (z : List ℕ) → number_of z ≡ None → IsNumber z → ⊥
none_no z none (n, is) = let e : None ≡ Some n = sym none ∙ is in cc

-- ---- which order has a verb

record IsNew (ts : List (List ℕ)) (o : Order) : Type 0 where
  z : List ℕ
  kind : List ℕ
  words : ts ≡ z ∷ kind ∷ []
  is : o ≡ makes z kind

only_new : (ts : List (List ℕ)) (o : Order) → codes "new" ∷ ts ≡ order_words o → IsNew ts o
only_new ts (makes z kind) e = record { z = z; kind = kind; words = cc; is = refl }
only_new ts (deletes z) e = absurd (differ (codes "new") (codes "delete") refl ts (z ∷ []) e)
only_new ts (binds r z y) e = absurd (differ (codes "new") (codes "bind") refl ts (r ∷ z ∷ y ∷ []) e)
only_new ts (unbinds r z y) e = absurd (differ (codes "new") (codes "unbind") refl ts (r ∷ z ∷ y ∷ []) e)
only_new ts (moves z from to) e = absurd (differ (codes "new") (codes "move") refl ts (z ∷ from ∷ to ∷ []) e)
only_new ts (checks targets) e = absurd (differ (codes "new") (codes "check") refl ts targets e)

record IsDelete (ts : List (List ℕ)) (o : Order) : Type 0 where
  z : List ℕ
  words : ts ≡ z ∷ []
  is : o ≡ deletes z

only_delete : (ts : List (List ℕ)) (o : Order) → codes "delete" ∷ ts ≡ order_words o → IsDelete ts o
only_delete ts (makes z kind) e = absurd (differ (codes "delete") (codes "new") refl ts (z ∷ kind ∷ []) e)
only_delete ts (deletes z) e = record { z = z; words = cc; is = refl }
only_delete ts (binds r z y) e = absurd (differ (codes "delete") (codes "bind") refl ts (r ∷ z ∷ y ∷ []) e)
only_delete ts (unbinds r z y) e = absurd (differ (codes "delete") (codes "unbind") refl ts (r ∷ z ∷ y ∷ []) e)
only_delete ts (moves z from to) e = absurd (differ (codes "delete") (codes "move") refl ts (z ∷ from ∷ to ∷ []) e)
only_delete ts (checks targets) e = absurd (differ (codes "delete") (codes "check") refl ts targets e)

record IsTied (make : List ℕ → List ℕ → List ℕ → Order) (ts : List (List ℕ)) (o : Order) : Type 0 where
  port : List ℕ
  z : List ℕ
  y : List ℕ
  words : ts ≡ port ∷ z ∷ y ∷ []
  is : o ≡ make port z y

only_bind : (ts : List (List ℕ)) (o : Order) → codes "bind" ∷ ts ≡ order_words o → IsTied binds ts o
only_bind ts (makes z kind) e = absurd (differ (codes "bind") (codes "new") refl ts (z ∷ kind ∷ []) e)
only_bind ts (deletes z) e = absurd (differ (codes "bind") (codes "delete") refl ts (z ∷ []) e)
only_bind ts (binds r z y) e = record { port = r; z = z; y = y; words = cc; is = refl }
only_bind ts (unbinds r z y) e = absurd (differ (codes "bind") (codes "unbind") refl ts (r ∷ z ∷ y ∷ []) e)
only_bind ts (moves z from to) e = absurd (differ (codes "bind") (codes "move") refl ts (z ∷ from ∷ to ∷ []) e)
only_bind ts (checks targets) e = absurd (differ (codes "bind") (codes "check") refl ts targets e)

only_unbind : (ts : List (List ℕ)) (o : Order) → codes "unbind" ∷ ts ≡ order_words o → IsTied unbinds ts o
only_unbind ts (makes z kind) e = absurd (differ (codes "unbind") (codes "new") refl ts (z ∷ kind ∷ []) e)
only_unbind ts (deletes z) e = absurd (differ (codes "unbind") (codes "delete") refl ts (z ∷ []) e)
only_unbind ts (binds r z y) e = absurd (differ (codes "unbind") (codes "bind") refl ts (r ∷ z ∷ y ∷ []) e)
only_unbind ts (unbinds r z y) e = record { port = r; z = z; y = y; words = cc; is = refl }
only_unbind ts (moves z from to) e = absurd (differ (codes "unbind") (codes "move") refl ts (z ∷ from ∷ to ∷ []) e)
only_unbind ts (checks targets) e = absurd (differ (codes "unbind") (codes "check") refl ts targets e)

record IsMoved (ts : List (List ℕ)) (o : Order) : Type 0 where
  z : List ℕ
  from : List ℕ
  to : List ℕ
  words : ts ≡ z ∷ from ∷ to ∷ []
  is : o ≡ moves z from to

only_move : (ts : List (List ℕ)) (o : Order) → codes "move" ∷ ts ≡ order_words o → IsMoved ts o
only_move ts (makes z kind) e = absurd (differ (codes "move") (codes "new") refl ts (z ∷ kind ∷ []) e)
only_move ts (deletes z) e = absurd (differ (codes "move") (codes "delete") refl ts (z ∷ []) e)
only_move ts (binds r z y) e = absurd (differ (codes "move") (codes "bind") refl ts (r ∷ z ∷ y ∷ []) e)
only_move ts (unbinds r z y) e = absurd (differ (codes "move") (codes "unbind") refl ts (r ∷ z ∷ y ∷ []) e)
only_move ts (moves z from to) e = record { z = z; from = from; to = to; words = cc; is = refl }
only_move ts (checks targets) e = absurd (differ (codes "move") (codes "check") refl ts targets e)

pub only_check : (ts : List (List ℕ)) (o : Order) → codes "check" ∷ ts ≡ order_words o → o ≡ checks ts
only_check ts (makes z kind) e = absurd (differ (codes "check") (codes "new") refl ts (z ∷ kind ∷ []) e)
only_check ts (deletes z) e = absurd (differ (codes "check") (codes "delete") refl ts (z ∷ []) e)
only_check ts (binds r z y) e = absurd (differ (codes "check") (codes "bind") refl ts (r ∷ z ∷ y ∷ []) e)
only_check ts (unbinds r z y) e = absurd (differ (codes "check") (codes "unbind") refl ts (r ∷ z ∷ y ∷ []) e)
only_check ts (moves z from to) e = absurd (differ (codes "check") (codes "move") refl ts (z ∷ from ∷ to ∷ []) e)
only_check ts (checks targets) e = cc

pub record IsNoVerb (verb : List ℕ) : Type 0 where
  pub no_new : bytes_eq verb (codes "new") ≡ false
  pub no_delete : bytes_eq verb (codes "delete") ≡ false
  pub no_bind : bytes_eq verb (codes "bind") ≡ false
  pub no_unbind : bytes_eq verb (codes "unbind") ≡ false
  pub no_move : bytes_eq verb (codes "move") ≡ false
  pub no_check : bytes_eq verb (codes "check") ≡ false

pub no_order : (verb : List ℕ) → IsNoVerb verb → (args : List (List ℕ)) (o : Order) → verb ∷ args ≡ order_words o → ⊥
no_order verb never args (makes z kind) e = differ verb (codes "new") never.no_new args (z ∷ kind ∷ []) e
no_order verb never args (deletes z) e = differ verb (codes "delete") never.no_delete args (z ∷ []) e
no_order verb never args (binds r z y) e = differ verb (codes "bind") never.no_bind args (r ∷ z ∷ y ∷ []) e
no_order verb never args (unbinds r z y) e = differ verb (codes "unbind") never.no_unbind args (r ∷ z ∷ y ∷ []) e
no_order verb never args (moves z from to) e = differ verb (codes "move") never.no_move args (z ∷ from ∷ to ∷ []) e
no_order verb never args (checks targets) e = differ verb (codes "check") never.no_check args targets e

-- two orders with the same words are one
pub order_same : (o p : Order) → order_words o ≡ order_words p → o ≡ p
order_same (makes z kind) p e =
    let f = only_new (z ∷ kind ∷ []) p e in
    let w : z ∷ kind ∷ [] ≡ f.z ∷ f.kind ∷ [] = f.words in
    let same : makes z kind ≡ makes f.z f.kind = cc in same ∙ sym f.is
order_same (deletes z) p e =
    let f = only_delete (z ∷ []) p e in
    let w : z ∷ [] ≡ f.z ∷ [] = f.words in
    let same : deletes z ≡ deletes f.z = cc in same ∙ sym f.is
order_same (binds r z y) p e =
    let f = only_bind (r ∷ z ∷ y ∷ []) p e in
    let w : r ∷ z ∷ y ∷ [] ≡ f.port ∷ f.z ∷ f.y ∷ [] = f.words in
    let same : binds r z y ≡ binds f.port f.z f.y = cc in same ∙ sym f.is
order_same (unbinds r z y) p e =
    let f = only_unbind (r ∷ z ∷ y ∷ []) p e in
    let w : r ∷ z ∷ y ∷ [] ≡ f.port ∷ f.z ∷ f.y ∷ [] = f.words in
    let same : unbinds r z y ≡ unbinds f.port f.z f.y = cc in same ∙ sym f.is
order_same (moves z from to) p e =
    let f = only_move (z ∷ from ∷ to ∷ []) p e in
    let w : z ∷ from ∷ to ∷ [] ≡ f.z ∷ f.from ∷ f.to ∷ [] = f.words in
    let same : moves z from to ≡ moves f.z f.from f.to = cc in same ∙ sym f.is
order_same (checks targets) p e = sym (only_check targets p e)

-- ---- what the tokens of a line ask for

pub record IsNamed (u : Universe) (c : Config) (ts : List (List ℕ)) : Type 0 where
  pub order : Order
  pub words : ts ≡ order_words order
  pub formed : IsOrder order
  pub names : NamesNothing u c order → ⊥

abbrev pub HasNone : List (List ℕ) → Type 0
HasNone ts = (o : Order) → ts ≡ order_words o → IsOrder o → ⊥

module _ (u : Universe) (c : Config) where
  abbrev pub Judged : List (List ℕ) → Result Action Misread → Type 0
  Judged ts (Err Form) = HasNone ts
  Judged ts (Err Name) = IsOfUnknown u c ts
  Judged ts (Err (Absent z)) = IsNamed u c ts
  Judged ts (Ok a) = IsNamed u c ts

  -- ---- a new instance

  new_none : (ts : List (List ℕ)) → ((z kind : List ℕ) → ts ≡ z ∷ kind ∷ [] → IsOrder (makes z kind) → ⊥) → HasNone (codes "new" ∷ ts)
  new_none ts never o e is = let f = only_new ts o e in never f.z f.kind f.words (subst IsOrder f.is is)

  new_two : (z kind : List ℕ) → Judged (codes "new" ∷ z ∷ kind ∷ []) (new_in u z kind)
  new_two z kind = by (number_of z) refl (is_name kind) refl (type_named u kind) refl where
    by : (x : Option ℕ) → number_of z ≡ x → (b : Bool) → is_name kind ≡ b → (t : Option ℕ) → type_named u kind ≡ t
        → Judged (codes "new" ∷ z ∷ kind ∷ []) (on (formed x) (λ n. on (cond b (known t) (Err Form)) (λ t. Ok (New n t))))
    by None none b name t type = new_none (z ∷ kind ∷ []) (λ a k e is. none_no z none (subst IsNumber (sym (same a k e)) is.0)) where
      same : (a k : List ℕ) → z ∷ kind ∷ [] ≡ a ∷ k ∷ [] → z ≡ a
      same a k e = cc
    by (Some n) some false name t type = new_none (z ∷ kind ∷ []) (λ a k e is. false≢true (sym name ∙ ap is_name (same a k e) ∙ is.1)) where
      same : (a k : List ℕ) → z ∷ kind ∷ [] ≡ a ∷ k ∷ [] → kind ≡ k
      same a k e = cc
    by (Some n) some true name None type = record { order = makes z kind; words = refl; formed = ((n, some), name); names = type }
    by (Some n) some true name (Some t) type = record { order = makes z kind; words = refl; formed = ((n, some), name); names = λ none. let e : Some t ≡ None = sym type ∙ none in cc }

  new_judged : (ts : List (List ℕ)) → Judged (codes "new" ∷ ts) (new_args u ts)
  new_judged [] = new_none [] (λ z kind e is. cc)
  new_judged (a ∷ []) = new_none (a ∷ []) (λ z kind e is. cc)
  new_judged (a ∷ b ∷ []) = new_two a b
  new_judged (a ∷ b ∷ d ∷ ts) = new_none (a ∷ b ∷ d ∷ ts) (λ z kind e is. cc)

  -- ---- a deletion

  delete_none : (ts : List (List ℕ)) → ((z : List ℕ) → ts ≡ z ∷ [] → IsNumber z → ⊥) → HasNone (codes "delete" ∷ ts)
  delete_none ts never o e is = let f = only_delete ts o e in never f.z f.words (subst IsOrder f.is is)

  delete_one : (z : List ℕ) → Judged (codes "delete" ∷ z ∷ []) (delete_in z)
  delete_one z = by (number_of z) refl where
    by : (x : Option ℕ) → number_of z ≡ x → Judged (codes "delete" ∷ z ∷ []) (on (formed x) (λ n. Ok (Delete n)))
    by None none = delete_none (z ∷ []) (λ a e is. none_no z none (subst IsNumber (sym (same a e)) is)) where
      same : (a : List ℕ) → z ∷ [] ≡ a ∷ [] → z ≡ a
      same a e = cc
    by (Some n) some = record { order = deletes z; words = refl; formed = (n, some); names = λ never. never }

  delete_judged : (ts : List (List ℕ)) → Judged (codes "delete" ∷ ts) (delete_args ts)
  delete_judged [] = delete_none [] (λ z e is. cc)
  delete_judged (a ∷ []) = delete_one a
  delete_judged (a ∷ b ∷ ts) = delete_none (a ∷ b ∷ ts) (λ z e is. cc)

  -- ---- a binding

  record TieNone (ts : List (List ℕ)) : Type 0 where
    port : List ℕ
    z : List ℕ
    y : List ℕ
    words : ts ≡ port ∷ z ∷ y ∷ []
    formed : IsTie port z y
    none : port_named u port ≡ None

  record TieNamed (ts : List (List ℕ)) : Type 0 where
    port : List ℕ
    z : List ℕ
    y : List ℕ
    words : ts ≡ port ∷ z ∷ y ∷ []
    formed : IsTie port z y
    named : port_named u port ≡ None → ⊥

  abbrev TieJudged : List (List ℕ) → Result (ℕ × ℕ × ℕ) Misread → Type 0
  TieJudged ts (Err Form) = (port z y : List ℕ) → ts ≡ port ∷ z ∷ y ∷ [] → IsTie port z y → ⊥
  TieJudged ts (Err Name) = TieNone ts
  TieJudged ts (Err (Absent n)) = ⊥
  TieJudged ts (Ok e) = TieNamed ts

  ends_judged : (r z y : List ℕ) → TieJudged (r ∷ z ∷ y ∷ []) (ends_in u r z y)
  unfolding ends_in
  ends_judged r z y = by (number_of z) refl (number_of y) refl (is_name r) refl (port_named u r) refl where
    first_same : (p a b : List ℕ) → r ∷ z ∷ y ∷ [] ≡ p ∷ a ∷ b ∷ [] → r ≡ p
    first_same p a b e = cc

    second_same : (p a b : List ℕ) → r ∷ z ∷ y ∷ [] ≡ p ∷ a ∷ b ∷ [] → z ≡ a
    second_same p a b e = cc

    third_same : (p a b : List ℕ) → r ∷ z ∷ y ∷ [] ≡ p ∷ a ∷ b ∷ [] → y ≡ b
    third_same p a b e = cc

    by : (x : Option ℕ) → number_of z ≡ x → (v : Option ℕ) → number_of y ≡ v → (b : Bool) → is_name r ≡ b → (q : Option ℕ) → port_named u r ≡ q
        → TieJudged (r ∷ z ∷ y ∷ []) (on (formed x) (λ n. on (formed v) (λ m. on (cond b (known q) (Err Form)) (λ port. Ok (port, n, m)))))
    by None none v to b name q port = λ p a d e is. none_no z none (subst IsNumber (sym (second_same p a d e)) is.requirer)
    by (Some n) from None none b name q port = λ p a d e is. none_no y none (subst IsNumber (sym (third_same p a d e)) is.provider)
    by (Some n) from (Some m) to false name q port = λ p a d e is. false≢true (sym name ∙ ap is_name (first_same p a d e) ∙ is.name)
    by (Some n) from (Some m) to true name None port = record { port = r; z = z; y = y; words = refl; formed = record { name = name; requirer = (n, from); provider = (m, to) }; none = port }
    by (Some n) from (Some m) to true name (Some q) port = record { port = r; z = z; y = y; words = refl; formed = record { name = name; requirer = (n, from); provider = (m, to) }; named = λ none. let e : Some q ≡ None = sym port ∙ none in cc }

  tie_judged : (ts : List (List ℕ)) → TieJudged ts (tie_args u ts)
  tie_judged [] = λ p a d e is. cc
  tie_judged (r ∷ []) = λ p a d e is. cc
  tie_judged (r ∷ z ∷ []) = λ p a d e is. cc
  tie_judged (r ∷ z ∷ y ∷ []) = ends_judged r z y
  tie_judged (r ∷ z ∷ y ∷ x ∷ ts) = λ p a d e is. cc

  bind_judged : (ts : List (List ℕ)) → Judged (codes "bind" ∷ ts) (bind_args u ts)
  bind_judged ts = by (tie_args u ts) (tie_judged ts) where
    by : (r : Result (ℕ × ℕ × ℕ) Misread) → TieJudged ts r → Judged (codes "bind" ∷ ts) (on r (λ e. Ok (Bind e.0 e.1 e.2)))
    by (Err Form) never = λ o e is. let f = only_bind ts o e in never f.port f.z f.y f.words (subst IsOrder f.is is)
    by (Err Name) h = record { order = binds h.port h.z h.y; words = ap (λ (t : List (List ℕ)). codes "bind" ∷ t) h.words; formed = h.formed; names = h.none }
    by (Err (Absent n)) h = absurd h
    by (Ok e) h = record { order = binds h.port h.z h.y; words = ap (λ (t : List (List ℕ)). codes "bind" ∷ t) h.words; formed = h.formed; names = h.named }

  unbind_judged : (ts : List (List ℕ)) → Judged (codes "unbind" ∷ ts) (unbind_args u ts)
  unbind_judged ts = by (tie_args u ts) (tie_judged ts) where
    by : (r : Result (ℕ × ℕ × ℕ) Misread) → TieJudged ts r → Judged (codes "unbind" ∷ ts) (on r (λ e. Ok (Unbind e.0 e.1 e.2)))
    by (Err Form) never = λ o e is. let f = only_unbind ts o e in never f.port f.z f.y f.words (subst IsOrder f.is is)
    by (Err Name) h = record { order = unbinds h.port h.z h.y; words = ap (λ (t : List (List ℕ)). codes "unbind" ∷ t) h.words; formed = h.formed; names = h.none }
    by (Err (Absent n)) h = absurd h
    by (Ok e) h = record { order = unbinds h.port h.z h.y; words = ap (λ (t : List (List ℕ)). codes "unbind" ∷ t) h.words; formed = h.formed; names = h.named }

  -- ---- a move

  move_none : (ts : List (List ℕ)) → ((z from to : List ℕ) → ts ≡ z ∷ from ∷ to ∷ [] → IsMove z from to → ⊥) → HasNone (codes "move" ∷ ts)
  move_none ts never o e is = let f = only_move ts o e in never f.z f.from f.to f.words (subst IsOrder f.is is)

  module _ (z from to : List ℕ) where
    abbrev move_words : List (List ℕ)
    move_words = codes "move" ∷ z ∷ from ∷ to ∷ []

    some_same : (a b : ℕ) → Some a ≡ Some b → a ≡ b
    some_same a b e = cc

    first_same : (a b d : List ℕ) → z ∷ from ∷ to ∷ [] ≡ a ∷ b ∷ d ∷ [] → z ≡ a
    first_same a b d e = cc

    second_same : (a b d : List ℕ) → z ∷ from ∷ to ∷ [] ≡ a ∷ b ∷ d ∷ [] → from ≡ b
    second_same a b d e = cc

    third_same : (a b d : List ℕ) → z ∷ from ∷ to ∷ [] ≡ a ∷ b ∷ d ∷ [] → to ≡ d
    third_same a b d e = cc

    states_judged : (n q : ℕ) → number_of z ≡ Some n → pair_of c n ≡ Some q → IsMove z from to
        → Judged move_words (on (known (state_named u (type_of u q) from)) (λ a. on (known (state_named u (type_of u q) to)) (λ b. Ok (Move n a b))))
    states_judged n q reads here is = by (state_named u (type_of u q) from) refl (state_named u (type_of u q) to) refl where
      at : NamesNoState u c z from to → (state_named u (type_of u q) from ≡ None) ⊎ (state_named u (type_of u q) to ≡ None)
      at h =
          let same : n ≡ h.number = some_same n h.number (sym reads ∙ h.reads) in
          let pair : q ≡ h.pair = some_same q h.pair (sym here ∙ ap (pair_of c) same ∙ h.present) in
          subst (λ p. (state_named u (type_of u p) from ≡ None) ⊎ (state_named u (type_of u p) to ≡ None)) (sym pair) h.none

      by : (a : Option ℕ) → state_named u (type_of u q) from ≡ a → (b : Option ℕ) → state_named u (type_of u q) to ≡ b
          → Judged move_words (on (known a) (λ a. on (known b) (λ b. Ok (Move n a b))))
      by None none b second = record { order = moves z from to; words = refl; formed = is; names = record { number = n; pair = q; reads = reads; present = here; none = inl none } }
      by (Some a) first None none = record { order = moves z from to; words = refl; formed = is; names = record { number = n; pair = q; reads = reads; present = here; none = inr none } }
      by (Some a) first (Some b) second = record { order = moves z from to; words = refl; formed = is; names = λ h. both (at h) } where
        both : (state_named u (type_of u q) from ≡ None) ⊎ (state_named u (type_of u q) to ≡ None) → ⊥
        both (inl none) = let e : Some a ≡ None = sym first ∙ none in cc
        both (inr none) = let e : Some b ≡ None = sym second ∙ none in cc

    between_judged : (n : ℕ) → number_of z ≡ Some n → IsMove z from to → Judged move_words (between u c n from to)
    between_judged n reads is = by (pair_of c n) refl where
      by : (p : Option ℕ) → pair_of c n ≡ p
          → Judged move_words (on (present n p) (λ p. on (known (state_named u (type_of u p) from)) (λ a. on (known (state_named u (type_of u p) to)) (λ b. Ok (Move n a b)))))
      by None none = record { order = moves z from to; words = refl; formed = is; names = λ h. gone h } where
        gone : NamesNoState u c z from to → ⊥
        gone h =
            let same : n ≡ h.number = some_same n h.number (sym reads ∙ h.reads) in
            let e : None ≡ Some h.pair = sym none ∙ ap (pair_of c) same ∙ h.present in cc
      by (Some q) here = states_judged n q reads here is

    move_three : Judged move_words (move_in u c z from to)
    move_three = by (number_of z) refl (is_name from) refl (is_name to) refl where
      by : (x : Option ℕ) → number_of z ≡ x → (a : Bool) → is_name from ≡ a → (b : Bool) → is_name to ≡ b
          → Judged move_words (on (formed x) (λ n. cond (a && b) (between u c n from to) (Err Form)))
      by None none a first b second = move_none (z ∷ from ∷ to ∷ []) (λ p q r e is. none_no z none (subst IsNumber (sym (first_same p q r e)) is.number))
      by (Some n) reads false first b second = move_none (z ∷ from ∷ to ∷ []) (λ p q r e is. false≢true (sym first ∙ ap is_name (second_same p q r e) ∙ is.first))
      by (Some n) reads true first false second = move_none (z ∷ from ∷ to ∷ []) (λ p q r e is. false≢true (sym second ∙ ap is_name (third_same p q r e) ∙ is.second))
      by (Some n) reads true first true second = between_judged n reads (record { number = (n, reads); first = first; second = second })

  move_judged : (ts : List (List ℕ)) → Judged (codes "move" ∷ ts) (move_args u c ts)
  move_judged [] = move_none [] (λ a b d e is. cc)
  move_judged (z ∷ []) = move_none (z ∷ []) (λ a b d e is. cc)
  move_judged (z ∷ x ∷ []) = move_none (z ∷ x ∷ []) (λ a b d e is. cc)
  move_judged (z ∷ x ∷ y ∷ []) = move_three z x y
  move_judged (z ∷ x ∷ y ∷ v ∷ ts) = move_none (z ∷ x ∷ y ∷ v ∷ ts) (λ a b d e is. cc)

  -- ---- any verb

  either : (P : Result Action Misread → Type 0) (b : Bool) (x y : Result Action Misread) → (b ≡ true → P x) → (b ≡ false → P y) → P (cond b x y)
  either P true x y p q = p refl
  either P false x y p q = q refl

  pub action_judged : (verb : List ℕ) (args : List (List ℕ)) → bytes_eq verb (codes "check") ≡ false → Judged (verb ∷ args) (action_in u c verb args)
  action_judged verb args no_check =
      let is : (w : List ℕ) (r : Result Action Misread) → Judged (w ∷ args) r → bytes_eq verb w ≡ true → Judged (verb ∷ args) r =
      λ w r h same. subst (λ v. Judged (v ∷ args) r) (sym ((bytes_eq-Decides verb w).0 same)) h in
      either (Judged (verb ∷ args)) (bytes_eq verb (codes "new")) (new_args u args) _ (is (codes "new") (new_args u args) (new_judged args)) (λ no_new.
      either (Judged (verb ∷ args)) (bytes_eq verb (codes "delete")) (delete_args args) _ (is (codes "delete") (delete_args args) (delete_judged args)) (λ no_delete.
      either (Judged (verb ∷ args)) (bytes_eq verb (codes "bind")) (bind_args u args) _ (is (codes "bind") (bind_args u args) (bind_judged args)) (λ no_bind.
      either (Judged (verb ∷ args)) (bytes_eq verb (codes "unbind")) (unbind_args u args) _ (is (codes "unbind") (unbind_args u args) (unbind_judged args)) (λ no_unbind.
      either (Judged (verb ∷ args)) (bytes_eq verb (codes "move")) (move_args u c args) (Err Form) (is (codes "move") (move_args u c args) (move_judged args)) (λ no_move o e _.
      no_order verb (record { no_new = no_new; no_delete = no_delete; no_bind = no_bind; no_unbind = no_unbind; no_move = no_move; no_check = no_check }) args o e)))))
