-- The verdict that is true of actions and goals is one.
use Rattle.std.proofs.Common.{◌≡◌, ℕ, List, ◌∷◌, ◌++◌, refl, sym, ap, ◌∙◌, subst, arith, inl, inr}
use Rattle.std.specs.List.{Contains}
use Rattle.std.proofs.lemmas.List.Elements.{Contains-append_right}
use Rattle.metis_ids.specs.declared.actions.Action.{Action}
use Rattle.metis_ids.specs.declared.goals.Goal.{Goal}
use Rattle.metis_replay.specs.Terms.{IsFirstMissing, Tells}
use Rattle.metis_replay.specs.declared.verdict.Verdict.{Verdict}
use Rattle.metis_replay.specs.declared.verdict.Verdict.TheVariants.{Good, Bad, Missing}
use Rattle.metis_universe.specs.Terms.{Config, HoldsGoals, Universe, after_all, empty, places_of, serving}
use Rattle.metis_uniqueness.proofs.Firsts.{Among, parted}
use Rattle.metis_uniqueness.proofs.Unsteady.{first_bad_is_one, run_is_not_bad}

in_between : {A : Type 0} (xs : List A) (x : A) (zs : List A) → Contains (xs ++ x ∷ zs) x
in_between xs x zs = Contains-append_right xs (x ∷ zs) x (0, omega arith, refl)

held_is_not_missing : (u : Universe) (c : Config) (goals : List Goal) (g : Goal) (have want : ℕ) → HoldsGoals u c goals → IsFirstMissing u c goals g have want → ⊥
held_is_not_missing u c goals g have want holds m =
    let enough = holds g in
    let fewer = m.fewer in
    let have_is = m.have_is in
    let want_is = m.want_is in
    omega arith

module _ (u : Universe) (c : Config) (goals : List Goal) where
  no_earlier : (g h : Goal) (j k m n : ℕ) (a : IsFirstMissing u c goals g j m) (b : IsFirstMissing u c goals h k n) → Among a.before g b.before → ⊥
  no_earlier g h j k m n a b among =
      let enough = b.enough g (subst (λ xs. Contains xs g) (sym among.parts) (in_between a.before g among.later)) in
      let fewer = a.fewer in
      let have_is = a.have_is in
      let want_is = a.want_is in
      omega arith

  first_missing_is_one : (g h : Goal) (j k m n : ℕ) → IsFirstMissing u c goals g j m → IsFirstMissing u c goals h k n → Missing g j m ≡ Missing h k n
  first_missing_is_one g h j k m n a b = elim (parted a.before g a.later b.before h b.later (sym a.parts ∙ b.parts)) [
    | inl same ↦
        let have : j ≡ k = a.have_is ∙ ap (serving u c) same.item ∙ sym b.have_is in
        let want : m ≡ n = a.want_is ∙ ap (places_of goals) same.item ∙ sym b.want_is in
        λ i. Missing (same.item i) (have i) (want i)
    | inr other ↦ elim other [
      | inl among ↦ absurd (no_earlier g h j k m n a b among)
      | inr among ↦ absurd (no_earlier h g k j n m b a among)
    ]
  ]

pub verdict_is_one : (u : Universe) (actions : List Action) (goals : List Goal) (v w : Verdict) → Tells u actions goals v → Tells u actions goals w → v ≡ w
verdict_is_one u actions goals Good Good a b = refl
verdict_is_one u actions goals Good (Bad k f) a b = absurd (run_is_not_bad u actions k f a.0 b)
verdict_is_one u actions goals Good (Missing g have want) a b = absurd (held_is_not_missing u (after_all u empty actions) goals g have want a.1 b.1)
verdict_is_one u actions goals (Bad j e) Good a b = absurd (run_is_not_bad u actions j e b.0 a)
verdict_is_one u actions goals (Bad j e) (Bad k f) a b = let same = first_bad_is_one u actions j k e f a b in λ i. Bad (same.0 i) (same.1 i)
verdict_is_one u actions goals (Bad j e) (Missing g have want) a b = absurd (run_is_not_bad u actions j e b.0 a)
verdict_is_one u actions goals (Missing g have want) Good a b = absurd (held_is_not_missing u (after_all u empty actions) goals g have want b.1 a.1)
verdict_is_one u actions goals (Missing g have want) (Bad k f) a b = absurd (run_is_not_bad u actions k f a.0 b)
verdict_is_one u actions goals (Missing g j m) (Missing h k n) a b = first_missing_is_one u (after_all u empty actions) goals g h j k m n a.1 b.1
