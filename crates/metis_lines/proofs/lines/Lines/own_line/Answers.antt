use Rattle.std.proofs.Common.{◌≡◌, ◌+◌, ◌-◌, ℕ, [], ◌∷◌, ◌++◌, List, Option, Some, length, set, sym, ap, ◌∙◌, subst, arith}
use Rattle.metis_support.specs.Terms.{path_to}
use Rattle.metis_lines.proofs.Tabled.{grown_are, grown_is, grown_loose, grown_table, pair_selected, pair_there, some_loose}
use Rattle.metis_lines.specs.Terms.{AreLines, IsTabled, LifeLines, lines_by, loose}
use Rattle.metis_lines.proofs.lines.Lines.own_line.Goals as goal

pub to-requires : goal.to-requires
to-requires c = pair_selected c.requires.lines.0 c.args.s.now c.selected-kept.ensures.kept c.args.self.now c.requires.lines.1 c.args.p c.requires.provider c.requires.loose

pub set-requires : goal.set-requires
set-requires c =
    let table = subst (λ x. IsTabled x c.self.inside.holders c.self.inside.counts c.self.inside.seconds c.self.inside.loose) c.self.view_is c.self.invariant in
    let low = pair_there c.requires.lines.0 c.args.s.now c.selected-kept.ensures.kept c.args.self.now c.requires.lines.1 c.args.p c.requires.provider c.requires.loose c.self.inside.holders c.self.inside.counts c.self.inside.seconds c.self.inside.loose table in
    low

pub overflow_sub-self : goal.overflow_sub-self
overflow_sub-self c =
    let table = subst (λ x. IsTabled x c.self.inside.holders c.self.inside.counts c.self.inside.seconds c.self.inside.loose) c.self.view_is c.self.invariant in
    some_loose c.requires.lines.0 c.args.s.now c.selected-kept.ensures.kept c.args.self.now c.requires.lines.1 c.args.p c.requires.provider c.requires.loose c.self.inside.holders c.self.inside.counts c.self.inside.seconds c.self.inside.loose table

pub invariant_of-self-2 : goal.invariant_of-self-2
invariant_of-self-2 c =
    let s = c.args.s.now in
    let x : LifeLines = c.args.self.now in
    let p : ℕ = c.args.p in
    let holders : List (Option (ℕ × ℕ)) = c.self.inside.holders in
    let n : ℕ = c.self.inside.loose in
    let kept = c.selected-kept.ensures.kept in
    let counts : List ℕ = c.self.inside.counts in
    let seconds : List ℕ = c.self.inside.seconds in
    let table = subst (λ x. IsTabled x holders counts seconds n) c.self.view_is c.self.invariant in
    let after = grown_table c.requires.lines.0 s kept x c.requires.lines.1 p c.requires.provider c.requires.loose holders counts seconds n table in
    let view : lines_by c.self.inside.lines.items c.self.inside.targets.items c.self.inside.own.items c.self.inside.providers.items c.self.inside.later.items ≡ x = c.self.view_is in
    let line : c.in_ok-line.line ≡ path_to s p = c.in_ok-line.ensures in
    let lines : c.push_both.new.lines.items ≡ x.lines ++ path_to s p ∷ [] = c.in_ok-push_both.ensures.lines ∙ (λ i. (view i).lines ++ line i ∷ []) in
    let own : c.push_both.new.own.items ≡ x.own ++ p ∷ [] = c.in_ok-push_both.ensures.own ∙ ap (λ (z : LifeLines). z.own ++ p ∷ []) view in
    let whole : lines_by c.push_both.new.lines.items c.self.inside.targets.items c.push_both.new.own.items c.self.inside.providers.items c.self.inside.later.items ≡ lines_by (x.lines ++ path_to s p ∷ []) x.targets (x.own ++ p ∷ []) x.providers x.later =
    (λ i. lines_by (lines i) (view i).targets (own i) (view i).providers (view i).later) in
    let number : c.len.result ≡ length x.lines =
    (let same : length c.self.inside.lines.items ≡ length x.lines = ap (λ (z : LifeLines). length z.lines) view in let long = c.self.inside.lines.ok.0 in let size = c.len.ensures in omega arith) in
    let place : c.last-last.result ≡ length (path_to s p) - 1 = (let same = ap length line in let last = c.last-last.ensures.last in omega arith) in
    let P : LifeLines → List (Option (ℕ × ℕ)) → Type 0 = λ z t. IsTabled z t counts seconds (n - 1) in
    subst (λ z. P z c.set.new.self) (sym whole)
    (subst (P (lines_by (x.lines ++ path_to s p ∷ []) x.targets (x.own ++ p ∷ []) x.providers x.later)) (sym (c.set.ensures ∙ (λ i. set holders p (Some (number i, place i))))) after)

pub returns-clause-own : goal.returns-clause-own
returns-clause-own c = λ u are.
    let s = c.args.s.now in
    let x : LifeLines = c.args.self.now in
    let p : ℕ = c.args.p in
    let view : lines_by c.self.inside.lines.items c.self.inside.targets.items c.self.inside.own.items c.self.inside.providers.items c.self.inside.later.items ≡ x = c.self.view_is in
    let line : c.in_ok-line.line ≡ path_to s p = c.in_ok-line.ensures in
    let lines : c.push_both.new.lines.items ≡ x.lines ++ path_to s p ∷ [] = c.in_ok-push_both.ensures.lines ∙ (λ i. (view i).lines ++ line i ∷ []) in
    let own : c.push_both.new.own.items ≡ x.own ++ p ∷ [] = c.in_ok-push_both.ensures.own ∙ ap (λ (z : LifeLines). z.own ++ p ∷ []) view in
    let whole : lines_by c.push_both.new.lines.items c.self.inside.targets.items c.push_both.new.own.items c.self.inside.providers.items c.self.inside.later.items ≡ lines_by (x.lines ++ path_to s p ∷ []) x.targets (x.own ++ p ∷ []) x.providers x.later =
    (λ i. lines_by (lines i) (view i).targets (own i) (view i).providers (view i).later) in
    whole ∙ grown_is u s c.selected-kept.ensures.kept x are p c.requires.provider c.requires.loose

pub returns-clause-lines : goal.returns-clause-lines
returns-clause-lines c = λ u are.
    let s = c.args.s.now in
    let x : LifeLines = c.args.self.now in
    let p : ℕ = c.args.p in
    let view : lines_by c.self.inside.lines.items c.self.inside.targets.items c.self.inside.own.items c.self.inside.providers.items c.self.inside.later.items ≡ x = c.self.view_is in
    let line : c.in_ok-line.line ≡ path_to s p = c.in_ok-line.ensures in
    let lines : c.push_both.new.lines.items ≡ x.lines ++ path_to s p ∷ [] = c.in_ok-push_both.ensures.lines ∙ (λ i. (view i).lines ++ line i ∷ []) in
    let own : c.push_both.new.own.items ≡ x.own ++ p ∷ [] = c.in_ok-push_both.ensures.own ∙ ap (λ (z : LifeLines). z.own ++ p ∷ []) view in
    let whole : lines_by c.push_both.new.lines.items c.self.inside.targets.items c.push_both.new.own.items c.self.inside.providers.items c.self.inside.later.items ≡ lines_by (x.lines ++ path_to s p ∷ []) x.targets (x.own ++ p ∷ []) x.providers x.later =
    (λ i. lines_by (lines i) (view i).targets (own i) (view i).providers (view i).later) in
    subst (AreLines u s) (sym whole) (grown_are u s c.selected-kept.ensures.kept x are p c.requires.provider c.requires.loose)

pub returns-clause-loose : goal.returns-clause-loose
returns-clause-loose c =
    let s = c.args.s.now in
    let x : LifeLines = c.args.self.now in
    let p : ℕ = c.args.p in
    let view : lines_by c.self.inside.lines.items c.self.inside.targets.items c.self.inside.own.items c.self.inside.providers.items c.self.inside.later.items ≡ x = c.self.view_is in
    let line : c.in_ok-line.line ≡ path_to s p = c.in_ok-line.ensures in
    let lines : c.push_both.new.lines.items ≡ x.lines ++ path_to s p ∷ [] = c.in_ok-push_both.ensures.lines ∙ (λ i. (view i).lines ++ line i ∷ []) in
    let own : c.push_both.new.own.items ≡ x.own ++ p ∷ [] = c.in_ok-push_both.ensures.own ∙ ap (λ (z : LifeLines). z.own ++ p ∷ []) view in
    let whole : lines_by c.push_both.new.lines.items c.self.inside.targets.items c.push_both.new.own.items c.self.inside.providers.items c.self.inside.later.items ≡ lines_by (x.lines ++ path_to s p ∷ []) x.targets (x.own ++ p ∷ []) x.providers x.later =
    (λ i. lines_by (lines i) (view i).targets (own i) (view i).providers (view i).later) in
    ap (λ z. loose z + 1) whole ∙ grown_loose c.requires.lines.0 s c.selected-kept.ensures.kept x c.requires.lines.1 p c.requires.provider c.requires.loose
