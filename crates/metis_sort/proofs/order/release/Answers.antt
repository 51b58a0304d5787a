use Rattle.std.proofs.Common.{◌≡◌, ◌+◌, ◌-◌, ◌<◌, ◌||◌, ◌&&◌, ℕ, List, length, get_or, set, take, nat_eq, sym, ap, ◌∙◌, arith, refl}
use Rattle.std.proofs.lemmas.List.{take_all}
use Rattle.metis_ids.specs.Terms.{afters, has, occurrences}
use Rattle.metis_ids.proofs.Lists.{end_past}
use Rattle.metis_sort.specs.Terms.{offers}
use Rattle.metis_sort.proofs.CountFacts.{few_afters}
use Rattle.metis_sort.proofs.ReleaseFacts.{place_low, entry_within, waits_some, waits_step, ready_step}
use Rattle.metis_sort.proofs.order.release.Goals as goal

pub settle-requires-clause-within : goal.settle-requires-clause-within
settle-requires-clause-within g c =
    let graph = g.G.Reach.graph c.args.g.now in
    let low = entry_within (afters graph c.args.node) c.loop-next.k c.in-Some.next (sym c.in-Some.ensures.value) graph c.args.node c.requires.graph refl in
    let size = c.loop-next.auto.waits in
    let all = c.requires.size in
    omega arith

pub settle-requires-clause-owed : goal.settle-requires-clause-owed
settle-requires-clause-owed g c =
    let graph = g.G.Reach.graph c.args.g.now in
    let ys = afters graph c.args.node in
    let here = sym c.in-Some.ensures.value in
    let low = entry_within ys c.loop-next.k c.in-Some.next here graph c.args.node c.requires.graph refl in
    let size = c.loop-next.auto.waits in
    let all = c.requires.size in
    waits_some ys c.loop-next.k c.in-Some.next here c.loop-next.waits c.args.waits.now c.loop-next.invariant.waits (omega arith) (c.requires.owed c.in-Some.next)

pub overflow_add-k : goal.overflow_add-k
overflow_add-k g c =
    let graph = g.G.Reach.graph c.args.g.now in
    let low = place_low (afters graph c.args.node) c.loop-next.k c.in-Some.next (sym c.in-Some.ensures.value) in
    let few = few_afters graph c.requires.graph c.args.node in
    let all = c.requires.few in
    omega arith

pub loop-next-smaller : goal.loop-next-smaller
loop-next-smaller g c =
    let graph = g.G.Reach.graph c.args.g.now in
    let low = place_low (afters graph c.args.node) c.loop-next.k c.in-Some.next (sym c.in-Some.ensures.value) in
    omega arith

pub loop-next-preserved : goal.loop-next-preserved
loop-next-preserved g c =
    let graph = g.G.Reach.graph c.args.g.now in
    let ys = afters graph c.args.node in
    let k = c.loop-next.k in
    let y = c.in-Some.next in
    let w = c.loop-next.waits in
    let here = sym c.in-Some.ensures.value in
    let low = place_low ys k y here in
    let below = entry_within ys k y here graph c.args.node c.requires.graph refl in
    let size = c.loop-next.auto.waits in
    let all = c.requires.size in
    let within : y < length w = omega arith in
    let is : c.settle.new.waits ≡ set w y (get_or w y 0 - 1) = c.settle.ensures.waits in
    record {
      within = omega arith;
      last = c.settle.ensures.last ∙ c.loop-next.invariant.last;
      waits = λ n. ap (λ (v : List ℕ). get_or v n 0 + occurrences n (take (k + 1) ys)) is ∙ waits_step ys k y here w c.args.waits.now c.loop-next.invariant.waits within (c.requires.owed y) n;
      ready = λ n.
          let r = c.loop-next.ready in
          let r' = c.settle.new.ready in
          let first = c.args.ready.now in
          ready_step ys k y here w c.args.waits.now c.loop-next.invariant.waits within (c.requires.owed y)
          (offers r.others.keys r.last r.with_last) (offers r'.others.keys r'.last r'.with_last) (offers first.others.keys first.last first.with_last)
          c.loop-next.invariant.ready
          (λ m. c.in_ok-settle.ensures.ready m ∙ ap (λ (v : List ℕ). (nat_eq m y && nat_eq (get_or v y 0) 0) || offers r.others.keys r.last r.with_last m) is)
          n
          ∙ ap (λ (v : List ℕ). offers first.others.keys first.last first.with_last n || (has (take (k + 1) ys) n && nat_eq (get_or v n 0) 0)) (sym is);
      cost = let a = c.after_at.ensures.cost in let b = c.loop-next.invariant.cost in omega arith;
    }

pub returns-clause-waits : goal.returns-clause-waits
returns-clause-waits g c = λ n.
    let graph = g.G.Reach.graph c.args.g.now in
    let ys = afters graph c.args.node in
    let all : take c.loop-next.k ys ≡ ys = take_all c.loop-next.k ys (end_past ys c.loop-next.k c.in_default.ensures.value) in
    ap (λ (zs : List ℕ). get_or c.loop-next.waits n 0 + occurrences n zs) (sym all) ∙ c.loop-next.invariant.waits n

pub returns-clause-ready : goal.returns-clause-ready
returns-clause-ready g c = λ n.
    let graph = g.G.Reach.graph c.args.g.now in
    let ys = afters graph c.args.node in
    let first = c.args.ready.now in
    let all : take c.loop-next.k ys ≡ ys = take_all c.loop-next.k ys (end_past ys c.loop-next.k c.in_default.ensures.value) in
    c.loop-next.invariant.ready n ∙ ap (λ (zs : List ℕ). offers first.others.keys first.last first.with_last n || (has zs n && nat_eq (get_or c.loop-next.waits n 0) 0)) all
