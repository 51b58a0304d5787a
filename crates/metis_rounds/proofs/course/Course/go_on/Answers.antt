use Rattle.std.proofs.Common.{◌≡◌, ◌<◌, [], ap, arith, subst, sym}
use Rattle.metis_lines.specs.Terms.{Over, last}
use Rattle.metis_events.specs.Terms.{without_supplies}
use Rattle.metis_rounds.specs.Terms.{HasTables, IsFirstLeft, IsGoing, taken_of}
use Rattle.metis_rounds.proofs.course.Course.go_on.Goals as goal

pub first_unfinished-requires-clause-first : goal.first_unfinished-requires-clause-first
first_unfinished-requires-clause-first c = λ l low.
    subst (λ (o : Over). last (without_supplies o.lines) l < taken_of c.deref.result.now l) (sym c.over-over.ensures)
    (omega (arith, c.requires.course.first l low, c.in_ok-go_on.ensures.kept l, ap (λ ms. taken_of ms l) c.deref.ensures.value))

pub go_on-requires-clause-tables : goal.go_on-requires-clause-tables
go_on-requires-clause-tables c = subst (λ (o : Over). HasTables o c.args.self.now.tables) (sym c.over-over.ensures) (record { uses = c.requires.course.uses; returns = c.requires.course.returns })

pub returns-in-Some-clause-course : goal.returns-in-Some-clause-course
returns-in-Some-clause-course c =
    let view : c.line.inside.0 ≡ c.in-Some.line = c.line.view_is in
    let some = subst (λ (o : Over). IsFirstLeft (without_supplies o.lines) c.deref.result.now c.in-Some.line) c.over-over.ensures c.in-Some.ensures.some in
    record {
      support = c.requires.course.support;
      lines = c.requires.course.lines;
      uses = c.requires.course.uses;
      returns = c.requires.course.returns;
      going = subst (λ (o : Over). IsGoing o.universe o.support o.lines c.args.self.now.tables.returns c.go_on.new.self []) c.over-over.ensures c.in_ok-go_on.ensures.going;
      walk = c.requires.course.walk;
      first = λ l low. omega (arith, some.before l (omega (arith, view, low)), ap (λ ms. taken_of ms l) c.deref.ensures.value);
      done = λ l low. omega (arith, c.requires.course.done l low, c.in_ok-go_on.ensures.kept l);
      few = (omega (arith, view, some.low), c.requires.course.few.1);
    }

pub returns-in-None-clause-course : goal.returns-in-None-clause-course
returns-in-None-clause-course c = record {
  support = c.requires.course.support;
  lines = c.requires.course.lines;
  uses = c.requires.course.uses;
  returns = c.requires.course.returns;
  going = subst (λ (o : Over). IsGoing o.universe o.support o.lines c.args.self.now.tables.returns c.go_on.new.self []) c.over-over.ensures c.in_ok-go_on.ensures.going;
  walk = c.requires.course.walk;
  first = λ l low. omega (arith, c.requires.course.first l low, c.in_ok-go_on.ensures.kept l);
  done = λ l low. omega (arith, c.requires.course.done l low, c.in_ok-go_on.ensures.kept l);
  few = c.requires.course.few;
}
