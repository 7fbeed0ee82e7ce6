use Rattle.std.proofs.Common.{◌≡◌, ◌≤◌, ℕ, ◌+◌, inl, inr, Ok, Err, IfOk, refl, sym, ap, subst, ◌∙◌, arith}
use Rattle.rr_types.specs.Counts.{counted}
use Rattle.rr_journal.specs.Held.{Holds}
use Rattle.rr_journal.specs.Phases.{phase_of}
use Rattle.rr_journal.specs.Openings.{end_by}
use Rattle.rr_journal.specs.OpeningCourse.{StaysOnCourse}
use Rattle.rr_journal.specs.OpeningTable.{ComesToAny, ComesTo, IsKept, disk_after}
use Rattle.rr_journal.specs.Fronts.{KnowsOther}
use Rattle.rr_journal.proofs.CourseLaws.{one_left}
use Rattle.rr_journal.proofs.OpeningEnds.{fewer_left, keeps_on}
use Rattle.rr_core.specs.declared.steps.Progress.{Progress}
use Rattle.rr_core.specs.Recoveries.{as_step, Recovers, StartsAtEnd}
use Rattle.rr_turn.proofs.OpeningLaws.{is_here, comes_on, last_call, refused_by, stops_by, more_made, done_made}
use Rattle.rr_turn.proofs.opening.finish.Goals as goal

pub loop-refused-init : goal.loop-refused-init
loop-refused-init g c = (
  record { same_nodes = refl; same_node = refl; still_tells = λ tells. tells; rests = λ tells rests. rests; opens = λ tells facts opens. opens; keeps = λ tells facts opens. inl refl; knows = λ tells knows. knows },
  is_here {D = g.row.D.Denot} g.D.Disk.tells g.D.Disk.areas g.D.Disk.calls g.D.Disk.faults c.args.opening,
)

pub returns-in-Err-clause-calls : goal.returns-in-Err-clause-calls
returns-in-Err-clause-calls g c = last_call {D = g.row.D.Denot} g.D.Disk.tells g.D.Disk.areas g.D.Disk.calls g.D.Disk.faults c.args.opening c.loop-refused.rest c.loop-refused.invariant.1 c.in-Err.refused.1 c.in-Err.ensures.call (one_left c.loop-refused.rest.phase)

pub returns-in-Err-clause-cause : goal.returns-in-Err-clause-cause
returns-in-Err-clause-cause g c = refused_by {D = g.row.D.Denot} g.D.Disk.tells g.D.Disk.areas g.D.Disk.calls g.D.Disk.faults c.args.opening c.loop-refused.rest c.loop-refused.invariant.1 c.in-Err.refused c.in-Err.ensures.cause

pub returns-in-Err-clause-tells : goal.returns-in-Err-clause-tells
returns-in-Err-clause-tells g c tells = c.in-Err.ensures.tells (c.loop-refused.invariant.0.still_tells tells)

pub returns-in-Err-clause-ends : goal.returns-in-Err-clause-ends
returns-in-Err-clause-ends g c tells = stops_by {D = g.row.D.Denot} g.D.Disk.tells g.D.Disk.areas g.D.Disk.calls g.D.Disk.faults c.args.opening c.loop-refused.rest c.loop-refused.invariant.1 c.in-Err.refused tells (c.in-Err.ensures.course (c.loop-refused.invariant.0.still_tells tells))

pub returns-in-Err-clause-undamaged : goal.returns-in-Err-clause-undamaged
returns-in-Err-clause-undamaged g c tells facts opens = c.in-Err.ensures.undamaged (c.loop-refused.invariant.0.still_tells tells) facts (c.loop-refused.invariant.0.opens tells facts opens)

pub returns-in-Err-clause-kept : goal.returns-in-Err-clause-kept
returns-in-Err-clause-kept g c tells facts opens =
    let came = c.loop-refused.invariant.0 in
    keeps_on g.D.Disk.tells g.D.Disk.areas c.args.opening c.loop-refused.rest c.in-Err.refused.1 facts came tells opens
    (c.in-Err.ensures.kept (came.still_tells tells) facts (came.opens tells facts opens))

pub loop-refused-smaller : goal.loop-refused-smaller
loop-refused-smaller g c =
    let exact = more_made {D = g.row.D.Denot} g.D.Disk.read_gives g.D.Disk.write_gives g.D.Disk.sync_gives c.loop-refused.rest c.in-Ok-More.next
    (subst (λ (x : Progress g.row.D.Denot). Recovers g.D.Disk.read_gives g.D.Disk.write_gives g.D.Disk.sync_gives c.loop-refused.rest (Ok x)) c.in-Ok-More.field-0-is c.in-Ok-More.ensures.exact) in
    fewer_left c.loop-refused.rest.nodes c.loop-refused.rest.node exact.0.items (phase_of c.loop-refused.rest.phase) (phase_of c.in-Ok-More.next.phase) exact.2

pub loop-refused-preserved : goal.loop-refused-preserved
loop-refused-preserved g c =
    let came = c.loop-refused.invariant.0 in
    let gave = c.in-Ok-More.ensures in
    let is = c.in-Ok-More.field-0-is in
    let exact = more_made {D = g.row.D.Denot} g.D.Disk.read_gives g.D.Disk.write_gives g.D.Disk.sync_gives c.loop-refused.rest c.in-Ok-More.next
    (subst (λ (x : Progress g.row.D.Denot). Recovers g.D.Disk.read_gives g.D.Disk.write_gives g.D.Disk.sync_gives c.loop-refused.rest (Ok x)) is gave.exact) in
    let less = fewer_left c.loop-refused.rest.nodes c.loop-refused.rest.node exact.0.items (phase_of c.loop-refused.rest.phase) (phase_of c.in-Ok-More.next.phase) exact.2 in (
      record {
        same_nodes = exact.3 ∙ came.same_nodes;
        same_node = exact.4 ∙ came.same_node;
        still_tells = λ tells. subst (λ (x : Progress g.row.D.Denot). g.D.Disk.tells (disk_after {D = g.row.D.Denot} (as_step {D = g.row.D.Denot} (Ok x)))) is (gave.tells (came.still_tells tells));
        rests = λ tells rests. subst (λ (x : Progress g.row.D.Denot). IfOk (as_step {D = g.row.D.Denot} (Ok x)) (ComesToAny {D = g.row.D.Denot} g.D.Disk.areas)) is (gave.comes (came.still_tells tells));
        opens = λ tells facts opens. subst (λ (x : Progress g.row.D.Denot). IfOk (as_step {D = g.row.D.Denot} (Ok x)) (ComesTo {D = g.row.D.Denot} g.D.Disk.areas facts)) is (gave.table (came.still_tells tells) facts (came.opens tells facts opens));
        keeps = λ tells facts opens. keeps_on g.D.Disk.tells g.D.Disk.areas c.args.opening c.loop-refused.rest c.in-Ok-More.next.disk facts came tells opens
            (subst (λ (x : Progress g.row.D.Denot). IsKept (Holds c.loop-refused.rest.nodes c.loop-refused.rest.node) facts (g.D.Disk.areas c.loop-refused.rest.disk) (g.D.Disk.areas (disk_after {D = g.row.D.Denot} (as_step {D = g.row.D.Denot} (Ok x)))))
            is (gave.kept (came.still_tells tells) facts (came.opens tells facts opens)));
        knows = λ tells knows. subst (λ (x : Progress g.row.D.Denot). IfOk (as_step {D = g.row.D.Denot} (Ok x)) (KnowsOther {D = g.row.D.Denot} g.D.Disk.areas)) is (gave.fronts (came.still_tells tells));
      },
      comes_on {D = g.row.D.Denot} g.D.Disk.tells g.D.Disk.areas g.D.Disk.calls g.D.Disk.faults c.args.opening c.loop-refused.rest c.loop-refused.invariant.1 c.in-Ok-More.next
          (λ tells. subst (λ (x : Progress g.row.D.Denot). StaysOnCourse {D = g.row.D.Denot} g.D.Disk.areas c.loop-refused.rest (as_step {D = g.row.D.Denot} (Ok x))) is (gave.course (came.still_tells tells)))
          (subst (λ (x : Progress g.row.D.Denot). g.D.Disk.calls (disk_after {D = g.row.D.Denot} (as_step {D = g.row.D.Denot} (Ok x))) ≡ counted (g.D.Disk.calls c.loop-refused.rest.disk)) is gave.call)
          (subst (λ (x : Progress g.row.D.Denot). g.D.Disk.faults c.loop-refused.rest.disk ≤ g.D.Disk.faults (disk_after {D = g.row.D.Denot} (as_step {D = g.row.D.Denot} (Ok x)))) is gave.faults)
          less,
    )

pub returns-in-Ok-Done-clause-core : goal.returns-in-Ok-Done-clause-core
returns-in-Ok-Done-clause-core g c = subst (λ (x : Progress g.row.D.Denot). StartsAtEnd {D = g.row.D.Denot} x) c.in-Ok-Done.field-0-is c.in-Ok-Done.ensures.core

pub returns-in-Ok-Done-clause-whose : goal.returns-in-Ok-Done-clause-whose
returns-in-Ok-Done-clause-whose g c =
    let came = c.loop-refused.invariant.0 in
    let exact = done_made {D = g.row.D.Denot} g.D.Disk.read_gives g.D.Disk.write_gives g.D.Disk.sync_gives c.loop-refused.rest c.in-Ok-Done.core c.in-Ok-Done.journal
    (subst (λ (x : Progress g.row.D.Denot). Recovers g.D.Disk.read_gives g.D.Disk.write_gives g.D.Disk.sync_gives c.loop-refused.rest (Ok x)) c.in-Ok-Done.field-0-is c.in-Ok-Done.ensures.exact) in
    (ap (λ j. j.nodes) exact.3 ∙ came.same_nodes, ap (λ j. j.node) exact.3 ∙ came.same_node)

pub returns-in-Ok-Done-clause-calls : goal.returns-in-Ok-Done-clause-calls
returns-in-Ok-Done-clause-calls g c =
    last_call {D = g.row.D.Denot} g.D.Disk.tells g.D.Disk.areas g.D.Disk.calls g.D.Disk.faults c.args.opening c.loop-refused.rest c.loop-refused.invariant.1 c.in-Ok-Done.journal.disk
    (subst (λ (x : Progress g.row.D.Denot). g.D.Disk.calls (disk_after {D = g.row.D.Denot} (as_step {D = g.row.D.Denot} (Ok x))) ≡ counted (g.D.Disk.calls c.loop-refused.rest.disk)) c.in-Ok-Done.field-0-is c.in-Ok-Done.ensures.call)
    (one_left c.loop-refused.rest.phase)

pub returns-in-Ok-Done-clause-tells : goal.returns-in-Ok-Done-clause-tells
returns-in-Ok-Done-clause-tells g c tells =
    subst (λ (x : Progress g.row.D.Denot). g.D.Disk.tells (disk_after {D = g.row.D.Denot} (as_step {D = g.row.D.Denot} (Ok x)))) c.in-Ok-Done.field-0-is (c.in-Ok-Done.ensures.tells (c.loop-refused.invariant.0.still_tells tells))

pub returns-in-Ok-Done-clause-ends : goal.returns-in-Ok-Done-clause-ends
returns-in-Ok-Done-clause-ends g c tells =
    let course = subst (λ (x : Progress g.row.D.Denot). StaysOnCourse {D = g.row.D.Denot} g.D.Disk.areas c.loop-refused.rest (as_step {D = g.row.D.Denot} (Ok x))) c.in-Ok-Done.field-0-is (c.in-Ok-Done.ensures.course (c.loop-refused.invariant.0.still_tells tells)) in
    ap end_by (sym (c.loop-refused.invariant.1.same_found tells)) ∙ course.1

pub returns-in-Ok-Done-clause-table : goal.returns-in-Ok-Done-clause-table
returns-in-Ok-Done-clause-table g c tells facts opens =
    let came = c.loop-refused.invariant.0 in
    subst (λ (x : Progress g.row.D.Denot). IfOk (as_step {D = g.row.D.Denot} (Ok x)) (ComesTo {D = g.row.D.Denot} g.D.Disk.areas facts)) c.in-Ok-Done.field-0-is (c.in-Ok-Done.ensures.table (came.still_tells tells) facts (came.opens tells facts opens))

pub returns-in-Ok-Done-clause-kept : goal.returns-in-Ok-Done-clause-kept
returns-in-Ok-Done-clause-kept g c tells facts opens =
    let came = c.loop-refused.invariant.0 in
    keeps_on g.D.Disk.tells g.D.Disk.areas c.args.opening c.loop-refused.rest c.in-Ok-Done.journal.disk facts came tells opens
    (subst (λ (x : Progress g.row.D.Denot). IsKept (Holds c.loop-refused.rest.nodes c.loop-refused.rest.node) facts (g.D.Disk.areas c.loop-refused.rest.disk) (g.D.Disk.areas (disk_after {D = g.row.D.Denot} (as_step {D = g.row.D.Denot} (Ok x)))))
    c.in-Ok-Done.field-0-is (c.in-Ok-Done.ensures.kept (came.still_tells tells) facts (came.opens tells facts opens)))
