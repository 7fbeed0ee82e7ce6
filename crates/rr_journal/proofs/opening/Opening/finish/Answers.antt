use Rattle.std.proofs.Common.{◌≡◌, ◌≤◌, ℕ, ◌+◌, inl, Ok, refl, sym, ap, subst, ◌∙◌, arith}
use Rattle.rr_journal.specs.declared.opening.Progress.{Progress}
use Rattle.rr_journal.specs.Held.{Holds}
use Rattle.rr_journal.specs.Phases.{phase_of}
use Rattle.rr_types.specs.Counts.{counted}
use Rattle.rr_journal.specs.Openings.{end_by}
use Rattle.rr_journal.specs.OpeningCourse.{StaysOnCourse, IsUntouched}
use Rattle.rr_frame.specs.Snapshots.{IsSnapshot}
use Rattle.rr_journal.specs.OpeningSteps.{Steps, MaySnap}
use Rattle.rr_journal.proofs.CourseLaws.{has_begun, runs_on, still_before, still_beside, last_left, last_from, all_done, refused_at, ends_refused}
use Rattle.rr_journal.specs.OpeningTable.{ComesToAny, ComesTo, IsKept, disk_after}
use Rattle.rr_journal.specs.Fronts.{KnowsOther}
use Rattle.rr_journal.proofs.OpeningEnds.{fewer_left, keeps_on}
use Rattle.rr_journal.proofs.opening.Opening.finish.Goals as goal

pub loop-refused-init : goal.loop-refused-init
loop-refused-init g c = (
  record { same_nodes = refl; same_node = refl; still_tells = λ tells. tells; rests = λ tells rests. rests; opens = λ tells facts opens. opens; keeps = λ tells facts opens. inl refl; knows = λ tells knows. knows },
  has_begun {D = g.row.D.Denot} g.D.Disk.tells g.D.Disk.areas g.D.Disk.calls g.D.Disk.faults c.args.self,
)

pub returns-in-Err-clause-tells : goal.returns-in-Err-clause-tells
returns-in-Err-clause-tells g c tells = c.in-Err.ensures.tells (c.loop-refused.invariant.0.still_tells tells)

pub returns-in-Err-clause-undamaged : goal.returns-in-Err-clause-undamaged
returns-in-Err-clause-undamaged g c tells facts opens = c.in-Err.ensures.undamaged (c.loop-refused.invariant.0.still_tells tells) facts (c.loop-refused.invariant.0.opens tells facts opens)

pub returns-in-Err-clause-kept : goal.returns-in-Err-clause-kept
returns-in-Err-clause-kept g c tells facts opens =
    let came = c.loop-refused.invariant.0 in
    keeps_on g.D.Disk.tells g.D.Disk.areas c.args.self c.loop-refused.opening c.in-Err.refused.1 facts came tells opens
    (c.in-Err.ensures.kept (came.still_tells tells) facts (came.opens tells facts opens))

pub loop-refused-smaller : goal.loop-refused-smaller
loop-refused-smaller g c =
    let exact = subst (λ (x : Progress g.row.D.Denot). Steps g.D.Disk.read_gives g.D.Disk.write_gives g.D.Disk.sync_gives c.loop-refused.opening (Ok x)) c.in-Ok-More.field-0-is c.in-Ok-More.ensures.exact in
    fewer_left c.loop-refused.opening.nodes c.loop-refused.opening.node exact.0.items (phase_of c.loop-refused.opening.phase) (phase_of c.in-Ok-More.next.phase) exact.2

pub loop-refused-preserved : goal.loop-refused-preserved
loop-refused-preserved g c =
    let came = c.loop-refused.invariant.0 in
    let exact = subst (λ (x : Progress g.row.D.Denot). Steps g.D.Disk.read_gives g.D.Disk.write_gives g.D.Disk.sync_gives c.loop-refused.opening (Ok x)) c.in-Ok-More.field-0-is c.in-Ok-More.ensures.exact in
    let less = fewer_left c.loop-refused.opening.nodes c.loop-refused.opening.node exact.0.items (phase_of c.loop-refused.opening.phase) (phase_of c.in-Ok-More.next.phase) exact.2 in (
      record {
        same_nodes = exact.3 ∙ came.same_nodes;
        same_node = exact.4 ∙ came.same_node;
        still_tells = λ tells. subst (λ (x : Progress g.row.D.Denot). g.D.Disk.tells (disk_after {D = g.row.D.Denot} (Ok x))) c.in-Ok-More.field-0-is (c.in-Ok-More.ensures.tells (came.still_tells tells));
        rests = λ tells rests. subst (λ (x : Progress g.row.D.Denot). ComesToAny {D = g.row.D.Denot} g.D.Disk.areas x) c.in-Ok-More.field-0-is (c.in-Ok-More.ensures.rests (came.still_tells tells) (came.rests tells rests));
        opens = λ tells facts opens. subst (λ (x : Progress g.row.D.Denot). ComesTo g.D.Disk.areas facts x) c.in-Ok-More.field-0-is (c.in-Ok-More.ensures.table (came.still_tells tells) facts (came.opens tells facts opens));
        keeps = λ tells facts opens. keeps_on g.D.Disk.tells g.D.Disk.areas c.args.self c.loop-refused.opening c.in-Ok-More.next.disk facts came tells opens
            (subst (λ (x : Progress g.row.D.Denot). IsKept (Holds c.loop-refused.opening.nodes c.loop-refused.opening.node) facts (g.D.Disk.areas c.loop-refused.opening.disk) (g.D.Disk.areas (disk_after {D = g.row.D.Denot} (Ok x))))
            c.in-Ok-More.field-0-is (c.in-Ok-More.ensures.kept (came.still_tells tells) facts (came.opens tells facts opens)));
        knows = λ tells knows. subst (λ (x : Progress g.row.D.Denot). KnowsOther g.D.Disk.areas x) c.in-Ok-More.field-0-is (c.in-Ok-More.ensures.fronts (came.still_tells tells) (came.knows tells knows));
      },
      runs_on {D = g.row.D.Denot} g.D.Disk.tells g.D.Disk.areas g.D.Disk.calls g.D.Disk.faults c.args.self c.loop-refused.opening c.loop-refused.invariant.1 c.in-Ok-More.next
          (λ tells. subst (λ (x : Progress g.row.D.Denot). StaysOnCourse {D = g.row.D.Denot} g.D.Disk.areas c.loop-refused.opening (Ok x)) c.in-Ok-More.field-0-is (c.in-Ok-More.ensures.course (came.still_tells tells)))
          c.in-Ok-More.ensures.due
          (λ tells. subst (λ (x : Progress g.row.D.Denot). IsUntouched (phase_of c.loop-refused.opening.phase) (g.D.Disk.areas c.loop-refused.opening.disk) (g.D.Disk.areas (disk_after {D = g.row.D.Denot} (Ok x)))) c.in-Ok-More.field-0-is (c.in-Ok-More.ensures.untouched (came.still_tells tells)))
          (subst (λ (x : Progress g.row.D.Denot). g.D.Disk.calls (disk_after {D = g.row.D.Denot} (Ok x)) ≡ counted (g.D.Disk.calls c.loop-refused.opening.disk)) c.in-Ok-More.field-0-is c.in-Ok-More.ensures.call)
          (subst (λ (x : Progress g.row.D.Denot). g.D.Disk.faults c.loop-refused.opening.disk ≤ g.D.Disk.faults (disk_after {D = g.row.D.Denot} (Ok x))) c.in-Ok-More.field-0-is c.in-Ok-More.ensures.faults)
          less,
    )

pub returns-in-Ok-Done-clause-tells : goal.returns-in-Ok-Done-clause-tells
returns-in-Ok-Done-clause-tells g c tells =
    subst (λ (x : Progress g.row.D.Denot). g.D.Disk.tells (disk_after {D = g.row.D.Denot} (Ok x))) c.in-Ok-Done.field-0-is (c.in-Ok-Done.ensures.tells (c.loop-refused.invariant.0.still_tells tells))

pub returns-in-Ok-Done-clause-journal : goal.returns-in-Ok-Done-clause-journal
returns-in-Ok-Done-clause-journal g c =
    let came = c.loop-refused.invariant.0 in
    let exact = subst (λ (x : Progress g.row.D.Denot). Steps g.D.Disk.read_gives g.D.Disk.write_gives g.D.Disk.sync_gives c.loop-refused.opening (Ok x)) c.in-Ok-Done.field-0-is c.in-Ok-Done.ensures.exact in
    let nodes : c.in-Ok-Done.journal.nodes ≡ c.args.self.nodes = ap (λ j. j.nodes) exact.3 ∙ came.same_nodes in
    let node : c.in-Ok-Done.journal.node ≡ c.args.self.node = ap (λ j. j.node) exact.3 ∙ came.same_node in
    let snapshot = subst (λ (x : Progress g.row.D.Denot). MaySnap {D = g.row.D.Denot} x) c.in-Ok-Done.field-0-is c.in-Ok-Done.ensures.snapshot in (
      nodes,
      node,
      ap (λ j. j.next) exact.3,
      ap (λ j. j.failed) exact.3,
      ap (λ j. j.busy) exact.3,
      subst (λ (k : ℕ). IsSnapshot (record { node = k; nodes = c.args.self.nodes; epoch = c.in-Ok-Done.journal.epoch + 1; next = c.in-Ok-Done.opened.next; entries = c.in-Ok-Done.opened.promise })) node
          (subst (λ (k : ℕ). IsSnapshot (record { node = c.in-Ok-Done.journal.node; nodes = k; epoch = c.in-Ok-Done.journal.epoch + 1; next = c.in-Ok-Done.opened.next; entries = c.in-Ok-Done.opened.promise })) nodes snapshot),
      exact.4 ∙ came.same_nodes,
      exact.5 ∙ came.same_node,
    )

pub returns-in-Ok-Done-clause-table : goal.returns-in-Ok-Done-clause-table
returns-in-Ok-Done-clause-table g c tells facts opens =
    let came = c.loop-refused.invariant.0 in
    subst (λ (x : Progress g.row.D.Denot). ComesTo g.D.Disk.areas facts x) c.in-Ok-Done.field-0-is (c.in-Ok-Done.ensures.table (came.still_tells tells) facts (came.opens tells facts opens))

pub returns-in-Ok-Done-clause-fronts : goal.returns-in-Ok-Done-clause-fronts
returns-in-Ok-Done-clause-fronts g c tells knows =
    let came = c.loop-refused.invariant.0 in
    subst (λ (x : Progress g.row.D.Denot). KnowsOther g.D.Disk.areas x) c.in-Ok-Done.field-0-is (c.in-Ok-Done.ensures.fronts (came.still_tells tells) (came.knows tells knows))

pub returns-in-Ok-Done-clause-kept : goal.returns-in-Ok-Done-clause-kept
returns-in-Ok-Done-clause-kept g c tells facts opens =
    let came = c.loop-refused.invariant.0 in
    keeps_on g.D.Disk.tells g.D.Disk.areas c.args.self c.loop-refused.opening c.in-Ok-Done.journal.disk facts came tells opens
    (subst (λ (x : Progress g.row.D.Denot). IsKept (Holds c.loop-refused.opening.nodes c.loop-refused.opening.node) facts (g.D.Disk.areas c.loop-refused.opening.disk) (g.D.Disk.areas (disk_after {D = g.row.D.Denot} (Ok x))))
    c.in-Ok-Done.field-0-is (c.in-Ok-Done.ensures.kept (came.still_tells tells) facts (came.opens tells facts opens)))

pub returns-in-Err-clause-calls : goal.returns-in-Err-clause-calls
returns-in-Err-clause-calls g c = last_left {D = g.row.D.Denot} g.D.Disk.tells g.D.Disk.areas g.D.Disk.calls g.D.Disk.faults c.args.self c.loop-refused.opening c.loop-refused.invariant.1 c.in-Err.refused.1 c.in-Err.ensures.call

pub returns-in-Err-clause-faults : goal.returns-in-Err-clause-faults
returns-in-Err-clause-faults g c = omega (arith, c.loop-refused.invariant.1.rising, c.in-Err.ensures.faults)

pub returns-in-Err-clause-cause : goal.returns-in-Err-clause-cause
returns-in-Err-clause-cause g c = refused_at {D = g.row.D.Denot} g.D.Disk.tells g.D.Disk.areas g.D.Disk.calls g.D.Disk.faults c.args.self c.loop-refused.opening c.loop-refused.invariant.1 c.in-Err.refused c.in-Err.ensures.cause

pub returns-in-Err-clause-ends : goal.returns-in-Err-clause-ends
returns-in-Err-clause-ends g c tells = ends_refused {D = g.row.D.Denot} g.D.Disk.tells g.D.Disk.areas g.D.Disk.calls g.D.Disk.faults c.args.self c.loop-refused.opening c.loop-refused.invariant.1 c.in-Err.refused tells (c.in-Err.ensures.course (c.loop-refused.invariant.0.still_tells tells))

pub returns-in-Err-clause-counted : goal.returns-in-Err-clause-counted
returns-in-Err-clause-counted g c tells = last_from {D = g.row.D.Denot} g.D.Disk.tells g.D.Disk.areas g.D.Disk.calls g.D.Disk.faults c.args.self c.loop-refused.opening c.loop-refused.invariant.1 c.in-Err.refused.1 tells c.in-Err.ensures.call

pub returns-in-Err-clause-untouched : goal.returns-in-Err-clause-untouched
returns-in-Err-clause-untouched g c tells other = still_before {D = g.row.D.Denot} g.D.Disk.tells g.D.Disk.areas g.D.Disk.calls g.D.Disk.faults c.args.self c.loop-refused.opening c.loop-refused.invariant.1 c.in-Err.refused.1 tells other c.in-Err.ensures.due (c.in-Err.ensures.untouched (c.loop-refused.invariant.0.still_tells tells))

pub returns-in-Ok-Done-clause-calls : goal.returns-in-Ok-Done-clause-calls
returns-in-Ok-Done-clause-calls g c =
    last_left {D = g.row.D.Denot} g.D.Disk.tells g.D.Disk.areas g.D.Disk.calls g.D.Disk.faults c.args.self c.loop-refused.opening c.loop-refused.invariant.1 c.in-Ok-Done.journal.disk
    (subst (λ (x : Progress g.row.D.Denot). g.D.Disk.calls (disk_after {D = g.row.D.Denot} (Ok x)) ≡ counted (g.D.Disk.calls c.loop-refused.opening.disk)) c.in-Ok-Done.field-0-is c.in-Ok-Done.ensures.call)

pub returns-in-Ok-Done-clause-faults : goal.returns-in-Ok-Done-clause-faults
returns-in-Ok-Done-clause-faults g c =
    let rising = subst (λ (x : Progress g.row.D.Denot). g.D.Disk.faults c.loop-refused.opening.disk ≤ g.D.Disk.faults (disk_after {D = g.row.D.Denot} (Ok x))) c.in-Ok-Done.field-0-is c.in-Ok-Done.ensures.faults in
    omega (arith, c.loop-refused.invariant.1.rising, rising)

pub returns-in-Ok-Done-clause-ends : goal.returns-in-Ok-Done-clause-ends
returns-in-Ok-Done-clause-ends g c tells =
    let course = subst (λ (x : Progress g.row.D.Denot). StaysOnCourse {D = g.row.D.Denot} g.D.Disk.areas c.loop-refused.opening (Ok x)) c.in-Ok-Done.field-0-is (c.in-Ok-Done.ensures.course (c.loop-refused.invariant.0.still_tells tells)) in
    ap end_by (sym (c.loop-refused.invariant.1.same_found tells)) ∙ course.1

pub returns-in-Ok-Done-clause-counted : goal.returns-in-Ok-Done-clause-counted
returns-in-Ok-Done-clause-counted g c tells =
    last_from {D = g.row.D.Denot} g.D.Disk.tells g.D.Disk.areas g.D.Disk.calls g.D.Disk.faults c.args.self c.loop-refused.opening c.loop-refused.invariant.1 c.in-Ok-Done.journal.disk tells
    (subst (λ (x : Progress g.row.D.Denot). g.D.Disk.calls (disk_after {D = g.row.D.Denot} (Ok x)) ≡ counted (g.D.Disk.calls c.loop-refused.opening.disk)) c.in-Ok-Done.field-0-is c.in-Ok-Done.ensures.call)

pub returns-in-Ok-Done-clause-done : goal.returns-in-Ok-Done-clause-done
returns-in-Ok-Done-clause-done g c tells =
    let course = subst (λ (x : Progress g.row.D.Denot). StaysOnCourse {D = g.row.D.Denot} g.D.Disk.areas c.loop-refused.opening (Ok x)) c.in-Ok-Done.field-0-is (c.in-Ok-Done.ensures.course (c.loop-refused.invariant.0.still_tells tells)) in
    all_done {D = g.row.D.Denot} g.D.Disk.tells g.D.Disk.areas g.D.Disk.calls g.D.Disk.faults c.args.self c.loop-refused.opening c.loop-refused.invariant.1 c.in-Ok-Done.journal c.in-Ok-Done.opened tells course
    (subst (λ (x : Progress g.row.D.Denot). g.D.Disk.calls (disk_after {D = g.row.D.Denot} (Ok x)) ≡ counted (g.D.Disk.calls c.loop-refused.opening.disk)) c.in-Ok-Done.field-0-is c.in-Ok-Done.ensures.call)

pub returns-in-Ok-Done-clause-untouched : goal.returns-in-Ok-Done-clause-untouched
returns-in-Ok-Done-clause-untouched g c tells other =
    still_before {D = g.row.D.Denot} g.D.Disk.tells g.D.Disk.areas g.D.Disk.calls g.D.Disk.faults c.args.self c.loop-refused.opening c.loop-refused.invariant.1 c.in-Ok-Done.journal.disk tells other c.in-Ok-Done.ensures.due
    (subst (λ (x : Progress g.row.D.Denot). IsUntouched (phase_of c.loop-refused.opening.phase) (g.D.Disk.areas c.loop-refused.opening.disk) (g.D.Disk.areas (disk_after {D = g.row.D.Denot} (Ok x))))
    c.in-Ok-Done.field-0-is (c.in-Ok-Done.ensures.untouched (c.loop-refused.invariant.0.still_tells tells)))

pub returns-in-Err-clause-beside : goal.returns-in-Err-clause-beside
returns-in-Err-clause-beside g c tells area kept =
    still_beside {D = g.row.D.Denot} g.D.Disk.tells g.D.Disk.areas g.D.Disk.calls g.D.Disk.faults c.args.self c.loop-refused.opening c.loop-refused.invariant.1 c.in-Err.refused.1 tells area kept
    (c.in-Err.ensures.untouched (c.loop-refused.invariant.0.still_tells tells))

pub returns-in-Ok-Done-clause-beside : goal.returns-in-Ok-Done-clause-beside
returns-in-Ok-Done-clause-beside g c tells area kept =
    still_beside {D = g.row.D.Denot} g.D.Disk.tells g.D.Disk.areas g.D.Disk.calls g.D.Disk.faults c.args.self c.loop-refused.opening c.loop-refused.invariant.1 c.in-Ok-Done.journal.disk tells area kept
    (subst (λ (x : Progress g.row.D.Denot). IsUntouched (phase_of c.loop-refused.opening.phase) (g.D.Disk.areas c.loop-refused.opening.disk) (g.D.Disk.areas (disk_after {D = g.row.D.Denot} (Ok x))))
    c.in-Ok-Done.field-0-is (c.in-Ok-Done.ensures.untouched (c.loop-refused.invariant.0.still_tells tells)))

pub returns-in-Ok-Done-clause-rests : goal.returns-in-Ok-Done-clause-rests
returns-in-Ok-Done-clause-rests g c tells rests =
    let came = c.loop-refused.invariant.0 in
    subst (λ (x : Progress g.row.D.Denot). ComesToAny {D = g.row.D.Denot} g.D.Disk.areas x) c.in-Ok-Done.field-0-is (c.in-Ok-Done.ensures.rests (came.still_tells tells) (came.rests tells rests))
