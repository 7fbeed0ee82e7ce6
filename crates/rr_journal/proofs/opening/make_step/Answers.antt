use Rattle.std.proofs.Common.{inr, refl, sym, subst, Ok, false}
use Rattle.rr_journal.specs.declared.journal.Journal.{Journal}
use Rattle.rr_journal.specs.declared.opening.Next.{Next}
use Rattle.rr_journal.specs.OpeningTable.{GoesOnAny, GoesOnWith}
use Rattle.rr_journal.specs.Openings.{due_call, after_opening_call}
use Rattle.rr_journal.specs.Phases.{Follows, phase_of}
use Rattle.rr_journal.proofs.CourseLaws.{OnCourse, on_course, refused_on_course, refused_by, untouched_by, untouched_failing}
use Rattle.rr_journal.proofs.CrashLaws.{untouched_adds, begins_any}
use Rattle.rr_journal.proofs.OpeningLaws.{kept, kept_failed, opened_over}
use Rattle.rr_journal.specs.OpeningTable.{IsReadBy}
use Rattle.rr_journal.specs.Fronts.{front_beside, KnowsRead}
use Rattle.rr_journal.proofs.OtherLaws.{AfterKnows, goes_on_knowing}
use Rattle.rr_journal.proofs.opening.make_step.Goals as goal

pub returns-in-Err-clause-kept : goal.returns-in-Err-clause-kept
returns-in-Err-clause-kept g c tells facts opens = kept_failed c.args.nodes c.args.node facts _ _ c.args.phase.now opens (c.in-Err.ensures.left tells)

pub returns-in-Err-leave-clause-exact : goal.returns-in-Err-leave-clause-exact
returns-in-Err-leave-clause-exact g c = inr (c.in-Ok.read, c.in-Ok.ensures.done, c.in-Err-leave.ensures.exact)

pub returns-in-Err-leave-clause-kept : goal.returns-in-Err-leave-clause-kept
returns-in-Err-leave-clause-kept g c tells facts opens = kept c.args.nodes c.args.node facts _ _ c.args.phase.now opens (c.in-Ok.ensures.areas tells)

pub returns-in-Ok-Phase-clause-exact : goal.returns-in-Ok-Phase-clause-exact
returns-in-Ok-Phase-clause-exact g c =
    let follows = subst (λ (x : Next). Follows (Ok x) (phase_of c.args.phase.now) (after_opening_call c.args.nodes c.args.node c.in-Ok.read.items (phase_of c.args.phase.now))) c.in-Ok-Phase.field-0-is c.in-Ok-Phase.ensures.exact in
    (c.in-Ok.read, c.in-Ok.ensures.done, follows, refl, refl)

pub returns-in-Ok-Phase-clause-table : goal.returns-in-Ok-Phase-clause-table
returns-in-Ok-Phase-clause-table g c tells facts opens =
    let on = c.in-Ok-Phase.ensures.table facts (g.D.Disk.areas c.args.disk.now) (g.D.Disk.areas c.call-called.new.disk) opens (c.in-Ok.ensures.read tells) (c.in-Ok.ensures.areas tells) in
    subst (λ (x : Next). GoesOnWith c.args.nodes c.args.node facts x (g.D.Disk.areas c.call-called.new.disk)) c.in-Ok-Phase.field-0-is on

pub returns-in-Ok-Phase-clause-kept : goal.returns-in-Ok-Phase-clause-kept
returns-in-Ok-Phase-clause-kept g c tells facts opens = kept c.args.nodes c.args.node facts _ _ c.args.phase.now opens (c.in-Ok.ensures.areas tells)

pub returns-in-Ok-Open-clause-exact : goal.returns-in-Ok-Open-clause-exact
returns-in-Ok-Open-clause-exact g c =
    let follows = subst (λ (x : Next). Follows (Ok x) (phase_of c.args.phase.now) (after_opening_call c.args.nodes c.args.node c.in-Ok.read.items (phase_of c.args.phase.now))) c.in-Ok-Open.field-0-is c.in-Ok-Open.ensures.exact in
    (c.in-Ok.read, c.in-Ok.ensures.done, follows, refl, refl, refl)

pub returns-in-Ok-Open-clause-table : goal.returns-in-Ok-Open-clause-table
returns-in-Ok-Open-clause-table g c tells facts opens =
    let on = c.in-Ok-Open.ensures.table facts (g.D.Disk.areas c.args.disk.now) (g.D.Disk.areas c.call-called.new.disk) opens (c.in-Ok.ensures.read tells) (c.in-Ok.ensures.areas tells) in
    let is = subst (λ (x : Next). GoesOnWith c.args.nodes c.args.node facts x (g.D.Disk.areas c.call-called.new.disk)) c.in-Ok-Open.field-0-is on in
    let journal : Journal g.row.D.Denot = record {
      disk = c.call-called.new.disk;
      nodes = c.args.nodes;
      node = c.args.node;
      area = c.in-Ok-Open.area;
      epoch = c.in-Ok-Open.epoch;
      gate = c.in-Ok-Open.gate;
      next = c.in-Ok-Open.next;
      failed = false;
      busy = false;
      closes_other = front_beside c.in-Ok-Open.area c.fronts_behind.result;
    } in
    let over = opened_over {D = g.row.D.Denot} journal is.0 facts c.in-Ok-Open.promise is.2 is.3 in
    ((is.0, is.1, over.0), over.1, over.2)

pub returns-in-Ok-Open-clause-kept : goal.returns-in-Ok-Open-clause-kept
returns-in-Ok-Open-clause-kept g c tells facts opens = kept c.args.nodes c.args.node facts _ _ c.args.phase.now opens (c.in-Ok.ensures.areas tells)

pub returns-in-Ok-Phase-clause-fronts : goal.returns-in-Ok-Phase-clause-fronts
returns-in-Ok-Phase-clause-fronts g c tells knows =
    let new = g.D.Disk.areas c.call-called.new.disk in
    let read = subst (IsReadBy (due_call (phase_of c.args.phase.now)) (g.D.Disk.areas c.args.disk.now)) (sym c.deref.ensures.value) (c.in-Ok.ensures.read tells) in
    let noted : KnowsRead (phase_of c.args.phase.now) c.fronts_behind.result (g.D.Disk.areas c.call-called.new.disk) = c.fronts_behind.ensures (g.D.Disk.areas c.args.disk.now) new knows read (c.in-Ok.ensures.areas tells) in
    let follows = subst (λ (x : Next). Follows (Ok x) (phase_of c.args.phase.now) (after_opening_call c.args.nodes c.args.node c.in-Ok.read.items (phase_of c.args.phase.now))) c.in-Ok-Phase.field-0-is c.in-Ok-Phase.ensures.exact in
    subst (AfterKnows c.fronts_behind.result new) follows (goes_on_knowing c.args.nodes c.args.node c.in-Ok.read.items c.fronts_behind.result new (phase_of c.args.phase.now) noted)

pub returns-in-Ok-Open-clause-fronts : goal.returns-in-Ok-Open-clause-fronts
returns-in-Ok-Open-clause-fronts g c tells knows =
    let new = g.D.Disk.areas c.call-called.new.disk in
    let read = subst (IsReadBy (due_call (phase_of c.args.phase.now)) (g.D.Disk.areas c.args.disk.now)) (sym c.deref.ensures.value) (c.in-Ok.ensures.read tells) in
    let noted : KnowsRead (phase_of c.args.phase.now) c.fronts_behind.result (g.D.Disk.areas c.call-called.new.disk) = c.fronts_behind.ensures (g.D.Disk.areas c.args.disk.now) new knows read (c.in-Ok.ensures.areas tells) in
    let follows = subst (λ (x : Next). Follows (Ok x) (phase_of c.args.phase.now) (after_opening_call c.args.nodes c.args.node c.in-Ok.read.items (phase_of c.args.phase.now))) c.in-Ok-Open.field-0-is c.in-Ok-Open.ensures.exact in
    subst (AfterKnows c.fronts_behind.result new) follows (goes_on_knowing c.args.nodes c.args.node c.in-Ok.read.items c.fronts_behind.result new (phase_of c.args.phase.now) noted)

pub returns-in-Err-clause-untouched : goal.returns-in-Err-clause-untouched
returns-in-Err-clause-untouched g c tells = untouched_failing c.args.phase.now _ _ (c.in-Err.ensures.left tells)

pub returns-in-Err-leave-clause-course : goal.returns-in-Err-leave-clause-course
returns-in-Err-leave-clause-course g c tells =
    refused_on_course c.args.nodes c.args.node c.in-Ok.read.items (g.D.Disk.areas c.args.disk.now) (g.D.Disk.areas c.call-called.new.disk) (phase_of c.args.phase.now) _
    (c.in-Ok.ensures.read tells) (c.in-Ok.ensures.areas tells) c.in-Err-leave.ensures.exact

pub returns-in-Err-leave-clause-cause : goal.returns-in-Err-leave-clause-cause
returns-in-Err-leave-clause-cause g c = refused_by c.args.nodes c.args.node c.in-Ok.read.items (phase_of c.args.phase.now) _ _ c.in-Err-leave.ensures.exact

pub returns-in-Err-leave-clause-untouched : goal.returns-in-Err-leave-clause-untouched
returns-in-Err-leave-clause-untouched g c tells = untouched_by c.args.phase.now _ _ (c.in-Ok.ensures.areas tells)

pub returns-in-Ok-Phase-clause-course : goal.returns-in-Ok-Phase-clause-course
returns-in-Ok-Phase-clause-course g c tells =
    let old = g.D.Disk.areas c.args.disk.now in
    let new = g.D.Disk.areas c.call-called.new.disk in
    let follows = subst (λ (x : Next). Follows (Ok x) (phase_of c.args.phase.now) (after_opening_call c.args.nodes c.args.node c.in-Ok.read.items (phase_of c.args.phase.now))) c.in-Ok-Phase.field-0-is c.in-Ok-Phase.ensures.exact in
    let on = subst (OnCourse c.args.nodes c.args.node old new (phase_of c.args.phase.now)) follows
    (on_course c.args.nodes c.args.node c.in-Ok.read.items old new (phase_of c.args.phase.now) (c.in-Ok.ensures.read tells) (c.in-Ok.ensures.areas tells)) in
    (c.in-Ok.ensures.areas tells, on.0, on.1)

pub returns-in-Ok-Phase-clause-untouched : goal.returns-in-Ok-Phase-clause-untouched
returns-in-Ok-Phase-clause-untouched g c tells = untouched_by c.args.phase.now _ _ (c.in-Ok.ensures.areas tells)

pub returns-in-Ok-Open-clause-course : goal.returns-in-Ok-Open-clause-course
returns-in-Ok-Open-clause-course g c tells =
    let old = g.D.Disk.areas c.args.disk.now in
    let new = g.D.Disk.areas c.call-called.new.disk in
    let follows = subst (λ (x : Next). Follows (Ok x) (phase_of c.args.phase.now) (after_opening_call c.args.nodes c.args.node c.in-Ok.read.items (phase_of c.args.phase.now))) c.in-Ok-Open.field-0-is c.in-Ok-Open.ensures.exact in
    let on = subst (OnCourse c.args.nodes c.args.node old new (phase_of c.args.phase.now)) follows
    (on_course c.args.nodes c.args.node c.in-Ok.read.items old new (phase_of c.args.phase.now) (c.in-Ok.ensures.read tells) (c.in-Ok.ensures.areas tells)) in
    (c.in-Ok.ensures.areas tells, on.0, on.1)

pub returns-in-Ok-Open-clause-untouched : goal.returns-in-Ok-Open-clause-untouched
returns-in-Ok-Open-clause-untouched g c tells = untouched_by c.args.phase.now _ _ (c.in-Ok.ensures.areas tells)

pub returns-in-Err-clause-images : goal.returns-in-Err-clause-images
returns-in-Err-clause-images g c tells stands reading = untouched_adds (phase_of c.args.phase.now) _ _ stands reading (untouched_failing c.args.phase.now _ _ (c.in-Err.ensures.left tells))

pub returns-in-Err-leave-clause-images : goal.returns-in-Err-leave-clause-images
returns-in-Err-leave-clause-images g c tells stands reading = untouched_adds (phase_of c.args.phase.now) _ _ stands reading (untouched_by c.args.phase.now _ _ (c.in-Ok.ensures.areas tells))

pub returns-in-Ok-Phase-clause-images : goal.returns-in-Ok-Phase-clause-images
returns-in-Ok-Phase-clause-images g c tells stands reading = untouched_adds (phase_of c.args.phase.now) _ _ stands reading (untouched_by c.args.phase.now _ _ (c.in-Ok.ensures.areas tells))

pub returns-in-Ok-Open-clause-images : goal.returns-in-Ok-Open-clause-images
returns-in-Ok-Open-clause-images g c tells stands reading = untouched_adds (phase_of c.args.phase.now) _ _ stands reading (untouched_by c.args.phase.now _ _ (c.in-Ok.ensures.areas tells))

pub returns-in-Ok-Phase-clause-rests : goal.returns-in-Ok-Phase-clause-rests
returns-in-Ok-Phase-clause-rests g c tells opens =
    let on = c.in-Ok-Phase.ensures.rests (g.D.Disk.areas c.args.disk.now) (g.D.Disk.areas c.call-called.new.disk) opens (c.in-Ok.ensures.read tells) (c.in-Ok.ensures.areas tells) in
    subst (λ (x : Next). GoesOnAny c.args.nodes c.args.node x (g.D.Disk.areas c.call-called.new.disk)) c.in-Ok-Phase.field-0-is on

pub returns-in-Ok-Open-clause-rests : goal.returns-in-Ok-Open-clause-rests
returns-in-Ok-Open-clause-rests g c tells opens =
    let on = c.in-Ok-Open.ensures.rests (g.D.Disk.areas c.args.disk.now) (g.D.Disk.areas c.call-called.new.disk) opens (c.in-Ok.ensures.read tells) (c.in-Ok.ensures.areas tells) in
    let is = subst (λ (x : Next). GoesOnAny c.args.nodes c.args.node x (g.D.Disk.areas c.call-called.new.disk)) c.in-Ok-Open.field-0-is on in
    is

pub returns-in-Err-clause-again : goal.returns-in-Err-clause-again
returns-in-Err-clause-again g c = (refl, begins_any (g.D.Disk.areas c.call-called.new.disk))

pub returns-in-Ok-Open-clause-again : goal.returns-in-Ok-Open-clause-again
returns-in-Ok-Open-clause-again g c = rw c.leave.ensures.left (refl, begins_any (g.D.Disk.areas c.call-called.new.disk))

pub returns-in-Err-leave-clause-again : goal.returns-in-Err-leave-clause-again
returns-in-Err-leave-clause-again g c = rw c.leave.ensures.left (refl, begins_any (g.D.Disk.areas c.call-called.new.disk))
