use Rattle.std.proofs.Common.{◌≡◌, ◌⊎◌, ℕ, ◌+◌, ◌≤◌, List, length, false}
use Rattle.std.specs.Prelude.{IfOk, IfErr, OnOk}
use Rattle.rr_types.specs.declared.fact.Fact.{Fact}
use Rattle.rr_types.specs.declared.refusal.Refusal.TheVariants.{OutOfMemory, Device}
use Rattle.rr_journal.specs.Held.{Holds}
use Rattle.rr_journal.specs.Openings.{Phase}
use Rattle.rr_journal.specs.OpeningCourse.{found_from, calls_from, IsAsBefore, IsDone}
use Rattle.rr_journal.specs.OpeningTable.{contents, OpensAny, OpensWith, IsKept}
use Rattle.rr_journal.specs.OpenDisks.{IsOpenAtRest, IsOpenWith, disk_behind}
use Rattle.rr_journal.specs.Rewrites.{writes_anew}
use Rattle.rr_journal.proofs.CrashLaws.{adds_same_alone, opens_with_one, begun_with}
use Rattle.rr_journal.proofs.journal.Journal.open.Goals as goal

pub returns-clause-done : goal.returns-clause-done
returns-clause-done g c =
    begun_with {D = g.row.D.Denot}
    (λ (n p : ℕ) (phase : Phase) (d : g.row.D.Denot). g.D.Disk.tells d → OnOk c.finish.result (IsDone {D = g.row.D.Denot} (calls_from n p phase (g.D.Disk.areas d)) g.D.Disk.areas g.D.Disk.calls d (disk_behind {D = g.row.D.Denot} c.finish.result)))
    c.start.result c.args.nodes c.args.node c.args.disk c.start.ensures.whose c.start.ensures.disk c.start.ensures.phase c.finish.ensures.done

pub returns-clause-images : goal.returns-clause-images
returns-clause-images g c tells few_first few_second stands =
    let new = g.D.Disk.areas (disk_behind {D = g.row.D.Denot} c.finish.result) in
    let untouched = begun_with {D = g.row.D.Denot}
    (λ (n p : ℕ) (phase : Phase) (d : g.row.D.Denot). g.D.Disk.tells d → writes_anew (found_from n p phase (g.D.Disk.areas d)) ≡ false → IsAsBefore (g.D.Disk.areas d) (g.D.Disk.areas (disk_behind {D = g.row.D.Denot} c.finish.result)))
    c.start.result c.args.nodes c.args.node c.args.disk c.start.ensures.whose c.start.ensures.disk c.start.ensures.phase c.finish.ensures.untouched in
    let kept = begun_with {D = g.row.D.Denot}
    (λ (n p : ℕ) (phase : Phase) (d : g.row.D.Denot). g.D.Disk.tells d → (facts : List Fact) → OpensWith n p facts c.start.result.phase (g.D.Disk.areas d) → IsKept (Holds n p) facts (g.D.Disk.areas d) (g.D.Disk.areas (disk_behind {D = g.row.D.Denot} c.finish.result)))
    c.start.result c.args.nodes c.args.node c.args.disk c.start.ensures.whose c.start.ensures.disk c.start.ensures.phase c.finish.ensures.kept in
    adds_same_alone c.args.nodes c.args.node (g.D.Disk.areas c.args.disk) new stands few_first few_second (untouched tells) (λ facts holds. kept tells facts (c.start.ensures.table facts few_first few_second holds))

pub returns-clause-some : goal.returns-clause-some
returns-clause-some g c tells few_first few_second stands some =
    let held = some (contents (g.D.Disk.areas c.args.disk)) stands in
    let table = begun_with {D = g.row.D.Denot}
    (λ (n p : ℕ) (phase : Phase) (d : g.row.D.Denot). g.D.Disk.tells d → (facts : List Fact) → OpensWith n p facts c.start.result.phase (g.D.Disk.areas d) → IfOk c.finish.result (λ r. IsOpenWith {D = g.row.D.Denot} g.D.Disk.areas facts r))
    c.start.result c.args.nodes c.args.node c.args.disk c.start.ensures.whose c.start.ensures.disk c.start.ensures.phase c.finish.ensures.table in
    let undamaged = begun_with {D = g.row.D.Denot}
    (λ (n p : ℕ) (phase : Phase) (d : g.row.D.Denot). g.D.Disk.tells d → (facts : List Fact) → OpensWith n p facts c.start.result.phase (g.D.Disk.areas d) → IfErr c.finish.result (λ r. (r.0 ≡ OutOfMemory) ⊎ (r.0 ≡ Device)))
    c.start.result c.args.nodes c.args.node c.args.disk c.start.ensures.whose c.start.ensures.disk c.start.ensures.phase c.finish.ensures.undamaged in (
      opens_with_one {D = g.row.D.Denot} g.D.Disk.areas c.args.nodes c.args.node (g.D.Disk.areas c.args.disk) c.finish.result stands some
          (λ facts holds. table tells facts (c.start.ensures.table facts few_first few_second holds)),
      undamaged tells held.0 (c.start.ensures.table held.0 few_first few_second held.1),
    )

pub returns-clause-rests : goal.returns-clause-rests
returns-clause-rests g c tells few_first few_second =
    let rests = begun_with {D = g.row.D.Denot}
    (λ (n p : ℕ) (phase : Phase) (d : g.row.D.Denot). g.D.Disk.tells d → OpensAny n p c.start.result.phase (g.D.Disk.areas d) → IfOk c.finish.result (λ r. IsOpenAtRest {D = g.row.D.Denot} g.D.Disk.areas r))
    c.start.result c.args.nodes c.args.node c.args.disk c.start.ensures.whose c.start.ensures.disk c.start.ensures.phase c.finish.ensures.rests in
    rests tells (c.start.ensures.rests few_first few_second)

pub returns-clause-undamaged : goal.returns-clause-undamaged
returns-clause-undamaged g c tells facts few_first few_second holds =
    let undamaged = begun_with {D = g.row.D.Denot}
    (λ (n p : ℕ) (phase : Phase) (d : g.row.D.Denot). g.D.Disk.tells d → (facts : List Fact) → OpensWith n p facts c.start.result.phase (g.D.Disk.areas d) → IfErr c.finish.result (λ r. (r.0 ≡ OutOfMemory) ⊎ (r.0 ≡ Device)))
    c.start.result c.args.nodes c.args.node c.args.disk c.start.ensures.whose c.start.ensures.disk c.start.ensures.phase c.finish.ensures.undamaged in
    undamaged tells facts (c.start.ensures.table facts few_first few_second holds)

pub returns-clause-counted : goal.returns-clause-counted
returns-clause-counted g c =
    begun_with {D = g.row.D.Denot}
    (λ (n p : ℕ) (phase : Phase) (d : g.row.D.Denot). g.D.Disk.tells d → g.D.Disk.calls (disk_behind {D = g.row.D.Denot} c.finish.result) ≤ g.D.Disk.calls d + length (calls_from n p phase (g.D.Disk.areas d)))
    c.start.result c.args.nodes c.args.node c.args.disk c.start.ensures.whose c.start.ensures.disk c.start.ensures.phase c.finish.ensures.counted

pub returns-clause-kept : goal.returns-clause-kept
returns-clause-kept g c tells facts few_first few_second holds =
    let kept = begun_with {D = g.row.D.Denot}
    (λ (n p : ℕ) (phase : Phase) (d : g.row.D.Denot). g.D.Disk.tells d → (facts : List Fact) → OpensWith n p facts c.start.result.phase (g.D.Disk.areas d) → IsKept (Holds n p) facts (g.D.Disk.areas d) (g.D.Disk.areas (disk_behind {D = g.row.D.Denot} c.finish.result)))
    c.start.result c.args.nodes c.args.node c.args.disk c.start.ensures.whose c.start.ensures.disk c.start.ensures.phase c.finish.ensures.kept in
    kept tells facts (c.start.ensures.table facts few_first few_second holds)
