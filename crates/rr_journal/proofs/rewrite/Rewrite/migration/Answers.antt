use Rattle.std.proofs.Common.{◌≡◌, ◌+◌, ap, subst, sym, ◌∙◌, arith, true}
use Rattle.std.proofs.lemmas.Result.{err_from_is_err_and}
use Rattle.rr_frame.specs.Snapshots.{Snapped}
use Rattle.rr_journal.specs.Image.{Content, Outdated}
use Rattle.rr_journal.specs.Calls.{frame_bytes}
use Rattle.rr_journal.specs.Openings.{snapshot_with}
use Rattle.rr_journal.specs.Migration.{migrated, may_migrate}
use Rattle.rr_journal.specs.Rewrites.{IsSized}
use Rattle.rr_journal.specs.Stages.{first_stage}
use Rattle.rr_frame.specs.SnapshotFormat.{snapshot_bytes}
use Rattle.rr_journal.proofs.RewriteLaws.{sized_anew, may_be, refused_migration}
use Rattle.rr_journal.proofs.rewrite.Rewrite.migration.Goals as goal

pub new-requires-2 : goal.new-requires-2
new-requires-2 c =
    let s : c.in-Ok.snapshot ≡ snapshot_with c.args.nodes c.args.node (migrated c.args.content) =
    c.in-Ok.ensures.ok ∙ (λ i. record { node = c.args.node; nodes = c.args.nodes; epoch = c.epoch-epoch.ensures i + 1; next = c.next-next.ensures i; entries = c.into_promise.ensures i }) in
    let content : c.new-content.result ≡ c.args.content =
    c.new-content.ensures
    ∙ (λ i. record { epoch = c.epoch-epoch.ensures i; promise = (c.into_promise-2.ensures ∙ ap (λ (x : Snapped). x.entries) s) i; next = c.next-next.ensures i; gate = c.gate-gate.ensures i }) in
    let may : may_migrate c.args.content ≡ true =
    may_be c.args.nodes c.args.node c.args.content c.in-Ok.snapshot s (omega (arith, c.epoch-epoch.ensures, c.epoch-epoch.type_inv, c.if-epoch.false)) c.in_ok-body.ensures.ok.1 in
    subst (λ (x : Content). IsSized (record { found = Outdated c.args.area x; body = c.in_ok-body.body.items; stage = first_stage c.args.closes })) (sym content)
    (sized_anew c.args.nodes c.args.node (Outdated c.args.area c.args.content) c.in_ok-body.body.items (first_stage c.args.closes) may (c.in_ok-body.ensures.ok.0 ∙ ap (λ (x : Snapped). frame_bytes (snapshot_bytes x)) s))

pub returns-in_err-body-clause-err : goal.returns-in_err-body-clause-err
returns-in_err-body-clause-err c =
    let p = err_from_is_err_and c.from_residual.result c.from_residual.ensures.1 in
    rw (p.1, p.2)
    (refused_migration c.args.nodes c.args.node c.args.content c.in-Ok.snapshot _
    (c.in-Ok.ensures.ok ∙ (λ i. record { node = c.args.node; nodes = c.args.nodes; epoch = c.epoch-epoch.ensures i + 1; next = c.next-next.ensures i; entries = c.into_promise.ensures i })) c.in_err-body.ensures.err)
