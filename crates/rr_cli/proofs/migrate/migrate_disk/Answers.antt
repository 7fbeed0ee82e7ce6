use Rattle.std.proofs.Common.{◌≡◌, ◌⊎◌, ◌∙◌, ℕ, Result, Ok, Err, ap, sym, subst, inl, inr}
use Rattle.std.specs.Prelude.{Vec, IfOk, IfErr}
use Rattle.std.specs.declared.alloc.Global.{Global}
use Rattle.rr_types.specs.declared.refusal.Refusal.{Refusal}
use Rattle.rr_types.specs.declared.refusal.Refusal.TheVariants.{OutOfMemory, Device}
use Rattle.rr_disk.specs.Areas.{bytes_of}
use Rattle.rr_journal.specs.Inspect.{inspected}
use Rattle.rr_journal.specs.Openings.{Settling, Stops, end_by}
use Rattle.rr_journal.specs.OpeningCourse.{found_from}
use Rattle.rr_cli.specs.Areas.{IsShown}
use Rattle.rr_cli.specs.Migrations.{opened_areas}
use Rattle.rr_cli.proofs.MigrateLemmas.{shown_so, unshown_so, unopened}
use Rattle.rr_cli.proofs.migrate.migrate_disk.Goals as goal

pub returns-in-Ok-show_opened-clause-migrated : goal.returns-in-Ok-show_opened-clause-migrated
returns-in-Ok-show_opened-clause-migrated g c = λ tells.
    c.show_opened.ensures.same (subst g.D.Disk.tells (sym c.into_disk-opened.ensures) (c.in-Ok.ensures.tells tells)) ∙ ap g.D.Disk.areas c.into_disk-opened.ensures ∙ (c.in-Ok.ensures.done tells).0

pub returns-in-Ok-show_opened-clause-told : goal.returns-in-Ok-show_opened-clause-told
returns-in-Ok-show_opened-clause-told g c = λ tells.
    let areas : g.D.Disk.areas c.into_disk-opened.result ≡ opened_areas c.args.nodes c.args.node (g.D.Disk.areas c.args.disk) = ap g.D.Disk.areas c.into_disk-opened.ensures ∙ (c.in-Ok.ensures.done tells).0 in
    let behind = c.show_opened.ensures.told (subst g.D.Disk.tells (sym c.into_disk-opened.ensures) (c.in-Ok.ensures.tells tells)) in
    let seen = inspected (bytes_of (opened_areas c.args.nodes c.args.node (g.D.Disk.areas c.args.disk)).first) (bytes_of (opened_areas c.args.nodes c.args.node (g.D.Disk.areas c.args.disk)).second) in
    subst (λ (r : Result (Vec ℕ Global) Refusal). IfOk r (λ text. IsShown (Ok text) seen)) c.in-Ok-show_opened.is
    (shown_so c.show_opened.result seen (subst (λ both. IsShown c.show_opened.result (inspected (bytes_of both.first) (bytes_of both.second)) ⊎ (c.show_opened.result ≡ Err Device)) areas behind))

pub returns-in-Ok-clause-refused : goal.returns-in-Ok-clause-refused
returns-in-Ok-clause-refused g c = λ tells.
    let areas : g.D.Disk.areas c.into_disk-opened.result ≡ opened_areas c.args.nodes c.args.node (g.D.Disk.areas c.args.disk) = ap g.D.Disk.areas c.into_disk-opened.ensures ∙ (c.in-Ok.ensures.done tells).0 in
    let behind = c.show_opened.ensures.told (subst g.D.Disk.tells (sym c.into_disk-opened.ensures) (c.in-Ok.ensures.tells tells)) in
    let seen = inspected (bytes_of (opened_areas c.args.nodes c.args.node (g.D.Disk.areas c.args.disk)).first) (bytes_of (opened_areas c.args.nodes c.args.node (g.D.Disk.areas c.args.disk)).second) in
    subst (λ (r : Result (Vec ℕ Global) Refusal). IfErr r (λ e. (e ≡ OutOfMemory) ⊎ (e ≡ Device) ⊎ (end_by (found_from c.args.nodes c.args.node Settling (g.D.Disk.areas c.args.disk)) ≡ Stops e) ⊎ IsShown (Err e) seen)) c.in-Err-show_opened.is
    (unshown_so (λ e. end_by (found_from c.args.nodes c.args.node Settling (g.D.Disk.areas c.args.disk)) ≡ Stops e) c.show_opened.result seen
    (subst (λ both. IsShown c.show_opened.result (inspected (bytes_of both.first) (bytes_of both.second)) ⊎ (c.show_opened.result ≡ Err Device)) areas behind))

pub returns-clause-refused : goal.returns-clause-refused
returns-clause-refused g c = λ tells.
    elim (c.in-Err.ensures.ends tells) [
      | inl memory ↦ inl memory
      | inr (inl device) ↦ inr (inl device)
      | inr (inr stops) ↦ inr (inr (inl stops))
    ]

pub returns-clause-cause : goal.returns-clause-cause
returns-clause-cause g c = unopened g.D.Disk.faults c.args.disk _ c.in-Err.refusal c.in-Err.ensures.cause
