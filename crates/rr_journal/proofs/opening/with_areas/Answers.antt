use Rattle.std.proofs.Common.{◌≡◌, refl, sym, ap, subst, ◌∙◌, List, ℕ, Ok}
use Rattle.std.proofs.lemmas.Result.{err_from_is_err_and}
use Rattle.rr_frame.specs.declared.version.Version.TheVariants.{One, Two}
use Rattle.rr_frame.specs.Snapshots.{IsSnapshot}
use Rattle.rr_journal.specs.declared.image.Image.{Image}
use Rattle.rr_journal.specs.Ends.{Finds}
use Rattle.rr_journal.specs.Held.{StandsFor, Holds}
use Rattle.rr_journal.specs.Image.{Content, Found, Unformatted, Outdated, found}
use Rattle.rr_journal.specs.Calls.{must_close}
use Rattle.rr_journal.specs.Moments.{image_of}
use Rattle.rr_journal.specs.Openings.{snapshot_with, bytes_in}
use Rattle.rr_journal.specs.OtherAreas.{other_area}
use Rattle.rr_journal.specs.Rewrites.{Rewrite, IsRewriting, content_anew}
use Rattle.rr_journal.specs.declared.opening.Fronts.{Fronts}
use Rattle.rr_journal.proofs.OpeningLaws.{begins_anew, closes_beside, image_is, resting}
use Rattle.rr_journal.proofs.RewriteLaws.{refused_for_memory}
use Rattle.rr_journal.proofs.PromisedLaws.{IsPromised, found_promised, promised_snapshot}
use Rattle.rr_journal.proofs.opening.with_areas.Goals as goal

pub migration-requires : goal.migration-requires
migration-requires c =
    let n = c.args.nodes in
    let p = c.args.node in
    let finds = subst (λ (x : Image). Finds (Ok x) (found n p c.args.first.items c.args.second.items)) c.in-Ok-Outdated.field-0-is c.in-Ok-Outdated.ensures in
    promised_snapshot n p c.in-Ok-Outdated.content.epoch c.in-Ok-Outdated.content c.requires (found_promised One n p c.args.first.items c.args.second.items c.in-Ok-Outdated.area c.in-Ok-Outdated.content finds)

pub returns-in-Ok-Active-clause-own : goal.returns-in-Ok-Active-clause-own
returns-in-Ok-Active-clause-own c =
    let n = c.args.nodes in
    let p = c.args.node in
    let finds = subst (λ (x : Image). Finds (Ok x) (found n p c.args.first.items c.args.second.items)) c.in-Ok-Active.field-0-is c.in-Ok-Active.ensures in
    let content : Content = record { epoch = c.epoch-epoch.result; promise = c.into_promise.result; next = c.next-number.result; gate = c.gate-gate.result } in
    let same : c.in-Ok-Active.content ≡ record { epoch = c.epoch-epoch.result; promise = c.into_promise.result; next = c.next-number.result; gate = c.gate-gate.result } =
    λ i. record { epoch = sym c.epoch-epoch.ensures i; promise = sym c.into_promise.ensures i; next = sym c.next-number.ensures i; gate = sym c.gate-gate.ensures i } in
    promised_snapshot n p c.epoch-epoch.result content c.requires
    (subst (IsPromised n p) same (found_promised Two n p c.args.first.items c.args.second.items c.in-Ok-Active.area c.in-Ok-Active.content finds))

pub returns-in_ok-rewrite-in-Ok-Unformatted-clause-table : goal.returns-in_ok-rewrite-in-Ok-Unformatted-clause-table
returns-in_ok-rewrite-in-Ok-Unformatted-clause-table c facts both rests one two =
    let n = c.args.nodes in
    let p = c.args.node in
    let is = subst (λ (x : Image). Finds (Ok x) (found n p c.args.first.items c.args.second.items)) c.in-Ok-Unformatted.field-0-is c.in-Ok-Unformatted.ensures in
    let blank : found n p rests.start.of_first rests.start.of_second ≡ Unformatted = ap (λ (b : List ℕ). found n p b rests.start.of_second) (sym one) ∙ ap (λ (b : List ℕ). found n p c.args.first.items b) (sym two) ∙ is in
    let closes : c.fronts_of-fronts.result.first ≡ must_close rests.start.of_first = ap (λ (f : Fronts). f.first) c.fronts_of-fronts.ensures ∙ ap must_close (c.deref.ensures.value ∙ one) in
    subst (λ (r : Rewrite). (on : IsRewriting n p r both) × Holds n p on.start facts) (sym c.in_ok-rewrite-in-Ok-Unformatted.ensures.ok)
    (begins_anew n p Unformatted both (resting n p facts both rests) c.fronts_of-fronts.result.first closes refl blank c.in_ok-rewrite-in-Ok-Unformatted.ensures.lawful, rests.holds)

pub returns-in_ok-rewrite-in-Ok-Outdated-clause-own : goal.returns-in_ok-rewrite-in-Ok-Outdated-clause-own
returns-in_ok-rewrite-in-Ok-Outdated-clause-own c =
    let n = c.args.nodes in
    let p = c.args.node in
    let finds = subst (λ (x : Image). Finds (Ok x) (found n p c.args.first.items c.args.second.items)) c.in-Ok-Outdated.field-0-is c.in-Ok-Outdated.ensures in
    subst (λ (r : Rewrite). IsSnapshot (snapshot_with n p (content_anew r.found))) (sym c.in_ok-rewrite-in-Ok-Outdated.ensures.ok.1)
    (promised_snapshot n p c.in-Ok-Outdated.content.epoch c.in-Ok-Outdated.content c.requires (found_promised One n p c.args.first.items c.args.second.items c.in-Ok-Outdated.area c.in-Ok-Outdated.content finds))

pub returns-in_ok-rewrite-in-Ok-Outdated-clause-table : goal.returns-in_ok-rewrite-in-Ok-Outdated-clause-table
returns-in_ok-rewrite-in-Ok-Outdated-clause-table c facts both rests one two =
    let n = c.args.nodes in
    let p = c.args.node in
    let is = subst (λ (x : Image). Finds (Ok x) (found n p c.args.first.items c.args.second.items)) c.in-Ok-Outdated.field-0-is c.in-Ok-Outdated.ensures in
    let finds : found n p rests.start.of_first rests.start.of_second ≡ Outdated c.in-Ok-Outdated.area c.in-Ok-Outdated.content =
    ap (λ (b : List ℕ). found n p b rests.start.of_second) (sym one) ∙ ap (λ (b : List ℕ). found n p c.args.first.items b) (sym two) ∙ is in
    let beside : bytes_in (other_area c.in-Ok-Outdated.area) rests.start.of_first rests.start.of_second ≡ image_of rests.start (other_area c.in-Ok-Outdated.area) = image_is rests.start (other_area c.in-Ok-Outdated.area) in
    let closes : c.beside-closes.result ≡ must_close (image_of rests.start (other_area c.in-Ok-Outdated.area)) =
    c.beside-closes.ensures
    ∙ closes_beside c.in-Ok-Outdated.area c.fronts_of-fronts.result c.args.first.items c.args.second.items
    (ap (λ (f : Fronts). f.first) c.fronts_of-fronts.ensures ∙ ap must_close c.deref.ensures.value)
    (ap (λ (f : Fronts). f.second) c.fronts_of-fronts.ensures ∙ ap must_close c.deref-2.ensures.value)
    ∙ ap must_close (ap (λ (b : List ℕ). bytes_in (other_area c.in-Ok-Outdated.area) b c.args.second.items) one ∙ ap (λ (b : List ℕ). bytes_in (other_area c.in-Ok-Outdated.area) rests.start.of_first b) two ∙ beside) in
    subst (λ (r : Rewrite). (on : IsRewriting n p r both) × Holds n p on.start facts) (sym c.in_ok-rewrite-in-Ok-Outdated.ensures.ok.1)
    (begins_anew n p (Outdated c.in-Ok-Outdated.area c.in-Ok-Outdated.content) both (resting n p facts both rests) c.beside-closes.result closes c.in_ok-rewrite-in-Ok-Outdated.ensures.ok.0 finds c.in_ok-rewrite-in-Ok-Outdated.ensures.lawful, rests.holds)

pub returns-in_err-rewrite-in-Ok-Outdated-clause-undamaged : goal.returns-in_err-rewrite-in-Ok-Outdated-clause-undamaged
returns-in_err-rewrite-in-Ok-Outdated-clause-undamaged c facts both rests one two =
    let n = c.args.nodes in
    let p = c.args.node in
    let is = subst (λ (x : Image). Finds (Ok x) (found n p c.args.first.items c.args.second.items)) c.in-Ok-Outdated.field-0-is c.in-Ok-Outdated.ensures in
    let finds : found n p rests.start.of_first rests.start.of_second ≡ Outdated c.in-Ok-Outdated.area c.in-Ok-Outdated.content =
    ap (λ (b : List ℕ). found n p b rests.start.of_second) (sym one) ∙ ap (λ (b : List ℕ). found n p c.args.first.items b) (sym two) ∙ is in
    let returned = err_from_is_err_and c.from_residual-in_err-rewrite-in-Ok-Outdated.result c.from_residual-in_err-rewrite-in-Ok-Outdated.ensures.1 in
    rw returned.1 (returned.2 ∙ refused_for_memory c.in-Ok-Outdated.content c.in-Ok-Outdated.area facts _ (subst (λ (f : Found). StandsFor f facts) finds rests.holds.stands) c.in_err-rewrite-in-Ok-Outdated.ensures.err)
