use Rattle.std.proofs.lemmas.Result.{err_from_is_err_and}
use Rattle.std.proofs.Common.{◌∙◌, ℕ, ◌+◌, ◌^◌, ◌≤◌, true, false, None, ap, sym, subst, refl}
use Rattle.rr_folders.specs.Requests.{Reserved}
use Rattle.rr_folders.specs.NumberCalls.{reads, bytes_of, number_text, out, unread, no_memory}
use Rattle.rr_folders.proofs.NumberLaws.{lone}
use Rattle.rr_folders.proofs.ReservingLaws.{is_unreadable, is_reserved, has_failed, lacks_memory}
use Rattle.rr_folders.proofs.requests.reserve_in.Goals as goal

pub returns-in-Err-clause-err : goal.returns-in-Err-clause-err
returns-in-Err-clause-err g c = no_memory None false (lone g.N.NumberFile.gives (reads None false) c.args.file.now c.read.new.self c.in-Err.ensures)

pub returns-in-Err-2-clause-err : goal.returns-in-Err-2-clause-err
returns-in-Err-2-clause-err g c = unread (lone g.N.NumberFile.gives (reads None false) c.args.file.now c.read.new.self c.in-Err-2.ensures)

pub returns-in_default-clause-err : goal.returns-in_default-clause-err
returns-in_default-clause-err g c =
    is_unreadable g.N.NumberFile.gives c.args.least (bytes_of c.in-Ok.found) c.args.file.now c.read.new.self c.in-Ok.ensures (sym c.free_by.ensures ∙ c.in_default.is)

pub returns-in_default-from-clause-err : goal.returns-in_default-from-clause-err
returns-in_default-from-clause-err g c =
    out (bytes_of c.in-Ok.found) c.in-Some.first (sym c.free_by.ensures ∙ c.in-Some.is)
    (subst (λ (n : ℕ). 2 ^ 64 ≤ n + 1048576) c.max.ensures (c.from.ensures.none c.in_default-from.is))
    (lone g.N.NumberFile.gives (reads (bytes_of c.in-Ok.found) true) c.args.file.now c.read.new.self c.in-Ok.ensures)

pub returns-in_err-text-clause-err : goal.returns-in_err-text-clause-err
returns-in_err-text-clause-err g c =
    let p = err_from_is_err_and c.from_residual.result c.from_residual.ensures.1 in
    rw p.1 (lacks_memory g.N.NumberFile.gives c.args.least (bytes_of c.in-Ok.found) c.args.file.now c.read.new.self c.in-Ok.ensures p.0 (p.2 ∙ c.in_err-text.ensures.err))

pub returns-in-Ok-replace-clause-ok : goal.returns-in-Ok-replace-clause-ok
returns-in-Ok-replace-clause-ok g c =
    is_reserved g.N.NumberFile.gives c.args.least (bytes_of c.in-Ok.found) c.in-Some.first c.in-Some-from.block c.as_slice.result.now c.args.file.now c.read.new.self
    c.replace.new.file c.in-Ok.ensures (sym c.free_by.ensures ∙ c.in-Some.is) (c.in-Some-from.ensures.some.0 ∙ c.max.ensures) (c.in-Some-from.ensures.some.1 ∙ ap (λ (n : ℕ). n + 1048576) c.max.ensures)
    (c.as_slice.ensures.value ∙ c.in_ok-text.ensures.ok ∙ ap (λ (b : Reserved). number_text b.end) c.block.view_is) (c.in-Ok-replace.ensures.ok refl)

pub returns-clause-err : goal.returns-clause-err
returns-clause-err g c =
    has_failed g.N.NumberFile.gives c.args.least (bytes_of c.in-Ok.found) c.in-Some.first c.in-Some-from.block.end c.as_slice.result.now c.args.file.now c.read.new.self
    c.replace.new.file c.in-Ok.ensures (sym c.free_by.ensures ∙ c.in-Some.is) (c.in-Some-from.ensures.some.1 ∙ ap (λ (n : ℕ). n + 1048576) c.max.ensures)
    (c.as_slice.ensures.value ∙ c.in_ok-text.ensures.ok ∙ ap (λ (b : Reserved). number_text b.end) c.block.view_is) (c.in-Err-replace.ensures.err refl)
