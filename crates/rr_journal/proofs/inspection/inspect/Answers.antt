use Rattle.std.proofs.Common.{inl, refl, ◌∙◌}
use Rattle.std.proofs.lemmas.Result.{err_from_is_err_and}
use Rattle.rr_journal.specs.Inspect.{inspected, IsTold, both_read, first_refused, second_refused}
use Rattle.rr_journal.proofs.InspectLaws.{told_of, refused_read}
use Rattle.rr_journal.proofs.inspection.inspect.Goals as goal

pub returns-in_err-first-clause-exact : goal.returns-in_err-first-clause-exact
returns-in_err-first-clause-exact g c =
    let p = err_from_is_err_and c.from_residual.result c.from_residual.ensures.1 in
    rw (p.1, p.2) (first_refused c.in_err-first.field-0.0 (refused_read c.in_err-first.field-0.0 _ c.in_err-first.ensures.cause) c.in_err-first.ensures.exact refl)

pub returns-in_err-second-clause-exact : goal.returns-in_err-second-clause-exact
returns-in_err-second-clause-exact g c =
    let p = err_from_is_err_and c.from_residual-in_err-second.result c.from_residual-in_err-second.ensures.1 in
    rw (p.1, p.2)
    (second_refused c.in_ok-first.first c.read.new.self c.in_err-second.field-0.0 (refused_read c.in_err-second.field-0.0 _ c.in_err-second.ensures.cause) c.in_ok-first.ensures.exact c.in_err-second.ensures.exact refl)

pub returns-clause-exact : goal.returns-clause-exact
returns-clause-exact g c =
    let is : IsTold c.inspect_bytes.result (inspected c.in_ok-first.first.items c.in_ok-second.second.items) = rw (c.as_slice.ensures.value, c.as_slice-2.ensures.value) at c.inspect_bytes.ensures in
    both_read c.in_ok-first.first c.in_ok-second.second c.read.new.self c.in_ok-first.ensures.exact c.in_ok-second.ensures.exact is

pub returns-clause-told : goal.returns-clause-told
returns-clause-told g c = λ tells fits_1 fits_2.
    inl (told_of c.inspect_bytes.result c.as_slice.result.now c.as_slice-2.result.now (g.D.Disk.areas c.args.disk.now) (g.D.Disk.areas c.read.new.self) (c.as_slice.ensures.value ∙ c.in_ok-first.ensures.bytes tells)
    (c.as_slice-2.ensures.value ∙ c.in_ok-second.ensures.bytes (c.in_ok-first.ensures.tells tells)) (c.in_ok-first.ensures.same tells) fits_1 fits_2 c.inspect_bytes.ensures)
