use Rattle.std.proofs.Common.{◌∙◌, inl}
use Rattle.std.proofs.lemmas.Result.{IfOk-weaker}
use Rattle.rr_folders.proofs.ReadingLemmas.{read_of_disk}
use Rattle.rr_folders.proofs.verify_folder.read_disk.Goals as goal

pub returns-clause-told : goal.returns-clause-told
returns-clause-told g c = λ tells fits_1 fits_2.
    IfOk-weaker c.read_areas.result _ _
    (λ r is. inl (read_of_disk r c.as_slice.result.now c.as_slice-2.result.now (g.D.Disk.areas c.args.disk.now) (g.D.Disk.areas c.read.new.self)
    (c.as_slice.ensures.value ∙ c.in-Ok.ensures.bytes tells) (c.as_slice-2.ensures.value ∙ c.in-Ok-read.ensures.bytes (c.in-Ok.ensures.tells tells)) (c.in-Ok.ensures.same tells) fits_1 fits_2 is))
    c.read_areas.ensures
