use Rattle.std.proofs.Common.{◌≡◌, ◌∙◌, true, refl, sym, subst, List, length, drop}
use Rattle.rr_folders.specs.declared.verify_folder.Reading.{Reading}
use Rattle.rr_folders.specs.Sifts.{AreUsed, any_holds}
use Rattle.rr_cli.specs.Ends.{used_so, unused}
use Rattle.rr_cli.proofs.FolderLemmas.{used_in_place}
use Rattle.rr_cli.proofs.exporting.export_sifted.Goals as goal

pub returns-clause-ends : goal.returns-clause-ends
returns-clause-ends g c =
    let read = c.args.readings.items in
    let after = c.use_readings.new.readings in
    let told = c.in-Some.is_told in
    let used : AreUsed read after told = subst (λ (rs : List Reading). AreUsed rs after told) c.as_mut_slice.ensures.value c.in-Some.ensures.some in
    let in_place = used_in_place read after (drop (length after) read) told c.args.readings.len used c.args.readings.ok.0 in
    used_so c.as_slice.result.now told c.export_readings-ending.result
    (read, c.requires.read, subst (λ (rs : List Reading). AreUsed read rs told) (sym (c.as_slice.ensures.value ∙ in_place)) used)
    c.export_readings-ending.ensures.ends c.left_status.ensures

pub returns-in_default-clause-ends : goal.returns-in_default-clause-ends
returns-in_default-clause-ends g c =
    unused c.args.readings.items c.args.sifted.now.without c.requires.read
    (subst (λ (rs : List Reading). any_holds c.args.sifted.now.without 0 rs ≡ true) c.as_mut_slice.ensures.value (c.in_default.ensures.none refl).1) c.end_by_unused.ensures refl
