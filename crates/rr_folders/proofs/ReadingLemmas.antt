-- What was read of the bytes that two reads gave is read of both areas.
use Rattle.std.proofs.Common.{◌≡◌, ℕ, ◌-◌, ◌^◌, ◌<◌, ◌∙◌, List, length, ap, ap₂, arith}
use Rattle.rr_disk.specs.Areas.{Areas, bytes_of, extent_of, read_of}
use Rattle.rr_disk.specs.declared.area.Area.TheVariants.{First, Second}
use Rattle.rr_journal.proofs.ImageLaws.{read_whole}
use Rattle.rr_folders.specs.declared.verify_folder.Reading.{Reading}
use Rattle.rr_folders.specs.Folders.{reading_of}

pub read_of_disk : (r : Reading) (first second : List ℕ) (old mid : Areas) → first ≡ read_of 0 (2 ^ 64 - 1) (extent_of old First) → second ≡ read_of 0 (2 ^ 64 - 1) (extent_of mid Second) → mid ≡ old
    → length old.first.cells < 2 ^ 64 → length old.second.cells < 2 ^ 64 → r ≡ reading_of first second → r ≡ reading_of (bytes_of old.first) (bytes_of old.second)
read_of_disk r first second old mid read_1 read_2 same fits_1 fits_2 is =
    let one : first ≡ bytes_of old.first = read_1 ∙ read_whole (2 ^ 64 - 1) old.first (omega (arith, fits_1)) in
    let two : second ≡ bytes_of old.second = read_2 ∙ ap (λ (both : Areas). read_of 0 (2 ^ 64 - 1) both.second) same ∙ read_whole (2 ^ 64 - 1) old.second (omega (arith, fits_2)) in
    is ∙ ap₂ (λ a b. reading_of a b) one two
