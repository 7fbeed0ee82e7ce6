-- What the page of a run or of a tape has: the data of its events, and its picture.
use Rattle.std.specs.Prelude.{◌≡◌, ℕ, List, ◌++◌}
use Rattle.std.specs.List.{flat_map}
use Rattle.rr_text.specs.Taped.{Taped}
use Rattle.rr_account.specs.Accounts.{Accounted, IsAccountOn}
use Rattle.rr_account.specs.Pages.{IsPageData}
use Rattle.rr_account.specs.TapeAccounts.{IsTapeAccount}
use Rattle.rr_draw.specs.declared.cut.Cut.{Cut}
use Rattle.rr_draw.specs.Pictures.{IsPictureOf, in_script}
use Rattle.rr_draw.specs.TapePictures.{IsTapePicture}

-- a text has these data, as JSON in a script has them, and this picture
pub record HasBoth (objects picture text : List ℕ) : Type 0 where
  pub front : List ℕ
  pub middle : List ℕ
  pub back : List ℕ
  pub whole : text ≡ front ++ flat_map in_script objects ++ middle ++ picture ++ back

-- the text is a page of the run of the schedule whose text the bytes are: its data explain the events on the
-- cut's lines, and it has its picture
pub record IsPageOf (cut : Cut) (bytes text : List ℕ) : Type 0 where
  pub account : Accounted
  pub objects : List ℕ
  pub picture : List ℕ
  pub on_the_run : IsAccountOn bytes account
  pub explained : IsPageData account cut.from cut.to objects
  pub pictured : IsPictureOf cut bytes picture
  pub has_both : HasBoth objects picture text

-- the text is a page of the tape: its data explain the events on the cut's lines, and it has its picture
pub record IsTapePage (cut : Cut) (tape : Taped) (text : List ℕ) : Type 0 where
  pub account : Accounted
  pub objects : List ℕ
  pub picture : List ℕ
  pub of_the_tape : IsTapeAccount tape account
  pub explained : IsPageData account cut.from cut.to objects
  pub pictured : IsTapePicture cut tape picture
  pub has_both : HasBoth objects picture text
