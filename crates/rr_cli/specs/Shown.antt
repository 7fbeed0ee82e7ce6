-- What texts show of a run or of a tape.
use Rattle.std.specs.Prelude.{◌≡◌, ℕ, Bool, true, false, List}
use Rattle.rr_json.specs.Objects.{report_objects}
use Rattle.rr_text.specs.Taped.{Taped}
use Rattle.rr_account.specs.Accounts.{Accounted}
use Rattle.rr_account.specs.Objects.{IsExplanation, IsStatistics}
use Rattle.rr_account.specs.TapeAccounts.{IsTapeAccount}
use Rattle.rr_account.specs.Texts.{IsExplained}
use Rattle.rr_draw.specs.declared.cut.Cut.{Cut}
use Rattle.rr_draw.specs.Pictures.{IsPictureOf}
use Rattle.rr_draw.specs.TapePictures.{IsTapePicture}
use Rattle.rr_cli.specs.Pages.{IsPageOf, IsTapePage}
use Rattle.rr_words.specs.declared.tasks.Form.TheVariants.{Plain, Json}
use Rattle.rr_cli.specs.declared.views.Shown.{Shown}
use Rattle.rr_cli.specs.declared.views.Shown.TheVariants as shown
use Rattle.rr_cli.specs.declared.taped.TapeView.{TapeView}
use Rattle.rr_cli.specs.declared.taped.TapeView.TheVariants.{Account, Picture, Page}

-- a text shows an account: as the objects of its report; or as its report with a note on each event; or as objects for its
-- events and its decided list; or as statistics, which as JSON are one object
abbrev pub Shows : Shown → Accounted → List ℕ → Type 0
Shows shown.Report account text = text ≡ report_objects account.report
Shows (shown.Explanation Plain) account text = IsExplained account text
Shows (shown.Explanation Json) account text = IsExplanation account text
Shows (shown.Statistics Plain) account text = Unit {0}
Shows (shown.Statistics Json) account text = IsStatistics text

-- a text shows a tape: its account, or its picture, or a page with that
abbrev pub ShowsTape : TapeView → Taped → List ℕ → Type 0
ShowsTape (Account how) tape text = (account : Accounted) × IsTapeAccount tape account × Shows how account text
ShowsTape (Picture cut) tape text = IsTapePicture cut tape text
ShowsTape (Page cut) tape text = IsTapePage cut tape text

-- a text is the picture of a run, or a page with it
abbrev pub IsPictured : Bool → Cut → List ℕ → List ℕ → Type 0
IsPictured false cut bytes text = IsPictureOf cut bytes text
IsPictured true cut bytes text = IsPageOf cut bytes text
