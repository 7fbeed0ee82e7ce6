-- The account of a run is that of its schedule.
use Rattle.std.proofs.Common.{◌≡◌, ℕ, List, sym, subst}
use Rattle.rr_text.specs.Scheduled.{Scheduled, IsSchedule}
use Rattle.rr_text.specs.ScheduleTexts.{schedule_text}
use Rattle.rr_account.specs.Accounts.{Accounted, IsReportOf, IsOfOneRun, IsAccountOn}

pub is_account_on : (bytes : List ℕ) (schedule : Scheduled) (account : Accounted) → IsSchedule schedule → bytes ≡ schedule_text schedule → account.schedule ≡ schedule → IsReportOf schedule account.report
    → IsOfOneRun account → IsAccountOn bytes account
is_account_on bytes schedule account lawful read same run of_one_run = record {
  lawful = subst IsSchedule (sym same) lawful;
  read = subst (λ (s : Scheduled). bytes ≡ schedule_text s) (sym same) read;
  run = subst (λ (s : Scheduled). IsReportOf s account.report) (sym same) run;
  of_one_run = of_one_run;
}
